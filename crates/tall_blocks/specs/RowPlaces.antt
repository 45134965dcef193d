-- Places and numbers of rows. A function over the cells of a block counts rows from 0, where the rows of a value have
-- numbers of their own: those of their datastore, of which filters leave some out.
use Rattle.std.specs.Prelude.{ℕ, zero, suc, Bool, true, false, Ok, Err, List, [], ◌∷◌, map, get_or}
use Rattle.tall_value.specs.Cells.{Seen}
use Rattle.tall_value.specs.Filters.{is_true}
use Rattle.tall_blocks.specs.Carries.{Rows, RowsOrFault}

-- the number of the row at a place from 0
abbrev pub row_number_at : Rows → (place : ℕ) → ℕ
row_number_at rs place = get_or (map (λ (r : ℕ × Seen). r.0) rs) place 0

-- cells with the numbers of other rows, one for one
abbrev pub renumbered : Rows → Rows → Rows
renumbered [] others = []
renumbered (r ∷ rs) [] = []
renumbered (r ∷ rs) (o ∷ others) = (r.0, o.1) ∷ renumbered rs others

-- what was counted from 0, with the numbers of the rows
abbrev pub with_numbers : Rows → RowsOrFault → RowsOrFault
with_numbers rs (Ok others) = Ok (renumbered rs others)
with_numbers rs (Err e) = Err (row_number_at rs e.0, e.1)

abbrev pub next_place : Bool → ℕ → (ℕ → ℕ) → ℕ
next_place true zero rest = 0
next_place true (suc k) rest = suc (rest k)
next_place false k rest = suc (rest k)

-- the place of the row that a mask keeps as its k-th, from 0
abbrev pub kept_place : (mask : List Seen) → (k : ℕ) → ℕ
kept_place [] k = 0
kept_place (m ∷ mask) k = next_place (is_true m) k (kept_place mask)
