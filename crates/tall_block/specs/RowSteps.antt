-- The number of a row, told by going back from a node's column to the variable that its rows come from.
use Rattle.std.specs.Prelude.{◌≡◌, ◌<◌, ℕ, zero, suc, Bool, true, false, Option, None, Some, List, [], ◌∷◌, ◌++◌, length, option_map}
use Rattle.std.specs.HashMap.{HashMap}
use Rattle.tall_value.specs.Cells.{Seen}
use Rattle.tall_value.specs.Filters.{is_true}
use Rattle.tall_dense.specs.Columns.{SeenColumn}
use Rattle.tall_semantics.specs.Outcomes.{Outcome, rows_in}
use Rattle.tall_semantics.specs.Deferred.{Vertex, IsAmong}
use Rattle.tall_blocks.specs.RowPlaces.{row_number_at}
use Rattle.tall_block.specs.declared.numbers.Back.{Back}
use Rattle.tall_block.specs.declared.numbers.Back.TheVariants as back
use Rattle.tall_block.specs.OfBlocks.{IsThere}

abbrev pub next_found : Bool → ℕ → (ℕ → Option ℕ) → Option ℕ
next_found true zero rest = Some 0
next_found true (suc k) rest = option_map (λ n. suc n) (rest k)
next_found false k rest = option_map (λ n. suc n) (rest k)

-- the place of the row that a mask keeps as its k-th from 0, where it keeps so many
abbrev pub found_kept : (mask : List Seen) → (k : ℕ) → Option ℕ
found_kept [] k = None
found_kept (m ∷ mask) k = next_found (is_true m) k (found_kept mask)

-- a row of a node of the work, whose column is there
pub record IsRow {S : Type 0} (vs : List Vertex) (table : List (List ℕ × SeenColumn)) (made : HashMap ℕ SeenColumn S) (work : List ℕ) (h : ℕ → Outcome) (i place : ℕ) : Type 0 where
  pub among : IsAmong work i
  pub there : IsThere vs table made i
  pub within : place < length (rows_in (h i))

-- the number of the row, or the row of a node before that has this number
abbrev pub IsBack : {S : Type 0} → List Vertex → List (List ℕ × SeenColumn) → HashMap ℕ SeenColumn S → (work : List ℕ) → (ℕ → Outcome) → (i place : ℕ) → Back → Type 0
IsBack vs table made work h i place (back.Number k) = k ≡ row_number_at (rows_in (h i)) place
IsBack vs table made work h i place (back.Of a k) = IsRow vs table made work h a k × (row_number_at (rows_in (h a)) k ≡ row_number_at (rows_in (h i)) place)
IsBack vs table made work h i place back.Lost = ⊥

abbrev pub IsOperandRow : (a : ℕ) → Back → Type 0
IsOperandRow a (back.Of b k) = b ≡ a
IsOperandRow a b = Unit {0}

abbrev pub IsBefore : (i : ℕ) → Back → Type 0
IsBefore i (back.Of a k) = a < i
IsBefore i b = Unit {0}

abbrev pub with_some : List ℕ → Option ℕ → List ℕ
with_some ns None = ns
with_some ns (Some n) = ns ++ n ∷ []
