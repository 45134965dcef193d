-- Functions that need all rows of a value, from its rows of each block in order: what is kept so far goes on with the next
-- block, and no block is looked at again.
use Rattle.std.specs.Prelude.{◌≡◌, ℕ, Bool, List, [], ◌∷◌, ◌++◌, length}
use Rattle.tall_value.specs.Cells.{Seen}
use Rattle.tall_value.specs.Distinct.{distinct}
use Rattle.tall_value.specs.Ends.{first_rows, last_rows}
use Rattle.tall_semantics.specs.Outcomes.{Outcome, rows_in, cells_in}
use Rattle.tall_blocks.specs.Carries.{Rows}
use Rattle.tall_blocks.specs.Folds.{Fold, Kept, more}
use Rattle.tall_value.specs.Reductions.{used}
use Rattle.tall_blocks.specs.GroupsOver.{Groups, groups_more}

-- the values at i and j have equally many rows in each block
abbrev pub AreAsLong : List (ℕ → Outcome) → (i j : ℕ) → Type 0
AreAsLong [] i j = Unit {0}
AreAsLong (h ∷ hs) i j = (length (rows_in (h i)) ≡ length (rows_in (h j))) × AreAsLong hs i j

-- of the value at i
abbrev pub kept_of_blocks : (g : Fold) (passes_nan : Bool) → Kept g → List (ℕ → Outcome) → (i : ℕ) → Kept g
kept_of_blocks g passes_nan s [] i = s
kept_of_blocks g passes_nan s (h ∷ hs) i = kept_of_blocks g passes_nan (more g s (used passes_nan (cells_in (h i)))) hs i

abbrev pub first_of_blocks : (k : ℕ) → Rows → List (ℕ → Outcome) → (i : ℕ) → Rows
first_of_blocks k rs [] i = rs
first_of_blocks k rs (h ∷ hs) i = first_of_blocks k (first_rows k (rs ++ rows_in (h i))) hs i

abbrev pub last_of_blocks : (k : ℕ) → Rows → List (ℕ → Outcome) → (i : ℕ) → Rows
last_of_blocks k rs [] i = rs
last_of_blocks k rs (h ∷ hs) i = last_of_blocks k (last_rows k (rs ++ rows_in (h i))) hs i

abbrev pub distinct_of_blocks : List Seen → List (ℕ → Outcome) → (i : ℕ) → List Seen
distinct_of_blocks cs [] i = cs
distinct_of_blocks cs (h ∷ hs) i = distinct_of_blocks (distinct (cs ++ cells_in (h i))) hs i

-- of the key at i and the data at j
abbrev pub groups_of_blocks : (g : Fold) (passes_nan : Bool) → Groups g → List (ℕ → Outcome) → (i j : ℕ) → Groups g
groups_of_blocks g passes_nan es [] i j = es
groups_of_blocks g passes_nan es (h ∷ hs) i j = groups_of_blocks g passes_nan (groups_more g passes_nan es (cells_in (h i)) (cells_in (h j))) hs i j
