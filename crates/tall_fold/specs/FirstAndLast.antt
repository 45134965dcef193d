-- The first or the last rows of a list, kept while rows come.
use Rattle.std.specs.Prelude.{◌≡◌, ℕ, ◌≤◌, Bool, true, false, List, [], ◌∷◌, ◌++◌, length, map}
use Rattle.tall_value.specs.declared.class.Class.{Class}
use Rattle.tall_value.specs.Cells.{Seen}
use Rattle.tall_value.specs.Ends.{first_rows, last_rows}
use Rattle.tall_dense.specs.Columns.{SeenColumn}
use Rattle.tall_fold.specs.declared.pairs.Pairs.{Pairs}

-- the first or the last rows, so many or all
abbrev pub ends_of : (last : Bool) (most : ℕ) → List (ℕ × Seen) → List (ℕ × Seen)
ends_of true most rows = last_rows most rows
ends_of false most rows = first_rows most rows

-- which end it is, how many rows are kept at most, their class, and the rows
pub record SeenEnds : Type 0 where
  pub last : Bool
  pub most : ℕ
  pub class : Class
  pub rows : List (ℕ × Seen)

-- the ends of the rows so far and then some more
abbrev pub with_rows : SeenEnds → List (ℕ × Seen) → SeenEnds
with_rows e rows = record { last = e.last; most = e.most; class = e.class; rows = ends_of e.last e.most (e.rows ++ rows) }

-- the column of the cells of rows
abbrev pub column_of : Class → List (ℕ × Seen) → SeenColumn
column_of class rows = record { class = class; cells = map (λ (r : ℕ × Seen). r.1) rows }

-- ---- numbers and cells, kept apart

abbrev pub paired : List ℕ → List Seen → List (ℕ × Seen)
paired [] cs = []
paired (n ∷ ns) [] = []
paired (n ∷ ns) (c ∷ cs) = (n, c) ∷ paired ns cs

abbrev pub rows_of : Pairs → List (ℕ × Seen)
rows_of p = paired p.numbers.items p.cells.cells

abbrev pub AreEven : Pairs → Type 0
AreEven p = length p.numbers.items ≡ length p.cells.cells

-- the first rows are at most so many
abbrev pub IsWithin : Bool → (most count : ℕ) → Type 0
IsWithin true most count = Unit {0}
IsWithin false most count = count ≤ most

pub record AreKept (last : Bool) (most : ℕ) (p : Pairs) : Type 0 where
  pub even : AreEven p
  pub within : IsWithin last most (length p.numbers.items)
