-- Worked values of the first and the last rows, which keep their numbers, and of a cell at an index.
use Rattle.std.specs.Prelude.{◌≡◌, refl, pos, negsuc, Some, None, List, [], ◌∷◌, ℕ}
use Rattle.tall_value.specs.Cells.{Seen, double}
use Rattle.tall_value.specs.Columns.{cells}
use Rattle.tall_value.specs.Ends.{first_rows, last_rows}
use Rattle.tall_value.specs.Index.{cell_at}

-- three rows that a filter kept: 6, NaN, 8 at the rows 2, 3 and 5
abbrev rows : List (ℕ × Seen)
rows = (2, double (Some (pos 6))) ∷ (3, double None) ∷ (5, double (Some (pos 8))) ∷ []

-- head(x, 2)
first_two : first_rows 2 rows ≡ (2, double (Some (pos 6))) ∷ (3, double None) ∷ []
first_two = refl

-- tail(x, 2)
last_two : last_rows 2 rows ≡ (3, double None) ∷ (5, double (Some (pos 8))) ∷ []
last_two = refl

-- head(x), of 8 rows by default, of three
first_of_few : first_rows 8 rows ≡ rows
first_of_few = refl

-- tail(x), of 8 rows by default, of three
last_of_few : last_rows 8 rows ≡ rows
last_of_few = refl

-- head(x, 3)
all_first : first_rows 3 rows ≡ rows
all_first = refl

-- tail(x, 3)
all_last : last_rows 3 rows ≡ rows
all_last = refl

-- head(x, 0)
first_none : first_rows 0 rows ≡ []
first_none = refl

-- tail(x, 0)
last_none : last_rows 0 rows ≡ []
last_none = refl

-- tail(x, 2) of no rows
last_of_nothing : last_rows {R = Seen} 2 [] ≡ []
last_of_nothing = refl

-- ---- a cell at an index

-- x(1)
cell_at_one : cell_at (Some (pos 1)) (cells rows) ≡ Some (double (Some (pos 6)))
cell_at_one = refl

-- x(3)
cell_at_the_last : cell_at (Some (pos 3)) (cells rows) ≡ Some (double (Some (pos 8)))
cell_at_the_last = refl

-- x(0) is out of range
no_cell_at_zero : cell_at (Some (pos 0)) (cells rows) ≡ None
no_cell_at_zero = refl

-- x(4) is out of range
no_cell_beyond : cell_at (Some (pos 4)) (cells rows) ≡ None
no_cell_beyond = refl

-- x(-1) is out of range
no_cell_below : cell_at (Some (negsuc 0)) (cells rows) ≡ None
no_cell_below = refl

-- x(NaN) is out of range
no_cell_at_nan : cell_at None (cells rows) ≡ None
no_cell_at_nan = refl
