-- The first and the last rows, in order: k of them, or all. MathWorks, head, tail.
use Rattle.std.specs.Prelude.{ℕ, ◌-◌, List, length, take, drop}

abbrev pub first_rows : {R : Type 0} → ℕ → List R → List R
first_rows k rows = take k rows

abbrev pub last_rows : {R : Type 0} → ℕ → List R → List R
last_rows k rows = drop (length rows - k) rows
