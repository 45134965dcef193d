-- One cell of a column in memory, by a double that is a position from 1 to the column's length. None at any other number
-- and at NaN, where the index is out of range.
use Rattle.std.specs.Prelude.{ℤ, pos, ◌-◌, ◌==◌, if◌then◌else◌, Option, None, Some, List}
use Rattle.std.specs.List.{slice_get}
use Rattle.tall_value.specs.Cells.{Seen}

abbrev pub cell_at : Option ℤ → List Seen → Option Seen
cell_at (Some (pos n)) cs = if n == 0 then None else slice_get cs (n - 1)
cell_at k cs = None
