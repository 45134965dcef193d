-- The first rows, or the last.
use Rattle.std.specs.Prelude.{ℕ, Bool, true, false, List}
use Rattle.tall_value.specs.Cells.{Seen}
use Rattle.tall_value.specs.Ends.{first_rows, last_rows}

abbrev pub end_rows : (last : Bool) → ℕ → List Seen → List Seen
end_rows false k rows = first_rows k rows
end_rows true k rows = last_rows k rows
