-- Columns as plain data: a class, and the list of the cells.
use Rattle.std.specs.Prelude.{ℕ, List, [], ◌∷◌, ◌++◌}
use Rattle.std.specs.List.{slice_range}
use Rattle.tall_value.specs.declared.class.Class.{Class}
use Rattle.tall_value.specs.Classes.{class_of}
use Rattle.tall_value.specs.Cells.{Seen, seen_kind}
use Rattle.tall_value.specs.Filters.{kept}

pub record SeenColumn : Type 0 where
  pub class : Class
  pub cells : List Seen

abbrev pub class_of_cell : Seen → Class
class_of_cell c = class_of (seen_kind c)

-- the column with one more cell at its end
abbrev pub with_cell : SeenColumn → Seen → SeenColumn
with_cell column c = record { class = column.class; cells = column.cells ++ c ∷ [] }

-- the rows of two columns, one after the other
abbrev pub followed_by : SeenColumn → SeenColumn → SeenColumn
followed_by column next = record { class = column.class; cells = column.cells ++ next.cells }

-- the rows from one row to before another, counted from 0
abbrev pub rows_between : SeenColumn → ℕ → ℕ → SeenColumn
rows_between column from to = record { class = column.class; cells = slice_range column.cells from to }

-- the rows that a mask keeps
abbrev pub rows_kept : SeenColumn → SeenColumn → SeenColumn
rows_kept column mask = record { class = column.class; cells = kept column.cells mask.cells }
