-- The cells of one row of a table, and what stands between neighbours.
use Rattle.std.specs.Prelude.{ℕ, zero, suc, codes, List, [], map, get_or}
use Rattle.tall_value.specs.Cells.{Seen, text}
use Rattle.tall_column.specs.Columns.{SeenColumn}

-- the cell of a row, counted from 0; of a row that the column has
abbrev pub cell_in : ℕ → (List ℕ × SeenColumn) → Seen
cell_in row entry = get_or entry.1.cells row (text [])

abbrev pub cells_at : ℕ → List (List ℕ × SeenColumn) → List Seen
cells_at row entries = map (cell_in row) entries

-- in front of the part at a place, counted from 0: two blanks, but for the first
abbrev pub gap : ℕ → List ℕ
gap zero = []
gap (suc n) = codes "  "
