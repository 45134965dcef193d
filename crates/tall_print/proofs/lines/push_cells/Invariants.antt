use Rattle.std.proofs.Common.{◌≡◌, ◌++◌, take, map}
use Rattle.tall_local.specs.Printing.{cell_text, spaced}
use Rattle.tall_print.specs.Rows.{cells_at}
use Rattle.tall_print.proofs.lines.push_cells.Given as goal

abbrev pub invariant-loop-place : goal.invariant-loop-place
invariant-loop-place l = l.text.items ≡ l.initial.text.items ++ spaced (take l.place (map cell_text (cells_at l.row l.table)))
