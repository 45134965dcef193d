use Rattle.std.specs.List.{flat_map}
use Rattle.std.proofs.Common.{◌≡◌, ◌++◌, take, map}
use Rattle.tall_local.specs.Printing.{cell_text, row_line, table_rows}
use Rattle.tall_print.proofs.lines.push_table.Given as goal

abbrev pub invariant-loop-row : goal.invariant-loop-row
invariant-loop-row l = l.text.items ≡ l.initial.text.items ++ flat_map (λ row. row_line (map cell_text row)) (take l.row (table_rows l.table))
