use Rattle.std.proofs.Common.{rules, arith, refl, map}
use Rattle.tall_local.specs.Printing.{cell_text, row_line, table_rows}
use Rattle.tall_print.specs.Appended.{Begins}
use Rattle.tall_print.proofs.Appending.{begun_more, joined, more_lines, all_lines}
use Rattle.tall_print.proofs.Tables.{row_of_table, rows_are_as_many}
use Rattle.tall_print.proofs.lines.push_table.Goals as goal

pub returns-in_err-push_table_row : goal.returns-in_err-push_table_row
returns-in_err-push_table_row c =
    let begins : Begins c.args.text.now.items c.push_table_row.new.text.items =
    begun_more _ _ _ _ c.in_ok-push_head_line.ensures (begun_more _ _ _ _ c.loop-row.invariant c.in_err-push_table_row.ensures) in
    search (rules, begins)

pub loop-row-preserved : goal.loop-row-preserved
loop-row-preserved c =
    more_lines (λ row. row_line (map cell_text row)) (table_rows c.args.table.now) c.loop-row.row _ _ _ _ (row_of_table c.args.table.now c.loop-row.row c.height-row-end.ensures.table (search rules))
    c.loop-row.invariant c.in_ok-push_table_row.ensures

pub returns : goal.returns
returns c =
    joined _ _ _ _ _ _ c.in_ok-push_head_line.ensures
    (all_lines (λ row. row_line (map cell_text row)) (table_rows c.args.table.now) c.loop-row.row _ _
    (omega (arith, rows_are_as_many c.args.table.now c.height-row-end.ensures.table, c.height-row-end.ensures.height, c.loop-row-test.false)) c.loop-row.invariant)
    refl
