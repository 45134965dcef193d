use Rattle.std.proofs.Common.{map, arith}
use Rattle.tall_local.specs.Printing.{cell_text}
use Rattle.tall_print.specs.Rows.{cells_at}
use Rattle.tall_print.proofs.Appending.{more_spaced}
use Rattle.tall_print.proofs.Tables.{cell_here, has_row}
use Rattle.tall_print.proofs.lines.push_cells.Goals as goal

pub get-requires : goal.get-requires
get-requires c = omega (arith, c.requires, has_row _ c.args.table.now c.loop-place.place c.at.result.now c.width-place-end.ensures.table.one_height c.at.ensures)

pub loop-place-preserved : goal.loop-place-preserved
loop-place-preserved c =
    more_spaced (map cell_text (cells_at c.args.row c.args.table.now)) c.loop-place.place _ _ _ _ _
    (cell_here cell_text c.args.table.now c.loop-place.place c.args.row c.at.result.now _ c.at.ensures c.get.ensures.cell)
    c.loop-place.invariant c.in_ok-push_gap.ensures c.in_ok-push_cell.ensures
