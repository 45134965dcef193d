use Rattle.std.proofs.Common.{rules, map, ◌∷◌, []}
use Rattle.tall_local.specs.Printing.{cell_text, row_line}
use Rattle.tall_dense.proofs.Lists.{get-map, get_here}
use Rattle.tall_print.specs.Appended.{Begins}
use Rattle.tall_print.proofs.Appending.{begun_more, more_lines}
use Rattle.tall_print.proofs.lines.push_rows.Goals as goal

pub returns-in_err-push_row : goal.returns-in_err-push_row
returns-in_err-push_row g c =
    let begins : Begins c.args.text.now.items c.push_row.new.text.items = begun_more _ _ _ _ c.loop-item.invariant c.in_err-push_row.ensures in
    search (rules, begins)

pub loop-item-preserved : goal.loop-item-preserved
loop-item-preserved g c =
    more_lines (λ x. row_line (cell_text x ∷ [])) (map g.T.Operand.shown c.args.items.now) c.loop-item.item-index _ _ _ _ (get-map g.T.Operand.shown c.args.items.now c.loop-item.item-index c.item-item.result (get_here c.args.items.now c.loop-item.item-index c.item-item.result c.loop-item-test.true c.item-item.is))
    c.loop-item.invariant c.in_ok-push_row.ensures
