use Rattle.std.proofs.Common.{rules, map, ◌∷◌, []}
use Rattle.tall_value.specs.Cells.{text}
use Rattle.tall_local.specs.Printing.{cell_text, row_line}
use Rattle.tall_dense.proofs.Lists.{get-map}
use Rattle.tall_print.specs.Appended.{Begins}
use Rattle.tall_print.proofs.Appending.{begun_more, more_lines}
use Rattle.tall_print.proofs.lines.push_texts.Goals as goal

pub returns-in_err-push_text_row : goal.returns-in_err-push_text_row
returns-in_err-push_text_row c =
    let begins : Begins c.args.text.now.items c.push_text_row.new.text.items = begun_more _ _ _ _ c.loop-row.invariant c.in_err-push_text_row.ensures in
    search (rules, begins)

pub loop-row-preserved : goal.loop-row-preserved
loop-row-preserved c =
    more_lines (λ x. row_line (cell_text x ∷ [])) (map (λ s. text s) c.args.texts.now) c.loop-row.row _ _ _ _ (get-map (λ s. text s) c.args.texts.now c.loop-row.row _ c.get.ensures)
    c.loop-row.invariant c.in_ok-push_text_row.ensures
