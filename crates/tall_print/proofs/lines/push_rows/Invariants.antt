use Rattle.std.specs.List.{flat_map}
use Rattle.std.proofs.Common.{◌≡◌, ◌++◌, ◌∷◌, [], take, map}
use Rattle.tall_local.specs.Printing.{cell_text, row_line}
use Rattle.tall_print.proofs.lines.push_rows.Given as goal

abbrev pub invariant-loop-item : goal.invariant-loop-item
invariant-loop-item g l = l.text.items ≡ l.initial.text.items ++ flat_map (λ c. row_line (cell_text c ∷ [])) (take l.item-index (map g.T.Operand.shown l.items))
