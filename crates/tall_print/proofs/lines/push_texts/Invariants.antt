use Rattle.std.specs.List.{flat_map}
use Rattle.std.proofs.Common.{◌≡◌, ◌++◌, ◌∷◌, [], take, map}
use Rattle.tall_value.specs.Cells.{text}
use Rattle.tall_local.specs.Printing.{cell_text, row_line}
use Rattle.tall_print.proofs.lines.push_texts.Given as goal

abbrev pub invariant-loop-row : goal.invariant-loop-row
invariant-loop-row l = l.text.items ≡ l.initial.text.items ++ flat_map (λ c. row_line (cell_text c ∷ [])) (take l.row (map (λ s. text s) l.texts))
