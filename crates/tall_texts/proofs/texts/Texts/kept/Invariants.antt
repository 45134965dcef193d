use Rattle.std.proofs.Common.{◌≡◌, ◌++◌, map, drop}
use Rattle.tall_value.specs.Cells.{logical, text}
use Rattle.tall_value.specs.Filters.{kept}
use Rattle.tall_texts.proofs.texts.Texts.kept.Given as goal

abbrev pub invariant-loop-row : goal.invariant-loop-row
invariant-loop-row l =
    map (λ s. text s) l.out ++ kept (map (λ s. text s) (drop l.row l.self)) (map (λ b. logical b) (drop l.row l.mask))
    ≡ kept (map (λ s. text s) l.self) (map (λ b. logical b) l.mask)
