use Rattle.std.proofs.Common.{◌∙◌, ◌+◌, ◌++◌, ◌∷◌, [], List, ℕ, ap}
use Rattle.tall_part.proofs.FinishLaws.{one_number_more}
use Rattle.tall_part.proofs.finishes.numbers_from_one.Goals as goal

pub loop-at-preserved : goal.loop-at-preserved
loop-at-preserved c = c.in_ok-push.ensures.items ∙ ap (λ (l : List ℕ). l ++ (c.loop-at.at + 1) ∷ []) c.loop-at.invariant ∙ one_number_more c.loop-at.at
