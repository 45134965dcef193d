use Rattle.std.proofs.Common.{◌∙◌}
use Rattle.tall_memory.proofs.FormLemmas.{idivide_with}
use Rattle.tall_memory.proofs.applications.quotients.Goals as goal

pub returns-in-Some : goal.returns-in-Some
returns-in-Some c = c.quotient.ensures ∙ idivide_with _ _ _ _ c.in-Some.ensures
