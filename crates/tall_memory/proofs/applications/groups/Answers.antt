use Rattle.std.proofs.Common.{◌∙◌}
use Rattle.tall_memory.proofs.FormLemmas.{groups_with}
use Rattle.tall_memory.proofs.applications.groups.Goals as goal

pub returns-in-Some : goal.returns-in-Some
returns-in-Some c = c.groups_by.ensures ∙ groups_with _ _ _ _ _ c.in-Some.ensures
