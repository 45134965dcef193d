use Rattle.std.proofs.Common.{◌∙◌}
use Rattle.tall_memory.proofs.FormLemmas.{sum_alone, sum_with_three}
use Rattle.tall_memory.proofs.applications.sums.Goals as goal

pub returns-in-Some : goal.returns-in-Some
returns-in-Some c = c.sum_by_both.ensures ∙ sum_with_three _ _ _ _ c.in-Some.ensures

pub returns-in-None-both : goal.returns-in-None-both
returns-in-None-both c = c.on_one.ensures ∙ sum_alone _ c.in-None.ensures c.in-None-both.ensures
