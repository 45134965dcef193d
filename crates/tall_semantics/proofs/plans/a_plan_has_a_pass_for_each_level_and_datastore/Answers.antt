use Rattle.tall_semantics.proofs.PlanLaws.{planned, carried, pass_work, within_share}
use Rattle.tall_semantics.proofs.plans.a_plan_has_a_pass_for_each_level_and_datastore.Goals as goal

pub returns-clause-computed : goal.returns-clause-computed
returns-clause-computed c = planned

pub returns-clause-scanned : goal.returns-clause-scanned
returns-clause-scanned c = carried

pub returns-clause-work : goal.returns-clause-work
returns-clause-work c = pass_work

pub returns-clause-passes : goal.returns-clause-passes
returns-clause-passes c = within_share
