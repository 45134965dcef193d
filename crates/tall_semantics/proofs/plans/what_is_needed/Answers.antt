use Rattle.tall_semantics.proofs.PlanLaws.{needed_under, needed_level, one_datastore}
use Rattle.tall_semantics.proofs.plans.what_is_needed.Goals as goal

pub returns-clause-under : goal.returns-clause-under
returns-clause-under c = needed_under

pub returns-clause-levels : goal.returns-clause-levels
returns-clause-levels c = needed_level

pub returns-clause-one_datastore : goal.returns-clause-one_datastore
returns-clause-one_datastore c = one_datastore
