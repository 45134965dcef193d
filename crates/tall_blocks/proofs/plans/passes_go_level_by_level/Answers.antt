use Rattle.tall_blocks.proofs.LevelWorkLaws.{plan_in_order, collected_is, collected_work}
use Rattle.tall_blocks.proofs.plans.passes_go_level_by_level.Goals as goal

pub returns-clause-order : goal.returns-clause-order
returns-clause-order c = plan_in_order

pub returns-clause-collected : goal.returns-clause-collected
returns-clause-collected c = collected_is

pub returns-clause-of_work : goal.returns-clause-of_work
returns-clause-of_work c = collected_work
