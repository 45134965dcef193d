use Rattle.tall_blocks.proofs.LevelWorkLaws.{plan_work, level_joined, rest_is, none_due, none_due_ranks}
use Rattle.tall_blocks.proofs.plans.the_work_of_a_pass_is_that_of_its_level.Goals as goal

pub returns-clause-work : goal.returns-clause-work
returns-clause-work c = plan_work

pub returns-clause-joined : goal.returns-clause-joined
returns-clause-joined c = level_joined

pub returns-clause-rest : goal.returns-clause-rest
returns-clause-rest c = rest_is

pub returns-clause-start : goal.returns-clause-start
returns-clause-start c = none_due

pub returns-clause-start_ranks : goal.returns-clause-start_ranks
returns-clause-start_ranks c = none_due_ranks
