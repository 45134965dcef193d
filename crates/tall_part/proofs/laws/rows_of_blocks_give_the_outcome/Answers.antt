use Rattle.tall_part.proofs.OutcomeLaws.{one_outcome, two_outcome}
use Rattle.tall_part.proofs.laws.rows_of_blocks_give_the_outcome.Goals as goal

pub returns-clause-one : goal.returns-clause-one
returns-clause-one c = one_outcome

pub returns-clause-two : goal.returns-clause-two
returns-clause-two c = two_outcome
