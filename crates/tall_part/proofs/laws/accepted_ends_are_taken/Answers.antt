use Rattle.tall_part.proofs.AcceptedLaws.{one_taken, two_taken}
use Rattle.tall_part.proofs.laws.accepted_ends_are_taken.Goals as goal

pub returns-clause-one : goal.returns-clause-one
returns-clause-one c = one_taken

pub returns-clause-two : goal.returns-clause-two
returns-clause-two c = two_taken
