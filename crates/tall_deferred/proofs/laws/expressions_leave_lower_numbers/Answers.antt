-- What is added has the number of its expression.
use Rattle.tall_deferred.proofs.TurnLaws.{extended_at_most, next_lower}
use Rattle.tall_deferred.proofs.laws.expressions_leave_lower_numbers.Goals as goal

pub returns : goal.returns
returns c = record { added = extended_at_most; next = next_lower }
