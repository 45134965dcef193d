use Rattle.tall_semantics.proofs.OriginLaws.{value_least, roots_least}
use Rattle.tall_semantics.proofs.laws.a_fault_is_the_least_own_fault.Goals as goal

pub returns-clause-value : goal.returns-clause-value
returns-clause-value c = value_least

pub returns-clause-roots : goal.returns-clause-roots
returns-clause-roots c = roots_least
