use Rattle.tall_semantics.proofs.EqualityLaws.{ops_decided, trees_decided, spaces_decided}
use Rattle.tall_semantics.proofs.laws.tests_mean_equality.Goals as goal

pub returns-clause-operations : goal.returns-clause-operations
returns-clause-operations c = ops_decided

pub returns-clause-trees : goal.returns-clause-trees
returns-clause-trees c = trees_decided

pub returns-clause-spaces : goal.returns-clause-spaces
returns-clause-spaces c = spaces_decided
