use Rattle.tall_semantics.proofs.TreeLaws.{one_shape, one_value}
use Rattle.tall_semantics.proofs.laws.equal_trees_have_equal_values.Goals as goal

pub returns-clause-shapes : goal.returns-clause-shapes
returns-clause-shapes c = one_shape

pub returns-clause-values : goal.returns-clause-values
returns-clause-values c = one_value
