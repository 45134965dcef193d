use Rattle.tall_value.proofs.KindLaws.{unary_class_law, binary_class_law}
use Rattle.tall_value.proofs.compute.results_have_their_class.Goals as goal

pub returns-clause-one : goal.returns-clause-one
returns-clause-one c = unary_class_law

pub returns-clause-two : goal.returns-clause-two
returns-clause-two c = binary_class_law
