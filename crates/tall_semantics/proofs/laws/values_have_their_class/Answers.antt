use Rattle.tall_semantics.proofs.ClassLaws.{value_class}
use Rattle.tall_semantics.proofs.laws.values_have_their_class.Goals as goal

pub returns : goal.returns
returns c = value_class
