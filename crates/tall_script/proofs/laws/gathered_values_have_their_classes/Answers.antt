use Rattle.tall_script.proofs.GatheredClasses.{gathered_class}
use Rattle.tall_script.proofs.laws.gathered_values_have_their_classes.Goals as goal

pub returns : goal.returns
returns c = gathered_class
