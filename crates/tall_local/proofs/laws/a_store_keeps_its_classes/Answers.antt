use Rattle.tall_local.proofs.CallsKept.{call_has_one_class}
use Rattle.tall_local.proofs.laws.a_store_keeps_its_classes.Goals as goal

pub returns : goal.returns
returns c = call_has_one_class
