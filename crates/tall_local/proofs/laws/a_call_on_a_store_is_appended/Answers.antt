use Rattle.tall_local.proofs.CallsAppended.{call_appended}
use Rattle.tall_local.proofs.laws.a_call_on_a_store_is_appended.Goals as goal

pub returns : goal.returns
returns c = call_appended
