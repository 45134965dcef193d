use Rattle.tall_local.proofs.CallsKept.{steps_go}
use Rattle.tall_local.proofs.laws.statements_of_functions_go_on.Goals as goal

pub returns : goal.returns
returns c = steps_go
