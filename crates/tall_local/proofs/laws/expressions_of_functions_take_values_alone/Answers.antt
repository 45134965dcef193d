use Rattle.tall_local.proofs.LocalsKept.{takes_on}
use Rattle.tall_local.proofs.laws.expressions_of_functions_take_values_alone.Goals as goal

pub returns : goal.returns
returns c = takes_on
