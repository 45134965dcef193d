use Rattle.tall_local.proofs.FunctionStops.{call_faults}
use Rattle.tall_local.proofs.laws.functions_have_the_faults_of_their_list.Goals as goal

pub returns-clause-map : goal.returns-clause-map
returns-clause-map c f block pairs = call_faults f _ _ pairs

pub returns-clause-reduce : goal.returns-clause-reduce
returns-clause-reduce c f key key_values pairs = call_faults f _ _ pairs
