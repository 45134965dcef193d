use Rattle.tall_script.proofs.OpeningsKept.{quiet_statement}
use Rattle.tall_script.proofs.laws.other_statements_open_nothing.Goals as goal

pub returns : goal.returns
returns c = quiet_statement
