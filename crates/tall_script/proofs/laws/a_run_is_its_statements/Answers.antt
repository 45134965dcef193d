use Rattle.tall_script.proofs.RunSteps.{run_is}
use Rattle.tall_script.proofs.laws.a_run_is_its_statements.Goals as goal

pub returns : goal.returns
returns c = run_is
