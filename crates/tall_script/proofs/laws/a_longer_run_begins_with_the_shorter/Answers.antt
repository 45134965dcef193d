use Rattle.tall_script.proofs.RunSteps.{longer, begins_longer}
use Rattle.tall_script.proofs.laws.a_longer_run_begins_with_the_shorter.Goals as goal

pub returns-clause-continued : goal.returns-clause-continued
returns-clause-continued c = longer

pub returns-clause-text : goal.returns-clause-text
returns-clause-text c = begins_longer
