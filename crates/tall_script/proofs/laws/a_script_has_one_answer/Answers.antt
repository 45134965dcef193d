use Rattle.tall_script.proofs.OneAnswer.{one_answer, one_allowance}
use Rattle.tall_script.proofs.laws.a_script_has_one_answer.Goals as goal

pub returns-clause-answer : goal.returns-clause-answer
returns-clause-answer c = one_answer

pub returns-clause-openings : goal.returns-clause-openings
returns-clause-openings c = one_allowance
