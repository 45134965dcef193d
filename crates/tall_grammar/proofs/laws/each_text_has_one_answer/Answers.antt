use Rattle.tall_grammar.proofs.Enough.{tokens_answered, verdict_answered, some_answer, answer_alone}
use Rattle.tall_grammar.proofs.laws.each_text_has_one_answer.Goals as goal

pub returns-clause-lasts : goal.returns-clause-lasts
returns-clause-lasts c = tokens_answered

pub returns-clause-found : goal.returns-clause-found
returns-clause-found c = verdict_answered

pub returns-clause-some : goal.returns-clause-some
returns-clause-some c = some_answer

pub returns-clause-alone : goal.returns-clause-alone
returns-clause-alone c = answer_alone
