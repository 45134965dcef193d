use Rattle.tall_grammar.proofs.Telling.{said_alone, said_tells}
use Rattle.tall_grammar.proofs.laws.the_reader_tells_the_answer.Goals as goal

pub returns-clause-told : goal.returns-clause-told
returns-clause-told c = said_tells

pub returns-clause-alone : goal.returns-clause-alone
returns-clause-alone c = said_alone
