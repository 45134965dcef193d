use Rattle.tall_grammar.proofs.OfBytes.{verdict_tells}
use Rattle.tall_grammar.proofs.laws.the_verdict_is_the_answer.Goals as goal

pub returns : goal.returns
returns c = verdict_tells
