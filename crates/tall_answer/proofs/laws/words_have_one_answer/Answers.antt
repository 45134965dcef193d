use Rattle.tall_answer.proofs.WordsAnswered.{words_answered, words_allowed}
use Rattle.tall_answer.proofs.laws.words_have_one_answer.Goals as goal

pub returns-clause-answer : goal.returns-clause-answer
returns-clause-answer c = words_answered

pub returns-clause-openings : goal.returns-clause-openings
returns-clause-openings c = words_allowed
