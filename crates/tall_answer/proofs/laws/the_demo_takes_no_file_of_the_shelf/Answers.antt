use Rattle.std.specs.Prelude.{refl}
use Rattle.tall_answer.proofs.WordsAnswered.{as_asked, demo_opens_nothing}
use Rattle.tall_answer.proofs.laws.the_demo_takes_no_file_of_the_shelf.Goals as goal

pub returns-clause-answer : goal.returns-clause-answer
returns-clause-answer c = λ files others words rows workers a e h. as_asked files others words words _ _ a e e refl refl h

pub returns-clause-openings : goal.returns-clause-openings
returns-clause-openings c = demo_opens_nothing
