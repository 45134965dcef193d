use Rattle.std.specs.Prelude.{refl}
use Rattle.tall_answer.proofs.WordsAnswered.{as_asked, allowed_as_asked}
use Rattle.tall_answer.proofs.laws.workers_change_nothing.Goals as goal

pub returns-clause-script : goal.returns-clause-script
returns-clause-script c = λ files words others name workers more a e f h. as_asked files files words others _ _ a e f refl refl h

pub returns-clause-demo : goal.returns-clause-demo
returns-clause-demo c = λ files words others rows workers more a e f h. as_asked files files words others _ _ a e f refl refl h

pub returns-clause-openings : goal.returns-clause-openings
returns-clause-openings c = allowed_as_asked
