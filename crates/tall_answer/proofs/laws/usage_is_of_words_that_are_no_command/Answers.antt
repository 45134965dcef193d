use Rattle.tall_answer.proofs.WordsAnswered.{usage_of_none, none_of_usage}
use Rattle.tall_answer.proofs.laws.usage_is_of_words_that_are_no_command.Goals as goal

pub returns-clause-none : goal.returns-clause-none
returns-clause-none c = usage_of_none

pub returns-clause-only : goal.returns-clause-only
returns-clause-only c = none_of_usage
