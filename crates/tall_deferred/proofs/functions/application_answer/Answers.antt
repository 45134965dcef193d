-- Each arm is the word's case.
use Rattle.tall_deferred.proofs.functions.application_answer.Goals as goal

pub returns-in-Some-clause-given : goal.returns-in-Some-clause-given
returns-in-Some-clause-given c columns f m = rw c.in-Some.is (c.application_value.ensures.given columns f m)
