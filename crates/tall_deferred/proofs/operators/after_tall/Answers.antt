-- Each arm is the word's case.
use Rattle.tall_deferred.proofs.operators.after_tall.Goals as goal

pub returns-in-Memory-clause-given : goal.returns-in-Memory-clause-given
returns-in-Memory-clause-given c columns f m = rw c.in-Memory.is (c.tall_and_memory.ensures.given columns f m)

pub returns-in-Tall-clause-given : goal.returns-in-Tall-clause-given
returns-in-Tall-clause-given c columns f m = rw c.in-Tall.is (c.deferring.ensures.given columns f m)
