-- Each arm is the word's case.
use Rattle.tall_local.specs.MemoryOperators.{memory_unary}
use Rattle.tall_memory.specs.Values.{ref_seen}
use Rattle.tall_deferred.proofs.operators.unary_value.Goals as goal

pub returns-in-Memory-clause-given : goal.returns-in-Memory-clause-given
returns-in-Memory-clause-given c columns f m = rw c.in-Memory.is (c.in_memory.ensures.given f (memory_unary c.args.op (ref_seen c.in-Memory.v)) c.memory_unary.ensures)

pub returns-in-Tall-clause-given : goal.returns-in-Tall-clause-given
returns-in-Tall-clause-given c columns f m = rw c.in-Tall.is (c.deferring.ensures.given columns f m)
