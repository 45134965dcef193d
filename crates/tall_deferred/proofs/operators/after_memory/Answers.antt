-- Each arm is the word's case.
use Rattle.tall_local.specs.MemoryOperators.{memory_binary}
use Rattle.tall_memory.specs.Values.{ref_seen}
use Rattle.tall_deferred.proofs.operators.after_memory.Goals as goal

pub returns-in-Memory-clause-given : goal.returns-in-Memory-clause-given
returns-in-Memory-clause-given c columns f m = rw c.in-Memory.is (c.in_memory.ensures.given f (memory_binary c.args.op (ref_seen c.args.v.now) (ref_seen c.in-Memory.w)) c.memory_binary.ensures)

pub returns-in-Tall-clause-given : goal.returns-in-Tall-clause-given
returns-in-Tall-clause-given c columns f m = rw c.in-Tall.is (c.memory_and_tall.ensures.given columns f m)
