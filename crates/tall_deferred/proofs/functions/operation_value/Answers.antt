-- Each arm is the word's case.
use Rattle.tall_local.specs.MemoryFunctions.{memory_operation}
use Rattle.tall_memory.specs.Shapes.{operation_seen}
use Rattle.tall_memory.specs.Values.{ref_seen}
use Rattle.tall_deferred.specs.Values.{at_seen}
use Rattle.tall_deferred.proofs.FormLaws.{no_datastore}
use Rattle.tall_deferred.proofs.functions.operation_value.Goals as goal

pub returns-in-Memory-clause-given : goal.returns-in-Memory-clause-given
returns-in-Memory-clause-given c columns f m = rw c.in-Memory.is (c.in_memory.ensures.given f (memory_operation (operation_seen c.args.op.now) (ref_seen c.in-Memory.v)) c.memory_operation.ensures)

pub returns-in-Tall-clause-given : goal.returns-in-Tall-clause-given
returns-in-Tall-clause-given c columns f m = rw c.in-Tall.is (c.tall_operation.ensures.given columns f m)

pub returns-in-Table-clause-given : goal.returns-in-Table-clause-given
returns-in-Table-clause-given c columns f m = rw c.in-Table.is (c.table_operation.ensures.given columns f m)

pub returns-in-Datastore-clause-given : goal.returns-in-Datastore-clause-given
returns-in-Datastore-clause-given c columns f m = rw c.in-Datastore.is (no_datastore (at_seen c.args.at) (operation_seen c.args.op.now) c.in-Datastore.field-0)
