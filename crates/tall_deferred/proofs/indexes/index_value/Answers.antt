-- Each arm is the word's case.
use Rattle.tall_deferred.specs.Values.{at_seen}
use Rattle.tall_deferred.proofs.indexes.index_value.Goals as goal

pub returns-in-Memory-clause-given : goal.returns-in-Memory-clause-given
returns-in-Memory-clause-given c columns f m = rw c.in-Memory.is (c.index_of_memory.ensures.given (at_seen c.args.at) columns f m)

pub returns-in-Tall-clause-given : goal.returns-in-Tall-clause-given
returns-in-Tall-clause-given c columns f m = rw c.in-Tall.is (c.index_of_tall.ensures.given columns f m)

pub returns-in-Table-clause-given : goal.returns-in-Table-clause-given
returns-in-Table-clause-given c columns f m = rw c.in-Table.is (c.index_of_table.ensures.given columns f m)
