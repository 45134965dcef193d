-- Each arm is the word's case.
use Rattle.tall_deferred.proofs.indexes.tall_table_index.Goals as goal

pub returns-in-Tall-clause-given : goal.returns-in-Tall-clause-given
returns-in-Tall-clause-given c columns f m = rw c.in-Tall.is (c.kept_table.ensures.given columns f m)

pub returns-in-Memory-clause-given : goal.returns-in-Memory-clause-given
returns-in-Memory-clause-given c columns f m = rw c.in-Memory.is c.memory_index_of_tall.ensures
