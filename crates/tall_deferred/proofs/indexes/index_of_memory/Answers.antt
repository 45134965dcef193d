-- Each arm is the word's case.
use Rattle.tall_deferred.proofs.indexes.index_of_memory.Goals as goal

pub returns-in-Rows-clause-given : goal.returns-in-Rows-clause-given
returns-in-Rows-clause-given c at columns f m = rw c.in-Rows.is (c.memory_rows.ensures.given at columns f m)

pub returns-in-AllVariables-clause-given : goal.returns-in-AllVariables-clause-given
returns-in-AllVariables-clause-given c at columns f m = rw c.in-AllVariables.is (c.memory_table_rows.ensures.given at columns f m)
