-- Each arm is the word's case.
use Rattle.tall_deferred.proofs.indexes.index_of_table.Goals as goal

pub returns-in-AllVariables-clause-given : goal.returns-in-AllVariables-clause-given
returns-in-AllVariables-clause-given c columns f m = rw c.in-AllVariables.is (c.tall_table_index.ensures.given columns f m)
