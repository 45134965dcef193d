-- Each arm is the word's case.
use Rattle.tall_deferred.proofs.indexes.index_of_tall.Goals as goal

pub returns-in-Rows-clause-given : goal.returns-in-Rows-clause-given
returns-in-Rows-clause-given c columns f m = rw c.in-Rows.is (c.tall_column_index.ensures.given columns f m)
