-- Only a column has rows at a tall index.
use Rattle.tall_deferred.proofs.indexes.tall_rows_of_memory.Goals as goal

pub returns-in-Column : goal.returns-in-Column
returns-in-Column c at columns f m = rw c.in-Column.is (c.tall_index_of_memory.ensures columns f m)
