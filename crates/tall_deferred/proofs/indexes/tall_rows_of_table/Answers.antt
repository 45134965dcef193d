-- Only a table has rows at a tall index beside `:`.
use Rattle.tall_deferred.proofs.indexes.tall_rows_of_table.Goals as goal

pub returns-in-Table : goal.returns-in-Table
returns-in-Table c at columns f m = rw c.in-Table.is (c.tall_index_of_memory.ensures columns f m)
