-- Each arm is the word's case.
use Rattle.std.specs.Prelude.{Some}
use Rattle.tall_local.specs.Arguments.{all_variables_at}
use Rattle.tall_local.specs.MemoryIndexing.{memory_index}
use Rattle.std.proofs.Common.{subst}
use Rattle.tall_memory.specs.Values.{Gives, ref_seen}
use Rattle.tall_deferred.proofs.indexes.memory_table_rows.Goals as goal

pub returns-in-Memory-clause-given : goal.returns-in-Memory-clause-given
returns-in-Memory-clause-given c at columns f m =
    rw c.in-Memory.is (c.in_memory.ensures.given f (memory_index (ref_seen c.args.v.now) (Some (all_variables_at (ref_seen c.in-Memory.i))))
    (subst (λ i. Gives (memory_index (ref_seen c.args.v.now) (Some (all_variables_at i))) c.memory_index.result) c.lent_again.ensures c.memory_index.ensures))

pub returns-in-Tall-clause-given : goal.returns-in-Tall-clause-given
returns-in-Tall-clause-given c at columns f m = rw c.in-Tall.is (c.tall_rows_of_table.ensures at columns f m)
