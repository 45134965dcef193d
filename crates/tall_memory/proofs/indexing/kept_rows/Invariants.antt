use Rattle.std.proofs.Common.{◌≡◌, take}
use Rattle.tall_column.specs.Columns.{rows_kept}
use Rattle.tall_local.specs.Names.{each_named}
use Rattle.tall_memory.proofs.indexing.kept_rows.Given as goal

abbrev pub invariant-loop-i : goal.invariant-loop-i
invariant-loop-i l = l.kept ≡ each_named (λ x. rows_kept x l.mask) (take l.i l.t)
