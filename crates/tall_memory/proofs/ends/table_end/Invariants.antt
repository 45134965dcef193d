use Rattle.std.proofs.Common.{◌≡◌, take}
use Rattle.tall_local.specs.MemoryFunctions.{with_cells}
use Rattle.tall_local.specs.Names.{each_named}
use Rattle.tall_memory.specs.Ends.{end_rows}
use Rattle.tall_memory.proofs.ends.table_end.Given as goal

abbrev pub invariant-loop-i : goal.invariant-loop-i
invariant-loop-i l = l.end ≡ each_named (with_cells (end_rows l.last l.k)) (take l.i l.t)
