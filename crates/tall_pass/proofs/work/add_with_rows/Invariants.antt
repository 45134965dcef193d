use Rattle.std.proofs.Common.{◌≡◌, ◌++◌, filter, take}
use Rattle.tall_pass.specs.Work.{has_rows_of}
use Rattle.tall_pass.proofs.work.add_with_rows.Given as goal

abbrev pub invariant-loop-n : goal.invariant-loop-n
invariant-loop-n l = l.found.items ≡ l.initial.found.items ++ filter (has_rows_of l.graph l.store) (take l.n-index l.nodes)
