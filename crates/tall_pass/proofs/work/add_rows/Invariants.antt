use Rattle.std.proofs.Common.{◌≡◌, ◌++◌, map, take}
use Rattle.tall_pass.specs.Work.{rows_wanted}
use Rattle.tall_pass.proofs.work.add_rows.Given as goal

abbrev pub invariant-loop-n : goal.invariant-loop-n
invariant-loop-n l = l.wanted.items ≡ l.initial.wanted.items ++ map rows_wanted (take l.n-index l.collect)
