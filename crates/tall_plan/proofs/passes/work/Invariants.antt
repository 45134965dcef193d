use Rattle.std.proofs.Common.{◌≡◌, take}
use Rattle.tall_semantics.specs.Plans.{work_of}
use Rattle.tall_plan.proofs.passes.work.Given as goal

abbrev pub invariant-loop-n : goal.invariant-loop-n
invariant-loop-n l = l.work.items ≡ work_of l.graph (take l.n-index l.needed) l.store l.level
