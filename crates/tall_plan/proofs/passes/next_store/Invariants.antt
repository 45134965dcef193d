use Rattle.std.proofs.Common.{take}
use Rattle.tall_plan.specs.Marks.{IsNext}
use Rattle.tall_plan.proofs.passes.next_store.Given as goal

abbrev pub invariant-loop-n : goal.invariant-loop-n
invariant-loop-n l = IsNext l.graph l.level l.from (take l.n-index l.needed) l.next
