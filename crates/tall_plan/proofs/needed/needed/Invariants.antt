use Rattle.tall_plan.proofs.MarkLaws.{AreFound}
use Rattle.tall_plan.proofs.needed.needed.Given as goal

abbrev pub invariant-loop-left : goal.invariant-loop-left
invariant-loop-left l = AreFound l.graph l.roots l.marks.items l.left l.found.items

abbrev pub decreases-loop-left : goal.decreases-loop-left
decreases-loop-left l = l.left
