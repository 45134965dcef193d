use Rattle.tall_plan.proofs.MarkLaws.{AreMore}
use Rattle.tall_plan.proofs.needed.mark.Given as goal

abbrev pub invariant-loop-n : goal.invariant-loop-n
invariant-loop-n l = AreMore l.fn.marks.items l.marks.items l.places l.n-index
