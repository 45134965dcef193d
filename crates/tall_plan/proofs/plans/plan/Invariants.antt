use Rattle.tall_plan.proofs.PlanLaws.{AreUpTo}
use Rattle.tall_plan.proofs.plans.plan.Given as goal

abbrev pub invariant-loop-level : goal.invariant-loop-level
invariant-loop-level l = AreUpTo l.graph l.roots l.needed.items l.passes.items l.level
