use Rattle.std.proofs.Common.{◌-◌, ◌^◌}
use Rattle.tall_plan.proofs.PlanLaws.{AreAdded}
use Rattle.tall_plan.proofs.plans.add_level.Given as goal

abbrev pub invariant-loop-store : goal.invariant-loop-store
invariant-loop-store l = AreAdded l.graph l.roots l.needed l.level l.fn.passes.items l.passes.items l.from

abbrev pub decreases-loop-store : goal.decreases-loop-store
decreases-loop-store l = 2 ^ 32 - l.from
