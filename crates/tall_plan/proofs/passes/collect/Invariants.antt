use Rattle.std.proofs.Common.{◌≡◌, filter, take}
use Rattle.tall_plan.specs.Seen.{is_collected}
use Rattle.tall_plan.proofs.passes.collect.Given as goal

abbrev pub invariant-loop-n : goal.invariant-loop-n
invariant-loop-n l = l.kept.items ≡ filter (is_collected l.graph l.roots l.store l.level) (take l.n-index l.needed)
