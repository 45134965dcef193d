use Rattle.std.proofs.Common.{◌≡◌, replicate, None}
use Rattle.tall_core.proofs.machine.filled.Given as goal

abbrev pub invariant-loop-made : goal.invariant-loop-made
invariant-loop-made g l = l.items.items ≡ replicate l.made None
