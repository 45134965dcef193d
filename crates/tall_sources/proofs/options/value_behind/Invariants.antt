use Rattle.std.specs.Prelude.{◌≡◌, ◌≤◌, ◌-◌, length, map}
use Rattle.tall_sources.specs.Given.{memory_in, value_behind}
use Rattle.tall_sources.proofs.PairLoops.{from_pair}
use Rattle.tall_sources.proofs.options.value_behind.Given as goal

-- what stands behind the name from here on
abbrev pub invariant-loop-at : goal.invariant-loop-at
invariant-loop-at l = (l.at ≤ length l.pairs) × (value_behind (from_pair l.pairs l.at) l.name ≡ value_behind (map memory_in l.pairs) l.name)

abbrev pub decreases-loop-at : goal.decreases-loop-at
decreases-loop-at l = length l.pairs - l.at
