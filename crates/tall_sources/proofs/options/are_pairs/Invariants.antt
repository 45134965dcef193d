use Rattle.std.specs.Prelude.{◌≡◌, ◌≤◌, ◌-◌, length, map}
use Rattle.tall_sources.specs.Given.{are_pairs, memory_in}
use Rattle.tall_sources.proofs.PairLoops.{from_pair}
use Rattle.tall_sources.proofs.options.are_pairs.Given as goal

-- the pairs from here on
abbrev pub invariant-loop-at : goal.invariant-loop-at
invariant-loop-at l = (l.at ≤ length l.pairs) × (are_pairs (from_pair l.pairs l.at) ≡ are_pairs (map memory_in l.pairs))

abbrev pub decreases-loop-at : goal.decreases-loop-at
decreases-loop-at l = length l.pairs - l.at
