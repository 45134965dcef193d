use Rattle.std.proofs.Common.{◌≡◌, map, take}
use Rattle.tall_gather.specs.Gathered.{no_counts}
use Rattle.tall_gather.proofs.gathers.new_counts.Given as goal

abbrev pub invariant-loop-store : goal.invariant-loop-store
invariant-loop-store l = l.counts.items ≡ map no_counts (take l.store-index l.stores)
