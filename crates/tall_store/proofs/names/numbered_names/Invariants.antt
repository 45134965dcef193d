use Rattle.std.proofs.Common.{◌≡◌, ◌+◌, ◌++◌, map}
use Rattle.std.specs.Prelude.{◌-◌}
use Rattle.std.specs.List.{range_with_len}
use Rattle.tall_store.specs.Names.{numbered_name, numbered_names}
use Rattle.tall_store.proofs.names.numbered_names.Given as goal

abbrev pub invariant-loop-k : goal.invariant-loop-k
invariant-loop-k l = l.names.items ++ map numbered_name (range_with_len (l.k + 1) (l.n - l.k)) ≡ numbered_names l.n
