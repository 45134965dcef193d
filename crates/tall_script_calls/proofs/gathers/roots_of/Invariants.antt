use Rattle.std.specs.Prelude.{◌≡◌, ◌++◌, drop}
use Rattle.std.specs.List.{flat_map}
use Rattle.tall_script_calls.specs.GatheredValues.{nodes_in}
use Rattle.tall_script_calls.proofs.gathers.roots_of.Given as goal

abbrev pub invariant-loop-value : goal.invariant-loop-value
invariant-loop-value l = l.nodes.items ++ flat_map nodes_in (drop l.value-index l.values) ≡ flat_map nodes_in l.values
