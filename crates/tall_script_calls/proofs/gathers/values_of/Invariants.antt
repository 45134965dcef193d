use Rattle.std.specs.Prelude.{◌≡◌, ◌++◌, ℕ, length, map}
use Rattle.std.specs.List.{All, flat_map}
use Rattle.std.specs.Vec.Iter.{into_iter_items}
use Rattle.tall_column.specs.Columns.{SeenColumn}
use Rattle.tall_deferred.specs.Values.{IsValue, shared_seen}
use Rattle.tall_script_calls.specs.GatheredValues.{memories_by, nodes_in, single_in}
use Rattle.tall_script_calls.proofs.gathers.values_of.Given as goal

abbrev pub invariant-loop-value : goal.invariant-loop-value
invariant-loop-value l =
    All (IsValue (length l.graph)) (into_iter_items l.values)
    × ((g : ℕ → SeenColumn) → l.fn.columns.items ≡ map g (flat_map nodes_in l.fn.values.items)
    → (into_iter_items l.columns ≡ map g (flat_map nodes_in (into_iter_items l.values)))
    × (map shared_seen l.found.items ++ memories_by (single_in l.graph) g (into_iter_items l.values) ≡ memories_by (single_in l.graph) g l.fn.values.items))

abbrev pub decreases-loop-value : goal.decreases-loop-value
decreases-loop-value l = length (into_iter_items l.values)
