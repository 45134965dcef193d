use Rattle.std.specs.Prelude.{◌≡◌, ◌++◌, ℕ, List, drop, map}
use Rattle.std.specs.Vec.Iter.{into_iter_items}
use Rattle.tall_column.specs.Columns.{SeenColumn}
use Rattle.tall_script_calls.specs.GatheredValues.{node_in, variable_by}
use Rattle.tall_script_calls.proofs.gathers.table_of.Given as goal

abbrev pub invariant-loop-variable : goal.invariant-loop-variable
invariant-loop-variable l =
    (g : ℕ → SeenColumn) (rest : List SeenColumn) → into_iter_items l.fn.columns ≡ map g (map node_in l.variables) ++ rest
    → (into_iter_items l.columns ≡ map g (map node_in (drop l.variable-index l.variables)) ++ rest) × (l.table ++ map (variable_by g) (drop l.variable-index l.variables) ≡ map (variable_by g) l.variables)
