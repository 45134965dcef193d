use Rattle.std.specs.Prelude.{◌≡◌, ◌++◌, drop, map}
use Rattle.tall_script_calls.specs.GatheredValues.{node_in}
use Rattle.tall_script_calls.proofs.gathers.add_variables.Given as goal

abbrev pub invariant-loop-variable : goal.invariant-loop-variable
invariant-loop-variable l = l.nodes.items ++ map node_in (drop l.variable-index l.variables) ≡ l.fn.nodes.items ++ map node_in l.variables
