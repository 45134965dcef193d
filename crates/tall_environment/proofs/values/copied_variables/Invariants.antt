use Rattle.std.proofs.Common.{◌≡◌, ◌++◌, drop}
use Rattle.tall_environment.proofs.values.copied_variables.Given as goal

-- those so far, in front of those that are left
abbrev pub invariant-loop-variable : goal.invariant-loop-variable
invariant-loop-variable l = l.copy.items ++ drop l.variable-index l.variables ≡ l.variables
