use Rattle.std.proofs.Common.{◌≡◌}
use Rattle.tall_column.proofs.tests.column_of.Given as goal

abbrev pub invariant-loop-cell : goal.invariant-loop-cell
invariant-loop-cell l = l.column.class ≡ l.fn.class
