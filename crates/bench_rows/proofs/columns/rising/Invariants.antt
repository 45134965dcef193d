use Rattle.std.proofs.Common.{◌≡◌}
use Rattle.tall_value.specs.declared.class.Class.TheVariants as class
use Rattle.bench_rows.proofs.columns.rising.Given as goal

abbrev pub invariant-loop-row : goal.invariant-loop-row
invariant-loop-row l = l.column.class ≡ class.Int16
