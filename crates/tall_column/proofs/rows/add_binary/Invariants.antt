use Rattle.std.specs.Prelude.{Ok}
use Rattle.std.proofs.Common.{◌≡◌, map, take}
use Rattle.tall_value.specs.CellOperators.{binary_cell}
use Rattle.tall_dense.proofs.RowLemmas.{pair_results}
use Rattle.tall_column.proofs.rows.add_binary.Given as goal

abbrev pub invariant-loop-row : goal.invariant-loop-row
invariant-loop-row l =
    (l.out.class ≡ l.initial.out.class) × (map Ok l.out.cells ≡ take l.row (pair_results (binary_cell l.op) l.a.cells l.b.cells))
