use Rattle.std.specs.Prelude.{Ok}
use Rattle.std.proofs.Common.{◌≡◌, map, take}
use Rattle.tall_value.specs.Cells.{seen}
use Rattle.tall_value.specs.Elementwise.{beside}
use Rattle.tall_column.proofs.rows.add_scalar.Given as goal

abbrev pub invariant-loop-row : goal.invariant-loop-row
invariant-loop-row l =
    (l.out.class ≡ l.initial.out.class) × (map Ok l.out.cells ≡ take l.row (map (beside l.op l.scalar_left (seen l.b)) l.a.cells))
