use Rattle.std.specs.Prelude.{Ok, vec_len, vec_capacity}
use Rattle.std.proofs.Common.{◌≡◌, length, map, take}
use Rattle.tall_dense.proofs.loops.each.Given as goal

abbrev pub invariant-loop-row : goal.invariant-loop-row
invariant-loop-row g l =
    (vec_capacity l.out ≡ length l.items) × (vec_len l.out ≡ l.row)
    × (map Ok (map g.F.Out.Operand.shown l.out.items) ≡ take l.row (map (g.F.RowOperator.gives l.operator) (map g.T.Operand.shown l.items)))
