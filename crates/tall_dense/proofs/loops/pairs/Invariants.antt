use Rattle.std.specs.Prelude.{Ok, vec_len, vec_capacity}
use Rattle.std.proofs.Common.{◌≡◌, length, map, take}
use Rattle.tall_dense.proofs.RowLemmas.{pair_results}
use Rattle.tall_dense.proofs.loops.pairs.Given as goal

abbrev pub invariant-loop-row : goal.invariant-loop-row
invariant-loop-row g l =
    (vec_capacity l.out ≡ length l.a) × (vec_len l.out ≡ l.row)
    × (map Ok (map g.F.Out.Operand.shown l.out.items) ≡ take l.row (pair_results (g.F.PairOperator.gives l.operator) (map g.A.Operand.shown l.a) (map g.B.Operand.shown l.b)))
