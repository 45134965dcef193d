use Rattle.std.specs.Prelude.{vec_len, vec_capacity}
use Rattle.std.proofs.Common.{◌≡◌, ◌++◌, length, map, take, drop}
use Rattle.std.specs.List.{All}
use Rattle.tall_fold.specs.Carries.{InClass, running}
use Rattle.tall_fold.proofs.running.running.Given as goal

abbrev pub invariant-loop-row : goal.invariant-loop-row
invariant-loop-row g l =
    (vec_capacity l.out ≡ length l.rows) × (vec_len l.out ≡ l.row)
    × (map g.T.Operand.shown l.out.items ++ running g.S.Step.next (g.T.Operand.shown l.so_far) (map g.T.Operand.shown (drop l.row l.rows))
    ≡ running g.S.Step.next (g.T.Operand.shown l.fn.start) (map g.T.Operand.shown l.rows))
    × All InClass (map g.T.Operand.shown (take l.row l.rows))
