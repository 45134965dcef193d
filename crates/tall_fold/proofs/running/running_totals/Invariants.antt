use Rattle.std.specs.Prelude.{vec_len, vec_capacity}
use Rattle.std.proofs.Common.{◌≡◌, ◌+◌, List, length}
use Rattle.tall_value.specs.Cells.{Seen}
use Rattle.tall_fold.specs.Forms.{total_unless_nan}
use Rattle.tall_fold.proofs.RunningLemmas.{HasTotals}
use Rattle.tall_fold.proofs.running.running_totals.Given as goal

abbrev pub invariant-loop-row : goal.invariant-loop-row
invariant-loop-row g l =
    (vec_capacity l.out ≡ length l.rows) × (vec_len l.out ≡ l.row) × (length l.out.items ≡ l.row) × (l.total.1 ≡ l.fn.start.1 + l.row)
    × ((cs : List Seen) → l.fn.start.0 ≡ total_unless_nan cs → HasTotals g.T.Operand.shown l.fn.start.0 l.total.0 l.rows l.row l.out.items cs)
