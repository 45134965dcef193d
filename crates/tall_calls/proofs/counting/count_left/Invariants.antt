use Rattle.std.proofs.Common.{◌≡◌, ◌-◌, ◌^◌}
use Rattle.tall_store.specs.FileSteps.{first_row, next_row, rows_left}
use Rattle.tall_store.proofs.FileLemmas.{Follows}
use Rattle.tall_calls.proofs.counting.count_left.Given as goal

-- the rows so far go with what is left
abbrev pub invariant-loop-block : goal.invariant-loop-block
invariant-loop-block g l = record {
  front : first_row l.rows ≡ first_row l.initial.rows;
  follows : Follows (rows_left l.initial.rows) (rows_left l.rows) (first_row l.initial.rows) (next_row l.rows);
}

abbrev pub decreases-loop-block : goal.decreases-loop-block
decreases-loop-block g l = 2 ^ 40 - next_row l.rows
