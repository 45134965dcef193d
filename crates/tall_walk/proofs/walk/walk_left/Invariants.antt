use Rattle.std.proofs.Common.{◌≡◌, ◌≤◌, ◌-◌, ◌^◌, List, true}
use Rattle.tall_store.specs.FileSteps.{file_of, first_row, next_row, rows_left, size_of_block}
use Rattle.tall_walk.specs.Events.{Event}
use Rattle.tall_walk.specs.OneFile.{Going}
use Rattle.tall_walk.proofs.walk.walk_left.Given as goal

-- what was taken goes with what is left
abbrev pub invariant-loop-block : goal.invariant-loop-block
invariant-loop-block g l = record {
  going : (before : List Event) → g.T.TakesBlocks.has_taken l.initial.taker before
      → Going (g.T.TakesBlocks.has_taken l.taker) (size_of_block l.initial.rows) (file_of l.initial.rows) l.initial.row (next_row l.rows) before (rows_left l.initial.rows) (rows_left l.rows);
  place : (file_of l.rows ≡ file_of l.initial.rows) × (first_row l.rows ≡ first_row l.initial.rows) × (size_of_block l.rows ≡ size_of_block l.initial.rows);
  files : g.T.TakesBlocks.files l.taker ≡ g.T.TakesBlocks.files l.initial.taker;
  first : 1 ≤ next_row l.rows;
  beyond : l.beyond ≡ true → 2 ^ 40 ≤ next_row l.rows;
}

abbrev pub decreases-loop-block : goal.decreases-loop-block
decreases-loop-block g l = 2 ^ 40 - next_row l.rows
