use Rattle.std.specs.Prelude.{◌≡◌, ◌++◌, ◌≤◌, ℕ, Bool, List, Option, length}
use Rattle.tall_value.specs.Cells.{Seen}
use Rattle.tall_semantics.specs.Deferred.{IsAmong}
use Rattle.tall_semantics.specs.Outcomes.{Outcome, rows_in}
use Rattle.tall_semantics.specs.Talls.{Columns, Tall}
use Rattle.tall_block.specs.OfBlocks.{AreShown, IsThere}
use Rattle.tall_block.specs.BlockWork.{AreClosed, IsBlock, numbers_between}
use Rattle.tall_block.proofs.numbers.row_numbers.Given as goal

abbrev pub invariant-loop-row : goal.invariant-loop-row
invariant-loop-row l = (scalars carries : ℕ → Option Seen) (work : List ℕ) (columns : Columns) (so_far : ℕ → List Seen) (f : ℕ → Tall) (cut : ℕ → Bool) (h : ℕ → Outcome)
    → IsBlock l.fn.graph l.fn.table scalars carries l.fn.first_row work columns so_far f cut h → AreShown l.fn.graph cut l.fn.table l.fn.made h → AreClosed l.fn.graph cut l.fn.table l.fn.made
    → IsAmong work l.fn.n → IsThere l.fn.graph l.fn.table l.fn.made l.fn.n → l.fn.from ≤ l.fn.to → l.fn.to ≤ length (rows_in (h l.fn.n))
    → l.numbers.items ++ numbers_between (h l.fn.n) l.row l.fn.to ≡ numbers_between (h l.fn.n) l.fn.from l.fn.to
