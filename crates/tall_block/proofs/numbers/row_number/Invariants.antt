use Rattle.std.specs.Prelude.{◌≡◌, ◌+◌, ◌≤◌, ℕ, Bool, List, Option}
use Rattle.tall_value.specs.Cells.{Seen}
use Rattle.tall_semantics.specs.Outcomes.{Outcome, rows_in}
use Rattle.tall_semantics.specs.Talls.{Columns, Tall}
use Rattle.tall_blocks.specs.RowPlaces.{row_number_at}
use Rattle.tall_block.specs.OfBlocks.{AreShown}
use Rattle.tall_block.specs.BlockWork.{AreClosed, IsBlock}
use Rattle.tall_block.specs.RowSteps.{IsRow}
use Rattle.tall_block.proofs.numbers.row_number.Given as goal

abbrev pub invariant-loop-turn : goal.invariant-loop-turn
invariant-loop-turn l = (l.node + l._turn ≤ l.fn.n)
    × ((scalars carries : ℕ → Option Seen) (work : List ℕ) (columns : Columns) (so_far : ℕ → List Seen) (f : ℕ → Tall) (cut : ℕ → Bool) (h : ℕ → Outcome)
    → IsBlock l.fn.graph l.fn.table scalars carries l.fn.first_row work columns so_far f cut h → AreShown l.fn.graph cut l.fn.table l.fn.made h → AreClosed l.fn.graph cut l.fn.table l.fn.made
    → IsRow l.fn.graph l.fn.table l.fn.made work h l.fn.n l.fn.row → IsRow l.fn.graph l.fn.table l.fn.made work h l.node l.place × (row_number_at (rows_in (h l.node)) l.place ≡ row_number_at (rows_in (h l.fn.n)) l.fn.row))
