use Rattle.std.specs.Prelude.{ℕ, Bool, List, option_map}
use Rattle.tall_value.specs.Cells.{Seen}
use Rattle.tall_semantics.specs.Faults.{fault_seen}
use Rattle.tall_semantics.specs.Outcomes.{Outcome}
use Rattle.tall_semantics.specs.Talls.{Columns, Tall}
use Rattle.tall_fuse.specs.Kept.{carry}
use Rattle.tall_block.specs.OfBlocks.{AreColumns, AreShort, known_scalar}
use Rattle.tall_block.specs.BlockWork.{AreBlockValues, IsBlock}
use Rattle.tall_block.specs.Steps.{looked_first}
use Rattle.tall_block.proofs.block.block_values.Given as goal

abbrev pub invariant-loop-place : goal.invariant-loop-place
invariant-loop-place l = AreColumns l.fn.graph l.fn.table l.columns × AreShort l.fn.graph l.fn.table l.columns
    × ((columns : Columns) (so_far : ℕ → List Seen) (f : ℕ → Tall) (cut : ℕ → Bool) (h : ℕ → Outcome)
    → IsBlock l.fn.graph l.fn.table (known_scalar l.fn.known) (λ i. carry l.fn.known i l.fn.block) l.fn.first_row l.fn.work columns so_far f cut h
    → AreBlockValues l.fn.graph l.fn.table l.columns f cut h (looked_first l.fn.graph (λ i. carry l.fn.known i l.fn.block) l.fn.work l.place) (option_map fault_seen l.fault))
