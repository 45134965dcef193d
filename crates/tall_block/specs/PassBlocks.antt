-- What is told of the block at a place of a pass, beside what the pass stands on.
use Rattle.std.specs.Prelude.{◌≡◌, ◌≤◌, ◌+◌, ◌^◌, ℕ, Bool, true, false, Option, Some, List, length, slice_get}
use Rattle.tall_value.specs.declared.class.Class.{Class}
use Rattle.tall_value.specs.Cells.{Seen}
use Rattle.tall_value.specs.Columns.{numbered}
use Rattle.tall_dense.specs.Columns.{SeenColumn, class_of_cell}
use Rattle.tall_semantics.specs.Operations.{stored}
use Rattle.tall_semantics.specs.Outcomes.{Outcome, scalar}
use Rattle.tall_semantics.specs.Talls.{Tall}
use Rattle.tall_semantics.specs.Deferred.{Vertex, IsAmong}
use Rattle.tall_semantics.specs.ShapesInOrder.{shape_at}
use Rattle.tall_blocks.specs.Blocks.{Block}
use Rattle.tall_blocks.specs.Cut.{IsCutWork}
use Rattle.tall_blocks.specs.Pieces.{carry_in}
use Rattle.tall_block.specs.OfBlocks.{variable_at}
use Rattle.tall_block.specs.BlockWork.{IsAscending}

-- hs are the outcomes over all blocks, b is the block at place n: its table has the variables with the numbers of their rows,
-- scalars are known, and each carry that is known is the defined one
pub record IsTold (vs : List Vertex) (table : List (List ℕ × SeenColumn)) (scalars carries : ℕ → Option Seen) (first : ℕ) (work : List ℕ) (f : ℕ → Tall) (cut : ℕ → Bool) (hs : List (ℕ → Outcome)) (n : ℕ) (b : Block) : Type 0 where
  pub cut_work : IsCutWork vs cut (IsAmong work)
  pub ascending : IsAscending work
  pub variables : (i s x : ℕ) (v : Vertex) (k : Class) → slice_get vs i ≡ Some v → cut i ≡ true → v.made ≡ stored s x k
      → (c : SeenColumn) × (variable_at table x k ≡ Some c) × (b s x ≡ numbered first c.cells) × (first + length c.cells ≤ 2 ^ 40)
  pub scalars_known : (i a : ℕ) (v : Vertex) → IsAmong work i → slice_get vs i ≡ Some v → IsAmong v.args a → cut a ≡ false → (c : Seen) × (scalars a ≡ Some c) × ((f a).outcome ≡ scalar c)
  pub carried : (i : ℕ) (c : Seen) → IsAmong work i → carries i ≡ Some c → (carry_in vs f hs i n ≡ Some c) × (class_of_cell c ≡ (shape_at vs i).class)
