-- Faults as they are seen block by block. A value may fail in a block while its operand fails only behind it, so a fault
-- that is seen need not be the value's own over all rows; the least of those seen is the least own fault nevertheless.
use Rattle.std.specs.Prelude.{◌≡◌, ℕ, Bool, Option, List, [], ◌∷◌}
use Rattle.tall_value.specs.Cells.{Seen}
use Rattle.tall_semantics.specs.Faults.{Fault}
use Rattle.tall_semantics.specs.Outcomes.{Outcome}
use Rattle.tall_semantics.specs.Talls.{Tall, Columns}
use Rattle.tall_semantics.specs.Deferred.{Vertex, IsMeaning, IsOrdered, own_in}
use Rattle.tall_semantics.specs.Least.{IsLeast}
use Rattle.tall_semantics.specs.Numbered.{AreNumbered}
use Rattle.tall_semantics.specs.RowsOfSpaces.{AreColumns}
use Rattle.tall_blocks.specs.Blocks.{Block, block_columns, AreBlocksOf, AreTables, AreAscending}
use Rattle.tall_blocks.specs.Cut.{AreOfStore}
use Rattle.tall_blocks.specs.ValuesOver.{value_over, IsOver, next_cells}

-- cs are the least own faults seen in each block, among the values with P
abbrev pub AreSeen : List Vertex → (ℕ → Tall) → (ℕ → Bool) → (P : ℕ → Type 0) → (so_far : ℕ → List Seen) → List Block → List (Option Fault) → Type 0
AreSeen vs f cut P so_far [] cs = cs ≡ []
AreSeen vs f cut P so_far (b ∷ bs) [] = ⊥
AreSeen vs f cut P so_far (b ∷ bs) (c ∷ cs) = (h : ℕ → Outcome) × IsOver (block_columns b) so_far vs f cut h × IsLeast (own_in vs (value_over f h)) P c × AreSeen vs f cut P (next_cells vs h so_far) bs cs

-- what a pass over a datastore stands on that computes block by block what is cut
pub record IsBlockwise (columns : Columns) (of_stores : ℕ → List ℕ) (vs : List Vertex) (f : ℕ → Tall) (store : ℕ) (cut : ℕ → Bool) (bs : List Block) : Type 0 where
  pub meaning : IsMeaning columns vs f
  pub ordered : IsOrdered vs
  pub numbered : AreNumbered vs
  pub readings : AreColumns columns of_stores vs
  pub of_store : AreOfStore store vs f cut
  pub blocks : AreBlocksOf columns vs cut bs
  pub tables : AreTables vs cut bs
  pub ascending : AreAscending bs
