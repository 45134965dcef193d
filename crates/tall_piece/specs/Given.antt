-- What a block's work is given of a pass: the block's records, and what is known of lower levels.
use Rattle.std.specs.Prelude.{◌≡◌, ◌<◌, ℕ, true, false, Some, List, length, slice_get}
use Rattle.tall_value.specs.declared.class.Class.{Class}
use Rattle.tall_value.specs.Cells.{Seen}
use Rattle.tall_dense.specs.Columns.{class_of_cell}
use Rattle.tall_semantics.specs.Operations.{stored}
use Rattle.tall_semantics.specs.Outcomes.{Outcome}
use Rattle.tall_semantics.specs.Plans.{is_scan_at}
use Rattle.tall_semantics.specs.Deferred.{Vertex, IsAmong}
use Rattle.tall_semantics.specs.ShapesInOrder.{IsMade, shape_at}
use Rattle.tall_store.specs.Blocks as of_files
use Rattle.tall_store.specs.Stores.{SeenStore}
use Rattle.tall_stored.specs.StoredColumns.{variable_class}
use Rattle.tall_stored_blocks.specs.StoredBlocks.{block_of}
use Rattle.tall_fuse.specs.Kept.{carry}
use Rattle.tall_fuse.specs.declared.known.Known.{Known}
use Rattle.tall_block.specs.BlockWork.{IsAscending, IsKnown}
use Rattle.tall_block.specs.OfBlocks.{known_scalar}
use Rattle.tall_piece.specs.declared.wanted.Wanted.{Wanted}
use Rattle.tall_piece.specs.Passes.{PassOver, carry_of, outcomes}

-- the variables of the graph that are of the datastore are its own
abbrev pub AreVariables : List Vertex → (place : ℕ) → SeenStore → Type 0
AreVariables vs place d = (i : ℕ) (v : Vertex) (x : ℕ) (k : Class) → slice_get vs i ≡ Some v → v.made ≡ stored place x k → (x < length d.selected) × (k ≡ variable_class d x)

-- the block n of the pass is that of these records, over which the outcomes are h; the scalars that its work needs are known,
-- and of each scan the carry for this block
pub record IsGiven {vs : List Vertex} {store : ℕ} {all : List ℕ} {wanted : List Wanted} (p : PassOver vs store all wanted) (d : SeenStore) (known : Known) (block : of_files.Block) (n : ℕ) (h : ℕ → Outcome) : Type 0 where
  pub made : IsMade vs
  pub ascending : IsAscending all
  pub variables : AreVariables vs store d
  pub over : slice_get (outcomes p) n ≡ Some h
  pub records : slice_get p.blocks n ≡ Some (block_of d block)
  pub scalars : (i a : ℕ) (v : Vertex) → IsAmong all i → slice_get vs i ≡ Some v → IsAmong v.args a → p.cut a ≡ false → IsKnown vs (known_scalar known) p.f a
  pub carries : (i : ℕ) → IsAmong all i → is_scan_at (slice_get vs i) ≡ true → carry known i n ≡ carry_of p n i
  pub classes : (i : ℕ) (c : Seen) → carry known i n ≡ Some c → class_of_cell c ≡ (shape_at vs i).class
