-- Which piece is right for a block, whatever the pass is over.
use Rattle.std.specs.Prelude.{◌≡◌, ℕ, None, Some, List, length, option_map}
use Rattle.tall_cut.specs.Rows.{Fields}
use Rattle.tall_semantics.specs.Faults.{fault_seen}
use Rattle.tall_semantics.specs.Outcomes.{Outcome}
use Rattle.tall_semantics.specs.Deferred.{Vertex}
use Rattle.tall_store.specs.Blocks.{Block, first_block_fault}
use Rattle.tall_store.specs.Stores.{SeenStore}
use Rattle.tall_fuse.specs.declared.known.Known.{Known}
use Rattle.tall_piece.specs.declared.pieces.Piece.{Piece}
use Rattle.tall_piece.specs.declared.pieces.Piece.TheVariants as piece
use Rattle.tall_piece.specs.declared.wanted.Wanted.{Wanted}
use Rattle.tall_piece.specs.Given.{IsGiven}
use Rattle.tall_piece.specs.Passes.{PassOver}
use Rattle.tall_piece.specs.Pieces.{IsPiece, PartsFit}

abbrev pub record_block : (file row : ℕ) → List Fields → Block
record_block file row records = record { file = file; row = row; records = records }

-- of a block without a reading fault the parts, in each pass that this block is one of; else the first reading fault. Want of
-- memory may stand in a piece's stead
abbrev pub IsRightPiece : SeenStore → Block → List Vertex → Known → (all : List ℕ) → List Wanted → (place : ℕ) → Piece → Type 0
IsRightPiece d block vs known all wanted n (piece.Parts q) = (first_block_fault d block ≡ None) × (q.rows ≡ length block.records) × PartsFit vs q.rows wanted q.parts.items
    × ((store : ℕ) (p : PassOver vs store all wanted) (h : ℕ → Outcome) → IsGiven p d known block n h → IsPiece p n h q.rows (option_map fault_seen q.fault) q.parts.items)
IsRightPiece d block vs known all wanted n (piece.Reading g) = first_block_fault d block ≡ Some g
IsRightPiece d block vs known all wanted n piece.Memory = Unit {0}
