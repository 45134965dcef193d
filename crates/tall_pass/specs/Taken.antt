-- What a pass has of the blocks that it was handed: the pieces that are joined, the blocks that wait for theirs, and the numbers
-- of records of files.
use Rattle.std.specs.Prelude.{◌≡◌, ◌≢◌, ◌<◌, ◌≤◌, ◌^◌, ◌+◌, ◌⊎◌, ℕ, suc, List, [], ◌∷◌, ◌++◌, length, map, slice_get, Option, None, Some, option_map, ⊤}
use Rattle.tall_cut.specs.Finding.{raw_count}
use Rattle.tall_semantics.specs.Faults.{fault_seen}
use Rattle.tall_semantics.specs.Outcomes.{Outcome}
use Rattle.tall_semantics.specs.Deferred.{Vertex, IsAmong}
use Rattle.tall_store.specs.Blocks.{Block, first_in_blocks}
use Rattle.tall_store.specs.Stores.{SeenStore}
use Rattle.tall_store.specs.declared.file_rows.FileBlock.{FileBlock}
use Rattle.tall_fuse.specs.declared.known.Known.{Known}
use Rattle.tall_piece.specs.declared.pieces.Piece.{Piece}
use Rattle.tall_piece.specs.declared.wanted.Wanted.{Wanted}
use Rattle.tall_piece.specs.Given.{IsGiven}
use Rattle.tall_piece.specs.Joins.{AreWays}
use Rattle.tall_piece.specs.Passes.{PassOver}
use Rattle.tall_piece.specs.Pieces.{AreSums, SumsFit}
use Rattle.tall_piece.specs.Right.{IsRightPiece}
use Rattle.tall_walk.specs.Events.{Event, a_block, an_end, block_of, blocks_in, first_in}
use Rattle.tall_pass.specs.declared.faults.PassFault.{PassFault}
use Rattle.tall_pass.specs.declared.faults.PassFault.TheVariants.{Reading, Read, TooLarge, Changed, Memory}
use Rattle.tall_pass.specs.declared.joining.Joined.{Joined}
use Rattle.tall_pass.specs.Counts.{count_at}

-- what the work on all blocks shares: the datastore, the graph, what is known, the places that are computed by blocks, and what
-- is wanted
pub record Inputs : Type 0 where
  pub store : SeenStore
  pub vertices : List Vertex
  pub known : Known
  pub all : List ℕ
  pub wanted : List Wanted

abbrev pub inputs : SeenStore → List Vertex → Known → List ℕ → List Wanted → Inputs
inputs store vs known all wanted = record { store = store; vertices = vs; known = known; all = all; wanted = wanted }

-- where they are given
abbrev pub OfInputs : Option Inputs → (Inputs → Type 0) → Type 0
OfInputs None P = ⊥
OfInputs (Some w) P = P w

-- ---- pieces

-- right for a block of one record at least, with this number
abbrev pub IsRight : Inputs → (place : ℕ) → Block → Piece → Type 0
IsRight w n b p = (0 < length b.records) × IsRightPiece w.store b w.vertices w.known w.all w.wanted n p

-- one for each block, in order
abbrev pub ArePieces : Inputs → (place : ℕ) → List Block → List Piece → Type 0
ArePieces w n [] [] = ⊤
ArePieces w n [] (p ∷ ps) = ⊥
ArePieces w n (b ∷ bs) [] = ⊥
ArePieces w n (b ∷ bs) (p ∷ ps) = IsRight w n b p × ArePieces w (suc n) bs ps

-- the piece of a place in a window whose first block has this number; no block is at a place behind the last
abbrev pub IsRightAt : Inputs → (first : ℕ) → List FileBlock → (place : ℕ) → Piece → Type 0
IsRightAt w n bs i p = (b : FileBlock) → slice_get bs i ≡ Some b → IsRightPiece w.store (block_of b) w.vertices w.known w.all w.wanted (n + i) p

-- ---- blocks that wait

abbrev pub IsWaiting : (files : ℕ) → FileBlock → Type 0
IsWaiting files b = (b.file < files) × (1 ≤ b.row) × (b.row < 2 ^ 40) × (0 < raw_count b.raw)

abbrev pub AreWaiting : (files : ℕ) → List FileBlock → Type 0
AreWaiting files [] = ⊤
AreWaiting files (b ∷ bs) = IsWaiting files b × AreWaiting files bs

-- ---- what is joined

-- each is the one of its number in the pass p
abbrev pub AreGiven : (w : Inputs) → {store : ℕ} → PassOver w.vertices store w.all w.wanted → List Block → Type 0
AreGiven w p blocks = (n : ℕ) (b : Block) → slice_get blocks n ≡ Some b → (h : ℕ → Outcome) × IsGiven p w.store w.known b n h

-- the pieces of these blocks are joined, none of which has a reading fault: the sums are those of each pass that they are
-- blocks of
pub record HasJoined (w : Inputs) (blocks : List Block) (j : Joined) : Type 0 where
  pub count : j.blocks ≡ length blocks
  pub some : j.blocks ≤ j.sums.rows
  pub few : j.sums.rows < 2 ^ 40
  pub none : first_in_blocks w.store blocks ≡ None
  pub fit : SumsFit w.vertices j.sums.rows w.wanted j.sums.sums.items
  pub sums : (store : ℕ) (p : PassOver w.vertices store w.all w.wanted) → AreGiven w p blocks
      → AreSums p (length blocks) j.sums.rows (option_map fault_seen j.sums.fault) j.sums.sums.items

-- the pieces of some of the blocks are joined, and these are the pieces of the rest
pub record IsJoining (w : Inputs) (blocks : List Block) (j : Joined) (pieces : List Piece) : Type 0 where
  pub front : List Block
  pub rest : List Block
  pub cut : blocks ≡ front ++ rest
  pub joined : HasJoined w front j
  pub right : ArePieces w (length front) rest pieces

-- why blocks end a pass: the first reading fault in them, or want of memory
abbrev pub EndsBlocks : SeenStore → List Block → PassFault → Type 0
EndsBlocks store blocks (Reading g) = first_in_blocks store blocks ≡ Some g
EndsBlocks store blocks (Read file) = ⊥
EndsBlocks store blocks (TooLarge file) = ⊥
EndsBlocks store blocks (Changed file first now) = ⊥
EndsBlocks store blocks Memory = ⊤

-- ---- numbers of records

-- the end of the file is among the events, with so many records
abbrev pub IsEndIn : List Event → (file records : ℕ) → Type 0
IsEndIn [] f n = ⊥
IsEndIn (a_block b ∷ es) f n = IsEndIn es f n
IsEndIn (an_end file records ∷ es) f n = ((file ≡ f) × (records ≡ n)) ⊎ IsEndIn es f n

-- a file's number was kept beside those that were known
pub record IsNoted (file records : ℕ) (old new : List (Option ℕ)) : Type 0 where
  pub files : length new ≡ length old
  pub known : (f n : ℕ) → count_at old f ≡ Some n → count_at new f ≡ Some n
  pub each : (f n : ℕ) → count_at new f ≡ Some n → (count_at old f ≡ Some n) ⊎ ((f ≡ file) × (n ≡ records))
  pub noted : count_at new file ≡ Some records

-- the numbers that were known, and those of the files that came to an end
pub record AreEnded (old : List (Option ℕ)) (events : List Event) (now : List (Option ℕ)) : Type 0 where
  pub files : length now ≡ length old
  pub known : (f n : ℕ) → count_at old f ≡ Some n → count_at now f ≡ Some n
  pub each : (f n : ℕ) → count_at now f ≡ Some n → (count_at old f ≡ Some n) ⊎ IsEndIn events f n
  pub ended : (f n : ℕ) → IsEndIn events f n → count_at now f ≡ Some n

-- ---- the taker of a pass

-- each block is of one of so many files
abbrev pub AreOfFiles : (files : ℕ) → List Block → Type 0
AreOfFiles files [] = ⊤
AreOfFiles files (b ∷ bs) = (b.file < files) × AreOfFiles files bs

-- it took these events: the pieces of some blocks are joined, the rest of them waits, and the numbers of the files' records are
-- kept
pub record HasTaken (w : Inputs) (first : List (Option ℕ)) (j : Joined) (waiting : List FileBlock) (counts : List (Option ℕ)) (events : List Event) : Type 0 where
  pub places : (i : ℕ) → IsAmong w.all i → i < length w.vertices
  pub ways : AreWays w.vertices w.wanted
  pub blocks : List Block
  pub cut : blocks_in events ≡ blocks ++ map block_of waiting
  pub joined : HasJoined w blocks j
  pub waits : AreWaiting (length w.store.files) waiting
  pub files : AreOfFiles (length w.store.files) (blocks_in events)
  pub counted : length first ≡ length w.store.files
  pub ended : AreEnded first events counts

-- a file ended with another number of records than was known
abbrev pub IsOther : List (Option ℕ) → (before : List Event) → Event → (file first now : ℕ) → Type 0
IsOther counts before event file first now = (event ≡ an_end file now) × (first ≢ now) × ((count_at counts file ≡ Some first) ⊎ IsEndIn before file first)

-- why it stopped at an event, with these taken before
abbrev pub HasStopped : SeenStore → List (Option ℕ) → PassFault → (before : List Event) → Event → Type 0
HasStopped store counts (Reading g) before event = first_in store (before ++ event ∷ []) ≡ Some g
HasStopped store counts (Read file) before event = ⊥
HasStopped store counts (TooLarge file) before event = ⊥
HasStopped store counts (Changed file first now) before event = IsOther counts before event file first now
HasStopped store counts Memory before event = ⊤
