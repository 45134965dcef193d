-- What a taker of blocks is told, one after the other, while the files of a datastore are walked over.
use Rattle.std.specs.Prelude.{◌≡◌, ◌<◌, ◌^◌, ℕ, ◌+◌, List, [], ◌∷◌, ◌++◌, length, map, Option, Result, Ok, Err}
use Rattle.std.specs.List.{flat_map}
use Rattle.tall_outside.specs.Shelf.{Files}
use Rattle.tall_column.specs.Columns.{SeenColumn}
use Rattle.tall_cut.specs.declared.cutter.ReadSize.TheVariants.{Rows}
use Rattle.tall_cut.specs.Cuts.{rows_of}
use Rattle.tall_cut.specs.Rows.{Fields}
use Rattle.tall_cut.specs.Finding.{raw_records}
use Rattle.tall_store.specs.declared.file_rows.FileBlock.{FileBlock}
use Rattle.tall_store.specs.declared.faults.ReadingFault.{ReadingFault}
use Rattle.tall_store.specs.Blocks.{Block, block_tables, first_in_blocks, in_blocks, walked_blocks}
use Rattle.tall_store.specs.Stores.{SeenStore}
use Rattle.tall_store.specs.Walk.{WalkedFile, walk, walk_from}

-- the next block of a file, or the end of a file by its place in the list, with the number of its records
pub data Event : Type 0 where
  a_block : Block → Event
  an_end : (file records : ℕ) → Event

-- a block that was found, with its records
abbrev pub block_of : FileBlock → Block
block_of b = record { file = b.file; row = b.row; records = raw_records b.raw }

-- the blocks among events
abbrev pub blocks_in : List Event → List Block
blocks_in [] = []
blocks_in (a_block b ∷ es) = b ∷ blocks_in es
blocks_in (an_end file n ∷ es) = blocks_in es

-- the first reading fault in blocks that came
abbrev pub first_in : SeenStore → List Event → Option ReadingFault
first_in store es = first_in_blocks store (blocks_in es)

-- ---- tables

-- blocks as tables, or with the first reading fault of each
abbrev pub Tables : Type 0
Tables = List (Result (List (List ℕ × SeenColumn)) ReadingFault)

abbrev pub up_to_fault : Tables → Tables
up_to_fault [] = []
up_to_fault (Ok t ∷ ts) = Ok t ∷ up_to_fault ts
up_to_fault (Err g ∷ ts) = Err g ∷ []

-- up to the first fault they are those of all blocks of a datastore
abbrev pub AreTables : SeenStore → Files → Tables → Type 0
AreTables store files ts = up_to_fault (block_tables store files) ≡ up_to_fault ts

-- ---- places

-- from a place to a place: the file, the row that came next where it began, and the row that comes next. A block has a
-- record at least, and its first row is below 2^40; behind the end of a file stands the front of the next.
abbrev pub IsWalk : (file first row : ℕ) → List Event → (file first row : ℕ) → Type 0
IsWalk file first row [] k m n = (file ≡ k) × (first ≡ m) × (row ≡ n)
IsWalk file first row (a_block b ∷ es) k m n =
    (b.file ≡ file) × (b.row ≡ row) × (row < 2 ^ 40) × (0 < length b.records) × IsWalk file first (row + length b.records) es k m n
IsWalk file first row (an_end f records ∷ es) k m n = (f ≡ file) × (first + records ≡ row) × IsWalk (file + 1) row row es k m n

-- ---- all that comes of a datastore's files

-- how a file is cut: as its ReadSize says, and a file that is one block into blocks of 2^40 records at the most
abbrev pub cut_of : SeenStore → List Fields → List (List Fields)
cut_of store = in_blocks (Rows (rows_of store.size))

abbrev pub file_events : SeenStore → WalkedFile → List Event
file_events store f = map a_block (walked_blocks (cut_of store) f) ++ an_end f.file (length f.records) ∷ []

-- of the files from a place in the list and a row on
abbrev pub events_from : SeenStore → Files → ℕ → ℕ → List (List ℕ) → List Event
events_from store files file row names = flat_map (file_events store) (walk_from store files file row names)

abbrev pub all_events : SeenStore → Files → List Event
all_events store files = flat_map (file_events store) (walk store files)
