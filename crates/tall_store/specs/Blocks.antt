-- Blocks of a datastore: consecutive records of one file, as many as its ReadSize says, fewer only at the file's end.
-- docs/LANGUAGE.md, "Datastores". What is stored knows no blocks; the laws at the end join the two.
use Rattle.std.specs.Prelude.{◌≡◌, ◌<◌, ◌≤◌, ℕ, zero, suc, ◌+◌, List, [], ◌∷◌, ◌++◌, length, map, take, drop, Option, None, Some, Result, Ok, Err}
use Rattle.std.specs.List.{flat_map}
use Rattle.std.specs.Option.{option_or}
use Rattle.tall_outside.specs.Shelf.{Files}
use Rattle.tall_cut.specs.declared.cutter.ReadSize.{ReadSize}
use Rattle.tall_cut.specs.declared.cutter.ReadSize.TheVariants.{Rows, File}
use Rattle.tall_cut.specs.Rows.{Fields}
use Rattle.tall_column.specs.Columns.{SeenColumn}
use Rattle.tall_store.specs.declared.faults.ReadingFault.{ReadingFault}
use Rattle.tall_store.specs.Stores.{SeenStore}
use Rattle.tall_store.specs.Records.{numbered_records}
use Rattle.tall_store.specs.Walk.{WalkedFile, all_records, walk, walk_from}
use Rattle.tall_store.specs.ReadingOrder.{first_reading_fault}
use Rattle.tall_store.specs.Stored.{cells_at, first_fault, record_faults, unless_fault, variables_of}

-- ---- one block: the place of its file in the list, the row of its first record, and its records

pub record Block : Type 0 where
  pub file : ℕ
  pub row : ℕ
  pub records : List Fields

abbrev pub block_faults : SeenStore → Block → List ReadingFault
block_faults store block = flat_map (record_faults store) (numbered_records block.file block.row block.records)

abbrev pub first_block_fault : SeenStore → Block → Option ReadingFault
first_block_fault store block = first_reading_fault (block_faults store block)

abbrev pub block_variables : SeenStore → Block → List (List ℕ × SeenColumn)
block_variables store block = variables_of store (numbered_records block.file block.row block.records)

-- the selected variables of a block as a table, or its first reading fault
abbrev pub block_table : SeenStore → Block → Result (List (List ℕ × SeenColumn)) ReadingFault
block_table store block = unless_fault (first_block_fault store block) (block_variables store block)

-- ---- all blocks

-- records in at most so many blocks of a size
unfoldable pub blocks_up_to : ℕ → ℕ → List Fields → List (List Fields)
blocks_up_to zero size records = []
blocks_up_to (suc n) size [] = []
blocks_up_to (suc n) size (fields ∷ records) = take size (fields ∷ records) ∷ blocks_up_to n size (drop size (fields ∷ records))

-- the records of a file in blocks
abbrev pub in_blocks : ReadSize → List Fields → List (List Fields)
in_blocks (Rows size) records = blocks_up_to (length records) size records
in_blocks File [] = []
in_blocks File (fields ∷ records) = (fields ∷ records) ∷ []

-- the blocks of a file, from a row on
abbrev pub numbered_blocks : ℕ → ℕ → List (List Fields) → List Block
numbered_blocks file row [] = []
numbered_blocks file row (records ∷ blocks) =
    record { file = file; row = row; records = records } ∷ numbered_blocks file (row + length records) blocks

-- the blocks of a file of the walk, cut in some way
abbrev pub walked_blocks : (List Fields → List (List Fields)) → WalkedFile → List Block
walked_blocks cut f = numbered_blocks f.file f.row (cut f.records)

-- the blocks of files, from a place in the list and a row on
abbrev pub blocks_from : (List Fields → List (List Fields)) → SeenStore → Files → ℕ → ℕ → List (List ℕ) → List Block
blocks_from cut store files file row names = flat_map (walked_blocks cut) (walk_from store files file row names)

-- all blocks of a datastore, in order
abbrev pub all_blocks : SeenStore → Files → List Block
all_blocks store files = flat_map (walked_blocks (in_blocks store.size)) (walk store files)

-- what a file of the walk gives one after the other: its own fault, and then each block as a table or its first reading
-- fault. A map function is called with each table, up to the first fault.
abbrev pub walked_tables : SeenStore → WalkedFile → List (Result (List (List ℕ × SeenColumn)) ReadingFault)
walked_tables store f = map (λ fault. Err fault) f.faults ++ map (block_table store) (walked_blocks (in_blocks store.size) f)

abbrev pub block_tables : SeenStore → Files → List (Result (List (List ℕ × SeenColumn)) ReadingFault)
block_tables store files = flat_map (walked_tables store) (walk store files)

-- ---- the first fault that a reader meets who goes from file to file and from block to block

abbrev pub first_in_blocks : SeenStore → List Block → Option ReadingFault
first_in_blocks store [] = None
first_in_blocks store (block ∷ blocks) = option_or (first_block_fault store block) (first_in_blocks store blocks)

abbrev pub first_on_walk : (List Fields → List (List Fields)) → SeenStore → List WalkedFile → Option ReadingFault
first_on_walk cut store [] = None
first_on_walk cut store (f ∷ fs) =
    option_or (first_reading_fault f.faults)
    (option_or (first_in_blocks store (walked_blocks cut f)) (first_on_walk cut store fs))

abbrev pub first_met_from : (List Fields → List (List Fields)) → SeenStore → Files → ℕ → ℕ → List (List ℕ) → Option ReadingFault
first_met_from cut store files file row names = first_on_walk cut store (walk_from store files file row names)

abbrev pub first_met : (List Fields → List (List Fields)) → SeenStore → Files → Option ReadingFault
first_met cut store files = first_on_walk cut store (walk store files)

-- the first fault among tables
abbrev pub first_refused : List (Result (List (List ℕ × SeenColumn)) ReadingFault) → Option ReadingFault
first_refused [] = None
first_refused (Ok table ∷ rest) = first_refused rest
first_refused (Err fault ∷ rest) = Some fault

-- ---- the laws that join blocks and whole files, however each file is cut

-- a ReadSize of one record at least
abbrev pub HasRows : ReadSize → Type 0
HasRows (Rows size) = 0 < size
HasRows File = Unit {0}

-- the records of a file are those of its blocks, one after the other
abbrev pub IsCutting : (List Fields → List (List Fields)) → Type 0
IsCutting cut = (records : List Fields) → flat_map (λ block. block) (cut records) ≡ records

-- the first fault that is met block by block is the first of all
abbrev pub FaultsJoin : Type 0
FaultsJoin = (cut : List Fields → List (List Fields)) → IsCutting cut → (store : SeenStore) (files : Files)
    → first_met cut store files ≡ first_fault store files

-- the cells of a variable in the blocks, one after the other, are its cells
abbrev pub CellsJoin : Type 0
CellsJoin = (cut : List Fields → List (List Fields)) → IsCutting cut → (store : SeenStore) (files : Files) (place : ℕ)
    → flat_map (λ block. cells_at store (numbered_records block.file block.row block.records) place) (blocks_from cut store files 0 1 store.files)
    ≡ cells_at store (all_records store files) place

-- the tables that a map function would get end at the first fault of the datastore, if it has one
abbrev pub TablesJoin : Type 0
TablesJoin = (store : SeenStore) (files : Files) → HasRows store.size → first_refused (block_tables store files) ≡ first_fault store files

-- a ReadSize is such a way to cut
abbrev pub SizesCut : Type 0
SizesCut = (size : ReadSize) → HasRows size → IsCutting (in_blocks size)

-- each block of a ReadSize of n records has n of them, but the last of a file, which has one at least
abbrev pub AreOfSize : ℕ → List (List Fields) → Type 0
AreOfSize size [] = Unit {0}
AreOfSize size (block ∷ []) = (0 < length block) × (length block ≤ size)
AreOfSize size (block ∷ next ∷ blocks) = (length block ≡ size) × AreOfSize size (next ∷ blocks)

abbrev pub SizesHold : Type 0
SizesHold = (size : ℕ) (records : List Fields) → 0 < size → AreOfSize size (in_blocks (Rows size) records)
