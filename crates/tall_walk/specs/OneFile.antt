-- What a walk over one file of a datastore says.
use Rattle.std.specs.Prelude.{Bool, true, ◌≡◌, ◌≢◌, ◌<◌, ◌≤◌, ◌^◌, ◌⊎◌, ℕ, ◌+◌, List, [], ◌∷◌, ◌++◌, length, map, IfSome, Option, None, Some, ⊤}
use Rattle.std.specs.Option.{option_or}
use Rattle.tall_outside.specs.OpenedNames.{Adds, OpensOnce}
use Rattle.tall_outside.specs.Shelf.{Files}
use Rattle.tall_cut.specs.declared.cutter.ReadSize.TheVariants.{Rows}
use Rattle.tall_cut.specs.Rows.{Fields}
use Rattle.tall_value.specs.declared.faults.ReadingKind.TheVariants.{NoFile, HeaderDiffers}
use Rattle.tall_store.specs.declared.faults.ReadingFault.{ReadingFault}
use Rattle.tall_store.specs.declared.file_end.FileEnd.{FileEnd}
use Rattle.tall_store.specs.declared.file_end.FileEnd.TheVariants.{Whole, Reading, Failed, TooLarge, Memory}
use Rattle.tall_store.specs.Blocks.{Block, first_block_fault, first_in_blocks, in_blocks, numbered_blocks, walked_blocks}
use Rattle.tall_store.specs.FileEnds.{fault_at, too_many, walked_file}
use Rattle.tall_store.specs.ReadingOrder.{first_reading_fault}
use Rattle.tall_store.specs.Stores.{SeenStore}
use Rattle.tall_store.specs.Walk.{WalkedFile}
use Rattle.tall_walk.specs.declared.ends.FileOutcome.{FileOutcome}
use Rattle.tall_walk.specs.declared.ends.FileOutcome.TheVariants.{Ended, Stopped}
use Rattle.tall_walk.specs.Events.{Event, IsWalk, a_block, cut_of}

-- ---- what is left of a file

-- blocks of this size of some records, from a row on
abbrev pub cut_from : (size file row : ℕ) → List Fields → List Block
cut_from size file row records = numbered_blocks file row (in_blocks (Rows size) records)

-- the taker has these blocks of a file, which are those up to a row
pub record TakesUpTo (P : List Event → Type 0) (file first : ℕ) (before : List Event) (blocks : List Block) (row : ℕ) : Type 0 where
  pub taken : P (before ++ map a_block blocks)
  pub walks : IsWalk file first first (map a_block blocks) file first row

-- the blocks so far and those of what is left now are those of what was left
abbrev pub GoesOn : (size file first : ℕ) → List Block → (row : ℕ) → Option (List Fields) → Option (List Fields) → Type 0
GoesOn size file first blocks row None now = ⊤
GoesOn size file first blocks row (Some all) None = ⊥
GoesOn size file first blocks row (Some all) (Some rest) = (cut_from size file first all ≡ blocks ++ cut_from size file row rest) × (first + length all ≡ row + length rest)

-- so far
pub record Going (P : List Event → Type 0) (size file first row : ℕ) (before : List Event) (left now : Option (List Fields)) : Type 0 where
  pub blocks : List Block
  pub takes : TakesUpTo P file first before blocks row
  pub goes : GoesOn size file first blocks row left now

-- all of it
pub record TakesAll (P : List Event → Type 0) (size file first n : ℕ) (before : List Event) (left : Option (List Fields)) : Type 0 where
  pub blocks : List Block
  pub takes : TakesUpTo P file first before blocks (first + n)
  pub few : first + n ≤ 2 ^ 40
  pub count : IfSome left (λ records. n ≡ length records)
  pub all : IfSome left (λ records. cut_from size file first records ≡ blocks)

-- up to the record that has the row numbered 2^40
pub record TakesMost (P : List Event → Type 0) (size file first : ℕ) (before : List Event) (left : Option (List Fields)) : Type 0 where
  pub blocks : List Block
  pub row : ℕ
  pub takes : TakesUpTo P file first before blocks row
  pub beyond : 2 ^ 40 ≤ row
  pub rest : IfSome left (λ records. (more : List Fields) × (cut_from size file first records ≡ blocks ++ cut_from size file row more) × (2 ^ 40 < row + length more))

-- up to the block at which it stopped
pub record StopsIn (P : List Event → Event → Type 0) (size file first : ℕ) (before : List Event) (left : Option (List Fields)) : Type 0 where
  pub blocks : List Block
  pub row : ℕ
  pub block : Block
  pub stopped : P (before ++ map a_block blocks) (a_block block)
  pub walks : IsWalk file first first (map a_block blocks) file first row
  pub next : IsWalk file first row (a_block block ∷ []) file first (row + length block.records)
  pub rest : IfSome left (λ records. (more : List Block) × (cut_from size file first records ≡ blocks ++ block ∷ more))

-- what an outcome says of what was left of a file from its first row on
abbrev pub TellsLeft : {E : Type 0} → (List Event → Type 0) → (E → List Event → Event → Type 0) → (size file first : ℕ) → List Event → Option (List Fields) → FileOutcome E → Type 0
TellsLeft P Q size file first before left (Ended (Whole n)) = TakesAll P size file first n before left
TellsLeft P Q size file first before left (Ended (Reading g)) = (g ≡ too_many file) × TakesMost P size file first before left
TellsLeft P Q size file first before left (Ended Failed) = ⊤
TellsLeft P Q size file first before left (Ended TooLarge) = ⊤
TellsLeft P Q size file first before left (Ended Memory) = ⊤
TellsLeft P Q size file first before left (Stopped e) = StopsIn (Q e) size file first before left

-- ---- a file of the walk

-- a fault of the file itself, or the row numbered 2^40
abbrev pub IsOfFile : (file row : ℕ) → ReadingFault → Type 0
IsOfFile file row g = (g ≡ fault_at NoFile file row) ⊎ (g ≡ fault_at HeaderDiffers file row) ⊎ (g ≡ too_many file)

abbrev pub blocks_of : SeenStore → WalkedFile → List Block
blocks_of store f = walked_blocks (cut_of store) f

-- its first fault
abbrev pub first_of : SeenStore → WalkedFile → Option ReadingFault
first_of store f = option_or (first_reading_fault f.faults) (first_in_blocks store (blocks_of store f))

-- where the shelf tells
abbrev pub OfFile : SeenStore → Option Files → (file row : ℕ) → (WalkedFile → Type 0) → Type 0
OfFile store held file row P = IfSome held (λ files. P (walked_file store files file row))

pub record WholeFile (P : List Event → Type 0) (store : SeenStore) (held : Option Files) (file first n : ℕ) (before : List Event) : Type 0 where
  pub blocks : List Block
  pub takes : TakesUpTo P file first before blocks (first + n)
  pub few : first + n ≤ 2 ^ 40
  pub told : OfFile store held file first (λ f. (f.faults ≡ []) × (n ≡ length f.records) × (blocks_of store f ≡ blocks))

-- the next block behind those that were taken has a fault
abbrev pub MeetsBlock : SeenStore → (blocks : List Block) → WalkedFile → Type 0
MeetsBlock store blocks f = (b : Block) × (more : List Block) × (blocks_of store f ≡ blocks ++ b ∷ more) × (first_block_fault store b ≡ None → ⊥)

-- what of a file stands behind the blocks that were taken: its own fault, before any of its blocks, or a block with a fault
abbrev pub MeetsNext : SeenStore → (first : ℕ) → (blocks : List Block) → ReadingFault → WalkedFile → Type 0
MeetsNext store first blocks g f =
    ((blocks ≡ []) × (f.faults ≡ g ∷ [])) ⊎ ((f.faults ≡ []) × (first ≤ 2 ^ 40) × (first_in_blocks store blocks ≡ None → MeetsBlock store blocks f))

pub record FaultOfFile (P : List Event → Type 0) (store : SeenStore) (held : Option Files) (file first : ℕ) (before : List Event) (g : ReadingFault) : Type 0 where
  pub blocks : List Block
  pub row : ℕ
  pub takes : TakesUpTo P file first before blocks row
  pub own : IsOfFile file first g
  pub next : OfFile store held file first (MeetsNext store first blocks g)
  pub told : OfFile store held file first (λ f. (more : List Block) × (blocks_of store f ≡ blocks ++ more) × (first_of store f ≡ option_or (first_in_blocks store blocks) (Some g)))

pub record StopsInFile (P : List Event → Event → Type 0) (store : SeenStore) (held : Option Files) (file first : ℕ) (before : List Event) : Type 0 where
  pub blocks : List Block
  pub row : ℕ
  pub block : Block
  pub stopped : P (before ++ map a_block blocks) (a_block block)
  pub walks : IsWalk file first first (map a_block blocks) file first row
  pub next : IsWalk file first row (a_block block ∷ []) file first (row + length block.records)
  pub told : OfFile store held file first (λ f. (f.faults ≡ []) × (more : List Block) × (blocks_of store f ≡ blocks ++ block ∷ more))

-- what an outcome says of a file from the row on that comes next
abbrev pub TellsFile : {E : Type 0} → (List Event → Type 0) → (E → List Event → Event → Type 0) → SeenStore → Option Files → (file first : ℕ) → List Event → FileOutcome E → Type 0
TellsFile P Q store held file first before (Ended (Whole n)) = WholeFile P store held file first n before
TellsFile P Q store held file first before (Ended (Reading g)) = FaultOfFile P store held file first before g
TellsFile P Q store held file first before (Ended Failed) = ⊤
TellsFile P Q store held file first before (Ended TooLarge) = ⊤
TellsFile P Q store held file first before (Ended Memory) = ⊤
TellsFile P Q store held file first before (Stopped e) = StopsInFile (Q e) store held file first before

-- ---- ends and causes

-- what is said of an end of a file
abbrev pub IfEnd : {E : Type 0} → FileOutcome E → (FileEnd → Type 0) → Type 0
IfEnd (Ended end) P = P end
IfEnd (Stopped e) P = ⊤

-- the end of a reading, where the row that comes next is 2^40 or above, or not
abbrev pub EndBehind : FileEnd → Bool → FileEnd → Type 0
EndBehind end beyond result = ((result ≡ end) × ((g : ReadingFault) → end ≡ Reading g → beyond ≡ true)) ⊎ (result ≡ Memory)

-- ---- openings

-- the file was opened once; for want of memory it may not have been opened
abbrev pub OpensEnd : List ℕ → (before now : Option (List (List ℕ))) → FileEnd → Type 0
OpensEnd name before now (Whole n) = Adds (name ∷ []) before now
OpensEnd name before now (Reading g) = Adds (name ∷ []) before now
OpensEnd name before now Failed = Adds (name ∷ []) before now
OpensEnd name before now TooLarge = Adds (name ∷ []) before now
OpensEnd name before now Memory = OpensOnce name before now

abbrev pub OpensOne : {E : Type 0} → List ℕ → (before now : Option (List (List ℕ))) → FileOutcome E → Type 0
OpensOne name before now (Ended end) = OpensEnd name before now end
OpensOne name before now (Stopped e) = Adds (name ∷ []) before now
