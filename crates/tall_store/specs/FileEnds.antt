-- One file of the walk over a datastore's files, and how its reading ends.
use Rattle.std.specs.Prelude.{◌≡◌, ◌<◌, ◌≤◌, ◌^◌, ◌⊎◌, ◌&&◌, not, ℕ, ◌+◌, if◌then◌else◌, IfSome, IsSomeAnd, List, [], ◌∷◌, drop, get_or, length, Option, None, Some, ⊤}
use Rattle.tall_outside.specs.Count.{Rose}
use Rattle.tall_outside.specs.Shelf.{Files, file_in}
use Rattle.tall_outside.specs.ShelfCounts.{Counts}
use Rattle.tall_cut.specs.declared.feed.FeedFault.{FeedFault}
use Rattle.tall_cut.specs.declared.feed.FeedFault.TheVariants as feed
use Rattle.tall_cut.specs.Feed.{counted}
use Rattle.tall_cut.specs.Rows.{Fields}
use Rattle.tall_value.specs.declared.faults.ReadingKind.{ReadingKind}
use Rattle.tall_value.specs.declared.faults.ReadingKind.TheVariants.{NoFile, HeaderDiffers, TooManyRows}
use Rattle.tall_store.specs.declared.faults.ReadingFault.{ReadingFault}
use Rattle.tall_store.specs.declared.file_end.FileEnd.{FileEnd}
use Rattle.tall_store.specs.declared.file_end.FileEnd.TheVariants.{Whole, Reading, Failed, TooLarge, Memory}
use Rattle.tall_store.specs.Stores.{SeenStore}
use Rattle.tall_store.specs.Headers.{begins_with}
use Rattle.tall_store.specs.Records.{data_in}
use Rattle.tall_store.specs.Walk.{WalkedFile, fault_when, file_faults, walk_from}

-- the name of the file at a place in the list, from 0
abbrev pub name_of_file : SeenStore → ℕ → List ℕ
name_of_file store file = get_or store.files file []

-- the file at a place, where a row comes next: a step of the walk
abbrev pub walked_file : SeenStore → Files → ℕ → ℕ → WalkedFile
walked_file store files file row =
    let bytes = file_in files (name_of_file store file) in
    record { file = file; row = row; faults = file_faults store bytes file row; records = data_in store bytes }

-- the walk from a place on is that file, and the walk behind it
abbrev pub FilesFollow : Type 0
FilesFollow = (store : SeenStore) (files : Files) (file row : ℕ) → file < length store.files
    → walk_from store files file row (drop file store.files)
    ≡ walked_file store files file row ∷ walk_from store files (file + 1) (row + length (walked_file store files file row).records) (drop (file + 1) store.files)

-- ---- faults of a file itself

abbrev pub fault_at : ReadingKind → ℕ → ℕ → ReadingFault
fault_at kind file row = record { kind = kind; file = file; row = row; column = 0 }

-- the record numbered 2^40 is in this file
abbrev pub too_many : ℕ → ReadingFault
too_many file = fault_at TooManyRows file (2 ^ 40)

-- ---- the header

-- all records of a file without its header
abbrev pub data_of : SeenStore → List Fields → List Fields
data_of store records = if store.header then drop 1 records else records

abbrev pub header_faults : SeenStore → List Fields → ℕ → ℕ → List ReadingFault
header_faults store records file row = fault_when (store.header && not (begins_with store.first records)) HeaderDiffers file row

-- what the test of a header answers, and what is left behind it; a reading that breaks off says nothing
abbrev pub ChecksHeader : SeenStore → ℕ → ℕ → List Fields → Option FileEnd → Option (List Fields) → Type 0
ChecksHeader store file row records None left = (header_faults store records file row ≡ []) × (left ≡ Some (data_of store records))
ChecksHeader store file row records (Some (Whole n)) left = ⊥
ChecksHeader store file row records (Some (Reading fault)) left = header_faults store records file row ≡ fault ∷ []
ChecksHeader store file row records (Some Failed) left = ⊤
ChecksHeader store file row records (Some TooLarge) left = ⊤
ChecksHeader store file row records (Some Memory) left = ⊤

-- ---- ends

-- the reading broke off
abbrev pub IsCause : FileEnd → Type 0
IsCause (Whole n) = ⊥
IsCause (Reading fault) = ⊥
IsCause Failed = ⊤
IsCause TooLarge = ⊤
IsCause Memory = ⊤

-- why a file was not opened
abbrev pub NotOpened : ℕ → ℕ → FeedFault → FileEnd → Type 0
NotOpened file row feed.NoSuch end = end ≡ Reading (fault_at NoFile file row)
NotOpened file row feed.Failed end = end ≡ Failed
NotOpened file row feed.Memory end = end ≡ Memory

-- a file that is not read from its first row on: it isn't there, its header differs, or the reading broke off
abbrev pub IsAtFront : ℕ → ℕ → FileEnd → Type 0
IsAtFront file row (Whole n) = ⊥
IsAtFront file row (Reading fault) = (fault ≡ fault_at NoFile file row) ⊎ (fault ≡ fault_at HeaderDiffers file row)
IsAtFront file row Failed = ⊤
IsAtFront file row TooLarge = ⊤
IsAtFront file row Memory = ⊤

-- what an opening says of a file of the walk: it has no fault of its own, and all of its data records are left
abbrev pub OpensFile : WalkedFile → Option (List Fields) → Type 0
OpensFile walked left = (walked.faults ≡ []) × (left ≡ Some walked.records)

-- what a refused opening says of a file of the walk: it has a fault of its own; a reading that broke off says nothing
abbrev pub RefusesFile : WalkedFile → FileEnd → Type 0
RefusesFile walked (Whole n) = ⊥
RefusesFile walked (Reading fault) = walked.faults ≡ fault ∷ []
RefusesFile walked Failed = ⊤
RefusesFile walked TooLarge = ⊤
RefusesFile walked Memory = ⊤

-- all of the file was read only where one opening may read it, where its size is told
abbrev pub IsReadWhole : FileEnd → Option ℕ → Type 0
IsReadWhole (Whole n) size = IfSome size (λ bytes. counted bytes ≤ 2 ^ 50)
IsReadWhole end size = ⊤

-- the counts that an end blames have risen
abbrev pub EndExplained : FileEnd → Counts → Counts → Type 0
EndExplained (Whole n) before after = ⊤
EndExplained (Reading fault) before after = (fault.kind ≡ NoFile) → Rose before.misses after.misses
EndExplained Failed before after = Rose before.faults after.faults
EndExplained TooLarge before after = 2 ^ 50 < after.came
EndExplained Memory before after = ⊤

-- a file is too large only where it is longer than one opening may be, where its size is told
abbrev pub EndLonger : FileEnd → Option ℕ → Type 0
EndLonger end size = (end ≡ TooLarge) → IfSome size (λ n. 2 ^ 50 < n)

-- a file is there, and longer than one opening may be
abbrev pub IsTooLong : Files → List ℕ → Type 0
IsTooLong files name = IsSomeAnd (file_in files name) (λ bytes. 2 ^ 50 < length bytes)

-- the same of a file of this name, where the shelf tells
abbrev pub EndTooLong : Option Files → List ℕ → FileEnd → Type 0
EndTooLong held name end = (end ≡ TooLarge) → IfSome held (λ files. IsTooLong files name)
