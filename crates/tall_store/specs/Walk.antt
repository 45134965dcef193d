-- One walk over the files of a datastore: in the order of the list, each with the test of its header and with its data
-- records, and with rows that are numbered on from file to file. The stored columns, the first reading fault, the blocks
-- and the calls of mapreduce are all of this walk: docs/LANGUAGE.md, "Datastores" and "Reading faults".
use Rattle.std.specs.Prelude.{ℕ, ◌+◌, ◌&&◌, not, Bool, true, false, List, [], ◌∷◌, length, Option, None, Some}
use Rattle.std.specs.List.{flat_map}
use Rattle.tall_outside.specs.Shelf.{Files, file_in}
use Rattle.tall_cut.specs.Rows.{Fields}
use Rattle.tall_value.specs.declared.faults.ReadingKind.{ReadingKind}
use Rattle.tall_value.specs.declared.faults.ReadingKind.TheVariants.{NoFile, HeaderDiffers}
use Rattle.tall_store.specs.declared.faults.ReadingFault.{ReadingFault}
use Rattle.tall_store.specs.Stores.{SeenStore}
use Rattle.tall_store.specs.Headers.{begins_with}
use Rattle.tall_store.specs.Records.{DataRecord, data_in, numbered_records, records_in}

-- a file's place in the list, from 0; the row that comes next where it begins, from 1 over all files; what is wrong with
-- the file itself; and its data records
pub record WalkedFile : Type 0 where
  pub file : ℕ
  pub row : ℕ
  pub faults : List ReadingFault
  pub records : List Fields

-- ---- the test of a file

-- a fault of no field
abbrev pub fault_when : Bool → ReadingKind → ℕ → ℕ → List ReadingFault
fault_when false kind file row = []
fault_when true kind file row = record { kind = kind; file = file; row = row; column = 0 } ∷ []

-- it is there, and its header is that of the first file; a fault stands at the row that would come next
abbrev pub file_faults : SeenStore → Option (List ℕ) → ℕ → ℕ → List ReadingFault
file_faults store None file row = fault_when true NoFile file row
file_faults store (Some bytes) file row =
    fault_when (store.header && not (begins_with store.first (records_in store (Some bytes)))) HeaderDiffers file row

-- ---- the walk

-- over files, from a place in the list and a row on
abbrev pub walk_from : SeenStore → Files → ℕ → ℕ → List (List ℕ) → List WalkedFile
walk_from store files file row [] = []
walk_from store files file row (name ∷ names) =
    let bytes = file_in files name in
    let found = data_in store bytes in
    record { file = file; row = row; faults = file_faults store bytes file row; records = found }
    ∷ walk_from store files (file + 1) (row + length found) names

-- over all files of a datastore
abbrev pub walk : SeenStore → Files → List WalkedFile
walk store files = walk_from store files 0 1 store.files

-- ---- records

abbrev pub walked_records : WalkedFile → List DataRecord
walked_records f = numbered_records f.file f.row f.records

-- the data records of files, from a place in the list and a row on
abbrev pub records_from : SeenStore → Files → ℕ → ℕ → List (List ℕ) → List DataRecord
records_from store files file row names = flat_map walked_records (walk_from store files file row names)

-- all of them
abbrev pub all_records : SeenStore → Files → List DataRecord
all_records store files = flat_map walked_records (walk store files)
