-- The data records of a file of a datastore: docs/LANGUAGE.md, "Datastores".
use Rattle.std.specs.Prelude.{ℕ, ◌+◌, if◌then◌else◌, List, [], ◌∷◌, drop, Option, None, Some}
use Rattle.tall_cut.specs.Rows.{Fields, file_records}
use Rattle.tall_store.specs.Stores.{SeenStore}

-- the place of its file in the list, from 0; its row, from 1 over all files; and its fields
pub record DataRecord : Type 0 where
  pub file : ℕ
  pub row : ℕ
  pub fields : Fields

-- records of a file, from a row on
abbrev pub numbered_records : ℕ → ℕ → List Fields → List DataRecord
numbered_records file row [] = []
numbered_records file row (fields ∷ records) = record { file = file; row = row; fields = fields } ∷ numbered_records file (row + 1) records

-- the records of a file: those of its bytes
abbrev pub records_in : SeenStore → Option (List ℕ) → List Fields
records_in store None = []
records_in store (Some bytes) = file_records store.delimiter bytes

-- without the header
abbrev pub data_in : SeenStore → Option (List ℕ) → List Fields
data_in store bytes = if store.header then drop 1 (records_in store bytes) else records_in store bytes
