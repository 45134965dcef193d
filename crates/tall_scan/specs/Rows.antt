-- The records of a file and of a text, by `csv`'s own definition, and those that a reader has left.
use Rattle.std.specs.Prelude.{◌≡◌, ◌+◌, ◌||◌, ℕ, List, [], ◌∷◌, ◌++◌, Option, None, Some, true, false, length, option_map, ⊤}
use Rattle.std.specs.Option.{is_none}
use Rattle.csv.specs.declared.parser.Config.{Config}
use Rattle.csv.specs.declared.parser.State.{State}
use Rattle.csv.specs.declared.reader.Reader.{Reader}
use Rattle.csv.specs.declared.reader.Trim.TheVariants as trim
use Rattle.csv.specs.Reading.{default_config, is_flexible, names_headers, reader_config, reader_headers, reader_state, reader_trim, records, records_from, source_of, strip_bom, took_first}

-- a record: its fields, each a list of bytes
abbrev pub Fields : Type 0
Fields = List (List ℕ)

-- comma-separated values with another byte between fields
abbrev pub delimited : ℕ → Config
delimited delimiter = record default_config { delimiter = delimiter }

-- all records of a file: its bytes without a byte order mark in front, read with this delimiter
abbrev pub file_records : ℕ → List ℕ → List Fields
file_records delimiter bytes = records (delimited delimiter) (strip_bom bytes)

-- all records of a text that is no file's front: a byte order mark at its front is a part of its first field
abbrev pub text_records : ℕ → List ℕ → List Fields
text_records delimiter bytes = records (delimited delimiter) bytes

-- the records of a text from a state
abbrev pub rows_from : Config → State → List ℕ → List Fields
rows_from cfg s xs = records_from cfg (length xs + 1) s xs

-- the records that a reader has left, where its bytes are known
abbrev pub records_left : {R : Type 0} → (R → Option (List ℕ)) → Reader R → Option (List Fields)
records_left rem r = option_map (λ xs. rows_from (reader_config r) (reader_state r) xs) (source_of rem r)

-- the first of the records that were left is this one, and the others are left
abbrev pub Takes : Option (List Fields) → Fields → Option (List Fields) → Type 0
Takes None fields new = ⊤
Takes (Some []) fields new = ⊥
Takes (Some (row ∷ rows)) fields new = (fields ≡ row) × (new ≡ Some rows)

-- the records that were left are these, and then those that are left now
abbrev pub TakesMany : Option (List Fields) → List Fields → Option (List Fields) → Type 0
TakesMany None taken new = ⊤
TakesMany (Some rows) taken None = ⊥
TakesMany (Some rows) taken (Some rest) = rows ≡ taken ++ rest

-- no record is left, where that is known
abbrev pub NoneLeft : Option (List Fields) → Type 0
NoneLeft None = ⊤
NoneLeft (Some rows) = rows ≡ []

-- a reader of records of any lengths, each as it stands in the text, with no header row of its own
abbrev pub IsCutting : {R : Type 0} → Reader R → Type 0
IsCutting r = (reader_trim r ≡ trim.None) × (is_flexible r ≡ true) × (names_headers r ≡ false)
    × ((took_first r || is_none (reader_headers r)) ≡ true)
