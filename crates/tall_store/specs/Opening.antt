-- The opening of a datastore over the files that are there: docs/LANGUAGE.md, "Datastores".
use Rattle.std.specs.Prelude.{◌≡◌, ◌≤◌, ℕ, ◌^◌, ◌&&◌, not, nat_le, if◌then◌else◌, IfSome, List, [], ◌∷◌, get_or, length, Option, None, Some, Result, Ok, Err}
use Rattle.std.specs.List.{list_all}
use Rattle.std.specs.Str.{is_utf8}
use Rattle.tall_outside.specs.Shelf.{Files, file_in}
use Rattle.tall_cut.specs.Rows.{Fields, file_records}
use Rattle.tall_store.specs.declared.format.Format.{Format}
use Rattle.tall_store.specs.declared.faults.StoreFault.{StoreFault}
use Rattle.tall_store.specs.declared.faults.StoreFault.TheVariants.{BadArgument, NoFile, Failed, TooLarge, NoHeader, Memory}
use Rattle.tall_store.specs.Names.{variable_names}
use Rattle.tall_store.specs.Options.{SeenOptions, is_accepted}
use Rattle.tall_store.specs.Choices.{chosen_formats, chosen_places}
use Rattle.tall_store.specs.Stores.{SeenStore}

-- what needs the variables: the names that are selected are there, and there is a format for each variable
abbrev pub opened_store : SeenOptions → Fields → List (List ℕ) → Option (List Format) → Option (List ℕ) → Result SeenStore StoreFault
opened_store o first names (Some formats) (Some selected) = Ok (record {
  files = o.files;
  delimiter = o.delimiter;
  size = o.size;
  missing = o.missing;
  header = o.header;
  names = names;
  formats = formats;
  selected = selected;
  first = first;
})
opened_store o first names (Some formats) None = Err BadArgument
opened_store o first names None selected = Err BadArgument

-- by the names of the variables, and the fields of the first data record
abbrev pub opened_variables : SeenOptions → Fields → Fields → List (List ℕ) → Result SeenStore StoreFault
opened_variables o first fields names =
    opened_store o first names (chosen_formats o.missing fields (length names) o.formats) (chosen_places names o.selected)

-- a header has names in UTF-8; a first record has fewer than 2^20 fields
abbrev pub opened_first : SeenOptions → Fields → Fields → Result SeenStore StoreFault
opened_first o first fields =
    if o.header && not (list_all is_utf8 first) then Err NoHeader
    else if nat_le (2 ^ 20) (length first) then Err BadArgument
    else opened_variables o first fields (variable_names o.header first)

-- the fields of the first record, or none
abbrev pub first_fields : List Fields → Fields
first_fields [] = []
first_fields (record_fields ∷ records) = record_fields

-- by the records of the first file
abbrev pub opened_records : SeenOptions → List Fields → Result SeenStore StoreFault
opened_records o [] = Err NoHeader
opened_records o (first ∷ rest) = opened_first o first (if o.header then first_fields rest else first)

-- by the bytes of the first file
abbrev pub opened_file : SeenOptions → Option (List ℕ) → Result SeenStore StoreFault
opened_file o None = Err NoFile
opened_file o (Some bytes) = opened_records o (file_records o.delimiter bytes)

-- the name of the first file; there is one in options that are accepted
abbrev pub first_name : List (List ℕ) → List ℕ
first_name names = get_or names 0 []

-- the datastore of these options over these files
abbrev pub opening : Files → SeenOptions → Result SeenStore StoreFault
opening files o = if is_accepted o then opened_file o (file_in files (first_name o.files)) else Err BadArgument

-- the first file is no longer than 2^50 bytes
abbrev pub IsWithin : Files → SeenOptions → Type 0
IsWithin files o = IfSome (file_in files (first_name o.files)) (λ bytes. length bytes ≤ 2 ^ 50)

-- an answer is what is due; where a file could not be read, and for want of memory, it is free
abbrev pub Opens : Result SeenStore StoreFault → Result SeenStore StoreFault → Type 0
Opens due (Ok store) = due ≡ Ok store
Opens due (Err BadArgument) = due ≡ Err BadArgument
Opens due (Err NoFile) = due ≡ Err NoFile
Opens due (Err Failed) = Unit {0}
Opens due (Err TooLarge) = Unit {0}
Opens due (Err NoHeader) = due ≡ Err NoHeader
Opens due (Err Memory) = Unit {0}
