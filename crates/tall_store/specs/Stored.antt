-- The stored columns of a datastore over whole files, or its first reading fault: docs/LANGUAGE.md, "Reading faults".
use Rattle.std.specs.Prelude.{ℕ, ◌+◌, ◌^◌, nat_le, nat_lt, List, [], ◌++◌, map, length, get_or, Option, None, Some, Result, Ok, Err}
use Rattle.std.specs.List.{filter_map, flat_map}
use Rattle.std.specs.Result.{result_map_both, result_ok, result_err}
use Rattle.tall_outside.specs.Shelf.{Files}
use Rattle.tall_value.specs.Cells.{Seen}
use Rattle.tall_value.specs.Columns.{numbered}
use Rattle.tall_column.specs.Columns.{SeenColumn}
use Rattle.tall_store.specs.declared.faults.ReadingFault.{ReadingFault}
use Rattle.tall_value.specs.declared.faults.ReadingKind.TheVariants.{TooManyRows, TooManyFields}
use Rattle.tall_store.specs.Formats.{class_of_format}
use Rattle.tall_store.specs.Fields.{field_value}
use Rattle.tall_store.specs.Stores.{SeenStore, format_at, name_at}
use Rattle.tall_store.specs.Records.{DataRecord}
use Rattle.tall_store.specs.Walk.{all_records, fault_when, walk, walk_from}
use Rattle.tall_store.specs.ReadingOrder.{first_reading_fault}

-- ---- values

-- the value of the variable at a place among all, which has the column after it; a field that the record lacks is empty
abbrev pub value_at : SeenStore → ℕ → DataRecord → Result Seen ReadingFault
value_at store place r =
    result_map_both (λ cell. cell) (λ kind. record { kind = kind; file = r.file; row = r.row; column = place + 1 })
    (field_value (format_at store place) store.missing (get_or r.fields place []))

-- the cells of the variable at a place, where no fault stands
abbrev pub cells_at : SeenStore → List DataRecord → ℕ → List Seen
cells_at store records place = filter_map (λ r. result_ok (value_at store place r)) records

-- ---- faults

-- of a record: its row is below 2^40, it has no more fields than the file has variables, and each selected field has a
-- value
abbrev pub record_faults : SeenStore → DataRecord → List ReadingFault
record_faults store r =
    fault_when (nat_le (2 ^ 40) r.row) TooManyRows r.file r.row
    ++ (fault_when (nat_lt (length store.names) (length r.fields)) TooManyFields r.file r.row
    ++ filter_map (λ place. result_err (value_at store place r)) store.selected)

-- of files themselves, from a place in the list and a row on
abbrev pub file_faults_from : SeenStore → Files → ℕ → ℕ → List (List ℕ) → List ReadingFault
file_faults_from store files file row names = flat_map (λ f. f.faults) (walk_from store files file row names)

-- all faults of a datastore
abbrev pub all_faults : SeenStore → Files → List ReadingFault
all_faults store files = flat_map (λ f. f.faults) (walk store files) ++ flat_map (record_faults store) (all_records store files)

-- the first of them
abbrev pub first_fault : SeenStore → Files → Option ReadingFault
first_fault store files = first_reading_fault (all_faults store files)

-- ---- columns

-- what is there, unless there is a fault
abbrev pub unless_fault : {A : Type 0} → Option ReadingFault → A → Result A ReadingFault
unless_fault None a = Ok a
unless_fault (Some fault) a = Err fault

-- the stored column of the variable at place v of the selection, with its row numbers, or the first reading fault of
-- the datastore over all its selected variables
abbrev pub stored_column : SeenStore → Files → ℕ → Result (List (ℕ × Seen)) ReadingFault
stored_column store files v =
    unless_fault (first_fault store files) (numbered 1 (cells_at store (all_records store files) (get_or store.selected v 0)))

-- a variable with its name and its cells of some records
abbrev pub variable_of : SeenStore → List DataRecord → ℕ → List ℕ × SeenColumn
variable_of store records place =
    (name_at store place, record { class = class_of_format (format_at store place); cells = cells_at store records place })

-- the selected variables of some records, in the order of the selection
abbrev pub variables_of : SeenStore → List DataRecord → List (List ℕ × SeenColumn)
variables_of store records = map (variable_of store records) store.selected

-- the stored columns of all selected variables as a table, or the first reading fault
abbrev pub stored_table : SeenStore → Files → Result (List (List ℕ × SeenColumn)) ReadingFault
stored_table store files = unless_fault (first_fault store files) (variables_of store (all_records store files))
