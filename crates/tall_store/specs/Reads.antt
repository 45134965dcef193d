-- The faults of some records, first those of the records and then variable by variable.
use Rattle.std.specs.Prelude.{◌≡◌, ℕ, nat_lt, List, [], ◌∷◌, length, Option, Some, Result, Ok, Err}
use Rattle.std.specs.List.{filter_map, flat_map}
use Rattle.std.specs.Result.{result_err}
use Rattle.tall_column.specs.Columns.{SeenColumn}
use Rattle.tall_store.specs.declared.faults.ColumnsFault.{ColumnsFault}
use Rattle.tall_store.specs.declared.faults.ColumnsFault.TheVariants.{Reading, Memory}
use Rattle.tall_store.specs.declared.faults.ReadingFault.{ReadingFault}
use Rattle.tall_value.specs.declared.faults.ReadingKind.TheVariants.{TooManyFields}
use Rattle.tall_store.specs.Formats.{class_of_format}
use Rattle.tall_store.specs.Stores.{SeenStore, format_at}
use Rattle.tall_store.specs.Records.{DataRecord}
use Rattle.tall_store.specs.ReadingOrder.{earlier_of, first_reading_fault}
use Rattle.tall_store.specs.Stored.{cells_at, value_at}
use Rattle.tall_store.specs.Walk.{fault_when}

-- of the numbers of fields
abbrev pub width_faults : SeenStore → DataRecord → List ReadingFault
width_faults store r = fault_when (nat_lt (length store.names) (length r.fields)) TooManyFields r.file r.row

abbrev pub first_width_fault : SeenStore → List DataRecord → Option ReadingFault
first_width_fault store records = first_reading_fault (flat_map (width_faults store) records)

-- of the fields of the variable at a place among all
abbrev pub column_faults : SeenStore → List DataRecord → ℕ → List ReadingFault
column_faults store records place = filter_map (λ r. result_err (value_at store place r)) records

-- the first of a fault and those of variables
abbrev pub first_of_columns : SeenStore → List DataRecord → Option ReadingFault → List ℕ → Option ReadingFault
first_of_columns store records fault [] = fault
first_of_columns store records fault (place ∷ places) =
    first_of_columns store records (earlier_of fault (first_reading_fault (column_faults store records place))) places

abbrev pub column_at : SeenStore → List DataRecord → ℕ → SeenColumn
column_at store records place = record { class = class_of_format (format_at store place); cells = cells_at store records place }

-- what is read of a variable: its column where it has no fault, or the first fault; for want of memory neither
abbrev pub ReadsColumn : SeenStore → List DataRecord → ℕ → Result SeenColumn ColumnsFault → Type 0
ReadsColumn store records place (Ok column) = (column ≡ column_at store records place) × (column_faults store records place ≡ [])
ReadsColumn store records place (Err (Reading fault)) = first_reading_fault (column_faults store records place) ≡ Some fault
ReadsColumn store records place (Err Memory) = Unit {0}

-- an answer is what is due; for want of memory it is free
abbrev pub Answers : {A : Type 0} → Result A ReadingFault → Result A ColumnsFault → Type 0
Answers due (Ok a) = due ≡ Ok a
Answers due (Err (Reading fault)) = due ≡ Err fault
Answers due (Err Memory) = Unit {0}
