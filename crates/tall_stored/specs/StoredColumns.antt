-- The columns of datastores' files as values of a graph: what each comes to, and when the columns of a graph's vertices
-- are those of some files. docs/LANGUAGE.md, "Reading faults".
use Rattle.std.specs.Prelude.{◌≡◌, ◌<◌, ℕ, List, [], length, map, get_or, slice_get, Option, None, Some, Result, Ok, Err}
use Rattle.tall_outside.specs.Shelf.{Files}
use Rattle.tall_value.specs.declared.class.Class.{Class}
use Rattle.tall_value.specs.Cells.{Seen}
use Rattle.tall_semantics.specs.Operations.{stored}
use Rattle.tall_semantics.specs.Faults.{At, Fault, reading}
use Rattle.tall_semantics.specs.Outcomes.{Outcome, rows, fault}
use Rattle.tall_semantics.specs.Talls.{Columns}
use Rattle.tall_semantics.specs.Deferred.{Vertex}
use Rattle.tall_store.specs.declared.faults.ReadingFault.{ReadingFault}
use Rattle.tall_store.specs.Formats.{class_of_format}
use Rattle.tall_store.specs.Stores.{SeenStore, format_at}
use Rattle.tall_store.specs.Records.{DataRecord}
use Rattle.tall_store.specs.Walk.{all_records}
use Rattle.tall_store.specs.Stored.{stored_column}

-- a datastore, with the number and the line of the call that made it or, for one that a property statement made, of the
-- call that made the datastore which it was
pub record Store : Type 0 where
  pub at : At
  pub store : SeenStore

-- ---- one column

-- a reading fault of the datastore at a place, with the number and the line of the datastore's call
abbrev pub fault_of_reading : (place : ℕ) → At → ReadingFault → Fault
fault_of_reading place at f =
    record { number = at.number; row = Some f.row; column = f.column; store = place; cause = reading f.kind f.file; line = at.line }

-- of the datastore at a place
abbrev pub stored_outcome : (place : ℕ) → At → Result (List (ℕ × Seen)) ReadingFault → Outcome
stored_outcome place at (Ok rs) = rows rs
stored_outcome place at (Err f) = fault (fault_of_reading place at f)

-- of the variable at a place of the selection
abbrev pub column_outcome : Files → (place : ℕ) → Store → (variable : ℕ) → Outcome
column_outcome files place d variable = stored_outcome place d.at (stored_column d.store files variable)

abbrev pub variable_class : SeenStore → (variable : ℕ) → Class
variable_class store variable = class_of_format (format_at store (get_or store.selected variable 0))

-- ---- the columns of a graph

-- a vertex is a variable of a datastore: that is there and has the vertex's number and line, the variable is selected and
-- has the class, and the column is what the files give
pub record IsColumn (files : Files) (stores : List Store) (columns : Columns) (at : At) (place variable : ℕ) (class : Class) : Type 0 where
  pub found : Store
  pub there : slice_get stores place ≡ Some found
  pub called : at ≡ found.at
  pub selected : variable < length found.store.selected
  pub kind : class ≡ variable_class found.store variable
  pub told : columns place variable ≡ column_outcome files place found variable

-- so are all that are variables of datastores
abbrev pub AreStored : Files → List Store → List Vertex → Columns → Type 0
AreStored files stores vs columns =
    (i : ℕ) (v : Vertex) (place variable : ℕ) (class : Class) → slice_get vs i ≡ Some v → v.made ≡ stored place variable class
    → IsColumn files stores columns v.at place variable class

-- the numbers of a datastore's rows, from 1 on over all its files
abbrev pub rows_of_store : Files → Option Store → List ℕ
rows_of_store files None = []
rows_of_store files (Some d) = map (λ (r : DataRecord). r.row) (all_records d.store files)

abbrev pub rows_of_stores : Files → List Store → ℕ → List ℕ
rows_of_stores files stores place = rows_of_store files (slice_get stores place)
