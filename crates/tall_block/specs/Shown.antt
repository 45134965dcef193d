-- What columns of a block tell of outcomes, whose rows carry the row numbers of the datastore: a column counts its rows from 0.
use Rattle.std.specs.Prelude.{◌≡◌, ◌<◌, Some, Result, Ok, Err, List, length}
use Rattle.tall_value.specs.Cells.{Seen}
use Rattle.tall_value.specs.Columns.{cells}
use Rattle.tall_value.specs.Reductions.{data_fault}
use Rattle.tall_dense.specs.Columns.{SeenColumn}
use Rattle.tall_dense.specs.declared.faults.OpFault.{OpFault}
use Rattle.tall_dense.specs.declared.faults.OpFault.TheVariants as op_fault
use Rattle.tall_semantics.specs.Faults.{At, fault_at}
use Rattle.tall_semantics.specs.Outcomes.{Outcome, rows, fault}
use Rattle.tall_blocks.specs.Carries.{Rows}
use Rattle.tall_blocks.specs.RowPlaces.{row_number_at}

-- the outcome has rows with these cells
abbrev pub Shows : Outcome → List Seen → Type 0
Shows (rows rs) cs = cells rs ≡ cs
Shows x cs = ⊥

-- what an operation over the rows rs answers tells of the outcome of the expression `at`: a column shows it, and a fault is at one
-- of the rows; want of memory tells nothing
abbrev pub Tells : At → (rs : Rows) → Outcome → Result SeenColumn OpFault → Type 0
Tells at rs x (Ok column) = Shows x column.cells
Tells at rs x (Err (op_fault.At row e)) = (row < length rs) × (x ≡ fault (fault_at at (Some (row_number_at rs row)) (data_fault e)))
Tells at rs x (Err op_fault.Memory) = Unit {0}
