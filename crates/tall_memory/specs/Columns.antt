-- Operators over the rows of columns in memory, which are numbered from 1.
use Rattle.std.specs.Prelude.{ℕ, ◌≡◌, ◌<◌, ◌+◌, Bool, true, false, Some, Result, Ok, Err}
use Rattle.tall_value.specs.declared.class.Kind.{Kind}
use Rattle.tall_value.specs.declared.faults.ClassFault.{ClassFault}
use Rattle.tall_value.specs.declared.operators.Binary.{Binary}
use Rattle.tall_value.specs.Cells.{Seen, seen_kind}
use Rattle.tall_value.specs.ClassTables.{binary_kind}
use Rattle.tall_value.specs.Reductions.{data_fault}
use Rattle.tall_column.specs.Columns.{SeenColumn}
use Rattle.tall_dense.specs.declared.faults.OpFault.{OpFault}
use Rattle.tall_dense.specs.declared.faults.OpFault.TheVariants as op
use Rattle.tall_local.specs.Memory.{column, kind_of_column}
use Rattle.tall_memory.specs.declared.faults.MemoryFault.{MemoryFault}
use Rattle.tall_memory.specs.declared.faults.MemoryFault.TheVariants as fault
use Rattle.tall_memory.specs.declared.values.MemoryValue.{MemoryValue}
use Rattle.tall_memory.specs.Values.{value_seen}

-- the class of a column and a scalar, which is the left operand where the flag is set
abbrev pub beside_kind : Binary → Bool → Seen → SeenColumn → Result Kind ClassFault
beside_kind op true c x = binary_kind op (seen_kind c) true (kind_of_column x) false
beside_kind op false c x = binary_kind op (kind_of_column x) false (seen_kind c) true

-- a fault at one of so many rows
abbrev pub IsFaultBelow : {A : Type 0} → ℕ → Result A OpFault → Type 0
IsFaultBelow rows (Ok a) = Unit {0}
IsFaultBelow rows (Err (op.At row e)) = row < rows
IsFaultBelow rows (Err op.Memory) = Unit {0}

-- the answer for what a loop over rows answers, whose rows are numbered from 0
abbrev pub IsOfColumn : Result SeenColumn OpFault → Result MemoryValue MemoryFault → Type 0
IsOfColumn (Ok x) (Ok v) = value_seen v ≡ column x
IsOfColumn (Err (op.At row e)) (Err f) = f ≡ fault.Data (Some (row + 1)) (data_fault e)
IsOfColumn (Err op.Memory) (Err f) = f ≡ fault.Memory
IsOfColumn computed r = ⊥
