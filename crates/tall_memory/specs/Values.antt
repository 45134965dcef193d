-- What a clause sees of values in memory, kept and lent, and what answers a word of the definitions.
use Rattle.std.specs.Prelude.{◌≡◌, Result, Ok, Err}
use Rattle.tall_column.specs.declared.table.Value.{Value}
use Rattle.tall_column.specs.declared.table.Value.TheVariants as kept
use Rattle.tall_value.specs.Cells.{seen}
use Rattle.tall_value.specs.OwnedCells.{owned_seen}
use Rattle.tall_local.specs.Memory.{Memory, scalar, column, table, texts}
use Rattle.tall_local.specs.Refusals.{Refusal, undefined, mixed_class, bad_class, bad_size, bad_argument, bad_index, failed}
use Rattle.tall_memory.specs.declared.faults.MemoryFault.{MemoryFault}
use Rattle.tall_memory.specs.declared.faults.MemoryFault.TheVariants as fault
use Rattle.tall_memory.specs.declared.values.MemoryRef.{MemoryRef}
use Rattle.tall_memory.specs.declared.values.MemoryRef.TheVariants as lent
use Rattle.tall_memory.specs.declared.values.MemoryValue.{MemoryValue}
use Rattle.tall_memory.specs.declared.values.MemoryValue.TheVariants as value

abbrev pub shown_value : Value → Memory
shown_value (kept.Scalar o) = scalar (owned_seen o)
shown_value (kept.Column c) = column c
shown_value (kept.Table t) = table t

abbrev pub value_seen : MemoryValue → Memory
value_seen (value.Value v) = shown_value v
value_seen (value.Texts ts) = texts ts

abbrev pub ref_seen : MemoryRef → Memory
ref_seen (lent.Scalar c) = scalar (seen c)
ref_seen (lent.Column c) = column c.now
ref_seen (lent.Table t) = table t.now
ref_seen (lent.Texts ts) = texts ts.now

-- an answer to what the definitions give; want of memory may come at any time
abbrev pub Gives : Result Memory Refusal → Result MemoryValue MemoryFault → Type 0
Gives want (Ok v) = want ≡ Ok (value_seen v)
Gives want (Err (fault.Undefined name)) = want ≡ Err (undefined name)
Gives want (Err fault.MixedClass) = want ≡ Err mixed_class
Gives want (Err fault.BadClass) = want ≡ Err bad_class
Gives want (Err fault.BadSize) = want ≡ Err bad_size
Gives want (Err fault.BadArgument) = want ≡ Err bad_argument
Gives want (Err fault.BadIndex) = want ≡ Err bad_index
Gives want (Err (fault.Data row kind)) = want ≡ Err (failed row kind)
Gives want (Err fault.Memory) = Unit {0}

-- the same of a value that is lent
abbrev pub Lends : Result Memory Refusal → Result MemoryRef MemoryFault → Type 0
Lends want (Ok v) = want ≡ Ok (ref_seen v)
Lends want (Err (fault.Undefined name)) = want ≡ Err (undefined name)
Lends want (Err fault.MixedClass) = want ≡ Err mixed_class
Lends want (Err fault.BadClass) = want ≡ Err bad_class
Lends want (Err fault.BadSize) = want ≡ Err bad_size
Lends want (Err fault.BadArgument) = want ≡ Err bad_argument
Lends want (Err fault.BadIndex) = want ≡ Err bad_index
Lends want (Err (fault.Data row kind)) = want ≡ Err (failed row kind)
Lends want (Err fault.Memory) = Unit {0}
