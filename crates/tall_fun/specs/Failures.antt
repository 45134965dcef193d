-- What a failure inside a function names: none where there is no memory.
use Rattle.std.specs.Prelude.{Option, None, Some, option_map}
use Rattle.tall_local.specs.Refusals.{Refusal, undefined, mixed_class, bad_class, bad_size, bad_argument, bad_index, failed, no_value_left, no_progress, too_many_turns, bad_key, bad_value, too_many_rows, Stop, stop_at}
use Rattle.tall_kv.specs.declared.faults.PairFault.{PairFault}
use Rattle.tall_kv.specs.declared.faults.PairFault.TheVariants as pair
use Rattle.tall_memory.specs.declared.faults.MemoryFault.{MemoryFault}
use Rattle.tall_memory.specs.declared.faults.MemoryFault.TheVariants as fault
use Rattle.tall_fun.specs.declared.failures.Refused.{Refused}
use Rattle.tall_fun.specs.declared.failures.Refused.TheVariants as refused
use Rattle.tall_fun.specs.declared.failures.Failure.{Failure}

abbrev pub memory_refusal : MemoryFault → Option Refusal
memory_refusal (fault.Undefined name) = Some (undefined name)
memory_refusal fault.MixedClass = Some mixed_class
memory_refusal fault.BadClass = Some bad_class
memory_refusal fault.BadSize = Some bad_size
memory_refusal fault.BadArgument = Some bad_argument
memory_refusal fault.BadIndex = Some bad_index
memory_refusal (fault.Data row kind) = Some (failed row kind)
memory_refusal fault.Memory = None

abbrev pub refusal_of : Refused → Option Refusal
refusal_of (refused.Value f) = memory_refusal f
refusal_of refused.EndOfValues = Some no_value_left
refusal_of refused.NoProgress = Some no_progress
refusal_of refused.TooManyTurns = Some too_many_turns
refusal_of refused.KeyClass = Some bad_key
refusal_of refused.ValueClass = Some bad_value
refusal_of refused.TooManyRows = Some too_many_rows

abbrev pub stop_of : Failure → Option Stop
stop_of f = option_map (stop_at f.line) (refusal_of f.refused)

-- the same of a pair that a store refuses
abbrev pub pair_stop : PairFault → Option Stop
pair_stop (pair.KeyClass line) = Some (stop_at line bad_key)
pair_stop (pair.ValueClass line) = Some (stop_at line bad_value)
pair_stop (pair.TooManyRows line) = Some (stop_at line too_many_rows)
pair_stop pair.Memory = None
