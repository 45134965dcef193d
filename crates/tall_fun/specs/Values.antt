-- What a clause sees of values inside a function, and what answers the definitions' words on them.
use Rattle.std.specs.Prelude.{◌≡◌, ℕ, Bool, true, false, if◌then◌else◌, List, [], ◌∷◌, drop, Option, None, Some, option_and_then, Result, Ok, Err}
use Rattle.tall_local.specs.Arguments as arguments
use Rattle.tall_local.specs.Arguments.{value_given}
use Rattle.tall_local.specs.Functions.{local_functions}
use Rattle.tall_local.specs.declared.functions.LocalFunction.{LocalFunction}
use Rattle.tall_local.specs.Locals.{Held, value, store, iterator, no_value, memory_of}
use Rattle.tall_local.specs.Refusals.{Refusal, Stop, stop_at}
use Rattle.tall_memory.specs.declared.faults.MemoryFault.{MemoryFault}
use Rattle.tall_memory.specs.Values.{value_seen}
use Rattle.tall_local.specs.Memory.{Memory, column, table, texts}
use Rattle.tall_fun.specs.declared.failures.Failure.{Failure}
use Rattle.tall_fun.specs.declared.values.LocalValue.{LocalValue}
use Rattle.tall_fun.specs.declared.values.LocalValue.TheVariants as local
use Rattle.tall_fun.specs.Failures.{memory_refusal, stop_of}

abbrev pub held_seen : LocalValue → Held
held_seen (local.Kept v) = value (value_seen v)
held_seen (local.Column x) = value (column x.now)
held_seen (local.Table t) = value (table t.now)
held_seen (local.Texts ts) = value (texts ts.now)
held_seen local.Store = store
held_seen local.Iterator = iterator
held_seen local.NoValue = no_value

-- an answer to what the definitions give; want of memory may come at any time
abbrev pub GivesHeld : Result Held Refusal → Result LocalValue MemoryFault → Type 0
GivesHeld want (Ok v) = want ≡ Ok (held_seen v)
GivesHeld want (Err f) = (r : Refusal) → memory_refusal f ≡ Some r → want ≡ Err r

-- the same on a line
abbrev pub AnswersAt : (line : ℕ) → Result Held Refusal → Result LocalValue Failure → Type 0
AnswersAt line want (Ok v) = want ≡ Ok (held_seen v)
AnswersAt line want (Err f) = (stop : Stop) → stop_of f ≡ Some stop → (r : Refusal) × (want ≡ Err r) × (stop_at line r ≡ stop)

-- ---- arguments

abbrev pub is_colon : arguments.Argument Held → Bool
is_colon arguments.colon = true
is_colon a = false

abbrev pub memory_given : arguments.Argument Held → Option Memory
memory_given a = option_and_then memory_of (value_given a)

abbrev pub is_one_colon : List (arguments.Argument Held) → Bool
is_one_colon (arguments.colon ∷ []) = true
is_one_colon args = false

abbrev pub only_value : List (arguments.Argument Held) → Option Held
only_value (a ∷ []) = value_given a
only_value args = None

abbrev pub value_before_colon : List (arguments.Argument Held) → Option Held
value_before_colon (a ∷ args) = if is_one_colon args then value_given a else None
value_before_colon [] = None

-- the functions that stand in functions alone, or in scripts alone
abbrev pub own_functions : List (List ℕ × LocalFunction)
own_functions = drop 35 local_functions

-- an answer of another type
abbrev pub AnswersOf : {A : Type 0} → Result A Refusal → Result A MemoryFault → Type 0
AnswersOf want (Ok a) = want ≡ Ok a
AnswersOf want (Err f) = (r : Refusal) → memory_refusal f ≡ Some r → want ≡ Err r
