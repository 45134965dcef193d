-- The kinds of fault that a map or a reduce function may have. docs/LANGUAGE.md, mapreduce.
use Rattle.std.specs.Prelude.{◌≡◌, Bool, true, false, Option, None, Some, Result, Ok, Err}
use Rattle.tall_local.specs.Expressions.{Valued, gives, stops}
use Rattle.tall_local.specs.Refusals.{Refusal, undefined, mixed_class, bad_class, bad_size, bad_argument, bad_index, failed, too_many_rows, no_value_left, no_progress, too_many_turns, bad_key, bad_value, Stop}

-- the list: those of values in memory, of the iterator, of loops and of `add`. All others are of tall values and of files
abbrev pub is_of_functions : Refusal → Bool
is_of_functions (undefined name) = true
is_of_functions mixed_class = true
is_of_functions bad_class = true
is_of_functions bad_size = true
is_of_functions bad_argument = true
is_of_functions bad_index = true
is_of_functions (failed row kind) = true
is_of_functions no_value_left = true
is_of_functions no_progress = true
is_of_functions too_many_turns = true
is_of_functions bad_key = true
is_of_functions bad_value = true
is_of_functions too_many_rows = true
is_of_functions refusal = false

-- no fault, or one of the list
abbrev pub IsOfFunctions : Option Stop → Type 0
IsOfFunctions None = Unit {0}
IsOfFunctions (Some stop) = is_of_functions stop.refusal ≡ true

-- ---- what a refusal is

abbrev pub OnRefused : {A : Type 0} → (Refusal → Type 0) → Result A Refusal → Type 0
OnRefused Is (Ok a) = Unit {0}
OnRefused Is (Err e) = Is e

abbrev pub OnStopped : {V S : Type 0} → (Refusal → Type 0) → Valued V S → Type 0
OnStopped Is (gives v s) = Unit {0}
OnStopped Is (stops stop s) = Is stop.refusal
