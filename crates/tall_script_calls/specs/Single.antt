-- Calls of one argument, by its value.
use Rattle.std.specs.Prelude.{ℕ, Bool, true, false, List, [], ◌∷◌, Option, None, Some}
use Rattle.tall_local.specs.Arguments.{Argument, given}
use Rattle.tall_local.specs.Memory.{Memory, table}
use Rattle.tall_local.specs.Values.{datastore, in_memory}
use Rattle.tall_script.specs.ScriptValues.{TallValue}

-- the only argument, where it is a value
abbrev pub single_given : {V : Type 0} → List (Argument V) → Option V
single_given (given v ∷ []) = Some v
single_given args = None

-- the place of a datastore
abbrev pub store_place : TallValue → Option ℕ
store_place (datastore place) = Some place
store_place v = None

abbrev pub is_table_in_memory : Memory → Bool
is_table_in_memory (table t) = true
is_table_in_memory v = false

abbrev pub is_table : TallValue → Bool
is_table (in_memory v) = is_table_in_memory v
is_table v = false
