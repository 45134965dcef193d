-- The functions of a script that are not of values alone.
use Rattle.std.specs.Prelude.{ℕ, List, drop}
use Rattle.tall_local.specs.Functions.{script_functions}
use Rattle.tall_local.specs.declared.functions.ScriptFunction.{ScriptFunction}

abbrev pub own_functions : List (List ℕ × ScriptFunction)
own_functions = drop 35 script_functions
