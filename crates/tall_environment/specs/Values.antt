-- Arguments of a call as values.
use Rattle.std.specs.Prelude.{ℕ, List, map}
use Rattle.tall_semantics.specs.Talls.{Tall}
use Rattle.tall_local.specs.Arguments as arguments
use Rattle.tall_script.specs.ScriptValues.{TallValue}
use Rattle.tall_evaluate.specs.declared.languages.Argument.{Argument}
use Rattle.tall_evaluate.specs.Senses.{argument_seen}
use Rattle.tall_deferred.specs.declared.values.ScriptValue.{ScriptValue}
use Rattle.tall_deferred.specs.Values.{value_at}

abbrev pub arguments_at : (ℕ → Tall) → List (Argument ScriptValue) → List (arguments.Argument TallValue)
arguments_at f args = map (argument_seen (value_at f)) args
