use Rattle.std.proofs.Common.{◌≡◌, drop, map}
use Rattle.std.specs.Option.{is_some}
use Rattle.tall_grammar.specs.Views.{routine_of}
use Rattle.tall_script.specs.ScriptLanguage.{function_in}
use Rattle.tall_expressions.proofs.names.is_there.Given as goal

-- no function before this one has the name
abbrev pub invariant-loop-function : goal.invariant-loop-function
invariant-loop-function l = is_some (function_in (map routine_of (drop l.function-index l.functions)) l.name) ≡ is_some (function_in (map routine_of l.functions) l.name)
