use Rattle.std.proofs.Common.{◌≡◌, drop, map}
use Rattle.tall_grammar.specs.Views.{routine_of}
use Rattle.tall_script.specs.ScriptLanguage.{function_in}
use Rattle.tall_script_calls.proofs.reducing.function_of.Given as goal

-- no function before this one has the name
abbrev pub invariant-loop-function : goal.invariant-loop-function
invariant-loop-function l = function_in (map routine_of (drop l.function-index l.functions)) l.name ≡ function_in (map routine_of l.functions) l.name
