use Rattle.std.proofs.Common.{◌≡◌, ◌-◌, ℕ, List, Ok, [], map}
use Rattle.tall_grammar.specs.Kept.{with_it}
use Rattle.tall_grammar.specs.ScriptReader.{functions_from}
use Rattle.tall_grammar.specs.Views.{routine_of}
use Rattle.tall_parse.specs.FunctionNames.{Holds}
use Rattle.tall_parse.proofs.statements.Reading.functions.Given as goal

abbrev pub invariant-loop-turn : goal.invariant-loop-turn
invariant-loop-turn l =
    (names : List (List ℕ)) × Holds l.before names
    × (functions_from l.self.turns l.self.depth l.self.turns [] (Ok []) l.fn.tokens
    ≡ functions_from l.self.turns l.self.depth (l.self.turns - l._turn) names (with_it (map routine_of) l.found) l.tokens)
