use Rattle.std.proofs.Common.{◌≡◌, ◌-◌, Ok, [], map}
use Rattle.tall_grammar.specs.Kept.{with_it}
use Rattle.tall_grammar.specs.ScriptReader.{statements_from}
use Rattle.tall_grammar.specs.Views.{entry_of}
use Rattle.tall_parse.proofs.statements.Reading.statements.Given as goal

abbrev pub invariant-loop-turn : goal.invariant-loop-turn
invariant-loop-turn l =
    statements_from l.self.turns l.self.depth l.self.turns (Ok []) l.fn.tokens
    ≡ statements_from l.self.turns l.self.depth (l.self.turns - l._turn) (with_it (map entry_of) l.found) l.tokens
