use Rattle.std.proofs.Common.{◌≡◌, ◌-◌}
use Rattle.tall_grammar.specs.Readers.{listed_from, is_name, take_text}
use Rattle.tall_grammar.specs.ScriptReader.{names}
use Rattle.tall_parse.proofs.statements.Reading.names.Given as goal

abbrev pub invariant-loop-turn : goal.invariant-loop-turn
invariant-loop-turn l =
    names l.self.turns l.self.depth l.fn.tokens ≡ listed_from is_name (take_text is_name) (l.self.turns - l._turn) l.found l.tokens
