use Rattle.std.proofs.Common.{◌≡◌, ◌-◌, Ok, [], map}
use Rattle.tall_grammar.specs.Kept.{with_it}
use Rattle.tall_grammar.specs.ScriptReader.{steps_from, steps_within}
use Rattle.tall_grammar.specs.Views.{step_of}
use Rattle.tall_parse.proofs.function_steps.Blocks.steps.Given as goal

abbrev pub invariant-loop-turn : goal.invariant-loop-turn
invariant-loop-turn g l =
    steps_from l.self.reading.turns l.self.reading.depth (steps_within l.self.reading.turns l.self.reading.depth l.self.blocks) l.self.reading.turns (Ok []) l.fn.tokens
    ≡ steps_from l.self.reading.turns l.self.reading.depth (steps_within l.self.reading.turns l.self.reading.depth l.self.blocks) (l.self.reading.turns - l._turn) (with_it (map step_of) l.found) l.tokens
