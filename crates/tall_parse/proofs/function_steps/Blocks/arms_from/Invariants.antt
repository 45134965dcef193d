use Rattle.std.proofs.Common.{◌≡◌, ◌-◌, Ok, [], map}
use Rattle.tall_grammar.specs.Kept.{with_it, and_last}
use Rattle.tall_grammar.specs.ScriptReader.{arms_from, steps_within}
use Rattle.tall_parse.specs.StepViews.{arm_of}
use Rattle.tall_parse.proofs.function_steps.Blocks.arms_from.Given as goal

abbrev pub invariant-loop-turn : goal.invariant-loop-turn
invariant-loop-turn g l =
    arms_from l.self.reading.turns l.self.reading.depth (steps_within l.self.reading.turns l.self.reading.depth l.self.blocks) l.self.reading.turns (and_last (Ok []) (with_it arm_of l.fn.first)) l.fn.tokens
    ≡ arms_from l.self.reading.turns l.self.reading.depth (steps_within l.self.reading.turns l.self.reading.depth l.self.blocks) (l.self.reading.turns - l._turn) (with_it (map arm_of) l.found) l.tokens
