use Rattle.std.proofs.Common.{rules, refl, arith, map}
use Rattle.std.proofs.lemmas.Grind.{common_steps}
use Rattle.tall_grammar.specs.Kept.{with_it}
use Rattle.tall_grammar.specs.ScriptReader.{steps_from, steps_within}
use Rattle.tall_grammar.specs.Views.{step_of}
use Rattle.tall_expr.proofs.Turns.{one_more, run_out, with_last}
use Rattle.tall_parse.proofs.function_steps.Blocks.steps.Goals as goal

pub returns-then-not-begins_step : goal.returns-then-not-begins_step
unfolding steps_from
returns-then-not-begins_step g c =
    let e = one_more (λ n. steps_from c.args.self.now.reading.turns c.args.self.now.reading.depth (steps_within c.args.self.now.reading.turns c.args.self.now.reading.depth c.args.self.now.blocks) n (with_it (map step_of) c.loop-turn.found) c.loop-turn.tokens) _ c.loop-turn._turn c.loop-turn-test.true c.loop-turn.invariant in
    first_of (search rules, grind (arith, common_steps))

pub returns-in_err-step : goal.returns-in_err-step
unfolding steps_from
returns-in_err-step g c =
    let e = one_more (λ n. steps_from c.args.self.now.reading.turns c.args.self.now.reading.depth (steps_within c.args.self.now.reading.turns c.args.self.now.reading.depth c.args.self.now.blocks) n (with_it (map step_of) c.loop-turn.found) c.loop-turn.tokens) _ c.loop-turn._turn c.loop-turn-test.true c.loop-turn.invariant in
    first_of (search rules, grind (arith, common_steps))

pub returns-in_err-separators : goal.returns-in_err-separators
unfolding steps_from
returns-in_err-separators g c =
    let e = one_more (λ n. steps_from c.args.self.now.reading.turns c.args.self.now.reading.depth (steps_within c.args.self.now.reading.turns c.args.self.now.reading.depth c.args.self.now.blocks) n (with_it (map step_of) c.loop-turn.found) c.loop-turn.tokens) _ c.loop-turn._turn c.loop-turn-test.true c.loop-turn.invariant in
    first_of (search rules, grind (arith, common_steps))

pub loop-turn-preserved : goal.loop-turn-preserved
unfolding steps_from
loop-turn-preserved g c =
    let e = one_more (λ n. steps_from c.args.self.now.reading.turns c.args.self.now.reading.depth (steps_within c.args.self.now.reading.turns c.args.self.now.reading.depth c.args.self.now.blocks) n (with_it (map step_of) c.loop-turn.found) c.loop-turn.tokens) _ c.loop-turn._turn c.loop-turn-test.true c.loop-turn.invariant in
    let l = with_last step_of c.loop-turn.found c.in_ok-step.step in
    first_of (search rules, grind (arith, common_steps))

pub returns : goal.returns
unfolding steps_from
returns g c = λ _. run_out (λ n. steps_from c.args.self.now.reading.turns c.args.self.now.reading.depth (steps_within c.args.self.now.reading.turns c.args.self.now.reading.depth c.args.self.now.blocks) n (with_it (map step_of) c.loop-turn.found) c.loop-turn.tokens) c.args.self.now.reading.turns c.loop-turn._turn (omega arith) refl c.loop-turn.invariant
