use Rattle.std.proofs.Common.{rules, refl, arith, map}
use Rattle.std.proofs.lemmas.Grind.{common_steps}
use Rattle.tall_grammar.specs.Kept.{with_it}
use Rattle.tall_grammar.specs.ScriptReader.{arms_from, steps_within}
use Rattle.tall_parse.specs.StepViews.{arm_of}
use Rattle.tall_expr.proofs.Turns.{one_more, run_out, with_last}
use Rattle.tall_parse.proofs.function_steps.Blocks.arms_from.Goals as goal

pub returns-in_default : goal.returns-in_default
unfolding arms_from
returns-in_default g c =
    let e = one_more (λ n. arms_from c.args.self.now.reading.turns c.args.self.now.reading.depth (steps_within c.args.self.now.reading.turns c.args.self.now.reading.depth c.args.self.now.blocks) n (with_it (map arm_of) c.loop-turn.found) c.loop-turn.tokens) _ c.loop-turn._turn c.loop-turn-test.true c.loop-turn.invariant in
    first_of (search rules, grind (arith, common_steps))

pub returns-in_err-arm : goal.returns-in_err-arm
unfolding arms_from
returns-in_err-arm g c =
    let e = one_more (λ n. arms_from c.args.self.now.reading.turns c.args.self.now.reading.depth (steps_within c.args.self.now.reading.turns c.args.self.now.reading.depth c.args.self.now.blocks) n (with_it (map arm_of) c.loop-turn.found) c.loop-turn.tokens) _ c.loop-turn._turn c.loop-turn-test.true c.loop-turn.invariant in
    first_of (search rules, grind (arith, common_steps))

pub loop-turn-preserved : goal.loop-turn-preserved
unfolding arms_from
loop-turn-preserved g c =
    let e = one_more (λ n. arms_from c.args.self.now.reading.turns c.args.self.now.reading.depth (steps_within c.args.self.now.reading.turns c.args.self.now.reading.depth c.args.self.now.blocks) n (with_it (map arm_of) c.loop-turn.found) c.loop-turn.tokens) _ c.loop-turn._turn c.loop-turn-test.true c.loop-turn.invariant in
    let l = with_last arm_of c.loop-turn.found c.in_ok-arm.field-0 in
    first_of (search rules, grind (arith, common_steps))

pub returns : goal.returns
unfolding arms_from
returns g c = λ _. run_out (λ n. arms_from c.args.self.now.reading.turns c.args.self.now.reading.depth (steps_within c.args.self.now.reading.turns c.args.self.now.reading.depth c.args.self.now.blocks) n (with_it (map arm_of) c.loop-turn.found) c.loop-turn.tokens) c.args.self.now.reading.turns c.loop-turn._turn (omega arith) refl c.loop-turn.invariant
