use Rattle.std.proofs.Common.{rules, arith, refl, reverse}
use Rattle.std.proofs.lemmas.Grind.{common_steps}
use Rattle.std.proofs.lemmas.List.{reverse-append}
use Rattle.tall_grammar.specs.ExprReader.{signs_from}
use Rattle.tall_expr.proofs.Turns.{one_more, run_out}
use Rattle.tall_expr.proofs.prefixes.signs.Goals as goal

pub returns-in_default : goal.returns-in_default
unfolding signs_from
returns-in_default c =
    let e = one_more (λ n. signs_from n (reverse c.loop-turn.found) c.loop-turn.tokens) _ c.loop-turn._turn c.loop-turn-test.true c.loop-turn.invariant in
    first_of (search rules, grind (arith, common_steps))

pub loop-turn-preserved : goal.loop-turn-preserved
unfolding signs_from
loop-turn-preserved c =
    let e = one_more (λ n. signs_from n (reverse c.loop-turn.found) c.loop-turn.tokens) _ c.loop-turn._turn c.loop-turn-test.true c.loop-turn.invariant in
    first_of (search (rules, reverse-append), grind (arith, common_steps, reverse-append))

pub returns : goal.returns
unfolding signs_from
returns c = λ _. run_out (λ n. signs_from n (reverse c.loop-turn.found) c.loop-turn.tokens) c.args.turns c.loop-turn._turn (omega arith) refl c.loop-turn.invariant
