use Rattle.std.proofs.Common.{rules, refl, map, arith}
use Rattle.std.proofs.lemmas.Grind.{common_steps}
use Rattle.tall_grammar.specs.ExprReader.{text_here}
use Rattle.tall_grammar.specs.Readers.{listed_from, is_text_token}
use Rattle.tall_grammar.specs.Views.{tree_of}
use Rattle.tall_expr.proofs.Turns.{one_more, run_out}
use Rattle.tall_expr.proofs.text_lists.texts.Goals as goal

pub returns-then-not-goes_on : goal.returns-then-not-goes_on
unfolding listed_from
returns-then-not-goes_on c =
    let e = one_more (λ n. listed_from is_text_token (text_here c.args.line) n (map tree_of c.loop-turn.found) c.loop-turn.tokens) _ c.loop-turn._turn c.loop-turn-test.true c.loop-turn.invariant in
    first_of (search rules, grind (arith, common_steps))

pub returns-in_err-text-2 : goal.returns-in_err-text-2
unfolding listed_from
returns-in_err-text-2 c =
    let e = one_more (λ n. listed_from is_text_token (text_here c.args.line) n (map tree_of c.loop-turn.found) c.loop-turn.tokens) _ c.loop-turn._turn c.loop-turn-test.true c.loop-turn.invariant in
    first_of (search rules, grind (arith, common_steps))

pub loop-turn-preserved : goal.loop-turn-preserved
unfolding listed_from
loop-turn-preserved c =
    let e = one_more (λ n. listed_from is_text_token (text_here c.args.line) n (map tree_of c.loop-turn.found) c.loop-turn.tokens) _ c.loop-turn._turn c.loop-turn-test.true c.loop-turn.invariant in
    first_of (search rules, grind (arith, common_steps))

pub returns : goal.returns
unfolding listed_from
returns c = λ _. run_out (λ n. listed_from is_text_token (text_here c.args.line) n (map tree_of c.loop-turn.found) c.loop-turn.tokens) c.args.turns c.loop-turn._turn (omega arith) refl c.loop-turn.invariant
