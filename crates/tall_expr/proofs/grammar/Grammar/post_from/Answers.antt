use Rattle.std.proofs.Common.{rules, refl, arith}
use Rattle.std.proofs.lemmas.Grind.{common_steps}
use Rattle.tall_grammar.specs.ExprReader.{expr_within, post_from}
use Rattle.tall_expr.specs.Gives.{kept_by}
use Rattle.tall_grammar.specs.Views.{tree_of}
use Rattle.tall_expr.proofs.Turns.{one_more, run_out}
use Rattle.tall_expr.proofs.grammar.Grammar.post_from.Goals as goal

pub returns-in_err-whole : goal.returns-in_err-whole
unfolding post_from
returns-in_err-whole g c =
    let e = one_more (λ n. post_from (expr_within c.args.self.now.turns c.args.self.now.depth) c.args.self.now.turns c.args.self.now.line n (kept_by tree_of c.loop-turn.whole) c.loop-turn.tokens) _ c.loop-turn._turn c.loop-turn-test.true c.loop-turn.invariant in
    first_of (search rules, grind (arith, common_steps))

pub returns-in_err-whole-2 : goal.returns-in_err-whole-2
unfolding post_from
returns-in_err-whole-2 g c =
    let e = one_more (λ n. post_from (expr_within c.args.self.now.turns c.args.self.now.depth) c.args.self.now.turns c.args.self.now.line n (kept_by tree_of c.loop-turn.whole) c.loop-turn.tokens) _ c.loop-turn._turn c.loop-turn-test.true c.loop-turn.invariant in
    first_of (search rules, grind (arith, common_steps))

pub returns-else-is_sign-2 : goal.returns-else-is_sign-2
unfolding post_from
returns-else-is_sign-2 g c =
    let e = one_more (λ n. post_from (expr_within c.args.self.now.turns c.args.self.now.depth) c.args.self.now.turns c.args.self.now.line n (kept_by tree_of c.loop-turn.whole) c.loop-turn.tokens) _ c.loop-turn._turn c.loop-turn-test.true c.loop-turn.invariant in
    first_of (search rules, grind (arith, common_steps))

pub loop-turn-preserved : goal.loop-turn-preserved
unfolding post_from
loop-turn-preserved g c =
    let e = one_more (λ n. post_from (expr_within c.args.self.now.turns c.args.self.now.depth) c.args.self.now.turns c.args.self.now.line n (kept_by tree_of c.loop-turn.whole) c.loop-turn.tokens) _ c.loop-turn._turn c.loop-turn-test.true c.loop-turn.invariant in
    first_of (search rules, grind (arith, common_steps))

pub returns : goal.returns
unfolding post_from
returns g c = λ _. run_out (λ n. post_from (expr_within c.args.self.now.turns c.args.self.now.depth) c.args.self.now.turns c.args.self.now.line n (kept_by tree_of c.loop-turn.whole) c.loop-turn.tokens) c.args.self.now.turns c.loop-turn._turn (omega arith) refl c.loop-turn.invariant
