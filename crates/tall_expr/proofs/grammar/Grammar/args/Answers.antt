use Rattle.std.proofs.Common.{rules, refl, arith, map}
use Rattle.std.proofs.lemmas.Grind.{common_steps}
use Rattle.tall_grammar.specs.ExprReader.{expr_within, args_from}
use Rattle.tall_expr.specs.Gives.{kept_by}
use Rattle.tall_grammar.specs.Views.{arg_of}
use Rattle.tall_expr.proofs.Turns.{one_more, run_out}
use Rattle.tall_expr.proofs.grammar.Grammar.args.Goals as goal

pub returns-in_err-arg : goal.returns-in_err-arg
unfolding args_from
returns-in_err-arg g c =
    let e = one_more (λ n. args_from (expr_within c.args.self.now.turns c.args.self.now.depth) c.args.self.now.turns c.args.self.now.line n (kept_by (map arg_of) c.loop-turn.found) c.loop-turn.tokens) _ c.loop-turn._turn c.loop-turn-test.true c.loop-turn.invariant in
    first_of (search rules, grind (arith, common_steps))

pub returns-then-not-is_sign : goal.returns-then-not-is_sign
unfolding args_from
returns-then-not-is_sign g c =
    let e = one_more (λ n. args_from (expr_within c.args.self.now.turns c.args.self.now.depth) c.args.self.now.turns c.args.self.now.line n (kept_by (map arg_of) c.loop-turn.found) c.loop-turn.tokens) _ c.loop-turn._turn c.loop-turn-test.true c.loop-turn.invariant in
    first_of (search rules, grind (arith, common_steps))

pub loop-turn-preserved : goal.loop-turn-preserved
unfolding args_from
loop-turn-preserved g c =
    let e = one_more (λ n. args_from (expr_within c.args.self.now.turns c.args.self.now.depth) c.args.self.now.turns c.args.self.now.line n (kept_by (map arg_of) c.loop-turn.found) c.loop-turn.tokens) _ c.loop-turn._turn c.loop-turn-test.true c.loop-turn.invariant in
    first_of (search rules, grind (arith, common_steps))

pub returns : goal.returns
unfolding args_from
returns g c = λ _. run_out (λ n. args_from (expr_within c.args.self.now.turns c.args.self.now.depth) c.args.self.now.turns c.args.self.now.line n (kept_by (map arg_of) c.loop-turn.found) c.loop-turn.tokens) c.args.self.now.turns c.loop-turn._turn (omega arith) refl c.loop-turn.invariant
