use Rattle.std.proofs.Common.{◌≡◌, ◌-◌, ap, refl, rules, arith}
use Rattle.std.proofs.lemmas.Grind.{common_steps}
use Rattle.tall_grammar.specs.ExprReader.{expr_within, level, chain_from, operators}
use Rattle.tall_expr.specs.Gives.{kept_by}
use Rattle.tall_grammar.specs.Views.{tree_of}
use Rattle.tall_expr.proofs.Turns.{one_more, deeper, run_out}
use Rattle.tall_expr.proofs.grammar.Grammar.+level.Goals as goal

pub returns-then-level-eq0 : goal.returns-then-level-eq0
unfolding level
returns-then-level-eq0 g t c =
    let none : c.args.level ≡ 0 = omega arith in rw (ap (λ n. level (expr_within c.args.self.now.turns c.args.self.now.depth) c.args.self.now.turns c.args.self.now.line n c.args.tokens.now) none) c.pre.ensures

pub returns-in_err-left : goal.returns-in_err-left
unfolding level
returns-in_err-left g t c =
    let e = deeper (λ n. level (expr_within c.args.self.now.turns c.args.self.now.depth) c.args.self.now.turns c.args.self.now.line n c.args.tokens.now) c.args.level (omega arith) in
    first_of (search rules, grind (arith, common_steps))

pub loop-turn-init : goal.loop-turn-init
unfolding level
loop-turn-init g t c =
    let e = deeper (λ n. level (expr_within c.args.self.now.turns c.args.self.now.depth) c.args.self.now.turns c.args.self.now.line n c.args.tokens.now) c.args.level (omega arith) in
    first_of (search rules, grind (arith, common_steps))

pub returns-in_default : goal.returns-in_default
unfolding chain_from
returns-in_default g t c =
    let e = one_more (λ n. chain_from (operators (c.args.level - 1)) (level (expr_within c.args.self.now.turns c.args.self.now.depth) c.args.self.now.turns c.args.self.now.line (c.args.level - 1)) c.args.self.now.line n (kept_by tree_of c.loop-turn.left) c.loop-turn.tokens) _ c.loop-turn._turn c.loop-turn-test.true c.loop-turn.invariant in
    first_of (search rules, grind (arith, common_steps))

pub returns-in_err-right : goal.returns-in_err-right
unfolding chain_from
returns-in_err-right g t c =
    let e = one_more (λ n. chain_from (operators (c.args.level - 1)) (level (expr_within c.args.self.now.turns c.args.self.now.depth) c.args.self.now.turns c.args.self.now.line (c.args.level - 1)) c.args.self.now.line n (kept_by tree_of c.loop-turn.left) c.loop-turn.tokens) _ c.loop-turn._turn c.loop-turn-test.true c.loop-turn.invariant in
    first_of (search rules, grind (arith, common_steps))

pub loop-turn-preserved : goal.loop-turn-preserved
unfolding chain_from
loop-turn-preserved g t c =
    let e = one_more (λ n. chain_from (operators (c.args.level - 1)) (level (expr_within c.args.self.now.turns c.args.self.now.depth) c.args.self.now.turns c.args.self.now.line (c.args.level - 1)) c.args.self.now.line n (kept_by tree_of c.loop-turn.left) c.loop-turn.tokens) _ c.loop-turn._turn c.loop-turn-test.true c.loop-turn.invariant in
    first_of (search rules, grind (arith, common_steps))

pub returns : goal.returns
unfolding chain_from
returns g t c = λ _. run_out (λ n. chain_from (operators (c.args.level - 1)) (level (expr_within c.args.self.now.turns c.args.self.now.depth) c.args.self.now.turns c.args.self.now.line (c.args.level - 1)) c.args.self.now.line n (kept_by tree_of c.loop-turn.left) c.loop-turn.tokens) c.args.self.now.turns c.loop-turn._turn (omega arith) refl c.loop-turn.invariant
