use Rattle.std.proofs.Common.{◌≡◌, ap, arith}
use Rattle.tall_grammar.specs.ExprReader.{expr_within}
use Rattle.tall_expr.proofs.Turns.{deeper}
use Rattle.tall_expr.proofs.grammar.+expr.Goals as goal

pub returns : goal.returns
unfolding expr_within
returns t c = rw (deeper (λ n. expr_within c.args.turns n c.args.line c.args.tokens.now) c.args.depth (omega arith)) c.level.ensures

pub returns-then-depth-eq0 : goal.returns-then-depth-eq0
unfolding expr_within
returns-then-depth-eq0 t c =
    let none : c.args.depth ≡ 0 = omega arith in λ _. ap (λ n. expr_within c.args.turns n c.args.line c.args.tokens.now) none
