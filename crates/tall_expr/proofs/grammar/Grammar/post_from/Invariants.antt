use Rattle.std.proofs.Common.{◌≡◌, ◌-◌}
use Rattle.tall_grammar.specs.ExprReader.{expr_within, post_from}
use Rattle.tall_expr.specs.Gives.{kept_by}
use Rattle.tall_grammar.specs.Views.{tree_of}
use Rattle.tall_expr.proofs.grammar.Grammar.post_from.Given as goal

abbrev pub invariant-loop-turn : goal.invariant-loop-turn
invariant-loop-turn g l =
    post_from (expr_within l.self.turns l.self.depth) l.self.turns l.self.line l.self.turns (kept_by tree_of l.fn.first) l.fn.tokens
    ≡ post_from (expr_within l.self.turns l.self.depth) l.self.turns l.self.line (l.self.turns - l._turn) (kept_by tree_of l.whole) l.tokens
