use Rattle.std.proofs.Common.{◌≡◌, ◌-◌}
use Rattle.tall_grammar.specs.ExprReader.{expr_within, level, chain_from, operators}
use Rattle.tall_expr.specs.Gives.{kept_by}
use Rattle.tall_grammar.specs.Views.{tree_of}
use Rattle.tall_expr.proofs.grammar.Grammar.+level.Given as goal

abbrev pub invariant-loop-turn : goal.invariant-loop-turn
invariant-loop-turn g l =
    level (expr_within l.self.turns l.self.depth) l.self.turns l.self.line l.level l.fn.tokens
    ≡ chain_from (operators (l.level - 1)) (level (expr_within l.self.turns l.self.depth) l.self.turns l.self.line (l.level - 1)) l.self.line (l.self.turns - l._turn) (kept_by tree_of l.left) l.tokens

abbrev pub decreases-level : goal.decreases-level
decreases-level g l = l.level
