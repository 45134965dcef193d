use Rattle.std.proofs.Common.{◌≡◌, ◌-◌, map}
use Rattle.tall_grammar.specs.ExprReader.{expr_within, args_from}
use Rattle.tall_grammar.specs.Kept.{no_arguments}
use Rattle.tall_expr.specs.Gives.{kept_by}
use Rattle.tall_grammar.specs.Views.{arg_of}
use Rattle.tall_expr.proofs.grammar.Grammar.args.Given as goal

abbrev pub invariant-loop-turn : goal.invariant-loop-turn
invariant-loop-turn g l =
    args_from (expr_within l.self.turns l.self.depth) l.self.turns l.self.line l.self.turns no_arguments l.fn.tokens
    ≡ args_from (expr_within l.self.turns l.self.depth) l.self.turns l.self.line (l.self.turns - l._turn) (kept_by (map arg_of) l.found) l.tokens
