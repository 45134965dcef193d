use Rattle.std.proofs.Common.{◌≡◌, reverse, length}
use Rattle.tall_grammar.specs.ExprReader.{signed}
use Rattle.tall_expr.specs.Gives.{kept_by}
use Rattle.tall_grammar.specs.Views.{tree_of}
use Rattle.tall_expr.proofs.prefixes.signed.Given as goal

abbrev pub invariant-loop-sign : goal.invariant-loop-sign
invariant-loop-sign l =
    signed l.line (reverse l.fn.signs) (kept_by tree_of l.fn.operand) l.fn.tokens
    ≡ signed l.line (reverse l.signs) (kept_by tree_of l.operand) l.tokens

abbrev pub decreases-loop-sign : goal.decreases-loop-sign
decreases-loop-sign l = length l.signs
