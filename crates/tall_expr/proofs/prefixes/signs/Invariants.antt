use Rattle.std.proofs.Common.{◌≡◌, reverse, ◌-◌, []}
use Rattle.tall_grammar.specs.ExprReader.{signs_from}
use Rattle.tall_expr.proofs.prefixes.signs.Given as goal

abbrev pub invariant-loop-turn : goal.invariant-loop-turn
invariant-loop-turn l = signs_from l.turns [] l.fn.tokens ≡ signs_from (l.turns - l._turn) (reverse l.found) l.tokens
