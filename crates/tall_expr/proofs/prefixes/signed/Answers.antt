use Rattle.std.proofs.Common.{rules, arith}
use Rattle.std.proofs.lemmas.Grind.{common_steps}
use Rattle.std.proofs.lemmas.List.{reverse-append}
use Rattle.tall_grammar.specs.ExprReader.{signed}
use Rattle.tall_expr.proofs.prefixes.signed.Goals as goal

pub loop-sign-preserved : goal.loop-sign-preserved
unfolding signed
loop-sign-preserved c = first_of (search (rules, reverse-append), grind (arith, common_steps, reverse-append))

pub returns : goal.returns
unfolding signed
returns c = first_of (search rules, grind (arith, common_steps))
