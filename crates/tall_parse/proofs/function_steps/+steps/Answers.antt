use Rattle.std.proofs.Common.{◌≡◌, ap, arith}
use Rattle.tall_grammar.specs.ScriptReader.{steps_within}
use Rattle.tall_expr.proofs.Turns.{deeper}
use Rattle.tall_parse.proofs.function_steps.+steps.Goals as goal

pub returns : goal.returns
unfolding steps_within
returns t c = rw (deeper (λ n. steps_within c.args.reading.turns c.args.reading.depth n c.args.tokens.now) c.args.blocks (omega arith)) c.steps.ensures

pub returns-then-blocks-eq0 : goal.returns-then-blocks-eq0
unfolding steps_within
returns-then-blocks-eq0 t c =
    let none : c.args.blocks ≡ 0 = omega arith in λ _. ap (λ n. steps_within c.args.reading.turns c.args.reading.depth n c.args.tokens.now) none
