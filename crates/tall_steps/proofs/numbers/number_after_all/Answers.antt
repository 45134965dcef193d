use Rattle.std.proofs.Common.{◌∙◌}
use Rattle.tall_steps.proofs.Numbering.{next_argument}
use Rattle.tall_steps.proofs.numbers.number_after_all.Goals as goal

pub loop-arg-preserved : goal.loop-arg-preserved
loop-arg-preserved c =
    next_argument c.args.args.now c.loop-arg.arg-index c.arg-item.result c.loop-arg.last c.number_after-last.result c.loop-arg-test.true c.arg-item.is c.number_after-last.ensures ∙ c.loop-arg.invariant
