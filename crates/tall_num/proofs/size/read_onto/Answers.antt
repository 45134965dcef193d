use Rattle.tall_num.proofs.Sizes.{read_step}
use Rattle.tall_num.proofs.size.read_onto.Goals as goal

pub loop-digit-preserved : goal.loop-digit-preserved
loop-digit-preserved c =
    read_step c.args.start c.loop-digit.number c.from.result c.min-number.result c.loop-digit.digit-index c.args.digits.now
    c.loop-digit-test.true c.from.ensures c.min-number.ensures c.loop-digit.invariant.0
