use Rattle.std.proofs.Common.{arith}
use Rattle.tall_fold.proofs.SliceLemmas.{total_with}
use Rattle.tall_fold.proofs.slices.total_of_numbers.Goals as goal

pub loop-v-preserved : goal.loop-v-preserved
loop-v-preserved c =
    let e = c.with_number-total.ensures in (
      total_with c.args.rows.now c.loop-v.v-index c.v-item.result c.loop-v.total.0 c.with_number-total.result.0 c.loop-v-test.true c.v-item.is c.loop-v.invariant.0 e.total,
      omega (arith, e.rows, c.loop-v.invariant.1),
    )
