use Rattle.std.proofs.Common.{arith, sym, subst}
use Rattle.std.specs.Prelude.{IfSome}
use Rattle.tall_value.specs.declared.class.Kind.TheVariants.{Double}
use Rattle.tall_fold.specs.Summaries.{IsNumber}
use Rattle.tall_fold.proofs.SliceLemmas.{picked_more, number_more}
use Rattle.tall_fold.proofs.slices.extreme_of_doubles.Goals as goal

pub loop-v-preserved : goal.loop-v-preserved
loop-v-preserved g c =
    let e = c.with_double-best.ensures in (
      picked_more g.C.Choice.pick g.met.C.Choice.pick_associative c.args.rows.now c.loop-v.v-index c.v-item.result c.loop-v.best.0 c.with_double-best.result.0 c.loop-v-test.true c.v-item.is c.loop-v.invariant.0 e.number,
      omega (arith, e.rows, c.loop-v.invariant.1),
      subst (λ (x : _). IfSome x (IsNumber Double)) (sym e.number) (number_more g.C.Choice.pick g.met.C.Pick.stays c.loop-v.best.0 c.v-item.result c.loop-v.invariant.2 e.small),
    )
