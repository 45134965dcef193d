use Rattle.std.specs.Prelude.{length}
use Rattle.tall_plan.proofs.MarkLaws.{item_below}
use Rattle.tall_plan.proofs.PlanLaws.{next_more}
use Rattle.tall_plan.proofs.passes.next_store.Goals as goal

pub offer-requires : goal.offer-requires
offer-requires c = item_below (length c.args.graph.now) c.args.needed.now c.loop-n.n-index c.n-item.result c.requires c.loop-n-test.true c.n-item.is

pub loop-n-preserved : goal.loop-n-preserved
loop-n-preserved c =
    next_more c.args.graph.now c.args.level c.args.from c.args.needed.now c.loop-n.n-index c.n-item.result c.loop-n.next c.offer.result c.earlier-next.result
    c.loop-n-test.true c.n-item.is c.offer.ensures c.earlier-next.ensures c.loop-n.invariant
