use Rattle.std.specs.Prelude.{length}
use Rattle.tall_plan.proofs.MarkLaws.{item_below}
use Rattle.tall_plan.proofs.passes.work.Goals as goal

pub is_work-requires : goal.is_work-requires
is_work-requires c = item_below (length c.args.graph.now) c.args.needed.now c.loop-n.n-index c.n-item.result c.requires c.loop-n-test.true c.n-item.is
