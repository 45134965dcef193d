use Rattle.std.specs.Prelude.{length}
use Rattle.tall_plan.proofs.MarkLaws.{item_below}
use Rattle.tall_pass.proofs.work.add_work.Goals as goal

pub add_wanted-requires : goal.add_wanted-requires
add_wanted-requires c = item_below (length c.args.graph.now) c.args.work.now c.loop-n.n-index c.n-item.result c.requires c.loop-n-test.true c.n-item.is
