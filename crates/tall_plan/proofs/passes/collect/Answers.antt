use Rattle.std.specs.Prelude.{length}
use Rattle.tall_plan.proofs.MarkLaws.{item_below}
use Rattle.tall_plan.proofs.passes.collect.Goals as goal

pub is_collected-requires-clause-there : goal.is_collected-requires-clause-there
is_collected-requires-clause-there c = item_below (length c.args.graph.now) c.args.needed.now c.loop-n.n-index c.n-item.result c.requires.below c.loop-n-test.true c.n-item.is
