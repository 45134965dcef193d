use Rattle.std.specs.Prelude.{length}
use Rattle.tall_plan.proofs.MarkLaws.{item_below}
use Rattle.tall_gather.proofs.below.nodes_below.Goals as goal

pub is_node_below-requires : goal.is_node_below-requires
is_node_below-requires c = item_below (length c.args.graph.now) c.args.nodes.now c.loop-n.n-index c.n-item.result c.requires c.loop-n-test.true c.n-item.is
