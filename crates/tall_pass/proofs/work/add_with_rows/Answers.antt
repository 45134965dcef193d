use Rattle.std.specs.Prelude.{length}
use Rattle.tall_plan.proofs.MarkLaws.{item_below}
use Rattle.tall_pass.proofs.work.add_with_rows.Goals as goal

pub has_rows_of-requires : goal.has_rows_of-requires
has_rows_of-requires c = item_below (length c.args.graph.now) c.args.nodes.now c.loop-n.n-index c.n-item.result c.requires c.loop-n-test.true c.n-item.is
