use Rattle.std.specs.Prelude.{length}
use Rattle.tall_plan.proofs.MarkLaws.{item_below}
use Rattle.tall_pass.proofs.WorkLaws.{asked_below}
use Rattle.tall_pass.proofs.work.asked.Goals as goal

pub add_asked-requires : goal.add_asked-requires
add_asked-requires c = item_below (length c.args.graph.now) c.args.work.now c.loop-n.n-index c.n-item.result c.requires c.loop-n-test.true c.n-item.is

pub returns-clause-below : goal.returns-clause-below
returns-clause-below c =
    asked_below c.args.graph.now c.args.store c.args.level c.loop-n.n-index c.args.work.now c.loop-n.asked.items c.keeps_its_rules.ensures.ordered c.requires c.loop-n.invariant
