use Rattle.std.specs.Prelude.{◌≡◌, length, max}
use Rattle.std.proofs.Common.{rules, ◌∙◌}
use Rattle.tall_plan.proofs.MarkLaws.{item_below}
use Rattle.tall_plan.proofs.PlanLaws.{greatest_next}
use Rattle.tall_plan.proofs.plans.greatest_level.Goals as goal

pub level_of-requires : goal.level_of-requires
level_of-requires c = item_below (length c.args.graph.now) c.args.roots.now c.loop-n.n-index c.n-item.result c.requires c.loop-n-test.true c.n-item.is

pub loop-n-preserved : goal.loop-n-preserved
loop-n-preserved c =
    let e : c.max-greatest.result ≡ max c.level_of.result c.loop-n.greatest = search rules in
    e ∙ greatest_next c.args.graph.now c.args.roots.now c.loop-n.n-index c.n-item.result c.loop-n.greatest c.level_of.result c.loop-n-test.true c.n-item.is c.level_of.ensures.count c.loop-n.invariant
