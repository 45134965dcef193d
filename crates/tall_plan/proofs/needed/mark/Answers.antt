use Rattle.std.specs.Prelude.{◌<◌, length}
use Rattle.std.proofs.Common.{rules, arith, subst, sym, ◌∙◌}
use Rattle.tall_plan.proofs.MarkLaws.{item_below}
use Rattle.tall_plan.proofs.needed.mark.Goals as goal

pub index_mut-requires : goal.index_mut-requires
index_mut-requires c =
    let below = item_below (length c.args.marks.now.items) c.args.places.now c.loop-n.n-index c.n-item.result c.requires c.loop-n-test.true c.n-item.is in
    let many = c.loop-n.invariant.many in
    let b : c.place-place.result < length c.loop-n.marks.items = omega (arith, below, many, c.place-place.ensures) in
    search rules
