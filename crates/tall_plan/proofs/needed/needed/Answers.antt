use Rattle.std.proofs.Common.{arith, subst, sym, ◌∙◌}
use Rattle.std.specs.Prelude.{length}
use Rattle.tall_plan.proofs.MarkLaws.{AreFound, found_none, found_all, args_below, marked_at, passed_at}
use Rattle.tall_plan.proofs.needed.needed.Goals as goal

pub loop-left-init : goal.loop-left-init
loop-left-init c =
    let vs = c.args.graph.now in
    let marks = c.in_ok-marks.marks.items in
    subst (λ fs. AreFound vs c.args.roots.now marks c.len-left.result fs) (sym c.new-found.ensures.items)
    (found_none vs c.args.roots.now marks c.len-left.result c.in_ok-marks.ensures.length c.len-left.ensures c.in_ok-marks.ensures.marks)

pub mark-requires : goal.mark-requires
mark-requires c =
    let inv = c.loop-left.invariant in
    let is = c.node_at-node.ensures in
    args_below c.args.graph.now c.node_at-node.result c.args_of.result.now (omega (arith, is, inv.within, c.loop-left-test.true)) c.args_of.ensures
    (length c.loop-left.marks.items) c.keeps_its_rules.ensures.ordered (omega (arith, is, inv.within, inv.many, c.loop-left-test.true))

pub loop-left-preserved-in-Continue-branch-2 : goal.loop-left-preserved-in-Continue-branch-2
loop-left-preserved-in-Continue-branch-2 c =
    let inv = c.loop-left.invariant in
    let is = c.node_at-node.ensures in
    marked_at c.args.graph.now c.node_at-node.result c.args_of.result.now (omega (arith, is, inv.within, c.loop-left-test.true)) c.args_of.ensures
    c.args.roots.now c.loop-left.marks.items c.mark.new.marks.items c.loop-left.left c.loop-left.found.items c.push.new.self.items c.index.result.now
    is c.loop-left-test.true c.index.ensures c.if-index.true inv c.mark.ensures.length c.mark.ensures.marks c.in_ok-push.ensures.items

pub loop-left-preserved : goal.loop-left-preserved
loop-left-preserved c =
    passed_at c.args.graph.now c.args.roots.now c.loop-left.marks.items c.loop-left.left c.loop-left.found.items c.index.result.now c.loop-left-test.true c.index.ensures c.if-index.false c.loop-left.invariant

pub returns : goal.returns
returns c = c.reverse.ensures.items ∙ found_all c.args.graph.now c.args.roots.now c.loop-left.marks.items c.loop-left.left c.loop-left.found.items (omega (arith, c.loop-left-test.false)) c.loop-left.invariant
