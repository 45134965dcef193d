use Rattle.std.specs.Prelude.{◌≡◌, refl, Some, length, slice_get}
use Rattle.std.proofs.Common.{arith, subst}
use Rattle.std.proofs.lemmas.Option.{slice_get_read}
use Rattle.tall_plan.proofs.MarkLaws.{item_below}
use Rattle.tall_gather.proofs.RestLaws.{place_among}
use Rattle.tall_gather.proofs.RootLaws.{LeastSoFar, least_all, least_first, one_or_other}
use Rattle.tall_gather.proofs.roots.least_height.Goals as goal

pub loop-root-init : goal.loop-root-init
loop-root-init c =
    let w = c.requires.known c.args.n c.requires.root in
    least_first c.args.graph.now c.args.roots.now c.args.known.now c.args.n c.height-least.result w.0 c.requires.root w.1 c.height-least.ensures

pub lesser_height-least-requires-clause-there : goal.lesser_height-least-requires-clause-there
lesser_height-least-requires-clause-there c = item_below (length c.args.graph.now) c.args.roots.now c.loop-root.root-index c.root-item.result c.requires.roots c.loop-root-test.true c.root-item.is

pub lesser_height-least-requires-clause-known : goal.lesser_height-least-requires-clause-known
lesser_height-least-requires-clause-known c =
    let at : slice_get c.args.roots.now c.loop-root.root-index ≡ Some c.root-item.result = slice_get_read c.args.roots.now (length c.args.roots.now) c.loop-root.root-index c.root-item.result refl c.loop-root-test.true c.root-item.is in
    c.requires.known c.root-item.result (place_among c.args.roots.now c.loop-root.root-index c.root-item.result at)

pub loop-root-preserved : goal.loop-root-preserved
loop-root-preserved c =
    let at : slice_get c.args.roots.now c.loop-root.root-index ≡ Some c.root-item.result = slice_get_read c.args.roots.now (length c.args.roots.now) c.loop-root.root-index c.root-item.result refl c.loop-root-test.true c.root-item.is in
    let w = c.requires.known c.root-item.result (place_among c.args.roots.now c.loop-root.root-index c.root-item.result at) in
    let space = c.space_of-space.ensures in
    one_or_other c.args.graph.now c.args.roots.now c.args.known.now c.args.n c.loop-root.root-index c.loop-root.least c.root-item.result c.lesser_height-least.result c.space_of-space.result at w.0 w.1 space c.lesser_height-least.ensures.same c.lesser_height-least.ensures.other c.loop-root.invariant

pub returns : goal.returns
returns c =
    let all : c.loop-root.root-index ≡ length c.args.roots.now = omega (arith, c.loop-root-test.false, c.loop-root.auto.root-index-end) in
    least_all c.args.graph.now c.args.roots.now c.args.known.now c.args.n c.loop-root.least (subst (λ j. LeastSoFar c.args.graph.now c.args.roots.now c.args.known.now c.args.n j c.loop-root.least) all c.loop-root.invariant)
