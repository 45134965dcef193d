use Rattle.std.specs.Prelude.{◌≡◌, refl, ◌+◌, Some, List, length, slice_get}
use Rattle.std.proofs.Common.{sym, subst}
use Rattle.std.proofs.lemmas.Option.{slice_get_read}
use Rattle.tall_plan.proofs.MarkLaws.{item_below}
use Rattle.tall_dense.specs.Columns.{SeenColumn}
use Rattle.tall_gather.specs.RootLists.{RootColumns}
use Rattle.tall_gather.proofs.RestLaws.{place_among}
use Rattle.tall_gather.proofs.RootLaws.{root_push}
use Rattle.tall_gather.proofs.roots.root_columns.Goals as goal

pub root_column-requires-clause-root : goal.root_column-requires-clause-root
root_column-requires-clause-root c =
    let at : slice_get c.args.roots.now c.loop-n.n-index ≡ Some c.n-item.result = slice_get_read c.args.roots.now (length c.args.roots.now) c.loop-n.n-index c.n-item.result refl c.loop-n-test.true c.n-item.is in
    place_among c.args.roots.now c.loop-n.n-index c.n-item.result at

pub root_column-requires-clause-there : goal.root_column-requires-clause-there
root_column-requires-clause-there c = item_below (length c.args.graph.now) c.args.roots.now c.loop-n.n-index c.n-item.result c.requires.roots c.loop-n-test.true c.n-item.is

pub loop-n-preserved : goal.loop-n-preserved
loop-n-preserved c =
    let at : slice_get c.args.roots.now c.loop-n.n-index ≡ Some c.n-item.result = slice_get_read c.args.roots.now (length c.args.roots.now) c.loop-n.n-index c.n-item.result refl c.loop-n-test.true c.n-item.is in
    subst (λ (xs : List SeenColumn). RootColumns c.args.graph.now c.args.roots.now c.args.known.now (c.loop-n.n-index + 1) xs) (sym c.in_ok-push.ensures.items)
    (root_push c.args.graph.now c.args.roots.now c.args.known.now c.loop-n.n-index c.n-item.result c.loop-n.columns.items c.in_ok-root_column.field-0 at c.in_ok-root_column.ensures c.loop-n.invariant)
