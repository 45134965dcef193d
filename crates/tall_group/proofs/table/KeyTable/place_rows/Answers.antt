use Rattle.std.proofs.Common.{◌≡◌, arith, ◌∙◌}
use Rattle.tall_group.proofs.PlacedLemmas.{none_placed, row_placed}
use Rattle.tall_group.proofs.UniqueLemmas.{kinds_more}
use Rattle.tall_group.proofs.table.KeyTable.place_rows.Goals as goal

pub loop-row-preserved : goal.loop-row-preserved
loop-row-preserved c =
    let i = c.loop-row.invariant in
    (c.in_ok-place.ensures.class ∙ i.0, row_placed _ _ _ _ _ _ _ _ _ c.get.ensures.cell i.1 c.in_ok-place.ensures.key c.in_ok-push.ensures.items, kinds_more _ _ _ _ c.get.ensures.cell c.get.ensures.class i.2, i.3, omega (arith, c.loop-row-test.true))
