use Rattle.std.proofs.Common.{◌≡◌, ◌∙◌, arith}
use Rattle.tall_group.proofs.UniqueLemmas.{row_unique}
use Rattle.tall_group.proofs.unique.UniqueFold.add_column.Goals as goal

pub loop-row-preserved : goal.loop-row-preserved
loop-row-preserved c =
    let i = c.loop-row.invariant in
    (c.in_ok-add.ensures.class ∙ i.0, (λ cs u. row_unique _ cs _ _ _ c.get.ensures.cell (c.in_ok-add.ensures.cells _ (i.1 cs u))), i.2, omega (arith, c.loop-row-test.true))
