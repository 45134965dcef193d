use Rattle.std.specs.Prelude.{◌≡◌, length}
use Rattle.std.proofs.Common.{arith, ap, sym, ◌∙◌}
use Rattle.tall_value.specs.Filters.{kept}
use Rattle.tall_dense.specs.Columns.{SeenColumn}
use Rattle.tall_block.proofs.Heights.{kept_short}
use Rattle.tall_gather.proofs.FilterLaws.{kept_even}
use Rattle.tall_gather.proofs.filters.kept_rows.Goals as goal

pub returns-clause-height : goal.returns-clause-height
returns-clause-height c =
    let k = kept_short c.in_ok-value.value.cells c.in_ok-value.mask.cells in
    let e : length c.in_ok-column.column.cells ≡ length (kept c.in_ok-value.value.cells c.in_ok-value.mask.cells) = ap (λ (d : SeenColumn). length d.cells) c.in_ok-column.ensures in
    let s = c.in_ok-value.ensures.short in
    omega (arith, k, e, s)

pub returns-clause-numbers : goal.returns-clause-numbers
returns-clause-numbers c =
    let e : length c.in_ok-column.column.cells ≡ length (kept c.in_ok-value.value.cells c.in_ok-value.mask.cells) = ap (λ (d : SeenColumn). length d.cells) c.in_ok-column.ensures in
    let s = c.in_ok-value.ensures.short in
    let even = c.in_ok-value.ensures.even in
    let many = c.requires.numbers in
    ap length c.in_ok-rows.ensures ∙ (kept_even c.args.x.now.numbers.now c.in_ok-value.value.cells c.in_ok-value.mask.cells (omega (arith, s, even, many)) (omega (arith, even)) ∙ sym e)
