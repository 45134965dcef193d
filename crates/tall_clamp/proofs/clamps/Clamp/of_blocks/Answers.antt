use Rattle.std.proofs.Common.{◌≤ℤ◌, map, take, arith}
use Rattle.std.proofs.lemmas.Int.{ints}
use Rattle.std.specs.List.{flat_map}
use Rattle.tall_clamp.proofs.SumLemmas.{no_rows, more_rows, block_numbers_more, same_sums}
use Rattle.tall_clamp.proofs.clamps.Clamp.of_blocks.Goals as goal

pub loop-block-init : goal.loop-block-init
loop-block-init g c =
    let ends = g.met.I.IntClass.narrow in
    let order : g.I.IntClass.MIN ≤ℤ g.I.IntClass.MAX = omega (arith, ints, ends.2, ends.3) in
    no_rows g.I.IntClass.MIN g.I.IntClass.MAX _ c.of_value-clamp.result order c.from_wide.ensures c.of_value-clamp.ensures

pub loop-block-preserved : goal.loop-block-preserved
loop-block-preserved g c =
    let ends = g.met.I.IntClass.narrow in
    let order : g.I.IntClass.MIN ≤ℤ g.I.IntClass.MAX = omega (arith, ints, ends.2, ends.3) in
    more_rows g.I.IntClass.MIN g.I.IntClass.MAX c.loop-block.clamp c.of_rows.result c.then-clamp.result
    (map g.I.IntClass.number (flat_map (λ b. b.items) (take c.loop-block.block-index c.args.blocks.now))) (map g.I.IntClass.number c.block-item.result.items) _ order c.loop-block.invariant
    (same_sums g.I.IntClass.MIN g.I.IntClass.MAX g.I.IntClass.number c.as_slice.result.now c.block-item.result.items c.of_rows.result c.as_slice.ensures.value c.of_rows.ensures)
    c.then-clamp.ensures
    (block_numbers_more g.I.IntClass.number (λ b. b.items) c.args.blocks.now c.loop-block.block-index c.block-item.result c.loop-block-test.true c.block-item.is)
