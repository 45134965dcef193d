use Rattle.std.proofs.Common.{length, ap, arith}
use Rattle.tall_clamp.proofs.BlockLemmas.{IsFolded, Laws, more_block, blocks_more, blocks_fit}
use Rattle.tall_clamp.proofs.blocks.fold_blocks.Goals as goal

pub fold_rows-requires : goal.fold_rows-requires
fold_rows-requires g c =
    omega (arith, blocks_fit (λ b. b.items) c.args.blocks.now c.loop-block.block-index c.block-item.result c.loop-block-test.true c.block-item.is c.requires, ap length c.as_slice.ensures.value)

pub join-total-requires : goal.join-total-requires
join-total-requires g c =
    omega (arith, blocks_fit (λ b. b.items) c.args.blocks.now c.loop-block.block-index c.block-item.result c.loop-block-test.true c.block-item.is c.requires, ap length c.as_slice.ensures.value, c.loop-block.invariant.count, c.fold_rows.ensures.rows)

pub loop-block-preserved : goal.loop-block-preserved
loop-block-preserved g c =
    let room = blocks_fit (λ b. b.items) c.args.blocks.now c.loop-block.block-index c.block-item.result c.loop-block-test.true c.block-item.is c.requires in
    let laws : Laws g.F.Fold.rows g.F.Fold.nothing g.F.Fold.one g.F.Fold.joined g.F.Fold.is_fold g.F.Fold.is_input =
    record {
      unit_rows = g.met.F.Fold.unit_rows;
      one_rows = g.met.F.Fold.one_rows;
      joined_rows = g.met.F.Fold.joined_rows;
      unit_is_fold = g.met.F.Fold.unit_is_fold;
      one_is_fold = g.met.F.Fold.one_is_fold;
      joined_is_fold = g.met.F.Fold.joined_is_fold;
      associative = g.met.F.Fold.associative;
      left_unit = g.met.F.Fold.left_unit;
      right_unit = g.met.F.Fold.right_unit;
    } in
    let later : IsFolded g.F.Fold.rows g.F.Fold.nothing g.F.Fold.one g.F.Fold.joined g.F.Fold.is_fold g.F.Fold.is_input c.fold_rows.result c.as_slice.result.now =
    record { value = c.fold_rows.ensures.value; count = c.fold_rows.ensures.rows; fold_of = c.fold_rows.ensures.fold; inputs = c.fold_rows.ensures.inputs } in
    more_block g.F.Fold.rows g.F.Fold.nothing g.F.Fold.one g.F.Fold.joined g.F.Fold.is_fold g.F.Fold.is_input laws
    c.loop-block.total c.fold_rows.result c.join-total.result _ _ _ _ c.loop-block.invariant later c.as_slice.ensures.value c.join-total.ensures.value
    (blocks_more (λ b. b.items) c.args.blocks.now c.loop-block.block-index c.block-item.result c.loop-block-test.true c.block-item.is) room
