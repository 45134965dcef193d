use Rattle.std.proofs.Common.{◌<◌, ◌+◌, ◌∙◌, ap, length, arith, refl}
use Rattle.std.proofs.lemmas.List.{length-set}
use Rattle.tall_dense.proofs.Lists.{gathered}
use Rattle.tall_dense.proofs.stored.gather.Goals as goal

pub loop-row-preserved : goal.loop-row-preserved
loop-row-preserved g c =
    let items = c.args.items.now in
    let row = c.loop-row.row in
    let count = c.loop-row.count in
    let slots = c.loop-row.slots in
    let x = c.index-items-row.result in
    let within : row < length items = c.loop-row-test.true in
    let marked : row < length c.args.mask.now = omega (arith, within, c.requires.same_length) in
    let room : count < length slots = omega (arith, within, c.loop-row.invariant.0, c.loop-row.invariant.1) in (
      omega (arith, c.loop-row.invariant.0, c.one_if-count.ensures.small),
      length-set slots count x ∙ c.loop-row.invariant.1,
      gathered g.T.Operand.shown items c.args.mask.now row x _ slots count _ _ (ap (λ n. count + n) c.one_if-count.ensures.value) room c.index-items-row.is within marked refl c.loop-row.invariant.2,
    )
