use Rattle.std.proofs.Common.{◌<◌, ◌∙◌, length, arith}
use Rattle.std.proofs.lemmas.List.{length-map}
use Rattle.tall_value.specs.Cells.{text, logical}
use Rattle.tall_texts.proofs.Lists.{kept_pushed, kept_skipped, drop_get}
use Rattle.tall_texts.proofs.texts.Texts.kept.Goals as goal
use Rattle.tall_texts.proofs.texts.Texts.kept.Goals.{then-mask-row+in_ok-push, else-mask-row}

pub loop-row-preserved : goal.loop-row-preserved
loop-row-preserved c =
    let row = c.loop-row.row in
    let within : row < length c.args.self.now = omega (arith, c.loop-row-test.true, c.len-row-end.ensures) in
    let marked : row < length c.args.mask.now =
    omega (arith, within, c.requires, length-map c.args.self.now (λ s. text s), length-map c.args.mask.now (λ b. logical b)) in
    elim c.if-mask-row.branch [
      | then-mask-row+in_ok-push w ↦
          kept_pushed (λ s. text s) c.args.self.now c.args.mask.now row w.get.result.now c.loop-row.out c.if-mask-row.out _ (w.out-is ∙ w.in_ok-push.ensures)
          (drop_get c.args.self.now row w.get.result.now w.get.ensures) marked w.if-mask-row.true c.loop-row.invariant
      | else-mask-row w ↦ kept_skipped (λ s. text s) c.args.self.now c.args.mask.now row c.loop-row.out c.if-mask-row.out _ w.out-is within marked w.if-mask-row.false c.loop-row.invariant
    ]
