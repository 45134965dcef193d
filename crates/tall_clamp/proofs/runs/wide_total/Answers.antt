use Rattle.std.proofs.Common.{arith, sym, ap, ◌∙◌, ◌+ℤ◌}
use Rattle.std.proofs.lemmas.Int.{ints, to_z-of_z}
use mir.Val.{SFits}
use mir.Syntax.{w128}
use Rattle.tall_clamp.proofs.RunLemmas.{total_more}
use Rattle.tall_clamp.proofs.runs.wide_total.Goals as goal

pub loop-v-preserved : goal.loop-v-preserved
loop-v-preserved g c =
    let ends = g.met.I.IntClass.narrow in
    let fs : SFits w128 c.next_shift-sum.result = record { sfits = c.next_shift-sum.type_inv } in
    let more = total_more g.I.IntClass.number c.args.rows.now c.loop-v.v-index c.v-item.result c.loop-v-test.true c.v-item.is in
    simp to_z-of_z (
      c.next_shift-sum.ensures.value ∙ ap (λ s. s +ℤ g.I.IntClass.number c.v-item.result) c.loop-v.invariant.0 ∙ sym more,
      (omega (arith, ints, ends.0, c.next_shift-sum.ensures.input.0, c.loop-v.invariant.1.0), omega (arith, ints, ends.1, c.next_shift-sum.ensures.input.1, c.loop-v.invariant.1.1)),
    )
