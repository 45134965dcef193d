use Rattle.std.proofs.Common.{arith, ◌∙◌, ◌≤◌, length, refl}
use Rattle.std.proofs.lemmas.Int.{ints, to_z-of_z}
use mir.Val.{SFits}
use mir.Syntax.{w128}
use Rattle.tall_clamp.proofs.RunLemmas.{run_starts, run_more, run_ends}
use Rattle.tall_clamp.proofs.runs.of_run.Goals as goal

pub loop-v-init : goal.loop-v-init
loop-v-init g c =
    let ends = g.met.I.IntClass.narrow in
    let fw : SFits w128 c.wide-shift.result = record { sfits = c.wide-shift.type_inv } in
    let fl : SFits w128 c.MIN.result = record { sfits = c.MIN.type_inv } in
    let fh : SFits w128 c.MAX.result = record { sfits = c.MAX.type_inv } in
    let least = simp to_z-of_z at c.from_wide-low.ensures in
    let most = simp to_z-of_z at c.from_wide-high.ensures in
    let first = c.wide-shift.ensures.number in
    simp to_z-of_z
    (run_starts g.I.IntClass.MIN g.I.IntClass.MAX g.I.IntClass.number c.args.first _ _ _ ends.0 ends.1
    (omega (arith, ints, first, c.wide-shift.ensures.low)) (omega (arith, ints, first, c.wide-shift.ensures.high))
    first (least ∙ c.MIN.ensures) (most ∙ c.MAX.ensures))

pub loop-v-preserved : goal.loop-v-preserved
loop-v-preserved g c =
    let ends = g.met.I.IntClass.narrow in
    let fs : SFits w128 c.next_shift-shift.result = record { sfits = c.next_shift-shift.type_inv } in
    simp to_z-of_z
    (run_more g.I.IntClass.MIN g.I.IntClass.MAX g.I.IntClass.number c.args.first _ _ _ _ _ _ c.args.rest.now c.loop-v.v-index c.v-item.result
    c.loop-v.invariant c.loop-v-test.true c.v-item.is c.requires ends.0 ends.1 c.next_shift-shift.ensures.input.0 c.next_shift-shift.ensures.input.1
    c.next_shift-shift.ensures.value c.sat_add-low.ensures c.sat_add-high.ensures)

pub returns : goal.returns
returns g c =
    let fl : SFits w128 c.wide.result = record { sfits = c.wide.type_inv } in
    let fh : SFits w128 c.wide-2.result = record { sfits = c.wide-2.type_inv } in
    let within : c.loop-v.v-index ≤ length c.args.rest.now = omega arith in
    let r = run_ends g.I.IntClass.MIN g.I.IntClass.MAX g.I.IntClass.number c.args.first _ _ _ _ c.wide.result c.wide-2.result c.args.rest.now c.loop-v.v-index
    c.loop-v.invariant c.loop-v-test.false within refl c.wide.ensures.number c.wide-2.ensures.number in
    simp to_z-of_z (record { value = r.value; sum = r.sum; low = c.wide.ensures.low; high = c.wide-2.ensures.high; input = (omega (arith, ints, c.wide-shift.ensures.number, c.wide-shift.ensures.low), omega (arith, ints, c.wide-shift.ensures.number, c.wide-shift.ensures.high)) })
