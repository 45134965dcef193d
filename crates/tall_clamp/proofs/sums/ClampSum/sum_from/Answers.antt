use Rattle.std.proofs.Common.{rules, arith, ap, ◌∙◌, ◌+ℤ◌, ℕ}
use Rattle.std.proofs.lemmas.Int.{ints, to_z-of_z}
use mir.Val.{SFits}
use mir.Syntax.{w128}
use Rattle.tall_int.specs.Numbers.{nearest}
use Rattle.tall_clamp.specs.Clamps.{apply}
use Rattle.tall_clamp.specs.Folds.{IsSum}
use Rattle.tall_clamp.specs.ClampLaws.{narrow_fits}
use Rattle.tall_clamp.specs.declared.bounds.Bounds.{Bounds}
use Rattle.tall_clamp.proofs.sums.ClampSum.sum_from.Goals as goal

pub returns : goal.returns
returns g c =
    let ends = g.met.I.IntClass.narrow in
    let sum : IsSum c.self.inside.bounds c.self.inside.rows = c.self.invariant in
    let fr : SFits w128 c.between.result = record { sfits = c.between.type_inv } in
    let fx : SFits w128 c.wide.result = search rules in
    let fl : SFits w128 c.self.inside.bounds.low = narrow_fits _ (omega (arith, ints, sum.least)) (omega (arith, ints, sum.ordered, sum.greatest)) in
    let fh : SFits w128 c.self.inside.bounds.high = narrow_fits _ (omega (arith, ints, sum.ordered, sum.least)) (omega (arith, ints, sum.greatest)) in
    let fs : SFits w128 c.self.inside.bounds.shift =
    narrow_fits _ (omega (arith, ints, sum.least, sum.ordered, sum.high_outside)) (omega (arith, ints, sum.greatest, sum.ordered, sum.low_outside)) in
    let fn : SFits w128 (c.wide.result +ℤ c.self.inside.bounds.shift) =
    narrow_fits _
    (omega (arith, ints, ends.0, c.wide.ensures.low, sum.least, sum.ordered, sum.high_outside))
    (omega (arith, ints, ends.1, c.wide.ensures.high, sum.greatest, sum.ordered, sum.low_outside)) in
    let value = simp to_z-of_z at c.between.ensures in
    let known = simp to_z-of_z at c.clamp.ensures in
    known
    ∙ ap (nearest g.I.IntClass.MIN g.I.IntClass.MAX) value
    ∙ ap (λ (x : _). nearest g.I.IntClass.MIN g.I.IntClass.MAX (nearest c.self.inside.bounds.low c.self.inside.bounds.high (x +ℤ c.self.inside.bounds.shift))) c.wide.ensures.number
    ∙ ap (λ (b : Bounds × ℕ). nearest g.I.IntClass.MIN g.I.IntClass.MAX (apply b.0 (g.I.IntClass.number c.args.start))) c.self.view_is
