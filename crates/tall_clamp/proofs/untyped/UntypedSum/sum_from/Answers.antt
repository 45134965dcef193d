use Rattle.std.proofs.Common.{arith, ap, ◌∙◌, ◌+ℤ◌, ℕ}
use Rattle.std.proofs.lemmas.Int.{ints, to_z-of_z}
use mir.Val.{SFits}
use mir.Syntax.{w128}
use Rattle.tall_clamp.specs.Clamps.{apply}
use Rattle.tall_clamp.specs.Folds.{IsSum}
use Rattle.tall_clamp.specs.ClampLaws.{narrow_fits}
use Rattle.tall_clamp.specs.declared.bounds.Bounds.{Bounds}
use Rattle.tall_clamp.proofs.untyped.UntypedSum.sum_from.Goals as goal

pub returns : goal.returns
returns c =
    let sum : IsSum c.self.inside.bounds c.self.inside.rows = c.self.invariant in
    let fr : SFits w128 c.between.result = record { sfits = c.between.type_inv } in
    let fx : SFits w128 c.args.start = narrow_fits _ (omega (arith, ints, c.requires.low)) (omega (arith, ints, c.requires.high)) in
    let fl : SFits w128 c.self.inside.bounds.low = narrow_fits _ (omega (arith, ints, sum.least)) (omega (arith, ints, sum.ordered, sum.greatest)) in
    let fh : SFits w128 c.self.inside.bounds.high = narrow_fits _ (omega (arith, ints, sum.ordered, sum.least)) (omega (arith, ints, sum.greatest)) in
    let fs : SFits w128 c.self.inside.bounds.shift =
    narrow_fits _ (omega (arith, ints, sum.least, sum.ordered, sum.high_outside)) (omega (arith, ints, sum.greatest, sum.ordered, sum.low_outside)) in
    let fn : SFits w128 (c.args.start +ℤ c.self.inside.bounds.shift) =
    narrow_fits _
    (omega (arith, ints, c.requires.low, sum.least, sum.ordered, sum.high_outside))
    (omega (arith, ints, c.requires.high, sum.greatest, sum.ordered, sum.low_outside)) in
    let value = simp to_z-of_z at c.between.ensures in
    simp to_z-of_z (value ∙ ap (λ (b : Bounds × ℕ). apply b.0 c.args.start) c.self.view_is)
