use Rattle.std.proofs.Common.{ap, ◌∙◌, arith, ◌≤ℤ◌}
use Rattle.std.proofs.lemmas.Int.{ints, to_z-of_z}
use mir.Val.{SFits}
use mir.Syntax.{w128}
use Rattle.tall_int.specs.Numbers.{nearest}
use Rattle.tall_int.proofs.QuotientLemmas.{saturated}
use Rattle.tall_int.proofs.operators.wide_product.Goals as goal

pub returns : goal.returns
returns g c =
    let fp : SFits w128 c.args.p = c.ranges.p in
    let fq : SFits w128 c.args.q = c.ranges.q in
    let fr : SFits w128 c.saturating_mul.result = record { sfits = c.saturating_mul.type_inv } in
    let low = g.I.IntClass.MIN in
    let high = g.I.IntClass.MAX in
    let ends = g.met.I.IntClass.narrow in
    let wide : g.I.IntClass.MIN ≤ℤ g.I.IntClass.MAX = omega (arith, ints, ends.2, ends.3) in
    let product = simp to_z-of_z at c.saturating_mul.ensures in
    let known = simp to_z-of_z at c.clamp.ensures in
    known ∙ ap (nearest low high) product ∙ saturated low high _ ends.0 ends.1 wide
