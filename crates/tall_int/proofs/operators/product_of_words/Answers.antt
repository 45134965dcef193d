use Rattle.std.proofs.Common.{ap, ◌∙◌, arith, ◌≤ℤ◌}
use Rattle.std.proofs.lemmas.Int.{ints, to_z-of_z}
use mir.Val.{SFits}
use mir.Syntax.{w64, w128}
use Rattle.tall_int.specs.Numbers.{nearest}
use Rattle.tall_int.proofs.QuotientLemmas.{saturated_word, word_low, word_fits}
use Rattle.tall_int.proofs.operators.product_of_words.Goals as goal

pub returns : goal.returns
returns g c =
    let fp : SFits w64 c.args.p = c.ranges.p in
    let fq : SFits w64 c.args.q = c.ranges.q in
    let fr : SFits w64 c.saturating_mul.result = record { sfits = c.saturating_mul.type_inv } in
    let wr : SFits w128 c.saturating_mul.result = word_fits c.saturating_mul.result fr in
    let low = g.I.IntClass.MIN in
    let high = g.I.IntClass.MAX in
    let ends = g.met.I.IntClass.narrow in
    let wide : g.I.IntClass.MIN ≤ℤ g.I.IntClass.MAX = omega (arith, ints, ends.2, ends.3) in
    let product = simp to_z-of_z at c.saturating_mul.ensures in
    let known = simp to_z-of_z at c.clamp.ensures in
    known ∙ ap (nearest low high) product ∙ saturated_word low high _ (word_low low high g.met.I.IntClass.width c.requires) c.requires wide
