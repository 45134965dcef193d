use Rattle.std.proofs.Common.{rules, arith, ◌≡◌, ◌≤ℤ◌, ◌-ℤ◌, pos}
use Rattle.std.proofs.lemmas.Int.{ints, to_z-of_z}
use Rattle.std.specs.Int.{int_max}
use mir.Val.{SFits}
use mir.Syntax.{w128}
use Rattle.tall_int.specs.Numbers.{nearest}
use Rattle.tall_int.proofs.QuotientLemmas.{turned_in}
use Rattle.tall_int.proofs.operators.neg.Goals as goal

pub returns : goal.returns
returns g c =
    let ends = g.met.I.IntClass.narrow in
    let low = g.I.IntClass.MIN in
    let high = g.I.IntClass.MAX in
    let wide : g.I.IntClass.MIN ≤ℤ g.I.IntClass.MAX = omega (arith, ints, ends.2, ends.3) in
    let fw : SFits w128 c.wide.result = record { sfits = c.wide.type_inv } in
    let ft : SFits w128 c.MAX.result = record { sfits = c.MAX.type_inv } in
    let fm : SFits w128 c.max.result = record { sfits = c.max.type_inv } in
    let fn : SFits w128 (pos 0 -ℤ c.MAX.result) = search (rules, g.met.I.IntClass.narrow) in
    let fo : SFits w128 (pos 0 -ℤ c.max.result) = search (rules, g.met.I.IntClass.narrow) in
    let value : c.max.result ≡ int_max c.wide.result (pos 0 -ℤ c.MAX.result) = simp to_z-of_z at c.max.ensures.value in
    let known : g.I.IntClass.number c.clamp.result ≡ nearest low high (pos 0 -ℤ c.max.result) = simp to_z-of_z at c.clamp.ensures in
    let same = turned_in low high c.wide.result wide in
    cc
