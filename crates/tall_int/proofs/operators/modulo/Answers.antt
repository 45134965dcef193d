use Rattle.std.proofs.Common.{rules, ap, ◌∙◌, ◌≡◌, ◌≤ℤ◌, pos, arith}
use Rattle.std.proofs.lemmas.Int.{ints, to_z-of_z}
use mir.Val.{SFits}
use mir.Syntax.{w128}
use Rattle.tall_int.specs.Numbers.{nearest}
use Rattle.tall_int.specs.Arithmetic.{remainder}
use Rattle.tall_int.proofs.Ranges.{IsIn, nearest_in}
use Rattle.tall_int.proofs.QuotientLemmas.{remainder_in}
use Rattle.tall_int.proofs.operators.modulo.Goals as goal

pub returns : goal.returns
returns g c =
    let fa : SFits w128 c.wide.result = search rules in
    let fb : SFits w128 c.wide-2.result = search rules in
    let fr : SFits w128 c.floor_remainder.result = search rules in
    let ends = g.met.I.IntClass.narrow in
    let top : pos 0 ≤ℤ g.I.IntClass.MAX = omega (arith, ints, ends.3) in
    let a : IsIn g.I.IntClass.MIN g.I.IntClass.MAX c.wide.result = record { above = c.wide.ensures.low; below = c.wide.ensures.high } in
    let b : IsIn g.I.IntClass.MIN g.I.IntClass.MAX c.wide-2.result = record { above = c.wide-2.ensures.low; below = c.wide-2.ensures.high } in
    let rest = simp to_z-of_z at c.floor_remainder.ensures in
    let known = simp to_z-of_z at c.clamp.ensures in
    let same : remainder c.wide.result c.wide-2.result ≡ remainder (g.I.IntClass.number c.args.a) (g.I.IntClass.number c.args.b) = cc in
    known ∙ ap (nearest g.I.IntClass.MIN g.I.IntClass.MAX) rest ∙ nearest_in _ _ _ (remainder_in _ _ _ _ ends.2 top a b) ∙ same
