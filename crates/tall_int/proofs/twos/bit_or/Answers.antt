use Rattle.std.proofs.Common.{rules, ◌∙◌, ◌≡◌}
use mir.Val.{SFits}
use mir.Syntax.{w128}
use Rattle.tall_int.specs.Twos.{twos_or}
use Rattle.tall_int.proofs.Ranges.{IsIn}
use Rattle.tall_int.proofs.TwosLemmas.{or_clamped}
use Rattle.tall_int.proofs.twos.bit_or.Goals as goal

pub returns : goal.returns
returns g c =
    let fa : SFits w128 c.wide.result = search rules in
    let fb : SFits w128 c.wide-2.result = search rules in
    let a : IsIn g.I.IntClass.MIN g.I.IntClass.MAX c.wide.result = record { above = c.wide.ensures.low; below = c.wide.ensures.high } in
    let b : IsIn g.I.IntClass.MIN g.I.IntClass.MAX c.wide-2.result = record { above = c.wide-2.ensures.low; below = c.wide-2.ensures.high } in
    let known = or_clamped g.I.IntClass.MIN g.I.IntClass.MAX c.wide.result c.wide-2.result g.met.I.IntClass.width a b fa fb in
    let same : twos_or c.wide.result c.wide-2.result ≡ twos_or (g.I.IntClass.number c.args.a) (g.I.IntClass.number c.args.b) = cc in
    c.clamp.ensures ∙ known ∙ same
