use Rattle.std.proofs.Common.{rules, ap, ◌∙◌, ◌-ℤ◌}
use Rattle.std.proofs.lemmas.Int.{to_z-of_z}
use mir.Val.{SFits}
use mir.Syntax.{w128}
use Rattle.tall_int.specs.Numbers.{nearest}
use Rattle.tall_int.proofs.operators.sat_sub.Goals as goal

pub returns : goal.returns
returns g c =
    let fa : SFits w128 c.wide.result = search rules in
    let fb : SFits w128 c.wide-2.result = search rules in
    let fits : SFits w128 (c.wide.result -ℤ c.wide-2.result) = search (rules, g.met.I.IntClass.narrow) in
    let known = simp to_z-of_z at c.clamp.ensures in
    known ∙ ap (nearest g.I.IntClass.MIN g.I.IntClass.MAX) cc
