use Rattle.std.proofs.Common.{rules, arith, ap, ◌∙◌, ◌+ℤ◌}
use Rattle.std.proofs.lemmas.Int.{ints, to_z-of_z}
use mir.Val.{SFits}
use mir.Syntax.{w128}
use Rattle.tall_int.specs.Numbers.{nearest}
use Rattle.tall_clamp.specs.Clamps.{apply, IsRoomy}
use Rattle.tall_clamp.specs.ClampLaws.{in_the_class, narrow_fits, clamp_is_roomy}
use Rattle.tall_clamp.proofs.clamps.Clamp.apply.Goals as goal

pub returns : goal.returns
returns g c =
    let ends = g.met.I.IntClass.narrow in
    let room : IsRoomy c.self.inside.bounds = clamp_is_roomy _ _ c.self.inside.bounds ends.0 ends.1 c.self.invariant in
    let fr : SFits w128 c.between.result = record { sfits = c.between.type_inv } in
    let fx : SFits w128 c.wide.result = search rules in
    let fl : SFits w128 c.self.inside.bounds.low = narrow_fits _ (omega (arith, ints, room.low)) (omega (arith, ints, room.ordered, room.high)) in
    let fh : SFits w128 c.self.inside.bounds.high = narrow_fits _ (omega (arith, ints, room.ordered, room.low)) (omega (arith, ints, room.high)) in
    let fs : SFits w128 c.self.inside.bounds.shift = narrow_fits _ (omega (arith, ints, room.below)) (omega (arith, ints, room.above)) in
    let fn : SFits w128 (c.wide.result +ℤ c.self.inside.bounds.shift) =
    narrow_fits _ (omega (arith, ints, ends.0, c.wide.ensures.low, room.below)) (omega (arith, ints, ends.1, c.wide.ensures.high, room.above)) in
    let value = simp to_z-of_z at c.between.ensures in
    let known = simp to_z-of_z at c.clamp.ensures in
    known
    ∙ ap (nearest g.I.IntClass.MIN g.I.IntClass.MAX) value
    ∙ in_the_class _ _ _ _ _ c.self.invariant.above c.self.invariant.ordered c.self.invariant.below
    ∙ ap (λ (x : _). nearest c.self.inside.bounds.low c.self.inside.bounds.high (x +ℤ c.self.inside.bounds.shift)) c.wide.ensures.number
    ∙ ap (λ (b : _). apply b (g.I.IntClass.number c.args.x)) c.self.view_is
