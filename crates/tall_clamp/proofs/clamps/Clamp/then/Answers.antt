use Rattle.std.proofs.Common.{ap, sym, ◌∙◌, subst}
use Rattle.tall_clamp.specs.Clamps.{apply, cut_shift, IsClamp}
use Rattle.tall_clamp.specs.declared.bounds.Bounds.{Bounds}
use Rattle.tall_clamp.specs.ClampLaws.{cut_is_clamp, apply-cut}
use Rattle.tall_clamp.proofs.clamps.Clamp.then.Goals as goal

pub invariant_of-result : goal.invariant_of-result
invariant_of-result g c =
    let value = c.within_reach.ensures ∙ ap cut_shift c.one_after.ensures in
    subst (IsClamp g.I.IntClass.MIN g.I.IntClass.MAX) (sym value)
    (cut_is_clamp g.I.IntClass.MIN g.I.IntClass.MAX c.self.inside.bounds c.next.inside.bounds c.self.invariant c.next.invariant)

pub returns : goal.returns
returns g c x u v =
    let ends = g.met.I.IntClass.narrow in
    let value = c.within_reach.ensures ∙ ap cut_shift c.one_after.ensures in
    ap (λ (b : Bounds). apply b x) value
    ∙ apply-cut g.I.IntClass.MIN g.I.IntClass.MAX c.self.inside.bounds c.next.inside.bounds x ends.0 ends.1 c.self.invariant c.next.invariant u v
    ∙ ap (λ (b : Bounds). apply b (apply c.self.inside.bounds x)) c.next.view_is
    ∙ ap (λ (b : Bounds). apply c.args.next (apply b x)) c.self.view_is
