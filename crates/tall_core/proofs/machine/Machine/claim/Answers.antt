use Rattle.std.proofs.Common.{◌≡◌, true, ap, sym, ◌∙◌, arith, slice_get}
use Rattle.tall_core.specs.Machine.{State, state, is_idle}
use Rattle.tall_core.proofs.Keeps.{claims_keep}
use Rattle.tall_core.proofs.machine.Machine.claim.Goals as goal

pub invariant_of-self : goal.invariant_of-self
invariant_of-self g c =
    let idle : is_idle (slice_get c.self.inside.held.items c.args.worker) ≡ true =
    ap (λ (s : State g.row.P.Denot). is_idle (slice_get s.held c.args.worker)) c.self.view_is ∙ (sym c.is_idle.ensures.idle ∙ c.if-is_idle.true) in
    (claims_keep (state c.self.inside.places c.self.inside.next c.self.inside.held.items c.self.inside.published.items) c.args.worker c.self.invariant.0 idle (omega arith), c.self.invariant.1, c.self.invariant.2)
