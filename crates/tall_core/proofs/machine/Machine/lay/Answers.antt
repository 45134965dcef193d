use Rattle.std.proofs.Common.{◌≡◌, Some, ap, sym, ◌∙◌, slice_get}
use Rattle.tall_core.specs.Machine.{State, state, vacant_place}
use Rattle.tall_core.proofs.Keeps.{lays_keep}
use Rattle.tall_core.proofs.machine.Machine.lay.Goals as goal

pub invariant_of-self : goal.invariant_of-self
invariant_of-self g c =
    let vacant : vacant_place (slice_get c.self.inside.held.items c.args.worker) ≡ Some c.in-Some.place =
    ap (λ (s : State g.row.P.Denot). vacant_place (slice_get s.held c.args.worker)) c.self.view_is ∙ (sym c.vacant_place.ensures.place ∙ c.in-Some.is) in
    (lays_keep (state c.self.inside.places c.self.inside.next c.self.inside.held.items c.self.inside.published.items) c.args.worker c.in-Some.place c.args.piece c.self.invariant.0 vacant, c.self.invariant.1, c.self.invariant.2)
