use Rattle.std.proofs.Common.{◌≡◌, rules, true, is_some, ap, ◌∙◌}
use Rattle.std.specs.List.{list_all}
use Rattle.tall_core.specs.Machine.{State, state, is_done}
use Rattle.tall_core.proofs.Traces.{pieces_there}
use Rattle.tall_core.proofs.machine.Machine.into_pieces.Goals as goal

pub loop-piece-init : goal.loop-piece-init
loop-piece-init g c =
    let s = state c.self.inside.places c.self.inside.next c.self.inside.held.items c.self.inside.published.items in
    let there : list_all is_some c.self.inside.published.items ≡ true = pieces_there s c.self.invariant.0 (ap (λ (x : State g.row.P.Denot). is_done x) c.self.view_is ∙ c.requires) in
    let size = c.self.invariant.0.size in
    search rules
