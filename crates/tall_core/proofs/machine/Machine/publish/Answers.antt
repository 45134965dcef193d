use Rattle.std.proofs.Common.{◌≡◌, ◌<◌, rules, length, List, Option, Some, None, sym, ◌∙◌, subst, slice_set}
use Rattle.tall_core.specs.declared.event.Held.{Held}
use Rattle.tall_core.specs.Machine.{state, EachOnce}
use Rattle.tall_core.proofs.Keeps.{publishes_keep, laid_in_range}
use Rattle.tall_core.proofs.machine.Machine.publish.Goals as goal

pub index_mut-requires : goal.index_mut-requires
index_mut-requires g c =
    let s = state c.self.inside.places c.self.inside.next c.self.inside.held.items c.self.inside.published.items in
    let below : c.in-Some.place < length c.self.inside.published.items = laid_in_range s c.args.worker (c.in-Some.place, c.in-Some.piece) c.self.invariant.0 (sym c.take_piece.ensures.piece ∙ c.in-Some.is) in
    search rules

pub invariant_of-self : goal.invariant_of-self
invariant_of-self g c =
    let s = state c.self.inside.places c.self.inside.next c.self.inside.held.items c.self.inside.published.items in
    let published = slice_set c.self.inside.published.items c.in-Some.place (Some c.in-Some.piece) in
    let held : c.take_piece.new.held.items ≡ slice_set c.self.inside.held.items c.args.worker None = c.in-Some.ensures.held in (
      subst (λ (h : List (Option (Held g.row.P.Denot))). EachOnce (state c.self.inside.places c.self.inside.next h published)) (sym held)
          (publishes_keep s c.args.worker (c.in-Some.place, c.in-Some.piece) c.self.invariant.0 (sym c.take_piece.ensures.piece ∙ c.in-Some.is)),
      c.self.invariant.1,
      c.self.invariant.2,
    )
