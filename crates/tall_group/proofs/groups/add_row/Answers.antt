use Rattle.std.proofs.Common.{◌≡◌, ◌<◌, ◌≤◌, ◌∙◌, ap, arith, sym, subst, refl, length, ℕ, List, [], ◌∷◌, ◌++◌}
use Rattle.tall_value.specs.Cells.{Seen, seen, seen_kind}
use Rattle.tall_group.specs.Groups.{IsGroupsOf}
use Rattle.tall_group.specs.Keys.{ArePlaced}
use Rattle.tall_group.specs.Places.{AreOf, Data, group_at, if_here}
use Rattle.tall_group.specs.States.{low_of, high_of}
use Rattle.tall_group.proofs.NativeLemmas.{range_of}
use Rattle.tall_group.proofs.PlacedLemmas.{none_placed, one_placed}
use Rattle.tall_group.proofs.GroupLemmas.{extended, rows_few, one_row, more_groups}
use Rattle.tall_group.proofs.groups.add_row.Goals as goal

pub step_in-requires-clause-few : goal.step_in-requires-clause-few
step_in-requires-clause-few g c p d l =
    let a = seen_kind (seen c.args.value.now) in
    let of = g.S.GroupState.of (low_of a) (high_of a) in
    let r = c.requires.groups in
    let placed = one_placed c.args.table.now.cells c.args.table.now.cells c.place.new.self.cells [] [] _ _ (none_placed c.args.table.now.cells) c.in_ok-place.ensures.key in
    let kept = subst (λ xs. IsGroupsOf of c.args.table.now.cells xs r.0 r.1) (sym c.in_ok-reserve.ensures.items) r.2 in
    let before = extended of c.args.table.now.cells c.place.new.self.cells r.0 r.1 (seen c.args.key.now ∷ []) (c.in_ok-place.place ∷ []) c.reserve.new.self.items c.fill.new.states.items kept placed (λ at. c.fill.ensures.data (low_of a) (high_of a) at (range_of a)) in
    omega (arith, r.3, rows_few of g.S.GroupState.rows (g.met.S.GroupState.rows_of (low_of a) (high_of a)) c.place.new.self.cells r.0 r.1 c.fill.new.states.items before p d l)

pub returns-clause-groups : goal.returns-clause-groups
returns-clause-groups g c ks vs h few =
    let a = seen_kind (seen c.args.value.now) in
    let of = g.S.GroupState.of (low_of a) (high_of a) in
    let placed = one_placed c.args.table.now.cells c.args.table.now.cells c.place.new.self.cells [] [] _ _ (none_placed c.args.table.now.cells) c.in_ok-place.ensures.key in
    let kept = subst (λ xs. IsGroupsOf of c.args.table.now.cells xs ks vs) (sym c.in_ok-reserve.ensures.items) h in
    let before = extended of c.args.table.now.cells c.place.new.self.cells ks vs (seen c.args.key.now ∷ []) (c.in_ok-place.place ∷ []) c.reserve.new.self.items c.fill.new.states.items kept placed (λ at. c.fill.ensures.data (low_of a) (high_of a) at (range_of a)) in
    let step = subst (λ k. (at : ℕ → Data) → AreOf (g.S.GroupState.of (low_of k) (high_of k)) at c.fill.new.states.items → AreOf (g.S.GroupState.of (low_of k) (high_of k)) (λ p. at p ++ if_here p c.in_ok-place.place (c.datum_of.result ∷ [])) c.step_in.new.states.items) c.cell_kind.ensures c.step_in.ensures.data in
    more_groups of c.args.table.now.cells c.place.new.self.cells ks vs (seen c.args.key.now ∷ []) (seen c.args.value.now ∷ []) (c.in_ok-place.place ∷ []) c.args.states.now.items c.step_in.new.states.items h placed refl few
    (c.step_in.ensures.long ∙ (c.fill.ensures.long ∙ c.len.ensures)) (one_row of (group_at c.place.new.self.cells ks vs) c.in_ok-place.place c.datum_of.result (seen c.args.value.now) c.step_in.new.states.items c.datum_of.ensures.value (step (group_at c.place.new.self.cells ks vs) before))
