use Rattle.std.proofs.Common.{◌≡◌, ◌<◌, ◌≤◌, ◌∙◌, ap, arith, sym, subst, length, ℕ, List, map}
use Rattle.std.proofs.lemmas.List.{length-map}
use Rattle.tall_value.specs.Groups.{group_data}
use Rattle.tall_group.specs.Keys.{ArePlaced}
use Rattle.tall_group.specs.Places.{AreOf, group_at}
use Rattle.tall_group.specs.States.{datum}
use Rattle.tall_group.proofs.GroupLemmas.{extended, rows_few, within_states, at_length, later_few, each_part, joined_groups}
use Rattle.tall_group.proofs.groups.joined_groups.Goals as goal

pub join_all-requires-clause-even : goal.join_all-requires-clause-even
join_all-requires-clause-even g c =
    let r = c.requires.groups in
    ap length c.as_slice.ensures.value ∙ (at_length _ _ _ c.in_ok-places.ensures.places.at ∙ sym r.8.long)

pub join_all-requires-clause-within : goal.join_all-requires-clause-within
join_all-requires-clause-within g c =
    within_states _ _ _ _ _ c.in_ok-places.ensures.places.at c.as_slice.ensures.value (c.in_ok-extend.ensures.long ∙ c.len.ensures)

pub join_all-requires-clause-few : goal.join_all-requires-clause-few
join_all-requires-clause-few g c p d l =
    let r = c.requires.groups in
    let of = g.S.GroupState.of r.0 r.1 in
    let placed : ArePlaced c.args.table.now.cells c.place_keys.new.self.cells c.args.later_keys.now.cells c.as_slice.result.now =
    subst (ArePlaced c.args.table.now.cells c.place_keys.new.self.cells c.args.later_keys.now.cells) (sym c.as_slice.ensures.value) c.in_ok-places.ensures.places in
    let before = extended of c.args.table.now.cells c.place_keys.new.self.cells r.3 r.4 c.args.later_keys.now.cells c.as_slice.result.now c.args.states.now.items c.extend.new.states.items r.7 placed (λ at. c.in_ok-extend.ensures.data r.0 r.1 at r.2) in
    omega (
      arith,
      r.9,
      rows_few of g.S.GroupState.rows (g.met.S.GroupState.rows_of r.0 r.1) c.place_keys.new.self.cells r.3 r.4 c.extend.new.states.items before p d l,
      later_few of g.S.GroupState.rows (g.met.S.GroupState.rows_of r.0 r.1) c.place_keys.new.self.cells c.args.later_keys.now.cells r.5 r.6 c.as_slice.result.now c.args.later.now p r.8 (placed.apart r.7.apart) placed.at (omega (arith, l, c.in_ok-extend.ensures.long, c.len.ensures)),
    )

pub returns-clause-groups : goal.returns-clause-groups
returns-clause-groups g c low high ks vs js ws r h k few =
    let of = g.S.GroupState.of low high in
    let placed : ArePlaced c.args.table.now.cells c.place_keys.new.self.cells c.args.later_keys.now.cells c.as_slice.result.now =
    subst (ArePlaced c.args.table.now.cells c.place_keys.new.self.cells c.args.later_keys.now.cells) (sym c.as_slice.ensures.value) c.in_ok-places.ensures.places in
    let before = extended of c.args.table.now.cells c.place_keys.new.self.cells ks vs c.args.later_keys.now.cells c.as_slice.result.now c.args.states.now.items c.extend.new.states.items h placed (λ at. c.in_ok-extend.ensures.data low high at r) in
    joined_groups of c.args.table.now.cells c.place_keys.new.self.cells ks vs c.args.later_keys.now.cells js ws c.as_slice.result.now c.args.states.now.items c.join_all.new.states.items c.args.later.now h k placed few
    (c.join_all.ensures.long ∙ (c.in_ok-extend.ensures.long ∙ c.len.ensures))
    (c.join_all.ensures.data low high (group_at c.place_keys.new.self.cells ks vs) (map (λ k. map datum (group_data k js ws)) c.args.later_keys.now.cells) r (length-map c.args.later_keys.now.cells _ ∙ sym k.long) (each_part of c.args.later_keys.now.cells js ws c.args.later.now k) before)
