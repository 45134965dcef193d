use Rattle.std.proofs.Common.{◌≡◌, ◌<◌, ◌≤◌, ◌∙◌, ap, arith, sym, subst, length, ℕ, List}
use Rattle.tall_value.specs.Cells.{Seen}
use Rattle.tall_value.specs.Classes.{kind_of}
use Rattle.tall_group.specs.Groups.{IsGroupsOf}
use Rattle.tall_group.specs.Keys.{ArePlaced}
use Rattle.tall_group.specs.Places.{AreOf, group_at}
use Rattle.tall_group.specs.States.{low_of, high_of}
use Rattle.tall_group.proofs.NativeLemmas.{range_of}
use Rattle.tall_group.proofs.GroupLemmas.{extended, rows_few, within_states, at_length, more_groups}
use Rattle.tall_group.proofs.groups.added_rows.Goals as goal

pub step_rows-requires-clause-even : goal.step_rows-requires-clause-even
step_rows-requires-clause-even g c =
    ap length c.as_slice.ensures.value ∙ (at_length _ _ _ c.in_ok-places.ensures.places.at ∙ c.requires.even)

pub step_rows-requires-clause-within : goal.step_rows-requires-clause-within
step_rows-requires-clause-within g c =
    within_states _ _ _ _ _ c.in_ok-places.ensures.places.at c.as_slice.ensures.value (c.in_ok-extend.ensures.long ∙ c.len.ensures)

pub step_rows-requires-clause-few : goal.step_rows-requires-clause-few
step_rows-requires-clause-few g c p d l =
    let a = kind_of c.args.values.now.class in
    let of = g.S.GroupState.of (low_of a) (high_of a) in
    let r = c.requires.groups in
    let before = extended of c.args.table.now.cells c.place_rows.new.self.cells r.0 r.1 c.args.keys.now.cells c.in_ok-places.places.items c.args.states.now.items c.extend.new.states.items r.2 c.in_ok-places.ensures.places (λ at. c.in_ok-extend.ensures.data (low_of a) (high_of a) at (range_of a)) in
    let e = ap length c.as_slice.ensures.value in
    omega (
      arith,
      r.3,
      e,
      at_length _ _ _ c.in_ok-places.ensures.places.at,
      rows_few of g.S.GroupState.rows (g.met.S.GroupState.rows_of (low_of a) (high_of a)) c.place_rows.new.self.cells r.0 r.1 c.extend.new.states.items before p d l,
    )

pub returns-clause-groups : goal.returns-clause-groups
returns-clause-groups g c ks vs h few =
    let a = kind_of c.args.values.now.class in
    let of = g.S.GroupState.of (low_of a) (high_of a) in
    let placed : ArePlaced c.args.table.now.cells c.place_rows.new.self.cells c.args.keys.now.cells c.as_slice.result.now =
    subst (ArePlaced c.args.table.now.cells c.place_rows.new.self.cells c.args.keys.now.cells) (sym c.as_slice.ensures.value) c.in_ok-places.ensures.places in
    let before = extended of c.args.table.now.cells c.place_rows.new.self.cells ks vs c.args.keys.now.cells c.as_slice.result.now c.args.states.now.items c.extend.new.states.items h placed (λ at. c.in_ok-extend.ensures.data (low_of a) (high_of a) at (range_of a)) in
    more_groups of c.args.table.now.cells c.place_rows.new.self.cells ks vs c.args.keys.now.cells c.args.values.now.cells c.as_slice.result.now c.args.states.now.items c.step_rows.new.states.items h placed c.requires.even few
    (c.step_rows.ensures.long ∙ (c.in_ok-extend.ensures.long ∙ c.len.ensures)) (c.step_rows.ensures.data (group_at c.place_rows.new.self.cells ks vs) before)
