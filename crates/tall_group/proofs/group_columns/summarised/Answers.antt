use Rattle.std.proofs.Common.{◌≡◌, ◌∙◌, ap, sym, subst, [], ◌∷◌, map, option_map}
use Rattle.tall_value.specs.declared.class.Class.TheVariants as class
use Rattle.tall_value.specs.Classes.{kind_of}
use Rattle.tall_dense.specs.Columns.{SeenColumn}
use Rattle.tall_group.specs.Places.{group_at}
use Rattle.tall_group.specs.States.{high_of, low_of}
use Rattle.tall_group.specs.Summaries.{all_some}
use Rattle.tall_group.proofs.SummaryLemmas.{columns_are, counted_are, counts_few, places_within}
use Rattle.tall_group.proofs.group_columns.summarised.Goals as goal

pub counts-requires-clause-within : goal.counts-requires-clause-within
counts-requires-clause-within g c =
    let r = c.requires.groups in
    places_within (g.S.GroupState.of (low_of c.args.kind) (high_of c.args.kind)) c.args.keys.cells c.in_ok-sorted.sorted.column.cells r.0 r.1 c.in_ok-sorted.sorted.places.items _ c.args.states.now c.in_ok-sorted.ensures.sorted c.as_slice.ensures.value r.2

pub counts-requires-clause-few : goal.counts-requires-clause-few
counts-requires-clause-few g c =
    let r = c.requires.groups in
    let a = c.args.kind in
    counts_few (g.S.GroupState.of (low_of a) (high_of a)) g.S.GroupState.rows (g.met.S.GroupState.rows_of (low_of a) (high_of a)) c.args.keys.cells r.0 r.1 c.args.states.now r.2

pub values-requires : goal.values-requires
values-requires g c =
    let r = c.requires.groups in
    record {
      within = places_within (g.S.GroupState.of (low_of c.args.kind) (high_of c.args.kind)) c.args.keys.cells c.in_ok-sorted.sorted.column.cells r.0 r.1 c.in_ok-sorted.sorted.places.items _ c.args.states.now c.in_ok-sorted.ensures.sorted c.as_slice-2.ensures.value r.2;
    }

pub returns-in-Some-clause-cells : goal.returns-in-Some-clause-cells
returns-in-Some-clause-cells g c ks vs h k =
    let a = c.args.kind in
    let s = c.in_ok-sorted in
    let are =
    counted_are (g.S.GroupState.of (low_of a) (high_of a)) g.S.GroupState.rows g.S.GroupState.nothing (g.met.S.GroupState.rows_of (low_of a) (high_of a)) (kind_of c.args.keys.class) class.Double c.args.keys.cells s.sorted.column.cells ks vs c.in_ok-count.count s.sorted.places.items _ c.args.states.now
    s.ensures.sorted s.ensures.kinds k c.as_slice.ensures.value c.in_ok-count.ensures h in
    let given = subst (λ qs. option_map (λ (x : SeenColumn). x.cells) c.in_ok-given.given ≡ all_some (map (λ p. g.S.GroupState.gives a (group_at c.args.keys.cells ks vs p)) qs)) c.as_slice-2.ensures.value
    (c.in_ok-given.ensures.cells (group_at c.args.keys.cells ks vs) h.data_at) in
    ap (option_map (λ (x : SeenColumn). s.sorted.column.cells ∷ c.in_ok-count.count.cells ∷ x.cells ∷ [])) (sym c.in-Some.is)
    ∙ columns_are (g.S.GroupState.gives a) c.args.keys.cells s.sorted.column.cells c.in_ok-count.count.cells ks vs s.sorted.places.items c.in_ok-given.given s.ensures.sorted.stand are.0 are.1 given

pub returns-in-None-clause-cells : goal.returns-in-None-clause-cells
returns-in-None-clause-cells g c ks vs h k =
    let a = c.args.kind in
    let s = c.in_ok-sorted in
    let are =
    counted_are (g.S.GroupState.of (low_of a) (high_of a)) g.S.GroupState.rows g.S.GroupState.nothing (g.met.S.GroupState.rows_of (low_of a) (high_of a)) (kind_of c.args.keys.class) class.Double c.args.keys.cells s.sorted.column.cells ks vs c.in_ok-count.count s.sorted.places.items _ c.args.states.now
    s.ensures.sorted s.ensures.kinds k c.as_slice.ensures.value c.in_ok-count.ensures h in
    let given = subst (λ qs. option_map (λ (x : SeenColumn). x.cells) c.in_ok-given.given ≡ all_some (map (λ p. g.S.GroupState.gives a (group_at c.args.keys.cells ks vs p)) qs)) c.as_slice-2.ensures.value
    (c.in_ok-given.ensures.cells (group_at c.args.keys.cells ks vs) h.data_at) in
    ap (option_map (λ (x : SeenColumn). s.sorted.column.cells ∷ c.in_ok-count.count.cells ∷ x.cells ∷ [])) (sym c.in-None.is)
    ∙ columns_are (g.S.GroupState.gives a) c.args.keys.cells s.sorted.column.cells c.in_ok-count.count.cells ks vs s.sorted.places.items c.in_ok-given.given s.ensures.sorted.stand are.0 are.1 given
