use Rattle.std.proofs.Common.{◌≡◌, ◌∙◌, ap, Some, [], ◌∷◌}
use Rattle.tall_value.specs.declared.class.Class.TheVariants as class
use Rattle.std.specs.Prelude.{List}
use Rattle.tall_value.specs.Cells.{Seen}
use Rattle.tall_value.specs.Classes.{kind_of}
use Rattle.tall_value.specs.Groups.{group_keys}
use Rattle.tall_group.specs.States.{high_of, low_of}
use Rattle.tall_group.proofs.SummaryLemmas.{counted_are, counts_few, places_within}
use Rattle.tall_group.proofs.group_columns.counted.Goals as goal

pub counts-requires-clause-within : goal.counts-requires-clause-within
counts-requires-clause-within g c =
    let r = c.requires.groups in
    places_within (g.S.GroupState.of (low_of c.args.kind) (high_of c.args.kind)) c.args.keys.cells c.in_ok-sorted.sorted.column.cells r.0 r.1 c.in_ok-sorted.sorted.places.items _ c.args.states.now c.in_ok-sorted.ensures.sorted c.as_slice.ensures.value r.2

pub counts-requires-clause-few : goal.counts-requires-clause-few
counts-requires-clause-few g c =
    let r = c.requires.groups in
    let a = c.args.kind in
    counts_few (g.S.GroupState.of (low_of a) (high_of a)) g.S.GroupState.rows (g.met.S.GroupState.rows_of (low_of a) (high_of a)) c.args.keys.cells r.0 r.1 c.args.states.now r.2

pub returns-clause-cells : goal.returns-clause-cells
returns-clause-cells g c ks vs h k =
    let a = c.args.kind in
    let s = c.in_ok-sorted in
    let are =
    counted_are (g.S.GroupState.of (low_of a) (high_of a)) g.S.GroupState.rows g.S.GroupState.nothing (g.met.S.GroupState.rows_of (low_of a) (high_of a)) (kind_of c.args.keys.class) class.Double c.args.keys.cells s.sorted.column.cells ks vs c.in_ok-count.count s.sorted.places.items _ c.args.states.now
    s.ensures.sorted s.ensures.kinds k c.as_slice.ensures.value c.in_ok-count.ensures h in
    ap (λ (js : List Seen). Some (js ∷ c.in_ok-count.count.cells ∷ [])) are.0 ∙ ap (λ (ns : List Seen). Some (group_keys ks ∷ ns ∷ [])) are.1
