use Rattle.std.proofs.Common.{◌≡◌, ◌<◌, ◌∙◌, ap, arith, refl, sym, length}
use Rattle.std.proofs.lemmas.List.{length-map}
use Rattle.tall_value.specs.Classes.{kind_of}
use Rattle.tall_group.specs.Places.{singles}
use Rattle.tall_group.specs.States.{low_of, high_of}
use Rattle.tall_group.proofs.PartLemmas.{row_added, parts_whole}
use Rattle.tall_group.proofs.UniqueLemmas.{kinds_more}
use Rattle.tall_group.proofs.places.step_rows.Goals as goal

pub loop-row-preserved : goal.loop-row-preserved
loop-row-preserved g c =
    let i = c.loop-row.invariant in
    let l : c.loop-row.row < length c.args.places.now = omega (arith, c.loop-row-test.true) in
    let k = c.kind-kind.ensures ∙ ap kind_of c.class.ensures in (
      c.step_in.ensures.long ∙ i.0,
      k,
      refl,
      omega (arith, c.loop-row-test.true),
      kinds_more _ _ _ _ c.get.ensures.cell c.get.ensures.class i.4,
      (λ p d h. omega (arith, l, i.5 p d h, c.step_in.ensures.rows p d (omega (arith, h, i.0)))),
      (λ at a. row_added (λ j. g.S.GroupState.of (low_of j) (high_of j)) c.kind-kind.result _ at c.args.places.now c.args.values.now.cells c.loop-row.row _ _ _ _ k l c.requires.even c.get.ensures.cell c.datum_of.ensures.value c.step_in.ensures.data (i.6 at a)),
    )

pub returns-clause-data : goal.returns-clause-data
returns-clause-data g c at a =
    parts_whole (g.S.GroupState.of (low_of (kind_of c.args.values.now.class)) (high_of (kind_of c.args.values.now.class))) at c.args.places.now (singles c.args.values.now.cells) c.loop-row.row _ (omega (arith, c.loop-row-test.false))
    (length-map c.args.values.now.cells _ ∙ sym c.requires.even) (c.loop-row.invariant.6 at a)
