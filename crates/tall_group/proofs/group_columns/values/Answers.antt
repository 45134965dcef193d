use Rattle.std.proofs.Common.{◌≡◌, ◌<◌, ◌∙◌, ap, arith, sym, subst, refl, Some, get_or, length, map}
use Rattle.tall_dense.specs.Columns.{SeenColumn}
use Rattle.tall_group.specs.States.{high_of, low_of}
use Rattle.tall_group.specs.Summaries.{all_some}
use Rattle.tall_group.proofs.PartLemmas.{take_whole}
use Rattle.tall_group.proofs.SummaryLemmas.{cells_more, none_there}
use Rattle.tall_group.proofs.group_columns.values.Goals as goal

pub returns-in-None-clause-cells : goal.returns-in-None-clause-cells
returns-in-None-clause-cells g c at a =
    let p = get_or c.args.places.now c.loop-i.i 0 in
    let l : c.loop-i.i < length c.args.places.now = omega (arith, c.loop-i-test.true) in
    let here = subst (g.S.GroupState.of (low_of c.args.kind) (high_of c.args.kind) (at p)) (sym c.index-states-places.is) (a p c.index-states-places.result (c.requires.within c.loop-i.i 0 l)) in
    sym (none_there (λ p. g.S.GroupState.gives c.args.kind (at p)) c.args.places.now c.loop-i.i l (sym (c.in-None.ensures.value (at p) here)))

pub loop-i-preserved : goal.loop-i-preserved
loop-i-preserved g c =
    let i = c.loop-i.invariant in
    let p = get_or c.args.places.now c.loop-i.i 0 in
    let l : c.loop-i.i < length c.args.places.now = omega (arith, c.loop-i-test.true) in
    let e = c.in_ok-push-in-Some.ensures in (
      ap (λ (x : SeenColumn). x.class) e ∙ i.0,
      refl,
      refl,
      omega (arith, l),
      (λ at a.
          let here = subst (g.S.GroupState.of (low_of c.args.kind) (high_of c.args.kind) (at p)) (sym c.index-states-places.is) (a p c.index-states-places.result (c.requires.within c.loop-i.i 0 l)) in
          cells_more (λ p. g.S.GroupState.gives c.args.kind (at p)) c.args.places.now c.loop-i.i _ _ l (sym (c.in-Some.ensures.value (at p) here)) (i.4 at a) ∙ ap (λ (x : SeenColumn). Some x.cells) (sym e)),
    )

pub returns-clause-cells : goal.returns-clause-cells
returns-clause-cells g c at a =
    sym (c.loop-i.invariant.4 at a) ∙ ap (λ ps. all_some (map (λ p. g.S.GroupState.gives c.args.kind (at p)) ps)) (take_whole c.args.places.now c.loop-i.i (omega (arith, c.loop-i-test.false)))
