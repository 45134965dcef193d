use Rattle.std.proofs.Common.{◌≡◌, ◌<◌, ◌∙◌, arith, refl, ℕ, subst, sym, length, get_or, []}
use Rattle.tall_group.proofs.PartLemmas.{part_added, parts_whole, few_next}
use Rattle.tall_group.proofs.places.join_all.Goals as goal

pub loop-i-preserved : goal.loop-i-preserved
loop-i-preserved g c =
    let i = c.loop-i.invariant in
    let l : c.loop-i.i < length c.args.places.now = omega (arith, c.loop-i-test.true) in (
      c.join_at.ensures.long ∙ i.0,
      refl,
      omega (arith, c.loop-i-test.true),
      (λ p d k. few_next g.S.GroupState.rows p c.args.places.now c.args.later.now c.loop-i.i 0 c.index-later-i.result _ _ l c.requires.even c.index-later-i.is (i.3 p d k) (c.join_at.ensures.rows p d (omega (arith, k, i.0)))),
      (λ low high at parts r e each a. part_added (g.S.GroupState.of low high) at c.args.places.now parts c.loop-i.i 0 [] _ l (e ∙ sym c.requires.even)
          (c.join_at.ensures.data low high _ (get_or parts c.loop-i.i []) r (i.4 low high at parts r e each a) (subst (g.S.GroupState.of low high (get_or parts c.loop-i.i [])) (sym c.index-later-i.is) (each c.loop-i.i [] c.index-later-i.result (omega (arith, l, c.requires.even)))))),
    )

pub returns-clause-data : goal.returns-clause-data
returns-clause-data g c low high at parts r e each a =
    parts_whole (g.S.GroupState.of low high) at c.args.places.now parts c.loop-i.i _ (omega (arith, c.loop-i-test.false)) (e ∙ sym c.requires.even) (c.loop-i.invariant.4 low high at parts r e each a)
