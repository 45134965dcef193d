-- What is wanted of a pass are its results and the carries that come with it.
use Rattle.std.specs.Prelude.{◌≡◌, ◌↔◌, ◌==◌, ◌&&◌, ℕ, true, Option, None, Some, List, [], ◌∷◌}
use Rattle.std.proofs.Common.{ap, subst, inl, inr}
use Rattle.std.proofs.lemmas.Bool.{eqb-true}
use Rattle.tall_semantics.specs.Spaces.{store_of}
use Rattle.tall_semantics.specs.Shapes.{level}
use Rattle.tall_semantics.specs.ShapesInOrder.{shape_at}
use Rattle.tall_semantics.specs.Deferred.{Vertex, IsAmong}
use Rattle.tall_semantics.specs.Plans.{collected, is_among, is_store, needed_of}
use Rattle.tall_semantics.proofs.Basics.{both}
use Rattle.tall_semantics.proofs.PlanLaws.{among_filter}
use Rattle.tall_piece.specs.declared.wanted.Wanted.{Wanted}
use Rattle.tall_piece.specs.declared.wanted.Way.{Way}
use Rattle.tall_piece.specs.declared.wanted.Way.TheVariants as way
use Rattle.tall_piece.specs.Passes.{IsEndWay}
use Rattle.tall_plan.specs.declared.passes.Pass.{Pass}
use Rattle.tall_pass.specs.PassPlans.{IsCarried, IsResult, is_below_at}
use Rattle.tall_pass.specs.Finished.{AreCarriesWanted, AreOfStores, Covers, IsOfStore, IsResultWanted, IsResultWay}
use Rattle.tall_pass.specs.Finished as finished
use Rattle.tall_pass.specs.Work.{AreAllWanted, AreWantedFor, HasWanted, IsCarriesWay, IsOfPlan, IsRowsWay, IsWantedFor}

-- ---- what is wanted

end_result : (y : Way) → IsEndWay y → IsResultWay y
end_result (way.End e a b) h = tt
end_result (way.Carries s a) h = absurd h
end_result way.Rows h = absurd h

rows_result : (y : Way) → IsRowsWay y → IsResultWay y
rows_result (way.End e a b) h = absurd h
rows_result (way.Carries s a) h = absurd h
rows_result way.Rows h = tt

ends_wanted : (ws : List Wanted) (i : ℕ) → HasWanted IsEndWay ws i → IsResultWanted ws i
ends_wanted [] i h = h
ends_wanted (w ∷ ws) i h = elim h [ inl here ↦ inl (here.0, end_result w.way here.1) | inr later ↦ inr (ends_wanted ws i later) ]

rows_wanted : (ws : List Wanted) (i : ℕ) → HasWanted IsRowsWay ws i → IsResultWanted ws i
rows_wanted [] i h = h
rows_wanted (w ∷ ws) i h = elim h [ inl here ↦ inl (here.0, rows_result w.way here.1) | inr later ↦ inr (rows_wanted ws i later) ]

same_carries : (y : Way) → IsCarriesWay y ↔ finished.IsCarriesWay y
same_carries (way.End e a b) = ((λ h. h), (λ h. h))
same_carries (way.Carries s a) = ((λ h. h), (λ h. h))
same_carries way.Rows = ((λ h. h), (λ h. h))

carries_wanted : (ws : List Wanted) (i : ℕ) → HasWanted IsCarriesWay ws i → AreCarriesWanted ws i
carries_wanted [] i h = h
carries_wanted (w ∷ ws) i h = elim h [ inl here ↦ inl (here.0, (same_carries w.way).0 here.1) | inr later ↦ inr (carries_wanted ws i later) ]

-- ---- and what it is for

module _ (vs : List Vertex) (pass : Pass) where
  result_for : (i : ℕ) (y : Way) → IsWantedFor vs pass i y → IsResultWay y → IsResult vs pass None i
  result_for i (way.End e a b) for_pass is = (inl for_pass, tt)
  result_for i (way.Carries s a) for_pass is = absurd is
  result_for i way.Rows for_pass is = (inr for_pass, tt)

  wanted_result : (ws : List Wanted) → AreWantedFor vs pass ws → (i : ℕ) → IsResultWanted ws i → IsResult vs pass None i
  wanted_result [] each i is = absurd is
  wanted_result (w ∷ ws) each i is = elim is [
    | inl here ↦ subst (IsResult vs pass None) here.0 (result_for w.node w.way each.0 here.1)
    | inr later ↦ wanted_result ws each.1 i later
  ]

  carries_for : (i : ℕ) (y : Way) → IsWantedFor vs pass i y → finished.IsCarriesWay y → IsCarried vs pass None i
  carries_for i (way.End e a b) for_pass is = absurd is
  carries_for i (way.Carries s a) for_pass is = for_pass
  carries_for i way.Rows for_pass is = absurd is

  wanted_carries : (ws : List Wanted) → AreWantedFor vs pass ws → (i : ℕ) → AreCarriesWanted ws i → IsCarried vs pass None i
  wanted_carries [] each i is = absurd is
  wanted_carries (w ∷ ws) each i is = elim is [
    | inl here ↦ subst (IsCarried vs pass None) here.0 (carries_for w.node w.way each.0 here.1)
    | inr later ↦ wanted_carries ws each.1 i later
  ]

  -- a column that the pass keeps has the datastore's rows
  store_is : (s : ℕ) (o : Option ℕ) → is_store s o ≡ true → o ≡ Some s
  store_is s None h = absurd (cc)
  store_is s (Some t) h = ap Some (eqb-true t s h)

  module _ (plan : IsOfPlan vs pass) where
    kept : (i : ℕ) → IsAmong pass.collect.items i → store_of (shape_at vs i).space ≡ Some pass.store
    kept i m =
        let roots = plan.0 in
        let c = plan.1 in
        let below = (among_filter (is_below_at vs c) (collected vs roots pass.store pass.level) i).0 (subst (λ xs. IsAmong xs i) plan.2.collect m) in
        let t = (among_filter (λ r. is_among r roots && (is_store pass.store (store_of (shape_at vs r).space) && level (shape_at vs r) == pass.level)) (needed_of vs roots) i).0 below.0 in
        let of_store = both (is_among i roots) (is_store pass.store (store_of (shape_at vs i).space) && level (shape_at vs i) == pass.level) t.1 in
        store_is pass.store (store_of (shape_at vs i).space) (both (is_store pass.store (store_of (shape_at vs i).space)) (level (shape_at vs i) == pass.level) of_store.1).0

    rows_at : (i : ℕ) (y : Way) → IsWantedFor vs pass i y → IsOfStore vs i y
    rows_at i (way.End e a b) for_pass = tt
    rows_at i (way.Carries s a) for_pass = tt
    rows_at i way.Rows for_pass = (pass.store, kept i for_pass)

    rows_kept : (ws : List Wanted) → AreWantedFor vs pass ws → AreOfStores vs ws
    rows_kept [] each = tt
    rows_kept (w ∷ ws) each = (rows_at w.node w.way each.0, rows_kept ws each.1)

    pub covers : (ws : List Wanted) → AreAllWanted vs pass ws → Covers vs pass ws
    covers ws wanted = record {
      results = λ i. ((λ is. elim is.0 [ inl small ↦ ends_wanted ws i (wanted.ends i small.0 small.1) | inr collect ↦ rows_wanted ws i (wanted.rows i collect) ]), (λ is. wanted_result ws wanted.each i is));
      carries = λ i. ((λ is. carries_wanted ws i (wanted.carries i is)), (λ is. wanted_carries ws wanted.each i is));
      rows = rows_kept ws wanted.each;
    }
