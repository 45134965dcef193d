-- The passes of a level, one after the other.
use Rattle.std.specs.Prelude.{◌≡◌, ℕ, ◌<◌, ◌≤◌, ◌+◌, ◌*◌, ◌-◌, ◌⊎◌, true, Option, None, Some, List, length, slice_get}
use Rattle.std.proofs.Common.{ap, sym, subst, ◌∙◌, arith, inl, inr}
use Rattle.tall_outside.specs.Shelf.{Files}
use Rattle.tall_semantics.specs.Faults.{Fault, earlier}
use Rattle.tall_semantics.specs.Talls.{Columns, Tall}
use Rattle.tall_semantics.specs.Least.{IsLeast}
use Rattle.tall_semantics.specs.Levels.{After, IsWork, UpTo}
use Rattle.tall_semantics.specs.Spaces.{store_of}
use Rattle.tall_semantics.specs.Shapes.{Shape, level}
use Rattle.tall_semantics.specs.ShapesInOrder.{IsMade, shape_at}
use Rattle.tall_semantics.specs.Deferred.{Vertex, IsAmong, IsOrdered, own_in}
use Rattle.tall_semantics.specs.Numbered.{AreNumbered}
use Rattle.tall_semantics.specs.Plans.{is_scan_at, needed_of, store_at}
use Rattle.tall_semantics.specs.Ranks.{ranks_in}
use Rattle.tall_semantics.proofs.Basics.{inside}
use Rattle.tall_semantics.proofs.CandidateLaws.{graph_ranks}
use Rattle.tall_semantics.proofs.LevelLaws.{compare, joined, split, step}
use Rattle.tall_semantics.proofs.OrderLaws.{below_left, below_right}
use Rattle.tall_semantics.proofs.PlanLaws.{needed_there}
use Rattle.tall_semantics.proofs.ShapesInOrderLaws.{value_shape}
use Rattle.tall_store.specs.Stores.{SeenStore}
use Rattle.tall_stored.specs.StoredColumns.{Store}
use Rattle.tall_stored.proofs.StoredLaws.{are_readings}
use Rattle.tall_fuse.specs.Kept.{carry}
use Rattle.tall_fuse.specs.declared.known.Known.{Known}
use Rattle.tall_plan.specs.declared.passes.Pass.{Pass}
use Rattle.tall_pass.specs.Fitting.{AreFit}
use Rattle.tall_pass.specs.PassPlans.{IsBelowAt}
use Rattle.tall_pass.specs.Told.{defined_carry}
use Rattle.tall_gather.specs.Progress.{AreAllPasses, AreKnown, InPasses, IsAfter, IsPassed, LevelPassed, rank_of}
use Rattle.tall_gather.specs.Told.{Holds, IsTold, LevelHolds, PassHolds, ranked_nodes}
use Rattle.tall_gather.proofs.OneTold.{ranks, there_or_none}
use Rattle.tall_gather.proofs.WorkLaws.{rank_none, rank_some, some_or_none}

-- ---- which passes

in_none : (k : ℕ) (ps : List Pass) (i : ℕ) → InPasses k ps 0 i → ⊥
in_none k ps i w = (let l = w.2 in omega (arith, l))

pub in_next : (k : ℕ) (ps : List Pass) (n i : ℕ) (p : Pass) → slice_get ps n ≡ Some p → InPasses k ps (n + 1) i → InPasses k ps n i ⊎ ((p.level ≡ k) × IsAmong p.work.items i)
in_next k ps n i p at w = elim (compare w.0 n) [
  | inl less ↦ inl (w.0, w.1, less, w.3, w.4, w.5)
  | inr (inl more) ↦ absurd (let l = w.2 in omega (arith, l, more))
  | inr (inr same) ↦
      let one : w.1 ≡ p = inside w.1 p (sym w.3 ∙ (ap (slice_get ps) same ∙ at)) in
      inr (ap (λ (q : Pass). q.level) (sym one) ∙ w.4, subst (λ (q : Pass). IsAmong q.work.items i) one w.5)
]

pub in_more : (k : ℕ) (ps : List Pass) (n i : ℕ) → InPasses k ps n i → InPasses k ps (n + 1) i
in_more k ps n i w = (w.0, w.1, (let l = w.2 in omega (arith, l)), w.3, w.4, w.5)

pub in_here : (k : ℕ) (ps : List Pass) (n i : ℕ) (p : Pass) → slice_get ps n ≡ Some p → p.level ≡ k → IsAmong p.work.items i → InPasses k ps (n + 1) i
in_here k ps n i p at l m = (n, p, omega arith, at, l, m)

-- ---- whatever the shelf tells

pub level_first : (vs : List Vertex) (roots : List ℕ) (k : ℕ) (ps : List Pass) (c : Option Fault) (known : Known) → AreFit vs known → LevelPassed vs roots k ps 0 c None known known
level_first vs roots k ps c known fit = record { fit = fit; stay = λ i w. w; added = λ i m. absurd (in_none k ps i m) }

pub level_skipped : (vs : List Vertex) (roots : List ℕ) (k : ℕ) (ps : List Pass) (n : ℕ) (c q : Option Fault) (old new : Known) (p : Pass) → slice_get ps n ≡ Some p → (p.level ≡ k → ⊥) → LevelPassed vs roots k ps n c q old new → LevelPassed vs roots k ps (n + 1) c q old new
level_skipped vs roots k ps n c q old new p at f so = record {
  fit = so.fit;
  stay = so.stay;
  added = λ i m r bc bq lasts. elim (in_next k ps n i p at m) [ inl before ↦ so.added i before r bc bq lasts | inr here ↦ absurd (f here.0) ];
}

pub known_before : (vs : List Vertex) (roots : List ℕ) (r k : ℕ) (ps : List Pass) (n : ℕ) (c q : Option Fault) (old new : Known) → AreKnown vs roots r c old → LevelPassed vs roots k ps n c q old new → AreKnown vs roots r c new
known_before vs roots r k ps n c q old new are so i m l b lasts = so.stay i (are i m l b lasts)

pub level_added : (vs : List Vertex) (roots : List ℕ) (k : ℕ) (ps : List Pass) (n : ℕ) (c q x : Option Fault) (old mid new : Known) (p : Pass) → slice_get ps n ≡ Some p → p.level ≡ k → LevelPassed vs roots k ps n c q old mid → IsPassed vs roots p c x mid new → LevelPassed vs roots k ps (n + 1) c (earlier q x) old new
level_added vs roots k ps n c q x old mid new p at l so one = record {
  fit = one.fit;
  stay = λ i w. one.stay i (so.stay i w);
  added = λ i m r bc bq lasts. elim (in_next k ps n i p at m) [
    | inl before ↦ one.stay i (so.added i before r bc (below_left q x _ bq) lasts)
    | inr here ↦ one.added i here.1 (r ∙ ap (λ j. 2 * j) (sym l)) bc (below_right q x _ bq) lasts
  ];
}

-- behind all passes of a level, its rank is done
pub level_done : (vs : List Vertex) (roots : List ℕ) (k : ℕ) (ps : List Pass) (c q : Option Fault) (old new : Known) → 0 < k → AreAllPasses vs roots ps → AreKnown vs roots (2 * k - 1) c old → LevelPassed vs roots k ps (length ps) c q old new → IsAfter vs roots (2 * k) (earlier q c) new
level_done vs roots k ps c q old new some all are so = record {
  fit = so.fit;
  ranks = λ i m l b lasts. elim (split (rank_of vs i) (2 * k - 1) (omega (arith, l, some))) [
    | inl low ↦ so.stay i (are i m low (below_right q c _ b) lasts)
    | inr here ↦ so.added i (in_all i m (omega (arith, here, some))) (omega (arith, here, some)) (below_right q c _ b) (below_left q c _ b) lasts
  ];
}
  where
    in_all : (i : ℕ) → IsAmong (needed_of vs roots) i → rank_of vs i ≡ 2 * k → InPasses k ps (length ps) i
    in_all i m r = elim (some_or_none (store_at vs i)) [
      | inl none ↦ (let e = rank_none vs i none in absurd (omega (arith, e, r)))
      | inr s ↦
          let e = rank_some vs i s.0 s.1 in
          let j : level (shape_at vs i) ≡ k = omega (arith, e, r) in
          subst (λ j. InPasses j ps (length ps) i) j (all.computed i s.0 m s.1)
    ]

-- ---- where the shelf tells its files

module _ (columns : Columns) (vs : List Vertex) (f : ℕ → Tall) (made : IsMade vs) (ordered : IsOrdered vs) (numbered : AreNumbered vs) (roots : List ℕ) (files : Files) (list : List Store) (seen : List SeenStore) (told : IsTold files list columns vs f seen) (k : ℕ) (ps : List Pass) (c : Option Fault) where
  abbrev Work : ℕ → Type 0
  Work i = IsWork (ranked_nodes vs f) (IsAmong (needed_of vs roots)) (2 * k) c i

  pub told_first : (known : Known) (counts : List (List (Option ℕ))) → Holds files list vs f roots seen (2 * k - 1) c known counts → LevelHolds files list vs f roots seen k ps 0 c None known known counts
  told_first known counts holds = record {
    fault = record { one = λ x e. absurd (cc); least = λ i y w own. absurd (in_none k ps i w.1) };
    right = holds.right;
    carried = λ i b m. absurd (in_none k ps i m);
    carries_stay = λ i b e. e;
    counted = holds.counted;
  }

  pub told_skipped : (n : ℕ) (q : Option Fault) (old new : Known) (counts : List (List (Option ℕ))) (p : Pass) → slice_get ps n ≡ Some p → (p.level ≡ k → ⊥) → LevelHolds files list vs f roots seen k ps n c q old new counts → LevelHolds files list vs f roots seen k ps (n + 1) c q old new counts
  told_skipped n q old new counts p at e so = record {
    fault = record {
      one = λ x h. (let w = so.fault.one x h in (w.0, (w.1.0, in_more k ps n w.0 w.1.1), w.2));
      least = λ i y w own. so.fault.least i y (w.0, before i w.1) own;
    };
    right = so.right;
    carried = λ i b m. so.carried i b (before i m);
    carries_stay = so.carries_stay;
    counted = so.counted;
  }
    where
      before : (i : ℕ) → InPasses k ps (n + 1) i → InPasses k ps n i
      before i m = elim (in_next k ps n i p at m) [ inl w ↦ w | inr here ↦ absurd (e here.0) ]

  pub held_before : (n : ℕ) (q : Option Fault) (old new : Known) (counts after : List (List (Option ℕ))) → Holds files list vs f roots seen (2 * k - 1) c old counts → LevelHolds files list vs f roots seen k ps n c q old new after → Holds files list vs f roots seen (2 * k - 1) c new after
  held_before n q old new counts after holds so = record {
    candidate = holds.candidate;
    right = so.right;
    carried = λ i b m scan l bc. so.carries_stay i b (holds.carried i b m scan l bc);
    counted = so.counted;
  }

  pub told_more : (n : ℕ) (q x : Option Fault) (old mid new : Known) (counts after : List (List (Option ℕ))) (p : Pass) → slice_get ps n ≡ Some p → p.level ≡ k → LevelHolds files list vs f roots seen k ps n c q old mid counts → PassHolds files list vs f roots seen p c x mid new after → LevelHolds files list vs f roots seen k ps (n + 1) c (earlier q x) old new after
  told_more n q x old mid new counts after p at l so one = record {
    fault = record {
      one = λ y e. (let w = both.one y e in (w.0, wider w.0 w.1, w.2));
      least = λ i y w own. both.least i y (narrower i w) own;
    };
    right = one.right;
    carried = λ i b m scan chain bc bq. elim (in_next k ps n i p at m) [
      | inl before ↦ one.carries_stay i b (so.carried i b before scan chain bc (below_left q x _ bq))
      | inr here ↦ one.carried i b here.1 scan (chain ∙ sym l) bc (below_right q x _ bq)
    ];
    carries_stay = λ i b e. one.carries_stay i b (so.carries_stay i b e);
    counted = one.counted;
  }
    where
      Here : ℕ → Type 0
      Here i = IsWork (ranked_nodes vs f) (IsAmong (needed_of vs roots)) (2 * p.level) c i × IsAmong p.work.items i

      both : IsLeast (own_in vs f) (λ i. (Work i × InPasses k ps n i) ⊎ (IsWork (ranked_nodes vs f) (IsAmong (needed_of vs roots)) (2 * p.level) c i × IsAmong p.work.items i)) (earlier q x)
      both = joined (own_in vs f) (λ i. Work i × InPasses k ps n i) (λ i. IsWork (ranked_nodes vs f) (IsAmong (needed_of vs roots)) (2 * p.level) c i × IsAmong p.work.items i) q x so.fault one.fault

      wider : (i : ℕ) → (Work i × InPasses k ps n i) ⊎ (IsWork (ranked_nodes vs f) (IsAmong (needed_of vs roots)) (2 * p.level) c i × IsAmong p.work.items i) → Work i × InPasses k ps (n + 1) i
      wider i w = elim w [ inl h ↦ (h.0, in_more k ps n i h.1) | inr h ↦ ((h.0.0, h.0.1 ∙ ap (λ j. 2 * j) l, h.0.2), in_here k ps n i p at l h.1) ]

      narrower : (i : ℕ) → Work i × InPasses k ps (n + 1) i → (Work i × InPasses k ps n i) ⊎ (IsWork (ranked_nodes vs f) (IsAmong (needed_of vs roots)) (2 * p.level) c i × IsAmong p.work.items i)
      narrower i w = elim (in_next k ps n i p at w.1) [ inl h ↦ inl (w.0, h) | inr h ↦ inr ((w.0.0, w.0.1 ∙ ap (λ j. 2 * j) (sym h.0), w.0.2), h.1) ]

  -- behind all passes of a level
  pub told_level : (q : Option Fault) (old new : Known) (counts after : List (List (Option ℕ))) → 0 < k → AreAllPasses vs roots ps → Holds files list vs f roots seen (2 * k - 1) c old counts → LevelHolds files list vs f roots seen k ps (length ps) c q old new after → Holds files list vs f roots seen (2 * k) (earlier q c) new after
  told_level q old new counts after some all holds so = record {
    candidate = subst (λ r. IsLeast (own_in vs f) (UpTo (ranked_nodes vs f) (IsAmong (needed_of vs roots)) r) (earlier q c)) twice next.candidate;
    right = so.right;
    carried = carried;
    counted = so.counted;
  }
    where
      twice : 2 * k - 1 + 1 ≡ 2 * k
      twice = omega (arith, some)

      in_all : (i : ℕ) → IsAmong (needed_of vs roots) i → ranks_in vs f i ≡ 2 * k → InPasses k ps (length ps) i
      in_all i m r =
          let q : rank_of vs i ≡ 2 * k = sym (ranks columns vs f made told.meaning ordered numbered roots all.there i m) ∙ r in
          elim (some_or_none (store_at vs i)) [
            | inl none ↦ (let e = rank_none vs i none in absurd (omega (arith, e, q)))
            | inr s ↦
                let e = rank_some vs i s.0 s.1 in
                let j : level (shape_at vs i) ≡ k = omega (arith, e, q) in
                subst (λ j. InPasses j ps (length ps) i) j (all.computed i s.0 m s.1)
          ]

      found : IsLeast (own_in vs f) Work q
      found = record {
        one = λ x e. (let w = so.fault.one x e in (w.0, w.1.0, w.2));
        least = λ i y w own. so.fault.least i y (w, in_all i w.0 w.1) own;
      }

      next : After (ranked_nodes vs f) (IsAmong (needed_of vs roots)) (IsAmong (needed_of vs roots)) (2 * k - 1 + 1) (earlier q c)
      next = step (ranked_nodes vs f) (IsAmong (needed_of vs roots)) (IsAmong (needed_of vs roots)) (IsAmong (needed_of vs roots)) (2 * k - 1) c q
          (graph_ranks columns vs f told.meaning numbered (are_readings files list vs columns told.stored)).numbered
          (record { known = λ i u b. u.0; candidate = holds.candidate })
          (record { kept = λ i w. w; more = λ i w b. w.0; found = subst (λ r. IsLeast (own_in vs f) (IsWork (ranked_nodes vs f) (IsAmong (needed_of vs roots)) r c) q) (sym twice) found })

      carried : (i b : ℕ) → IsAmong (needed_of vs roots) i → is_scan_at (slice_get vs i) ≡ true → 2 * (shape_at vs i).chain ≤ 2 * k → IsBelowAt vs (earlier q c) i → carry new i b ≡ defined_carry vs f files list i b
      carried i b m scan l low = elim (split (2 * (shape_at vs i).chain) (2 * k - 1) (omega (arith, l, some))) [
        | inl less ↦ so.carries_stay i b (holds.carried i b m scan less (below_right q c _ low))
        | inr here ↦ elim (some_or_none (store_of (shape_at vs i).space)) [
          | inr s ↦
              let chain : (shape_at vs i).chain ≡ k = omega (arith, here, some) in
              let at = Rattle.tall_gather.proofs.OnePass.own_store vs i s.0 s.1 in
              so.carried i b (subst (λ j. InPasses j ps (length ps) i) chain (all.scanned i s.0 m at scan)) scan chain (below_right q c _ low) (below_left q c _ low)
          | inl none ↦ elim (there_or_none (carry new i b)) [
            | inr some ↦ some.1 ∙ sym (so.right.carries i b some.0 some.1)
            | inl gone ↦ (let v = needed_there vs made roots all.there i m in gone ∙ sym (ap (λ o. Rattle.tall_pass.specs.Told.carry_over vs f files list o i b) (ap (λ (x : Shape). store_of x.space) (value_shape columns vs f made told.meaning i v.0 v.1) ∙ none)))
          ]
        ]
      ]
