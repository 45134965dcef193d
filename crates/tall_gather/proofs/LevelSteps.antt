-- From a level to the next, and before the first one.
use Rattle.std.specs.Prelude.{◌≡◌, ℕ, ◌≤◌, ◌*◌, ◌⊎◌, true, Option, None, Some, List, [], slice_get, ⊤}
use Rattle.std.proofs.Common.{ap, sym, subst, ◌∙◌, arith, inl, inr}
use Rattle.tall_outside.specs.Shelf.{Files}
use Rattle.tall_outside.specs.ShelfCounts.{Counts}
use Rattle.tall_semantics.specs.Outcomes.{rows}
use Rattle.tall_semantics.specs.Talls.{Columns, Tall}
use Rattle.tall_semantics.specs.Spaces.{has_rows, store_of}
use Rattle.tall_semantics.specs.Shapes.{Shape}
use Rattle.tall_semantics.specs.ShapesInOrder.{IsMade, shape_at}
use Rattle.tall_semantics.specs.Deferred.{Vertex, AreThere, IsAmong, IsMeaning, IsOrdered}
use Rattle.tall_semantics.specs.Numbered.{AreNumbered}
use Rattle.tall_semantics.specs.Plans.{is_scan_at, needed_of}
use Rattle.tall_semantics.proofs.Basics.{and_true}
use Rattle.tall_semantics.proofs.CandidateLaws.{start}
use Rattle.tall_semantics.proofs.PlanLaws.{needed_there}
use Rattle.tall_semantics.proofs.ShapesInOrderLaws.{value_shape}
use Rattle.tall_blocks.proofs.LevelWorkLaws.{none_due_ranks}
use Rattle.tall_store.specs.Stores.{SeenStore}
use Rattle.tall_stored.specs.StoredColumns.{Store}
use Rattle.tall_fuse.specs.Kept.{carry, found}
use Rattle.tall_fuse.specs.declared.known.Known.{Known}
use Rattle.tall_pass.specs.Told.{carry_over, defined_carry}
use Rattle.tall_gather.specs.declared.candidate.Candidate.{Candidate}
use Rattle.tall_gather.specs.declared.candidate.Candidate.TheVariants as candidate
use Rattle.tall_gather.specs.Candidates.{IsOfData}
use Rattle.tall_gather.specs.Going.{IsBlamed}
use Rattle.tall_gather.specs.Progress.{IsAfter, IsUnknown, rank_of}
use Rattle.tall_gather.specs.Told.{AreCountedAll, Holds, IsTold}
use Rattle.tall_gather.proofs.OneTold.{ranks, with_rows}
use Rattle.tall_gather.proofs.WorkLaws.{some_or_none}

-- ---- before the first rank

pub nothing_after : (vs : List Vertex) → IsMade vs → IsOrdered vs → AreNumbered vs → ((columns : Columns) → (f : ℕ → Tall) × IsMeaning columns vs f) → (roots : List ℕ) → AreThere vs roots → (known : Known) → IsUnknown known → IsAfter vs roots 0 None known
nothing_after vs made ordered numbered solved roots there known none = record {
  fit = record {
    results = λ i r e. (let q : None ≡ Some r = sym (none.results i) ∙ e in absurd (cc));
    carries = λ i b x e. (let q : None ≡ Some x = sym (none.carries i b) ∙ e in absurd (cc));
  };
  ranks = λ i m l b lasts. absurd (no_rank i m l);
}
  where
    no_rank : (i : ℕ) → IsAmong (needed_of vs roots) i → rank_of vs i ≤ 0 → ⊥
    no_rank i m l =
        let f = solved (λ s v. rows []) in
        let after = start (λ s v. rows []) vs f.0 f.1 numbered (needed_of vs roots) (λ r n. needed_there vs made roots there r n) in
        let e = ranks (λ s v. rows []) vs f.0 made f.1 ordered numbered roots there i m in
        after.known i (m, omega (arith, e, l)) tt

pub nothing_holds : (columns : Columns) (vs : List Vertex) (f : ℕ → Tall) → IsMade vs → IsOrdered vs → AreNumbered vs → (roots : List ℕ) → AreThere vs roots → (known : Known) → IsUnknown known → (files : Files) (list : List Store) (stores : List SeenStore) (counts : List (List (Option ℕ)))
    → IsTold files list columns vs f stores → AreCountedAll files stores counts → Holds files list vs f roots stores 0 None known counts
nothing_holds columns vs f made ordered numbered roots there known none files list stores counts told counted = record {
  candidate = (start columns vs f told.meaning numbered (needed_of vs roots) (λ r n. needed_there vs made roots there r n)).candidate;
  right = record {
    results = λ i r e. (let q : None ≡ Some r = sym (none.results i) ∙ e in absurd (cc));
    carries = λ i b x e. (let q : None ≡ Some x = sym (none.carries i b) ∙ e in absurd (cc));
  };
  carried = carried;
  counted = counted;
}
  where
    carried : (i b : ℕ) → IsAmong (needed_of vs roots) i → is_scan_at (slice_get vs i) ≡ true → 2 * (shape_at vs i).chain ≤ 0 → ⊤ → carry known i b ≡ defined_carry vs f files list i b
    carried i b m scan l low =
        let v = needed_there vs made roots there i m in
        let shape = value_shape columns vs f made told.meaning i v.0 v.1 in
        elim (some_or_none (store_of (f i).shape.space)) [
          | inl gone ↦ none.carries i b ∙ sym (ap (λ o. carry_over vs f files list o i b) gone)
          | inr s ↦
              let chain : (f i).shape.chain ≡ (shape_at vs i).chain = ap (λ (x : Shape). x.chain) shape in
              absurd (none_due_ranks columns vs f made told.meaning ordered (needed_of vs roots) [] None i m (and_true (is_scan_at (slice_get vs i)) (has_rows (f i).shape.space) scan (with_rows (f i).shape.space s.0 s.1)) (omega (arith, chain, l)) tt)
        ]

-- ---- blame

pub blamed_data : (list : List SeenStore) (p : Option Candidate) (a b : Counts) → IsOfData p → IsBlamed list p a b
blamed_data list None a b h = tt
blamed_data list (Some (candidate.Data f)) a b h = tt
blamed_data list (Some (candidate.Reading r)) a b h = absurd h

pub either_then : (list : List SeenStore) (found passed c rest r : Option Candidate) (a b : Counts) → (passed ≡ found) ⊎ (passed ≡ c) → IsBlamed list found a b → (r ≡ rest) ⊎ (r ≡ passed) → IsBlamed list rest a b → (r ≡ c) ⊎ IsBlamed list r a b
either_then list found passed c rest r a b p hf (inl e) hr = inr (subst (λ x. IsBlamed list x a b) (sym e) hr)
either_then list found passed c rest r a b (inl p) hf (inr e) hr = inr (subst (λ x. IsBlamed list x a b) (sym (e ∙ p)) hf)
either_then list found passed c rest r a b (inr p) hf (inr e) hr = inl (e ∙ p)
