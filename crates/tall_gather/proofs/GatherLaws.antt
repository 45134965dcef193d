-- From the plan to the passes of a gather, and from what is known behind all levels to its answer.
use Rattle.std.specs.Prelude.{◌≡◌, refl, ℕ, zero, suc, ◌<◌, ◌≤◌, ◌+◌, ◌*◌, ◌-◌, ◌⊎◌, ◌==◌, if◌then◌else◌, Bool, true, false, Option, None, Some, Result, Ok, Err, List, [], ◌∷◌, ◌++◌, length, map, take, drop, slice_get, replicate, get_or, ⊤}
use Rattle.std.proofs.Common.{ap, sym, subst, ◌∙◌, arith, inl, inr}
use Rattle.std.proofs.lemmas.List.{length-map, length-replicate}
use Rattle.std.proofs.lemmas.Option.{slice_get-map}
use Rattle.tall_outside.specs.Shelf.{Files}
use Rattle.tall_semantics.specs.Faults.{Fault}
use Rattle.tall_semantics.specs.Talls.{Columns, Tall}
use Rattle.tall_semantics.specs.Shapes.{greatest_level, level}
use Rattle.tall_semantics.specs.ShapesInOrder.{IsMade, shape_at}
use Rattle.tall_semantics.specs.Deferred.{Vertex, AllBelow, AreThere, IsAmong, IsOrdered, itself, least_in}
use Rattle.tall_semantics.specs.Numbered.{AreNumbered}
use Rattle.tall_semantics.specs.Passes as semantics
use Rattle.tall_semantics.specs.Passes.{pass_of, passes_at, passes_up_to}
use Rattle.tall_semantics.specs.Plans.{IsPass, collected, is_scan_at, needed_of, plan_of, store_at, work_of}
use Rattle.tall_semantics.specs.Ranks.{ranks_in}
use Rattle.tall_semantics.proofs.Basics.{inside}
use Rattle.tall_semantics.proofs.CandidateLaws.{graph_ranks, last_candidate}
use Rattle.tall_semantics.proofs.OriginLaws.{below_among}
use Rattle.tall_semantics.proofs.PlanLaws.{carried, needed_level, needed_under, pass_work, planned}
use Rattle.tall_store.specs.Stores.{SeenStore}
use Rattle.tall_stored.specs.StoredColumns.{Store}
use Rattle.tall_stored.proofs.StoredLaws.{are_readings}
use Rattle.tall_fuse.specs.declared.known.Known.{Known}
use Rattle.tall_plan.specs.Seen.{AreCollected, pass_seen, passes_seen}
use Rattle.tall_plan.specs.declared.passes.Pass.{Pass}
use Rattle.tall_pass.specs.Counts.{count_at}
use Rattle.tall_gather.specs.Gathered.{no_counts}
use Rattle.tall_gather.specs.Progress.{AreAllPasses, HaveCounts, InPasses, IsAfter, IsKnown, rank_of}
use Rattle.tall_gather.specs.Told.{AreCountedAll}
use Rattle.tall_gather.proofs.WorkLaws.{rank_none, rank_some, some_or_none}

-- ---- the plan

pass_either : (ps qs : List semantics.Pass) (p : semantics.Pass) → IsPass (ps ++ qs) p → IsPass ps p ⊎ IsPass qs p
pass_either [] qs p h = inr h
pass_either (x ∷ ps) qs p (inl e) = inl (inl e)
pass_either (x ∷ ps) qs p (inr h) = elim (pass_either ps qs p h) [ inl a ↦ inl (inr a) | inr b ↦ inr b ]

one_level : (s k : ℕ) (ws : List ℕ) (p : semantics.Pass) → IsPass (pass_of s k ws) p → k ≡ p.level
one_level s k [] p h = absurd h
one_level s k (w ∷ ws) p (inl e) = ap (λ (x : semantics.Pass). x.level) e
one_level s k (w ∷ ws) p (inr h) = absurd h

module _ (work : (store level : ℕ) → List ℕ) where
  level_at : (k n : ℕ) (p : semantics.Pass) → IsPass (passes_at work k n) p → k ≡ p.level
  unfolding passes_at
  level_at k zero p h = absurd h
  level_at k (suc n) p h = elim (pass_either (passes_at work k n) (pass_of n k (work n k)) p h) [ inl a ↦ level_at k n p a | inr b ↦ one_level n k (work n k) p b ]

  level_some : (n k : ℕ) (p : semantics.Pass) → IsPass (passes_up_to work n k) p → 0 < p.level
  unfolding passes_up_to
  level_some n zero p h = absurd h
  level_some n (suc k) p h = elim (pass_either (passes_up_to work n k) (passes_at work (suc k) n) p h) [ inl a ↦ level_some n k p a | inr b ↦ (let e = level_at (suc k) n p b in omega (arith, e)) ]

pass_here : (ps : List Pass) (j : ℕ) (p : Pass) → slice_get ps j ≡ Some p → IsPass (map pass_seen ps) (pass_seen p)
pass_here [] j p e = absurd (cc)
pass_here (x ∷ ps) zero p e = inl (ap pass_seen (pass_inside x p e))
  where
    pass_inside : (x p : Pass) → Some x ≡ Some p → x ≡ p
    pass_inside x p e = cc
pass_here (x ∷ ps) (suc j) p e = inr (pass_here ps j p e)

pass_found : (ps : List Pass) (q : semantics.Pass) → IsPass (map pass_seen ps) q → (j : ℕ) × (p : Pass) × (j < length ps) × (slice_get ps j ≡ Some p) × (pass_seen p ≡ q)
pass_found [] q h = absurd h
pass_found (x ∷ ps) q (inl e) = (0, x, omega arith, refl, e)
pass_found (x ∷ ps) q (inr h) = (let w = pass_found ps q h in (suc w.0, w.1, (let l = w.2 in omega (arith, l)), w.3, w.4))

collected_at : (vs : List Vertex) (roots : List ℕ) (ps : List Pass) (j : ℕ) (p : Pass) → AreCollected vs roots ps → slice_get ps j ≡ Some p → p.collect.items ≡ collected vs roots p.store p.level
collected_at vs roots [] j p h e = absurd (cc)
collected_at vs roots (x ∷ ps) zero p h e = subst (λ (y : Pass). y.collect.items ≡ collected vs roots y.store y.level) (pass_inside x p e) h.0
  where
    pass_inside : (x p : Pass) → Some x ≡ Some p → x ≡ p
    pass_inside x p e = cc
collected_at vs roots (x ∷ ps) (suc j) p h e = collected_at vs roots ps j p h.1 e

get_there : (vs : List Vertex) (i : ℕ) → i < length vs → (v : Vertex) × (slice_get vs i ≡ Some v)
get_there [] i l = absurd (omega (arith, l))
get_there (v ∷ vs) zero l = (v, refl)
get_there (v ∷ vs) (suc i) l = get_there vs i (omega (arith, l))

pub are_there : (vs : List Vertex) (roots : List ℕ) → AllBelow (length vs) roots → AreThere vs roots
are_there vs roots h r m = get_there vs r (below_among (length vs) roots r h m)

pub all_passes : (vs : List Vertex) → IsMade vs → (roots : List ℕ) → AllBelow (length vs) roots → (ps : List Pass) → passes_seen ps ≡ plan_of vs roots → AreCollected vs roots ps → AreAllPasses vs roots ps
all_passes vs made roots below ps e collects = record {
  there = are_there vs roots below;
  planned = λ j p at. (let is = subst (λ qs. IsPass qs (pass_seen p)) e (pass_here ps j p at) in record {
    there = are_there vs roots below;
    level = level_some (work_of vs (needed_of vs roots)) _ _ (pass_seen p) is;
    work = pass_work vs roots (pass_seen p) is;
    collect = collected_at vs roots ps j p collects at;
  });
  computed = λ i s m at. in_passes i (level (shape_at vs i)) s (planned vs made roots (are_there vs roots below) i s m at);
  scanned = λ i s m at scan. in_passes i (shape_at vs i).chain s (carried vs made roots (are_there vs roots below) i s m at scan);
}
  where
    in_passes : (i k s : ℕ) → Rattle.tall_semantics.specs.Plans.IsPlanned vs roots s k i → InPasses k ps (length ps) i
    in_passes i k s w =
        let f = pass_found ps w.0 (subst (λ qs. IsPass qs w.0) (sym e) w.1) in
        (f.0, f.1, f.2, f.3, ap (λ (x : semantics.Pass). x.level) f.4 ∙ w.3, subst (λ (x : semantics.Pass). IsAmong x.work i) (sym f.4) w.4)

-- ---- counts

pub counts_fresh : (stores : List SeenStore) (counts : List (List (Option ℕ))) → counts ≡ map no_counts stores → HaveCounts counts stores
counts_fresh stores counts e = record {
  stores = ap (λ (x : List (List (Option ℕ))). length x) e ∙ length-map stores no_counts;
  files = λ s d at. (no_counts d, ap (λ (x : List (List (Option ℕ))). slice_get x s) e ∙ (slice_get-map no_counts stores s ∙ ap (Rattle.std.specs.Prelude.option_map no_counts) at), length-replicate (length d.files) None);
}

none_counted : (n file m : ℕ) → count_at (replicate n None) file ≡ Some m → ⊥
none_counted zero file m e = absurd (cc)
none_counted (suc n) zero m e = absurd (cc)
none_counted (suc n) (suc file) m e = none_counted n file m e

pub counted_fresh : (files : Files) (stores : List SeenStore) (counts : List (List (Option ℕ))) → counts ≡ map no_counts stores → AreCountedAll files stores counts
counted_fresh files stores counts e s x ns at an file n c =
    let same : Some (no_counts x) ≡ Some ns = sym (ap (λ (y : List (List (Option ℕ))). slice_get y s) e ∙ (slice_get-map no_counts stores s ∙ ap (Rattle.std.specs.Prelude.option_map no_counts) at)) ∙ an in
    let one : no_counts x ≡ ns = inside (no_counts x) ns same in
    absurd (none_counted (length x.files) file n (subst (λ ms. count_at ms file ≡ Some n) (sym one) c))

-- ---- roots

rank_most : (vs : List Vertex) (i g : ℕ) → level (shape_at vs i) ≤ g → rank_of vs i ≤ 2 * g + 1
rank_most vs i g l = elim (some_or_none (store_at vs i)) [
  | inl none ↦ (let e = rank_none vs i none in omega (arith, e, l))
  | inr s ↦ (let e = rank_some vs i s.0 s.1 in omega (arith, e, l))
]

pub roots_known : (vs : List Vertex) → IsMade vs → IsOrdered vs → (roots : List ℕ) → AllBelow (length vs) roots → (g : ℕ) → g ≡ greatest_level (map (shape_at vs) roots) → (known : Known) → IsAfter vs roots (2 * g + 1) None known → (i : ℕ) → IsAmong roots i → IsKnown known i
roots_known vs made ordered roots below g eg known after i m =
    let there = are_there vs roots below in
    let n : IsAmong (needed_of vs roots) i = (needed_under vs roots ordered there i).1 (i, m, itself i) in
    let l = needed_level vs made roots there i n in
    after.ranks i n (rank_most vs i g (omega (arith, l, eg))) tt (inr m)

-- the last candidate is the fault of the gather
pub last_is : (columns : Columns) (vs : List Vertex) (f : ℕ → Tall) → IsMade vs → IsOrdered vs → AreNumbered vs → (roots : List ℕ) → AllBelow (length vs) roots → (g : ℕ) → g ≡ greatest_level (map (shape_at vs) roots) → (files : Files) (list : List Store) (stores : List SeenStore) (c : Option Fault) (known : Known) (counts : List (List (Option ℕ)))
    → Rattle.tall_gather.specs.Told.IsTold files list columns vs f stores → Rattle.tall_gather.specs.Told.Holds files list vs f roots stores (2 * g + 1) c known counts → c ≡ least_in f roots
last_is columns vs f made ordered numbered roots below g eg files list stores c known counts told holds =
    let there = are_there vs roots below in
    last_candidate columns vs f (ranks_in vs f) roots (needed_of vs roots) (record {
      meaning = told.meaning;
      ordered = ordered;
      levelled = graph_ranks columns vs f told.meaning numbered (are_readings files list vs columns told.stored);
      there = there;
      under = needed_under vs roots ordered there;
    }) (2 * g + 1) c holds.candidate (λ j m.
    let l = needed_level vs made roots there j m in
    let r = Rattle.tall_gather.proofs.OneTold.ranks columns vs f made told.meaning ordered numbered roots there j m in
    let b = rank_most vs j g (omega (arith, l, eg)) in
    omega (arith, r, b))
