-- One pass of a gather, whatever the shelf tells: what it is given, what is known behind it, and what it opened and blames.
use Rattle.std.specs.Prelude.{◌≡◌, refl, ℕ, zero, suc, ◌<◌, ◌≤◌, ◌+◌, ◌*◌, ◌-◌, ◌==◌, Bool, true, false, if◌then◌else◌, Option, None, Some, List, [], ◌∷◌, ◌++◌, length, take, get_or, slice_get}
use Rattle.std.proofs.Common.{ap, sym, subst, ◌∙◌, arith, inl, inr}
use Rattle.std.specs.List.{filter}
use Rattle.std.specs.Str.{bytes_eq}
use Rattle.std.proofs.Math.ListN.{set}
use Rattle.std.proofs.lemmas.List.Sums.{sum_by-append}
use Rattle.std.proofs.lemmas.Option.{slice_get_within}
use Rattle.std.proofs.lemmas.Slice.Eq.{bytes_eq-Decides}
use Rattle.tall_core.proofs.Lists.{get_set_here, get_set_else}
use Rattle.tall_outside.specs.OpenedNames.{Adds}
use Rattle.tall_outside.specs.Shelf.{openings_of}
use Rattle.tall_semantics.specs.Operations.{Made, stored, operation}
use Rattle.tall_semantics.specs.Faults.{Fault}
use Rattle.tall_semantics.specs.Spaces.{store_of}
use Rattle.tall_semantics.specs.Shapes.{level}
use Rattle.tall_semantics.specs.ShapesInOrder.{IsMade, shape_at}
use Rattle.tall_semantics.specs.Deferred.{Vertex, IsAmong, IsOrdered}
use Rattle.tall_semantics.specs.Numbered.{AreNumbered, number_at}
use Rattle.tall_semantics.specs.Plans.{collected, needed_of, store_at, work_of}
use Rattle.tall_semantics.specs.Reach.{IsOfStore}
use Rattle.tall_semantics.proofs.Basics.{inside}
use Rattle.tall_semantics.proofs.PlanLaws.{needed_there}
use Rattle.tall_semantics.proofs.ReachLaws.{reads_decided, not_before_the_call}
use Rattle.tall_blocks.proofs.LevelWorkLaws.{collected_is}
use Rattle.tall_store.specs.Stores.{SeenStore}
use Rattle.tall_stored.specs.StoredColumns.{variable_class}
use Rattle.tall_fuse.specs.declared.known.Known.{Known}
use Rattle.tall_plan.specs.declared.passes.Pass.{Pass}
use Rattle.tall_pass.specs.Answered.{Adding, IsUnchanged}
use Rattle.tall_pass.specs.Fitting.{AreFit, CanRun}
use Rattle.tall_pass.specs.PassPlans.{FitsStore, IsBelowAt, IsPassBelow, IsResult, is_below_at}
use Rattle.tall_gather.specs.Candidates.{HasVariable, IsCall}
use Rattle.tall_gather.specs.Going.{OpensAtMost}
use Rattle.tall_gather.specs.Progress.{AreKnown, FitStores, HaveCounts, IsPassed, IsPlannedPass, Lasts, rank_of}
use Rattle.tall_gather.proofs.WorkLaws.{among_below, below_among_is, first_of, rank_level, rank_lower, some_or_none, work_is, work_reaches, work_variable}

-- ---- what is numbered below the candidate

-- `part` is the pass with only its nodes numbered below c
pub record IsPart (vs : List Vertex) (c : Option Fault) (pass part : Pass) : Type 0 where
  pub store : part.store ≡ pass.store
  pub level : part.level ≡ pass.level
  pub work : part.work.items ≡ filter (is_below_at vs c) pass.work.items
  pub collect : part.collect.items ≡ filter (is_below_at vs c) pass.collect.items

pub part_work : (vs : List Vertex) (c : Option Fault) (pass part : Pass) → IsPart vs c pass part → (i : ℕ) → IsAmong pass.work.items i → IsBelowAt vs c i → IsAmong part.work.items i
part_work vs c pass part is i m b = subst (λ xs. IsAmong xs i) (sym is.work) (among_below vs c pass.work.items i m b)

pub work_of_part : (vs : List Vertex) (c : Option Fault) (pass part : Pass) → IsPart vs c pass part → (i : ℕ) → IsAmong part.work.items i → IsAmong pass.work.items i × IsBelowAt vs c i
work_of_part vs c pass part is i m = below_among_is vs c pass.work.items i (subst (λ xs. IsAmong xs i) is.work m)

pub part_planned : (vs : List Vertex) (roots : List ℕ) (c : Option Fault) (pass part : Pass) → IsPlannedPass vs roots pass → IsPart vs c pass part → IsPassBelow vs roots c part
part_planned vs roots c pass part plan is = record {
  there = plan.there;
  level = subst (λ k. 0 < k) (sym is.level) plan.level;
  work = is.work ∙ ap (filter (is_below_at vs c)) (plan.work ∙ (ap (λ s. work_of vs (needed_of vs roots) s pass.level) (sym is.store) ∙ ap (λ k. work_of vs (needed_of vs roots) part.store k) (sym is.level)));
  collect = is.collect ∙ ap (filter (is_below_at vs c)) (plan.collect ∙ (ap (λ s. collected vs roots s pass.level) (sym is.store) ∙ ap (λ k. collected vs roots part.store k) (sym is.level)));
}

pub can_run : (vs : List Vertex) (roots : List ℕ) (c : Option Fault) (pass part : Pass) (known : Known) → IsPlannedPass vs roots pass → IsPart vs c pass part → AreKnown vs roots (2 * pass.level - 1) c known → CanRun vs part known
can_run vs roots c pass part known plan is are = (
  roots,
  c,
  record {
    planned = part_planned vs roots c pass part plan is;
    lower = λ i l. are i l.0 (rank_lower vs i pass.level (subst (λ k. level (shape_at vs i) < k) is.level l.1)) l.2 (inl l.3);
  },
)

pub part_variable : (vs : List Vertex) → IsMade vs → (roots : List ℕ) (c : Option Fault) (pass part : Pass) → IsPlannedPass vs roots pass → IsPart vs c pass part → 0 < length part.work.items → HasVariable vs pass.store
part_variable vs made roots c pass part plan is l =
    let w = first_of part.work.items l in
    let m = work_of_part vs c pass part is w.0 w.1 in
    work_variable vs made roots plan.there pass.store pass.level w.0 (subst (λ xs. IsAmong xs w.0) plan.work m.0)

-- ---- datastores

pub fits_store : (vs : List Vertex) (seen : List SeenStore) (s : ℕ) (d : SeenStore) → FitStores vs seen → slice_get seen s ≡ Some d → FitsStore vs s d
fits_store vs seen s d fit at i v variable class e m =
    let w = fit i v s variable class e m in
    let same : w.0 ≡ d = inside w.0 d (sym w.1 ∙ at) in
    subst (λ (x : SeenStore). (variable < length x.selected) × (class ≡ variable_class x variable)) same (w.2 i v variable class e m)

store_of_variable : (vs : List Vertex) (seen : List SeenStore) (s i : ℕ) (v : Vertex) (m : Made) → FitStores vs seen → slice_get vs i ≡ Some v → v.made ≡ m → IsOfStore s m → (d : SeenStore) × (slice_get seen s ≡ Some d)
store_of_variable vs seen s i v (stored t x k) fit e em is =
    let w = fit i v t x k e em in
    (w.0, ap (slice_get seen) is ∙ w.1)
store_of_variable vs seen s i v (operation op) fit e em is = absurd is

pub variable_store : (vs : List Vertex) (seen : List SeenStore) (s : ℕ) → FitStores vs seen → HasVariable vs s → (d : SeenStore) × (slice_get seen s ≡ Some d)
variable_store vs seen s fit (i, v, e, is) = store_of_variable vs seen s i v v.made fit e refl is

pub counts_set : (counts : List (List (Option ℕ))) (seen : List SeenStore) (s : ℕ) (d : SeenStore) (ns new : List (Option ℕ)) → HaveCounts counts seen → slice_get seen s ≡ Some d → slice_get counts s ≡ Some ns → length new ≡ length ns → HaveCounts (set counts s new) seen
counts_set counts seen s d ns new have at an l = record {
  stores = Rattle.std.proofs.Common.length-set counts s new ∙ have.stores;
  files = λ t e h. (let w = have.files t e h in by_place t e w h);
}
  where
    by_place : (t : ℕ) (e : SeenStore) → (ms : List (Option ℕ)) × (slice_get counts t ≡ Some ms) × (length ms ≡ length e.files) → slice_get seen t ≡ Some e → (ms : List (Option ℕ)) × (slice_get (set counts s new) t ≡ Some ms) × (length ms ≡ length e.files)
    by_place t e w h = elim (Rattle.tall_semantics.proofs.LevelLaws.compare t s) [
      | inl less ↦ (w.0, get_set_else counts s t new (λ q. omega (arith, less, q)) ∙ w.1, w.2)
      | inr (inl more) ↦ (w.0, get_set_else counts s t new (λ q. omega (arith, more, q)) ∙ w.1, w.2)
      | inr (inr same) ↦
          let here : slice_get counts s ≡ Some w.0 = ap (slice_get counts) (sym same) ∙ w.1 in
          let ms : ns ≡ w.0 = inside ns w.0 (sym an ∙ here) in
          (new, ap (slice_get (set counts s new)) same ∙ get_set_here counts s new (slice_get_within counts s ns an), l ∙ (ap (λ (x : List (Option ℕ)). length x) ms ∙ w.2))
    ]

-- ---- what is known

pub own_store : (vs : List Vertex) (i s : ℕ) → store_of (shape_at vs i).space ≡ Some s → store_at vs i ≡ Some s
own_store vs i s e = simp e refl

is_result : (vs : List Vertex) → IsOrdered vs → (roots : List ℕ) (c p : Option Fault) (pass part : Pass) → IsPlannedPass vs roots pass → IsPart vs c pass part
    → (i : ℕ) → IsAmong pass.work.items i → rank_of vs i ≡ 2 * pass.level → IsBelowAt vs c i → IsBelowAt vs p i → Lasts vs roots i → IsResult vs part p i
is_result vs ordered roots c p pass part plan is i m r bc bp lasts =
    let w = work_is vs pass.store pass.level i (needed_of vs roots) (subst (λ xs. IsAmong xs i) plan.work m) in
    elim (some_or_none (store_of (shape_at vs i).space)) [
      | inl none ↦ (inl (part_work vs c pass part is i m bc, none), bp)
      | inr some ↦ elim lasts [
        | inl small ↦ (let q : None ≡ Some some.0 = sym small ∙ some.1 in absurd (cc))
        | inr root ↦
            let same : some.0 ≡ pass.store = inside some.0 pass.store (sym (own_store vs i some.0 some.1) ∙ w.1) in
            let k : level (shape_at vs i) ≡ pass.level = rank_level vs i pass.store pass.level w.1 r in
            let in_list : IsAmong (collected vs roots pass.store pass.level) i = (collected_is vs ordered roots plan.there pass.store pass.level i).1 (root, some.1 ∙ ap Some same, k) in
            (inr (subst (λ xs. IsAmong xs i) (sym is.collect) (among_below vs c pass.collect.items i (subst (λ xs. IsAmong xs i) (sym plan.collect) in_list) bc)), bp)
      ]
    ]

pub pass_added : (vs : List Vertex) → IsOrdered vs → (roots : List ℕ) (c p : Option Fault) (pass part : Pass) (old new : Known) → IsPlannedPass vs roots pass → IsPart vs c pass part → AreFit vs old → Adding vs part p old new → IsPassed vs roots pass c p old new
pass_added vs ordered roots c p pass part old new plan is fit a = record {
  fit = record {
    results = λ i r e. elim (a.results i r e) [ inl o ↦ fit.results i r o | inr w ↦ w.1 ];
    carries = λ i b x e. elim (a.carries i b x e) [ inl o ↦ fit.carries i b x o | inr w ↦ w.1 ];
  };
  stay = λ i w. elim (a.stay i w.0 w.1) [ inl e ↦ (w.0, e) | inr res ↦ a.added i res ];
  added = λ i m r bc bp lasts. a.added i (is_result vs ordered roots c p pass part plan is i m r bc bp lasts);
}

fit_same : (vs : List Vertex) (old new : Known) → AreFit vs old → IsUnchanged old new → AreFit vs new
fit_same vs old new fit same = record {
  results = λ i r e. fit.results i r (sym (same.results i) ∙ e);
  carries = λ i b x e. fit.carries i b x (sym (same.carries i b) ∙ e);
}

-- nothing of the pass is numbered below p
pub pass_unchanged : (vs : List Vertex) (roots : List ℕ) (c p : Option Fault) (pass : Pass) (old new : Known) → AreFit vs old → IsUnchanged old new
    → ((i : ℕ) → IsAmong pass.work.items i → IsBelowAt vs c i → IsBelowAt vs p i → ⊥) → IsPassed vs roots pass c p old new
pass_unchanged vs roots c p pass old new fit same none = record {
  fit = fit_same vs old new fit same;
  stay = λ i w. (w.0, same.results i ∙ w.1);
  added = λ i m r bc bp lasts. absurd (none i m bc bp);
}

pub unchanged : (known : Known) → IsUnchanged known known
unchanged known = record { results = λ i. refl; carries = λ i b. refl }

pub none_among : (xs : List ℕ) → length xs ≡ 0 → (i : ℕ) → IsAmong xs i → ⊥
none_among [] e i m = m
none_among (x ∷ xs) e i m = omega (arith, e)

-- no work of a pass is numbered below its datastore's call
pub none_below_call : (vs : List Vertex) → IsMade vs → AreNumbered vs → (roots : List ℕ) (pass : Pass) → IsPlannedPass vs roots pass → (x : Fault) (line : ℕ) → IsCall vs pass.store (record { number = x.number; line = line })
    → (i : ℕ) → IsAmong pass.work.items i → IsBelowAt vs (Some x) i → ⊥
none_below_call vs made numbered roots pass plan x line (j, w, ej, is, at) i m b =
    let u = work_is vs pass.store pass.level i (needed_of vs roots) (subst (λ xs. IsAmong xs i) plan.work m) in
    let v = needed_there vs made roots plan.there i u.0 in
    let r = work_reaches vs made i pass.store v.0 v.1 u.1 in
    let q = not_before_the_call vs made numbered pass.store i j v.0 w v.1 ej is ((reads_decided vs made pass.store i v.0 v.1).1 r) in
    let number : w.at.number ≡ x.number = ap (λ (y : Rattle.tall_semantics.specs.Faults.At). y.number) at in
    let here : number_at (slice_get vs i) ≡ v.0.at.number = ap number_at v.1 in
    omega (arith, q, number, here, b)

-- ---- openings

openings_both : (name : List ℕ) (xs ys : List (List ℕ)) → openings_of name (xs ++ ys) ≡ openings_of name xs + openings_of name ys
openings_both name xs ys = sum_by-append (λ opened. if bytes_eq opened name then 1 else 0) xs ys

openings_take : (name : List ℕ) (n : ℕ) (xs : List (List ℕ)) → openings_of name (take n xs) ≤ openings_of name xs
openings_take name zero xs = omega arith
openings_take name (suc n) [] = omega arith
openings_take name (suc n) (x ∷ xs) =
    let h = openings_take name n xs in
    let one : openings_of name (take (suc n) (x ∷ xs)) ≡ openings_of name (x ∷ []) + openings_of name (take n xs) = openings_both name (x ∷ []) (take n xs) in
    let all : openings_of name (x ∷ xs) ≡ openings_of name (x ∷ []) + openings_of name xs = openings_both name (x ∷ []) xs in
    omega (arith, h, one, all)

named_once : (files : List (List ℕ)) (n file : ℕ) → file < n → n ≤ length files → 0 < openings_of (get_or files file []) (take n files)
named_once [] n file l m = absurd (omega (arith, l, m))
named_once (x ∷ xs) zero file l m = absurd (omega (arith, l))
named_once (x ∷ xs) (suc n) zero l m =
    let e : openings_of x (x ∷ []) ≡ 1 = ap (λ b. 0 + (if b then 1 else 0)) ((bytes_eq-Decides x x).1 refl) in
    let one : openings_of x (take (suc n) (x ∷ xs)) ≡ openings_of x (x ∷ []) + openings_of x (take n xs) = openings_both x (x ∷ []) (take n xs) in
    let goes : 0 < openings_of x (take (suc n) (x ∷ xs)) = omega (arith, e, one) in
    goes
named_once (x ∷ xs) (suc n) (suc file) l m =
    let h = named_once xs n file (omega (arith, l)) (omega (arith, m)) in
    let one : openings_of (get_or xs file []) (take (suc n) (x ∷ xs)) ≡ openings_of (get_or xs file []) (x ∷ []) + openings_of (get_or xs file []) (take n xs) = openings_both (get_or xs file []) (x ∷ []) (take n xs) in
    let goes : 0 < openings_of (get_or xs file []) (take (suc n) (x ∷ xs)) = omega (arith, h, one) in
    goes

pub opens_most : (files : List (List ℕ)) (n : ℕ) (before now : Option (List (List ℕ))) → Adds (take n files) before now → OpensAtMost (λ name. openings_of name files) before now
opens_most files n before now adds names e = by now (subst (λ b. Adds (take n files) b now) e adds)
  where
    by : (now : Option (List (List ℕ))) → Adds (take n files) (Some names) now
        → (all : List (List ℕ)) × (now ≡ Some all) × ((name : List ℕ) → (openings_of name names ≤ openings_of name all) × (openings_of name all ≤ openings_of name names + openings_of name files))
    by None h = absurd h
    by (Some all) h = (
      all,
      refl,
      λ name.
          let s : openings_of name all ≡ openings_of name names + openings_of name (take n files) = ap (openings_of name) h ∙ openings_both name names (take n files) in
          let t = openings_take name n files in
          (omega (arith, s), omega (arith, s, t)),
    )

pub opened_here : (files : List (List ℕ)) (n file : ℕ) (before now : Option (List (List ℕ))) → Adds (take n files) before now → file < n → n ≤ length files
    → (names all : List (List ℕ)) → before ≡ Some names → now ≡ Some all → openings_of (get_or files file []) names < openings_of (get_or files file []) all
opened_here files n file before now adds l m names all eb en =
    let h : all ≡ names ++ take n files = subst (λ o. Adds (take n files) (Some names) o) en (subst (λ o. Adds (take n files) o now) eb adds) in
    let s : openings_of (get_or files file []) all ≡ openings_of (get_or files file []) names + openings_of (get_or files file []) (take n files) = ap (openings_of (get_or files file [])) h ∙ openings_both (get_or files file []) names (take n files) in
    let o = named_once files n file l m in
    omega (arith, s, o)

pub not_empty : (n : ℕ) (b : Bool) → b ≡ (n == 0) → b ≡ false → 0 < n
not_empty zero b e f = (let q : true ≡ false = sym e ∙ f in absurd (cc))
not_empty (suc n) b e f = omega arith
