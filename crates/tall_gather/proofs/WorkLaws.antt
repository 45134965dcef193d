-- The work of the passes of a plan: where it stands, which datastore it reads, and its ranks.
use Rattle.std.specs.Prelude.{◌≡◌, refl, ℕ, ◌<◌, ◌≤◌, ◌+◌, ◌*◌, ◌-◌, ◌⊎◌, ◌||◌, ◌==◌, Bool, true, false, Option, None, Some, List, [], ◌∷◌, length, slice_get}
use Rattle.std.proofs.Common.{ap, sym, subst, ◌∙◌, arith, inl, inr}
use Rattle.std.specs.List.{filter}
use Rattle.std.proofs.lemmas.Bool.Decides.{Decides-eqb}
use Rattle.std.proofs.lemmas.Option.{slice_get_within}
use Rattle.tall_semantics.specs.Faults.{Fault}
use Rattle.tall_semantics.specs.Least.{IsBelow}
use Rattle.tall_semantics.specs.Spaces.{store_of}
use Rattle.tall_semantics.specs.Shapes.{level}
use Rattle.tall_semantics.specs.ShapesInOrder.{IsMade, shape_at}
use Rattle.tall_semantics.specs.Deferred.{Vertex, AllBelow, AreThere, IsAmong, through}
use Rattle.tall_semantics.specs.Numbered.{number_at}
use Rattle.tall_semantics.specs.Plans.{collected, is_among, is_of_level, is_scan_at, is_store, is_work, needed_of, or_else, store_at, work_of}
use Rattle.tall_semantics.specs.Reach.{Reaches}
use Rattle.tall_semantics.proofs.Basics.{both, and_true}
use Rattle.tall_semantics.proofs.OriginLaws.{get_before, below_among}
use Rattle.tall_semantics.proofs.PlanLaws.{among_filter, needed_there, one_datastore}
use Rattle.tall_semantics.proofs.ReachLaws.{reads_decided, rows_read}
use Rattle.tall_blocks.specs.LevelWork.{is_no_store}
use Rattle.tall_blocks.specs.PassWork.{is_below}
use Rattle.tall_pass.specs.PassPlans.{IsBelowAt, is_below_at}
use Rattle.tall_gather.specs.Candidates.{HasVariable}
use Rattle.tall_gather.specs.Progress.{rank_of}

-- ---- tests

pub store_told : (s : ℕ) (o : Option ℕ) → is_store s o ≡ true → o ≡ Some s
store_told s None e = absurd (cc)
store_told s (Some t) e = ap Some ((Decides-eqb t s).0 e)

pub store_test : (s : ℕ) (o : Option ℕ) → o ≡ Some s → is_store s o ≡ true
store_test s o e = subst (λ p. is_store s p ≡ true) (sym e) ((Decides-eqb s s).1 refl)

pub number_told : (m n : ℕ) → (m == n) ≡ true → m ≡ n
number_told m n e = (Decides-eqb m n).0 e

pub or_left : (a b : Bool) → a ≡ true → (a || b) ≡ true
or_left true b e = refl
or_left false b e = absurd (cc)

pub or_right : (a b : Bool) → b ≡ true → (a || b) ≡ true
or_right true b e = refl
or_right false b e = e

pub below_told : (c : Option Fault) (n : ℕ) → is_below c n ≡ true → IsBelow c n
below_told None n e = tt
below_told (Some x) n e = search (arith, e)

pub below_test : (c : Option Fault) (n : ℕ) → IsBelow c n → is_below c n ≡ true
below_test None n h = refl
below_test (Some x) n h = search (arith, h)

-- ---- lists

pub all_below : (n : ℕ) (xs : List ℕ) → ((i : ℕ) → IsAmong xs i → i < n) → AllBelow n xs
all_below n [] h = tt
all_below n (x ∷ xs) h = (h x (inl refl), all_below n xs (λ i m. h i (inr m)))

pub first_of : (xs : List ℕ) → 0 < length xs → (i : ℕ) × IsAmong xs i
first_of [] l = absurd (omega (arith, l))
first_of (x ∷ xs) l = (x, inl refl)

pub among_below : (vs : List Vertex) (c : Option Fault) (xs : List ℕ) (i : ℕ) → IsAmong xs i → IsBelowAt vs c i → IsAmong (filter (is_below_at vs c) xs) i
among_below vs c xs i m b = (among_filter (is_below_at vs c) xs i).1 (m, below_test c (number_at (slice_get vs i)) b)

pub below_among_is : (vs : List Vertex) (c : Option Fault) (xs : List ℕ) (i : ℕ) → IsAmong (filter (is_below_at vs c) xs) i → IsAmong xs i × IsBelowAt vs c i
below_among_is vs c xs i m = let w = (among_filter (is_below_at vs c) xs i).0 m in (w.0, below_told c (number_at (slice_get vs i)) w.1)

-- ---- levels and ranks

pub work_is : (vs : List Vertex) (s k i : ℕ) (needed : List ℕ) → IsAmong (work_of vs needed s k) i → IsAmong needed i × (store_at vs i ≡ Some s) × (is_of_level vs k i ≡ true)
work_is vs s k i needed m =
    let w = (among_filter (is_work vs s k) needed i).0 m in
    let t = both (is_store s (store_at vs i)) (is_of_level vs k i) w.1 in
    (w.0, store_told s (store_at vs i) t.0, t.1)

pub in_work : (vs : List Vertex) (s i : ℕ) (needed : List ℕ) → IsAmong needed i → store_at vs i ≡ Some s → IsAmong (work_of vs needed s (level (shape_at vs i))) i
in_work vs s i needed m e =
    let l : is_of_level vs (level (shape_at vs i)) i ≡ true = or_left (level (shape_at vs i) == level (shape_at vs i)) _ ((Decides-eqb (level (shape_at vs i)) (level (shape_at vs i))).1 refl) in
    (among_filter (is_work vs s (level (shape_at vs i))) needed i).1 (m, and_true (is_store s (store_at vs i)) (is_of_level vs (level (shape_at vs i)) i) (store_test s (store_at vs i) e) l)

rank_told : (vs : List Vertex) (i n : ℕ) (o : Option ℕ) → store_at vs i ≡ o → is_no_store o ≡ true → rank_of vs i ≡ 2 * level (shape_at vs i) + 1
rank_told vs i n o e t = let u : is_no_store (store_at vs i) ≡ true = ap is_no_store e ∙ t in simp u refl

pub rank_some : (vs : List Vertex) (i s : ℕ) → store_at vs i ≡ Some s → rank_of vs i ≡ 2 * level (shape_at vs i)
rank_some vs i s e = let u : is_no_store (store_at vs i) ≡ false = ap is_no_store e in simp u refl

pub rank_none : (vs : List Vertex) (i : ℕ) → store_at vs i ≡ None → rank_of vs i ≡ 2 * level (shape_at vs i) + 1
rank_none vs i e = let u : is_no_store (store_at vs i) ≡ true = ap is_no_store e in simp u refl

pub some_or_none : (o : Option ℕ) → (o ≡ None) ⊎ ((s : ℕ) × (o ≡ Some s))
some_or_none None = inl refl
some_or_none (Some s) = inr (s, refl)

pub rank_lower : (vs : List Vertex) (i k : ℕ) → level (shape_at vs i) < k → rank_of vs i ≤ 2 * k - 1
rank_lower vs i k l = elim (some_or_none (store_at vs i)) [
  | inl e ↦ (let r = rank_none vs i e in omega (arith, l, r))
  | inr w ↦ (let r = rank_some vs i w.0 w.1 in omega (arith, l, r))
]

pub rank_level : (vs : List Vertex) (i s k : ℕ) → store_at vs i ≡ Some s → rank_of vs i ≡ 2 * k → level (shape_at vs i) ≡ k
rank_level vs i s k e r = let q = rank_some vs i s e in omega (arith, r, q)

-- ---- what is read

module _ (vs : List Vertex) (made : IsMade vs) where
  reaches : (s i : ℕ) (v : Vertex) → slice_get vs i ≡ Some v → store_of (shape_at vs i).space ≡ Some s → Reaches vs s i
  reaches s i v e h = (reads_decided vs made s i v e).0 (rows_read vs made s i v e h)

  -- the work of a pass over a datastore is made of one of its variables
  pub work_reaches : (i s : ℕ) (v : Vertex) → slice_get vs i ≡ Some v → store_at vs i ≡ Some s → Reaches vs s i
  work_reaches i s v e at = elim ((one_datastore vs made i s v e).0 at) [
    | inl own ↦ reaches s i v e own
    | inr arg ↦ by_operand arg.0 arg.1 arg.2
  ]
    where
      by_operand : (a : ℕ) → IsAmong (Rattle.tall_semantics.specs.Plans.args_of (slice_get vs i)) a → store_of (shape_at vs a).space ≡ Some s → Reaches vs s i
      by_operand a m h =
          let n : IsAmong v.args a = subst (λ (o : Option Vertex). IsAmong (Rattle.tall_semantics.specs.Plans.args_of o) a) e m in
          let b = get_before vs i a v e (below_among i v.args a (made i v e).0 n) in
          let r = reaches s a b.0 b.1 h in
          (r.0, r.1, through i a r.0 v e n r.2, r.3, r.4)

  module _ (roots : List ℕ) (there : AreThere vs roots) where
    pub needed_within : (i : ℕ) → IsAmong (needed_of vs roots) i → i < length vs
    needed_within i m = let w = needed_there vs made roots there i m in slice_get_within vs i w.0 w.1

    pub work_below : (s k : ℕ) (xs : List ℕ) → xs ≡ work_of vs (needed_of vs roots) s k → AllBelow (length vs) xs
    work_below s k xs e = subst (AllBelow (length vs)) (sym e) (all_below (length vs) _ (λ i m. needed_within i (work_is vs s k i (needed_of vs roots) m).0))

    pub collect_below : (s k : ℕ) (xs : List ℕ) → xs ≡ collected vs roots s k → AllBelow (length vs) xs
    collect_below s k xs e = subst (AllBelow (length vs)) (sym e) (all_below (length vs) _ (λ i m. needed_within i ((among_filter _ (needed_of vs roots) i).0 m).0))

    pub work_variable : (s k i : ℕ) → IsAmong (work_of vs (needed_of vs roots) s k) i → HasVariable vs s
    work_variable s k i m =
        let w = work_is vs s k i (needed_of vs roots) m in
        let v = needed_there vs made roots there i w.0 in
        let r = work_reaches i s v.0 v.1 w.1 in
        (r.0, r.1, r.3, r.4)
