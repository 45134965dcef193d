-- What a pass asks for and computes: places that its work depends on, ascending; and what the roots have to do with its work.
use Rattle.std.specs.Prelude.{◌≡◌, refl, ℕ, zero, suc, ◌<◌, ◌⊎◌, ◌↔◌, ◌==◌, if◌then◌else◌, Bool, true, false, Option, None, Some, List, [], ◌∷◌, ◌++◌, length, take, slice_get, IfSome}
use Rattle.std.specs.List.{filter, flat_map}
use Rattle.std.proofs.Common.{ap, sym, subst, ◌∙◌, arith, inl, inr}
use Rattle.std.proofs.lemmas.Bool.Decides.{nat_tests}
use Rattle.std.proofs.lemmas.Option.{slice_get_within}
use Rattle.tall_semantics.specs.Faults.{Fault}
use Rattle.tall_semantics.specs.Spaces.{store_of}
use Rattle.tall_semantics.specs.ShapesInOrder.{IsMade, shape_at}
use Rattle.tall_semantics.specs.Deferred.{AllBelow, AreThere, DependsOn, IsAmong, IsOrdered, Vertex, itself, through}
use Rattle.tall_semantics.specs.Least.{IsBelow}
use Rattle.tall_semantics.specs.Numbered.{number_at}
use Rattle.tall_semantics.specs.Plans.{args_of, collected, is_among, is_of_level, is_store, is_work, needed_below, needed_of, store_at, work_of}
use Rattle.tall_semantics.proofs.Basics.{both}
use Rattle.tall_semantics.proofs.LevelLaws.{among_both}
use Rattle.tall_semantics.proofs.OriginLaws.{below_among, get_before}
use Rattle.tall_semantics.proofs.PlanLaws.{among_filter, needed_there}
use Rattle.tall_semantics.proofs.ReachLaws.{any_of, of_any}
use Rattle.tall_semantics.proofs.VariantLaws.{number_is, same_number}
use Rattle.tall_blocks.specs.PassWork.{is_below}
use Rattle.tall_block.specs.BlockWork.{AreAbove, IsAscending}
use Rattle.tall_plan.specs.declared.passes.Pass.{Pass}
use Rattle.tall_plan.proofs.MarkLaws.{below_more, in_list}
use Rattle.tall_pass.specs.PassPlans.{IsBelowAt, IsPassBelow, is_below_at}
use Rattle.tall_pass.specs.Work.{asked_at, asked_of, computed_of, has_rows_of, is_own}

-- ---- tests

pub among_test : (i : ℕ) (xs : List ℕ) → (is_among i xs ≡ true) ↔ IsAmong xs i
among_test i xs = (
  λ h. (let w = any_of (λ j. j == i) xs h in subst (IsAmong xs) (number_is w.0 i w.2) w.1),
  λ h. of_any (λ j. j == i) xs i h (same_number i),
)

pub store_test : (s : ℕ) (o : Option ℕ) → (is_store s o ≡ true) ↔ (o ≡ Some s)
store_test s None = ((λ h. absurd (cc)), (λ h. absurd (cc)))
store_test s (Some t) = ((λ h. ap Some (number_is t s h)), (λ h. ap (is_store s) h ∙ same_number s))

pub level_test : (m k : ℕ) → ((m == k) ≡ true) ↔ (m ≡ k)
level_test m k = (number_is m k, λ e. ap (λ n. n == k) e ∙ same_number k)

pub below_test : (c : Option Fault) (n : ℕ) → (is_below c n ≡ true) ↔ IsBelow c n
below_test None n = ((λ h. tt), (λ h. refl))
below_test (Some x) n = ((λ h. grind (arith, nat_tests)), (λ h. grind (arith, nat_tests)))

pub true_or_false : (b : Bool) → (b ≡ true) ⊎ (b ≡ false)
true_or_false true = inl refl
true_or_false false = inr refl

-- ---- lists

pub among_flat : (g : ℕ → List ℕ) (xs : List ℕ) (i : ℕ) → IsAmong (flat_map g xs) i ↔ ((j : ℕ) × IsAmong xs j × IsAmong (g j) i)
among_flat g [] i = (λ h. absurd h, λ w. absurd w.1)
among_flat g (x ∷ xs) i = (
  λ h. elim ((among_both (g x) (flat_map g xs) i).0 h) [
    | inl a ↦ (x, inl refl, a)
    | inr b ↦ (let w = (among_flat g xs i).0 b in (w.0, inr w.1, w.2))
  ],
  λ w. elim w.1 [
    | inl e ↦ (among_both (g x) (flat_map g xs) i).1 (inl (subst (λ j. IsAmong (g j) i) (sym e) w.2))
    | inr m ↦ (among_both (g x) (flat_map g xs) i).1 (inr ((among_flat g xs i).1 (w.0, m, w.2)))
  ],
)

pub all_below : (n : ℕ) (xs : List ℕ) → ((i : ℕ) → IsAmong xs i → i < n) → AllBelow n xs
all_below n [] h = tt
all_below n (x ∷ xs) h = (h x (inl refl), all_below n xs (λ i m. h i (inr m)))

-- ---- ascending lists

above_push : (n i : ℕ) (xs : List ℕ) → AreAbove n xs → n < i → AreAbove n (xs ++ i ∷ [])
above_push n i [] h l = (l, tt)
above_push n i (x ∷ xs) h l = (h.0, above_push n i xs h.1 l)

ascending_push : (i : ℕ) (xs : List ℕ) → IsAscending xs → AllBelow i xs → IsAscending (xs ++ i ∷ [])
ascending_push i [] a b = (tt, tt)
ascending_push i (x ∷ xs) a b = (above_push x i xs a.0 b.0, ascending_push i xs a.1 b.1)

below_push : (i : ℕ) (xs : List ℕ) → AllBelow i xs → AllBelow (suc i) (xs ++ i ∷ [])
below_push i [] b = (omega (arith), tt)
below_push i (x ∷ xs) b = ((let l : x < i = b.0 in omega (arith, l)), below_push i xs b.1)

above_if : (n x : ℕ) (b : Bool) (ys : List ℕ) → n < x → AreAbove n ys → AreAbove n (if b then x ∷ ys else ys)
above_if n x true ys l h = (l, h)
above_if n x false ys l h = h

above_kept : (p : ℕ → Bool) (n : ℕ) (xs : List ℕ) → AreAbove n xs → AreAbove n (filter p xs)
above_kept p n [] h = tt
above_kept p n (x ∷ xs) h = above_if n x (p x) (filter p xs) h.0 (above_kept p n xs h.1)

ascending_if : (x : ℕ) (b : Bool) (ys : List ℕ) → AreAbove x ys → IsAscending ys → IsAscending (if b then x ∷ ys else ys)
ascending_if x true ys h a = (h, a)
ascending_if x false ys h a = a

ascending_kept : (p : ℕ → Bool) (xs : List ℕ) → IsAscending xs → IsAscending (filter p xs)
ascending_kept p [] a = tt
ascending_kept p (x ∷ xs) a = ascending_if x (p x) (filter p xs) (above_kept p x xs a.0) (ascending_kept p xs a.1)

needed_if : (n : ℕ) (b : Bool) (xs ys : List ℕ) → IsAscending xs × AllBelow n xs → IsAscending ys × AllBelow n ys → IsAscending (if b then xs ++ n ∷ [] else ys) × AllBelow (suc n) (if b then xs ++ n ∷ [] else ys)
needed_if n true xs ys p q = (ascending_push n xs p.0 p.1, below_push n xs p.1)
needed_if n false xs ys p q = (q.0, below_more n (suc n) ys (omega (arith)) q.1)

needed_in_order : (vs : List Vertex) (n : ℕ) (marked : List ℕ) → IsAscending (needed_below vs n marked) × AllBelow n (needed_below vs n marked)
unfolding needed_below
needed_in_order vs zero marked = (tt, tt)
needed_in_order vs (suc n) marked =
    needed_if n (is_among n marked) (needed_below vs n (args_of (slice_get vs n) ++ marked)) (needed_below vs n marked) (needed_in_order vs n (args_of (slice_get vs n) ++ marked)) (needed_in_order vs n marked)

pub computed_ascending : (vs : List Vertex) (pass : Pass) → IsAscending (computed_of vs pass)
computed_ascending vs pass =
    ascending_kept (has_rows_of vs pass.store) (needed_of vs (asked_of vs pass.store pass.level pass.work.items)) (needed_in_order vs (length vs) (asked_of vs pass.store pass.level pass.work.items)).0

-- ---- the work of the pass

module _ (vs : List Vertex) (roots : List ℕ) (c : Option Fault) (pass : Pass) (planned : IsPassBelow vs roots c pass) where
  pub work_is : (i : ℕ) → IsAmong pass.work.items i ↔ (IsAmong (work_of vs (needed_of vs roots) pass.store pass.level) i × IsBelowAt vs c i)
  work_is i = (
    λ h.
        let w = (among_filter (is_below_at vs c) (work_of vs (needed_of vs roots) pass.store pass.level) i).0 (subst (λ xs. IsAmong xs i) planned.work h) in
        (w.0, (below_test c (number_at (slice_get vs i))).0 w.1),
    λ w.
        subst (λ xs. IsAmong xs i) (sym planned.work)
        ((among_filter (is_below_at vs c) (work_of vs (needed_of vs roots) pass.store pass.level) i).1 (w.0, (below_test c (number_at (slice_get vs i))).1 w.1)),
  )

  pub collect_is : (i : ℕ) → IsAmong pass.collect.items i → IsAmong (collected vs roots pass.store pass.level) i × IsBelowAt vs c i
  collect_is i h =
      let w = (among_filter (is_below_at vs c) (collected vs roots pass.store pass.level) i).0 (subst (λ xs. IsAmong xs i) planned.collect h) in
      (w.0, (below_test c (number_at (slice_get vs i))).0 w.1)

  -- needed, of the datastore, and of the level
  pub work_needed : (i : ℕ) → IsAmong pass.work.items i → IsAmong (needed_of vs roots) i × (store_at vs i ≡ Some pass.store) × (is_of_level vs pass.level i ≡ true)
  work_needed i h =
      let w = (among_filter (is_work vs pass.store pass.level) (needed_of vs roots) i).0 ((work_is i).0 h).0 in
      let t = both (is_store pass.store (store_at vs i)) (is_of_level vs pass.level i) w.1 in
      (w.0, (store_test pass.store (store_at vs i)).0 t.0, t.1)

  module _ (made : IsMade vs) where
    pub work_there : (i : ℕ) → IsAmong pass.work.items i → (v : Vertex) × (slice_get vs i ≡ Some v)
    work_there i h = needed_there vs made roots planned.there i (work_needed i h).0

    pub work_within : AllBelow (length vs) pass.work.items
    work_within = all_below (length vs) pass.work.items (λ i h. (let w = work_there i h in slice_get_within vs i w.0 w.1))

    pub collect_within : (i : ℕ) → IsAmong pass.collect.items i → i < length vs
    collect_within i h =
        let n : IsAmong (needed_of vs roots) i = ((among_filter _ (needed_of vs roots) i).0 (collect_is i h).0).0 in
        let w = needed_there vs made roots planned.there i n in
        slice_get_within vs i w.0 w.1

-- ---- what it asks for

arg_of : (o : Option Vertex) (a : ℕ) → IsAmong (args_of o) a → (v : Vertex) × (o ≡ Some v) × IsAmong v.args a
arg_of None a h = absurd h
arg_of (Some v) a h = (v, refl, h)

-- j asks for i: it is i itself, or i is an operand of it
abbrev pub AsksFor : List Vertex → (store level : ℕ) → (j i : ℕ) → Type 0
AsksFor vs s k j i = ((is_own vs s k j ≡ true) × (j ≡ i)) ⊎ ((v : Vertex) × (slice_get vs j ≡ Some v) × IsAmong v.args i × (store_of (shape_at vs i).space ≡ Some s) × (is_own vs s k j ≡ false))

one_asked : (vs : List Vertex) (s k j i : ℕ) (b : Bool) → is_own vs s k j ≡ b → IsAmong (if b then j ∷ [] else filter (has_rows_of vs s) (args_of (slice_get vs j))) i → AsksFor vs s k j i
one_asked vs s k j i true e h = elim h [ inl q ↦ inl (e, q) | inr n ↦ absurd n ]
one_asked vs s k j i false e h =
    let w = (among_filter (has_rows_of vs s) (args_of (slice_get vs j)) i).0 h in
    let a = arg_of (slice_get vs j) i w.0 in
    inr (a.0, a.1, a.2, (store_test s (store_of (shape_at vs i).space)).0 w.1, e)

pub asked_from : (vs : List Vertex) (s k i : ℕ) (work : List ℕ) → IsAmong (asked_of vs s k work) i → (j : ℕ) × IsAmong work j × AsksFor vs s k j i
asked_from vs s k i work h =
    let w = (among_flat (asked_at vs s k) work i).0 h in
    (w.0, w.1, one_asked vs s k w.0 i (is_own vs s k w.0) refl w.2)

pub asks_itself : (vs : List Vertex) (s k i : ℕ) (work : List ℕ) → IsAmong work i → is_own vs s k i ≡ true → IsAmong (asked_of vs s k work) i
asks_itself vs s k i work h e =
    (among_flat (asked_at vs s k) work i).1 (i, h, subst (λ b. IsAmong (if b then i ∷ [] else filter (has_rows_of vs s) (args_of (slice_get vs i))) i) (sym e) (inl refl))

pub asks_operand : (vs : List Vertex) (s k i a : ℕ) (v : Vertex) (work : List ℕ) → IsAmong work i → is_own vs s k i ≡ false → slice_get vs i ≡ Some v → IsAmong v.args a → store_of (shape_at vs a).space ≡ Some s
    → IsAmong (asked_of vs s k work) a
asks_operand vs s k i a v work h e g m r =
    let arg : IsAmong (args_of (slice_get vs i)) a = subst (λ o. IsAmong (args_of o) a) (sym g) m in
    let kept : IsAmong (filter (has_rows_of vs s) (args_of (slice_get vs i))) a =
    (among_filter (has_rows_of vs s) (args_of (slice_get vs i)) a).1 (arg, (store_test s (store_of (shape_at vs a).space)).1 r) in
    (among_flat (asked_at vs s k) work a).1 (i, h, subst (λ b. IsAmong (if b then i ∷ [] else filter (has_rows_of vs s) (args_of (slice_get vs i))) a) (sym e) kept)

pub asks_there : (vs : List Vertex) → IsOrdered vs → (s k j i : ℕ) (v : Vertex) → slice_get vs j ≡ Some v → AsksFor vs s k j i → ((w : Vertex) × (slice_get vs i ≡ Some w)) × DependsOn vs j i
asks_there vs ordered s k j i v e h = elim h [
  | inl own ↦ ((v, subst (λ a. slice_get vs a ≡ Some v) own.1 e), subst (DependsOn vs j) own.1 (itself j))
  | inr arg ↦ (get_before vs j i arg.0 arg.1 (below_among j arg.0.args i (ordered j arg.0 arg.1) arg.2), through j i i arg.0 arg.1 arg.2 (itself i))
]

pub asked_within : (vs : List Vertex) → IsOrdered vs → (s k : ℕ) (work : List ℕ) → ((j : ℕ) → IsAmong work j → (v : Vertex) × (slice_get vs j ≡ Some v)) → AreThere vs (asked_of vs s k work)
asked_within vs ordered s k work there i h =
    let w = asked_from vs s k i work h in
    let v = there w.0 w.1 in
    (asks_there vs ordered s k w.0 i v.0 v.1 w.2).0

pub there_within : (vs : List Vertex) (xs : List ℕ) → AreThere vs xs → AllBelow (length vs) xs
there_within vs xs there = all_below (length vs) xs (λ i h. (let w = there i h in slice_get_within vs i w.0 w.1))

-- ---- the loops

operands_if : (vs : List Vertex) (s n : ℕ) (b : Bool) → b ≡ false → filter (has_rows_of vs s) (args_of (slice_get vs n)) ≡ (if b then n ∷ [] else filter (has_rows_of vs s) (args_of (slice_get vs n)))
operands_if vs s n true e = absurd (cc)
operands_if vs s n false e = refl

args_told : (o : Option Vertex) (v : Vertex) (args : List ℕ) → o ≡ Some v → IfSome o (λ w. args ≡ w.args) → args ≡ args_of o
args_told None v args e h = absurd (cc)
args_told (Some w) v args e h = h

pub operands_asked : (vs : List Vertex) (s k n : ℕ) (args old new : List ℕ) → n < length vs → is_own vs s k n ≡ false → IfSome (slice_get vs n) (λ w. args ≡ w.args) → new ≡ old ++ filter (has_rows_of vs s) args
    → new ≡ old ++ asked_at vs s k n
operands_asked vs s k n args old new l e told is =
    let v = in_list vs n l in
    is ∙ (ap (λ xs. old ++ filter (has_rows_of vs s) xs) (args_told (slice_get vs n) v.0 args v.1 told) ∙ ap (λ xs. old ++ xs) (operands_if vs s n (is_own vs s k n) e))

among_taken : (n : ℕ) (xs : List ℕ) (i : ℕ) → IsAmong (take n xs) i → IsAmong xs i
among_taken zero xs i h = absurd h
among_taken (suc n) [] i h = h
among_taken (suc n) (x ∷ xs) i h = elim h [ inl e ↦ inl e | inr r ↦ inr (among_taken n xs i r) ]

pub asked_below : (vs : List Vertex) (s k n : ℕ) (work items : List ℕ) → IsOrdered vs → AllBelow (length vs) work → items ≡ asked_of vs s k (take n work) → AllBelow (length vs) items
asked_below vs s k n work items ordered below e =
    subst (AllBelow (length vs)) (sym e)
    (there_within vs (asked_of vs s k (take n work)) (asked_within vs ordered s k (take n work) (λ j m. in_list vs j (below_among (length vs) work j below (among_taken n work j m)))))
