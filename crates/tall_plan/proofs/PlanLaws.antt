-- The passes of a level, and of all levels, as code makes them.
use Rattle.std.specs.Prelude.{◌≡◌, refl, ℕ, zero, suc, ◌<◌, ◌≤◌, ◌+◌, ◌⊎◌, Bool, true, false, ◌&&◌, ◌==◌, nat_lt, max, if◌then◌else◌, Option, None, Some, List, [], ◌∷◌, ◌++◌, length, map, take, get_or, slice_get}
use Rattle.std.proofs.Common.{ap, sym, subst, ◌∙◌, arith, inl, inr}
use Rattle.std.specs.List.{filter}
use Rattle.std.proofs.lemmas.List.{append_assoc, append-nil, map-append, take_all, take_more}
use Rattle.std.proofs.lemmas.Bool.Decides.{Decides-ltb}
use Rattle.tall_semantics.specs.Shapes.{Shape, level, greatest_level}
use Rattle.tall_semantics.specs.Deferred.{Vertex, IsAmong, AllBelow, AreThere}
use Rattle.tall_semantics.specs.Passes as semantics
use Rattle.tall_semantics.specs.Passes.{pass_of, passes_at, passes_up_to, of_store}
use Rattle.tall_semantics.specs.Openings.{share}
use Rattle.tall_semantics.specs.ShapesInOrder.{IsMade, shape_at}
use Rattle.tall_semantics.specs.Plans.{is_among, is_store, is_of_level, is_work, work_of, args_of, needed_below, needed_of, stores_in, plan_of, store_at, collected, IsPass, IsPlanned}
use Rattle.tall_semantics.proofs.Basics.{both}
use Rattle.tall_semantics.proofs.VariantLaws.{number_is, same_number}
use Rattle.tall_semantics.proofs.OriginLaws.{below_among}
use Rattle.tall_semantics.proofs.PlanLaws.{among_filter, planned, within_share}
use Rattle.tall_plan.specs.declared.passes.Pass.{Pass}
use Rattle.tall_plan.specs.Marks.{offer, earlier, IsNext}
use Rattle.tall_plan.proofs.MarkLaws.{in_list}
use Rattle.tall_plan.specs.Seen.{pass_seen, passes_seen, is_collected, AreCollected}

-- ---- the next datastore

among_last : (xs : List ℕ) (x i : ℕ) → IsAmong (xs ++ x ∷ []) i → IsAmong xs i ⊎ (x ≡ i)
among_last [] x i h = elim h [ inl e ↦ inr e | inr n ↦ absurd n ]
among_last (y ∷ xs) x i h = elim h [
  | inl e ↦ inl (inl e)
  | inr r ↦ elim (among_last xs x i r) [ inl a ↦ inl (inr a) | inr e ↦ inr e ]
]

among_left : (xs : List ℕ) (x i : ℕ) → IsAmong xs i → IsAmong (xs ++ x ∷ []) i
among_left [] x i h = absurd h
among_left (y ∷ xs) x i h = elim h [ inl e ↦ inl e | inr r ↦ inr (among_left xs x i r) ]

among_end : (xs : List ℕ) (x : ℕ) → IsAmong (xs ++ x ∷ []) x
among_end [] x = inl refl
among_end (y ∷ xs) x = inr (among_end xs x)

and_yes : (b : Bool) → (b && true) ≡ b
and_yes true = refl
and_yes false = refl

and_no : (b : Bool) → (b && false) ≡ false
and_no true = refl
and_no false = refl

with_test : (b : Bool) (o : Option ℕ) (s : ℕ) → (is_store s o && b) ≡ is_store s (if b then o else None)
with_test true o s = and_yes (is_store s o)
with_test false o s = and_no (is_store s o)

work_offered : (vs : List Vertex) (k i s : ℕ) → is_work vs s k i ≡ is_store s (offer vs k i)
work_offered vs k i s = with_test (is_of_level vs k i) (store_at vs i) s

lt_true : (a b : ℕ) → nat_lt a b ≡ true → a < b
lt_true a b h = (Decides-ltb a b).0 h

lt_false : (a b : ℕ) → nat_lt a b ≡ false → b ≤ a
lt_false a b h = not_below (λ l. (let t : nat_lt a b ≡ true = (Decides-ltb a b).1 l in let u : true ≡ false = sym t ∙ h in cc))
  where
    not_below : (a < b → ⊥) → b ≤ a
    not_below f = grind (arith, f)

differs : (u s : ℕ) → (u ≡ s → ⊥) → (u == s) ≡ false
differs u s f = of_test (u == s) refl
  where
    of_test : (b : Bool) → (u == s) ≡ b → (u == s) ≡ false
    of_test true e = absurd (f (number_is u s e))
    of_test false e = e

module _ (vs : List Vertex) (k m n : ℕ) (xs : List ℕ) where
  IsTold : Option ℕ → Type 0
  IsTold o = (s : ℕ) → is_work vs s k n ≡ is_store s o

  missed : (s i : ℕ) → (IsAmong xs i → is_work vs s k i ≡ false) → is_work vs s k n ≡ false → IsAmong (xs ++ n ∷ []) i → is_work vs s k i ≡ false
  missed s i old new a = elim (among_last xs n i a) [ inl h ↦ old h | inr e ↦ subst (λ j. is_work vs s k j ≡ false) e new ]

  -- a datastore below the number, none yet
  later_none : (u : ℕ) → IsTold (Some u) → IsNext vs k m xs None → (b : Bool) → nat_lt u m ≡ b → IsNext vs k m (xs ++ n ∷ []) (if b then None else Some u)
  unfolding IsTold
  later_none u w h true e = λ s i l a. missed s i (h s i l) (w s ∙ differs u s (λ q. omega (arith, q, l, lt_true u m e))) a
  later_none u w h false e =
      (lt_false u m e, λ s i l o a. missed s i (h s i l) (w s ∙ differs u s (λ q. omega (arith, q, o))) a, (n, among_end xs n, w u ∙ same_number u))

  later_some : (t u : ℕ) → IsTold (Some u) → IsNext vs k m xs (Some t) → m ≤ u → (b : Bool) → nat_lt u t ≡ b → IsNext vs k m (xs ++ n ∷ []) (if b then Some u else Some t)
  unfolding IsTold
  later_some t u w h low true e =
      let l = lt_true u t e in
      (low, λ s i g o a. missed s i (h.1 s i g (omega (arith, o, l))) (w s ∙ differs u s (λ q. omega (arith, q, o))) a, (n, among_end xs n, w u ∙ same_number u))
  later_some t u w h low false e =
      let l = lt_false u t e in
      (h.0, λ s i g o a. missed s i (h.1 s i g o) (w s ∙ differs u s (λ q. omega (arith, q, o, l))) a, (h.2.0, among_left xs n h.2.0 h.2.1, h.2.2))

  early_some : (t u : ℕ) → IsTold (Some u) → IsNext vs k m xs (Some t) → u < m → IsNext vs k m (xs ++ n ∷ []) (Some t)
  unfolding IsTold
  early_some t u w h l = (h.0, λ s i g o a. missed s i (h.1 s i g o) (w s ∙ differs u s (λ q. omega (arith, q, g, l))) a, (h.2.0, among_left xs n h.2.0 h.2.1, h.2.2))

  in_turn : (t u : ℕ) → IsTold (Some u) → IsNext vs k m xs (Some t) → (b : Bool) → nat_lt u m ≡ b → IsNext vs k m (xs ++ n ∷ []) (if b then Some t else if nat_lt u t then Some u else Some t)
  in_turn t u w h true e = early_some t u w h (lt_true u m e)
  in_turn t u w h false e = later_some t u w h (lt_false u m e) (nat_lt u t) refl

  next_with : (r o : Option ℕ) → IsTold o → IsNext vs k m xs r → IsNext vs k m (xs ++ n ∷ []) (earlier m r o)
  unfolding IsTold
  next_with None None w h = λ s i l a. missed s i (h s i l) (w s) a
  next_with (Some t) None w h = (h.0, λ s i l o a. missed s i (h.1 s i l o) (w s) a, (h.2.0, among_left xs n h.2.0 h.2.1, h.2.2))
  next_with None (Some u) w h = later_none u w h (nat_lt u m) refl
  next_with (Some t) (Some u) w h = in_turn t u w h (nat_lt u m) refl

pub next_none : (vs : List Vertex) (k m : ℕ) → IsNext vs k m [] None
next_none vs k m = λ s i l a. absurd a

pub next_more : (vs : List Vertex) (k m : ℕ) (xs : List ℕ) (j n : ℕ) (r o q : Option ℕ) → j < length xs → n ≡ get_or xs j n → o ≡ offer vs k n → q ≡ earlier m r o → IsNext vs k m (take j xs) r → IsNext vs k m (take (j + 1) xs) q
unfolding IsTold
next_more vs k m xs j n r o q l is told next h =
    let e : take (j + 1) xs ≡ take j xs ++ n ∷ [] = take_more xs j n l ∙ ap (λ y. take j xs ++ y ∷ []) (sym is) in
    subst (λ ys. IsNext vs k m ys q) (sym e)
    (subst (λ p. IsNext vs k m (take j xs ++ n ∷ []) p) (sym next) (next_with vs k m n (take j xs) r o (λ s. work_offered vs k n s ∙ ap (is_store s) (sym told)) h))

pub all_next : (vs : List Vertex) (k m : ℕ) (xs : List ℕ) (j : ℕ) (r : Option ℕ) → length xs ≤ j → IsNext vs k m (take j xs) r → IsNext vs k m xs r
all_next vs k m xs j r l h = subst (λ ys. IsNext vs k m ys r) (take_all j xs l) h

-- ---- a list without work

unmarked : (p : ℕ → Bool) (x : ℕ) (xs : List ℕ) (b : Bool) → b ≡ false → (if b then x ∷ filter p xs else filter p xs) ≡ filter p xs
unmarked p x xs true e = absurd (cc)
unmarked p x xs false e = refl

none_of : (p : ℕ → Bool) (xs : List ℕ) → ((i : ℕ) → IsAmong xs i → p i ≡ false) → filter p xs ≡ []
none_of p [] h = refl
none_of p (x ∷ xs) h = unmarked p x xs (p x) (h x (inl refl)) ∙ none_of p xs (λ i a. h i (inr a))

module _ (work : (store level : ℕ) → List ℕ) (k : ℕ) where
  up_to : (m n : ℕ) → m ≤ suc n → (m ≤ n) ⊎ (m ≡ suc n)
  up_to m n l = grind (arith, l)

  quiet_at : (m n : ℕ) → m ≤ n → ((s : ℕ) → m ≤ s → s < n → work s k ≡ []) → passes_at work k n ≡ passes_at work k m
  unfolding passes_at
  quiet_at m zero l quiet = (let e : 0 ≡ m = omega (arith, l) in ap (passes_at work k) e)
  quiet_at m (suc n) l quiet = elim (up_to m n l) [
    | inl h ↦
        ap (λ ws. passes_at work k n ++ pass_of n k ws) (quiet n h (omega (arith)))
        ∙ (append-nil (passes_at work k n) ∙ quiet_at m n h (λ s g o. quiet s g (omega (arith, o))))
    | inr e ↦ ap (passes_at work k) (sym e)
  ]

  pass_some : (t : ℕ) (ws : List ℕ) (i : ℕ) → IsAmong ws i → pass_of t k ws ≡ record { store = t; level = k; work = ws } ∷ []
  pass_some t [] i h = absurd h
  pass_some t (w ∷ ws) i h = refl

  one_at : (m t i : ℕ) → m ≤ t → ((s : ℕ) → m ≤ s → s < t → work s k ≡ []) → IsAmong (work t k) i → passes_at work k (suc t) ≡ passes_at work k m ++ record { store = t; level = k; work = work t k } ∷ []
  unfolding passes_at
  one_at m t i l quiet a = ap (λ ps. ps ++ pass_of t k (work t k)) (quiet_at m t l quiet) ∙ ap (λ ps. passes_at work k m ++ ps) (pass_some t (work t k) i a)

-- ---- datastores of a plan are below the number of all

pass_in : (ps qs : List semantics.Pass) (p : semantics.Pass) → IsPass (ps ++ qs) p → IsPass ps p ⊎ IsPass qs p
pass_in [] qs p h = inr h
pass_in (q ∷ ps) qs p h = elim h [
  | inl e ↦ inl (inl e)
  | inr r ↦ elim (pass_in ps qs p r) [ inl a ↦ inl (inr a) | inr b ↦ inr b ]
]

pass_is : (t k : ℕ) (ws : List ℕ) (p : semantics.Pass) → IsPass (pass_of t k ws) p → t ≡ p.store
pass_is t k [] p h = absurd h
pass_is t k (w ∷ ws) p h = elim h [ inl e ↦ ap (λ (q : semantics.Pass). q.store) e | inr n ↦ absurd n ]

below_at : (work : (store level : ℕ) → List ℕ) (k n : ℕ) (p : semantics.Pass) → IsPass (passes_at work k n) p → p.store < n
unfolding passes_at
below_at work k zero p h = absurd h
below_at work k (suc n) p h = elim (pass_in (passes_at work k n) (pass_of n k (work n k)) p h) [
  | inl a ↦ (let l : p.store < n = below_at work k n p a in omega (arith, l))
  | inr b ↦ (let e : n ≡ p.store = pass_is n k (work n k) p b in omega (arith, e))
]

below_plan : (work : (store level : ℕ) → List ℕ) (n k : ℕ) (p : semantics.Pass) → IsPass (passes_up_to work n k) p → p.store < n
unfolding passes_up_to
below_plan work n zero p h = absurd h
below_plan work n (suc k) p h = elim (pass_in (passes_up_to work n k) (passes_at work (suc k) n) p h) [
  | inl a ↦ below_plan work n k p a
  | inr b ↦ below_at work (suc k) n p b
]

store_told : (s : ℕ) (o : Option ℕ) → is_store s o ≡ true → o ≡ Some s
store_told s None h = absurd (cc)
store_told s (Some t) h = ap Some (number_is t s h)

-- ---- the passes of a level so far

pub record AreAdded (vs : List Vertex) (roots needed : List ℕ) (k : ℕ) (old passes : List Pass) (from : ℕ) : Type 0 where
  pub within : from ≤ stores_in vs
  pub seen : passes_seen passes ≡ passes_seen old ++ passes_at (work_of vs needed) k from
  pub kept : AreCollected vs roots passes

pub added_none : (vs : List Vertex) (roots needed : List ℕ) (k : ℕ) (old : List Pass) → AreCollected vs roots old → AreAdded vs roots needed k old old 0
unfolding passes_at
added_none vs roots needed k old kept = record { within = omega (arith); seen = sym (append-nil (passes_seen old)); kept = kept }

collected_more : (vs : List Vertex) (roots : List ℕ) (ps : List Pass) (p : Pass) → AreCollected vs roots ps → p.collect.items ≡ collected vs roots p.store p.level → AreCollected vs roots (ps ++ p ∷ [])
collected_more vs roots [] p kept e = (e, tt)
collected_more vs roots (q ∷ ps) p kept e = (kept.0, collected_more vs roots ps p kept.1 e)

pub roots_there : (vs : List Vertex) (roots : List ℕ) → AllBelow (length vs) roots → AreThere vs roots
roots_there vs roots below r h = in_list vs r (below_among (length vs) roots r below h)

pub record IsPassFor (vs : List Vertex) (roots needed : List ℕ) (t k : ℕ) (p : Pass) : Type 0 where
  pub store : p.store ≡ t
  pub level : p.level ≡ k
  pub work : p.work.items ≡ work_of vs needed t k
  pub collect : p.collect.items ≡ filter (is_collected vs roots t k) needed

abbrev made_pass : (store level : ℕ) → List ℕ → semantics.Pass
made_pass s k ws = record { store = s; level = k; work = ws }

same_pass : (s t k l : ℕ) (ws us : List ℕ) → s ≡ t → k ≡ l → ws ≡ us → made_pass s k ws ≡ made_pass t l us
same_pass s t k l ws us e f g = ap (λ i. made_pass i k ws) e ∙ (ap (λ i. made_pass t i ws) f ∙ ap (λ xs. made_pass t l xs) g)

module _ (vs : List Vertex) (made : IsMade vs) (roots needed : List ℕ) (below : AllBelow (length vs) roots) (needed_is : needed ≡ needed_of vs roots) (k : ℕ) where
  store_within : (t i : ℕ) → IsAmong needed i → is_work vs t k i ≡ true → t < stores_in vs
  store_within t i a w =
      let o : store_at vs i ≡ Some t = store_told t (store_at vs i) (both (is_store t (store_at vs i)) (is_of_level vs k i) w).0 in
      let p = planned vs made roots (roots_there vs roots below) i t (subst (λ ns. IsAmong ns i) needed_is a) o in
      let l : p.0.store < stores_in vs = below_plan (work_of vs (needed_of vs roots)) (stores_in vs) (greatest_level (map (shape_at vs) roots)) p.0 p.1 in
      omega (arith, l, p.2)

  pub added_more : (old passes others : List Pass) (from t next : ℕ) (p : Pass) → AreAdded vs roots needed k old passes from → IsNext vs k from needed (Some t) → IsPassFor vs roots needed t k p → others ≡ passes ++ p ∷ [] → next ≡ t + 1
      → AreAdded vs roots needed k old others next
  added_more old passes others from t next p so_far h is pushed e =
      let work = work_of vs needed in
      let quiet : (s : ℕ) → from ≤ s → s < t → work s k ≡ [] = λ s g o. none_of (is_work vs s k) needed (λ i a. h.1 s i g o a) in
      let member : IsAmong (work t k) h.2.0 = (among_filter (is_work vs t k) needed h.2.0).1 (h.2.1, h.2.2) in
      let one : semantics.Pass = record { store = t; level = k; work = work t k } in
      let at : passes_at work k (suc t) ≡ passes_at work k from ++ one ∷ [] = one_at work k from t h.2.0 h.0 quiet member in
      let seen_one : pass_seen p ≡ one = same_pass p.store t p.level k p.work.items (work t k) is.store is.level is.work in
      let next_is : suc t ≡ next = omega (arith, e) in
      record {
        within = (let l = store_within t h.2.0 h.2.1 h.2.2 in omega (arith, l, e));
        seen =
            ap passes_seen pushed
            ∙ (map-append pass_seen passes (p ∷ [])
            ∙ (ap (λ x. passes_seen passes ++ x ∷ []) seen_one
            ∙ (ap (λ xs. xs ++ one ∷ []) so_far.seen
            ∙ (append_assoc (passes_seen old) (passes_at work k from) (one ∷ [])
            ∙ (ap (λ xs. passes_seen old ++ xs) (sym at) ∙ ap (λ n. passes_seen old ++ passes_at work k n) next_is)))));
        kept =
            let c : p.collect.items ≡ collected vs roots p.store p.level =
            is.collect ∙ (ap (filter (is_collected vs roots t k)) needed_is ∙ (ap (λ s. collected vs roots s k) (sym is.store) ∙ ap (λ l. collected vs roots p.store l) (sym is.level))) in
            subst (AreCollected vs roots) (sym pushed) (collected_more vs roots passes p so_far.kept c);
      }

  pub added_all : (old passes : List Pass) (from : ℕ) → AreAdded vs roots needed k old passes from → IsNext vs k from needed None → passes_seen passes ≡ passes_seen old ++ passes_at (work_of vs needed) k (stores_in vs)
  added_all old passes from so_far h =
      so_far.seen ∙ ap (λ ps. passes_seen old ++ ps) (sym (quiet_at (work_of vs needed) k from (stores_in vs) so_far.within (λ s g o. none_of (is_work vs s k) needed (λ i a. h s i g a))))

-- ---- all levels

pub record AreUpTo (vs : List Vertex) (roots needed : List ℕ) (passes : List Pass) (k : ℕ) : Type 0 where
  pub seen : passes_seen passes ≡ passes_up_to (work_of vs needed) (stores_in vs) k
  pub kept : AreCollected vs roots passes

pub level_none : (vs : List Vertex) (roots needed : List ℕ) (passes : List Pass) → passes ≡ [] → AreUpTo vs roots needed passes 0
unfolding passes_up_to
level_none vs roots needed passes e = subst (λ ps. AreUpTo vs roots needed ps 0) (sym e) (record { seen = refl; kept = tt })

pub level_more : (vs : List Vertex) (roots needed : List ℕ) (passes others : List Pass) (k l : ℕ) → l ≡ k + 1 → AreUpTo vs roots needed passes k → passes_seen others ≡ passes_seen passes ++ passes_at (work_of vs needed) l (stores_in vs)
    → AreCollected vs roots others → AreUpTo vs roots needed others l
unfolding passes_up_to
level_more vs roots needed passes others k l e so_far seen kept =
    let f : l ≡ suc k = omega (arith, e) in
    let work = work_of vs needed in
    record {
      seen =
          seen ∙ (ap (λ ps. ps ++ passes_at work l (stores_in vs)) so_far.seen
          ∙ (ap (λ n. passes_up_to work (stores_in vs) k ++ passes_at work n (stores_in vs)) f ∙ ap (passes_up_to work (stores_in vs)) (sym f)));
      kept = kept;
    }

pub planned_all : (vs : List Vertex) (roots needed : List ℕ) (passes : List Pass) (k : ℕ) → needed ≡ needed_of vs roots → k ≡ greatest_level (map (shape_at vs) roots) → AreUpTo vs roots needed passes k → passes_seen passes ≡ plan_of vs roots
planned_all vs roots needed passes k e f so_far =
    so_far.seen ∙ (ap (λ ns. passes_up_to (work_of vs ns) (stores_in vs) k) e ∙ ap (passes_up_to (work_of vs (needed_of vs roots)) (stores_in vs)) f)

pub bounded : (vs : List Vertex) → IsMade vs → (roots : List ℕ) → AllBelow (length vs) roots → (ps : List semantics.Pass) → ps ≡ plan_of vs roots → (s : ℕ) → of_store s ps ≤ share s (map (shape_at vs) roots)
bounded vs made roots below ps e s = subst (λ qs. of_store s qs ≤ share s (map (shape_at vs) roots)) (sym e) (within_share vs made roots (roots_there vs roots below) s)

-- ---- the greatest level

greatest_end : (xs : List Shape) (y : Shape) → greatest_level (xs ++ y ∷ []) ≡ max (level y) (greatest_level xs)
greatest_end [] y = refl
greatest_end (x ∷ xs) y = (let r : greatest_level (xs ++ y ∷ []) ≡ max (level y) (greatest_level xs) = greatest_end xs y in exchange (level x) (level y) (greatest_level xs) (greatest_level (xs ++ y ∷ [])) r)
  where
    exchange : (a b c d : ℕ) → d ≡ max b c → max a d ≡ max b (max a c)
    exchange a b c d e = grind (arith, e)

pub greatest_next : (vs : List Vertex) (roots : List ℕ) (j n g h : ℕ) → j < length roots → n ≡ get_or roots j n → h ≡ level (shape_at vs n) → g ≡ greatest_level (map (shape_at vs) (take j roots)) → max h g ≡ greatest_level (map (shape_at vs) (take (j + 1) roots))
greatest_next vs roots j n g h l is e f =
    let t : take (j + 1) roots ≡ take j roots ++ n ∷ [] = take_more roots j n l ∙ ap (λ y. take j roots ++ y ∷ []) (sym is) in
    ap (λ a. max a g) e ∙ (ap (max (level (shape_at vs n))) f
    ∙ (sym (greatest_end (map (shape_at vs) (take j roots)) (shape_at vs n))
    ∙ (ap greatest_level (sym (map-append (shape_at vs) (take j roots) (n ∷ []))) ∙ ap (λ ns. greatest_level (map (shape_at vs) ns)) (sym t))))

-- ---- needed places are there

all_below_push : (m : ℕ) (xs : List ℕ) (x : ℕ) → AllBelow m xs → x < m → AllBelow m (xs ++ x ∷ [])
all_below_push m [] x below l = (l, tt)
all_below_push m (y ∷ xs) x below l = (below.0, all_below_push m xs x below.1 l)

below_if : (m n : ℕ) (xs ys : List ℕ) (b : Bool) → n < m → AllBelow m xs → AllBelow m ys → AllBelow m (if b then xs ++ n ∷ [] else ys)
below_if m n xs ys true l p q = all_below_push m xs n p l
below_if m n xs ys false l p q = q

needed_within : (vs : List Vertex) (m n : ℕ) (marked : List ℕ) → n ≤ m → AllBelow m (needed_below vs n marked)
unfolding needed_below
needed_within vs m zero marked l = tt
needed_within vs m (suc n) marked l =
    below_if m n (needed_below vs n (args_of (slice_get vs n) ++ marked)) (needed_below vs n marked) (is_among n marked) (omega (arith, l))
    (needed_within vs m n (args_of (slice_get vs n) ++ marked) (omega (arith, l))) (needed_within vs m n marked (omega (arith, l)))

pub needed_there : (vs : List Vertex) (roots needed : List ℕ) → needed ≡ needed_of vs roots → AllBelow (length vs) needed
needed_there vs roots needed e = subst (AllBelow (length vs)) (sym e) (needed_within vs (length vs) (length vs) roots (omega (arith)))
