-- The passes of a plan go level by level and datastore by datastore; their work is that of a level; and no scan is due before
-- the first level.
use Rattle.std.specs.Prelude.{◌≡◌, refl, ℕ, zero, suc, ◌<◌, ◌≤◌, ◌+◌, ◌*◌, ◌⊎◌, ◌↔◌, ◌==◌, ◌&&◌, ◌||◌, max, if◌then◌else◌, Bool, true, false, Option, None, Some, List, [], ◌∷◌, ◌++◌, map, slice_get}
use Rattle.std.proofs.Common.{ap, sym, subst, ◌∙◌, arith, inl, inr}
use Rattle.tall_value.specs.declared.class.Class.{Class}
use Rattle.tall_value.specs.declared.functions.Scan.{Scan}
use Rattle.tall_semantics.specs.Operations.{scan, Made, stored, operation}
use Rattle.tall_semantics.specs.Spaces.{Space, single, rows_of, filtered, first, last, groups, has_rows, store_of}
use Rattle.tall_semantics.specs.Spaces as spaces
use Rattle.tall_semantics.specs.Faults.{Fault}
use Rattle.tall_semantics.specs.Shapes.{Shape, level, greatest_level, place_of}
use Rattle.tall_semantics.specs.Talls.{Tall, Columns, shapes}
use Rattle.tall_semantics.specs.Deferred.{Vertex, IsMeaning, IsOrdered, IsAmong, AreThere, itself, own_in}
use Rattle.tall_semantics.specs.ShapesInOrder.{IsMade, shape_at}
use Rattle.tall_semantics.specs.Least.{IsLeast, IsBelow}
use Rattle.tall_semantics.specs.Levels.{IsWork}
use Rattle.tall_semantics.specs.Numbered.{levels_in, nodes_by, number_at}
use Rattle.tall_semantics.specs.Passes.{Pass, pass_of, passes_at, passes_up_to}
use Rattle.tall_semantics.specs.Plans.{above_store, args_of, collected, is_among, is_of_level, is_scan, is_scan_at, is_store, is_work, needed_of, or_else, plan_of, store_at, stores_in, work_of}
use Rattle.tall_semantics.specs.Ranks.{any_rows, is_in_pass, rank, rank_at, ranks_in}
use Rattle.tall_semantics.specs.Reach.{IsOfStore}
use Rattle.tall_semantics.specs.ScanLevels.{AfterScans, scans_by, chains_in, chain_ranks_in}
use Rattle.tall_semantics.proofs.Basics.{inside, both, either, and_true}
use Rattle.tall_semantics.proofs.LevelLaws.{compare, joined}
use Rattle.tall_semantics.proofs.MeaningLaws.{made_value, tall_shape}
use Rattle.tall_semantics.proofs.OriginLaws.{get_before, below_among}
use Rattle.tall_semantics.proofs.PlanLaws.{among_filter, needed_under, one_datastore}
use Rattle.tall_semantics.proofs.ReachLaws.{of_any, any_of, reads_decided, rows_read}
use Rattle.tall_semantics.proofs.ShapeLaws.{place_ok, space_ok, shaped_is, placed_is, column_is, refused}
use Rattle.tall_semantics.proofs.ShapeLaws as placing
use Rattle.tall_semantics.proofs.ShapesInOrderLaws.{value_shape}
use Rattle.tall_semantics.proofs.VariantLaws.{number_is, same_number}
use Rattle.tall_blocks.specs.LevelWork.{IsBeforePass, AllPasses, AreInOrder, is_no_store, is_rest, rest_of, earliest}
use Rattle.tall_blocks.specs.PassWork.{IsWorkOf, IsEndOf, IsDueOf}

-- ---- the order of passes

all_both : (P : Pass → Type 0) (ps qs : List Pass) → AllPasses P ps → AllPasses P qs → AllPasses P (ps ++ qs)
all_both P [] qs h g = g
all_both P (p ∷ ps) qs h g = (h.0, all_both P ps qs h.1 g)

all_weaker : (P Q : Pass → Type 0) → ((p : Pass) → P p → Q p) → (ps : List Pass) → AllPasses P ps → AllPasses Q ps
all_weaker P Q w [] h = tt
all_weaker P Q w (p ∷ ps) h = (w p h.0, all_weaker P Q w ps h.1)

order_both : (P Q : Pass → Type 0) → ((p q : Pass) → P p → Q q → IsBeforePass p q) → (ps qs : List Pass) → AreInOrder ps → AreInOrder qs → AllPasses P ps → AllPasses Q qs → AreInOrder (ps ++ qs)
order_both P Q w [] qs h g p q = g
order_both P Q w (r ∷ ps) qs h g p q = (all_both (IsBeforePass r) ps qs h.0 (all_weaker Q (IsBeforePass r) (λ s b. w r s p.0 b) qs q), order_both P Q w ps qs h.1 g p.1 q)

one_pass : (P : Pass → Type 0) (s k : ℕ) (ws : List ℕ) → ((vs : List ℕ) → P (record { store = s; level = k; work = vs })) → AllPasses P (pass_of s k ws)
one_pass P s k [] h = tt
one_pass P s k (w ∷ ws) h = (h (w ∷ ws), tt)

one_in_order : (s k : ℕ) (ws : List ℕ) → AreInOrder (pass_of s k ws)
one_in_order s k [] = tt
one_in_order s k (w ∷ ws) = (tt, tt)

module _ (work : (store level : ℕ) → List ℕ) where
  abbrev IsOfLevel : ℕ → ℕ → Pass → Type 0
  IsOfLevel k n p = (p.level ≡ k) × (p.store < n)

  of_level : (k n : ℕ) → AllPasses (IsOfLevel k n) (passes_at work k n)
  unfolding passes_at
  of_level k zero = tt
  of_level k (suc n) =
      all_both (IsOfLevel k (suc n)) (passes_at work k n) (pass_of n k (work n k))
      (all_weaker (IsOfLevel k n) (IsOfLevel k (suc n)) (λ p h. (h.0, (let l = h.1 in omega (arith, l)))) (passes_at work k n) (of_level k n)) (one_pass (IsOfLevel k (suc n)) n k (work n k) (λ vs. (refl, omega (arith))))

  level_in_order : (k n : ℕ) → AreInOrder (passes_at work k n)
  unfolding passes_at
  level_in_order k zero = tt
  level_in_order k (suc n) =
      order_both (IsOfLevel k n) (λ p. (p.level ≡ k) × (p.store ≡ n)) (λ p q h g. inr (h.0 ∙ sym g.0, subst (λ m. p.store < m) (sym g.1) h.1)) (passes_at work k n) (pass_of n k (work n k))
      (level_in_order k n) (one_in_order n k (work n k)) (of_level k n) (one_pass (λ p. (p.level ≡ k) × (p.store ≡ n)) n k (work n k) (λ vs. (refl, refl)))

  up_to : (n k : ℕ) → AllPasses (λ p. p.level ≤ k) (passes_up_to work n k)
  unfolding passes_up_to
  up_to n zero = tt
  up_to n (suc k) =
      all_both (λ p. p.level ≤ suc k) (passes_up_to work n k) (passes_at work (suc k) n)
      (all_weaker (λ p. p.level ≤ k) (λ p. p.level ≤ suc k) (λ p h. omega (arith, h)) (passes_up_to work n k) (up_to n k))
      (all_weaker (IsOfLevel (suc k) n) (λ p. p.level ≤ suc k) (λ p h. (let e = h.0 in omega (arith, e))) (passes_at work (suc k) n) (of_level (suc k) n))

  all_in_order : (n k : ℕ) → AreInOrder (passes_up_to work n k)
  unfolding passes_up_to
  all_in_order n zero = tt
  all_in_order n (suc k) =
      order_both (λ p. p.level ≤ k) (IsOfLevel (suc k) n) (λ p q h g. inl (let e = g.0 in omega (arith, h, e))) (passes_up_to work n k) (passes_at work (suc k) n)
      (all_in_order n k) (level_in_order (suc k) n) (up_to n k) (of_level (suc k) n)

pub plan_in_order : (vs : List Vertex) (roots : List ℕ) → AreInOrder (plan_of vs roots)
plan_in_order vs roots = all_in_order (work_of vs (needed_of vs roots)) (stores_in vs) (greatest_level (map (shape_at vs) roots))

-- ---- tests

among_test : (i : ℕ) (xs : List ℕ) → (is_among i xs ≡ true) ↔ IsAmong xs i
among_test i xs = (
  λ h. (let w = any_of (λ j. j == i) xs h in subst (IsAmong xs) (number_is w.0 i w.2) w.1),
  λ h. of_any (λ j. j == i) xs i h (same_number i),
)

store_test : (s : ℕ) (o : Option ℕ) → (is_store s o ≡ true) ↔ (o ≡ Some s)
store_test s None = ((λ h. absurd (cc)), (λ h. absurd (cc)))
store_test s (Some t) = ((λ h. ap Some (number_is t s h)), (λ h. ap (is_store s) h ∙ same_number s))

level_test : (m k : ℕ) → ((m == k) ≡ true) ↔ (m ≡ k)
level_test m k = ((λ h. number_is m k h), (λ h. ap (λ n. n == k) h ∙ same_number k))

or_left : (a b : Bool) → a ≡ true → (a || b) ≡ true
or_left true b h = refl
or_left false b h = absurd (cc)

or_right : (a b : Bool) → b ≡ true → (a || b) ≡ true
or_right true b h = refl
or_right false b h = h

-- ---- what is collected

module _ (vs : List Vertex) (ordered : IsOrdered vs) (roots : List ℕ) (there : AreThere vs roots) where
  root_needed : (r : ℕ) → IsAmong roots r → IsAmong (needed_of vs roots) r
  root_needed r h = (needed_under vs roots ordered there r).1 (r, h, itself r)

  abbrev is_kept : (store level : ℕ) → ℕ → Bool
  is_kept s k r = is_among r roots && (is_store s (store_of (shape_at vs r).space) && level (shape_at vs r) == k)

  pub collected_is : (s k i : ℕ) → IsAmong (collected vs roots s k) i ↔ (IsAmong roots i × (store_of (shape_at vs i).space ≡ Some s) × (level (shape_at vs i) ≡ k))
  collected_is s k i = (
    λ h.
        let w = (among_filter (is_kept s k) (needed_of vs roots) i).0 h in
        let a = both (is_among i roots) (is_store s (store_of (shape_at vs i).space) && level (shape_at vs i) == k) w.1 in
        let b = both (is_store s (store_of (shape_at vs i).space)) (level (shape_at vs i) == k) a.1 in
        ((among_test i roots).0 a.0, (store_test s (store_of (shape_at vs i).space)).0 b.0, (level_test (level (shape_at vs i)) k).0 b.1),
    λ h. (among_filter (is_kept s k) (needed_of vs roots) i).1 (
      root_needed i h.0,
      and_true (is_among i roots) (is_store s (store_of (shape_at vs i).space) && level (shape_at vs i) == k) ((among_test i roots).1 h.0)
          (and_true (is_store s (store_of (shape_at vs i).space)) (level (shape_at vs i) == k) ((store_test s (store_of (shape_at vs i).space)).1 h.1) ((level_test (level (shape_at vs i)) k).1 h.2)),
    ),
  )

  first_of : (o p : Option ℕ) (s : ℕ) → o ≡ Some s → or_else o p ≡ Some s
  first_of None p s h = absurd (cc)
  first_of (Some t) p s h = h

  pub collected_work : (s k i : ℕ) → IsAmong (collected vs roots s k) i → IsAmong (work_of vs (needed_of vs roots) s k) i
  collected_work s k i h =
      let w = (collected_is s k i).0 h in
      (among_filter (is_work vs s k) (needed_of vs roots) i).1 (
        root_needed i w.0,
        and_true (is_store s (store_at vs i)) (is_of_level vs k i) ((store_test s (store_at vs i)).1 (first_of (store_of (shape_at vs i).space) _ s w.1))
            (or_left (level (shape_at vs i) == k) _ ((level_test (level (shape_at vs i)) k).1 w.2)),
      )

-- ---- rows and datastores

some_store : (u : Space) → has_rows u ≡ true → (s : ℕ) × (store_of u ≡ Some s)
some_store single h = absurd (cc)
some_store (rows_of s) h = (s, refl)
some_store (filtered u m) h = some_store u h
some_store (first k u) h = absurd (cc)
some_store (last k u) h = absurd (cc)
some_store (spaces.distinct t) h = absurd (cc)
some_store (groups m k d) h = absurd (cc)

no_store : (u : Space) → has_rows u ≡ false → store_of u ≡ None
no_store single h = refl
no_store (rows_of s) h = absurd (cc)
no_store (filtered u m) h = no_store u h
no_store (first k u) h = refl
no_store (last k u) h = refl
no_store (spaces.distinct t) h = refl
no_store (groups m k d) h = refl

with_store : (u : Space) (s : ℕ) → store_of u ≡ Some s → has_rows u ≡ true
with_store single s h = absurd (cc)
with_store (rows_of t) s h = refl
with_store (filtered u m) s h = with_store u s h
with_store (first k u) s h = absurd (cc)
with_store (last k u) s h = absurd (cc)
with_store (spaces.distinct t) s h = absurd (cc)
with_store (groups m k d) s h = absurd (cc)

any_operand : (f : ℕ → Tall) (args : List ℕ) → any_rows f args ≡ true → (a : ℕ) × IsAmong args a × (has_rows (f a).shape.space ≡ true)
any_operand f [] h = absurd (cc)
any_operand f (a ∷ args) h = elim (either (has_rows (f a).shape.space) (any_rows f args) h) [
  | inl here ↦ (a, inl refl, here)
  | inr rest ↦ (let w = any_operand f args rest in (w.0, inr w.1, w.2))
]

operand_any : (f : ℕ → Tall) (args : List ℕ) (a : ℕ) → IsAmong args a → has_rows (f a).shape.space ≡ true → any_rows f args ≡ true
operand_any f [] a h r = absurd h
operand_any f (b ∷ args) a h r = elim h [
  | inl e ↦ or_left (has_rows (f b).shape.space) (any_rows f args) (ap (λ d. has_rows (f d).shape.space) e ∙ r)
  | inr m ↦ or_right (has_rows (f b).shape.space) (any_rows f args) (operand_any f args a m r)
]

stores_above : (vs : List Vertex) (j : ℕ) (w : Vertex) (s : ℕ) → slice_get vs j ≡ Some w → IsOfStore s w.made → s < stores_in vs
stores_above [] zero w s e h = absurd (cc)
stores_above [] (suc j) w s e h = absurd (cc)
stores_above (v ∷ vs) zero w s e h = less_max (of_made v.made (subst (λ (x : Vertex). IsOfStore s x.made) (sym (inside v w e)) h))
  where
    of_made : (m : Made) → IsOfStore s m → s < above_store m
    of_made (stored t b c) g = omega (arith, g)
    of_made (operation op) g = absurd g

    less_max : s < above_store v.made → s < max (above_store v.made) (stores_in vs)
    less_max l = grind (arith, l)
stores_above (v ∷ vs) (suc j) w s e h = less_max (stores_above vs j w s e h)
  where
    less_max : s < stores_in vs → s < max (above_store v.made) (stores_in vs)
    less_max l = grind (arith, l)

twice : (m k : ℕ) → 2 * m ≡ 2 * k → m ≡ k
twice m k e = omega (arith, e)

rank_pass : (b : Bool) (x : Shape) (k : ℕ) → rank b x ≡ 2 * k → (b ≡ true) × (level x ≡ k)
rank_pass true x k e = (refl, twice (level x) k e)
rank_pass false x k e = absurd (omega (arith, e))

rank_rest : (b : Bool) (x : Shape) (k : ℕ) → rank b x ≡ 2 * k + 1 → (b ≡ false) × (level x ≡ k)
rank_rest true x k e = absurd (omega (arith, e))
rank_rest false x k e = (refl, (let q : 2 * level x + 1 ≡ 2 * k + 1 = e in omega (arith, q)))

of_pass : (b : Bool) (x : Shape) (k : ℕ) → b ≡ true → level x ≡ k → rank b x ≡ 2 * k
of_pass true x k h e = ap (λ n. 2 * n) e
of_pass false x k h e = absurd (cc)

of_rest : (b : Bool) (x : Shape) (k : ℕ) → b ≡ false → level x ≡ k → rank b x ≡ 2 * k + 1
of_rest true x k h e = absurd (cc)
of_rest false x k h e = ap (λ n. 2 * n + 1) e

is_none : (o : Option ℕ) → is_no_store o ≡ true → o ≡ None
is_none None h = refl
is_none (Some s) h = absurd (cc)

some_or_none : (o : Option ℕ) → (o ≡ None) ⊎ ((s : ℕ) × (o ≡ Some s))
some_or_none None = inl refl
some_or_none (Some s) = inr (s, refl)

-- a scan has the space of its operand
pub space_of_scan : (columns : Columns) (vs : List Vertex) (f : ℕ → Tall) → IsMeaning columns vs f → (i a : ℕ) (v : Vertex) (s : Scan) → slice_get vs i ≡ Some v → v.made ≡ operation (scan s) → IsAmong v.args a → (f a).shape.space ≡ (f i).shape.space
space_of_scan columns vs f meaning i a v s e q m =
    let shaped = tall_shape v.at (scan s) (map f v.args) (f i) (made_value columns vs f meaning i v (scan s) e q) in
    let w = shaped_is (scan s) (shapes (map f v.args)) (place_of (scan s) (shapes (map f v.args))) (f i).shape shaped in
    of_args v.args w.0 w.1 m ∙ ap (λ (t : Shape). t.space) w.2
  where
    of_args : (args : List ℕ) (p : Class × Space) → place_of (scan s) (shapes (map f args)) ≡ place_ok p → IsAmong args a → (f a).shape.space ≡ p.1
    of_args [] p h m = absurd m
    of_args (b ∷ []) p h m = elim m [
      | inl t ↦ ap (λ d. (f d).shape.space) (sym t) ∙ placing.inside (f b).shape.space p.1 (placed_is _ (space_ok (f b).shape.space) p (column_is (f b).shape _ p h))
      | inr n ↦ absurd n
    ]
    of_args (b ∷ d ∷ args) p h m = absurd (refused p h)

module _ (columns : Columns) (vs : List Vertex) (f : ℕ → Tall) (made : IsMade vs) (meaning : IsMeaning columns vs f) (ordered : IsOrdered vs) where
  shape_is : (i : ℕ) (v : Vertex) → slice_get vs i ≡ Some v → (f i).shape ≡ shape_at vs i
  shape_is i v e = value_shape columns vs f made meaning i v e

  space_is : (i : ℕ) (v : Vertex) → slice_get vs i ≡ Some v → (f i).shape.space ≡ (shape_at vs i).space
  space_is i v e = ap (λ (x : Shape). x.space) (shape_is i v e)

  rank_is : (i : ℕ) (v : Vertex) → slice_get vs i ≡ Some v → ranks_in vs f i ≡ rank (is_in_pass f v i) (f i).shape
  rank_is i v e = ap (λ o. rank_at f o i) e

  own_store : (i s : ℕ) (v : Vertex) → slice_get vs i ≡ Some v → store_of (f i).shape.space ≡ Some s → store_at vs i ≡ Some s
  own_store i s v e h = (one_datastore vs made i s v e).1 (inl (ap store_of (sym (space_is i v e)) ∙ h))

  operand_store : (i a s : ℕ) (v : Vertex) → slice_get vs i ≡ Some v → IsAmong v.args a → store_of (f a).shape.space ≡ Some s → store_at vs i ≡ Some s
  operand_store i a s v e m h =
      let b = get_before vs i a v e (below_among i v.args a (ordered i v e) m) in
      (one_datastore vs made i s v e).1 (inr (a, subst (λ o. IsAmong (args_of o) a) (sym e) m, ap store_of (sym (space_is a b.0 b.1)) ∙ h))

  -- the rows of the datastore are the value's or an operand's
  rows_at : (i s : ℕ) (v : Vertex) → slice_get vs i ≡ Some v → store_at vs i ≡ Some s → (store_of (f i).shape.space ≡ Some s) ⊎ ((a : ℕ) × IsAmong v.args a × (store_of (f a).shape.space ≡ Some s))
  rows_at i s v e h = elim ((one_datastore vs made i s v e).0 h) [
    | inl own ↦ inl (ap store_of (space_is i v e) ∙ own)
    | inr arg ↦
        let m : IsAmong v.args arg.0 = subst (λ o. IsAmong (args_of o) arg.0) e arg.1 in
        let b = get_before vs i arg.0 v e (below_among i v.args arg.0 (ordered i v e) m) in
        inr (arg.0, m, ap store_of (space_is arg.0 b.0 b.1) ∙ arg.2)
  ]

  passed_at : (i s : ℕ) (v : Vertex) → slice_get vs i ≡ Some v → store_at vs i ≡ Some s → is_in_pass f v i ≡ true
  passed_at i s v e h = elim (rows_at i s v e h) [
    | inl own ↦ or_left (has_rows (f i).shape.space) (any_rows f v.args) (with_store (f i).shape.space s own)
    | inr arg ↦ or_right (has_rows (f i).shape.space) (any_rows f v.args) (operand_any f v.args arg.0 arg.1 (with_store (f arg.0).shape.space s arg.2))
  ]

  pass_store : (i : ℕ) (v : Vertex) → slice_get vs i ≡ Some v → is_in_pass f v i ≡ true → (s : ℕ) × (store_at vs i ≡ Some s)
  pass_store i v e h = elim (either (has_rows (f i).shape.space) (any_rows f v.args) h) [
    | inl own ↦ (let w = some_store (f i).shape.space own in (w.0, own_store i w.0 v e w.1))
    | inr arg ↦ (let a = any_operand f v.args arg in let w = some_store (f a.0).shape.space a.2 in (w.0, operand_store i a.0 w.0 v e a.1 w.1))
  ]

  -- a datastore that is gone over is one of the list's
  pub store_below : (i s : ℕ) (v : Vertex) → slice_get vs i ≡ Some v → store_at vs i ≡ Some s → s < stores_in vs
  store_below i s v e h = elim (rows_at i s v e h) [
    | inl own ↦ (let r = (reads_decided vs made s i v e).0 (rows_read vs made s i v e (ap store_of (sym (space_is i v e)) ∙ own)) in stores_above vs r.0 r.1 s r.3 r.4)
    | inr arg ↦
        let b = get_before vs i arg.0 v e (below_among i v.args arg.0 (ordered i v e) arg.1) in
        let r = (reads_decided vs made s arg.0 b.0 b.1).0 (rows_read vs made s arg.0 b.0 b.1 (ap store_of (sym (space_is arg.0 b.0 b.1)) ∙ arg.2)) in
        stores_above vs r.0 r.1 s r.3 r.4
  ]

  scan_space : (i a : ℕ) (v : Vertex) (s : Scan) → slice_get vs i ≡ Some v → v.made ≡ operation (scan s) → IsAmong v.args a → (f a).shape.space ≡ (f i).shape.space
  scan_space = space_of_scan columns vs f meaning

  module _ (needed : List ℕ) (is_there : AreThere vs needed) (c : Option Fault) where
    abbrev Of : (store level : ℕ) → ℕ → Type 0
    Of s k i = IsWorkOf s vs f (ranks_in vs f) needed (2 * k) c i ⊎ IsEndOf s vs f (ranks_in vs f) needed (2 * k) c i

    abbrev Due : (store level : ℕ) → ℕ → Type 0
    Due s k i = IsDueOf s vs f (chain_ranks_in f) needed (2 * k) c i

    by_rows : (s k i : ℕ) (v : Vertex) → IsAmong needed i → IsBelow c (number_at (slice_get vs i)) → slice_get vs i ≡ Some v → store_at vs i ≡ Some s → ranks_in vs f i ≡ 2 * k → Of s k i
    by_rows s k i v n low e h r = elim (some_or_none (store_of (f i).shape.space)) [
      | inr some ↦
          let same : some.0 ≡ s = inside some.0 s (sym (own_store i some.0 v e some.1) ∙ h) in
          inl ((n, r, low), some.1 ∙ ap Some same)
      | inl none ↦ elim (rows_at i s v e h) [
        | inl own ↦ inl ((n, r, low), own)
        | inr arg ↦ inr ((n, r, low), (none, (v, arg.0, e, arg.1, arg.2)))
      ]
    ]

    scan_made : (m : Made) → is_scan m ≡ true → (s : Scan) × (m ≡ operation (scan s))
    scan_made (operation (scan s)) h = (s, refl)
    scan_made m h = absurd (cc)

    scan_rows : (s i : ℕ) (v : Vertex) → slice_get vs i ≡ Some v → is_scan_at (slice_get vs i) ≡ true → store_at vs i ≡ Some s → store_of (f i).shape.space ≡ Some s
    scan_rows s i v e t h = elim (rows_at i s v e h) [
      | inl own ↦ own
      | inr arg ↦
          let w = scan_made v.made (subst (λ o. is_scan_at o ≡ true) e t) in
          ap store_of (sym (scan_space i arg.0 v w.0 e w.1 arg.1)) ∙ arg.2
    ]

    -- the work of the plan's pass is the level's work over the datastore, and the scans that are due
    pub plan_work : (s k i : ℕ) → (IsAmong (work_of vs needed s k) i × IsBelow c (number_at (slice_get vs i))) ↔ (Of s k i ⊎ Due s k i)
    plan_work s k i = (from, to)
      where
        from : IsAmong (work_of vs needed s k) i × IsBelow c (number_at (slice_get vs i)) → Of s k i ⊎ Due s k i
        from h =
            let w = (among_filter (is_work vs s k) needed i).0 h.0 in
            let t = both (is_store s (store_at vs i)) (is_of_level vs k i) w.1 in
            let at : store_at vs i ≡ Some s = (store_test s (store_at vs i)).0 t.0 in
            let u = is_there i w.0 in
            elim (either (level (shape_at vs i) == k) (is_scan_at (slice_get vs i) && (shape_at vs i).chain == k) t.1) [
              | inl l ↦
                  let e : level (f i).shape ≡ k = ap level (shape_is i u.0 u.1) ∙ (level_test (level (shape_at vs i)) k).0 l in
                  inl (by_rows s k i u.0 w.0 h.1 u.1 at (rank_is i u.0 u.1 ∙ of_pass (is_in_pass f u.0 i) (f i).shape k (passed_at i s u.0 u.1 at) e))
              | inr l ↦
                  let g = both (is_scan_at (slice_get vs i)) ((shape_at vs i).chain == k) l in
                  let e : (f i).shape.chain ≡ k = ap (λ (x : Shape). x.chain) (shape_is i u.0 u.1) ∙ (level_test (shape_at vs i).chain k).0 g.1 in
                  inr (w.0, g.0, scan_rows s i u.0 u.1 g.0 at, ap (λ n. 2 * n) e, h.1)
            ]

        level_of : (v : Vertex) → slice_get vs i ≡ Some v → ranks_in vs f i ≡ 2 * k → is_of_level vs k i ≡ true
        level_of v e r =
            let w = rank_pass (is_in_pass f v i) (f i).shape k (sym (rank_is i v e) ∙ r) in
            or_left (level (shape_at vs i) == k) _ ((level_test (level (shape_at vs i)) k).1 (ap level (sym (shape_is i v e)) ∙ w.1))

        in_list : IsAmong needed i → store_at vs i ≡ Some s → is_of_level vs k i ≡ true → IsAmong (work_of vs needed s k) i
        in_list n at l = (among_filter (is_work vs s k) needed i).1 (n, and_true (is_store s (store_at vs i)) (is_of_level vs k i) ((store_test s (store_at vs i)).1 at) l)

        to : Of s k i ⊎ Due s k i → IsAmong (work_of vs needed s k) i × IsBelow c (number_at (slice_get vs i))
        to h = elim h [
          | inl of ↦ elim of [
            | inl own ↦ (let u = is_there i own.0.0 in (in_list own.0.0 (own_store i s u.0 u.1 own.1) (level_of u.0 u.1 own.0.1), own.0.2))
            | inr end ↦ (in_list end.0.0 (operand_store i end.1.1.1 s end.1.1.0 end.1.1.2 end.1.1.3 end.1.1.4) (level_of end.1.1.0 end.1.1.2 end.0.1), end.0.2)
          ]
          | inr due ↦
              let u = is_there i due.0 in
              let e : (shape_at vs i).chain ≡ k = ap (λ (x : Shape). x.chain) (sym (shape_is i u.0 u.1)) ∙ twice (f i).shape.chain k due.3 in
              (in_list due.0 (own_store i s u.0 u.1 due.2) (or_right (level (shape_at vs i) == k) (is_scan_at (slice_get vs i) && (shape_at vs i).chain == k) (and_true (is_scan_at (slice_get vs i)) ((shape_at vs i).chain == k) due.1 ((level_test (shape_at vs i).chain k).1 e))), due.4)
        ]

    -- what passes compute of a level is the work of one of them
    pub level_parts : (k i : ℕ) → IsWork (nodes_by vs f (ranks_in vs f)) (IsAmong needed) (2 * k) c i → (s : ℕ) × (s < stores_in vs) × Of s k i
    level_parts k i w =
        let u = is_there i w.0 in
        let r = rank_pass (is_in_pass f u.0 i) (f i).shape k (sym (rank_is i u.0 u.1) ∙ w.1) in
        let s = pass_store i u.0 u.1 r.0 in
        (s.0, store_below i s.0 u.0 u.1 s.1, by_rows s.0 k i u.0 w.0 w.2 u.1 s.1 w.1)

    abbrev Below : (k n : ℕ) → ℕ → Type 0
    Below k n i = (s : ℕ) × (s < n) × Of s k i

    widen : (k n i : ℕ) → Below k n i ⊎ Of n k i → Below k (suc n) i
    widen k n i w = elim w [ inl h ↦ (h.0, (let l = h.1 in omega (arith, l)), h.2) | inr h ↦ (n, omega (arith), h) ]

    narrow : (k n i : ℕ) → Below k (suc n) i → Below k n i ⊎ Of n k i
    narrow k n i w = elim (compare w.0 n) [
      | inl less ↦ inl (w.0, less, w.2)
      | inr rest ↦ elim rest [ inl more ↦ absurd (let l = w.1 in omega (arith, l, more)) | inr same ↦ inr (subst (λ m. Of m k i) same w.2) ]
    ]

    joined_stores : (k : ℕ) (found : ℕ → Option Fault) → ((s : ℕ) → s < stores_in vs → IsLeast (own_in vs f) (Of s k) (found s)) → (n : ℕ) → n ≤ stores_in vs → IsLeast (own_in vs f) (Below k n) (earliest found n)
    joined_stores k found are zero l = record {
      one = λ x e. absurd (cc);
      least = λ i y w own. absurd (let h : w.0 < 0 = w.1 in omega (arith, h));
    }
    joined_stores k found are (suc n) l =
        let rest = joined_stores k found are n (omega (arith, l)) in
        let two = joined (own_in vs f) (Below k n) (Of n k) (earliest found n) (found n) rest (are n (omega (arith, l))) in
        record {
          one = λ x e. (let w = two.one x e in (w.0, widen k n w.0 w.1, w.2));
          least = λ i y w own. two.least i y (narrow k n i w) own;
        }

    of_level_work : (s k i : ℕ) → Of s k i → IsWork (nodes_by vs f (ranks_in vs f)) (IsAmong needed) (2 * k) c i
    of_level_work s k i h = elim h [ inl own ↦ own.0 | inr end ↦ end.0 ]

    -- the least faults of the passes of a level give that of all that passes compute of it
    pub level_joined : (k : ℕ) (found : ℕ → Option Fault) → ((s : ℕ) → s < stores_in vs → IsLeast (own_in vs f) (Of s k) (found s)) → IsLeast (own_in vs f) (IsWork (nodes_by vs f (ranks_in vs f)) (IsAmong needed) (2 * k) c) (earliest found (stores_in vs))
    level_joined k found are =
        let all = joined_stores k found are (stores_in vs) (omega (arith)) in
        record {
          one = λ x e. (let w = all.one x e in (w.0, of_level_work w.1.0 k w.0 w.1.2, w.2));
          least = λ i y w own. all.least i y (level_parts k i w) own;
        }

    -- what stands in no pass
    pub rest_is : (k i : ℕ) → (IsAmong (rest_of vs needed k) i × IsBelow c (number_at (slice_get vs i))) ↔ IsWork (nodes_by vs f (ranks_in vs f)) (IsAmong needed) (2 * k + 1) c i
    rest_is k i = (from, to)
      where
        not_passed : (v : Vertex) → slice_get vs i ≡ Some v → store_at vs i ≡ None → (b : Bool) → is_in_pass f v i ≡ b → is_in_pass f v i ≡ false
        not_passed v e none true h = absurd (let w = pass_store i v e h in let z : None ≡ Some w.0 = sym none ∙ w.1 in cc)
        not_passed v e none false h = h

        none_store : (v : Vertex) → slice_get vs i ≡ Some v → is_in_pass f v i ≡ false → (o : (store_at vs i ≡ None) ⊎ ((s : ℕ) × (store_at vs i ≡ Some s))) → is_no_store (store_at vs i) ≡ true
        none_store v e h o = elim o [
          | inl none ↦ ap is_no_store none
          | inr some ↦ absurd (let z : is_in_pass f v i ≡ true = passed_at i some.0 v e some.1 in cc)
        ]

        from : IsAmong (rest_of vs needed k) i × IsBelow c (number_at (slice_get vs i)) → IsWork (nodes_by vs f (ranks_in vs f)) (IsAmong needed) (2 * k + 1) c i
        from h =
            let w = (among_filter (is_rest vs k) needed i).0 h.0 in
            let t = both (is_no_store (store_at vs i)) (level (shape_at vs i) == k) w.1 in
            let u = is_there i w.0 in
            let e : level (f i).shape ≡ k = ap level (shape_is i u.0 u.1) ∙ (level_test (level (shape_at vs i)) k).0 t.1 in
            (w.0, rank_is i u.0 u.1 ∙ of_rest (is_in_pass f u.0 i) (f i).shape k (not_passed u.0 u.1 (is_none (store_at vs i) t.0) (is_in_pass f u.0 i) refl) e, h.1)

        to : IsWork (nodes_by vs f (ranks_in vs f)) (IsAmong needed) (2 * k + 1) c i → IsAmong (rest_of vs needed k) i × IsBelow c (number_at (slice_get vs i))
        to w =
            let u = is_there i w.0 in
            let r = rank_rest (is_in_pass f u.0 i) (f i).shape k (sym (rank_is i u.0 u.1) ∙ w.1) in (
              (among_filter (is_rest vs k) needed i).1 (
                w.0,
                and_true (is_no_store (store_at vs i)) (level (shape_at vs i) == k)
                    (none_store u.0 u.1 r.0 (some_or_none (store_at vs i))) ((level_test (level (shape_at vs i)) k).1 (ap level (sym (shape_is i u.0 u.1)) ∙ r.1)),
              ),
              w.2,
            )

  -- ---- no scan is due before the first level

  chain_of_scan : (i : ℕ) (v : Vertex) (m : Made) → slice_get vs i ≡ Some v → v.made ≡ m → is_scan m ≡ true → has_rows (f i).shape.space ≡ true → 1 ≤ (f i).shape.chain
  chain_of_scan i v (operation (scan s)) e q t h =
      let shaped = tall_shape v.at (scan s) (map f v.args) (f i) (made_value columns vs f meaning i v (scan s) e q) in
      let w = shaped_is (scan s) (shapes (map f v.args)) (place_of (scan s) (shapes (map f v.args))) (f i).shape shaped in
      let chain : greatest_level (shapes (map f v.args)) ≡ (f i).shape.chain = ap (λ (x : Shape). x.chain) w.2 in
      let l = of_args v.args w.0 w.1 (λ a m. ap has_rows (scan_space i a v s e q m) ∙ h) in
      omega (arith, l, chain)
    where
      deep : (x : Shape) (xs : List Shape) → has_rows x.space ≡ true → 1 ≤ greatest_level (x ∷ xs)
      deep x xs h = (let e : level x ≡ x.chain + 1 = raised (has_rows x.space) x.chain h in grind (arith, e))
        where
          raised : (b : Bool) (n : ℕ) → b ≡ true → (if b then n + 1 else n) ≡ n + 1
          raised true n h = refl
          raised false n h = absurd (cc)

      of_args : (args : List ℕ) (p : Class × Space) → place_of (scan s) (shapes (map f args)) ≡ place_ok p → ((a : ℕ) → IsAmong args a → has_rows (f a).shape.space ≡ true) → 1 ≤ greatest_level (shapes (map f args))
      of_args [] p g all = absurd (refused p g)
      of_args (a ∷ args) p g all = deep (f a).shape (shapes (map f args)) (all a (inl refl))
  chain_of_scan i v m e q t h = absurd (cc)

  chain_positive : (i : ℕ) (o : Option Vertex) → slice_get vs i ≡ o → is_scan_at o ≡ true → has_rows (f i).shape.space ≡ true → 1 ≤ (f i).shape.chain
  chain_positive i None e t h = absurd (cc)
  chain_positive i (Some v) e t h = chain_of_scan i v v.made e refl t h

  pub none_due : (needed carried : List ℕ) (c : Option Fault) → AfterScans (nodes_by vs f (levels_in f)) (scans_by vs f (chains_in f)) (IsAmong needed) (IsAmong carried) 0 c
  none_due needed carried c i n t l low =
      let w = both (is_scan_at (slice_get vs i)) (has_rows (f i).shape.space) t in
      let p = chain_positive i (slice_get vs i) refl w.0 w.1 in
      absurd (omega (arith, p, l))

  pub none_due_ranks : (needed carried : List ℕ) (c : Option Fault) → AfterScans (nodes_by vs f (ranks_in vs f)) (scans_by vs f (chain_ranks_in f)) (IsAmong needed) (IsAmong carried) 0 c
  none_due_ranks needed carried c i n t l low =
      let w = both (is_scan_at (slice_get vs i)) (has_rows (f i).shape.space) t in
      let p = chain_positive i (slice_get vs i) refl w.0 w.1 in
      absurd (omega (arith, p, l))
