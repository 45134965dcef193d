-- A value's chain is the greatest number of operations that need all rows of a datastore on a path to what it depends on.
use Rattle.std.specs.Prelude.{◌≡◌, refl, ℕ, zero, suc, ◌<◌, ◌≤◌, ◌+◌, max, ◌⊎◌, Bool, true, false, ◌&&◌, if◌then◌else◌, Some, Ok, Err, List, [], ◌∷◌, map, slice_get}
use Rattle.std.proofs.Common.{ap, sym, subst, ◌∙◌, arith, inl, inr}
use Rattle.tall_value.specs.declared.class.Class.{Class}
use Rattle.tall_semantics.specs.Operations.{Op, constant, unary, binary, filter, reduce, scan, head, tail, distinct, group, Made, stored, operation}
use Rattle.tall_semantics.specs.Spaces.{has_rows}
use Rattle.tall_semantics.specs.Shapes.{Shape, level, greatest_chain, greatest_level, place_of, chain_of}
use Rattle.tall_semantics.specs.Deferred.{Vertex, IsAmong}
use Rattle.tall_semantics.specs.ShapesInOrder.{made_shape, shape_at, IsMade}
use Rattle.tall_semantics.specs.Chains.{needs_all_rows, passes_between, Path, ends, goes}
use Rattle.tall_semantics.proofs.Basics.{inside}
use Rattle.tall_semantics.proofs.OriginLaws.{get_before, below_among}
use Rattle.tall_semantics.proofs.ShapeLaws.{IsOneOf, shape_ok, shaped_is, below_greatest}
use Rattle.tall_semantics.proofs.ShapesInOrderLaws.{made_ordered, shapes_mean}
use Rattle.tall_semantics.proofs.ReachLaws.{args_one_of}

-- what an operand's chain comes to in the result, where the operation needs all rows or not
abbrev plus : Bool → Shape → ℕ
plus all x = if all && has_rows x.space then 1 else 0

rows_plus : (b : Bool) (n : ℕ) → (if b then n + 1 else n) ≡ (if true && b then 1 else 0) + n
rows_plus true n = omega (arith)
rows_plus false n = omega (arith)

-- ---- the chain of an operation: over levels where it needs all rows, else over chains

abbrev greatest_of : Bool → List Shape → ℕ
greatest_of true xs = greatest_level xs
greatest_of false xs = greatest_chain xs

chain_is : (op : Op) (xs : List Shape) → chain_of op xs ≡ greatest_of (needs_all_rows (operation op)) xs
chain_is (constant c) xs = refl
chain_is (binary op) xs = refl
chain_is (unary op) xs = refl
chain_is filter xs = refl
chain_is (reduce r) xs = refl
chain_is (scan s) xs = refl
chain_is (head k) xs = refl
chain_is (tail k) xs = refl
chain_is distinct xs = refl
chain_is (group m part) xs = refl

of_levels : (x : Shape) → level x ≡ plus true x + x.chain
of_levels x = rows_plus (has_rows x.space) x.chain

not_less : (all : Bool) (xs : List Shape) (x : Shape) → IsOneOf xs x → plus all x + x.chain ≤ greatest_of all xs
not_less all [] x h = absurd h
not_less true (y ∷ ys) x h = (let q : level x ≤ greatest_level (y ∷ ys) = below_greatest (y ∷ ys) x h in let e : level x ≡ plus true x + x.chain = of_levels x in omega (arith, q, e))
not_less false (y ∷ ys) x h = below_all (y ∷ ys) x h
  where
    below_all : (xs : List Shape) (x : Shape) → IsOneOf xs x → 0 + x.chain ≤ greatest_chain xs
    below_all [] x h = absurd h
    below_all (y ∷ ys) x h = elim h [
      | inl e ↦ subst (λ (z : Shape). 0 + z.chain ≤ max y.chain (greatest_chain ys)) e (grind (arith))
      | inr r ↦ (let q : 0 + x.chain ≤ greatest_chain ys = below_all ys x r in grind (arith, q))
    ]

greater : (m n : ℕ) → ((max m n ≡ m) × (n ≤ m)) ⊎ ((max m n ≡ n) × (m ≤ n))
greater m n = grind (arith)

-- an operand has the greatest, where there is one above 0
attained : (g : ℕ → Shape) (all : Bool) (args : List ℕ) → (greatest_of all (map g args) ≡ 0) ⊎ ((a : ℕ) × IsAmong args a × (greatest_of all (map g args) ≡ plus all (g a) + (g a).chain))
attained g true [] = inl refl
attained g false [] = inl refl
attained g true (a ∷ args) = elim (greater (level (g a)) (greatest_level (map g args))) [
  | inl p ↦ inr (a, inl refl, p.0 ∙ of_levels (g a))
  | inr q ↦ elim (attained g true args) [ inl z ↦ inl (q.0 ∙ z) | inr w ↦ inr (w.0, inr w.1, q.0 ∙ w.2) ]
]
attained g false (a ∷ args) = elim (greater (g a).chain (greatest_chain (map g args))) [
  | inl p ↦ inr (a, inl refl, p.0 ∙ omega (arith))
  | inr q ↦ elim (attained g false args) [ inl z ↦ inl (q.0 ∙ z) | inr w ↦ inr (w.0, inr w.1, q.0 ∙ w.2) ]
]

-- ---- vertices

module _ (vs : List Vertex) (made : IsMade vs) where
  before : (i a : ℕ) (v : Vertex) → slice_get vs i ≡ Some v → IsAmong v.args a → (a < i) × ((w : Vertex) × (slice_get vs a ≡ Some w))
  before i a v e h = (let l : a < i = below_among i v.args a (made_ordered vs made i v e) h in (l, get_before vs i a v e l))

  operation_chain : (i : ℕ) (v : Vertex) (op : Op) → slice_get vs i ≡ Some v → v.made ≡ operation op → (shape_at vs i).chain ≡ greatest_of (needs_all_rows v.made) (map (shape_at vs) v.args)
  operation_chain i v op e q =
      let xs = map (shape_at vs) v.args in
      let w = shaped_is op xs (place_of op xs) (shape_at vs i) (subst (λ m. made_shape m xs ≡ shape_ok (shape_at vs i)) q (shapes_mean vs made i v e)) in
      ap (λ (t : Shape). t.chain) (sym w.2) ∙ (chain_is op xs ∙ ap (λ m. greatest_of (needs_all_rows m) xs) (sym q))

  stored_chain : (i : ℕ) (v : Vertex) (s b : ℕ) (c : Class) → slice_get vs i ≡ Some v → v.made ≡ stored s b c → ((shape_at vs i).chain ≡ 0) × (v.args ≡ [])
  stored_chain i v s b c e q = of_args v.args (subst (λ m. made_shape m (map (shape_at vs) v.args) ≡ shape_ok (shape_at vs i)) q (shapes_mean vs made i v e))
    where
      of_args : (args : List ℕ) → made_shape (stored s b c) (map (shape_at vs) args) ≡ shape_ok (shape_at vs i) → ((shape_at vs i).chain ≡ 0) × (args ≡ [])
      of_args [] h = (ap (λ r. elim r [ Ok t ↦ t.chain | Err x ↦ 0 ]) (sym h), refl)
      of_args (a ∷ args) h = absurd (cc)

  no_operand : (i a : ℕ) (v : Vertex) (s b : ℕ) (c : Class) → slice_get vs i ≡ Some v → v.made ≡ stored s b c → IsAmong v.args a → ⊥
  no_operand i a v s b c e q h = subst (λ args. IsAmong args a) (stored_chain i v s b c e q).1 h

  one_step : (i a : ℕ) (v : Vertex) (m : Made) → slice_get vs i ≡ Some v → v.made ≡ m → IsAmong v.args a → passes_between vs v.made a + (shape_at vs a).chain ≤ (shape_at vs i).chain
  one_step i a v (stored s b c) e q h = absurd (no_operand i a v s b c e q h)
  one_step i a v (operation op) e q h =
      subst (λ n. passes_between vs v.made a + (shape_at vs a).chain ≤ n) (sym (operation_chain i v op e q))
      (not_less (needs_all_rows v.made) (map (shape_at vs) v.args) (shape_at vs a) (args_one_of (shape_at vs) v.args a h))

  pub not_longer : (i n : ℕ) (v : Vertex) → slice_get vs i ≡ Some v → Path vs i n → n ≤ (shape_at vs i).chain
  not_longer i n v e (ends k) = omega (arith)
  not_longer i n v e (goes k a m u g among p) =
      let same : u ≡ v = inside u v (sym g ∙ e) in
      let in_args : IsAmong v.args a = subst (λ (x : Vertex). IsAmong x.args a) same among in
      let b = before k a v e in_args in
      let more : m ≤ (shape_at vs a).chain = not_longer a m b.1.0 b.1.1 p in
      let one : passes_between vs v.made a + (shape_at vs a).chain ≤ (shape_at vs k).chain = one_step k a v v.made e refl in_args in
      subst (λ (x : Vertex). passes_between vs x.made a + m ≤ (shape_at vs k).chain) (sym same) (omega (arith, more, one))

  longest_below : (n i : ℕ) (v : Vertex) (m : Made) → i < n → slice_get vs i ≡ Some v → v.made ≡ m → Path vs i (shape_at vs i).chain
  longest_below zero i v m l e q = absurd (omega (arith, l))
  longest_below (suc n) i v (stored s b c) l e q = subst (Path vs i) (sym (stored_chain i v s b c e q).0) (ends i)
  longest_below (suc n) i v (operation op) l e q =
      let c = operation_chain i v op e q in
      elim (attained (shape_at vs) (needs_all_rows v.made) v.args) [
        | inl z ↦ subst (Path vs i) (sym (c ∙ z)) (ends i)
        | inr w ↦
            let b = before i w.0 v e w.1 in
            let p = longest_below n w.0 b.1.0 b.1.0.made (omega (arith, l, b.0)) b.1.1 refl in
            subst (Path vs i) (sym (c ∙ w.2)) (goes i w.0 (shape_at vs w.0).chain v e w.1 p)
      ]

  pub longest : (i : ℕ) (v : Vertex) → slice_get vs i ≡ Some v → Path vs i (shape_at vs i).chain
  longest i v e = longest_below (suc i) i v v.made (omega (arith)) e refl
