-- From the numbers that a graph keeps: a fault has its expression's number, expressions of one number that can fail have
-- one level, and faults of one place are one fault.
use Rattle.std.specs.Prelude.{◌≡◌, refl, ◌≢◌, ℕ, ◌+◌, ◌*◌, ◌⊎◌, ◌||◌, if◌then◌else◌, true, Option, None, Some, List, map, get_or, slice_get}
use Rattle.std.proofs.Common.{ap, sym, ◌∙◌, arith, inl, inr}
use Rattle.tall_value.specs.declared.class.Class.{Class}
use Rattle.tall_value.specs.declared.functions.Method.{Method}
use Rattle.tall_semantics.proofs.Basics.{inside}
use Rattle.tall_semantics.specs.Operations.{group, Part, Made, stored, operation}
use Rattle.tall_semantics.specs.Faults.{At, Fault, fault_place}
use Rattle.tall_semantics.specs.Outcomes.{fault_of}
use Rattle.tall_semantics.specs.Shapes.{level, greatest_level}
use Rattle.tall_semantics.specs.Talls.{Tall, Columns, shapes, own_outcome}
use Rattle.tall_semantics.specs.Deferred.{Vertex, IsMeaning, fault_in, least_in, own_at, own_in}
use Rattle.tall_semantics.specs.Levels.{IsNumbered}
use Rattle.tall_semantics.specs.Spaces.{has_rows}
use Rattle.tall_semantics.specs.Ranks.{any_rows, is_in_pass, rank, rank_at, ranks_in}
use Rattle.tall_semantics.specs.Numbered.{never_fails, AreBothStored, OfOneMethod, AreNumbered, AreReadings, number_at, nodes_by, levels_in}
use Rattle.tall_semantics.proofs.FaultLaws.{own_number, no_own, same_group}
use Rattle.tall_semantics.proofs.LevelLaws.{compare}
use Rattle.tall_semantics.proofs.OriginLaws.{own_is}
use Rattle.tall_semantics.proofs.MeaningLaws.{stored_value, made_value, no_fault, made_fault, tall_shape}
use Rattle.tall_semantics.proofs.ShapeLaws.{group_level, group_rows}

-- ---- what made a value

own_split : (f : ℕ → Tall) (o : Option Vertex) (i : ℕ) (x : Fault) → own_at f o i ≡ Some x → (v : Vertex) × (o ≡ Some v) × (least_in f v.args ≡ None) × (fault_in f i ≡ Some x)
own_split f None i x h = absurd (cc)
own_split f (Some v) i x h = (let p = own_is (least_in f v.args) (fault_in f i) x h in (v, refl, p.0, p.1))

both_stored : (m n : Made) → AreBothStored m n → (s : ℕ) × (a : ℕ) × (c : Class) × (t : ℕ) × (b : ℕ) × (d : Class) × (m ≡ stored s a c) × (n ≡ stored t b d)
both_stored (stored s a c) (stored t b d) h = (s, a, c, t, b, d, refl, refl)
both_stored (stored s a c) (operation f) h = absurd h
both_stored (operation f) n h = absurd h

both_parts : (m n : Made) → OfOneMethod m n → (k : Method) × (p : Part) × (q : Part) × (m ≡ operation (group k p)) × (n ≡ operation (group k q))
both_parts (operation (group k p)) (operation (group l q)) h = (k, p, q, refl, ap (λ j. operation (group j q)) (sym h))
both_parts m n h = absurd h

same_number : (x y : Fault) → fault_place x ≡ fault_place y → x.number ≡ y.number
same_number x y h = ap (λ l. get_or l 0 0) h

same_store : (x y : Fault) → fault_place x ≡ fault_place y → x.store ≡ y.store
same_store x y h = ap (λ l. get_or l 3 0) h

same_at : (p q : At) → p.number ≡ q.number → p.line ≡ q.line → p ≡ q
same_at p q n l = ap (λ (k : ℕ). record { number = k; line = p.line }) n ∙ ap (λ (k : ℕ). record { number = q.number; line = k }) l

module _ (columns : Columns) (vs : List Vertex) (f : ℕ → Tall) (meaning : IsMeaning columns vs f) (numbered : AreNumbered vs) (readings : AreReadings columns vs) where
  number_of : (i : ℕ) (v : Vertex) (m : Made) (x : Fault) → slice_get vs i ≡ Some v → v.made ≡ m → least_in f v.args ≡ None → fault_in f i ≡ Some x → x.number ≡ v.at.number
  number_of i v (stored s a c) x e q n h = (readings.called i v s a c x e q (ap (λ (t : Tall). fault_of t.outcome) (stored_value columns vs f meaning i v s a c e q) ∙ h)).0
  number_of i v (operation op) x e q n h = own_number v.at op (map f v.args) (no_fault columns vs f meaning v.args n) x (sym (made_fault columns vs f meaning i v op e q n) ∙ h)

  fails : (i : ℕ) (v : Vertex) (m : Made) (x : Fault) → slice_get vs i ≡ Some v → v.made ≡ m → least_in f v.args ≡ None → fault_in f i ≡ Some x → never_fails m ≡ true → ⊥
  fails i v (stored s a c) x e q n h b = cc
  fails i v (operation op) x e q n h b = (let z : None ≡ Some x = sym (no_own v.at op (map f v.args) b) ∙ (sym (made_fault columns vs f meaning i v op e q n) ∙ h) in cc)

  by_number : (i : ℕ) (x : Fault) → own_in vs f i ≡ Some x → x.number ≡ number_at (slice_get vs i)
  by_number i x h =
      let w = own_split f (slice_get vs i) i x h in
      number_of i w.0 w.0.made x w.1 refl w.2 w.3 ∙ sym (ap number_at w.1)

  -- two that fail and have one number
  record Pair (i j : ℕ) (x y : Fault) : Type 0 where
    v : Vertex
    w : Vertex
    at_i : slice_get vs i ≡ Some v
    at_j : slice_get vs j ≡ Some w
    none_i : least_in f v.args ≡ None
    none_j : least_in f w.args ≡ None
    fault_i : fault_in f i ≡ Some x
    fault_j : fault_in f j ≡ Some y
    number : v.at.number ≡ w.at.number

  pair_of : (i j : ℕ) (x y : Fault) → own_in vs f i ≡ Some x → own_in vs f j ≡ Some y → number_at (slice_get vs i) ≡ number_at (slice_get vs j) → Pair i j x y
  pair_of i j x y g h n =
      let a = own_split f (slice_get vs i) i x g in
      let b = own_split f (slice_get vs j) j y h in
      record { v = a.0; w = b.0; at_i = a.1; at_j = b.1; none_i = a.2; none_j = b.2; fault_i = a.3; fault_j = b.3; number = sym (ap number_at a.1) ∙ (n ∙ ap number_at b.1) }

  stored_level : (i : ℕ) (v : Vertex) (s a : ℕ) (c : Class) → slice_get vs i ≡ Some v → v.made ≡ stored s a c → level (f i).shape ≡ 1
  stored_level i v s a c e q = ap (λ (t : Tall). level t.shape) (sym (stored_value columns vs f meaning i v s a c e q))

  part_level : (i : ℕ) (v : Vertex) (m : Method) (p : Part) → slice_get vs i ≡ Some v → v.made ≡ operation (group m p) → level (f i).shape ≡ greatest_level (shapes (map f v.args))
  part_level i v m p e q = group_level m p (shapes (map f v.args)) (f i).shape (tall_shape v.at (group m p) (map f v.args) (f i) (made_value columns vs f meaning i v (group m p) e q))

  stored_in_pass : (i : ℕ) (v : Vertex) (s a : ℕ) (c : Class) → slice_get vs i ≡ Some v → v.made ≡ stored s a c → is_in_pass f v i ≡ true
  stored_in_pass i v s a c e q = ap (λ (t : Tall). has_rows t.shape.space || any_rows f v.args) (sym (stored_value columns vs f meaning i v s a c e q))

  part_in_pass : (i : ℕ) (v : Vertex) (m : Method) (p : Part) → slice_get vs i ≡ Some v → v.made ≡ operation (group m p) → is_in_pass f v i ≡ any_rows f v.args
  part_in_pass i v m p e q = ap (λ b. b || any_rows f v.args) (group_rows m p (shapes (map f v.args)) (f i).shape (tall_shape v.at (group m p) (map f v.args) (f i) (made_value columns vs f meaning i v (group m p) e q)))

  record Alike (i j : ℕ) (v w : Vertex) : Type 0 where
    same_level : level (f i).shape ≡ level (f j).shape
    same_pass : is_in_pass f v i ≡ is_in_pass f w j

  levels_of : (i j : ℕ) (x y : Fault) (p : Pair i j x y) → i ≢ j → Alike i j p.v p.w
  levels_of i j x y p d = elim (numbered.shared i j p.v p.w d p.at_i p.at_j p.number) [
    | inl both ↦
        let s = both_stored p.v.made p.w.made both in
        record {
          same_level = stored_level i p.v s.0 s.1 s.2 p.at_i s.6 ∙ sym (stored_level j p.w s.3 s.4 s.5 p.at_j s.7);
          same_pass = stored_in_pass i p.v s.0 s.1 s.2 p.at_i s.6 ∙ sym (stored_in_pass j p.w s.3 s.4 s.5 p.at_j s.7);
        }
    | inr rest ↦ elim rest [
      | inl parts ↦
          let s = both_parts p.v.made p.w.made parts.0 in
          record {
            same_level = part_level i p.v s.0 s.1 p.at_i s.3 ∙ (ap (λ args. greatest_level (shapes (map f args))) parts.1 ∙ sym (part_level j p.w s.0 s.2 p.at_j s.4));
            same_pass = part_in_pass i p.v s.0 s.1 p.at_i s.3 ∙ (ap (any_rows f) parts.1 ∙ sym (part_in_pass j p.w s.0 s.2 p.at_j s.4));
          }
      | inr never ↦ elim never [
        | inl a ↦ absurd (fails i p.v p.v.made x p.at_i refl p.none_i p.fault_i a)
        | inr b ↦ absurd (fails j p.w p.w.made y p.at_j refl p.none_j p.fault_j b)
      ]
    ]
  ]

  faults_of : (i j : ℕ) (x y : Fault) → Pair i j x y → i ≢ j → fault_place x ≡ fault_place y → x ≡ y
  faults_of i j x y p d h = elim (numbered.shared i j p.v p.w d p.at_i p.at_j p.number) [
    | inl both ↦
        let s = both_stored p.v.made p.w.made both in
        let a : fault_of (columns s.0 s.1) ≡ Some x = ap (λ (t : Tall). fault_of t.outcome) (stored_value columns vs f meaning i p.v s.0 s.1 s.2 p.at_i s.6) ∙ p.fault_i in
        let b : fault_of (columns s.3 s.4) ≡ Some y = ap (λ (t : Tall). fault_of t.outcome) (stored_value columns vs f meaning j p.w s.3 s.4 s.5 p.at_j s.7) ∙ p.fault_j in
        let one : s.0 ≡ s.3 = sym (readings.called i p.v s.0 s.1 s.2 x p.at_i s.6 a).1 ∙ (same_store x y h ∙ (readings.called j p.w s.3 s.4 s.5 y p.at_j s.7 b).1) in
        let made : p.w.made ≡ stored s.0 s.4 s.5 = s.7 ∙ ap (λ k. stored k s.4 s.5) (sym one) in
        inside x y (sym a ∙ (readings.first i j p.v p.w s.0 s.1 s.4 s.2 s.5 p.at_i p.at_j s.6 made ∙ (ap (λ k. fault_of (columns k s.4)) one ∙ b)))
    | inr rest ↦ elim rest [
      | inl parts ↦
          let s = both_parts p.v.made p.w.made parts.0 in
          let same : p.v.at ≡ p.w.at = same_at p.v.at p.w.at p.number parts.2 in
          inside x y (sym p.fault_i ∙ (made_fault columns vs f meaning i p.v (group s.0 s.1) p.at_i s.3 p.none_i ∙ (same_group p.v.at s.0 s.1 s.2 (map f p.v.args)
          ∙ (ap (λ k. fault_of (own_outcome k (group s.0 s.2) (map f p.v.args))) same ∙ (ap (λ args. fault_of (own_outcome p.w.at (group s.0 s.2) (map f args))) parts.1
          ∙ (sym (made_fault columns vs f meaning j p.w (group s.0 s.2) p.at_j s.4 p.none_j) ∙ p.fault_j))))))
      | inr never ↦ elim never [
        | inl a ↦ absurd (fails i p.v p.v.made x p.at_i refl p.none_i p.fault_i a)
        | inr b ↦ absurd (fails j p.w p.w.made y p.at_j refl p.none_j p.fault_j b)
      ]
    ]
  ]

  apart_or_one : (i j : ℕ) → (i ≢ j) ⊎ (i ≡ j)
  apart_or_one i j = elim (compare i j) [
    | inl less ↦ inl (λ e. omega (arith, less, e))
    | inr more ↦ elim more [ inl greater ↦ inl (λ e. omega (arith, greater, e)) | inr same ↦ inr same ]
  ]

  one_level : (i j : ℕ) (x y : Fault) → own_in vs f i ≡ Some x → own_in vs f j ≡ Some y → number_at (slice_get vs i) ≡ number_at (slice_get vs j) → level (f i).shape ≡ level (f j).shape
  one_level i j x y g h n = elim (apart_or_one i j) [
    | inl d ↦ (levels_of i j x y (pair_of i j x y g h n) d).same_level
    | inr same ↦ ap (λ k. level (f k).shape) same
  ]

  one_place : (i j : ℕ) (x y : Fault) → own_in vs f i ≡ Some x → own_in vs f j ≡ Some y → fault_place x ≡ fault_place y → x ≡ y
  one_place i j x y g h p = elim (apart_or_one i j) [
    | inl d ↦
        let n : number_at (slice_get vs i) ≡ number_at (slice_get vs j) = sym (by_number i x g) ∙ (same_number x y p ∙ by_number j y h) in
        faults_of i j x y (pair_of i j x y g h n) d p
    | inr same ↦ inside x y (sym g ∙ (ap (own_in vs f) same ∙ h))
  ]

  pub graph_numbered : IsNumbered (nodes_by vs f (levels_in f))
  graph_numbered = record { by_number = by_number; one_level = one_level; one_place = one_place }

  one_rank : (i j : ℕ) (x y : Fault) → own_in vs f i ≡ Some x → own_in vs f j ≡ Some y → number_at (slice_get vs i) ≡ number_at (slice_get vs j) → rank_at f (slice_get vs i) i ≡ rank_at f (slice_get vs j) j
  one_rank i j x y g h n = elim (apart_or_one i j) [
    | inl d ↦
        let p = pair_of i j x y g h n in
        let a = levels_of i j x y p d in
        ap (λ o. rank_at f o i) p.at_i ∙ (ap (λ b. rank b (f i).shape) a.same_pass ∙ (ap (λ (l : ℕ). if is_in_pass f p.w j then 2 * l else 2 * l + 1) a.same_level ∙ sym (ap (λ o. rank_at f o j) p.at_j)))
    | inr same ↦ ap (λ k. rank_at f (slice_get vs k) k) same
  ]

  pub graph_ranked : IsNumbered (nodes_by vs f (ranks_in vs f))
  graph_ranked = record { by_number = by_number; one_level = one_rank; one_place = one_place }
