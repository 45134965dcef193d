-- A value's fault is the least of the own faults under it.
use Rattle.std.specs.Prelude.{◌≡◌, refl, ℕ, zero, suc, ◌<◌, ◌⊎◌, Option, None, Some, Result, Ok, Err, List, [], ◌∷◌, map, slice_get}
use Rattle.std.proofs.Common.{ap, sym, subst, ◌∙◌, arith, inl, inr}
use Rattle.tall_semantics.specs.Operations.{Op, Made, stored, operation}
use Rattle.tall_semantics.specs.Faults.{At, Fault, least_fault}
use Rattle.tall_semantics.specs.Outcomes.{Outcome, fault_of}
use Rattle.tall_semantics.specs.Shapes.{Shape, ShapeRefusal, shape}
use Rattle.tall_semantics.specs.Talls.{Tall, Columns, shapes, outcomes, unless, own_outcome, outcome, with_shape, tall, made_tall}
use Rattle.tall_semantics.specs.Least.{AtMost, IsLeast}
use Rattle.tall_semantics.specs.Deferred.{Vertex, IsMeaning, AllBelow, IsOrdered, IsAmong, DependsOn, itself, through, Under, fault_in, least_in, own_fault, own_at, own_in}
use Rattle.tall_semantics.proofs.OrderLaws.{at_most_itself, at_most_left, at_most_right, one_of_two}

-- ---- the least of a list

pub least_one : (g : ℕ → Option Fault) (args : List ℕ) (x : Fault) → least_fault (map g args) ≡ Some x → (a : ℕ) × IsAmong args a × (g a ≡ Some x)
least_one g [] x h = absurd (cc)
least_one g (a ∷ args) x h = elim (one_of_two (g a) (least_fault (map g args)) x h) [
  | inl e ↦ (a, inl refl, e)
  | inr e ↦ (let w = least_one g args x e in (w.0, inr w.1, w.2))
]

pub least_all : (g : ℕ → Option Fault) (args : List ℕ) (a : ℕ) (y : Fault) → IsAmong args a → AtMost (g a) y → AtMost (least_fault (map g args)) y
least_all g [] a y h e = absurd h
least_all g (b ∷ args) a y h e = elim h [
  | inl q ↦ at_most_left (g b) (least_fault (map g args)) y (subst (λ c. AtMost (g c) y) (sym q) e)
  | inr r ↦ at_most_right (g b) (least_fault (map g args)) y (least_all g args a y r e)
]

-- ---- what an operation passes on

pub faults_of_values : (f : ℕ → Tall) (args : List ℕ) → map fault_of (outcomes (map f args)) ≡ map (fault_in f) args
faults_of_values f [] = refl
faults_of_values f (a ∷ args) = ap (λ xs. fault_in f a ∷ xs) (faults_of_values f args)

unless_some : (c : Option Fault) (y : Fault) (x : Outcome) → c ≡ Some y → fault_of (unless c x) ≡ Some y
unless_some None y x h = absurd (cc)
unless_some (Some z) y x h = h

-- the outcome of an accepted operation
outcome_is : (x : Outcome) (s : Result Shape ShapeRefusal) (t : Tall) → with_shape x s ≡ Ok t → t.outcome ≡ x
outcome_is x (Ok s) t h = sym (ap (λ r. elim r [ Ok v ↦ v.outcome | Err e ↦ x ]) h)
outcome_is x (Err e) t h = absurd (cc)

pub tall_outcome : (at : At) (op : Op) (xs : List Tall) (t : Tall) → tall at op xs ≡ Ok t → t.outcome ≡ outcome at op xs
unfolding tall
tall_outcome at op xs t h = outcome_is (outcome at op xs) (shape op (shapes xs)) t h

pub passed : (columns : Columns) (at : At) (made : Made) (f : ℕ → Tall) (args : List ℕ) (t : Tall) (y : Fault) → made_tall columns at made (map f args) ≡ Ok t → least_in f args ≡ Some y → fault_of t.outcome ≡ Some y
passed columns at (stored s v c) f [] t y h e = absurd (cc)
passed columns at (stored s v c) f (a ∷ args) t y h e = absurd (cc)
passed columns at (operation op) f args t y h e =
    ap fault_of (tall_outcome at op (map f args) t h) ∙ unless_some (least_fault (map fault_of (outcomes (map f args)))) y (own_outcome at op (map f args)) (ap least_fault (faults_of_values f args) ∙ e)

-- ---- own faults

pub own_is : (c x : Option Fault) (y : Fault) → own_fault c x ≡ Some y → (c ≡ None) × (x ≡ Some y)
own_is None x y h = (refl, h)
own_is (Some z) x y h = absurd (cc)

own_at_is : (f : ℕ → Tall) (v : Option Vertex) (i : ℕ) (y : Fault) → own_at f v i ≡ Some y → fault_in f i ≡ Some y
own_at_is f None i y h = absurd (cc)
own_at_is f (Some v) i y h = (own_is (least_in f v.args) (fault_in f i) y h).1

pub none_or_some : (c : Option Fault) → (c ≡ None) ⊎ ((y : Fault) × (c ≡ Some y))
none_or_some None = inl refl
none_or_some (Some y) = inr (y, refl)

none_below : (vs : List Vertex) (f : ℕ → Tall) (i : ℕ) (v : Vertex) → slice_get vs i ≡ Some v → least_in f v.args ≡ None → own_in vs f i ≡ fault_in f i
none_below vs f i v e n = ap (λ w. own_at f w i) e ∙ ap (λ c. own_fault c (fault_in f i)) n

pub AtMost_some : (c : Option Fault) (y : Fault) → AtMost c y → (x : Fault) × (c ≡ Some x)
AtMost_some None y h = absurd h
AtMost_some (Some x) y h = (x, refl)

pub below_among : (n : ℕ) (args : List ℕ) (a : ℕ) → AllBelow n args → IsAmong args a → a < n
below_among n [] a b h = absurd h
below_among n (c ∷ args) a b h = elim h [ inl q ↦ subst (λ c. c < n) q b.0 | inr r ↦ below_among n args a b.1 r ]

pub get_before : {A : Type 0} (vs : List A) (i a : ℕ) (v : A) → slice_get vs i ≡ Some v → a < i → (w : A) × (slice_get vs a ≡ Some w)
get_before [] i a v e l = absurd (cc)
get_before (x ∷ vs) zero a v e l = absurd (omega (arith, l))
get_before (x ∷ vs) (suc i) zero v e l = (x, refl)
get_before (x ∷ vs) (suc i) (suc a) v e l = get_before vs i a v e (omega (arith, l))

module _ (columns : Columns) (vs : List Vertex) (f : ℕ → Tall) (meaning : IsMeaning columns vs f) (ordered : IsOrdered vs) where
  -- an own fault under a value is not before the value's
  pub origin_least : (i j : ℕ) (y : Fault) → DependsOn vs i j → own_in vs f j ≡ Some y → AtMost (fault_in f i) y
  origin_least i j y (itself k) h = subst (λ c. AtMost c y) (sym (own_at_is f (slice_get vs k) k y h)) (at_most_itself y)
  origin_least i j y (through k a l v e among d) h =
      let under : AtMost (fault_in f a) y = origin_least a l y d h in
      let all : AtMost (least_in f v.args) y = least_all (fault_in f) v.args a y among under in
      let w : (x : Fault) × (least_in f v.args ≡ Some x) = AtMost_some (least_in f v.args) y all in
      let q : fault_in f k ≡ Some w.0 = passed columns v.at v.made f v.args (f k) w.0 (meaning k v e) w.1 in
      subst (λ c. AtMost c y) (w.1 ∙ sym q) all

  -- and a value's fault is an own fault of one under it
  pub origin_one : (n i : ℕ) (v : Vertex) (x : Fault) → i < n → slice_get vs i ≡ Some v → fault_in f i ≡ Some x → (j : ℕ) × DependsOn vs i j × (own_in vs f j ≡ Some x)
  origin_one zero i v x l e h = absurd (omega (arith, l))
  origin_one (suc n) i v x l e h = elim (none_or_some (least_in f v.args)) [
    | inl none ↦ (i, itself i, none_below vs f i v e none ∙ h)
    | inr some ↦
        let q : fault_in f i ≡ Some some.0 = passed columns v.at v.made f v.args (f i) some.0 (meaning i v e) some.1 in
        let w = least_one (fault_in f) v.args x (some.1 ∙ (sym q ∙ h)) in
        let less : w.0 < i = below_among i v.args w.0 (ordered i v e) w.1 in
        let b = get_before vs i w.0 v e less in
        let r = origin_one n w.0 b.0 x (omega (arith, l, less)) b.1 w.2 in
        (r.0, through i w.0 r.0 v e w.1 r.1, r.2)
  ]

  pub value_least : (i : ℕ) (v : Vertex) → slice_get vs i ≡ Some v → IsLeast (own_in vs f) (DependsOn vs i) (fault_in f i)
  value_least i v e = record {
    one = λ x h. origin_one (suc i) i v x (omega (arith)) e h;
    least = λ j y d h. origin_least i j y d h;
  }

  pub roots_least : (roots : List ℕ) → ((r : ℕ) → IsAmong roots r → (v : Vertex) × (slice_get vs r ≡ Some v)) → IsLeast (own_in vs f) (Under vs roots) (least_in f roots)
  roots_least roots there = record {
    one = λ x h.
        let w = least_one (fault_in f) roots x h in
        let b = there w.0 w.1 in
        let r = origin_one (suc w.0) w.0 b.0 x (omega (arith)) b.1 w.2 in
        (r.0, (w.0, w.1, r.1), r.2);
    least = λ j y d h. least_all (fault_in f) roots d.0 y d.1 (origin_least d.0 j y d.2 h);
  }
