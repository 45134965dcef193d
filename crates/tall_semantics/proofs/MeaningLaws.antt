-- What the solution of a list's equations says of each value: its shape and its outcome are those of what made it.
use Rattle.std.specs.Prelude.{◌≡◌, refl, ℕ, Option, None, Some, Result, Ok, Err, List, [], ◌∷◌, map, slice_get}
use Rattle.std.proofs.Common.{ap, sym, subst, ◌∙◌, inl, inr}
use Rattle.tall_value.specs.declared.class.Class.{Class}
use Rattle.tall_semantics.specs.Operations.{Op, stored, operation}
use Rattle.tall_semantics.specs.Faults.{At, Fault, least_fault}
use Rattle.tall_semantics.specs.Outcomes.{Outcome, fault_of}
use Rattle.tall_semantics.specs.Shapes.{Shape, ShapeRefusal, place_of, tree_over, shape}
use Rattle.tall_semantics.specs.Talls.{Tall, Columns, shapes, outcomes, unless, own_outcome, outcome, with_shape, tall, stored_tall, made_tall}
use Rattle.tall_semantics.specs.Least.{AtMost}
use Rattle.tall_semantics.specs.Deferred.{Vertex, IsMeaning, IsAmong, fault_in, least_in}
use Rattle.tall_semantics.proofs.OrderLaws.{at_most_itself}
use Rattle.tall_semantics.proofs.OriginLaws.{faults_of_values, tall_outcome, least_all, passed, AtMost_some, none_or_some}
use Rattle.tall_semantics.proofs.ShapeLaws.{shaped_is}

abbrev pub tall_ok : Tall → Result Tall ShapeRefusal
tall_ok t = Ok t

pub stored_is : (columns : Columns) (at : At) (s a : ℕ) (c : Class) (xs : List Tall) (t : Tall) → made_tall columns at (stored s a c) xs ≡ tall_ok t → stored_tall s a c (columns s a) ≡ t
stored_is columns at s a c [] t h = ap (λ r. elim r [ Ok u ↦ u | Err e ↦ t ]) h
stored_is columns at s a c (x ∷ xs) t h = absurd (cc)

shape_is : (x : Outcome) (r : Result Shape ShapeRefusal) (t : Tall) → with_shape x r ≡ tall_ok t → r ≡ Ok t.shape
shape_is x (Ok s) t h = ap Ok (ap (λ r. elim r [ Ok u ↦ u.shape | Err e ↦ s ]) h)
shape_is x (Err e) t h = absurd (cc)

pub tall_shape : (at : At) (op : Op) (xs : List Tall) (t : Tall) → tall at op xs ≡ tall_ok t → shape op (shapes xs) ≡ Ok t.shape
unfolding tall
tall_shape at op xs t h = shape_is (outcome at op xs) (shape op (shapes xs)) t h

pub unless_none : (c : Option Fault) (x : Outcome) → c ≡ None → fault_of (unless c x) ≡ fault_of x
unless_none None x h = refl
unless_none (Some f) x h = absurd (cc)

unless_is : (c : Option Fault) (x : Outcome) → c ≡ None → unless c x ≡ x
unless_is None x h = refl
unless_is (Some f) x h = absurd (cc)

module _ (columns : Columns) (vs : List Vertex) (f : ℕ → Tall) (meaning : IsMeaning columns vs f) where
  pub stored_value : (i : ℕ) (v : Vertex) (s a : ℕ) (c : Class) → slice_get vs i ≡ Some v → v.made ≡ stored s a c → stored_tall s a c (columns s a) ≡ f i
  stored_value i v s a c e q = stored_is columns v.at s a c (map f v.args) (f i) (subst (λ m. made_tall columns v.at m (map f v.args) ≡ tall_ok (f i)) q (meaning i v e))

  pub made_value : (i : ℕ) (v : Vertex) (op : Op) → slice_get vs i ≡ Some v → v.made ≡ operation op → tall v.at op (map f v.args) ≡ tall_ok (f i)
  made_value i v op e q = subst (λ m. made_tall columns v.at m (map f v.args) ≡ tall_ok (f i)) q (meaning i v e)

  pub no_fault : (args : List ℕ) → least_in f args ≡ None → least_fault (map fault_of (outcomes (map f args))) ≡ None
  no_fault args n = ap least_fault (faults_of_values f args) ∙ n

  -- the fault of an operation whose operands have none
  pub made_fault : (i : ℕ) (v : Vertex) (op : Op) → slice_get vs i ≡ Some v → v.made ≡ operation op → least_in f v.args ≡ None → fault_in f i ≡ fault_of (own_outcome v.at op (map f v.args))
  made_fault i v op e q n =
      ap fault_of (tall_outcome v.at op (map f v.args) (f i) (made_value i v op e q)) ∙ unless_none (least_fault (map fault_of (outcomes (map f v.args)))) (own_outcome v.at op (map f v.args)) (no_fault v.args n)

  -- where a value has no fault, no operand has one
  pub none_under : (i : ℕ) (v : Vertex) → slice_get vs i ≡ Some v → fault_in f i ≡ None → least_in f v.args ≡ None
  none_under i v e h = elim (none_or_some (least_in f v.args)) [
    | inl none ↦ none
    | inr some ↦ (let q : fault_in f i ≡ Some some.0 = passed columns v.at v.made f v.args (f i) some.0 (meaning i v e) some.1 in absurd (cc))
  ]

  pub none_at : (i a : ℕ) (v : Vertex) → slice_get vs i ≡ Some v → IsAmong v.args a → fault_in f i ≡ None → fault_in f a ≡ None
  none_at i a v e among h = elim (none_or_some (fault_in f a)) [
    | inl none ↦ none
    | inr some ↦
        let most : AtMost (least_in f v.args) some.0 = least_all (fault_in f) v.args a some.0 among (subst (λ c. AtMost c some.0) (sym some.1) (at_most_itself some.0)) in
        let w = AtMost_some (least_in f v.args) some.0 most in
        let n : least_in f v.args ≡ None = none_under i v e h in
        absurd (cc)
  ]

  -- an operation's outcome without a fault
  pub own_value : (i : ℕ) (v : Vertex) (op : Op) → slice_get vs i ≡ Some v → v.made ≡ operation op → fault_in f i ≡ None → (f i).outcome ≡ own_outcome v.at op (map f v.args)
  own_value i v op e q h =
      tall_outcome v.at op (map f v.args) (f i) (made_value i v op e q)
      ∙ unless_is (least_fault (map fault_of (outcomes (map f v.args)))) (own_outcome v.at op (map f v.args)) (ap least_fault (faults_of_values f v.args) ∙ none_under i v e h)

  -- the tree of an operation's value
  pub tree_value : (i : ℕ) (v : Vertex) (op : Op) → slice_get vs i ≡ Some v → v.made ≡ operation op → tree_over op (shapes (map f v.args)) ≡ (f i).shape.tree
  tree_value i v op e p =
      let w = shaped_is op (shapes (map f v.args)) (place_of op (shapes (map f v.args))) (f i).shape (tall_shape v.at op (map f v.args) (f i) (made_value i v op e p)) in
      ap (λ (s : Shape). s.tree) w.2
