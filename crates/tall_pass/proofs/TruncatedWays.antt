-- That nodes are of their ways is had from its truncation, since each part of it can be tested: a struct keeps no more of it.
use Rattle.std.specs.Prelude.{◌≡◌, ◌<◌, ◌==◌, refl, ℕ, Bool, true, Option, None, Some, Result, Ok, Err, List, [], ◌∷◌, length, slice_get}
use Rattle.std.proofs.Common.{ap, inl, inr, subst, sym, ◌∙◌}
use Rattle.std.proofs.Math.Logic.{∥∥₁_elim}
use Rattle.std.proofs.Props.{props}
use Rattle.std.specs.Bool.{Decides}
use Rattle.tall_value.specs.declared.class.Class.{Class}
use Rattle.tall_value.specs.declared.faults.ClassFault.{ClassFault}
use Rattle.tall_value.specs.declared.functions.Scan.{Scan}
use Rattle.tall_semantics.specs.Deferred.{Vertex}
use Rattle.tall_semantics.specs.Equality.{class_place, part_place, same_op, same_space}
use Rattle.tall_semantics.specs.Operations.{Op, scan, group, Made, stored, operation}
use Rattle.tall_semantics.specs.ShapesInOrder.{shape_at}
use Rattle.tall_semantics.proofs.EqualityLaws.{ops_decided, spaces_decided}
use Rattle.tall_semantics.proofs.VariantLaws.{class_is, same_number}
use Rattle.tall_part.specs.Operations.{IsTaken, op_of}
use Rattle.tall_part.specs.declared.operation.EndOperation.{EndOperation}
use Rattle.tall_part.specs.declared.operation.EndOperation.TheVariants as end
use Rattle.tall_part.proofs.OperationLaws.{column_again}
use Rattle.tall_piece.specs.declared.wanted.Wanted.{Wanted}
use Rattle.tall_piece.specs.declared.wanted.Way.{Way}
use Rattle.tall_piece.specs.declared.wanted.Way.TheVariants as way
use Rattle.tall_piece.specs.Joins.{AreWays}
use Rattle.tall_piece.specs.Wants.{AreOperands, HasTwo, IsOfWay, class_at}

-- ---- from a truncation

mapped : {A B : Type 0} → (A → B) → ∥ A ∥₁ → ∥ B ∥₁
mapped f t = ∥∥₁_elim t squash₁ (λ a. ∣ f a ∣₁)

none : {A B : Type 0} → (A → ⊥) → ∥ A ∥₁ → B
none {A} {B} f t =
    let p : IsProp ⊥ = hlevel props in
    absurd (∥∥₁_elim t p f)

tested : {A : Type 0} (b : Bool) → Decides b A → ∥ A ∥₁ → A
tested b d t =
    let p : IsProp (b ≡ true) = hlevel props in
    d.0 (∥∥₁_elim t p d.1)

-- ---- equations

equal_numbers : (m n : ℕ) → ∥ m ≡ n ∥₁ → m ≡ n
equal_numbers m n t =
    let p : IsProp (m ≡ n) = hlevel props in
    ∥∥₁_elim t p (λ e. e)

equal_ops : (m : Made) (f : Op) → ∥ m ≡ operation f ∥₁ → m ≡ operation f
equal_ops (stored s v c) f t = none (differ s v c f) t
  where
    differ : (s v : ℕ) (c : Class) (f : Op) → stored s v c ≡ operation f → ⊥
    differ s v c f e = cc
equal_ops (operation g) f t = ap operation (tested (same_op g f) (ops_decided g f) (mapped (inner g f) t))
  where
    inner : (g f : Op) → operation g ≡ operation f → g ≡ f
    inner g f e = cc

abbrev a_class : Class → Result Class ClassFault
a_class c = Ok c

equal_class : (r : Result Class ClassFault) (c : Class) → ∥ r ≡ a_class c ∥₁ → r ≡ a_class c
equal_class (Err e) c t = none (differ e c) t
  where
    differ : (e : ClassFault) (c : Class) → Err e ≡ a_class c → ⊥
    differ e c h = cc
equal_class (Ok d) c t = ap a_class (tested (class_place d == class_place c) (class_is d c, same d c) (mapped (inner d c) t))
  where
    inner : (d c : Class) → a_class d ≡ a_class c → d ≡ c
    inner d c h = cc

    same : (d c : Class) → d ≡ c → (class_place d == class_place c) ≡ true
    same d c e = subst (λ x. (class_place d == class_place x) ≡ true) e (same_number (class_place d))

alone : (args : List ℕ) (a : ℕ) → ∥ args ≡ a ∷ [] ∥₁ → args ≡ a ∷ []
alone [] a t = none (differ a) t
  where
    differ : (a : ℕ) → [] ≡ a ∷ [] → ⊥
    differ a e = cc
alone (x ∷ []) a t = ap (λ y. y ∷ []) (equal_numbers x a (mapped (inner x a) t))
  where
    inner : (x a : ℕ) → x ∷ [] ≡ a ∷ [] → x ≡ a
    inner x a e = cc
alone (x ∷ y ∷ args) a t = none (differ x y args a) t
  where
    differ : (x y : ℕ) (args : List ℕ) (a : ℕ) → x ∷ y ∷ args ≡ a ∷ [] → ⊥
    differ x y args a e = cc

-- ---- an operation at the end

has_two : (e : EndOperation) → ∥ HasTwo e ∥₁ → HasTwo e
has_two (end.Reduce r) t = none (λ h. h) t
has_two (end.Head k) t = none (λ h. h) t
has_two (end.Tail k) t = none (λ h. h) t
has_two end.Distinct t = none (λ h. h) t
has_two (end.Group m) t = tt

-- by the number of operands one of the two cases is left
are_operands : (e : EndOperation) (args : List ℕ) (a b : ℕ) → ∥ AreOperands e args a b ∥₁ → AreOperands e args a b
are_operands e [] a b t = none differ t
  where
    differ : AreOperands e [] a b → ⊥
    differ (inl h) = nothing a h.0
      where
        nothing : (a : ℕ) → [] ≡ a ∷ [] → ⊥
        nothing a e = cc
    differ (inr h) = nothing a b h.1
      where
        nothing : (a b : ℕ) → [] ≡ a ∷ b ∷ [] → ⊥
        nothing a b e = cc
are_operands e (x ∷ []) a b t = inl (ap (λ y. y ∷ []) (equal_numbers x a (mapped first t)), equal_numbers b a (mapped last t))
  where
    same : (x a : ℕ) → x ∷ [] ≡ a ∷ [] → x ≡ a
    same x a e = cc

    short : (x a b : ℕ) → x ∷ [] ≡ a ∷ b ∷ [] → ⊥
    short x a b e = cc

    first : AreOperands e (x ∷ []) a b → x ≡ a
    first (inl h) = same x a h.0
    first (inr h) = absurd (short x a b h.1)

    last : AreOperands e (x ∷ []) a b → b ≡ a
    last (inl h) = h.1
    last (inr h) = absurd (short x a b h.1)
are_operands e (x ∷ y ∷ []) a b t = inr (has_two e (mapped two t), ap (λ z. z ∷ y ∷ []) (equal_numbers x a (mapped first t)) ∙ ap (λ z. a ∷ z ∷ []) (equal_numbers y b (mapped last t)))
  where
    long : (x y a : ℕ) → x ∷ y ∷ [] ≡ a ∷ [] → ⊥
    long x y a e = cc

    one : (x y a b : ℕ) → x ∷ y ∷ [] ≡ a ∷ b ∷ [] → x ≡ a
    one x y a b e = cc

    other : (x y a b : ℕ) → x ∷ y ∷ [] ≡ a ∷ b ∷ [] → y ≡ b
    other x y a b e = cc

    two : AreOperands e (x ∷ y ∷ []) a b → HasTwo e
    two (inl h) = absurd (long x y a h.0)
    two (inr h) = h.0

    first : AreOperands e (x ∷ y ∷ []) a b → x ≡ a
    first (inl h) = absurd (long x y a h.0)
    first (inr h) = one x y a b h.1

    last : AreOperands e (x ∷ y ∷ []) a b → y ≡ b
    last (inl h) = absurd (long x y a h.0)
    last (inr h) = other x y a b h.1
are_operands e (x ∷ y ∷ z ∷ args) a b t = none differ t
  where
    more : (x y z : ℕ) (args : List ℕ) (a : ℕ) → x ∷ y ∷ z ∷ args ≡ a ∷ [] → ⊥
    more x y z args a e = cc

    most : (x y z : ℕ) (args : List ℕ) (a b : ℕ) → x ∷ y ∷ z ∷ args ≡ a ∷ b ∷ [] → ⊥
    most x y z args a b e = cc

    differ : AreOperands e (x ∷ y ∷ z ∷ args) a b → ⊥
    differ (inl h) = more x y z args a h.0
    differ (inr h) = most x y z args a b h.1

is_taken : (e : EndOperation) (c d : Class) → ∥ IsTaken e c d ∥₁ → IsTaken e c d
is_taken (end.Reduce r) c d t =
    let p : IsProp (IsTaken (end.Reduce r) c d) = hlevel props in
    ∥∥₁_elim t p (λ h. h)
is_taken (end.Head k) c d t = tt
is_taken (end.Tail k) c d t = tt
is_taken end.Distinct c d t = tt
is_taken (end.Group m) c d t =
    let p : IsProp (IsTaken (end.Group m) c d) = hlevel props in
    ∥∥₁_elim t p (λ h. h)

-- a number of the operation's columns that tells the one at hand
abbrev column_of : Op → ℕ
column_of (group m part) = part_place part
column_of op = 0

of_column : (e : EndOperation) (n : ℕ) → operation (op_of e n) ≡ operation (op_of e (column_of (op_of e n)))
of_column (end.Reduce r) n = refl
of_column (end.Head k) n = refl
of_column (end.Tail k) n = refl
of_column end.Distinct n = refl
of_column (end.Group m) n = column_again m n

abbrev column_in : Made → ℕ
column_in (stored s v c) = 0
column_in (operation f) = column_of f

made_again : (e : EndOperation) (n : ℕ) (m : Made) → m ≡ operation (op_of e n) → m ≡ operation (op_of e (column_in m))
made_again e n m h = subst (λ x. x ≡ operation (op_of e (column_in x))) (sym h) (of_column e n)

-- ---- a node

same_vertex : (o : Option Vertex) (v w : Vertex) → o ≡ Some v → o ≡ Some w → w ≡ v
same_vertex o v w h e = inner v w (sym h ∙ e)
  where
    inner : (v w : Vertex) → Some v ≡ Some w → w ≡ v
    inner v w e = cc

none_there : (o : Option Vertex) (v : Vertex) → o ≡ None → o ≡ Some v → ⊥
none_there o v h e = differ v (sym h ∙ e)
  where
    differ : (v : Vertex) → None ≡ Some v → ⊥
    differ v e = cc

module _ (vs : List Vertex) (i : ℕ) where
  end_way : (e : EndOperation) (a b : ℕ) (o : Option Vertex) → slice_get vs i ≡ o → ∥ IsOfWay vs i (way.End e a b) ∥₁ → IsOfWay vs i (way.End e a b)
  end_way e a b None h t = none (λ w. none_there (slice_get vs i) w.0 h w.2) t
  end_way e a b (Some v) h t =
      let below : IsProp (a < length vs) = hlevel props in
      let last : IsProp (b < length vs) = hlevel props in (
        v,
        column_in v.made,
        h,
        equal_ops v.made (op_of e (column_in v.made)) (mapped (λ w. made_again e w.1 v.made (ap (λ (x : Vertex). x.made) (sym (same_vertex (slice_get vs i) v w.0 h w.2)) ∙ w.3)) t),
        are_operands e v.args a b (mapped (λ w. subst (λ (x : Vertex). AreOperands e x.args a b) (same_vertex (slice_get vs i) v w.0 h w.2) w.4) t),
        is_taken e (class_at vs a) (class_at vs b) (mapped (λ w. w.5) t),
        ∥∥₁_elim t below (λ w. w.6),
        ∥∥₁_elim t last (λ w. w.7),
        tested (same_space (shape_at vs a).space (shape_at vs b).space) (spaces_decided (shape_at vs a).space (shape_at vs b).space) (mapped (λ w. w.8) t),
      )

  carries_way : (s : Scan) (a : ℕ) (o : Option Vertex) → slice_get vs i ≡ o → ∥ IsOfWay vs i (way.Carries s a) ∥₁ → IsOfWay vs i (way.Carries s a)
  carries_way s a None h t = none (λ w. none_there (slice_get vs i) w.0 h w.1) t
  carries_way s a (Some v) h t =
      let below : IsProp (a < length vs) = hlevel props in (
        v,
        h,
        equal_ops v.made (scan s) (mapped (λ w. ap (λ (x : Vertex). x.made) (sym (same_vertex (slice_get vs i) v w.0 h w.1)) ∙ w.2) t),
        alone v.args a (mapped (λ w. ap (λ (x : Vertex). x.args) (sym (same_vertex (slice_get vs i) v w.0 h w.1)) ∙ w.3) t),
        equal_class _ (class_at vs i) (mapped (λ w. w.4) t),
        ∥∥₁_elim t below (λ w. w.5),
      )

  rows_way : (o : Option Vertex) → slice_get vs i ≡ o → ∥ IsOfWay vs i way.Rows ∥₁ → IsOfWay vs i way.Rows
  rows_way None h t = none (λ w. none_there (slice_get vs i) w.0 h w.1) t
  rows_way (Some v) h t = (v, h)

  of_way : (y : Way) → ∥ IsOfWay vs i y ∥₁ → IsOfWay vs i y
  of_way (way.End e a b) t = end_way e a b (slice_get vs i) refl t
  of_way (way.Carries s a) t = carries_way s a (slice_get vs i) refl t
  of_way way.Rows t = rows_way (slice_get vs i) refl t

pub are_ways : (vs : List Vertex) (ws : List Wanted) → ∥ AreWays vs ws ∥₁ → AreWays vs ws
are_ways vs [] t = tt
are_ways vs (w ∷ ws) t =
    let there : IsProp (w.node < length vs) = hlevel props in
    ((∥∥₁_elim t there (λ h. h.0.0), of_way vs w.node w.way (mapped (λ h. h.0.1) t)), are_ways vs ws (mapped (λ h. h.1) t))
