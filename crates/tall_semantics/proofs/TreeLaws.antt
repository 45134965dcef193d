-- Values with equal trees have equal classes, spaces and chains, and where neither has a fault they are equal.
use Rattle.std.specs.Prelude.{◌≡◌, refl, ℕ, zero, suc, ◌<◌, None, Some, Ok, Err, List, [], ◌∷◌, map, slice_get}
use Rattle.std.proofs.Common.{ap, sym, ◌∙◌, arith, inl, inr}
use Rattle.tall_value.specs.declared.class.Class.{Class}
use Rattle.tall_semantics.specs.Operations.{Op, constant, unary, binary, filter, reduce, scan, head, tail, distinct, group, Made, stored, operation, Tree, column, leaf, one, two}
use Rattle.tall_semantics.specs.Spaces.{Space}
use Rattle.tall_semantics.specs.Outcomes.{Outcome, fault_of}
use Rattle.tall_semantics.specs.Shapes.{Shape, place_of, tree_over, shape}
use Rattle.tall_semantics.specs.Talls.{Tall, Columns, shapes, own_outcome, stored_tall}
use Rattle.tall_semantics.specs.Deferred.{Vertex, IsMeaning, IsOrdered, IsAmong, fault_in}
use Rattle.tall_semantics.proofs.OriginLaws.{get_before, below_among}
use Rattle.tall_semantics.proofs.MeaningLaws.{stored_value, made_value, tall_shape, none_at, own_value, tree_value}
use Rattle.tall_semantics.proofs.FaultLaws.{same_own}
use Rattle.tall_semantics.proofs.ShapeLaws.{shape_ok, place_ok, refused, shaped_is}

pub same_tall : (x y : Tall) → x.shape ≡ y.shape → x.outcome ≡ y.outcome → x ≡ y
same_tall x y s o = ap (λ (t : Shape). record { shape = t; outcome = x.outcome }) s ∙ ap (λ (u : Outcome). record { shape = y.shape; outcome = u }) o

shape_inside : (s t : Shape) → shape_ok s ≡ shape_ok t → s ≡ t
shape_inside s t h = ap (λ r. elim r [ Ok u ↦ u | Err e ↦ s ]) h

-- ---- what a tree tells

op_in : Op → Tree → Op
op_in d (column s v c) = d
op_in d (leaf op) = op
op_in d (one op x) = op
op_in d (two op x y) = op

first_in : Tree → Tree
first_in (column s v c) = column s v c
first_in (leaf op) = leaf op
first_in (one op x) = x
first_in (two op x y) = x

second_in : Tree → Tree
second_in (column s v c) = column s v c
second_in (leaf op) = leaf op
second_in (one op x) = x
second_in (two op x y) = y

pub not_column : (op : Op) (xs : List Shape) (s v : ℕ) (c : Class) → tree_over op xs ≡ column s v c → ⊥
not_column op [] s v c h = cc
not_column op (x ∷ []) s v c h = cc
not_column op (x ∷ y ∷ xs) s v c h = cc

-- no operation has more than two operands
pub two_at_most : (op : Op) (x y z : Shape) (xs : List Shape) (p : Class × Space) → place_of op (x ∷ y ∷ z ∷ xs) ≡ place_ok p → ⊥
two_at_most (constant c) x y z xs p h = refused p h
two_at_most (binary op) x y z xs p h = refused p h
two_at_most (unary op) x y z xs p h = refused p h
two_at_most filter x y z xs p h = refused p h
two_at_most (reduce r) x y z xs p h = refused p h
two_at_most (scan r) x y z xs p h = refused p h
two_at_most (head k) x y z xs p h = refused p h
two_at_most (tail k) x y z xs p h = refused p h
two_at_most distinct x y z xs p h = refused p h
two_at_most (group m part) x y z xs p h = refused p h

module _ (columns : Columns) (vs : List Vertex) (f : ℕ → Tall) (meaning : IsMeaning columns vs f) (ordered : IsOrdered vs) where
  record Same (i j : ℕ) : Type 0 where
    shapes_are : (f i).shape ≡ (f j).shape
    values_are : fault_in f i ≡ None → fault_in f j ≡ None → f i ≡ f j

  same_value : (i j : ℕ) → f i ≡ f j → Same i j
  same_value i j e = record { shapes_are = ap (λ (t : Tall). t.shape) e; values_are = λ g h. e }

  -- one operation over operands that are alike
  conclude : (i j : ℕ) (v w : Vertex) (op : Op) → slice_get vs i ≡ Some v → slice_get vs j ≡ Some w → v.made ≡ operation op → w.made ≡ operation op
      → shapes (map f v.args) ≡ shapes (map f w.args) → (fault_in f i ≡ None → fault_in f j ≡ None → map f v.args ≡ map f w.args) → Same i j
  conclude i j v w op e g p q s m =
      let shape_i : shape op (shapes (map f v.args)) ≡ shape_ok (f i).shape = tall_shape v.at op (map f v.args) (f i) (made_value columns vs f meaning i v op e p) in
      let shape_j : shape op (shapes (map f w.args)) ≡ shape_ok (f j).shape = tall_shape w.at op (map f w.args) (f j) (made_value columns vs f meaning j w op g q) in
      let same : (f i).shape ≡ (f j).shape = shape_inside (f i).shape (f j).shape (sym shape_i ∙ (ap (shape op) s ∙ shape_j)) in
      record {
        shapes_are = same;
        values_are = λ x y.
            let a : (f i).outcome ≡ own_outcome v.at op (map f v.args) = own_value columns vs f meaning i v op e p x in
            let b : (f j).outcome ≡ own_outcome w.at op (map f w.args) = own_value columns vs f meaning j w op g q y in
            let c : own_outcome v.at op (map f v.args) ≡ own_outcome w.at op (map f v.args) = same_own v.at w.at op (map f v.args) (ap fault_of (sym a) ∙ x) in
            same_tall (f i) (f j) same (a ∙ (c ∙ (ap (own_outcome w.at op) (m x y) ∙ sym b)));
      }

  -- ---- operands

  NoFaults : List ℕ → Type 0
  NoFaults args = (a : ℕ) → IsAmong args a → fault_in f a ≡ None

  record Alike (op other : Op) (args others : List ℕ) : Type 0 where
    op_is : op ≡ other
    shapes_are : shapes (map f args) ≡ shapes (map f others)
    values_are : NoFaults args → NoFaults others → map f args ≡ map f others

  IsAccepted : Op → List ℕ → Type 0
  IsAccepted op args = (p : Class × Space) × (place_of op (shapes (map f args)) ≡ place_ok p)

  alike : (op other : Op) (args others : List ℕ) → IsAccepted op args → IsAccepted other others
      → ((a b : ℕ) → IsAmong args a → IsAmong others b → (f a).shape.tree ≡ (f b).shape.tree → Same a b)
      → tree_over op (shapes (map f args)) ≡ tree_over other (shapes (map f others)) → Alike op other args others
  unfolding op_in first_in second_in NoFaults IsAccepted
  alike op other [] [] h g same t = record { op_is = ap (op_in op) t; shapes_are = refl; values_are = λ m n. refl }
  alike op other [] (b ∷ []) h g same t = absurd (cc)
  alike op other [] (b ∷ d ∷ ds) h g same t = absurd (cc)
  alike op other (a ∷ []) [] h g same t = absurd (cc)
  alike op other (a ∷ []) (b ∷ []) h g same t =
      let s = same a b (inl refl) (inl refl) (ap first_in t) in
      record {
        op_is = ap (op_in op) t;
        shapes_are = ap (λ (x : Shape). x ∷ []) s.shapes_are;
        values_are = λ m n. ap (λ (x : Tall). x ∷ []) (s.values_are (m a (inl refl)) (n b (inl refl)));
      }
  alike op other (a ∷ []) (b ∷ d ∷ ds) h g same t = absurd (cc)
  alike op other (a ∷ c ∷ []) [] h g same t = absurd (cc)
  alike op other (a ∷ c ∷ []) (b ∷ []) h g same t = absurd (cc)
  alike op other (a ∷ c ∷ []) (b ∷ d ∷ []) h g same t =
      let s = same a b (inl refl) (inl refl) (ap first_in t) in
      let r = same c d (inr (inl refl)) (inr (inl refl)) (ap second_in t) in
      record {
        op_is = ap (op_in op) t;
        shapes_are = ap (λ (x : Shape). x ∷ (f c).shape ∷ []) s.shapes_are ∙ ap (λ (x : Shape). (f b).shape ∷ x ∷ []) r.shapes_are;
        values_are = λ m n.
            ap (λ (x : Tall). x ∷ f c ∷ []) (s.values_are (m a (inl refl)) (n b (inl refl)))
            ∙ ap (λ (x : Tall). f b ∷ x ∷ []) (r.values_are (m c (inr (inl refl))) (n d (inr (inl refl))));
      }
  alike op other (a ∷ c ∷ []) (b ∷ d ∷ e ∷ ds) h g same t = absurd (two_at_most other (f b).shape (f d).shape (f e).shape (shapes (map f ds)) g.0 g.1)
  alike op other (a ∷ c ∷ e ∷ cs) others h g same t = absurd (two_at_most op (f a).shape (f c).shape (f e).shape (shapes (map f cs)) h.0 h.1)

  accepted_at : (i : ℕ) (v : Vertex) (op : Op) → slice_get vs i ≡ Some v → v.made ≡ operation op → IsAccepted op v.args
  unfolding IsAccepted
  accepted_at i v op e p =
      let w = shaped_is op (shapes (map f v.args)) (place_of op (shapes (map f v.args))) (f i).shape (tall_shape v.at op (map f v.args) (f i) (made_value columns vs f meaning i v op e p)) in
      (w.0, w.1)

  -- ---- vertices

  value_in : Tall → Tree → Tall
  value_in t (column s v c) = stored_tall s v c (columns s v)
  value_in t tree = t

  by_made : (i j : ℕ) (v w : Vertex) (m n : Made) → slice_get vs i ≡ Some v → slice_get vs j ≡ Some w → v.made ≡ m → w.made ≡ n
      → ((a b : ℕ) → IsAmong v.args a → IsAmong w.args b → (f a).shape.tree ≡ (f b).shape.tree → Same a b)
      → (f i).shape.tree ≡ (f j).shape.tree → Same i j
  unfolding value_in NoFaults
  by_made i j v w (stored s a c) (stored u b d) e g p q same t =
      let x = stored_value columns vs f meaning i v s a c e p in
      let y = stored_value columns vs f meaning j w u b d g q in
      let tree : column s a c ≡ column u b d = ap (λ (z : Tall). z.shape.tree) x ∙ (t ∙ sym (ap (λ (z : Tall). z.shape.tree) y)) in
      same_value i j (sym x ∙ (ap (value_in (f i)) tree ∙ y))
  by_made i j v w (stored s a c) (operation op) e g p q same t =
      absurd (not_column op (shapes (map f w.args)) s a c (tree_value columns vs f meaning j w op g q ∙ (sym t ∙ sym (ap (λ (z : Tall). z.shape.tree) (stored_value columns vs f meaning i v s a c e p)))))
  by_made i j v w (operation op) (stored u b d) e g p q same t =
      absurd (not_column op (shapes (map f v.args)) u b d (tree_value columns vs f meaning i v op e p ∙ (t ∙ sym (ap (λ (z : Tall). z.shape.tree) (stored_value columns vs f meaning j w u b d g q)))))
  by_made i j v w (operation op) (operation other) e g p q same t =
      let a = alike op other v.args w.args (accepted_at i v op e p) (accepted_at j w other g q) same (tree_value columns vs f meaning i v op e p ∙ (t ∙ sym (tree_value columns vs f meaning j w other g q))) in
      conclude i j v w op e g p (q ∙ ap operation (sym a.op_is)) a.shapes_are (λ x y. a.values_are (λ k h. none_at columns vs f meaning i k v e h x) (λ k h. none_at columns vs f meaning j k w g h y))

  by_bound : (n i j : ℕ) (v w : Vertex) → i < n → slice_get vs i ≡ Some v → slice_get vs j ≡ Some w → (f i).shape.tree ≡ (f j).shape.tree → Same i j
  by_bound zero i j v w l e g t = absurd (omega (arith, l))
  by_bound (suc n) i j v w l e g t =
      by_made i j v w v.made w.made e g refl refl
      (λ a b x y h.
      let m : a < i = below_among i v.args a (ordered i v e) x in
      let r = get_before vs i a v e m in
      let s = get_before vs j b w g (below_among j w.args b (ordered j w g) y) in
      by_bound n a b r.0 s.0 (omega (arith, l, m)) r.1 s.1 h)
      t

  pub one_shape : (i j : ℕ) (v w : Vertex) → slice_get vs i ≡ Some v → slice_get vs j ≡ Some w → (f i).shape.tree ≡ (f j).shape.tree → (f i).shape ≡ (f j).shape
  one_shape i j v w e g t = (by_bound (suc i) i j v w (omega (arith)) e g t).shapes_are

  pub one_value : (i j : ℕ) (v w : Vertex) → slice_get vs i ≡ Some v → slice_get vs j ≡ Some w → (f i).shape.tree ≡ (f j).shape.tree → fault_in f i ≡ None → fault_in f j ≡ None → f i ≡ f j
  one_value i j v w e g t = (by_bound (suc i) i j v w (omega (arith)) e g t).values_are
