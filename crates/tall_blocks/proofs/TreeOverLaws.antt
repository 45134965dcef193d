-- Over a block values with equal trees are equal, where neither has a fault, and behind it scans with equal trees have equal
-- cells before the next block.
use Rattle.std.specs.Prelude.{◌≡◌, refl, ℕ, zero, suc, ◌<◌, Bool, true, false, None, Some, List, [], ◌∷◌, ◌++◌, map, slice_get}
use Rattle.std.proofs.Common.{ap, sym, subst, ◌∙◌, arith, inl, inr}
use Rattle.tall_value.specs.declared.class.Class.{Class}
use Rattle.tall_value.specs.Cells.{Seen}
use Rattle.tall_value.specs.Columns.{cells}
use Rattle.tall_value.specs.Classes.{kind_of}
use Rattle.tall_semantics.specs.Operations.{Op, constant, unary, binary, filter, reduce, scan, head, tail, distinct, group, Made, stored, operation, Tree, column, leaf, one, two}
use Rattle.tall_semantics.specs.Spaces.{Space, is_single}
use Rattle.tall_semantics.specs.Faults.{At, Fault, least_fault}
use Rattle.tall_semantics.specs.Outcomes.{Outcome, rows, scalar, fault, fault_of, rows_in, cells_in}
use Rattle.tall_semantics.specs.RowsOfSpaces.{numbers_in}
use Rattle.tall_semantics.specs.Shapes.{Shape, place_of, tree_over}
use Rattle.tall_semantics.specs.Talls.{Tall, Columns, shapes, outcomes}
use Rattle.tall_semantics.specs.Deferred.{Vertex, IsMeaning, IsOrdered, IsAmong, fault_in, least_in}
use Rattle.tall_blocks.specs.Carries.{scanned_behind}
use Rattle.tall_blocks.specs.Cut.{IsScalar, CanBeCut, AreCut}
use Rattle.tall_blocks.specs.ValuesOver.{more_cells, more_cells_at, next_cells, own_over, outcome_over, value_over, IsOver}
use Rattle.tall_blocks.specs.Blocks.{IsVariable}
use Rattle.tall_semantics.proofs.OriginLaws.{get_before, below_among}
use Rattle.tall_semantics.proofs.MeaningLaws.{stored_value, made_value, tall_shape, tree_value}
use Rattle.tall_semantics.proofs.FaultLaws.{same_own, same_rows}
use Rattle.tall_semantics.proofs.ShapeLaws.{place_ok, shaped_is}
use Rattle.tall_semantics.proofs.TreeLaws.{same_tall, two_at_most, not_column, one_shape}
use Rattle.tall_semantics.proofs.OriginLaws.{none_or_some, faults_of_values}
use Rattle.tall_blocks.proofs.Choices.{true_or_false}
use Rattle.tall_blocks.proofs.SeenLaws.{known_scalar, own_of, none_args, least_none}

-- what the values over a block stand on so that spaces tell their rows: equal trees go on behind equal cells, what is cut is
-- no scalar, what is known as a scalar has the space of scalars and is told by its tree, and the variables have equal row
-- numbers
pub record AreOfSpaces (columns : Columns) (so_far : ℕ → List Seen) (vs : List Vertex) (f : ℕ → Tall) (cut : ℕ → Bool) : Type 0 where
  pub one_carry : (i j : ℕ) (v w : Vertex) → slice_get vs i ≡ Some v → slice_get vs j ≡ Some w → cut i ≡ true → cut j ≡ true → (f i).shape.tree ≡ (f j).shape.tree → so_far i ≡ so_far j
  pub cut_rows : (i : ℕ) (v : Vertex) → slice_get vs i ≡ Some v → cut i ≡ true → is_single (f i).shape.space ≡ false
  pub known_single : (i : ℕ) (v : Vertex) → slice_get vs i ≡ Some v → cut i ≡ false → IsScalar (f i).outcome → is_single (f i).shape.space ≡ true
  pub known_same : (i j : ℕ) (v w : Vertex) → slice_get vs i ≡ Some v → slice_get vs j ≡ Some w → cut i ≡ false → cut j ≡ false → IsScalar (f i).outcome → IsScalar (f j).outcome → (f i).shape.tree ≡ (f j).shape.tree → (f i).outcome ≡ (f j).outcome
  pub same_numbers : (i j : ℕ) (v w : Vertex) (s a o : ℕ) → slice_get vs i ≡ Some v → slice_get vs j ≡ Some w → cut i ≡ true → cut j ≡ true → IsVariable v.made s a → IsVariable w.made s o → numbers_in (columns s a) ≡ numbers_in (columns s o)

same_own_over : (c : List Seen) (at other : At) (op : Op) (xs : List Tall) → fault_of (own_over c at op xs) ≡ None → own_over c at op xs ≡ own_over c other op xs
same_own_over c at other (scan s) [] h = refl
same_own_over c at other (scan s) (x ∷ []) h = same_rows at other (scanned_behind s (kind_of x.shape.class) c (rows_in x.outcome)) h
same_own_over c at other (scan s) (x ∷ y ∷ xs) h = refl
same_own_over c at other (constant k) xs h = same_own at other (constant k) xs h
same_own_over c at other (unary op) xs h = same_own at other (unary op) xs h
same_own_over c at other (binary op) xs h = same_own at other (binary op) xs h
same_own_over c at other filter xs h = same_own at other filter xs h
same_own_over c at other (reduce r) xs h = same_own at other (reduce r) xs h
same_own_over c at other (head n) xs h = same_own at other (head n) xs h
same_own_over c at other (tail n) xs h = same_own at other (tail n) xs h
same_own_over c at other distinct xs h = same_own at other distinct xs h
same_own_over c at other (group m part) xs h = same_own at other (group m part) xs h

-- ---- the parts of a tree

abbrev pub op_in : Op → Tree → Op
op_in d (column s v c) = d
op_in d (leaf op) = op
op_in d (one op x) = op
op_in d (two op x y) = op

abbrev pub first_in : Tree → Tree
first_in (column s v c) = column s v c
first_in (leaf op) = leaf op
first_in (one op x) = x
first_in (two op x y) = x

abbrev pub second_in : Tree → Tree
second_in (column s v c) = column s v c
second_in (leaf op) = leaf op
second_in (one op x) = x
second_in (two op x y) = y

abbrev place_in : Outcome → Columns → Tree → Outcome
place_in x columns (column s v c) = columns s v
place_in x columns tree = x

module _ (whole : Columns) {columns : Columns} {so_far : ℕ → List Seen} {vs : List Vertex} {f : ℕ → Tall} {cut : ℕ → Bool} {h : ℕ → Outcome} (meaning : IsMeaning whole vs f) (ordered : IsOrdered vs) (over : IsOver columns so_far vs f cut h) (can : AreCut f cut vs) (of_spaces : AreOfSpaces columns so_far vs f cut) where
  abbrev H : ℕ → Tall
  H = value_over f h

  -- if the first has no fault, it is the second
  Same : ℕ → ℕ → Type 0
  Same a b = fault_of (h a) ≡ None → H a ≡ H b

  IsAccepted : Op → List ℕ → Type 0
  IsAccepted op args = (p : Class × Space) × (place_of op (shapes (map f args)) ≡ place_ok p)

  NoFaults : List ℕ → Type 0
  NoFaults args = (a : ℕ) → IsAmong args a → fault_of (h a) ≡ None

  record Alike (op other : Op) (args others : List ℕ) : Type 0 where
    op_is : op ≡ other
    values_are : NoFaults args → map H args ≡ map H others

  alike : (op other : Op) (args others : List ℕ) → IsAccepted op args → IsAccepted other others
      → ((a b : ℕ) → IsAmong args a → IsAmong others b → (f a).shape.tree ≡ (f b).shape.tree → Same a b)
      → tree_over op (shapes (map f args)) ≡ tree_over other (shapes (map f others)) → Alike op other args others
  unfolding NoFaults IsAccepted Same
  alike op other [] [] p q same t = record { op_is = ap (op_in op) t; values_are = λ m. refl }
  alike op other [] (b ∷ []) p q same t = absurd (cc)
  alike op other [] (b ∷ d ∷ ds) p q same t = absurd (cc)
  alike op other (a ∷ []) [] p q same t = absurd (cc)
  alike op other (a ∷ []) (b ∷ []) p q same t =
      let s = same a b (inl refl) (inl refl) (ap first_in t) in
      record { op_is = ap (op_in op) t; values_are = λ m. ap (λ (x : Tall). x ∷ []) (s (m a (inl refl))) }
  alike op other (a ∷ []) (b ∷ d ∷ ds) p q same t = absurd (cc)
  alike op other (a ∷ c ∷ []) [] p q same t = absurd (cc)
  alike op other (a ∷ c ∷ []) (b ∷ []) p q same t = absurd (cc)
  alike op other (a ∷ c ∷ []) (b ∷ d ∷ []) p q same t =
      let s = same a b (inl refl) (inl refl) (ap first_in t) in
      let r = same c d (inr (inl refl)) (inr (inl refl)) (ap second_in t) in
      record {
        op_is = ap (op_in op) t;
        values_are = λ m. ap (λ (x : Tall). x ∷ H c ∷ []) (s (m a (inl refl))) ∙ ap (λ (x : Tall). H b ∷ x ∷ []) (r (m c (inr (inl refl))));
      }
  alike op other (a ∷ c ∷ []) (b ∷ d ∷ e ∷ ds) p q same t = absurd (two_at_most other (f b).shape (f d).shape (f e).shape (shapes (map f ds)) q.0 q.1)
  alike op other (a ∷ c ∷ e ∷ cs) others p q same t = absurd (two_at_most op (f a).shape (f c).shape (f e).shape (shapes (map f cs)) p.0 p.1)

  accepted_at : (i : ℕ) (v : Vertex) (op : Op) → slice_get vs i ≡ Some v → v.made ≡ operation op → IsAccepted op v.args
  unfolding IsAccepted
  accepted_at i v op e p =
      let w = shaped_is op (shapes (map f v.args)) (place_of op (shapes (map f v.args))) (f i).shape (tall_shape v.at op (map f v.args) (f i) (made_value whole vs f meaning i v op e p)) in
      (w.0, w.1)

  no_faults : (i : ℕ) (v : Vertex) → slice_get vs i ≡ Some v → cut i ≡ true → fault_of (h i) ≡ None → NoFaults v.args
  unfolding NoFaults
  no_faults i v e c n a among = least_none (fault_in H) v.args a (none_args over can i v e c n) among

  stored_is : (i : ℕ) (v : Vertex) (s a : ℕ) (k : Class) → slice_get vs i ≡ Some v → cut i ≡ true → v.made ≡ stored s a k → h i ≡ columns s a
  stored_is i v s a k e c q = subst (λ m. h i ≡ outcome_over columns (so_far i) v.at m (map H v.args)) q (over.made i v e c)

  by_made : (i j : ℕ) (v w : Vertex) (m n : Made) → slice_get vs i ≡ Some v → slice_get vs j ≡ Some w → cut i ≡ true → cut j ≡ true → v.made ≡ m → w.made ≡ n
      → ((a b : ℕ) → IsAmong v.args a → IsAmong w.args b → (f a).shape.tree ≡ (f b).shape.tree → Same a b)
      → (f i).shape.tree ≡ (f j).shape.tree → Same i j
  unfolding Same
  by_made i j v w (stored s a c) (stored u b d) e g x y p q same t ni =
      let k = stored_value whole vs f meaning i v s a c e p in
      let l = stored_value whole vs f meaning j w u b d g q in
      let tree : column s a c ≡ column u b d = ap (λ (z : Tall). z.shape.tree) k ∙ (t ∙ sym (ap (λ (z : Tall). z.shape.tree) l)) in
      same_tall (H i) (H j) (one_shape whole vs f meaning ordered i j v w e g t) (stored_is i v s a c e x p ∙ (ap (place_in (h i) columns) tree ∙ sym (stored_is j w u b d g y q)))
  by_made i j v w (stored s a c) (operation op) e g x y p q same t ni =
      absurd (not_column op (shapes (map f w.args)) s a c (tree_value whole vs f meaning j w op g q ∙ (sym t ∙ sym (ap (λ (z : Tall). z.shape.tree) (stored_value whole vs f meaning i v s a c e p)))))
  by_made i j v w (operation op) (stored u b d) e g x y p q same t ni =
      absurd (not_column op (shapes (map f v.args)) u b d (tree_value whole vs f meaning i v op e p ∙ (t ∙ sym (ap (λ (z : Tall). z.shape.tree) (stored_value whole vs f meaning j w u b d g q)))))
  by_made i j v w (operation op) (operation other) e g x y p q same t ni =
      let a = alike op other v.args w.args (accepted_at i v op e p) (accepted_at j w other g q) same (tree_value whole vs f meaning i v op e p ∙ (t ∙ sym (tree_value whole vs f meaning j w other g q))) in
      let args : map H v.args ≡ map H w.args = a.values_are (no_faults i v e x ni) in
      let under : least_in H v.args ≡ None = none_args over can i v e x ni in
      let under_j : least_in H w.args ≡ None = sym (ap least_fault (faults_of_values H w.args)) ∙ (ap (λ (xs : List Tall). least_fault (map fault_of (outcomes xs))) (sym args) ∙ (ap least_fault (faults_of_values H v.args) ∙ under)) in
      let left : h i ≡ own_over (so_far i) v.at op (map H v.args) = own_of over can i v op e x p (none_args over can i v e x ni) in
      let right : h j ≡ own_over (so_far j) w.at op (map H w.args) = own_of over can j w op g y (q ∙ ap operation (sym a.op_is)) under_j in
      let at : own_over (so_far i) v.at op (map H v.args) ≡ own_over (so_far i) w.at op (map H v.args) = same_own_over (so_far i) v.at w.at op (map H v.args) (sym (ap fault_of left) ∙ ni) in
      same_tall (H i) (H j) (one_shape whole vs f meaning ordered i j v w e g t)
      (left ∙ (at ∙ (ap (own_over (so_far i) w.at op) args ∙ (ap (λ k. own_over k w.at op (map H w.args)) (of_spaces.one_carry i j v w e g x y t) ∙ sym right))))

  -- of operands, which are cut or known
  operands_same : (a b : ℕ) (u w : Vertex) → slice_get vs a ≡ Some u → slice_get vs b ≡ Some w → (cut a ≡ false → IsScalar (f a).outcome) → (cut b ≡ false → IsScalar (f b).outcome) → (f a).shape.tree ≡ (f b).shape.tree
      → (cut a ≡ true → cut b ≡ true → Same a b) → Same a b
  unfolding Same
  operands_same a b u w e g sa sb t both na =
      let shape : (f a).shape ≡ (f b).shape = one_shape whole vs f meaning ordered a b u w e g t in
      let space : is_single (f a).shape.space ≡ is_single (f b).shape.space = ap (λ (s : Shape). is_single s.space) shape in
      elim (true_or_false (cut a)) [
        | inl ca ↦ elim (true_or_false (cut b)) [
          | inl cb ↦ both ca cb na
          | inr kb ↦ (let x = of_spaces.cut_rows a u e ca in let y = of_spaces.known_single b w g kb (sb kb) in absurd (cc))
        ]
        | inr ka ↦ elim (true_or_false (cut b)) [
          | inl cb ↦ (let x = of_spaces.cut_rows b w g cb in let y = of_spaces.known_single a u e ka (sa ka) in absurd (cc))
          | inr kb ↦ same_tall (H a) (H b) shape (over.known a ka ∙ (of_spaces.known_same a b u w e g ka kb (sa ka) (sb kb) t ∙ sym (over.known b kb)))
        ]
      ]

  by_bound : (n i j : ℕ) (v w : Vertex) → i < n → slice_get vs i ≡ Some v → slice_get vs j ≡ Some w → cut i ≡ true → cut j ≡ true → (f i).shape.tree ≡ (f j).shape.tree → Same i j
  by_bound zero i j v w l e g x y t = absurd (omega (arith, l))
  by_bound (suc n) i j v w l e g x y t =
      by_made i j v w v.made w.made e g x y refl refl
      (λ a b p q r.
      let m : a < i = below_among i v.args a (ordered i v e) p in
      let u = get_before vs i a v e m in
      let z = get_before vs j b w g (below_among j w.args b (ordered j w g) q) in
      operands_same a b u.0 z.0 u.1 z.1 (λ k. known_scalar f cut v.made v.args a (can i v e x) p k) (λ k. known_scalar f cut w.made w.args b (can j w g y) q k) r
      (λ ca cb. by_bound n a b u.0 z.0 (omega (arith, l, m)) u.1 z.1 ca cb r))
      t

  -- ---- of values that are cut
  pub tree_same : (i j : ℕ) (v w : Vertex) → slice_get vs i ≡ Some v → slice_get vs j ≡ Some w → cut i ≡ true → cut j ≡ true → (f i).shape.tree ≡ (f j).shape.tree → fault_of (h i) ≡ None → fault_of (h j) ≡ None → h i ≡ h j
  unfolding Same
  tree_same i j v w e g x y t ni nj = ap (λ (z : Tall). z.outcome) (by_bound (suc i) i j v w (omega (arith)) e g x y t ni)

  -- a fault has no rows, and both have one or none has
  pub rows_same : (i j : ℕ) (v w : Vertex) → slice_get vs i ≡ Some v → slice_get vs j ≡ Some w → cut i ≡ true → cut j ≡ true → (f i).shape.tree ≡ (f j).shape.tree → rows_in (h i) ≡ rows_in (h j)
  unfolding Same
  rows_same i j v w e g x y t = elim (none_or_some (fault_of (h i))) [
    | inl ni ↦ ap (λ (z : Tall). rows_in z.outcome) (by_bound (suc i) i j v w (omega (arith)) e g x y t ni)
    | inr some ↦ elim (none_or_some (fault_of (h j))) [
      | inl nj ↦ ap (λ (z : Tall). rows_in z.outcome) (sym (by_bound (suc j) j i w v (omega (arith)) g e y x (sym t) nj))
      | inr other ↦ no_rows (h i) some.0 some.1 ∙ sym (no_rows (h j) other.0 other.1)
    ]
  ]
    where
      no_rows : (x : Outcome) (y : Fault) → fault_of x ≡ Some y → rows_in x ≡ []
      no_rows (rows rs) y e = absurd (cc)
      no_rows (scalar c) y e = absurd (cc)
      no_rows (fault z) y e = refl

  after_same : (a b : ℕ) (c d : List Seen) → rows_in (h a) ≡ rows_in (h b) → c ≡ d → c ++ cells_in (h a) ≡ d ++ cells_in (h b)
  after_same a b c d q r = ap (λ rs. c ++ cells rs) q ∙ ap (λ k. k ++ cells_in (h b)) r

  carry_op : (op : Op) (args others : List ℕ) (c d : List Seen) → c ≡ d → CanBeCut f cut (operation op) args → CanBeCut f cut (operation op) others
      → ((a b : ℕ) → args ≡ a ∷ [] → others ≡ b ∷ [] → cut a ≡ true → cut b ≡ true → rows_in (h a) ≡ rows_in (h b))
      → more_cells h (operation op) args c ≡ more_cells h (operation op) others d
  carry_op (scan s) [] others c d r k l same = absurd k
  carry_op (scan s) (a ∷ []) [] c d r k l same = absurd l
  carry_op (scan s) (a ∷ []) (b ∷ []) c d r k l same = (let w = same a b refl refl k l in after_same a b c d w r)
  carry_op (scan s) (a ∷ []) (b ∷ e ∷ others) c d r k l same = absurd l
  carry_op (scan s) (a ∷ b ∷ args) others c d r k l same = absurd k
  carry_op (constant x) args others c d r k l same = r
  carry_op (unary op) args others c d r k l same = r
  carry_op (binary op) args others c d r k l same = r
  carry_op filter args others c d r k l same = r
  carry_op (reduce x) args others c d r k l same = r
  carry_op (head x) args others c d r k l same = r
  carry_op (tail x) args others c d r k l same = r
  carry_op distinct args others c d r k l same = r
  carry_op (group x y) args others c d r k l same = r

  tree_of_one : (op : Op) (args : List ℕ) (a : ℕ) → args ≡ a ∷ [] → tree_over op (shapes (map f args)) ≡ one op (f a).shape.tree
  tree_of_one op args a e = ap (λ xs. tree_over op (shapes (map f xs))) e

  carry_of_both : (i j : ℕ) (v w : Vertex) (m n : Made) → slice_get vs i ≡ Some v → slice_get vs j ≡ Some w → cut i ≡ true → cut j ≡ true → v.made ≡ m → w.made ≡ n → (f i).shape.tree ≡ (f j).shape.tree
      → more_cells h m v.args (so_far i) ≡ more_cells h n w.args (so_far j)
  carry_of_both i j v w (stored s a c) (stored u b d) e g x y p q t = of_spaces.one_carry i j v w e g x y t
  carry_of_both i j v w (stored s a c) (operation op) e g x y p q t =
      absurd (not_column op (shapes (map f w.args)) s a c (tree_value whole vs f meaning j w op g q ∙ (sym t ∙ sym (ap (λ (z : Tall). z.shape.tree) (stored_value whole vs f meaning i v s a c e p)))))
  carry_of_both i j v w (operation op) (stored u b d) e g x y p q t =
      absurd (not_column op (shapes (map f v.args)) u b d (tree_value whole vs f meaning i v op e p ∙ (t ∙ sym (ap (λ (z : Tall). z.shape.tree) (stored_value whole vs f meaning j w u b d g q)))))
  carry_of_both i j v w (operation op) (operation other) e g x y p q t =
      let trees : tree_over op (shapes (map f v.args)) ≡ tree_over other (shapes (map f w.args)) = tree_value whole vs f meaning i v op e p ∙ (t ∙ sym (tree_value whole vs f meaning j w other g q)) in
      let same = alike op other v.args w.args (accepted_at i v op e p) (accepted_at j w other g q)
      (λ a b r s k.
      let u = get_before vs i a v e (below_among i v.args a (ordered i v e) r) in
      let z = get_before vs j b w g (below_among j w.args b (ordered j w g) s) in
      operands_same a b u.0 z.0 u.1 z.1 (λ n. known_scalar f cut v.made v.args a (can i v e x) r n) (λ n. known_scalar f cut w.made w.args b (can j w g y) s n) k
      (λ ca cb. by_bound (suc a) a b u.0 z.0 (omega (arith)) u.1 z.1 ca cb k)) trees in
      let left = subst (λ m. CanBeCut f cut m v.args) p (can i v e x) in
      let right = subst (λ m. CanBeCut f cut m w.args) (q ∙ ap operation (sym same.op_is)) (can j w g y) in
      carry_op op v.args w.args (so_far i) (so_far j) (of_spaces.one_carry i j v w e g x y t) left right
      (λ a b r s ca cb.
      let in_a : IsAmong v.args a = subst (λ xs. IsAmong xs a) (sym r) (inl refl) in
      let in_b : IsAmong w.args b = subst (λ xs. IsAmong xs b) (sym s) (inl refl) in
      let u = get_before vs i a v e (below_among i v.args a (ordered i v e) in_a) in
      let z = get_before vs j b w g (below_among j w.args b (ordered j w g) in_b) in
      let k : (f a).shape.tree ≡ (f b).shape.tree = ap first_in (sym (tree_of_one op v.args a r) ∙ (trees ∙ tree_of_one other w.args b s)) in
      rows_same a b u.0 z.0 u.1 z.1 ca cb k)
      ∙ ap (λ k. more_cells h (operation k) w.args (so_far j)) same.op_is

  -- ---- cells so far
  pub next_carry : (i j : ℕ) (v w : Vertex) → slice_get vs i ≡ Some v → slice_get vs j ≡ Some w → cut i ≡ true → cut j ≡ true → (f i).shape.tree ≡ (f j).shape.tree → next_cells vs h so_far i ≡ next_cells vs h so_far j
  next_carry i j v w e g x y t =
      ap (λ o. more_cells_at h o (so_far i)) e ∙ (carry_of_both i j v w v.made w.made e g x y refl refl t ∙ sym (ap (λ o. more_cells_at h o (so_far j)) g))
