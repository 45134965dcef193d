-- Over a block two values of one space have equal row numbers, where neither has a fault; so two operands that are cut have
-- equally many rows. Values of one space come from the variables of a datastore by operators and scans, which keep the
-- numbers, and by filters with masks of one tree, which over the block are equal.
use Rattle.std.specs.Prelude.{◌≡◌, refl, ℕ, zero, suc, ◌<◌, ◌+◌, Bool, true, false, None, Some, Result, Ok, Err, List, [], ◌∷◌, ◌++◌, length, map, slice_get}
use Rattle.std.proofs.Common.{ap, sym, subst, ◌∙◌, arith, inl, inr}
use Rattle.std.proofs.lemmas.List.{length-map}
use Rattle.tall_value.specs.declared.class.Class.{Class}
use Rattle.tall_value.specs.declared.functions.Scan.{Scan}
use Rattle.tall_value.specs.Cells.{Seen}
use Rattle.tall_value.specs.Classes.{kind_of}
use Rattle.tall_semantics.specs.Operations.{Op, constant, unary, binary, filter, reduce, scan, head, tail, distinct, group, Made, stored, operation, Tree, leaf}
use Rattle.tall_value.specs.declared.class.Kind.{Kind}
use Rattle.tall_value.specs.declared.faults.CellFault.{CellFault}
use Rattle.tall_value.specs.declared.operators.Binary.{Binary}
use Rattle.tall_value.specs.CellOperators.{binary_cell}
use Rattle.tall_value.specs.Elementwise.{at_row, binary_rows, scalar_rows, beside}
use Rattle.tall_value.specs.Filters as filters
use Rattle.tall_value.specs.Reductions.{or_fault}
use Rattle.tall_semantics.specs.ScanCarries.{fold_of}
use Rattle.tall_semantics.specs.Equality.{same_space}
use Rattle.tall_semantics.proofs.RowNumberLaws.{numbers, ok_rows, ok_inside, each_row_numbers, each_pair_numbers, kept_numbers}
use Rattle.tall_semantics.proofs.SpaceLaws.{num_one, num_rows, num_alone, common_is}
use Rattle.tall_semantics.specs.Spaces.{Space, rows_of, filtered}
use Rattle.tall_semantics.specs.Faults.{At}
use Rattle.tall_semantics.specs.Outcomes.{Outcome, rows, scalar, fault, fault_of, rows_in, cells_in, elementwise_two}
use Rattle.tall_semantics.specs.RowsOfSpaces.{numbers_in}
use Rattle.tall_semantics.specs.Shapes.{Shape, place_of, common, masked}
use Rattle.tall_semantics.specs.Talls.{Tall, Columns, shapes}
use Rattle.tall_semantics.specs.Deferred.{Vertex, IsMeaning, IsOrdered, IsAmong, fault_in, least_in}
use Rattle.tall_blocks.specs.Carries.{Rows, RowsOrFault, or_inexact, scanned_behind}
use Rattle.tall_blocks.specs.Cut.{CanBeCut, AreCut, AreAligned}
use Rattle.tall_blocks.specs.ValuesOver.{own_over, outcome_over, value_over, IsOver}
use Rattle.tall_semantics.proofs.EqualityLaws.{spaces_decided}
use Rattle.tall_semantics.proofs.OriginLaws.{get_before, below_among}
use Rattle.tall_semantics.proofs.MeaningLaws.{stored_value, made_value, tall_shape}
use Rattle.tall_semantics.proofs.ShapeLaws.{place_ok, space_ok, shaped_is, placed_is, column_is, tested, inside}
use Rattle.tall_blocks.proofs.SeenLaws.{own_of, none_args, least_none}
use Rattle.tall_blocks.specs.Blocks.{IsVariable}
use Rattle.tall_blocks.proofs.TreeOverLaws.{AreOfSpaces, tree_same}

-- ---- operators and scans keep the numbers

row_keeps : (n : ℕ) (one : Result Seen CellFault) (rest : RowsOrFault) (ns : List ℕ) (outs : Rows) → ((os : Rows) → rest ≡ ok_rows os → numbers os ≡ ns) → at_row n one rest ≡ ok_rows outs → numbers outs ≡ n ∷ ns
row_keeps n (Ok c) (Ok os) ns outs h e = ap numbers (sym (ok_inside ((n, c) ∷ os) outs e)) ∙ ap (λ xs. n ∷ xs) (h os refl)
row_keeps n (Ok c) (Err k) ns outs h e = absurd (cc)
row_keeps n (Err k) rest ns outs h e = absurd (cc)

scan_keeps : (s : Scan) (a : Kind) (before : List Seen) (rs outs : Rows) → scanned_behind s a before rs ≡ ok_rows outs → numbers outs ≡ numbers rs
scan_keeps s a before [] outs e = ap numbers (sym (ok_inside [] outs e))
scan_keeps s a before (r ∷ rs) outs e =
    let next : List Seen = before ++ r.1 ∷ [] in
    row_keeps r.0 (or_inexact (fold_of s a next)) (scanned_behind s a next rs) (numbers rs) outs (λ os h. scan_keeps s a next rs os h) e

pair_keeps : (at : At) (op : Binary) (x y : Outcome) → fault_of x ≡ None → fault_of y ≡ None → numbers_in x ≡ numbers_in y → fault_of (elementwise_two at op x y) ≡ None → numbers_in (elementwise_two at op x y) ≡ numbers_in x
pair_keeps at op (rows rs) (rows ss) m n e z = num_rows at (binary_rows op rs ss) (numbers rs) (λ outs q. each_pair_numbers (binary_cell op) rs ss outs e q) z
pair_keeps at op (rows rs) (scalar d) m n e z = num_rows at (scalar_rows op false d rs) (numbers rs) (λ outs q. each_row_numbers (beside op false d) rs outs q) z
pair_keeps at op (rows rs) (fault g) m n e z = absurd (cc)
pair_keeps at op (scalar c) (rows ss) m n e z = num_rows at (scalar_rows op true c ss) (numbers ss) (λ outs q. each_row_numbers (beside op true c) ss outs q) z ∙ sym e
pair_keeps at op (scalar c) (scalar d) m n e z = num_alone at (or_fault (binary_cell op c d)) z
pair_keeps at op (scalar c) (fault g) m n e z = absurd (cc)
pair_keeps at op (fault g) y m n e z = absurd (cc)

left_keeps : (at : At) (op : Binary) (x : Outcome) (d : Seen) → fault_of x ≡ None → fault_of (elementwise_two at op x (scalar d)) ≡ None → numbers_in (elementwise_two at op x (scalar d)) ≡ numbers_in x
left_keeps at op (rows rs) d m z = num_rows at (scalar_rows op false d rs) (numbers rs) (λ outs q. each_row_numbers (beside op false d) rs outs q) z
left_keeps at op (scalar c) d m z = num_alone at (or_fault (binary_cell op c d)) z
left_keeps at op (fault g) d m z = absurd (cc)

right_keeps : (at : At) (op : Binary) (x : Outcome) (d : Seen) → fault_of x ≡ None → fault_of (elementwise_two at op (scalar d) x) ≡ None → numbers_in (elementwise_two at op (scalar d) x) ≡ numbers_in x
right_keeps at op (rows rs) d m z = num_rows at (scalar_rows op true d rs) (numbers rs) (λ outs q. each_row_numbers (beside op true d) rs outs q) z
right_keeps at op (scalar c) d m z = num_alone at (or_fault (binary_cell op d c)) z
right_keeps at op (fault g) d m z = absurd (cc)

-- ---- where the rows of a value come from

module _ (whole : Columns) {columns : Columns} {so_far : ℕ → List Seen} {vs : List Vertex} {f : ℕ → Tall} {cut : ℕ → Bool} {h : ℕ → Outcome} (meaning : IsMeaning whole vs f) (ordered : IsOrdered vs) (over : IsOver columns so_far vs f cut h) (can : AreCut f cut vs) (of_spaces : AreOfSpaces columns so_far vs f cut) where
  -- a value that is cut and has no fault
  record FreeAt (a : ℕ) : Type 0 where
    u : Vertex
    there : slice_get vs a ≡ Some u
    is_cut : cut a ≡ true
    none : fault_of (h a) ≡ None

  data View (i : ℕ) : Type 0 where
    base : (v : Vertex) (s a : ℕ) → slice_get vs i ≡ Some v → cut i ≡ true → IsVariable v.made s a → (f i).shape.space ≡ rows_of s → h i ≡ columns s a → View i
    lower : (a : ℕ) → a < i → FreeAt a → (f a).shape.space ≡ (f i).shape.space → numbers_in (h i) ≡ numbers_in (h a) → View i
    masks : (x m : ℕ) → x < i → m < i → FreeAt x → FreeAt m → (f i).shape.space ≡ filtered (f x).shape.space (f m).shape.tree → numbers_in (h i) ≡ filters.kept (numbers_in (h x)) (cells_in (h m)) → View i

  abbrev AreEqualBelow : ℕ → Type 0
  AreEqualBelow i = (a b : ℕ) → a < i → b < i → FreeAt a → FreeAt b → (f a).shape.space ≡ (f b).shape.space → numbers_in (h a) ≡ numbers_in (h b)

  space_is : (i : ℕ) (v : Vertex) (op : Op) → slice_get vs i ≡ Some v → v.made ≡ operation op → (p : Class × Space) × (place_of op (shapes (map f v.args)) ≡ place_ok p) × (p.1 ≡ (f i).shape.space)
  space_is i v op e q =
      let w = shaped_is op (shapes (map f v.args)) (place_of op (shapes (map f v.args))) (f i).shape (tall_shape v.at op (map f v.args) (f i) (made_value whole vs f meaning i v op e q)) in
      (w.0, w.1, ap (λ (s : Shape). s.space) w.2)

  -- by the operation
  view_op : (i : ℕ) (c : List Seen) (at : At) (op : Op) (args : List ℕ) (p : Class × Space) → place_of op (shapes (map f args)) ≡ place_ok p → p.1 ≡ (f i).shape.space → CanBeCut f cut (operation op) args
      → ((a : ℕ) → IsAmong args a → a < i) → ((a : ℕ) → IsAmong args a → cut a ≡ true → FreeAt a) → h i ≡ own_over c at op (map (value_over f h) args) → fault_of (h i) ≡ None → AreEqualBelow i → View i
  view_op i c at (constant x) args p s t k less place o n equal = absurd k
  view_op i c at (unary op) [] p s t k less place o n equal = absurd k
  view_op i c at (unary op) (a ∷ []) p s t k less place o n equal =
      lower a (less a (inl refl)) (place a (inl refl) k) (inside (f a).shape.space p.1 (placed_is _ (space_ok (f a).shape.space) p s) ∙ t)
      (ap numbers_in o ∙ num_one at op (h a) (place a (inl refl) k).none (sym (ap fault_of o) ∙ n))
  view_op i c at (unary op) (a ∷ b ∷ args) p s t k less place o n equal = absurd k
  view_op i c at (binary op) [] p s t k less place o n equal = absurd k
  view_op i c at (binary op) (a ∷ []) p s t k less place o n equal = absurd k
  view_op i c at (binary op) (a ∷ b ∷ []) p s t k less place o n equal =
      let w = common_is (f a).shape.space (f b).shape.space p.1 (placed_is _ (common (f a).shape.space (f b).shape.space) p s) in
      let m : fault_of (elementwise_two at op (h a) (h b)) ≡ None = sym (ap fault_of o) ∙ n in
      elim k [
        | inl both ↦
            let x = place a (inl refl) both.0 in
            let y = place b (inr (inl refl)) both.1 in
            let sa : (f a).shape.space ≡ p.1 = w.0 (of_spaces.cut_rows a x.u x.there both.0) in
            let sb : (f b).shape.space ≡ p.1 = w.1 (of_spaces.cut_rows b y.u y.there both.1) in
            lower a (less a (inl refl)) x (sa ∙ t) (ap numbers_in o ∙ pair_keeps at op (h a) (h b) x.none y.none (equal a b (less a (inl refl)) (less b (inr (inl refl))) x y (sa ∙ sym sb)) m)
        | inr single_one ↦ elim single_one [
          | inl left ↦
              let x = place a (inl refl) left.0 in
              let d : h b ≡ scalar left.1.1.0 = over.known b left.1.0 ∙ left.1.1.1 in
              let q : h i ≡ elementwise_two at op (h a) (scalar left.1.1.0) = o ∙ ap (elementwise_two at op (h a)) d in
              lower a (less a (inl refl)) x (w.0 (of_spaces.cut_rows a x.u x.there left.0) ∙ t) (ap numbers_in q ∙ left_keeps at op (h a) left.1.1.0 x.none (sym (ap fault_of q) ∙ n))
          | inr right ↦
              let y = place b (inr (inl refl)) right.1 in
              let d : h a ≡ scalar right.0.1.0 = over.known a right.0.0 ∙ right.0.1.1 in
              let q : h i ≡ elementwise_two at op (scalar right.0.1.0) (h b) = o ∙ ap (λ r. elementwise_two at op r (h b)) d in
              lower b (less b (inr (inl refl))) y (w.1 (of_spaces.cut_rows b y.u y.there right.1) ∙ t) (ap numbers_in q ∙ right_keeps at op (h b) right.0.1.0 y.none (sym (ap fault_of q) ∙ n))
        ]
      ]
  view_op i c at (binary op) (a ∷ b ∷ d ∷ args) p s t k less place o n equal = absurd k
  view_op i c at filter [] p s t k less place o n equal = absurd k
  view_op i c at filter (x ∷ []) p s t k less place o n equal = absurd k
  view_op i c at filter (x ∷ m ∷ []) p s t k less place o n equal =
      let q = placed_is _ (masked (f x).shape.space (f m).shape.space (f m).shape.tree) p (column_is (f m).shape _ p (column_is (f x).shape _ p s)) in
      masks x m (less x (inl refl)) (less m (inr (inl refl))) (place x (inl refl) k.0) (place m (inr (inl refl)) k.1)
      (sym ((tested (same_space (f x).shape.space (f m).shape.space) (filtered (f x).shape.space (f m).shape.tree) p.1 q).1 ∙ t))
      (ap numbers_in o ∙ kept_numbers (rows_in (h x)) (cells_in (h m)))
  view_op i c at filter (x ∷ m ∷ d ∷ args) p s t k less place o n equal = absurd k
  view_op i c at (scan r) [] p s t k less place o n equal = absurd k
  view_op i c at (scan r) (a ∷ []) p s t k less place o n equal =
      let kind = kind_of (f a).shape.class in
      lower a (less a (inl refl)) (place a (inl refl) k) (inside (f a).shape.space p.1 (placed_is _ (space_ok (f a).shape.space) p (column_is (f a).shape _ p s)) ∙ t)
      (ap numbers_in o ∙ num_rows at (scanned_behind r kind c (rows_in (h a))) (numbers_in (h a)) (λ outs q. scan_keeps r kind c (rows_in (h a)) outs q) (sym (ap fault_of o) ∙ n))
  view_op i c at (scan r) (a ∷ b ∷ args) p s t k less place o n equal = absurd k
  view_op i c at (reduce r) args p s t k less place o n equal = absurd k
  view_op i c at (head j) args p s t k less place o n equal = absurd k
  view_op i c at (tail j) args p s t k less place o n equal = absurd k
  view_op i c at distinct args p s t k less place o n equal = absurd k
  view_op i c at (group g part) args p s t k less place o n equal = absurd k

  view_made : (i : ℕ) (v : Vertex) (m : Made) → slice_get vs i ≡ Some v → cut i ≡ true → v.made ≡ m → fault_of (h i) ≡ None → AreEqualBelow i → View i
  view_made i v (stored s a k) e c q n equal =
      base v s a e c (subst (λ m. IsVariable m s a) (sym q) (refl, refl)) (sym (ap (λ (t : Tall). t.shape.space) (stored_value whole vs f meaning i v s a k e q))) (subst (λ m. h i ≡ outcome_over columns (so_far i) v.at m (map (value_over f h) v.args)) q (over.made i v e c))
  view_made i v (operation op) e c q n equal =
      let w = space_is i v op e q in
      let none : least_in (value_over f h) v.args ≡ None = none_args over can i v e c n in
      view_op i (so_far i) v.at op v.args w.0 w.1 w.2 (subst (λ m. CanBeCut f cut m v.args) q (can i v e c)) (λ a among. below_among i v.args a (ordered i v e) among)
      (λ a among is_cut.
      let b = get_before vs i a v e (below_among i v.args a (ordered i v e) among) in
      record { u = b.0; there = b.1; is_cut = is_cut; none = least_none (fault_in (value_over f h)) v.args a none among })
      (own_of over can i v op e c q none) n equal

  base_of : Space → ℕ
  base_of (rows_of s) = s
  base_of s = 0

  inner_of : Space → Space
  inner_of (filtered s t) = s
  inner_of s = s

  mask_of : Space → Tree
  mask_of (filtered s t) = t
  mask_of s = leaf filter

  compared : (i j : ℕ) → View i → View j → (f i).shape.space ≡ (f j).shape.space
      → ((a : ℕ) → a < i → FreeAt a → (f a).shape.space ≡ (f j).shape.space → numbers_in (h a) ≡ numbers_in (h j))
      → ((b : ℕ) → b < j → FreeAt b → (f i).shape.space ≡ (f b).shape.space → numbers_in (h i) ≡ numbers_in (h b))
      → ((a b : ℕ) → a < i → b < j → FreeAt a → FreeAt b → (f a).shape.space ≡ (f b).shape.space → numbers_in (h a) ≡ numbers_in (h b))
      → numbers_in (h i) ≡ numbers_in (h j)
  unfolding base_of inner_of mask_of
  compared i j (lower a l x s n) w t down_i down_j both = n ∙ down_i a l x (s ∙ t)
  compared i j v (lower b l y s n) t down_i down_j both = down_j b l y (t ∙ sym s) ∙ sym n
  compared i j (base v s a e c m p x) (base w u b g d n q y) t down_i down_j both =
      let same : s ≡ u = ap base_of (sym p ∙ (t ∙ q)) in
      ap numbers_in x ∙ (of_spaces.same_numbers i j v w s a b e g c d m (subst (λ k. IsVariable w.made k b) (sym same) n) ∙ (ap (λ k. numbers_in (columns k b)) same ∙ sym (ap numbers_in y)))
  compared i j (base v s a e c d p x) (masks y m ly lm py pm q n) t down_i down_j both = absurd (let z : rows_of s ≡ filtered (f y).shape.space (f m).shape.tree = sym p ∙ (t ∙ q) in cc)
  compared i j (masks x m lx lm px pm p n) (base w u b g c d q y) t down_i down_j both = absurd (let z : filtered (f x).shape.space (f m).shape.tree ≡ rows_of u = sym p ∙ (t ∙ q) in cc)
  compared i j (masks x m lx lm px pm p n) (masks y k ly lk py pk q o) t down_i down_j both =
      let z : filtered (f x).shape.space (f m).shape.tree ≡ filtered (f y).shape.space (f k).shape.tree = sym p ∙ (t ∙ q) in
      let inner : numbers_in (h x) ≡ numbers_in (h y) = both x y lx ly px py (ap inner_of z) in
      let mask : h m ≡ h k = tree_same whole meaning ordered over can of_spaces m k pm.u pk.u pm.there pk.there pm.is_cut pk.is_cut (ap mask_of z) pm.none pk.none in
      n ∙ (ap (λ ns. filters.kept ns (cells_in (h m))) inner ∙ (ap (λ r. filters.kept (numbers_in (h y)) (cells_in r)) mask ∙ sym o))

  -- by a bound on both places, and within it by one on their sum
  within : (n m i j : ℕ) → i < n → j < n → i + j < m → FreeAt i → FreeAt j → (f i).shape.space ≡ (f j).shape.space → numbers_in (h i) ≡ numbers_in (h j)
  within zero m i j li lj l x y t = absurd (omega (arith, li))
  within (suc n) zero i j li lj l x y t = absurd (omega (arith, l))
  within (suc n) (suc m) i j li lj l x y t =
      compared i j
      (view_made i x.u x.u.made x.there x.is_cut refl x.none (λ a b la lb p q s. within n (a + b + 1) a b (omega (arith, la, li)) (omega (arith, lb, li)) (omega (arith)) p q s))
      (view_made j y.u y.u.made y.there y.is_cut refl y.none (λ a b la lb p q s. within n (a + b + 1) a b (omega (arith, la, lj)) (omega (arith, lb, lj)) (omega (arith)) p q s))
      t
      (λ a la p s. within (suc n) m a j (omega (arith, la, li)) lj (omega (arith, la, l)) p y s)
      (λ b lb q s. within (suc n) m i b li (omega (arith, lb, lj)) (omega (arith, lb, l)) x q s)
      (λ a b la lb p q s. within (suc n) m a b (omega (arith, la, li)) (omega (arith, lb, lj)) (omega (arith, la, lb, l)) p q s)

  pub space_numbers : (i j : ℕ) (v w : Vertex) → slice_get vs i ≡ Some v → slice_get vs j ≡ Some w → cut i ≡ true → cut j ≡ true → fault_of (h i) ≡ None → fault_of (h j) ≡ None → (f i).shape.space ≡ (f j).shape.space → numbers_in (h i) ≡ numbers_in (h j)
  space_numbers i j v w e g c d n m t = within (i + j + 1) (i + j + 1) i j (omega (arith)) (omega (arith)) (omega (arith)) (record { u = v; there = e; is_cut = c; none = n }) (record { u = w; there = g; is_cut = d; none = m }) t

  -- ---- operands
  spaces_of : (a b : ℕ) (u w : Vertex) → slice_get vs a ≡ Some u → slice_get vs b ≡ Some w → (op : Op) (args : List ℕ) (p : Class × Space) → place_of op (shapes (map f args)) ≡ place_ok p → CanBeCut f cut (operation op) args → args ≡ a ∷ b ∷ [] → cut a ≡ true → cut b ≡ true → (f a).shape.space ≡ (f b).shape.space
  spaces_of a b u w there_a there_b op args p s k e ca cb = at_two op (subst (λ xs. place_of op (shapes (map f xs)) ≡ place_ok p) e s) (subst (CanBeCut f cut (operation op)) e k)
    where
      at_two : (op : Op) → place_of op (shapes (map f (a ∷ b ∷ []))) ≡ place_ok p → CanBeCut f cut (operation op) (a ∷ b ∷ []) → (f a).shape.space ≡ (f b).shape.space
      at_two (binary op) s k =
          let z = common_is (f a).shape.space (f b).shape.space p.1 (placed_is _ (common (f a).shape.space (f b).shape.space) p s) in
          z.0 (of_spaces.cut_rows a u there_a ca) ∙ sym (z.1 (of_spaces.cut_rows b w there_b cb))
      at_two filter s k =
          let q = placed_is _ (masked (f a).shape.space (f b).shape.space (f b).shape.tree) p (column_is (f b).shape _ p (column_is (f a).shape _ p s)) in
          (spaces_decided (f a).shape.space (f b).shape.space).0 (tested (same_space (f a).shape.space (f b).shape.space) (filtered (f a).shape.space (f b).shape.tree) p.1 q).0
      at_two (constant x) s k = absurd k
      at_two (unary op) s k = absurd k
      at_two (scan r) s k = absurd k
      at_two (reduce r) s k = absurd k
      at_two (head j) s k = absurd k
      at_two (tail j) s k = absurd k
      at_two distinct s k = absurd k
      at_two (group g part) s k = absurd k

  even_made : (i a b : ℕ) (v : Vertex) (m : Made) (rs ss : Rows) → slice_get vs i ≡ Some v → v.made ≡ m → v.args ≡ a ∷ b ∷ [] → cut i ≡ true → cut a ≡ true → cut b ≡ true → h a ≡ rows rs → h b ≡ rows ss → length rs ≡ length ss
  even_made i a b v (stored s k c) rs ss e q t ci ca cb x y = absurd (let z : v.args ≡ [] = subst (λ m. CanBeCut f cut m v.args) q (can i v e ci) in let w : [] ≡ a ∷ b ∷ [] = sym z ∙ t in cc)
  even_made i a b v (operation op) rs ss e q t ci ca cb x y =
      let w = space_is i v op e q in
      let in_a : IsAmong v.args a = subst (λ xs. IsAmong xs a) (sym t) (inl refl) in
      let in_b : IsAmong v.args b = subst (λ xs. IsAmong xs b) (sym t) (inr (inl refl)) in
      let u = get_before vs i a v e (below_among i v.args a (ordered i v e) in_a) in
      let z = get_before vs i b v e (below_among i v.args b (ordered i v e) in_b) in
      let space : (f a).shape.space ≡ (f b).shape.space = spaces_of a b u.0 z.0 u.1 z.1 op v.args w.0 w.1 (subst (λ m. CanBeCut f cut m v.args) q (can i v e ci)) t ca cb in
      let n : numbers_in (h a) ≡ numbers_in (h b) = space_numbers a b u.0 z.0 u.1 z.1 ca cb (ap fault_of x) (ap fault_of y) space in
      let l : numbers rs ≡ numbers ss = sym (ap numbers_in x) ∙ (n ∙ ap numbers_in y) in
      sym (length-map rs (λ (r : ℕ × Seen). r.0)) ∙ (ap length l ∙ length-map ss (λ (r : ℕ × Seen). r.0))

  pub aligned : AreAligned vs cut h
  aligned i a b v rs ss e t ci ca cb x y = even_made i a b v v.made rs ss e refl t ci ca cb x y
