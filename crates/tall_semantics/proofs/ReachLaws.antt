-- What a tree reads is what the value reaches, the rows of a space are read, and so a number is at least that of the
-- datastore's call.
use Rattle.std.specs.Prelude.{◌≡◌, refl, ℕ, zero, suc, ◌<◌, ◌≤◌, ◌⊎◌, Bool, true, false, ◌||◌, ◌==◌, None, Some, Ok, Err, List, [], ◌∷◌, map, slice_get}
use Rattle.std.proofs.Common.{ap, sym, subst, ◌∙◌, arith, inl, inr}
use Rattle.std.specs.Bool.{Decides}
use Rattle.std.specs.List.{list_any}
use Rattle.tall_value.specs.declared.class.Class.{Class}
use Rattle.tall_semantics.specs.Operations.{Op, constant, unary, binary, filter, reduce, scan, head, tail, distinct, group, Made, stored, operation, reads}
use Rattle.tall_semantics.specs.Spaces.{Space, single, rows_of, filtered, first, last, groups, is_single, store_of}
use Rattle.tall_semantics.specs.Spaces as spaces
use Rattle.tall_semantics.specs.Equality.{same_space}
use Rattle.tall_semantics.specs.Shapes.{Shape, common, masked, on_column, summary, place_of, tree_over, stored_shape}
use Rattle.tall_semantics.specs.Deferred.{Vertex, IsAmong, DependsOn, itself, through}
use Rattle.tall_semantics.specs.Numbered.{OfOneStore, AreNumbered}
use Rattle.tall_semantics.specs.Reach.{IsOfStore, Reaches}
use Rattle.tall_semantics.specs.ShapesInOrder.{made_shape, shape_at, IsMade}
use Rattle.tall_semantics.proofs.Basics.{inside, either}
use Rattle.tall_semantics.proofs.VariantLaws.{number_is, same_number}
use Rattle.tall_semantics.proofs.EqualityLaws.{spaces_decided}
use Rattle.tall_semantics.proofs.OriginLaws.{get_before, below_among}
use Rattle.tall_semantics.proofs.TreeLaws.{two_at_most}
use Rattle.tall_semantics.proofs.FitLaws.{space_of}
use Rattle.tall_semantics.proofs.ShapeLaws.{IsOneOf, shape_ok, space_ok, place_ok, refused, shaped_is, tested, column_is, placed_is, groups_of, group_spaces}
use Rattle.tall_semantics.proofs.ShapeLaws as placing
use Rattle.tall_semantics.proofs.ShapesInOrderLaws.{made_ordered, shapes_mean}

-- ---- one of a list

pub any_of : (p : ℕ → Bool) (args : List ℕ) → list_any p args ≡ true → (a : ℕ) × IsAmong args a × (p a ≡ true)
any_of p [] h = absurd (cc)
any_of p (a ∷ args) h = elim (either (p a) (list_any p args) h) [
  | inl e ↦ (a, inl refl, e)
  | inr r ↦ (let w = any_of p args r in (w.0, inr w.1, w.2))
]

or_right : (b d : Bool) → d ≡ true → (b || d) ≡ true
or_right true d h = refl
or_right false d h = h

or_left : (b d : Bool) → b ≡ true → (b || d) ≡ true
or_left true d h = refl
or_left false d h = absurd (cc)

pub of_any : (p : ℕ → Bool) (args : List ℕ) (a : ℕ) → IsAmong args a → p a ≡ true → list_any p args ≡ true
of_any p [] a h e = absurd h
of_any p (b ∷ args) a h e = elim h [
  | inl q ↦ or_left (p b) (list_any p args) (ap p q ∙ e)
  | inr r ↦ or_right (p b) (list_any p args) (of_any p args a r e)
]

pub one_of_args : (g : ℕ → Shape) (args : List ℕ) (x : Shape) → IsOneOf (map g args) x → (a : ℕ) × IsAmong args a × (g a ≡ x)
one_of_args g [] x h = absurd h
one_of_args g (a ∷ args) x h = elim h [ inl e ↦ (a, inl refl, e) | inr r ↦ (let w = one_of_args g args x r in (w.0, inr w.1, w.2)) ]

pub args_one_of : (g : ℕ → Shape) (args : List ℕ) (a : ℕ) → IsAmong args a → IsOneOf (map g args) (g a)
args_one_of g [] a h = absurd h
args_one_of g (b ∷ args) a h = elim h [ inl e ↦ inl (ap g e) | inr r ↦ inr (args_one_of g args a r) ]

-- ---- the datastore of a space

abbrev pub HasStore : ℕ → Shape → Type 0
HasStore s x = store_of x.space ≡ Some s

by_space : (s : ℕ) (t u : Space) → t ≡ u → store_of u ≡ Some s → store_of t ≡ Some s
by_space s t u e h = ap store_of e ∙ h

common_store : (s : ℕ) (x y : Shape) (u : Space) → common x.space y.space ≡ space_ok u → store_of u ≡ Some s → (store_of x.space ≡ Some s) ⊎ (store_of y.space ≡ Some s)
common_store s x y u h e = of_spaces x.space y.space h
  where
    of_spaces : (t v : Space) → common t v ≡ space_ok u → (store_of t ≡ Some s) ⊎ (store_of v ≡ Some s)
    of_spaces single v h = inr (by_space s v u (placing.inside v u h) e)
    of_spaces t single h = inl (by_space s t u (placing.inside t u h) e)
    of_spaces t v h = inl (by_space s t u (tested (same_space t v) t u h).1 e)

no_store : (s : ℕ) (t u : Space) → t ≡ u → store_of t ≡ None → store_of u ≡ Some s → ⊥
no_store s t u e n h = (let q : None ≡ Some s = sym n ∙ (ap store_of e ∙ h) in cc)

-- the rows of an accepted space are those of an operand
pub store_from : (s : ℕ) (op : Op) (xs : List Shape) (p : Class × Space) → place_of op xs ≡ place_ok p → store_of p.1 ≡ Some s → (x : Shape) × IsOneOf xs x × HasStore s x
store_from s (constant c) [] p h e = absurd (no_store s single p.1 (space_of _ single p h) refl e)
store_from s (constant c) (x ∷ xs) p h e = absurd (refused p h)
store_from s (binary op) [] p h e = absurd (refused p h)
store_from s (binary op) (x ∷ []) p h e = absurd (refused p h)
store_from s (binary op) (x ∷ y ∷ []) p h e = elim (common_store s x y p.1 (placed_is _ (common x.space y.space) p h) e) [
  | inl a ↦ (x, inl refl, a)
  | inr b ↦ (y, inr (inl refl), b)
]
store_from s (binary op) (x ∷ y ∷ z ∷ xs) p h e = absurd (refused p h)
store_from s (unary op) [] p h e = absurd (refused p h)
store_from s (unary op) (x ∷ []) p h e = (x, inl refl, by_space s x.space p.1 (placing.inside x.space p.1 (placed_is _ (space_ok x.space) p h)) e)
store_from s (unary op) (x ∷ y ∷ xs) p h e = absurd (refused p h)
store_from s filter [] p h e = absurd (refused p h)
store_from s filter (x ∷ []) p h e = absurd (refused p h)
store_from s filter (x ∷ m ∷ []) p h e =
    let q = (tested (same_space x.space m.space) (filtered x.space m.tree) p.1 (placed_is _ (masked x.space m.space m.tree) p (column_is m _ p (column_is x _ p h)))).1 in
    (x, inl refl, by_space s (filtered x.space m.tree) p.1 q e)
store_from s filter (x ∷ m ∷ z ∷ xs) p h e = absurd (refused p h)
store_from s (reduce r) [] p h e = absurd (refused p h)
store_from s (reduce r) (x ∷ []) p h e = absurd (no_store s single p.1 (placing.inside single p.1 (placed_is _ (space_ok single) p h)) refl e)
store_from s (reduce r) (x ∷ y ∷ xs) p h e = absurd (refused p h)
store_from s (scan f) [] p h e = absurd (refused p h)
store_from s (scan f) (x ∷ []) p h e = (x, inl refl, by_space s x.space p.1 (placing.inside x.space p.1 (placed_is _ (space_ok x.space) p (column_is x _ p h))) e)
store_from s (scan f) (x ∷ y ∷ xs) p h e = absurd (refused p h)
store_from s (head k) [] p h e = absurd (refused p h)
store_from s (head k) (x ∷ []) p h e = absurd (no_store s (first k x.space) p.1 (space_of _ (first k x.space) p (column_is x _ p h)) refl e)
store_from s (head k) (x ∷ y ∷ xs) p h e = absurd (refused p h)
store_from s (tail k) [] p h e = absurd (refused p h)
store_from s (tail k) (x ∷ []) p h e = absurd (no_store s (last k x.space) p.1 (space_of _ (last k x.space) p (column_is x _ p h)) refl e)
store_from s (tail k) (x ∷ y ∷ xs) p h e = absurd (refused p h)
store_from s distinct [] p h e = absurd (refused p h)
store_from s distinct (x ∷ []) p h e = absurd (no_store s (spaces.distinct x.tree) p.1 (space_of _ (spaces.distinct x.tree) p (column_is x _ p h)) refl e)
store_from s distinct (x ∷ y ∷ xs) p h e = absurd (refused p h)
store_from s (group m part) [] p h e = absurd (refused p h)
store_from s (group m part) (g ∷ xs) p h e = (let w = groups_of m part g xs p h in absurd (no_store s (groups w.0 g.tree w.1) p.1 w.2 refl e))

-- ---- operands with rows have those of one datastore

one_number : (s t : ℕ) (u v : Space) → u ≡ v → store_of u ≡ Some s → store_of v ≡ Some t → s ≡ t
one_number s t u v e g h = inside s t (sym g ∙ (ap store_of e ∙ h))

of_one : (s t : ℕ) (z x y : Shape) → IsOneOf (z ∷ []) x → IsOneOf (z ∷ []) y → HasStore s x → HasStore t y → s ≡ t
of_one s t z x y i j g h = elim i [
  | inl a ↦ elim j [ inl b ↦ one_number s t x.space y.space (ap (λ (w : Shape). w.space) (sym a ∙ b)) g h | inr n ↦ absurd n ]
  | inr n ↦ absurd n
]

-- of two operands where both have a datastore, each pair has one
of_two : (s t : ℕ) (z w x y : Shape) → ((a b : ℕ) → HasStore a z → HasStore b w → a ≡ b) → IsOneOf (z ∷ w ∷ []) x → IsOneOf (z ∷ w ∷ []) y → HasStore s x → HasStore t y → s ≡ t
of_two s t z w x y one i j g h = elim i [
  | inl a ↦ elim j [
    | inl b ↦ one_number s t x.space y.space (ap (λ (u : Shape). u.space) (sym a ∙ b)) g h
    | inr r ↦ elim r [ inl b ↦ one s t (by_space s z.space x.space (ap (λ (u : Shape). u.space) a) g) (by_space t w.space y.space (ap (λ (u : Shape). u.space) b) h) | inr n ↦ absurd n ]
  ]
  | inr r ↦ elim r [
    | inl a ↦ elim j [
      | inl b ↦ sym (one t s (by_space t z.space y.space (ap (λ (u : Shape). u.space) b) h) (by_space s w.space x.space (ap (λ (u : Shape). u.space) a) g))
      | inr q ↦ elim q [ inl b ↦ one_number s t x.space y.space (ap (λ (u : Shape). u.space) (sym a ∙ b)) g h | inr n ↦ absurd n ]
    ]
    | inr n ↦ absurd n
  ]
]

common_one : (z w : Shape) (u : Space) → common z.space w.space ≡ space_ok u → (a b : ℕ) → HasStore a z → HasStore b w → a ≡ b
common_one z w u h a b = of_spaces z.space w.space h
  where
    of_spaces : (t v : Space) → common t v ≡ space_ok u → store_of t ≡ Some a → store_of v ≡ Some b → a ≡ b
    of_spaces single v h g k = absurd (cc)
    of_spaces t single h g k = absurd (cc)
    of_spaces t v h g k = one_number a b t v ((spaces_decided t v).0 (tested (same_space t v) t u h).0) g k

pub stores_agree : (op : Op) (xs : List Shape) (p : Class × Space) → place_of op xs ≡ place_ok p → (s t : ℕ) (x y : Shape) → IsOneOf xs x → IsOneOf xs y → HasStore s x → HasStore t y → s ≡ t
stores_agree op [] p h s t x y i j g k = absurd i
stores_agree op (z ∷ []) p h s t x y i j g k = of_one s t z x y i j g k
stores_agree (binary op) (z ∷ w ∷ []) p h s t x y i j g k = of_two s t z w x y (common_one z w p.1 (placed_is _ (common z.space w.space) p h)) i j g k
stores_agree filter (z ∷ m ∷ []) p h s t x y i j g k =
    let q = (tested (same_space z.space m.space) (filtered z.space m.tree) p.1 (placed_is _ (masked z.space m.space m.tree) p (column_is m _ p (column_is z _ p h)))).0 in
    of_two s t z m x y (λ a b c d. one_number a b z.space m.space ((spaces_decided z.space m.space).0 q) c d) i j g k
stores_agree (group m part) (z ∷ v ∷ []) p h s t x y i j g k =
    let q = group_spaces m part z v p (column_is v (summary m part z v) p (column_is z (on_column v (summary m part z v)) p h)) in
    of_two s t z v x y (λ a b c d. one_number a b z.space v.space q c d) i j g k
stores_agree (constant c) (z ∷ w ∷ []) p h s t x y i j g k = absurd (refused p h)
stores_agree (unary op) (z ∷ w ∷ []) p h s t x y i j g k = absurd (refused p h)
stores_agree (reduce r) (z ∷ w ∷ []) p h s t x y i j g k = absurd (refused p h)
stores_agree (scan f) (z ∷ w ∷ []) p h s t x y i j g k = absurd (refused p h)
stores_agree (head n) (z ∷ w ∷ []) p h s t x y i j g k = absurd (refused p h)
stores_agree (tail n) (z ∷ w ∷ []) p h s t x y i j g k = absurd (refused p h)
stores_agree distinct (z ∷ w ∷ []) p h s t x y i j g k = absurd (refused p h)
stores_agree op (z ∷ w ∷ u ∷ us) p h s t x y i j g k = absurd (two_at_most op z w u us p h)

-- ---- vertices

or_false : (b : Bool) → (b || false) ≡ b
or_false true = refl
or_false false = refl

pub inverted : (vs : List Vertex) (i j : ℕ) → DependsOn vs i j → (i ≡ j) ⊎ ((a : ℕ) × (v : Vertex) × (slice_get vs i ≡ Some v) × IsAmong v.args a × DependsOn vs a j)
inverted vs i j (itself k) = inl refl
inverted vs i j (through k a l v e among d) = inr (a, v, e, among, d)

not_stored : (s : ℕ) (m : Made) (op : Op) → m ≡ operation op → IsOfStore s m → ⊥
not_stored s m op e h = subst (IsOfStore s) e h

module _ (vs : List Vertex) (made : IsMade vs) where
  stored_alone : (i : ℕ) (v : Vertex) (s b : ℕ) (c : Class) → slice_get vs i ≡ Some v → v.made ≡ stored s b c → (v.args ≡ []) × (stored_shape s b c ≡ shape_at vs i)
  stored_alone i v s b c e q = of_args v.args (subst (λ m. made_shape m (map (shape_at vs) v.args) ≡ shape_ok (shape_at vs i)) q (shapes_mean vs made i v e))
    where
      of_args : (args : List ℕ) → made_shape (stored s b c) (map (shape_at vs) args) ≡ shape_ok (shape_at vs i) → (args ≡ []) × (stored_shape s b c ≡ shape_at vs i)
      of_args [] h = (refl, ap (λ r. elim r [ Ok t ↦ t | Err x ↦ stored_shape s b c ]) h)
      of_args (a ∷ args) h = absurd (cc)

  pub placed_at : (i : ℕ) (v : Vertex) (op : Op) → slice_get vs i ≡ Some v → v.made ≡ operation op → (p : Class × Space) × (place_of op (map (shape_at vs) v.args) ≡ place_ok p) × (p.1 ≡ (shape_at vs i).space)
  placed_at i v op e q =
      let w = shaped_is op (map (shape_at vs) v.args) (place_of op (map (shape_at vs) v.args)) (shape_at vs i) (subst (λ m. made_shape m (map (shape_at vs) v.args) ≡ shape_ok (shape_at vs i)) q (shapes_mean vs made i v e)) in
      (w.0, w.1, ap (λ (t : Shape). t.space) w.2)

  tree_reads : (s : ℕ) (op : Op) (args : List ℕ) (p : Class × Space) → place_of op (map (shape_at vs) args) ≡ place_ok p → reads s (tree_over op (map (shape_at vs) args)) ≡ list_any (λ a. reads s (shape_at vs a).tree) args
  tree_reads s op [] p h = refl
  tree_reads s op (a ∷ []) p h = sym (or_false (reads s (shape_at vs a).tree))
  tree_reads s op (a ∷ b ∷ []) p h = ap (λ d. reads s (shape_at vs a).tree || d) (sym (or_false (reads s (shape_at vs b).tree)))
  tree_reads s op (a ∷ b ∷ d ∷ args) p h = absurd (two_at_most op (shape_at vs a) (shape_at vs b) (shape_at vs d) (map (shape_at vs) args) p h)

  reads_made : (s i : ℕ) (v : Vertex) (op : Op) → slice_get vs i ≡ Some v → v.made ≡ operation op → reads s (shape_at vs i).tree ≡ list_any (λ a. reads s (shape_at vs a).tree) v.args
  reads_made s i v op e q =
      let w = shaped_is op (map (shape_at vs) v.args) (place_of op (map (shape_at vs) v.args)) (shape_at vs i) (subst (λ m. made_shape m (map (shape_at vs) v.args) ≡ shape_ok (shape_at vs i)) q (shapes_mean vs made i v e)) in
      ap (λ (t : Shape). reads s t.tree) (sym w.2) ∙ tree_reads s op v.args w.0 w.1

  reads_stored : (s i : ℕ) (v : Vertex) (t b : ℕ) (c : Class) → slice_get vs i ≡ Some v → v.made ≡ stored t b c → reads s (shape_at vs i).tree ≡ (t == s)
  reads_stored s i v t b c e q = ap (λ (x : Shape). reads s x.tree) (sym (stored_alone i v t b c e q).1)

  before : (i a : ℕ) (v : Vertex) → slice_get vs i ≡ Some v → IsAmong v.args a → (a < i) × ((w : Vertex) × (slice_get vs a ≡ Some w))
  before i a v e h = (let l : a < i = below_among i v.args a (made_ordered vs made i v e) h in (l, get_before vs i a v e l))

  -- ---- what is read is reached

  reached : (s n i : ℕ) (v : Vertex) (m : Made) → i < n → slice_get vs i ≡ Some v → v.made ≡ m → reads s (shape_at vs i).tree ≡ true → Reaches vs s i
  reached s zero i v m l e q h = absurd (omega (arith, l))
  reached s (suc n) i v (stored t b c) l e q h =
      let r : s ≡ t = sym (number_is t s (sym (reads_stored s i v t b c e q) ∙ h)) in
      (i, v, itself i, e, subst (IsOfStore s) (sym q) r)
  reached s (suc n) i v (operation op) l e q h =
      let w = any_of (λ a. reads s (shape_at vs a).tree) v.args (sym (reads_made s i v op e q) ∙ h) in
      let b = before i w.0 v e w.1 in
      let r = reached s n w.0 b.1.0 b.1.0.made (omega (arith, l, b.0)) b.1.1 refl w.2 in
      (r.0, r.1, through i w.0 r.0 v e w.1 r.2, r.3, r.4)

  read : (s n i : ℕ) (v : Vertex) (m : Made) → i < n → slice_get vs i ≡ Some v → v.made ≡ m → Reaches vs s i → reads s (shape_at vs i).tree ≡ true
  read s zero i v m l e q h = absurd (omega (arith, l))
  read s (suc n) i v (stored t b c) l e q h = elim (inverted vs i h.0 h.2) [
    | inl same ↦
        let u : v ≡ h.1 = inside v h.1 (sym e ∙ (ap (slice_get vs) same ∙ h.3)) in
        let o : s ≡ t = subst (IsOfStore s) (ap (λ (x : Vertex). x.made) (sym u) ∙ q) h.4 in
        reads_stored s i v t b c e q ∙ (ap (λ k. k == s) (sym o) ∙ same_number s)
    | inr more ↦
        let u : more.1 ≡ v = inside more.1 v (sym more.2 ∙ e) in
        absurd (subst (λ args. IsAmong args more.0) (ap (λ (x : Vertex). x.args) u ∙ (stored_alone i v t b c e q).0) more.3)
  ]
  read s (suc n) i v (operation op) l e q h = elim (inverted vs i h.0 h.2) [
    | inl same ↦
        let u : v ≡ h.1 = inside v h.1 (sym e ∙ (ap (slice_get vs) same ∙ h.3)) in
        absurd (not_stored s h.1.made op (ap (λ (x : Vertex). x.made) (sym u) ∙ q) h.4)
    | inr more ↦
        let u : more.1 ≡ v = inside more.1 v (sym more.2 ∙ e) in
        let among : IsAmong v.args more.0 = subst (λ (x : Vertex). IsAmong x.args more.0) u more.3 in
        let b = before i more.0 v e among in
        let r = read s n more.0 b.1.0 b.1.0.made (omega (arith, l, b.0)) b.1.1 refl (h.0, h.1, more.4, h.3, h.4) in
        reads_made s i v op e q ∙ of_any (λ a. reads s (shape_at vs a).tree) v.args more.0 among r
  ]

  pub reads_decided : (s i : ℕ) (v : Vertex) → slice_get vs i ≡ Some v → Decides (reads s (shape_at vs i).tree) (Reaches vs s i)
  reads_decided s i v e = (λ h. reached s (suc i) i v v.made (omega (arith)) e refl h, λ h. read s (suc i) i v v.made (omega (arith)) e refl h)

  -- ---- the rows of a space are read

  rows_read_below : (s n i : ℕ) (v : Vertex) (m : Made) → i < n → slice_get vs i ≡ Some v → v.made ≡ m → store_of (shape_at vs i).space ≡ Some s → reads s (shape_at vs i).tree ≡ true
  rows_read_below s zero i v m l e q h = absurd (omega (arith, l))
  rows_read_below s (suc n) i v (stored t b c) l e q h =
      let r : t ≡ s = inside t s (ap (λ (x : Shape). store_of x.space) (stored_alone i v t b c e q).1 ∙ h) in
      reads_stored s i v t b c e q ∙ (ap (λ k. k == s) r ∙ same_number s)
  rows_read_below s (suc n) i v (operation op) l e q h =
      let p = placed_at i v op e q in
      let x = store_from s op (map (shape_at vs) v.args) p.0 p.1 (ap store_of p.2 ∙ h) in
      let a = one_of_args (shape_at vs) v.args x.0 x.1 in
      let b = before i a.0 v e a.1 in
      let r = rows_read_below s n a.0 b.1.0 b.1.0.made (omega (arith, l, b.0)) b.1.1 refl (ap (λ (y : Shape). store_of y.space) a.2 ∙ x.2) in
      reads_made s i v op e q ∙ of_any (λ k. reads s (shape_at vs k).tree) v.args a.0 a.1 r

  pub rows_read : (s i : ℕ) (v : Vertex) → slice_get vs i ≡ Some v → store_of (shape_at vs i).space ≡ Some s → reads s (shape_at vs i).tree ≡ true
  rows_read s i v e h = rows_read_below s (suc i) i v v.made (omega (arith)) e refl h

  -- an operand's datastores are read
  pub operand_read : (s i a : ℕ) (v : Vertex) → slice_get vs i ≡ Some v → IsAmong v.args a → reads s (shape_at vs a).tree ≡ true → reads s (shape_at vs i).tree ≡ true
  operand_read s i a v e among h =
      let b = before i a v e among in
      let r = (reads_decided s a b.1.0 b.1.1).0 h in
      (reads_decided s i v e).1 (r.0, r.1, through i a r.0 v e among r.2, r.3, r.4)

  -- ---- numbers

  module _ (numbered : AreNumbered vs) where
    along : (i j : ℕ) (v w : Vertex) → slice_get vs i ≡ Some v → slice_get vs j ≡ Some w → DependsOn vs i j → w.at.number ≤ v.at.number
    along i j v w e g (itself k) = (let u : v ≡ w = inside v w (sym e ∙ g) in subst (λ (x : Vertex). w.at.number ≤ x.at.number) (sym u) (omega (arith)))
    along i j v w e g (through k a l x f among d) =
        let u : x ≡ v = inside x v (sym f ∙ e) in
        let in_args : IsAmong v.args a = subst (λ (y : Vertex). IsAmong y.args a) u among in
        let b = before k a v e in_args in
        let one : b.1.0.at.number ≤ v.at.number = numbered.lower k a v b.1.0 e in_args b.1.1 in
        let more : w.at.number ≤ b.1.0.at.number = along a l b.1.0 w b.1.1 g d in
        omega (arith, one, more)

    pub not_before_the_call : (s i j : ℕ) (v w : Vertex) → slice_get vs i ≡ Some v → slice_get vs j ≡ Some w → IsOfStore s w.made → reads s (shape_at vs i).tree ≡ true → w.at.number ≤ v.at.number
    not_before_the_call s i j v w e g o h =
        let r = (reads_decided s i v e).0 h in
        let one : r.1.at.number ≤ v.at.number = along i r.0 v r.1 e r.3 r.2 in
        let same : w.at ≡ r.1.at = numbered.calls j r.0 w r.1 g r.3 (of_one_call w.made r.1.made o r.4) in
        subst (λ (x : ℕ). x ≤ v.at.number) (sym (ap (λ x. x.number) same)) one
      where
        of_one_call : (m n : Made) → IsOfStore s m → IsOfStore s n → OfOneStore m n
        of_one_call (stored t b c) (stored u d k) p q = sym p ∙ q
        of_one_call (stored t b c) (operation op) p q = absurd q
        of_one_call (operation op) n p q = absurd p
