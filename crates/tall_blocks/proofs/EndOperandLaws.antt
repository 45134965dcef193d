-- What has no datastore's rows, but an operand that has them, needs all rows, and is no scan; and all its operands have them.
use Rattle.std.specs.Prelude.{◌≡◌, refl, ℕ, true, false, None, Some, List, [], ◌∷◌, map, slice_get}
use Rattle.std.proofs.Common.{ap, sym, subst, ◌∙◌, inl, inr}
use Rattle.tall_value.specs.declared.class.Class.{Class}
use Rattle.tall_semantics.specs.Operations.{Op, constant, unary, binary, filter, reduce, scan, head, tail, distinct, group, operation}
use Rattle.tall_semantics.specs.Spaces.{Space, filtered, store_of}
use Rattle.tall_semantics.specs.Equality.{same_space}
use Rattle.tall_semantics.specs.Shapes.{Shape, place_of, common, masked, on_column}
use Rattle.tall_semantics.specs.Shapes as shaping
use Rattle.tall_semantics.specs.Talls.{Tall, Columns, shapes}
use Rattle.tall_semantics.specs.Chains.{needs_all_rows}
use Rattle.tall_semantics.specs.Deferred.{Vertex, IsMeaning, IsAmong}
use Rattle.tall_semantics.specs.Plans.{is_scan}
use Rattle.tall_semantics.proofs.EqualityLaws.{spaces_decided}
use Rattle.tall_semantics.proofs.MeaningLaws.{made_value, tall_shape}
use Rattle.tall_semantics.proofs.ShapeLaws.{place_ok, space_ok, shaped_is, placed_is, column_is, tested, inside, refused, group_spaces}
use Rattle.tall_semantics.proofs.SpaceLaws.{common_is}
use Rattle.tall_blocks.proofs.CutLaws.{not_single}

module _ (s : ℕ) (f : ℕ → Tall) where
  abbrev HasRowsOf : ℕ → Type 0
  HasRowsOf a = store_of (f a).shape.space ≡ Some s

  abbrev pub IsEnded : Op → List ℕ → Type 0
  IsEnded op args = (needs_all_rows (operation op) ≡ true) × (is_scan (operation op) ≡ false) × ((b : ℕ) → IsAmong args b → store_of (f b).shape.space ≡ Some s)

  -- the result would have the operand's rows
  kept_rows : (a : ℕ) (u : Space) → (f a).shape.space ≡ u → HasRowsOf a → store_of u ≡ None → ⊥
  kept_rows a u e h n = (let z : Some s ≡ None = sym h ∙ (ap store_of e ∙ n) in cc)

  only_one : (a b : ℕ) → IsAmong (a ∷ []) b → HasRowsOf b → (d : ℕ) → IsAmong (a ∷ []) d → store_of (f d).shape.space ≡ Some s
  only_one a b m h d g = elim m [
    | inl e ↦ elim g [ inl t ↦ subst HasRowsOf t (subst HasRowsOf (sym e) h) | inr z ↦ absurd z ]
    | inr z ↦ absurd z
  ]

  both_rows : (a b d : ℕ) → (f a).shape.space ≡ (f b).shape.space → IsAmong (a ∷ b ∷ []) d → HasRowsOf d → (e : ℕ) → IsAmong (a ∷ b ∷ []) e → store_of (f e).shape.space ≡ Some s
  both_rows a b d same m h e g =
      let ra : HasRowsOf a = elim m [
        | inl t ↦ subst HasRowsOf (sym t) h
        | inr r ↦ elim r [ inl t ↦ ap store_of same ∙ subst HasRowsOf (sym t) h | inr z ↦ absurd z ]
      ] in
      elim g [
        | inl t ↦ subst HasRowsOf t ra
        | inr r ↦ elim r [ inl t ↦ subst HasRowsOf t (ap store_of (sym same) ∙ ra) | inr z ↦ absurd z ]
      ]

  ended : (op : Op) (args : List ℕ) (p : Class × Space) → place_of op (shapes (map f args)) ≡ place_ok p → store_of p.1 ≡ None → (a : ℕ) → IsAmong args a → HasRowsOf a → IsEnded op args
  ended (constant c) [] p h n a m r = absurd m
  ended (constant c) (b ∷ args) p h n a m r = absurd (refused p h)
  ended (unary op) [] p h n a m r = absurd m
  ended (unary op) (b ∷ []) p h n a m r =
      absurd (kept_rows b p.1 (inside (f b).shape.space p.1 (placed_is _ (space_ok (f b).shape.space) p h)) (only_one b a m r b (inl refl)) n)
  ended (unary op) (b ∷ d ∷ args) p h n a m r = absurd (refused p h)
  ended (binary op) [] p h n a m r = absurd m
  ended (binary op) (b ∷ []) p h n a m r = absurd (refused p h)
  ended (binary op) (b ∷ d ∷ []) p h n a m r =
      let w = common_is (f b).shape.space (f d).shape.space p.1 (placed_is _ (common (f b).shape.space (f d).shape.space) p h) in
      absurd (elim m [
        | inl e ↦ (let rb : HasRowsOf b = subst HasRowsOf (sym e) r in kept_rows b p.1 (w.0 (not_single s (f b).shape.space rb)) rb n)
        | inr k ↦ elim k [ inl e ↦ (let rd : HasRowsOf d = subst HasRowsOf (sym e) r in kept_rows d p.1 (w.1 (not_single s (f d).shape.space rd)) rd n) | inr z ↦ z ]
      ])
  ended (binary op) (b ∷ d ∷ g ∷ args) p h n a m r = absurd (refused p h)
  ended filter [] p h n a m r = absurd m
  ended filter (b ∷ []) p h n a m r = absurd (refused p h)
  ended filter (b ∷ k ∷ []) p h n a m r =
      let q = placed_is _ (masked (f b).shape.space (f k).shape.space (f k).shape.tree) p (column_is (f k).shape _ p (column_is (f b).shape _ p h)) in
      let t = tested (same_space (f b).shape.space (f k).shape.space) (filtered (f b).shape.space (f k).shape.tree) p.1 q in
      let same : (f b).shape.space ≡ (f k).shape.space = (spaces_decided (f b).shape.space (f k).shape.space).0 t.0 in
      let rb : HasRowsOf b = both_rows b k a same m r b (inl refl) in
      absurd (let z : Some s ≡ None = sym rb ∙ (ap store_of t.1 ∙ n) in cc)
  ended filter (b ∷ k ∷ d ∷ args) p h n a m r = absurd (refused p h)
  ended (scan k) [] p h n a m r = absurd m
  ended (scan k) (b ∷ []) p h n a m r =
      absurd (kept_rows b p.1 (inside (f b).shape.space p.1 (placed_is _ (space_ok (f b).shape.space) p (column_is (f b).shape _ p h))) (only_one b a m r b (inl refl)) n)
  ended (scan k) (b ∷ d ∷ args) p h n a m r = absurd (refused p h)
  ended (reduce k) [] p h n a m r = absurd m
  ended (reduce k) (b ∷ []) p h n a m r = (refl, refl, only_one b a m r)
  ended (reduce k) (b ∷ d ∷ args) p h n a m r = absurd (refused p h)
  ended (head k) [] p h n a m r = absurd m
  ended (head k) (b ∷ []) p h n a m r = (refl, refl, only_one b a m r)
  ended (head k) (b ∷ d ∷ args) p h n a m r = absurd (refused p h)
  ended (tail k) [] p h n a m r = absurd m
  ended (tail k) (b ∷ []) p h n a m r = (refl, refl, only_one b a m r)
  ended (tail k) (b ∷ d ∷ args) p h n a m r = absurd (refused p h)
  ended distinct [] p h n a m r = absurd m
  ended distinct (b ∷ []) p h n a m r = (refl, refl, only_one b a m r)
  ended distinct (b ∷ d ∷ args) p h n a m r = absurd (refused p h)
  ended (group k part) [] p h n a m r = absurd m
  ended (group k part) (b ∷ []) p h n a m r = (refl, refl, only_one b a m r)
  ended (group k part) (b ∷ d ∷ []) p h n a m r =
      (refl, refl, both_rows b d a (group_spaces k part (f b).shape (f d).shape p (column_is (f d).shape (shaping.summary k part (f b).shape (f d).shape) p (column_is (f b).shape (on_column (f d).shape (shaping.summary k part (f b).shape (f d).shape)) p h))) m r)
  ended (group k part) (b ∷ d ∷ g ∷ args) p h n a m r = absurd (refused p h)

pub end_operands : (columns : Columns) (vs : List Vertex) (f : ℕ → Tall) → IsMeaning columns vs f → (s i a : ℕ) (v : Vertex) (op : Op) → slice_get vs i ≡ Some v → v.made ≡ operation op → store_of (f i).shape.space ≡ None → IsAmong v.args a
    → store_of (f a).shape.space ≡ Some s → (needs_all_rows (operation op) ≡ true) × (is_scan (operation op) ≡ false) × ((b : ℕ) → IsAmong v.args b → store_of (f b).shape.space ≡ Some s)
end_operands columns vs f meaning s i a v op e q none among here =
    let shaped = tall_shape v.at op (map f v.args) (f i) (made_value columns vs f meaning i v op e q) in
    let w = shaped_is op (shapes (map f v.args)) (place_of op (shapes (map f v.args))) (f i).shape shaped in
    ended s f op v.args w.0 w.1 (ap (λ (t : Shape). store_of t.space) w.2 ∙ none) a among here
