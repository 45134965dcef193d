-- What has a datastore's rows is a variable of it, or made of such values by an operator, a filter or a scan.
use Rattle.std.specs.Prelude.{◌≡◌, refl, ℕ, Bool, true, false, Some, List, [], ◌∷◌, map, slice_get}
use Rattle.std.proofs.Common.{ap, sym, subst, ◌∙◌, inl, inr}
use Rattle.tall_value.specs.declared.class.Class.{Class}
use Rattle.tall_semantics.specs.Operations.{Op, constant, unary, binary, filter, reduce, scan, head, tail, distinct, group, Made, stored, operation}
use Rattle.tall_semantics.specs.Spaces.{Space, single, rows_of, filtered, first, last, groups, is_single, store_of}
use Rattle.tall_semantics.specs.Spaces as spaces
use Rattle.tall_semantics.specs.Equality.{same_space}
use Rattle.tall_semantics.specs.Shapes.{Shape, place_of, common, masked}
use Rattle.tall_semantics.specs.Talls.{Tall, Columns, shapes, made_tall}
use Rattle.tall_semantics.specs.Deferred.{Vertex, IsMeaning, IsAmong}
use Rattle.tall_blocks.specs.Cut.{IsKnownScalar, CanBeCut, AreCut, AreOfStore}
use Rattle.tall_semantics.proofs.EqualityLaws.{spaces_decided}
use Rattle.tall_blocks.proofs.Choices.{true_or_false}
use Rattle.tall_semantics.proofs.FitLaws.{space_of}
use Rattle.tall_semantics.proofs.MeaningLaws.{tall_ok, made_value, tall_shape}
use Rattle.tall_semantics.proofs.ShapeLaws.{place_ok, space_ok, shaped_is, placed_is, column_is, tested, inside, refused, groups_of}
use Rattle.tall_semantics.proofs.SpaceLaws.{common_is}

pub not_single : (s : ℕ) (u : Space) → store_of u ≡ Some s → is_single u ≡ false
not_single s single e = absurd (cc)
not_single s (rows_of t) e = refl
not_single s (filtered u t) e = refl
not_single s (first k u) e = refl
not_single s (last k u) e = refl
not_single s (spaces.distinct t) e = refl
not_single s (groups m k d) e = refl

in_single : (s : ℕ) (u : Space) → is_single u ≡ true → store_of u ≡ Some s → ⊥
in_single s u h e = (let n : is_single u ≡ false = not_single s u e in cc)

module _ (s : ℕ) (f : ℕ → Tall) (cut : ℕ → Bool) where
  moved : (u w : Space) → u ≡ w → store_of w ≡ Some s → store_of u ≡ Some s
  moved u w e h = ap store_of e ∙ h

  can_op : (op : Op) (args : List ℕ) (p : Class × Space) → place_of op (shapes (map f args)) ≡ place_ok p → store_of p.1 ≡ Some s
      → ((a : ℕ) → IsAmong args a → store_of (f a).shape.space ≡ Some s → cut a ≡ true) → ((a : ℕ) → IsAmong args a → is_single (f a).shape.space ≡ true → IsKnownScalar f cut a)
      → CanBeCut f cut (operation op) args
  can_op (constant c) [] p h r cuts known = absurd (in_single s p.1 (ap is_single (sym (space_of _ single p h))) r)
  can_op (constant c) (a ∷ args) p h r cuts known = absurd (refused p h)
  can_op (unary op) [] p h r cuts known = absurd (refused p h)
  can_op (unary op) (a ∷ []) p h r cuts known = cuts a (inl refl) (moved (f a).shape.space p.1 (inside (f a).shape.space p.1 (placed_is _ (space_ok (f a).shape.space) p h)) r)
  can_op (unary op) (a ∷ b ∷ args) p h r cuts known = absurd (refused p h)
  can_op (binary op) [] p h r cuts known = absurd (refused p h)
  can_op (binary op) (a ∷ []) p h r cuts known = absurd (refused p h)
  can_op (binary op) (a ∷ b ∷ []) p h r cuts known =
      let w = common_is (f a).shape.space (f b).shape.space p.1 (placed_is _ (common (f a).shape.space (f b).shape.space) p h) in
      elim (true_or_false (is_single (f a).shape.space)) [
        | inl sa ↦ elim (true_or_false (is_single (f b).shape.space)) [
          | inl sb ↦ absurd (in_single s p.1 (ap is_single (sym (w.2 sa sb))) r)
          | inr nb ↦ inr (inr (known a (inl refl) sa, cuts b (inr (inl refl)) (moved (f b).shape.space p.1 (w.1 nb) r)))
        ]
        | inr na ↦
            let ca : cut a ≡ true = cuts a (inl refl) (moved (f a).shape.space p.1 (w.0 na) r) in
            elim (true_or_false (is_single (f b).shape.space)) [
              | inl sb ↦ inr (inl (ca, known b (inr (inl refl)) sb))
              | inr nb ↦ inl (ca, cuts b (inr (inl refl)) (moved (f b).shape.space p.1 (w.1 nb) r))
            ]
      ]
  can_op (binary op) (a ∷ b ∷ d ∷ args) p h r cuts known = absurd (refused p h)
  can_op filter [] p h r cuts known = absurd (refused p h)
  can_op filter (a ∷ []) p h r cuts known = absurd (refused p h)
  can_op filter (a ∷ m ∷ []) p h r cuts known =
      let q = placed_is _ (masked (f a).shape.space (f m).shape.space (f m).shape.tree) p (column_is (f m).shape _ p (column_is (f a).shape _ p h)) in
      let t = tested (same_space (f a).shape.space (f m).shape.space) (filtered (f a).shape.space (f m).shape.tree) p.1 q in
      let ra : store_of (f a).shape.space ≡ Some s = moved (filtered (f a).shape.space (f m).shape.tree) p.1 t.1 r in
      (cuts a (inl refl) ra, cuts m (inr (inl refl)) (ap store_of (sym ((spaces_decided (f a).shape.space (f m).shape.space).0 t.0)) ∙ ra))
  can_op filter (a ∷ m ∷ d ∷ args) p h r cuts known = absurd (refused p h)
  can_op (scan k) [] p h r cuts known = absurd (refused p h)
  can_op (scan k) (a ∷ []) p h r cuts known = cuts a (inl refl) (moved (f a).shape.space p.1 (inside (f a).shape.space p.1 (placed_is _ (space_ok (f a).shape.space) p (column_is (f a).shape _ p h))) r)
  can_op (scan k) (a ∷ b ∷ args) p h r cuts known = absurd (refused p h)
  can_op (reduce k) [] p h r cuts known = absurd (refused p h)
  can_op (reduce k) (a ∷ []) p h r cuts known = absurd (in_single s p.1 (ap is_single (sym (inside single p.1 (placed_is _ (space_ok single) p h)))) r)
  can_op (reduce k) (a ∷ b ∷ args) p h r cuts known = absurd (refused p h)
  can_op (head k) [] p h r cuts known = absurd (refused p h)
  can_op (head k) (a ∷ []) p h r cuts known = absurd (let z : store_of (first k (f a).shape.space) ≡ Some s = moved (first k (f a).shape.space) p.1 (space_of _ (first k (f a).shape.space) p (column_is (f a).shape _ p h)) r in cc)
  can_op (head k) (a ∷ b ∷ args) p h r cuts known = absurd (refused p h)
  can_op (tail k) [] p h r cuts known = absurd (refused p h)
  can_op (tail k) (a ∷ []) p h r cuts known = absurd (let z : store_of (last k (f a).shape.space) ≡ Some s = moved (last k (f a).shape.space) p.1 (space_of _ (last k (f a).shape.space) p (column_is (f a).shape _ p h)) r in cc)
  can_op (tail k) (a ∷ b ∷ args) p h r cuts known = absurd (refused p h)
  can_op distinct [] p h r cuts known = absurd (refused p h)
  can_op distinct (a ∷ []) p h r cuts known = absurd (let z : store_of (spaces.distinct (f a).shape.tree) ≡ Some s = moved (spaces.distinct (f a).shape.tree) p.1 (space_of _ (spaces.distinct (f a).shape.tree) p (column_is (f a).shape _ p h)) r in cc)
  can_op distinct (a ∷ b ∷ args) p h r cuts known = absurd (refused p h)
  can_op (group m part) [] p h r cuts known = absurd (refused p h)
  can_op (group m part) (g ∷ xs) p h r cuts known = (let w = groups_of m part (f g).shape (shapes (map f xs)) p h in absurd (let z : store_of (groups w.0 (f g).shape.tree w.1) ≡ Some s = moved (groups w.0 (f g).shape.tree w.1) p.1 w.2 r in cc))

no_args : (columns : Columns) (v : Vertex) (s b : ℕ) (c : Class) (f : ℕ → Tall) (args : List ℕ) (t : Tall) → made_tall columns v.at (stored s b c) (map f args) ≡ tall_ok t → args ≡ []
no_args columns v s b c f [] t h = refl
no_args columns v s b c f (d ∷ args) t h = absurd (cc)

module _ (columns : Columns) (vs : List Vertex) (f : ℕ → Tall) (cut : ℕ → Bool) (s : ℕ) (meaning : IsMeaning columns vs f) (of_store : AreOfStore s vs f cut) where
  can_made : (i : ℕ) (v : Vertex) (m : Made) → slice_get vs i ≡ Some v → v.made ≡ m → cut i ≡ true → CanBeCut f cut m v.args
  can_made i v (stored t b c) e q is_cut = no_args columns v t b c f v.args (f i) (subst (λ m. made_tall columns v.at m (map f v.args) ≡ tall_ok (f i)) q (meaning i v e))
  can_made i v (operation op) e q is_cut =
      let w = shaped_is op (shapes (map f v.args)) (place_of op (shapes (map f v.args))) (f i).shape (tall_shape v.at op (map f v.args) (f i) (made_value columns vs f meaning i v op e q)) in
      can_op s f cut op v.args w.0 w.1 (ap (λ (t : Shape). store_of t.space) w.2 ∙ of_store.rows_here i v e is_cut)
      (λ a among r. of_store.operands_cut i a v e is_cut among r) (λ a among r. of_store.scalars_known i a v e is_cut among r)

  pub are_cut : AreCut f cut vs
  are_cut i v e is_cut = can_made i v v.made e refl is_cut
