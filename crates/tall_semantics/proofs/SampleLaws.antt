-- What the laws ask of a list of vertices is met by a small one.
use Rattle.std.specs.Prelude.{◌∷◌, [], ◌≡◌, refl, ℕ, zero, suc, pos, Some, slice_get}
use Rattle.std.proofs.Common.{ap, subst, ◌∙◌, arith}
use Rattle.std.proofs.lemmas.List.Elements.{All-nil, All-cons}
use Rattle.tall_value.specs.declared.class.Class.{Class}
use Rattle.tall_value.specs.declared.class.Class.TheVariants.{Double}
use Rattle.tall_semantics.specs.RowsOfSpaces.{AreColumns}
use Rattle.tall_semantics.proofs.Basics.{inside}
use Rattle.tall_semantics.proofs.AdditionLaws.{all_follow}
use Rattle.tall_semantics.specs.Samples.{number}
use Rattle.tall_semantics.specs.Talls.{tall}
use Rattle.tall_semantics.specs.ClassesOfCells.{HasClass, HaveClass}
use Rattle.tall_semantics.specs.Operations.{Made, stored, operation}
use Rattle.tall_semantics.specs.Deferred.{Vertex, AllBelow}
use Rattle.tall_semantics.specs.InOrder.{IsAccepted, IsSound, tall_in, talls_from, talls}
use Rattle.tall_semantics.specs.Numbered.{AreNumbered, AreReadings}
use Rattle.tall_semantics.specs.DeferredRows.{both_columns, added}

pub sound : IsSound both_columns added
unfolding tall talls_from
sound zero v e = subst (λ u. AllBelow 0 u.args × IsAccepted both_columns added u) (inside _ v e) (tt, (tall_in (talls both_columns added) 0, refl))
sound (suc zero) v e = subst (λ u. AllBelow 1 u.args × IsAccepted both_columns added u) (inside _ v e) (tt, (tall_in (talls both_columns added) 1, refl))
sound (suc (suc zero)) v e = subst (λ u. AllBelow 2 u.args × IsAccepted both_columns added u) (inside _ v e) ((omega (arith), (omega (arith), tt)), (tall_in (talls both_columns added) 2, refl))
sound (suc (suc (suc i))) v e = absurd (cc)

pub numbered : AreNumbered added
numbered = (all_follow added refl).1

pub readings : AreReadings both_columns added
readings = record {
  first = λ i j v w store variable other class class' e g m n. refl;
  called = λ i v store variable class x e m h. absurd (cc);
}

class_in : Made → Class
class_in (stored s v c) = c
class_in (operation op) = Double

-- both variables are doubles
stored_class : (i : ℕ) (v : Vertex) (s a : ℕ) (c : Class) → slice_get added i ≡ Some v → v.made ≡ stored s a c → Double ≡ c
unfolding class_in
stored_class zero v s a c e m = ap (λ (u : Vertex). class_in u.made) (inside _ v e) ∙ ap class_in m
stored_class (suc zero) v s a c e m = ap (λ (u : Vertex). class_in u.made) (inside _ v e) ∙ ap class_in m
stored_class (suc (suc zero)) v s a c e m = ap (λ (u : Vertex). class_in u.made) (inside _ v e) ∙ ap class_in m
stored_class (suc (suc (suc i))) v s a c e m = absurd (cc)

doubles_there : (s a : ℕ) → HaveClass Double (both_columns s a)
doubles_there s a = All-cons (HasClass Double) (number (pos 3)) (number (pos 5) ∷ []) refl (All-cons (HasClass Double) (number (pos 5)) [] refl (All-nil (HasClass Double)))

pub stores : AreColumns both_columns (λ s. 1 ∷ 2 ∷ []) added
stores = record {
  no_scalar = λ i v s a c x e m h. absurd (cc);
  same_rows = λ i v s a c e m h. refl;
  classes = λ i v s a c e m. subst (λ k. HaveClass k (both_columns s a)) (stored_class i v s a c e m) (doubles_there s a);
}
