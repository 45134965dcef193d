-- What a pass over blocks stands on is met by a small list of vertices.
use Rattle.std.specs.Prelude.{◌≡◌, refl, ℕ, zero, suc, ◌≤◌, pos, Bool, true, None, Some, List, [], ◌∷◌, slice_get}
use Rattle.std.proofs.Common.{ap, subst, ◌∙◌, arith, inl, inr}
use Rattle.std.proofs.lemmas.List.Elements.{All-nil, All-cons}
use Rattle.tall_value.specs.declared.class.Class.{Class}
use Rattle.tall_value.specs.declared.class.Class.TheVariants.{Double}
use Rattle.tall_semantics.specs.ClassesOfCells.{HasClass, HaveClass}
use Rattle.tall_semantics.specs.Operations.{Made, stored, operation}
use Rattle.tall_semantics.specs.Talls.{tall}
use Rattle.tall_semantics.specs.Spaces.{is_single, store_of}
use Rattle.tall_semantics.specs.Deferred.{Vertex, AllBelow, AreThere, IsAmong, own_in}
use Rattle.tall_semantics.specs.InOrder.{IsAccepted, IsSound, talls_from}
use Rattle.tall_semantics.specs.RowsOfSpaces.{AreColumns}
use Rattle.tall_semantics.specs.Samples.{number, nan}
use Rattle.tall_semantics.specs.Faults.{Fault}
use Rattle.tall_semantics.specs.Spaces.{has_rows}
use Rattle.tall_semantics.specs.Least.{IsLeast}
use Rattle.tall_semantics.specs.Levels.{UpTo}
use Rattle.tall_semantics.specs.Numbered.{AreReadings, IsGather, levels_in, nodes_by}
use Rattle.tall_semantics.specs.Plans.{is_scan_at, needed_of}
use Rattle.tall_semantics.specs.ScanLevels.{AreScans, chains_in, scans_by}
use Rattle.tall_semantics.proofs.AdditionLaws.{all_follow}
use Rattle.tall_semantics.proofs.CandidateLaws.{graph_levels}
use Rattle.tall_semantics.proofs.PlanLaws.{needed_under}
use Rattle.tall_semantics.proofs.ScanLevelLaws.{scans_by_levels}
use Rattle.tall_blocks.specs.PassWork.{AreScalarsLower, IsCutFor, cut_at}
use Rattle.tall_blocks.proofs.PassWorkLaws.{and_true, cut_decided, largest_serves, lower_levels}
use Rattle.tall_semantics.proofs.Basics.{inside}
use Rattle.tall_semantics.proofs.InOrderLaws.{talls_mean}
use Rattle.tall_blocks.specs.Cut.{IsKnownScalar, AreOfStore}
use Rattle.tall_blocks.specs.SeenFaults.{IsBlockwise}
use Rattle.tall_blocks.specs.BlockSamples.{vertices, blocks, whole_columns, value, cut}

sound : IsSound whole_columns vertices
unfolding tall talls_from
sound zero v e = subst (λ u. AllBelow 0 u.args × IsAccepted whole_columns vertices u) (inside _ v e) (tt, (value 0, refl))
sound (suc zero) v e = subst (λ u. AllBelow 1 u.args × IsAccepted whole_columns vertices u) (inside _ v e) ((omega (arith), tt), (value 1, refl))
sound (suc (suc zero)) v e = subst (λ u. AllBelow 2 u.args × IsAccepted whole_columns vertices u) (inside _ v e) (tt, (value 2, refl))
sound (suc (suc (suc zero))) v e = subst (λ u. AllBelow 3 u.args × IsAccepted whole_columns vertices u) (inside _ v e) ((omega (arith), (omega (arith), tt)), (value 3, refl))
sound (suc (suc (suc (suc zero)))) v e = subst (λ u. AllBelow 4 u.args × IsAccepted whole_columns vertices u) (inside _ v e) ((omega (arith), tt), (value 4, refl))
sound (suc (suc (suc (suc (suc i))))) v e = absurd (cc)

class_in : Made → Class
class_in (stored s v c) = c
class_in (operation op) = Double

stored_class : (i : ℕ) (v : Vertex) (s a : ℕ) (c : Class) → slice_get vertices i ≡ Some v → v.made ≡ stored s a c → Double ≡ c
unfolding class_in
stored_class zero v s a c e m = ap (λ (u : Vertex). class_in u.made) (inside _ v e) ∙ ap class_in m
stored_class (suc zero) v s a c e m = ap (λ (u : Vertex). class_in u.made) (inside _ v e) ∙ ap class_in m
stored_class (suc (suc zero)) v s a c e m = ap (λ (u : Vertex). class_in u.made) (inside _ v e) ∙ ap class_in m
stored_class (suc (suc (suc zero))) v s a c e m = ap (λ (u : Vertex). class_in u.made) (inside _ v e) ∙ ap class_in m
stored_class (suc (suc (suc (suc zero)))) v s a c e m = ap (λ (u : Vertex). class_in u.made) (inside _ v e) ∙ ap class_in m
stored_class (suc (suc (suc (suc (suc i))))) v s a c e m = absurd (cc)

doubles_there : (s a : ℕ) → HaveClass Double (whole_columns s a)
doubles_there s a = All-cons (HasClass Double) (number (pos 0)) (nan ∷ []) refl (All-cons (HasClass Double) nan [] refl (All-nil (HasClass Double)))

readings : AreColumns whole_columns (λ s. 1 ∷ 2 ∷ []) vertices
readings = record {
  no_scalar = λ i v s a c x e m h. absurd (cc);
  same_rows = λ i v s a c e m h. refl;
  classes = λ i v s a c e m. subst (λ k. HaveClass k (whole_columns s a)) (stored_class i v s a c e m) (doubles_there s a);
}

rows_here : (i : ℕ) (v : Vertex) → slice_get vertices i ≡ Some v → cut i ≡ true → store_of (value i).shape.space ≡ Some 0
unfolding tall talls_from
rows_here zero v e c = refl
rows_here (suc zero) v e c = refl
rows_here (suc (suc zero)) v e c = absurd (cc)
rows_here (suc (suc (suc zero))) v e c = refl
rows_here (suc (suc (suc (suc zero)))) v e c = refl
rows_here (suc (suc (suc (suc (suc i))))) v e c = absurd (cc)

Operand : ℕ → Type 0
Operand a = (store_of (value a).shape.space ≡ Some 0 → cut a ≡ true) × (is_single (value a).shape.space ≡ true → IsKnownScalar value cut a)

of_x : Operand 0
unfolding Operand tall talls_from
of_x = ((λ h. refl), (λ h. absurd (cc)))

of_l : Operand 1
unfolding Operand tall talls_from
of_l = ((λ h. refl), (λ h. absurd (cc)))

of_constant : Operand 2
unfolding Operand tall talls_from
of_constant = ((λ h. absurd (cc)), (λ h. (refl, (number (pos 1), refl))))

operand : (i a : ℕ) (v : Vertex) → slice_get vertices i ≡ Some v → IsAmong v.args a → Operand a
operand zero a v e among = absurd (subst (λ u. IsAmong u.args a → ⊥) (inside _ v e) (λ h. h) among)
operand (suc zero) a v e among = subst (λ u. IsAmong u.args a → Operand a) (inside _ v e) (λ h. elim h [ inl q ↦ subst Operand q of_x | inr r ↦ absurd r ]) among
operand (suc (suc zero)) a v e among = absurd (subst (λ u. IsAmong u.args a → ⊥) (inside _ v e) (λ h. h) among)
operand (suc (suc (suc zero))) a v e among =
    subst (λ u. IsAmong u.args a → Operand a) (inside _ v e) (λ h. elim h [ inl q ↦ subst Operand q of_constant | inr r ↦ elim r [ inl q ↦ subst Operand q of_l | inr z ↦ absurd z ] ]) among
operand (suc (suc (suc (suc zero)))) a v e among = subst (λ u. IsAmong u.args a → Operand a) (inside _ v e) (λ h. elim h [ inl q ↦ subst Operand q of_x | inr r ↦ absurd r ]) among
operand (suc (suc (suc (suc (suc i))))) a v e among = absurd (cc)

of_store : AreOfStore 0 vertices value cut
unfolding Operand
of_store = record {
  rows_here = rows_here;
  operands_cut = λ i a v e c among here. (operand i a v e among).0 here;
  scalars_known = λ i a v e c among alone. (operand i a v e among).1 alone;
}

sample_readings : AreReadings whole_columns vertices
sample_readings = record {
  first = λ i j v w s a o c d e g m n. refl;
  called = λ i v s a c x e m h. absurd (cc);
}

abbrev pub Needed : List ℕ
Needed = needed_of vertices (3 ∷ 4 ∷ [])

roots_there : AreThere vertices (3 ∷ 4 ∷ [])
roots_there r h = elim h [
  | inl e ↦ subst (λ j. (v : Vertex) × (slice_get vertices j ≡ Some v)) e (_, refl)
  | inr m ↦ elim m [ inl e ↦ subst (λ j. (v : Vertex) × (slice_get vertices j ≡ Some v)) e (_, refl) | inr n ↦ absurd n ]
]

pub sample_gather : IsGather whole_columns vertices value (levels_in value) (3 ∷ 4 ∷ []) Needed
sample_gather =
    let follow = all_follow vertices refl in
    let meaning = talls_mean whole_columns vertices sound in
    record {
      meaning = meaning;
      ordered = follow.0;
      levelled = graph_levels whole_columns vertices value meaning follow.1 sample_readings;
      there = roots_there;
      under = needed_under vertices (3 ∷ 4 ∷ []) follow.0 roots_there;
    }

none_below : (i : ℕ) (y : Fault) → levels_in value i ≤ 0 → own_in vertices value i ≡ Some y → ⊥
unfolding tall talls_from
none_below zero y l own = omega (arith, l)
none_below (suc zero) y l own = omega (arith, l)
none_below (suc (suc zero)) y l own = absurd (cc)
none_below (suc (suc (suc zero))) y l own = omega (arith, l)
none_below (suc (suc (suc (suc zero)))) y l own = omega (arith, l)
none_below (suc (suc (suc (suc (suc i))))) y l own = absurd (cc)

pub sample_candidate : IsLeast (own_in vertices value) (UpTo (nodes_by vertices value (levels_in value)) (IsAmong Needed) 0) None
sample_candidate = record {
  one = λ x e. absurd (cc);
  least = λ i y up own. absurd (none_below i y up.1 own);
}

abbrev pub CutAt : ℕ → Bool
CutAt = cut_at 0 vertices value (levels_in value) Needed 1 None

pub sample_scans : AreScans vertices (scans_by vertices value (chains_in value)) (levels_in value)
sample_scans = scans_by_levels whole_columns vertices value sample_gather.meaning sample_gather.ordered

pub sample_cut : IsCutFor 0 vertices value (levels_in value) (chains_in value) Needed 1 None CutAt
sample_cut =
    largest_serves whole_columns (λ s. 1 ∷ 2 ∷ []) vertices value (levels_in value) (chains_in value) (3 ∷ 4 ∷ []) Needed sample_gather 0 0 None CutAt (cut_decided 0 vertices value (levels_in value) Needed 1 None)
    (λ i a v t h e among. sample_scans.operands i a v (and_true (is_scan_at (slice_get vertices i)) (has_rows (value i).shape.space) t h) e among)

pub sample_scalars : AreScalarsLower vertices value (levels_in value)
sample_scalars = lower_levels whole_columns vertices value sample_gather.meaning

pub sample_pass : IsBlockwise whole_columns (λ s. 1 ∷ 2 ∷ []) vertices value 0 cut blocks
sample_pass =
    let follow = all_follow vertices refl in
    record {
      meaning = talls_mean whole_columns vertices sound;
      ordered = follow.0;
      numbered = follow.1;
      readings = readings;
      of_store = of_store;
      blocks = λ i v s a e c q. refl;
      tables = ((λ i j v w s a o e g c d p q. refl), ((λ i j v w s a o e g c d p q. refl), tt));
      ascending = ((2, (λ s v. (omega (arith), tt)), (λ s v. (omega (arith), tt))), ((3, (λ s v. (omega (arith), tt)), (λ s v. tt)), tt));
    }
