-- The outcome of a node over operands that a pass computes block by block.
use Rattle.std.specs.Prelude.{◌≡◌, ℕ, Bool, true, None, Some, List, [], ◌∷◌, map, slice_get}
use Rattle.std.proofs.Common.{ap, sym, subst, ◌∙◌, inl, inr}
use Rattle.tall_value.specs.declared.functions.Method.{Method}
use Rattle.tall_semantics.specs.Operations.{Op, operation}
use Rattle.tall_semantics.specs.Faults.{least_fault}
use Rattle.tall_semantics.specs.Outcomes.{fault_of, rows_in}
use Rattle.tall_semantics.specs.Talls.{Columns, Tall, outcomes, own_outcome}
use Rattle.tall_semantics.specs.Deferred.{IsAmong, Vertex, fault_in}
use Rattle.tall_semantics.proofs.MeaningLaws.{made_value}
use Rattle.tall_semantics.proofs.OriginLaws.{faults_of_values, tall_outcome}
use Rattle.tall_blocks.specs.Blocks.{Block}
use Rattle.tall_blocks.specs.Carries.{Rows}
use Rattle.tall_blocks.specs.Pieces.{pass_blocks}
use Rattle.tall_blocks.specs.SeenFaults.{IsBlockwise}
use Rattle.tall_blocks.specs.ValuesOver.{rows_of_blocks}
use Rattle.tall_blocks.proofs.PassLaws.{rows_of_value}
use Rattle.tall_blocks.proofs.SeenLaws.{all_none, unless_none}
use Rattle.tall_part.specs.declared.operation.EndOperation.{EndOperation}
use Rattle.tall_part.specs.declared.operation.EndOperation.TheVariants as end
use Rattle.tall_part.specs.Operations.{op_of, outcome_of_rows}
use Rattle.tall_part.proofs.OperationLaws.{one_told}

module _ (columns : Columns) (of_stores : ℕ → List ℕ) (vs : List Vertex) (f : ℕ → Tall) (store : ℕ) (cut : ℕ → Bool) (bs : List Block) (pass : IsBlockwise columns of_stores vs f store cut bs) where
  rows_are : (a : ℕ) (w : Vertex) → slice_get vs a ≡ Some w → cut a ≡ true → fault_in f a ≡ None → rows_in (f a).outcome ≡ rows_of_blocks (pass_blocks vs f cut bs) a
  rows_are a w e c none = ap rows_in (rows_of_value columns of_stores vs f store cut bs pass a w e c none)

  own_is : (i : ℕ) (v : Vertex) (op : Op) (args : List ℕ) → slice_get vs i ≡ Some v → v.made ≡ operation op → v.args ≡ args → ((a : ℕ) → IsAmong args a → fault_in f a ≡ None) → (f i).outcome ≡ own_outcome v.at op (map f args)
  own_is i v op args e m are none =
      tall_outcome v.at op (map f v.args) (f i) (made_value columns vs f pass.meaning i v op e m)
      ∙ unless_none (least_fault (map fault_of (outcomes (map f v.args)))) (own_outcome v.at op (map f v.args))
      (ap least_fault (faults_of_values f v.args) ∙ all_none (fault_in f) v.args (subst (λ l. (a : ℕ) → IsAmong l a → fault_in f a ≡ None) (sym are) none))
      ∙ ap (λ l. own_outcome v.at op (map f l)) are

  pub one_outcome : (i a n : ℕ) (v w : Vertex) (e : EndOperation) → slice_get vs i ≡ Some v → v.made ≡ operation (op_of e n) → v.args ≡ a ∷ [] → slice_get vs a ≡ Some w → cut a ≡ true → fault_in f a ≡ None
      → (f i).outcome ≡ outcome_of_rows v.at e n (f a).shape.class (f a).shape.class (rows_of_blocks (pass_blocks vs f cut bs) a) (rows_of_blocks (pass_blocks vs f cut bs) a)
  one_outcome i a n v w e s m are t c none =
      own_is i v (op_of e n) (a ∷ []) s m are (only a none)
      ∙ one_told v.at e n (f a)
      ∙ ap (λ (rs : Rows). outcome_of_rows v.at e n (f a).shape.class (f a).shape.class rs rs) (rows_are a w t c none)
    where
      only : (b : ℕ) → fault_in f b ≡ None → (d : ℕ) → IsAmong (b ∷ []) d → fault_in f d ≡ None
      only b h d (inl x) = subst (λ j. fault_in f j ≡ None) x h
      only b h d (inr x) = absurd x

  pub two_outcome : (i a b n : ℕ) (v w x : Vertex) (m : Method) → slice_get vs i ≡ Some v → v.made ≡ operation (op_of (end.Group m) n) → v.args ≡ a ∷ b ∷ [] → slice_get vs a ≡ Some w → slice_get vs b ≡ Some x
      → cut a ≡ true → cut b ≡ true → fault_in f a ≡ None → fault_in f b ≡ None
      → (f i).outcome ≡ outcome_of_rows v.at (end.Group m) n (f a).shape.class (f b).shape.class (rows_of_blocks (pass_blocks vs f cut bs) a) (rows_of_blocks (pass_blocks vs f cut bs) b)
  two_outcome i a b n v w x m s k are t u c d none neither =
      own_is i v (op_of (end.Group m) n) (a ∷ b ∷ []) s k are (both a b none neither)
      ∙ ap (λ (rs : Rows). outcome_of_rows v.at (end.Group m) n (f a).shape.class (f b).shape.class rs (rows_in (f b).outcome)) (rows_are a w t c none)
      ∙ ap (λ (ss : Rows). outcome_of_rows v.at (end.Group m) n (f a).shape.class (f b).shape.class (rows_of_blocks (pass_blocks vs f cut bs) a) ss) (rows_are b x u d neither)
    where
      both : (g j : ℕ) → fault_in f g ≡ None → fault_in f j ≡ None → (l : ℕ) → IsAmong (g ∷ j ∷ []) l → fault_in f l ≡ None
      both g j p q l (inl y) = subst (λ h. fault_in f h ≡ None) y p
      both g j p q l (inr (inl y)) = subst (λ h. fault_in f h ≡ None) y q
      both g j p q l (inr (inr y)) = absurd y
