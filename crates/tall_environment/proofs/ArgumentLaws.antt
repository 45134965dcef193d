-- The arguments of a call, one after another.
use Rattle.std.proofs.Common.{◌≡◌, ◌+◌, ◌<◌, ◌≤◌, refl, sym, ap, subst, ◌∙◌, ℕ, zero, suc, List, [], ◌∷◌, ◌++◌, map, length, drop, append_assoc, append-nil, arith}
use Rattle.std.specs.Prelude.{get_or, slice_index_or, Option, None, Some, option_and_then, Err}
use Rattle.std.proofs.lemmas.List.{drop_more}
use Rattle.tall_semantics.specs.Faults.{At}
use Rattle.tall_semantics.specs.Talls.{Tall}
use Rattle.tall_local.specs.Applications.{application, application_of}
use Rattle.tall_local.specs.Arguments as arguments
use Rattle.tall_local.specs.Arguments.{Index, given, index_of, value_given}
use Rattle.tall_local.specs.Lists.{all_of, in_front_of}
use Rattle.tall_local.specs.Refusals.{bad_argument}
use Rattle.tall_local.specs.declared.functions.ValueFunction.{ValueFunction}
use Rattle.tall_script.specs.ScriptLanguage.{application_answer}
use Rattle.tall_script.specs.ScriptValues.{TallValue, index_value, index_value_of, scalar_given}
use Rattle.tall_evaluate.specs.declared.languages.Argument.{Argument}
use Rattle.tall_evaluate.specs.declared.languages.Argument.TheVariants as argument
use Rattle.tall_evaluate.specs.Senses.{ArgumentFits, ArgumentsFit, argument_seen}
use Rattle.tall_deferred.specs.declared.values.ScriptRef.{ScriptRef}
use Rattle.tall_deferred.specs.declared.values.ScriptValue.{ScriptValue}
use Rattle.tall_deferred.specs.Values.{IsValue, lent_at, value_at}
use Rattle.tall_environment.specs.Values.{arguments_at}

pub item_drop : {X : Type 0} (xs : List X) (i : ℕ) (x : X) → i < length xs → x ≡ get_or xs i x → drop i xs ≡ x ∷ drop (i + 1) xs
item_drop xs i x l e = drop_more xs i x l ∙ ap (λ y. y ∷ drop (i + 1) xs) (sym e)

pub nothing_left : {A : Type 0} (xs : List A) (n : ℕ) → length xs ≤ n → drop n xs ≡ []
nothing_left [] zero l = refl
nothing_left [] (suc n) l = refl
nothing_left (x ∷ xs) zero l = absurd (omega (arith, l))
nothing_left (x ∷ xs) (suc n) l = nothing_left xs n (omega (arith, l))

map_both : {A B : Type 0} (g : A → B) (xs : List A) (y : A) → map g (xs ++ y ∷ []) ≡ map g xs ++ g y ∷ []
map_both g [] y = refl
map_both g (x ∷ xs) y = ap (λ zs. g x ∷ zs) (map_both g xs y)

-- those so far in front of what the rest gives
abbrev pub behind_these : List TallValue → Option (List TallValue) → Option (List TallValue)
behind_these vs None = None
behind_these vs (Some ws) = Some (vs ++ ws)

pub behind_one : (vs : List TallValue) (v : TallValue) (rest : Option (List TallValue)) → behind_these (vs ++ v ∷ []) rest ≡ behind_these vs (in_front_of (Some v) rest)
behind_one vs v None = refl
behind_one vs v (Some ws) = ap Some (append_assoc vs (v ∷ []) ws)

module _ (f : ℕ → Tall) (ys rest : List (Argument ScriptValue)) (x : Argument ScriptValue) where
  pub stopped : (vs : List TallValue) (all : Option (List TallValue)) → ys ≡ x ∷ rest → value_given (argument_seen (value_at f) x) ≡ None
      → behind_these vs (all_of value_given (arguments_at f ys)) ≡ all → None ≡ all
  stopped vs all e n h =
      sym (ap (λ zs. behind_these vs (all_of value_given (arguments_at f zs))) e ∙ ap (λ o. behind_these vs (in_front_of o (all_of value_given (arguments_at f rest)))) n) ∙ h

  pub next_given : (items new : List ScriptRef) (v : ScriptRef) (w : ScriptValue) (all : Option (List TallValue)) → new ≡ items ++ v ∷ [] → lent_at f v ≡ value_at f w → ys ≡ x ∷ rest → x ≡ argument.Given w
      → behind_these (map (lent_at f) items) (all_of value_given (arguments_at f ys)) ≡ all → behind_these (map (lent_at f) new) (all_of value_given (arguments_at f rest)) ≡ all
  next_given items new v w all e lent is told h =
      let tail = all_of value_given (arguments_at f rest) in
      ap (λ zs. behind_these (map (lent_at f) zs) tail) e
      ∙ (ap (λ us. behind_these us tail) (map_both (lent_at f) items v)
      ∙ (ap (λ u. behind_these (map (lent_at f) items ++ u ∷ []) tail) lent
      ∙ (behind_one (map (lent_at f) items) (value_at f w) tail
      ∙ (sym (ap (λ zs. behind_these (map (lent_at f) items) (all_of value_given (arguments_at f zs))) is
      ∙ ap (λ a. behind_these (map (lent_at f) items) (in_front_of (value_given (argument_seen (value_at f) a)) tail)) told)
      ∙ h))))

pub ended : (f : ℕ → Tall) (ys : List (Argument ScriptValue)) (us : List TallValue) (all : Option (List TallValue)) → ys ≡ [] → behind_these us (all_of value_given (arguments_at f ys)) ≡ all → Some us ≡ all
ended f ys us all e h = sym (ap (λ zs. behind_these us (all_of value_given (arguments_at f zs))) e ∙ ap Some (append-nil us)) ∙ h

-- ---- functions of values

pub applied_as : (at : At) (g : ValueFunction) (args : List (arguments.Argument TallValue)) (vs : List TallValue) → Some vs ≡ all_of value_given args
    → application_answer at (application scalar_given g vs) ≡ application_answer at (application_of scalar_given g args)
unfolding application_of
applied_as at g args vs e = ap (λ o. application_answer at (option_and_then (application scalar_given g) o)) e

pub none_as : (at : At) (g : ValueFunction) (args : List (arguments.Argument TallValue)) → None ≡ all_of value_given args → application_answer at (application_of scalar_given g args) ≡ Err bad_argument
unfolding application_of
none_as at g args e = ap (λ o. application_answer at (option_and_then (application scalar_given g) o)) (sym e)

-- ---- values that stand at a place

pub at_place : {A B : Type 0} (g : A → B) (xs : List A) (i : ℕ) (x : A) (d : B) → i < length xs → x ≡ get_or xs i x → g x ≡ get_or (map g xs) i d
at_place g [] i x d l e = absurd (omega (arith, l))
at_place g (y ∷ xs) zero x d l e = ap g e
at_place g (y ∷ xs) (suc i) x d l e = at_place g xs i x d (omega (arith, l)) e

-- ---- indexes

pub indexed_as : (at : At) (v w : TallValue) (i : Option (Index TallValue)) (args : List (arguments.Argument TallValue)) → v ≡ w → i ≡ index_of args → index_value_of at v i ≡ index_value at w args
unfolding index_value
indexed_as at v w i args e h = ap (λ x. index_value_of at x i) e ∙ ap (index_value_of at w) h

pub first_fits : (n : ℕ) (args : List (Argument ScriptValue)) (x : Argument ScriptValue) (v : ScriptValue) → 1 ≤ length args → x ≡ slice_index_or args 0 x → x ≡ argument.Given v → ArgumentsFit (IsValue n) args → IsValue n v
first_fits n [] x v l e is fit = absurd (omega (arith, l))
first_fits n (y ∷ ys) x v l e is fit = subst (ArgumentFits (IsValue n)) (sym e ∙ is) fit.0
