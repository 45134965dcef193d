-- The values of arguments, one after another.
use Rattle.std.proofs.Common.{◌≡◌, sym, ap, subst, ◌∙◌, ℕ, List, [], ◌∷◌, ◌++◌, map, append-nil}
use Rattle.std.specs.Prelude.{Option, None, Some}
use Rattle.std.specs.List.{All}
use Rattle.std.proofs.lemmas.List.{map-append}
use Rattle.std.proofs.lemmas.List.Elements.{All-nil, All-cons, All-append}
use Rattle.tall_semantics.specs.Talls.{Tall}
use Rattle.tall_local.specs.Arguments.{value_given}
use Rattle.tall_local.specs.Lists.{all_of, in_front_of}
use Rattle.tall_script.specs.ScriptValues.{TallValue}
use Rattle.tall_evaluate.specs.declared.languages.Argument.{Argument}
use Rattle.tall_evaluate.specs.declared.languages.Argument.TheVariants as argument
use Rattle.tall_evaluate.specs.Senses.{ArgumentsFit, argument_seen}
use Rattle.tall_deferred.specs.declared.values.ScriptValue.{ScriptValue}
use Rattle.tall_deferred.specs.Values.{IsValue, value_at}
use Rattle.tall_environment.specs.Values.{arguments_at}
use Rattle.tall_environment.proofs.ArgumentLaws.{behind_one, behind_these}

-- values so far, and arguments that are left
module _ (f : ℕ → Tall) (values : List ScriptValue) (left rest : List (Argument ScriptValue)) where
  pub value_more : (w : ScriptValue) (new : List ScriptValue) (all : Option (List TallValue)) → left ≡ argument.Given w ∷ rest → new ≡ values ++ w ∷ []
      → behind_these (map (value_at f) values) (all_of value_given (arguments_at f left)) ≡ all → behind_these (map (value_at f) new) (all_of value_given (arguments_at f rest)) ≡ all
  value_more w new all is pushed h =
      let tail = all_of value_given (arguments_at f rest) in
      ap (λ zs. behind_these (map (value_at f) zs) tail) pushed
      ∙ (ap (λ us. behind_these us tail) (map-append (value_at f) values (w ∷ []))
      ∙ (behind_one (map (value_at f) values) (value_at f w) tail
      ∙ (sym (ap (λ zs. behind_these (map (value_at f) values) (all_of value_given (arguments_at f zs))) is) ∙ h)))

  pub no_value : (x : Argument ScriptValue) (all : Option (List TallValue)) → left ≡ x ∷ rest → value_given (argument_seen (value_at f) x) ≡ None
      → behind_these (map (value_at f) values) (all_of value_given (arguments_at f left)) ≡ all → None ≡ all
  no_value x all is none h =
      sym (ap (λ zs. behind_these (map (value_at f) values) (all_of value_given (arguments_at f zs))) is
      ∙ ap (λ o. behind_these (map (value_at f) values) (in_front_of o (all_of value_given (arguments_at f rest)))) none) ∙ h

pub none_left : (f : ℕ → Tall) (values : List ScriptValue) (left : List (Argument ScriptValue)) (all : Option (List TallValue)) → left ≡ []
    → behind_these (map (value_at f) values) (all_of value_given (arguments_at f left)) ≡ all → Some (map (value_at f) values) ≡ all
none_left f values left all none h =
    sym (ap (λ zs. behind_these (map (value_at f) values) (all_of value_given (arguments_at f zs))) none ∙ ap Some (append-nil (map (value_at f) values))) ∙ h

pub one_more_fits : (n : ℕ) (values new : List ScriptValue) (left rest : List (Argument ScriptValue)) (w : ScriptValue) → left ≡ argument.Given w ∷ rest → new ≡ values ++ w ∷ []
    → ArgumentsFit (IsValue n) left × All (IsValue n) values → ArgumentsFit (IsValue n) rest × All (IsValue n) new
one_more_fits n values new left rest w is pushed h =
    let fits = subst (ArgumentsFit (IsValue n)) is h.0 in
    (fits.1, subst (All (IsValue n)) (sym pushed) (All-append (IsValue n) values (w ∷ []) h.1 (All-cons (IsValue n) w [] fits.0 (All-nil (IsValue n)))))
