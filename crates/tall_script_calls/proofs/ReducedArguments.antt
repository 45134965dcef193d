-- The arguments of mapreduce, one after another.
use Rattle.std.specs.Prelude.{◌≡◌, ◌≤◌, ◌-◌, ℕ, List, [], ◌∷◌, drop, get_or, length, take, Option, None, Some, option_map, Result, Err, refl}
use Rattle.std.proofs.Common.{sym, ap, subst, ◌∙◌}
use Rattle.tall_clamp.proofs.RunLemmas.{first_and_rest}
use Rattle.tall_semantics.specs.Talls.{Tall}
use Rattle.tall_evaluate.specs.declared.languages.Argument as code
use Rattle.tall_evaluate.specs.Senses.{argument_seen}
use Rattle.tall_local.specs.Arguments.{Argument, colon, function, given}
use Rattle.tall_local.specs.Refusals.{bad_argument}
use Rattle.tall_local.specs.Values.{datastore, deferred, in_memory, tall_table}
use Rattle.tall_script.specs.ScriptLanguage.{reduced_arguments}
use Rattle.tall_script.specs.ScriptValues.{TallValue}
use Rattle.tall_deferred.specs.declared.values.ScriptValue.{ScriptValue}
use Rattle.tall_deferred.specs.Values.{value_at}
use Rattle.tall_environment.specs.Values.{arguments_at}
use Rattle.tall_environment.specs.declared.failures.Refusal.{Refusal}
use Rattle.tall_environment.specs.declared.failures.Refusal.TheVariants.{BadArgument}
use Rattle.tall_script_calls.specs.declared.reducing.Reduced.{Reduced}
use Rattle.tall_script_calls.specs.Reductions.{Accepts, both_names, last_name, reduced_by}

pub arguments_are : (a : Argument TallValue) (args : List (Argument TallValue)) → reduced_arguments (a ∷ args) ≡ reduced_by a (both_names args)
arguments_are (given (datastore p)) [] = refl
arguments_are (given (datastore p)) (given v ∷ args) = refl
arguments_are (given (datastore p)) (colon ∷ args) = refl
arguments_are (given (datastore p)) (function m ∷ []) = refl
arguments_are (given (datastore p)) (function m ∷ given v ∷ args) = refl
arguments_are (given (datastore p)) (function m ∷ colon ∷ args) = refl
arguments_are (given (datastore p)) (function m ∷ function r ∷ []) = refl
arguments_are (given (datastore p)) (function m ∷ function r ∷ a ∷ args) = refl
arguments_are (given (tall_table x)) [] = refl
arguments_are (given (tall_table x)) (given v ∷ args) = refl
arguments_are (given (tall_table x)) (colon ∷ args) = refl
arguments_are (given (tall_table x)) (function m ∷ []) = refl
arguments_are (given (tall_table x)) (function m ∷ given v ∷ args) = refl
arguments_are (given (tall_table x)) (function m ∷ colon ∷ args) = refl
arguments_are (given (tall_table x)) (function m ∷ function r ∷ []) = refl
arguments_are (given (tall_table x)) (function m ∷ function r ∷ a ∷ args) = refl
arguments_are (given (deferred x)) [] = refl
arguments_are (given (deferred x)) (given v ∷ args) = refl
arguments_are (given (deferred x)) (colon ∷ args) = refl
arguments_are (given (deferred x)) (function m ∷ []) = refl
arguments_are (given (deferred x)) (function m ∷ given v ∷ args) = refl
arguments_are (given (deferred x)) (function m ∷ colon ∷ args) = refl
arguments_are (given (deferred x)) (function m ∷ function r ∷ []) = refl
arguments_are (given (deferred x)) (function m ∷ function r ∷ a ∷ args) = refl
arguments_are (given (in_memory x)) [] = refl
arguments_are (given (in_memory x)) (given v ∷ args) = refl
arguments_are (given (in_memory x)) (colon ∷ args) = refl
arguments_are (given (in_memory x)) (function m ∷ []) = refl
arguments_are (given (in_memory x)) (function m ∷ given v ∷ args) = refl
arguments_are (given (in_memory x)) (function m ∷ colon ∷ args) = refl
arguments_are (given (in_memory x)) (function m ∷ function r ∷ []) = refl
arguments_are (given (in_memory x)) (function m ∷ function r ∷ a ∷ args) = refl
arguments_are colon args = refl
arguments_are (function name) args = refl

no_names : (a : Argument TallValue) → reduced_by a None ≡ Err bad_argument
no_names (given (datastore p)) = refl
no_names (given (tall_table x)) = refl
no_names (given (deferred x)) = refl
no_names (given (in_memory x)) = refl
no_names colon = refl
no_names (function name) = refl

-- what is left behind a first argument
abbrev pub rest_of : List (code.Argument ScriptValue) → List (code.Argument ScriptValue)
rest_of args = take (length args - 1) (drop 1 args)

module _ (f : ℕ → Tall) (args : List (code.Argument ScriptValue)) (x : code.Argument ScriptValue) (some : 1 ≤ length args) (first : x ≡ get_or args 0 x) where
  first_seen : arguments_at f args ≡ argument_seen (value_at f) x ∷ arguments_at f (rest_of args)
  first_seen = ap (arguments_at f) (first_and_rest args x some first)

  pub both_are : (m : List ℕ) (o : Option (List ℕ)) → argument_seen (value_at f) x ≡ function m → o ≡ last_name (arguments_at f (rest_of args)) → option_map (λ r. (m, r)) o ≡ both_names (arguments_at f args)
  both_are m o is told =
      ap (option_map (λ r. (m, r))) told ∙ sym (ap both_names (first_seen ∙ ap (λ a. a ∷ arguments_at f (rest_of args)) is))

  pub accepted_by : (names : List ℕ × List ℕ) (r : Result Reduced Refusal) → Some names ≡ both_names (arguments_at f (rest_of args))
      → Accepts (reduced_by (argument_seen (value_at f) x) (Some names)) r → Accepts (reduced_arguments (arguments_at f args)) r
  accepted_by names r is h =
      subst (λ w. Accepts w r) (sym (ap reduced_arguments first_seen ∙ arguments_are (argument_seen (value_at f) x) (arguments_at f (rest_of args)) ∙ ap (reduced_by (argument_seen (value_at f) x)) (sym is))) h

  pub not_accepted : None ≡ both_names (arguments_at f (rest_of args)) → Accepts (reduced_arguments (arguments_at f args)) (Err BadArgument)
  not_accepted is =
      ap reduced_arguments first_seen ∙ (arguments_are (argument_seen (value_at f) x) (arguments_at f (rest_of args)) ∙ (ap (reduced_by (argument_seen (value_at f) x)) (sym is) ∙ no_names (argument_seen (value_at f) x)))
