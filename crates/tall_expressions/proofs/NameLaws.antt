-- Functions of a script by name.
use Rattle.std.proofs.Common.{◌≡◌, refl, sym, ap, ◌∙◌, ℕ, List, [], ◌∷◌}
use Rattle.std.specs.Prelude.{Bool, true, false, if◌then◌else◌, None, Some, option_map}
use Rattle.std.specs.Str.{bytes_eq}
use Rattle.tall_local.specs.Functions.{value_functions, script_functions, script_function_named}
use Rattle.tall_local.specs.Names.{named, each_named}
use Rattle.tall_local.specs.declared.functions.ScriptFunction.TheVariants.{OfValues}
use Rattle.tall_local.specs.declared.functions.ValueFunction.{ValueFunction}
use Rattle.tall_memory.specs.Named.{option_or}
use Rattle.tall_memory.proofs.NamedLemmas.{named_append}
use Rattle.tall_expressions.specs.Names.{own_functions}

named_each : {A B : Type 0} (f : A → B) (xs : List (List ℕ × A)) (name : List ℕ) → named (each_named f xs) name ≡ option_map f (named xs name)
named_each f [] name = refl
named_each f (x ∷ xs) name = step (bytes_eq x.0 name) (named_each f xs name)
  where
    step : (b : Bool) → named (each_named f xs) name ≡ option_map f (named xs name)
        → (if b then Some (f x.1) else named (each_named f xs) name) ≡ option_map f (if b then Some x.1 else named xs name)
    step true h = refl
    step false h = h

split_functions : (name : List ℕ) → named script_functions name ≡ option_or (option_map OfValues (named value_functions name)) (named own_functions name)
split_functions name =
    named_append (each_named OfValues value_functions) own_functions name ∙ ap (λ o. option_or o (named own_functions name)) (named_each OfValues value_functions name)

pub of_values_named : (name : List ℕ) (f : ValueFunction) → Some f ≡ named value_functions name → Some (OfValues f) ≡ script_function_named name
unfolding script_function_named
of_values_named name f h = sym (split_functions name ∙ ap (λ o. option_or (option_map OfValues o) (named own_functions name)) (sym h))

pub own_named : (name : List ℕ) → None ≡ named value_functions name → named own_functions name ≡ script_function_named name
unfolding script_function_named
own_named name h = sym (split_functions name ∙ ap (λ o. option_or (option_map OfValues o) (named own_functions name)) (sym h))
