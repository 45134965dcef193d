-- A look-up in a table is one in its parts after one another.
use Rattle.std.proofs.Common.{◌≡◌, refl, sym, ap, ◌∙◌, ℕ, List, [], ◌∷◌, ◌++◌, take, drop}
use Rattle.std.specs.Prelude.{Bool, true, false, if◌then◌else◌, Option, None, Some}
use Rattle.std.specs.Str.{bytes_eq}
use Rattle.tall_local.specs.Names.{named}
use Rattle.tall_local.specs.Functions.{value_functions}
use Rattle.tall_local.specs.declared.functions.ValueFunction.{ValueFunction}
use Rattle.tall_memory.specs.Named.{option_or}

pub named_append : {A : Type 0} (xs ys : List (List ℕ × A)) (name : List ℕ) → named (xs ++ ys) name ≡ option_or (named xs name) (named ys name)
named_append [] ys name = refl
named_append (x ∷ xs) ys name = step (bytes_eq x.0 name) (named_append xs ys name)
  where
    step : (b : Bool) → named (xs ++ ys) name ≡ option_or (named xs name) (named ys name)
        → (if b then Some x.1 else named (xs ++ ys) name) ≡ option_or (if b then Some x.1 else named xs name) (named ys name)
    step true h = refl
    step false h = h

pub all_functions : (name : List ℕ) → option_or (named (take 8 value_functions) name) (option_or (named (take 7 (drop 8 value_functions)) name)
    (option_or (named (take 8 (drop 15 value_functions)) name) (option_or (named (take 9 (drop 23 value_functions)) name) (named (drop 32 value_functions) name))))
    ≡ named value_functions name
all_functions name =
    sym (named_append (take 8 value_functions) (drop 8 value_functions) name
    ∙ ap (λ o. option_or (named (take 8 value_functions) name) o) (named_append (take 7 (drop 8 value_functions)) (drop 15 value_functions) name
    ∙ ap (λ o. option_or (named (take 7 (drop 8 value_functions)) name) o) (named_append (take 8 (drop 15 value_functions)) (drop 23 value_functions) name
    ∙ ap (λ o. option_or (named (take 8 (drop 15 value_functions)) name) o) (named_append (take 9 (drop 23 value_functions)) (drop 32 value_functions) name))))
