-- Values of names, as the definitions have them.
use Rattle.std.proofs.Common.{◌≡◌, refl, ℕ, List, [], ◌∷◌}
use Rattle.std.specs.Prelude.{Bool, true, false, if◌then◌else◌, Some, option_map}
use Rattle.std.specs.Str.{bytes_eq}
use Rattle.tall_semantics.specs.Talls.{Tall}
use Rattle.tall_local.specs.Names.{named}
use Rattle.tall_deferred.specs.declared.values.ScriptValue.{ScriptValue}
use Rattle.tall_deferred.specs.Values.{value_at}
use Rattle.tall_environment.specs.Environments.{names_at}

pub named_at : (f : ℕ → Tall) (xs : List (List ℕ × ScriptValue)) (name : List ℕ) → named (names_at f xs) name ≡ option_map (value_at f) (named xs name)
named_at f [] name = refl
named_at f (x ∷ xs) name = step (bytes_eq x.0 name) (named_at f xs name)
  where
    step : (b : Bool) → named (names_at f xs) name ≡ option_map (value_at f) (named xs name)
        → (if b then Some (value_at f x.1) else named (names_at f xs) name) ≡ option_map (value_at f) (if b then Some x.1 else named xs name)
    step true h = refl
    step false h = h
