-- An opening that was asked for, and whose shelf came back.
use Rattle.std.proofs.Common.{◌≡◌, ◌++◌, ◌∷◌, [], ℕ, List, Option, Some, None, refl, sym, subst, inl, inr}
use Rattle.tall_cut.specs.Asked.{and_name}
use Rattle.tall_outside.specs.OpenedNames.{Adds, OpensOnce}

pub asked_once : (before asked now : Option (List (List ℕ))) (name : List ℕ) → and_name before name ≡ asked
    → ((names : List (List ℕ)) → asked ≡ Some names → now ≡ Some names) → OpensOnce name before now
asked_once None asked now name e h = inl tt
asked_once (Some names) asked now name e h = subst (λ n. OpensOnce name (Some names) n) (sym (h (names ++ name ∷ []) (sym e))) (inr refl)

pub asked_adds : (before asked now : Option (List (List ℕ))) (name : List ℕ) → and_name before name ≡ asked
    → ((names : List (List ℕ)) → asked ≡ Some names → now ≡ Some names) → Adds (name ∷ []) before now
asked_adds None asked now name e h = tt
asked_adds (Some names) asked now name e h = subst (λ n. Adds (name ∷ []) (Some names) n) (sym (h (names ++ name ∷ []) (sym e))) refl
