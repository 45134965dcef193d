-- A text or a byte that is one of a list.
use Rattle.std.proofs.Common.{◌≡◌, ℕ, sym, Bool, true, List, [], ◌∷◌, inl, inr, subst}
use Rattle.std.specs.Prelude.{nat_eq, ◌==◌}
use Rattle.std.specs.List.{list_all, list_any}
use Rattle.std.specs.Cmp.Lexicographic.{pointwise, bytes_decides}
use Rattle.std.proofs.lemmas.Bool.{and_parts, or_cases, eqb-true, true≢false}

-- what passes a test with each element passes it with one that passes another
one_of : {X : Type 0} (test good : X → Bool) (xs : List X) → list_any test xs ≡ true → list_all good xs ≡ true
    → (x : X) × (test x ≡ true) × (good x ≡ true)
one_of test good [] h g = absurd (true≢false (sym h))
one_of test good (x ∷ xs) h g =
    let parts = and_parts (good x) (list_all good xs) g in
    elim (or_cases (test x) (list_any test xs) h) [
      | inl here ↦ (x, here, parts.0)
      | inr more ↦ one_of test good xs more parts.1
    ]

pub one_of_good : (good : List ℕ → Bool) (words : List (List ℕ)) (text : List ℕ) → list_any (λ w. pointwise nat_eq w text) words ≡ true
    → list_all good words ≡ true → good text ≡ true
one_of_good good words text h g =
    let found = one_of (λ w. pointwise nat_eq w text) good words h g in
    subst (λ t. good t ≡ true) ((bytes_decides found.0 text).0 found.1) found.2

pub byte_of_good : (good : ℕ → Bool) (bytes : List ℕ) (b : ℕ) → list_any (λ s. s == b) bytes ≡ true
    → list_all good bytes ≡ true → good b ≡ true
byte_of_good good bytes b h g =
    let found = one_of (λ s. s == b) good bytes h g in
    subst (λ c. good c ≡ true) (eqb-true found.0 b found.1) found.2
