-- At most one pass a level over each datastore.
use Rattle.std.specs.Prelude.{◌≡◌, refl, ℕ, zero, suc, ◌<◌, ◌≤◌, ◌+◌, ◌⊎◌, ◌==◌, if◌then◌else◌, List, [], ◌∷◌, ◌++◌}
use Rattle.std.proofs.Common.{ap, ◌∙◌, arith, inl}
use Rattle.std.proofs.lemmas.Bool.Decides.{nat_tests}
use Rattle.tall_semantics.specs.Passes.{Pass, pass_of, passes_at, passes_up_to, of_store}

pub joined : (s : ℕ) (ps qs : List Pass) → of_store s (ps ++ qs) ≡ of_store s ps + of_store s qs
joined s [] qs = omega (arith)
joined s (p ∷ ps) qs = ap (λ n. (if p.store == s then 1 else 0) + n) (joined s ps qs) ∙ omega (arith)

-- a pass is over its datastore alone
of_one : (s d k : ℕ) (w : List ℕ) → of_store s (pass_of d k w) ≤ (if d == s then 1 else 0)
of_one s d k [] = omega (arith)
of_one s d k (x ∷ xs) = omega (arith)

at_level : (work : (store level : ℕ) → List ℕ) (s k n : ℕ) → ((n ≤ s) × (of_store s (passes_at work k n) ≡ 0)) ⊎ ((s < n) × (of_store s (passes_at work k n) ≤ 1))
unfolding passes_at
at_level work s k zero = inl (omega (arith), refl)
at_level work s k (suc n) =
    let j : of_store s (passes_at work k n ++ pass_of n k (work n k)) ≡ of_store s (passes_at work k n) + of_store s (pass_of n k (work n k)) = joined s (passes_at work k n) (pass_of n k (work n k)) in
    let o : of_store s (pass_of n k (work n k)) ≤ (if n == s then 1 else 0) = of_one s n k (work n k) in
    grind (arith, nat_tests, at_level work s k n, j, o)

one_level : (work : (store level : ℕ) → List ℕ) (s k n : ℕ) → of_store s (passes_at work k n) ≤ 1
one_level work s k n = grind (arith, at_level work s k n)

pub bound : (work : (store level : ℕ) → List ℕ) (s n k : ℕ) → of_store s (passes_up_to work n k) ≤ k
unfolding passes_up_to
bound work s n zero = omega (arith)
bound work s n (suc k) =
    let j : of_store s (passes_up_to work n k ++ passes_at work (suc k) n) ≡ of_store s (passes_up_to work n k) + of_store s (passes_at work (suc k) n) = joined s (passes_up_to work n k) (passes_at work (suc k) n) in
    omega (arith, j, bound work s n k, one_level work s (suc k) n)
