-- A list of which one element was set, read by `slice_get`.
use Rattle.std.proofs.Common.{◌≡◌, ℕ, zero, suc, ◌<◌, ◌≢◌, ◌⊎◌, List, [], ◌∷◌, length, set, refl, ap, inl, inr, ⊎_elim, arith}
use Rattle.std.specs.Prelude.{Some, slice_get, replicate}

module _ {A : Type 0} where
  pub get_set_cases : (l : List A) (i j : ℕ) (a b : A) → slice_get (set l i a) j ≡ Some b → ((j ≡ i) × (a ≡ b)) ⊎ ((j ≢ i) × (slice_get l j ≡ Some b))
  get_set_cases [] i j a b e = absurd cc
  get_set_cases (x ∷ xs) zero zero a b e = inl (refl, (cc))
  get_set_cases (x ∷ xs) zero (suc j) a b e = inr ((λ h. omega arith), e)
  get_set_cases (x ∷ xs) (suc i) zero a b e = inr ((λ h. omega arith), e)
  get_set_cases (x ∷ xs) (suc i) (suc j) a b e = ⊎_elim (λ t. inl (ap suc t.0, t.1)) (λ t. let n = t.0 in inr ((λ h. n (omega arith)), t.1)) (get_set_cases xs i j a b e)

  pub get_set_here : (l : List A) (i : ℕ) (a : A) → i < length l → slice_get (set l i a) i ≡ Some a
  get_set_here [] i a h = absurd (omega arith)
  get_set_here (x ∷ xs) zero a h = refl
  get_set_here (x ∷ xs) (suc i) a h = get_set_here xs i a (omega arith)

  pub get_set_else : (l : List A) (i j : ℕ) (a : A) → j ≢ i → slice_get (set l i a) j ≡ slice_get l j
  get_set_else [] i j a n = refl
  get_set_else (x ∷ xs) zero zero a n = absurd (n refl)
  get_set_else (x ∷ xs) zero (suc j) a n = refl
  get_set_else (x ∷ xs) (suc i) zero a n = refl
  get_set_else (x ∷ xs) (suc i) (suc j) a n = get_set_else xs i j a (λ e. n (ap suc e))

  pub get_replicate : (n i : ℕ) (a : A) → i < n → slice_get (replicate n a) i ≡ Some a
  get_replicate zero i a h = absurd (omega arith)
  get_replicate (suc n) zero a h = refl
  get_replicate (suc n) (suc i) a h = get_replicate n i a (omega arith)

  pub get_replicate_is : (n i : ℕ) (a b : A) → slice_get (replicate n a) i ≡ Some b → a ≡ b
  get_replicate_is zero i a b e = absurd cc
  get_replicate_is (suc n) zero a b e = cc
  get_replicate_is (suc n) (suc i) a b e = get_replicate_is n i a b e
