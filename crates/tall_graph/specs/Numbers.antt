-- Numbers for trees, spaces and texts: the place of the first equal one. A table tells them by keys, so that no two lists
-- have to be searched.
use Rattle.std.specs.Prelude.{◌≡◌, ℕ, ◌⊎◌, Bool, Some, List, [], ◌∷◌, ◌++◌, slice_get}
use Rattle.tall_semantics.specs.Forms.{first_place}

-- x is in the list, and n is the place of the first that is equal to it
pub record IsNumber {A : Type 0} (same : A → A → Bool) (xs : List A) (n : ℕ) (x : A) : Type 0 where
  pub place : ℕ
  pub there : slice_get xs place ≡ Some x
  pub first : first_place same x xs ≡ n

abbrev pub Holds : {K : Type 0} → List (K × ℕ) → K → ℕ → Type 0
Holds entries k n = (j : ℕ) × (slice_get entries j ≡ Some (k, n))

-- R ties a key to what it stands for. Each of the list has a key with its number, and no other number has a key
pub record IsTable {K A : Type 0} (same : A → A → Bool) (R : K → A → Type 0) (entries : List (K × ℕ)) (xs : List A) : Type 0 where
  pub known : (i : ℕ) (x : A) → slice_get xs i ≡ Some x → (k : K) × R k x × Holds entries k (first_place same x xs)
  pub told : (k : K) (n : ℕ) → Holds entries k n → (x : A) × R k x × IsNumber same xs n x

-- n is the key's number, or the key was not there and now has the number `place`
abbrev pub IsLookedUp : {K : Type 0} → (old : List (K × ℕ)) → K → (place n : ℕ) → (new : List (K × ℕ)) → Type 0
IsLookedUp old k place n new =
    (Holds old k n × (new ≡ old)) ⊎ (((m : ℕ) → Holds old k m → ⊥) × (n ≡ place) × (new ≡ old ++ (k, place) ∷ []))

abbrev pub Grows : {A : Type 0} → List A → List A → Type 0
Grows {A} xs ys = (zs : List A) × (ys ≡ xs ++ zs)
