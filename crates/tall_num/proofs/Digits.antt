-- Lists of digits.
use Rattle.std.proofs.Common.{◌≡◌, ◌<◌, ◌≤◌, ◌^◌, ℕ, suc, refl, Bool, true, false, cond, List, [], ◌∷◌, ◌+◌, take, length, one-add, arith, ap}
use Rattle.std.specs.List.{list_all, prefix_len}
use Rattle.std.proofs.lemmas.Bool.{and_from, and_parts}
use Rattle.std.proofs.Math.Nat.{pow-le-pow_right}

list_all_prefix_cons : (p : ℕ → Bool) (x : ℕ) (xs : List ℕ) (b : Bool) → p x ≡ b → list_all p (take (prefix_len p xs) xs) ≡ true
    → list_all p (take (cond b (1 + prefix_len p xs) 0) (x ∷ xs)) ≡ true
list_all_prefix_cons p x xs true e h = rw one-add (and_from (p x) (list_all p (take (prefix_len p xs) xs)) e h)
list_all_prefix_cons p x xs false e h = refl

-- the elements that pass from the front on all pass
pub list_all_prefix : (p : ℕ → Bool) (xs : List ℕ) → list_all p (take (prefix_len p xs) xs) ≡ true
list_all_prefix p [] = refl
list_all_prefix p (x ∷ xs) = list_all_prefix_cons p x xs (p x) refl (list_all_prefix p xs)

-- where all pass, all are counted
pub prefix_len_all : (p : ℕ → Bool) (xs : List ℕ) → list_all p xs ≡ true → prefix_len p xs ≡ length xs
prefix_len_all p [] h = refl
prefix_len_all p (x ∷ xs) h =
    let parts = and_parts (p x) (list_all p xs) h in
    rw parts.0 (rw one-add (ap suc (prefix_len_all p xs parts.1)))

-- seventeen digits
pub below_seventeen : (n i : ℕ) → n < 10 ^ i → i < 18 → n < 10 ^ 17
below_seventeen n i h k =
    let within : i ≤ 17 = omega arith in
    let most : 10 ^ i ≤ 10 ^ 17 = pow-le-pow_right {n = 10} (omega arith) {i = i} {j = 17} within in
    omega arith
