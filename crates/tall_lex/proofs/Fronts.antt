-- The bytes in front of a text that pass a test.
use Rattle.std.proofs.Common.{◌≡◌, ◌≤◌, ℕ, Bool, true, false, List, [], ◌∷◌, ◌++◌, ◌+◌, drop, length, one-add, arith}
use Rattle.std.specs.List.{list_all, prefix_len}
use Rattle.std.proofs.lemmas.Bool.{and_parts, cond_both, cond-true}
use Rattle.tall_lex.specs.Bytes.{first}

-- the byte behind them doesn't
pub stops : (p : ℕ → Bool) (xs : List ℕ) → p 0 ≡ false → p (first (drop (prefix_len p xs) xs)) ≡ false
stops p [] z = z
stops p (x ∷ xs) z =
    cond_both (p x) (1 + prefix_len p xs) 0 (λ n. p (first (drop n (x ∷ xs))) ≡ false) (λ yes. rw one-add (stops p xs z)) (λ no. no)

pub front_at_least : (p : ℕ → Bool) (xs rest : List ℕ) → list_all p xs ≡ true → length xs ≤ prefix_len p (xs ++ rest)
front_at_least p [] rest h = omega arith
front_at_least p (x ∷ xs) rest h =
    let parts = and_parts (p x) (list_all p xs) h in
    let one : prefix_len p ((x ∷ xs) ++ rest) ≡ 1 + prefix_len p (xs ++ rest) = cond-true (p x) (1 + prefix_len p (xs ++ rest)) 0 parts.0 in
    let more : length xs ≤ prefix_len p (xs ++ rest) = front_at_least p xs rest parts.1 in
    omega (arith, one, more)
