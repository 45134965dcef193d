-- The first and the last rows of some rows and then others.
use Rattle.std.specs.Prelude.{◌≡◌, refl, ℕ, zero, suc, ◌+◌, ◌-◌, ◌≤◌, ◌<◌, ◌⊎◌, List, [], ◌∷◌, ◌++◌, length, take, drop}
use Rattle.std.proofs.Common.{ap, sym, ◌∙◌, arith, inl, inr}
use Rattle.std.proofs.lemmas.List.{length-append, length-drop, length-take, take-append-le}
use Rattle.std.specs.Prelude.{min}
use Rattle.tall_value.specs.Ends.{first_rows, last_rows}

at_most_or_more : (m n : ℕ) → (m ≤ n) ⊎ (n < m)
at_most_or_more zero n = inl (omega (arith))
at_most_or_more (suc m) zero = inr (omega (arith))
at_most_or_more (suc m) (suc n) = elim (at_most_or_more m n) [ inl h ↦ inl (omega (arith, h)) | inr h ↦ inr (omega (arith, h)) ]

-- ---- places

left_over : (k n m : ℕ) → m ≡ min k n → k - m ≡ k - n
left_over k n m h = omega (arith, h)

less_place : (j k n m : ℕ) → j ≤ k → m ≡ n - (n - k) → (n - k) + (m - j) ≡ n - j
less_place j k n m h e = omega (arith, h, e)

missing : (k n m : ℕ) → m ≡ n - (n - k) → k - m ≡ k - n
missing k n m e = omega (arith, e)

none_less : (n : ℕ) → 0 - n ≡ 0
none_less n = omega (arith)

less_none : (n : ℕ) → n - 0 ≡ n
less_none n = omega (arith)

one_less : (k n : ℕ) → suc k - suc n ≡ k - n
one_less k n = omega (arith)

module _ {R : Type 0} where
  -- ---- the first rows

  pub first_then : (k : ℕ) (rs ss : List R) → first_rows k (rs ++ ss) ≡ first_rows k rs ++ first_rows (k - length rs) ss
  first_then zero [] ss = refl
  first_then (suc k) [] ss = ap (λ j. take j ss) (sym (less_none (suc k)))
  first_then zero (r ∷ rs) ss = ap (λ j. take j ss) (sym (none_less (suc (length rs))))
  first_then (suc k) (r ∷ rs) ss = ap (λ xs. r ∷ xs) (first_then k rs ss ∙ ap (λ j. take k rs ++ take j ss) (sym (one_less k (length rs))))

  first_less : (j k : ℕ) (rs : List R) → j ≤ k → first_rows j (first_rows k rs) ≡ first_rows j rs
  first_less zero k rs h = refl
  first_less (suc j) zero rs h = absurd (omega (arith, h))
  first_less (suc j) (suc k) [] h = refl
  first_less (suc j) (suc k) (r ∷ rs) h = ap (λ xs. r ∷ xs) (first_less j k rs (omega (arith, h)))

  pub first_of_both : (k : ℕ) (rs ss : List R) → first_rows k (rs ++ ss) ≡ first_rows k (first_rows k rs ++ first_rows k ss)
  first_of_both k rs ss =
      let e : k - length (first_rows k rs) ≡ k - length rs = left_over k (length rs) (length (first_rows k rs)) (length-take k rs) in
      first_then k rs ss
      ∙ sym (first_then k (first_rows k rs) (first_rows k ss)
      ∙ (ap (λ xs. xs ++ first_rows (k - length (first_rows k rs)) (first_rows k ss)) (first_less k k rs (omega (arith)))
      ∙ ap (λ xs. first_rows k rs ++ xs) (ap (λ j. first_rows j (first_rows k ss)) e ∙ first_less (k - length rs) k ss (omega (arith)))))

  -- the first of the first rows stand for these
  pub first_front : (k : ℕ) (rs ss : List R) → first_rows k (first_rows k rs ++ ss) ≡ first_rows k (rs ++ ss)
  first_front k rs ss =
      first_then k (first_rows k rs) ss
      ∙ (ap (λ xs. xs ++ first_rows (k - length (first_rows k rs)) ss) (first_less k k rs (omega (arith)))
      ∙ (ap (λ j. first_rows k rs ++ first_rows j ss) (left_over k (length rs) (length (first_rows k rs)) (length-take k rs)) ∙ sym (first_then k rs ss)))

  pub first_none : (k : ℕ) → first_rows {R = R} k [] ≡ []
  first_none zero = refl
  first_none (suc k) = refl

  pub first_enough : (k : ℕ) (rs ss : List R) → k ≤ length rs → first_rows k (rs ++ ss) ≡ first_rows k rs
  first_enough k rs ss h = take-append-le k rs ss h

  -- ---- the last rows

  drop_drop : (i j : ℕ) (rs : List R) → drop i (drop j rs) ≡ drop (j + i) rs
  drop_drop i zero rs = ap (λ k. drop k rs) (let e : i ≡ 0 + i = omega (arith) in e)
  drop_drop zero (suc j) [] = ap (λ k. drop k []) (let e : suc j ≡ suc j + 0 = omega (arith) in e)
  drop_drop (suc i) (suc j) [] = ap (λ k. drop k []) (let e : suc (j + suc i) ≡ suc j + suc i = omega (arith) in e)
  drop_drop i (suc j) (r ∷ rs) = drop_drop i j rs ∙ ap (λ k. drop k (r ∷ rs)) (let e : suc (j + i) ≡ suc j + i = omega (arith) in e)

  drop_then : (j : ℕ) (rs ss : List R) → drop j (rs ++ ss) ≡ drop j rs ++ drop (j - length rs) ss
  drop_then zero [] ss = refl
  drop_then (suc j) [] ss = ap (λ k. drop k ss) (sym (less_none (suc j)))
  drop_then zero (r ∷ rs) ss = ap (λ k. (r ∷ rs) ++ drop k ss) (sym (none_less (suc (length rs))))
  drop_then (suc j) (r ∷ rs) ss = drop_then j rs ss ∙ ap (λ k. drop j rs ++ drop k ss) (sym (one_less j (length rs)))

  drop_all : (j : ℕ) (rs : List R) → length rs ≤ j → drop j rs ≡ []
  drop_all zero [] h = refl
  drop_all (suc j) [] h = refl
  drop_all zero (r ∷ rs) h = absurd (omega (arith, h))
  drop_all (suc j) (r ∷ rs) h = drop_all j rs (omega (arith, h))

  in_front : (k n m : ℕ) (rs : List R) → n ≡ length rs → drop (n + m - k) rs ≡ drop (n - (k - m)) rs
  in_front k n m rs e = elim (at_most_or_more m k) [
    | inl h ↦ ap (λ j. drop j rs) (let q : n + m - k ≡ n - (k - m) = omega (arith, h) in q)
    | inr h ↦ drop_all (n + m - k) rs (omega (arith, h, e)) ∙ sym (drop_all (n - (k - m)) rs (omega (arith, h, e)))
  ]

  pub last_then : (k : ℕ) (rs ss : List R) → last_rows k (rs ++ ss) ≡ last_rows (k - length ss) rs ++ last_rows k ss
  last_then k rs ss =
      let n : length (rs ++ ss) ≡ length rs + length ss = length-append rs ss in
      let j : (length rs + length ss - k) - length rs ≡ length ss - k = omega (arith) in
      ap (λ m. drop (m - k) (rs ++ ss)) n
      ∙ (drop_then (length rs + length ss - k) rs ss
      ∙ (ap (λ xs. xs ++ drop ((length rs + length ss - k) - length rs) ss) (in_front k (length rs) (length ss) rs refl) ∙ ap (λ i. last_rows (k - length ss) rs ++ drop i ss) j))

  last_less : (j k : ℕ) (rs : List R) → j ≤ k → last_rows j (last_rows k rs) ≡ last_rows j rs
  last_less j k rs h =
      drop_drop (length (last_rows k rs) - j) (length rs - k) rs
      ∙ ap (λ i. drop i rs) (less_place j k (length rs) (length (last_rows k rs)) h (length-drop (length rs - k) rs))

  pub last_of_both : (k : ℕ) (rs ss : List R) → last_rows k (rs ++ ss) ≡ last_rows k (last_rows k rs ++ last_rows k ss)
  last_of_both k rs ss =
      let e : k - length (last_rows k ss) ≡ k - length ss = missing k (length ss) (length (last_rows k ss)) (length-drop (length ss - k) ss) in
      last_then k rs ss
      ∙ sym (last_then k (last_rows k rs) (last_rows k ss)
      ∙ (ap (λ xs. last_rows (k - length (last_rows k ss)) (last_rows k rs) ++ xs) (last_less k k ss (omega (arith)))
      ∙ ap (λ xs. xs ++ last_rows k ss) (ap (λ i. last_rows i (last_rows k rs)) e ∙ last_less (k - length ss) k rs (omega (arith)))))

  pub last_front : (k : ℕ) (rs ss : List R) → last_rows k (last_rows k rs ++ ss) ≡ last_rows k (rs ++ ss)
  last_front k rs ss = last_then k (last_rows k rs) ss ∙ (ap (λ xs. xs ++ last_rows k ss) (last_less (k - length ss) k rs (omega (arith))) ∙ sym (last_then k rs ss))

  pub last_none : (k : ℕ) → last_rows {R = R} k [] ≡ []
  last_none k = drop_all (0 - k) [] (omega (arith))
