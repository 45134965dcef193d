-- The carries of the blocks that a pass goes through are the folds of the cells before each, up to the first that is missing.
use Rattle.std.specs.Prelude.{◌≡◌, refl, ℕ, zero, suc, ◌<◌, ◌≤◌, Option, None, Some, List, [], ◌∷◌, ◌++◌, get_or, length, map, slice_get}
use Rattle.std.proofs.Common.{ap, sym, ◌∙◌, arith, inl, inr}
use Rattle.std.proofs.lemmas.List.{length-map}
use Rattle.std.proofs.lemmas.Option.{slice_get_past}
use Rattle.tall_value.specs.declared.class.Kind.{Kind}
use Rattle.tall_value.specs.declared.functions.Scan.{Scan}
use Rattle.tall_value.specs.Cells.{Seen}
use Rattle.tall_semantics.specs.ScanCarries.{carries_behind, carries_of, fold_of, while_there}
use Rattle.tall_semantics.proofs.LevelLaws.{compare}
use Rattle.tall_blocks.specs.Carries.{carry_for}
use Rattle.tall_piece.specs.Carried.{AreCarries, AreAllCarries, with_fold}

abbrev entry : List (Option Seen) → ℕ → Option Seen
entry os n = get_or os n None

abbrev some_cell : Seen → Option Seen
some_cell c = Some c

-- ---- what the definition gives

none_there : (os : List (Option Seen)) (n : ℕ) → entry (map (λ o. None) os) n ≡ None
none_there [] zero = refl
none_there [] (suc n) = refl
none_there (o ∷ os) zero = refl
none_there (o ∷ os) (suc n) = none_there os n

-- behind one that is missing, all are
missing_step : (o : Option Seen) (os : List (Option Seen)) (m n : ℕ) → m ≤ n → entry (while_there o os) m ≡ None → ((l k : ℕ) → l ≤ k → entry os l ≡ None → entry os k ≡ None) → entry (while_there o os) n ≡ None
missing_step None os m zero l e go = refl
missing_step None os m (suc n) l e go = none_there os n
missing_step (Some d) os zero n l e go = absurd (cc)
missing_step (Some d) os (suc m) zero l e go = absurd (omega (arith, l))
missing_step (Some d) os (suc m) (suc n) l e go = go m n (omega (arith, l)) e

missing_behind : (s : Scan) (a : Kind) (before : List Seen) (bs : List (List Seen)) (m n : ℕ) → m ≤ n → entry (carries_behind s a before bs) m ≡ None → entry (carries_behind s a before bs) n ≡ None
missing_behind s a before [] m zero l e = refl
missing_behind s a before [] m (suc n) l e = refl
missing_behind s a before (b ∷ bs) m n l e = missing_step (fold_of s a before) (carries_behind s a (before ++ b) bs) m n l e (λ i k g h. missing_behind s a (before ++ b) bs i k g h)

while_length : (o : Option Seen) (os : List (Option Seen)) → length (while_there o os) ≡ suc (length os)
while_length None os = ap suc (length-map os (λ o. None))
while_length (Some d) os = refl

behind_length : (s : Scan) (a : Kind) (before : List Seen) (bs : List (List Seen)) → length (carries_behind s a before bs) ≡ length bs
behind_length s a before [] = refl
behind_length s a before (b ∷ bs) = while_length (fold_of s a before) (carries_behind s a (before ++ b) bs) ∙ ap suc (behind_length s a (before ++ b) bs)

past_end : (os : List (Option Seen)) (n : ℕ) → length os ≤ n → entry os n ≡ None
past_end [] zero l = refl
past_end [] (suc n) l = refl
past_end (o ∷ os) zero l = absurd (omega (arith, l))
past_end (o ∷ os) (suc n) l = past_end os n (omega (arith, l))

-- ---- what is kept

pub no_carries : (given : ℕ → Option Seen) → AreCarries given 0 []
no_carries given = (omega (arith), λ m l. absurd (omega (arith, l)))

got_front : (xs : List Seen) (c : Seen) (m : ℕ) → m < length xs → slice_get (xs ++ c ∷ []) m ≡ slice_get xs m
got_front [] c m l = absurd (omega (arith, l))
got_front (x ∷ xs) c zero l = refl
got_front (x ∷ xs) c (suc m) l = got_front xs c m (omega (arith, l))

got_last : (xs : List Seen) (c : Seen) → slice_get (xs ++ c ∷ []) (length xs) ≡ some_cell c
got_last [] c = refl
got_last (x ∷ xs) c = got_last xs c

one_longer : (xs : List Seen) (c : Seen) → length (xs ++ c ∷ []) ≡ suc (length xs)
one_longer [] c = refl
one_longer (x ∷ xs) c = ap suc (one_longer xs c)

there_in : (xs : List Seen) (m : ℕ) → m < length xs → slice_get xs m ≡ None → ⊥
there_in [] m l e = omega (arith, l)
there_in (x ∷ xs) zero l e = absurd (cc)
there_in (x ∷ xs) (suc m) l e = there_in xs m (omega (arith, l)) e

module _ (s : Scan) (a : Kind) (bs : List (List Seen)) where
  abbrev Given : ℕ → Option Seen
  Given n = carry_for s a bs n

  -- where one before it isn't, it is missing
  next_missing : (n : ℕ) (xs : List Seen) → AreCarries Given n xs → length xs < n → Given n ≡ None
  next_missing n xs are less = missing_behind s a [] bs (length xs) n (omega (arith, less)) (sym (are.1 (length xs) less) ∙ slice_get_past xs (length xs) (omega (arith)))

  same_carries : (n : ℕ) (xs : List Seen) → AreCarries Given n xs → Given n ≡ None → AreCarries Given (suc n) xs
  same_carries n xs are none = (
    (let h = are.0 in omega (arith, h)),
    (λ m l. elim (compare m n) [
      | inl less ↦ are.1 m less
      | inr rest ↦ elim rest [
        | inl more ↦ absurd (omega (arith, more, l))
        | inr same ↦ slice_get_past xs m (let h = are.0 in omega (arith, h, same)) ∙ sym (ap Given same ∙ none)
      ]
    ]),
  )

  one_carry_more : (n : ℕ) (xs : List Seen) (c : Seen) → AreCarries Given n xs → length xs ≡ n → Given n ≡ some_cell c → AreCarries Given (suc n) (xs ++ c ∷ [])
  one_carry_more n xs c are full some = (
    (let h = one_longer xs c in omega (arith, h, full)),
    (λ m l. elim (compare m n) [
      | inl less ↦ got_front xs c m (omega (arith, less, full)) ∙ are.1 m less
      | inr rest ↦ elim rest [
        | inl more ↦ absurd (omega (arith, more, l))
        | inr same ↦ ap (slice_get (xs ++ c ∷ [])) (same ∙ sym full) ∙ (got_last xs c ∙ sym (ap Given same ∙ some))
      ]
    ]),
  )

  with_fold_of : (n : ℕ) (xs : List Seen) (o : Option Seen) → AreCarries Given n xs → Given n ≡ o → AreCarries Given (suc n) (with_fold xs o)
  with_fold_of n xs None are e = same_carries n xs are e
  with_fold_of n xs (Some c) are e = elim (compare (length xs) n) [
    | inl less ↦ absurd (let z = next_missing n xs are less in cc)
    | inr rest ↦ elim rest [ inl more ↦ absurd (let h = are.0 in omega (arith, h, more)) | inr same ↦ one_carry_more n xs c are same e ]
  ]

  abbrev Tells : (ℕ → Option Seen) → Type 0
  Tells given = (m : ℕ) → given m ≡ Given m

  told : (given : ℕ → Option Seen) → Tells given → (n : ℕ) (xs : List Seen) → AreCarries given n xs → AreCarries Given n xs
  told given e n xs are = (are.0, λ m l. are.1 m l ∙ e m)

  back : (given : ℕ → Option Seen) → Tells given → (n : ℕ) (xs : List Seen) → AreCarries Given n xs → AreCarries given n xs
  back given e n xs are = (are.0, λ m l. are.1 m l ∙ sym (e m))

  -- with the carry of the block n
  pub carries_go_on : (given : ℕ → Option Seen) → Tells given → (n : ℕ) (xs : List Seen) (o : Option Seen) → AreCarries given n xs → o ≡ Given n → AreCarries given (suc n) (with_fold xs o)
  carries_go_on given e n xs o are q = back given e (suc n) (with_fold xs o) (with_fold_of n xs o (told given e n xs are) (sym q))

  -- behind the last block
  pub carries_end : (n : ℕ) (xs : List Seen) → length bs ≤ n → AreCarries Given n xs → AreAllCarries Given xs
  carries_end n xs l are m = elim (compare m n) [
    | inl less ↦ are.1 m less
    | inr rest ↦
        let most : n ≤ m = elim rest [ inl more ↦ omega (arith, more) | inr same ↦ omega (arith, same) ] in
        slice_get_past xs m (let h = are.0 in omega (arith, h, most)) ∙ sym (past_end (carries_of s a bs) m (let k = behind_length s a [] bs in omega (arith, k, l, most)))
  ]
