-- Names of variables: numbers in names tell them apart, so one of n + 1 suffixes is free where n names are taken.
use Rattle.std.proofs.Common.{ℕ, zero, suc, ◌≡◌, ◌∙◌, ◌<◌, ◌≤◌, ◌+◌, ◌^◌, List, [], ◌∷◌, ◌++◌, Bool, true, false, sym, ap, subst, refl, arith, length, map}
use Rattle.std.specs.Prelude.{◌||◌, if◌then◌else◌, codes}
use Rattle.std.specs.List.{AllByRecursion, IsDistinct, range_with_len}
use Rattle.std.specs.Set.{is_member}
use Rattle.std.specs.Str.{bytes_eq}
use Rattle.std.specs.Fmt.{decimal}
use Rattle.std.proofs.lemmas.Bool.{false≢true}
use Rattle.std.proofs.lemmas.Fmt.{decimal_injective}
use Rattle.std.proofs.lemmas.List.{append_cancel_left, length-append}
use Rattle.std.proofs.lemmas.List.Folds.{list_any-append}
use Rattle.std.proofs.lemmas.List.FromFn.{length-map-range_with_len}
use Rattle.std.proofs.lemmas.Map.Keys.{IsDistinct-cons}
use Rattle.std.proofs.lemmas.Map.Made.{length-le_from_is_member}
use Rattle.std.proofs.lemmas.Slice.Eq.{bytes_eq-Decides}
use Rattle.tall_store.specs.Names.{is_suffix_taken, least_free, numbered_name, suffix_of, suffixed}
use Rattle.tall_value.specs.Names.{has_name}
use Rattle.tall_store.proofs.Selections.{bytes_laws}

-- ---- names of numbers

abbrev TellsApart : (ℕ → List ℕ) → Type 0
TellsApart f = (i j : ℕ) → i < 2 ^ 64 → j < 2 ^ 64 → f i ≡ f j → i ≡ j

apart : (f : ℕ → List ℕ) → TellsApart f → (i j : ℕ) → i < j → j < 2 ^ 64 → bytes_eq (f i) (f j) ≡ false
apart f t i j l m = by_test (bytes_eq (f i) (f j)) refl
  where
    by_test : (b : Bool) → b ≡ bytes_eq (f i) (f j) → bytes_eq (f i) (f j) ≡ false
    by_test false e = sym e
    by_test true e = absurd (unequal i j l (t i j (omega arith) m ((bytes_eq-Decides (f i) (f j)).0 (sym e))))
      where
        unequal : (i j : ℕ) → i < j → i ≡ j → ⊥
        unequal i j l e = omega arith

apart_all : (f : ℕ → List ℕ) → TellsApart f → (i k n : ℕ) → i < k → k + n ≤ 2 ^ 64 → AllByRecursion (λ y. bytes_eq (f i) y ≡ false) (map f (range_with_len k n))
apart_all f t i k zero l m = tt
apart_all f t i k (suc n) l m = (apart f t i k l (omega arith), apart_all f t i (k + 1) n (omega arith) (omega arith))

pub distinct_range : (f : ℕ → List ℕ) → TellsApart f → (k n : ℕ) → k + n ≤ 2 ^ 64 → IsDistinct bytes_eq (map f (range_with_len k n))
unfolding IsDistinct
distinct_range f t k zero m = tt
distinct_range f t k (suc n) m =
    IsDistinct-cons bytes_eq (f k) (map f (range_with_len (k + 1) n)) (apart_all f t k (k + 1) n (omega arith) (omega arith)) (distinct_range f t (k + 1) n (omega arith))

pub numbered_apart : TellsApart numbered_name
numbered_apart i j l m e = decimal_injective i j l m (append_cancel_left (codes "Var") (decimal i) (decimal j) e)

suffixed_apart : (name : List ℕ) → TellsApart (suffixed name)
suffixed_apart name i j l m e =
    decimal_injective i j l m (append_cancel_left (codes "_") (decimal i) (decimal j) (append_cancel_left name (codes "_" ++ decimal i) (codes "_" ++ decimal j) e))

-- ---- a free suffix

-- where the least is taken, all are
all_taken : (is_taken : ℕ → Bool) (n k : ℕ) → is_taken (least_free is_taken n k) ≡ true → AllByRecursion (λ j. is_taken j ≡ true) (range_with_len k (suc n))
unfolding least_free
all_taken is_taken zero k e = (e, tt)
all_taken is_taken (suc n) k e = by_test (all_taken is_taken n (k + 1)) (is_taken k) refl e
  where
    by_test : (is_taken (least_free is_taken n (k + 1)) ≡ true → AllByRecursion (λ j. is_taken j ≡ true) (range_with_len (k + 1) (suc n)))
        → (b : Bool) → b ≡ is_taken k → is_taken (if b then least_free is_taken n (k + 1) else k) ≡ true
        → AllByRecursion (λ j. is_taken j ≡ true) (k ∷ range_with_len (k + 1) (suc n))
    by_test rest true b e = (sym b, rest e)
    by_test rest false b e = absurd (false≢true (b ∙ e))

taken_names : (fields earlier : List (List ℕ)) (name : List ℕ) (ks : List ℕ) → AllByRecursion (λ k. is_suffix_taken fields earlier name k ≡ true) ks
    → (q : List ℕ) → is_member bytes_eq (map (suffixed name) ks) q ≡ true → is_member bytes_eq (fields ++ earlier) q ≡ true
taken_names fields earlier name [] a q e = absurd (false≢true e)
taken_names fields earlier name (k ∷ ks) a q e = by_test (taken_names fields earlier name ks a.1 q) (bytes_eq q (suffixed name k)) refl e
  where
    by_test : (is_member bytes_eq (map (suffixed name) ks) q ≡ true → is_member bytes_eq (fields ++ earlier) q ≡ true)
        → (b : Bool) → b ≡ bytes_eq q (suffixed name k) → (b || is_member bytes_eq (map (suffixed name) ks) q) ≡ true → is_member bytes_eq (fields ++ earlier) q ≡ true
    by_test rest false b e = rest e
    by_test rest true b e =
        subst (λ w. is_member bytes_eq (fields ++ earlier) w ≡ true) (sym ((bytes_eq-Decides q (suffixed name k)).0 (sym b)))
        (list_any-append (bytes_eq (suffixed name k)) fields earlier ∙ a.0)

pub suffix_free : (fields earlier : List (List ℕ)) (name : List ℕ) → length fields < 2 ^ 20 → length earlier < 2 ^ 20
    → is_suffix_taken fields earlier name (suffix_of fields earlier name) ≡ false
suffix_free fields earlier name l m = by_test (is_suffix_taken fields earlier name (suffix_of fields earlier name)) refl
  where
    too_many : (n k : ℕ) → n ≡ k → suc k ≤ n → ⊥
    too_many n k e l = omega arith

    by_test : (b : Bool) → b ≡ is_suffix_taken fields earlier name (suffix_of fields earlier name) → is_suffix_taken fields earlier name (suffix_of fields earlier name) ≡ false
    by_test false e = sym e
    by_test true e =
        let n : ℕ = length fields + length earlier in
        let names : List (List ℕ) = map (suffixed name) (range_with_len 1 (suc n)) in
        absurd (too_many (length (fields ++ earlier)) n (length-append fields earlier)
        (subst (λ k. k ≤ length (fields ++ earlier)) (length-map-range_with_len (suffixed name) 1 (suc n))
        (length-le_from_is_member bytes_laws names (fields ++ earlier) (distinct_range (suffixed name) (suffixed_apart name) 1 (suc n) (omega arith))
        (taken_names fields earlier name (range_with_len 1 (suc n)) (all_taken (is_suffix_taken fields earlier name) n 1 (sym e))))))

pub fresh_suffix : (fields earlier : List (List ℕ)) (name : List ℕ) → length fields < 2 ^ 20 → length earlier < 2 ^ 20
    → has_name earlier (suffixed name (suffix_of fields earlier name)) ≡ false
fresh_suffix fields earlier name l m =
    neither (has_name fields (suffixed name (suffix_of fields earlier name))) (has_name earlier (suffixed name (suffix_of fields earlier name))) (suffix_free fields earlier name l m)
  where
    neither : (a b : Bool) → (a || b) ≡ false → b ≡ false
    neither false b e = e
    neither true b e = absurd (false≢true (sym e))

-- ---- the loop that looks for it

pub least_found : (is_taken : ℕ → Bool) (n k due : ℕ) → is_taken k ≡ false → 0 < n → least_free is_taken n k ≡ due → k ≡ due
unfolding least_free
least_found is_taken zero k due b l e = absurd (omega arith)
least_found is_taken (suc n) k due b l e = ap (λ t. if t then least_free is_taken n (k + 1) else k) (sym b) ∙ e

pub least_more : (is_taken : ℕ → Bool) (n m k due : ℕ) → is_taken k ≡ true → n ≡ suc m → least_free is_taken n k ≡ due → least_free is_taken m (k + 1) ≡ due
unfolding least_free
least_more is_taken n m k due b l e = ap (λ t. if t then least_free is_taken m (k + 1) else k) (sym b) ∙ ap (λ j. least_free is_taken j k) (sym l) ∙ e

pub least_last : (is_taken : ℕ → Bool) (n k due : ℕ) → n ≡ 0 → least_free is_taken n k ≡ due → k ≡ due
unfolding least_free
least_last is_taken n k due l e = ap (λ j. least_free is_taken j k) (sym l) ∙ e
