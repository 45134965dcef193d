-- Laws of data cut into parts.
use Rattle.std.specs.Prelude.{◌≡◌, refl, ℤ, ℕ, pos, ◌+◌, ◌+ℤ◌, ◌≤ℤ◌, Bool, true, false, if◌then◌else◌, Option, None, Some, List, [], ◌∷◌, ◌++◌, length}
use Rattle.std.proofs.Common.{ap, sym, ◌∙◌, arith, length-append}
use Rattle.std.proofs.lemmas.Int.{ints, clamps}
use Rattle.std.proofs.lemmas.List.Elements.{filter-append, filter_map-append}
use Rattle.std.specs.List.{filter, fold}
use Rattle.std.specs.Int.{int_max, int_min}
use Rattle.tall_int.specs.Numbers.{nearest}
use Rattle.tall_int.specs.Sums.{clamped_sum}
use Rattle.tall_clamp.specs.ClampLaws.{nearest_above, nearest_below, apply-after}
use Rattle.tall_clamp.specs.Clamps.{after, apply, row_clamp, Sums}
use Rattle.tall_clamp.specs.Folds.{no_clamp, of_both}
use Rattle.tall_clamp.specs.Outcomes.{numbers, picked}
use Rattle.tall_clamp.specs.declared.bounds.Bounds.{Bounds}
use Rattle.tall_value.specs.CellOperators.{or_zero}
use Rattle.tall_value.specs.Reductions.{total}
use Rattle.tall_group.specs.States.{IsRange, IsWithin}

numbers_append : (ds es : List (Option ℤ)) → numbers (ds ++ es) ≡ numbers ds ++ numbers es
numbers_append ds es = filter_map-append (λ (t : Option ℤ). t) ds es

total_append : (xs ys : List ℤ) → total (xs ++ ys) ≡ total xs +ℤ total ys
total_append [] ys = omega (arith, ints)
total_append (x ∷ xs) ys = (let h = total_append xs ys in omega (arith, ints, h))

pub total_join : (ds es : List (Option ℤ)) (t u : ℤ) → t ≡ total (numbers ds) → u ≡ total (numbers es) → (t +ℤ u) ≡ total (numbers (ds ++ es))
total_join ds es t u p q = ap (λ (x : ℤ). x +ℤ u) p ∙ (ap (λ (x : ℤ). total (numbers ds) +ℤ x) q ∙ (sym (total_append (numbers ds) (numbers es)) ∙ ap total (sym (numbers_append ds es))))

one_total : (d : Option ℤ) → or_zero d ≡ total (numbers (d ∷ []))
one_total (Some n) = omega (arith, ints)
one_total None = refl

pub total_step : (ds : List (Option ℤ)) (d : Option ℤ) (t n : ℤ) → t ≡ total (numbers ds) → n ≡ or_zero d → (t +ℤ n) ≡ total (numbers (ds ++ d ∷ []))
total_step ds d t n p q = total_join ds (d ∷ []) t n p (q ∙ one_total d)

pub rows_step : {A : Type 0} (ds : List A) (d : A) (n : ℕ) → n ≡ length ds → n + 1 ≡ length (ds ++ d ∷ [])
rows_step ds d n h = omega (arith, h, length-append ds (d ∷ []))

pub rows_join : {A : Type 0} (ds es : List A) (m n : ℕ) → m ≡ length ds → n ≡ length es → m + n ≡ length (ds ++ es)
rows_join ds es m n p q = omega (arith, p, q, length-append ds es)

-- ---- the least and the greatest

module _ (pick : ℤ → ℤ → ℤ) (assoc : (x y z : ℤ) → pick (pick x y) z ≡ pick x (pick y z)) where
  fold_first : (m n : ℤ) (xs : List ℤ) → fold pick (pick m n) xs ≡ pick m (fold pick n xs)
  fold_first m n [] = refl
  fold_first m n (x ∷ xs) = ap (λ (y : ℤ). fold pick y xs) (assoc m n x) ∙ fold_first m (pick n x) xs

  fold_both : (m : ℤ) (xs ys : List ℤ) → fold pick m (xs ++ ys) ≡ fold pick (fold pick m xs) ys
  fold_both m [] ys = refl
  fold_both m (x ∷ xs) ys = fold_both (pick m x) xs ys

  picked_append : (xs ys : List ℤ) → picked pick (xs ++ ys) ≡ of_both pick (picked pick xs) (picked pick ys)
  picked_append [] ys = refl
  picked_append (x ∷ xs) [] = ap Some (fold_both x xs [])
  picked_append (x ∷ xs) (y ∷ ys) = ap Some (fold_both x xs (y ∷ ys) ∙ fold_first (fold pick x xs) y ys)

  pub best_join : (ds es : List (Option ℤ)) (b c : Option ℤ) → b ≡ picked pick (numbers ds) → c ≡ picked pick (numbers es) → of_both pick b c ≡ picked pick (numbers (ds ++ es))
  best_join ds es b c p q =
      ap (λ x. of_both pick x c) p
      ∙ (ap (of_both pick (picked pick (numbers ds))) q ∙ (sym (picked_append (numbers ds) (numbers es)) ∙ ap (picked pick) (sym (numbers_append ds es))))

  one_best : (d : Option ℤ) → d ≡ picked pick (numbers (d ∷ []))
  one_best (Some n) = refl
  one_best None = refl

  pub best_step : (ds : List (Option ℤ)) (d b : Option ℤ) → b ≡ picked pick (numbers ds) → of_both pick b d ≡ picked pick (numbers (ds ++ d ∷ []))
  best_step ds d b p = best_join ds (d ∷ []) b d p (one_best d)

-- what is picked of two numbers lies between any ends between which both lie
abbrev pub PicksWithin : (ℤ → ℤ → ℤ) → Type 0
PicksWithin pick = (low high x y : ℤ) → low ≤ℤ x → x ≤ℤ high → low ≤ℤ y → y ≤ℤ high → (low ≤ℤ pick x y) × (pick x y ≤ℤ high)

pub min_within : PicksWithin int_min
min_within low high x y p q r s = (omega (arith, ints, clamps, p, r), omega (arith, ints, clamps, q, s))

pub max_within : PicksWithin int_max
max_within low high x y p q r s = (omega (arith, ints, clamps, p, r), omega (arith, ints, clamps, q, s))

pub both_within : (pick : ℤ → ℤ → ℤ) → PicksWithin pick → (low high : ℤ) (b c : Option ℤ) → IsWithin low high b → IsWithin low high c → IsWithin low high (of_both pick b c)
both_within pick w low high (Some x) (Some y) p q = w low high x y p.0 p.1 q.0 q.1
both_within pick w low high (Some x) None p q = p
both_within pick w low high None c p q = q

-- ---- how many pass a test

module _ (test : Option ℤ → Bool) where
  pub tally_join : (ds es : List (Option ℤ)) (m n : ℕ) → m ≡ length (filter test ds) → n ≡ length (filter test es) → m + n ≡ length (filter test (ds ++ es))
  tally_join ds es m n p q =
      let e : length (filter test (ds ++ es)) ≡ length (filter test ds ++ filter test es) = ap length (filter-append test ds es) in
      omega (arith, p, q, e, length-append (filter test ds) (filter test es))

  one_tally : (d : Option ℤ) (b : Bool) → test d ≡ b → (if b then 1 else 0) ≡ length (filter test (d ∷ []))
  one_tally d true h = sym (ap (λ b. length (if b then d ∷ [] else [])) h)
  one_tally d false h = sym (ap (λ b. length (if b then d ∷ [] else [])) h)

  pub tally_step : (ds : List (Option ℤ)) (d : Option ℤ) (m n : ℕ) → m ≡ length (filter test ds) → n ≡ (if test d then 1 else 0) → m + n ≡ length (filter test (ds ++ d ∷ []))
  tally_step ds d m n p q = tally_join ds (d ∷ []) m n p (q ∙ one_tally d (test d) refl)

-- ---- sums that stay in the class

clamped_append : (low high x : ℤ) (ns ms : List ℤ) → clamped_sum low high x (ns ++ ms) ≡ clamped_sum low high (clamped_sum low high x ns) ms
clamped_append low high x [] ms = refl
clamped_append low high x (n ∷ ns) ms = clamped_append low high (nearest low high (x +ℤ n)) ns ms

sum_above : (low high x : ℤ) (ns : List ℤ) → low ≤ℤ high → low ≤ℤ x → low ≤ℤ clamped_sum low high x ns
sum_above low high x [] p q = q
sum_above low high x (n ∷ ns) p q = sum_above low high (nearest low high (x +ℤ n)) ns p (nearest_above low high (x +ℤ n) p)

sum_below : (low high x : ℤ) (ns : List ℤ) → low ≤ℤ high → x ≤ℤ high → clamped_sum low high x ns ≤ℤ high
sum_below low high x [] p q = q
sum_below low high x (n ∷ ns) p q = sum_below low high (nearest low high (x +ℤ n)) ns p (nearest_below low high (x +ℤ n) p)

pub native_join : (low high : ℤ) (ds es : List (Option ℤ)) (a b : Bounds) → low ≤ℤ high → a.low ≤ℤ a.high → b.low ≤ℤ b.high → Sums low high (numbers ds) a → Sums low high (numbers es) b → Sums low high (numbers (ds ++ es)) (after a b)
native_join low high ds es a b o p q h k x u v =
    apply-after a b x p q
    ∙ (ap (apply b) (h x u v)
    ∙ (k (clamped_sum low high x (numbers ds)) (sum_above low high x (numbers ds) o u) (sum_below low high x (numbers ds) o v)
    ∙ (sym (clamped_append low high x (numbers ds) (numbers es)) ∙ ap (clamped_sum low high x) (sym (numbers_append ds es)))))

-- a number is a row, and NaN is none
abbrev pub row_or_none : ℤ → ℤ → Option ℤ → Bounds
row_or_none low high (Some n) = row_clamp low high n
row_or_none low high None = no_clamp

no_row : (low high x : ℤ) → IsRange low high → low ≤ℤ x → x ≤ℤ high → apply no_clamp x ≡ x
no_row low high x r u v = omega (arith, ints, clamps, r.0, r.3)

pub one_native : (low high : ℤ) (d : Option ℤ) → IsRange low high → Sums low high (numbers (d ∷ [])) (row_or_none low high d)
one_native low high (Some n) r x u v = refl
one_native low high None r x u v = no_row low high x r u v

pub none_native : (low high : ℤ) → IsRange low high → Sums low high [] no_clamp
none_native low high r x u v = no_row low high x r u v
