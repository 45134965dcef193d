-- Rows of one class, folded at once.
use Rattle.std.proofs.Common.{◌≡◌, ℕ, ◌+◌, ◌-◌, ◌<◌, ◌≤◌, ◌^◌, ℤ, pos, negsuc, ◌+ℤ◌, ◌≤ℤ◌, List, [], ◌∷◌, ◌++◌, length, take, drop, get_or, map, refl, ap, sym, subst, ◌∙◌, arith, Option, Some, None, add-one, suc}
use Rattle.std.specs.List.{fold}
use Rattle.std.proofs.lemmas.Int.{ints}
use Rattle.std.proofs.lemmas.List.Sums.{fold-append}
use Rattle.std.proofs.lemmas.List.{drop_all, length-map, map-append, take_all}
use Rattle.std.proofs.Math.Seq.{drop-cons}
use mir.Val.{SFits}
use mir.Syntax.{w64}
use Rattle.tall_int.specs.Numbers.{nearest, IsTwosRange, signed, unsigned}
use Rattle.tall_clamp.specs.Clamps.{after, apply, row_clamp, IsClamp, Sums}
use Rattle.tall_clamp.specs.Folds.{added, joined_by, of_rows, one_row, no_clamp, IsSum}
use Rattle.tall_clamp.specs.FoldLaws.{held, same_pair}
use Rattle.tall_clamp.specs.SumLaws.{after_is_sum, after-left, row_is_sum, rows_sum}
use Rattle.tall_clamp.specs.ClampLaws.{same_bounds}
use Rattle.tall_clamp.specs.Outcomes.{total}
use Rattle.tall_clamp.specs.declared.bounds.Bounds.{Bounds}
use Rattle.tall_clamp.proofs.SumLemmas.{numbers_more, rows_more}

-- where the greatest number of a class is within m, the least is within m + 1
pub least_within : (m : ℕ) (low high : ℤ) → IsTwosRange low high → (high ≤ℤ pos m) → negsuc m ≤ℤ low
least_within m _ _ (signed k) h = omega (arith, ints)
least_within m _ _ (unsigned k) h = omega (arith, ints)

pub word_fits : (n : ℤ) → (negsuc 4294967295 ≤ℤ n) → (n ≤ℤ pos 4294967295) → SFits w64 n
word_fits (pos n) a b = record { sfits = omega (arith, ints, b) }
word_fits (negsuc n) a b = record { sfits = omega (arith, ints, a) }

-- ---- totals

total_from : (a : ℤ) (ns : List ℤ) → fold (λ a n. a +ℤ n) a ns ≡ a +ℤ total ns
total_from a [] = omega (arith, ints)
total_from a (n ∷ ns) =
    let e = total_from (a +ℤ n) ns in
    let f = total_from (pos 0 +ℤ n) ns in
    omega (arith, ints, e, f)

pub total_append : (ns ms : List ℤ) → total (ns ++ ms) ≡ total ns +ℤ total ms
total_append ns ms = fold-append (λ (a n : ℤ). a +ℤ n) (pos 0) ns ms ∙ total_from (total ns) ms

pub total_more : {V : Type 0} (number : V → ℤ) (vs : List V) (i : ℕ) (v : V) → i < length vs → v ≡ get_or vs i v
    → total (map number (take (i + 1) vs)) ≡ total (map number (take i vs)) +ℤ number v
total_more number vs i v h e =
    ap total (numbers_more number vs i v h e)
    ∙ fold-append (λ (a n : ℤ). a +ℤ n) (pos 0) (map number (take i vs)) (number v ∷ [])

pub split_total : {V : Type 0} (number : V → ℤ) (vs fs bs : List V) (s t u : ℤ) → vs ≡ fs ++ bs → t ≡ total (map number bs) → u ≡ total (map number fs)
    → s ≡ t +ℤ u → s ≡ total (map number vs)
split_total number vs fs bs s t u e f g h =
    let whole : total (map number vs) ≡ total (map number fs) +ℤ total (map number bs) =
    ap (λ (l : List _). total (map number l)) e ∙ ap total (map-append number fs bs) ∙ total_append (map number fs) (map number bs) in
    omega (arith, ints, whole, f, g, h)

-- a slice as a first row and the rest
pub first_and_rest : {V : Type 0} (vs : List V) (v : V) → 1 ≤ length vs → v ≡ get_or vs 0 v → vs ≡ v ∷ take (length vs - 1) (drop 1 vs)
first_and_rest [] v h e = absurd (omega arith)
first_and_rest (x ∷ xs) v h e =
    ap (λ (y : _). y ∷ xs) (sym e) ∙ ap (λ (l : List _). v ∷ l) (sym (take_all (length (x ∷ xs) - 1) xs (omega arith)))

-- ---- clamp functions of runs

-- the clamp function of a first row and some more
abbrev pub run : {V : Type 0} → ℤ → ℤ → (V → ℤ) → V → List V → Bounds
run low high number first vs = fold (λ a v. after a (row_clamp low high (number v))) (row_clamp low high (number first)) vs

-- a shift and two ends are the clamp function of the rows that are done
pub record IsRun {V : Type 0} (low high : ℤ) (number : V → ℤ) (first : V) (shift least most : ℤ) (done : List V) (rows : ℕ) : Type 0 where
  pub value : ◌≡◌ {A = Bounds} (record { shift = shift; low = least; high = most }) (run low high number first done)
  pub sum : IsSum (record { shift = shift; low = least; high = most }) (1 + rows)

pub run_starts : {V : Type 0} (low high : ℤ) (number : V → ℤ) (first : V) (s l h : ℤ) → negsuc 18446744073709551615 ≤ℤ low → high ≤ℤ pos 18446744073709551616
    → (low ≤ℤ number first) → (number first ≤ℤ high) → s ≡ number first → l ≡ low → h ≡ high → IsRun low high number first s l h [] 0
run_starts low high number first s l h a b p q e f k =
    let same : ◌≡◌ {A = Bounds} (record { shift = s; low = l; high = h }) (row_clamp low high (number first)) = same_bounds _ _ _ _ _ _ e f k in
    record { value = same; sum = subst (λ (c : Bounds). IsSum c 1) (sym same) (row_is_sum low high (number first) a b p q) }

pub run_more : {V : Type 0} (low high : ℤ) (number : V → ℤ) (first : V) (s l h t m k : ℤ) (vs : List V) (i : ℕ) (v : V)
    → IsRun low high number first s l h (take i vs) i → i < length vs → v ≡ get_or vs i v → length vs + 1 < 2 ^ 40
    → negsuc 18446744073709551615 ≤ℤ low → high ≤ℤ pos 18446744073709551616 → (low ≤ℤ number v) → (number v ≤ℤ high)
    → t ≡ s +ℤ number v → m ≡ nearest low high (l +ℤ number v) → k ≡ nearest low high (h +ℤ number v)
    → IsRun low high number first t m k (take (i + 1) vs) (i + 1)
run_more low high number first s l h t m k vs i v p u w few a b x y e f g =
    let before : Bounds = record { shift = s; low = l; high = h } in
    let same : ◌≡◌ {A = Bounds} (record { shift = t; low = m; high = k }) (after before (row_clamp low high (number v))) = same_bounds _ _ _ _ _ _ e f g in
    let sum : IsSum (after before (row_clamp low high (number v))) ((1 + i) + 1) =
    after_is_sum before (row_clamp low high (number v)) (1 + i) 1 p.sum (row_is_sum low high (number v) a b x y) (omega arith) in
    let count : (1 + i) + 1 ≡ 1 + (i + 1) = omega arith in
    record {
      value =
          same
          ∙ ap (λ (c : Bounds). after c (row_clamp low high (number v))) p.value
          ∙ sym (fold-append (λ (c : Bounds) (x : _). after c (row_clamp low high (number x))) (row_clamp low high (number first)) (take i vs) (v ∷ []))
          ∙ ap (run low high number first) (sym (rows_more vs i v u w));
      sum = subst (λ (c : Bounds). IsSum c (1 + (i + 1))) (sym same) (subst (IsSum (after before (row_clamp low high (number v)))) count sum);
    }

pub run_ends : {V : Type 0} (low high : ℤ) (number : V → ℤ) (first : V) (s l h t m k : ℤ) (vs : List V) (i : ℕ)
    → IsRun low high number first s l h (take i vs) i → length vs ≤ i → i ≤ length vs → t ≡ s → m ≡ l → k ≡ h
    → IsRun low high number first t m k vs (length vs)
run_ends low high number first s l h t m k vs i p u w e f g =
    let same : ◌≡◌ {A = Bounds} (record { shift = t; low = m; high = k }) (record { shift = s; low = l; high = h }) = same_bounds _ _ _ _ _ _ e f g in
    let count : i ≡ length vs = omega arith in
    record {
      value = same ∙ p.value ∙ ap (run low high number first) (take_all i vs u);
      sum = subst (λ (c : Bounds). IsSum c (1 + length vs)) (sym same) (subst (λ (n : ℕ). IsSum (record { shift = s; low = l; high = h }) (1 + n)) count p.sum);
    }

-- a run's clamp function gives the saturating sum
pub run_sums : {V : Type 0} (low high : ℤ) (number : V → ℤ) (first : V) (vs : List V) (c : Bounds) → low ≤ℤ high → c ≡ run low high number first vs
    → Sums low high (number first ∷ map number vs) c
run_sums low high number first vs c order e x u v =
    ap (λ (b : Bounds). apply b x) e ∙ rows_sum low high number (row_clamp low high (number first)) vs x order order

pub run_is_clamp : (low high : ℤ) (c : Bounds) (rows : ℕ) → rows < 2 ^ 40 → IsSum c rows → low ≤ℤ c.low → c.high ≤ℤ high → IsClamp low high c
run_is_clamp low high c rows few h a b =
    record {
      above = a;
      ordered = h.ordered;
      below = b;
      least = omega (arith, ints, h.below);
      greatest = omega (arith, ints, h.above);
    }

-- ---- the fold of a slice is the run of its rows

rows_held : {A V : Type 0} (op : A → A → A) (f : V → A) (s : A × ℕ) (vs : List V) → (of_rows (joined_by op) (one_row f) s vs).1 ≡ s.1 + length vs
rows_held op f s [] = omega arith
rows_held op f s (v ∷ vs) = let e = rows_held op f (joined_by op s (one_row f v)) vs in omega (arith, e)

-- a fold as a pair: what it holds, and its rows
pub fold_is : {A V : Type 0} (op : A → A → A) (f : V → A) (a x : A) (n : ℕ) (vs : List V) → x ≡ fold (λ a v. op a (f v)) a vs → n ≡ length vs
    → ◌≡◌ {A = A × ℕ} (x, n) (of_rows (joined_by op) (one_row f) (a, 0) vs)
fold_is op f a x n vs e k =
    let rows = rows_held op f (a, 0) vs in
    same_pair _ _ _ _ (e ∙ sym (held op f (a, 0) vs)) (omega (arith, rows, k))

first_row : (low high n : ℤ) → negsuc 18446744073709551615 ≤ℤ low → high ≤ℤ pos 18446744073709551616 → (low ≤ℤ n) → (n ≤ℤ high)
    → after no_clamp (row_clamp low high n) ≡ row_clamp low high n
first_row low high n a b p q = ap (λ (c : Bounds × ℕ). c.0) (after-left (row_clamp low high n, 1) (row_is_sum low high n a b p q))

-- the run of a first row and the rest is the fold from no row on
pub run_is_fold : {V : Type 0} (low high : ℤ) (number : V → ℤ) (first : V) (vs : List V) → negsuc 18446744073709551615 ≤ℤ low → high ≤ℤ pos 18446744073709551616
    → (low ≤ℤ number first) → (number first ≤ℤ high)
    → run low high number first vs ≡ fold (λ a v. after a (row_clamp low high (number v))) no_clamp (first ∷ vs)
run_is_fold low high number first vs a b p q =
    ap (λ (c : Bounds). fold (λ a v. after a (row_clamp low high (number v))) c vs) (sym (first_row low high (number first) a b p q))

pub slice_is_fold : {V : Type 0} (low high : ℤ) (number : V → ℤ) (vs rest : List V) (first : V) (c : Bounds) → negsuc 18446744073709551615 ≤ℤ low → high ≤ℤ pos 18446744073709551616
    → (low ≤ℤ number first) → (number first ≤ℤ high) → c ≡ run low high number first rest → vs ≡ first ∷ rest
    → ◌≡◌ {A = Bounds × ℕ} (c, 1 + length rest) (of_rows (joined_by after) (one_row (λ v. row_clamp low high (number v))) (no_clamp, 0) vs)
slice_is_fold low high number vs rest first c a b p q e f =
    let count : 1 + length rest ≡ length vs = omega (arith, ap length f) in
    fold_is after (λ v. row_clamp low high (number v)) no_clamp c (1 + length rest) vs
    (e ∙ run_is_fold low high number first rest a b p q ∙ ap (fold (λ a v. after a (row_clamp low high (number v))) no_clamp) (sym f)) count

-- ---- totals of terms

pub terms_of : {V : Type 0} (number : V → ℤ) (a : ℤ) (vs : List V)
    → fold (λ t v. added t v) (Some a) (map (λ v. Some (number v)) vs) ≡ Some (fold (λ a n. a +ℤ n) a (map number vs))
terms_of number a [] = refl
terms_of number a (v ∷ vs) = terms_of number (a +ℤ number v) vs

pub terms_are_fold : {V : Type 0} (number : V → ℤ) (vs : List V) (t : ℤ) → t ≡ total (map number vs)
    → ◌≡◌ {A = Option ℤ × ℕ} (Some t, length vs) (of_rows (joined_by added) (one_row (λ v. v)) (Some (pos 0), 0) (map (λ v. Some (number v)) vs))
terms_are_fold number vs t e =
    fold_is added (λ v. v) (Some (pos 0)) (Some t) (length vs) (map (λ v. Some (number v)) vs)
    (ap (λ (n : ℤ). Some n) e ∙ sym (terms_of number (pos 0) vs)) (sym (length-map vs (λ v. Some (number v))))

-- the number of one row more, where what is to come gives what the whole does
pub term_more : (a n : ℤ) (vs : List (Option ℤ)) (i : ℕ) (w : Option ℤ) → i < length vs → w ≡ get_or vs i w → w ≡ Some n
    → fold (λ t v. added t v) (Some (a +ℤ n)) (drop (i + 1) vs) ≡ fold (λ t v. added t v) (Some a) (drop i vs)
term_more a n vs i w h e k =
    ap (λ (j : ℕ). fold (λ t v. added t v) (Some (a +ℤ n)) (drop j vs)) (add-one i)
    ∙ ap (λ (x : Option ℤ). fold (λ t v. added t v) (added (Some a) x) (drop (suc i) vs)) (sym k ∙ e)
    ∙ ap (fold (λ t v. added t v) (Some a)) (sym (drop-cons vs i w h))

none_stays : (vs : List (Option ℤ)) → fold (λ t v. added t v) None vs ≡ None
none_stays [] = refl
none_stays (v ∷ vs) = none_stays vs

pub term_none : (a : ℤ) (vs : List (Option ℤ)) (i : ℕ) (w : Option ℤ) → i < length vs → w ≡ get_or vs i w → w ≡ None
    → None ≡ fold (λ t v. added t v) (Some a) (drop i vs)
term_none a vs i w h e k =
    sym (none_stays (drop (suc i) vs))
    ∙ ap (λ (x : Option ℤ). fold (λ t v. added t v) (added (Some a) x) (drop (suc i) vs)) (sym k ∙ e)
    ∙ ap (fold (λ t v. added t v) (Some a)) (sym (drop-cons vs i w h))

pub term_end : (a : ℤ) (vs : List (Option ℤ)) (i : ℕ) → length vs ≤ i → fold (λ t v. added t v) (Some a) (drop i vs) ≡ fold (λ t v. added t v) (Some (pos 0)) vs
    → ◌≡◌ {A = Option ℤ × ℕ} (Some a, length vs) (of_rows (joined_by added) (one_row (λ v. v)) (Some (pos 0), 0) vs)
term_end a vs i h e =
    fold_is added (λ v. v) (Some (pos 0)) (Some a) (length vs) vs (ap (fold (λ t v. added t v) (Some a)) (sym (drop_all i vs h)) ∙ e) refl

pub term_nan : (a : ℤ) (vs : List (Option ℤ)) (i : ℕ) (w : Option ℤ) → i < length vs → w ≡ get_or vs i w → w ≡ None
    → fold (λ t v. added t v) (Some a) (drop i vs) ≡ fold (λ t v. added t v) (Some (pos 0)) vs
    → ◌≡◌ {A = Option ℤ × ℕ} (None, length vs) (of_rows (joined_by added) (one_row (λ v. v)) (Some (pos 0), 0) vs)
term_nan a vs i w h e k f =
    fold_is added (λ v. v) (Some (pos 0)) None (length vs) vs (term_none a vs i w h e k ∙ f) refl
