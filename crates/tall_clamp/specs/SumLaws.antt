-- Saturating sums, cut into blocks and joined.
use Rattle.std.specs.Prelude.{◌≡◌, ℕ, ◌+◌, ◌*◌, ◌<◌, ◌^◌, ℤ, pos, negsuc, ◌+ℤ◌, ◌≤ℤ◌, List, [], ◌∷◌, refl, map}
use Rattle.std.specs.List.{fold}
use Rattle.std.proofs.Common.{ap, ◌∙◌, arith}
use Rattle.std.proofs.lemmas.Int.{ints, clamps}
use Rattle.tall_int.specs.Numbers.{nearest}
use Rattle.tall_int.specs.Sums.{clamped_sum}
use Rattle.tall_clamp.specs.Clamps.{after, apply, row_clamp}
use Rattle.tall_clamp.specs.Folds.{joined_by, no_clamp, of_rows, one_row, IsSum}
use Rattle.tall_clamp.specs.FoldLaws.{same_pair, held}
use Rattle.tall_clamp.specs.declared.bounds.Bounds.{Bounds}
use Rattle.tall_clamp.specs.ClampLaws.{same_bounds, nearest_twice, nearest_above, nearest_below, nearest_ordered, apply-after}

pub no_clamp_is_sum : IsSum no_clamp 0
no_clamp_is_sum =
    record {
      least = omega (arith, ints);
      ordered = omega (arith, ints);
      greatest = omega (arith, ints);
      below = omega (arith, ints);
      above = omega (arith, ints);
      low_outside = omega (arith, ints);
      high_outside = omega (arith, ints);
      low_near = omega (arith, ints);
      high_near = omega (arith, ints);
    }

pub row_is_sum : (low high n : ℤ) → negsuc 18446744073709551615 ≤ℤ low → high ≤ℤ pos 18446744073709551616 → low ≤ℤ n → n ≤ℤ high
    → IsSum (row_clamp low high n) 1
row_is_sum low high n a b p q =
    record {
      least = omega (arith, ints);
      ordered = omega (arith, ints);
      greatest = omega (arith, ints);
      below = omega (arith, ints);
      above = omega (arith, ints);
      low_outside = omega (arith, ints);
      high_outside = omega (arith, ints);
      low_near = omega (arith, ints);
      high_near = omega (arith, ints);
    }

-- the ends of one after another, over plain numbers
low_outside_after : (l m h s t u : ℤ) (i j : ℕ) → m ≤ℤ h → i + j < 2 ^ 40 → s ≤ℤ (l +ℤ pos 1329227995784915872903807060280344576)
    → s ≤ℤ pos (i * 2 ^ 64) → t ≤ℤ pos (j * 2 ^ 64) → pos 0 ≤ℤ (h +ℤ pos (j * 2 ^ 64 + 2 ^ 64))
    → (s +ℤ t) ≤ℤ (nearest m h (l +ℤ t) +ℤ pos 1329227995784915872903807060280344576)
low_outside_after l m h s t u i j a b c d e f = omega (arith, ints, clamps)

high_outside_after : (l m h s t u : ℤ) (i j : ℕ) → m ≤ℤ h → i + j < 2 ^ 40 → l ≤ℤ (s +ℤ pos 1329227995784915872903807060280344576)
    → pos 0 ≤ℤ (s +ℤ pos (i * 2 ^ 64)) → pos 0 ≤ℤ (t +ℤ pos (j * 2 ^ 64)) → m ≤ℤ pos (j * 2 ^ 64 + 2 ^ 64)
    → nearest m h (l +ℤ t) ≤ℤ ((s +ℤ t) +ℤ pos 1329227995784915872903807060280344576)
high_outside_after l m h s t u i j a b c d e f = omega (arith, ints, clamps)

low_near_after : (l m h t : ℤ) (i j : ℕ) → m ≤ℤ h → l ≤ℤ pos (i * 2 ^ 64 + 2 ^ 64) → m ≤ℤ pos (j * 2 ^ 64 + 2 ^ 64) → t ≤ℤ pos (j * 2 ^ 64)
    → nearest m h (l +ℤ t) ≤ℤ pos ((i + j) * 2 ^ 64 + 2 ^ 64)
low_near_after l m h t i j a b c d = omega (arith, ints, clamps)

high_near_after : (l m h t : ℤ) (i j : ℕ) → m ≤ℤ h → pos 0 ≤ℤ (l +ℤ pos (i * 2 ^ 64 + 2 ^ 64)) → pos 0 ≤ℤ (h +ℤ pos (j * 2 ^ 64 + 2 ^ 64))
    → pos 0 ≤ℤ (t +ℤ pos (j * 2 ^ 64)) → pos 0 ≤ℤ (nearest m h (l +ℤ t) +ℤ pos ((i + j) * 2 ^ 64 + 2 ^ 64))
high_near_after l m h t i j a b c d = omega (arith, ints, clamps)

pub after_is_sum : (a b : Bounds) (m n : ℕ) → IsSum a m → IsSum b n → m + n < 2 ^ 40 → IsSum (after a b) (m + n)
after_is_sum a b m n p q few =
    record {
      least = omega (arith, ints, q.least, nearest_above b.low b.high (a.low +ℤ b.shift) q.ordered);
      ordered = nearest_ordered b.low b.high (a.low +ℤ b.shift) (a.high +ℤ b.shift) q.ordered (omega (arith, ints, p.ordered));
      greatest = omega (arith, ints, q.greatest, nearest_below b.low b.high (a.high +ℤ b.shift) q.ordered);
      below = omega (arith, ints, p.below, q.below);
      above = omega (arith, ints, p.above, q.above);
      low_outside = low_outside_after a.low b.low b.high a.shift b.shift (pos 0) m n q.ordered few p.low_outside p.above q.above q.high_near;
      high_outside = high_outside_after a.high b.low b.high a.shift b.shift (pos 0) m n q.ordered few p.high_outside p.below q.below q.low_near;
      low_near = low_near_after a.low b.low b.high b.shift m n q.ordered p.low_near q.low_near q.above;
      high_near = high_near_after a.high b.low b.high b.shift m n q.ordered p.high_near q.high_near q.below;
    }

-- an end of three clamp functions in a row
end_assoc : (m k s e r y : ℤ) → m ≤ℤ k → e ≤ℤ r → nearest e r (nearest m k y +ℤ s) ≡ nearest (nearest e r (m +ℤ s)) (nearest e r (k +ℤ s)) (y +ℤ s)
end_assoc m k s e r y p q = nearest_twice m k e r s y p q

after_assoc : (a b c : Bounds) → b.low ≤ℤ b.high → c.low ≤ℤ c.high → after (after a b) c ≡ after a (after b c)
after_assoc a b c p q =
    same_bounds _ _ _ _ _ _
    (let e : (a.shift +ℤ b.shift) +ℤ c.shift ≡ a.shift +ℤ (b.shift +ℤ c.shift) = omega (arith, ints) in e)
    (end_assoc b.low b.high c.shift c.low c.high (a.low +ℤ b.shift) p q
    ∙ (let e : (a.low +ℤ b.shift) +ℤ c.shift ≡ a.low +ℤ (b.shift +ℤ c.shift) = omega (arith, ints) in
    ap (nearest (nearest c.low c.high (b.low +ℤ c.shift)) (nearest c.low c.high (b.high +ℤ c.shift))) e))
    (end_assoc b.low b.high c.shift c.low c.high (a.high +ℤ b.shift) p q
    ∙ (let e : (a.high +ℤ b.shift) +ℤ c.shift ≡ a.high +ℤ (b.shift +ℤ c.shift) = omega (arith, ints) in
    ap (nearest (nearest c.low c.high (b.low +ℤ c.shift)) (nearest c.low c.high (b.high +ℤ c.shift))) e))

pub after-assoc : (a b c : Bounds × ℕ) → IsSum b.0 b.1 → IsSum c.0 c.1 → joined_by after (joined_by after a b) c ≡ joined_by after a (joined_by after b c)
after-assoc a b c p q = same_pair _ _ _ _ (after_assoc a.0 b.0 c.0 p.ordered q.ordered) (omega arith)

-- the unit's ends go to the ends of what follows
low_end : (l h s : ℤ) → l ≤ℤ h → s ≤ℤ (l +ℤ pos 1329227995784915872903807060280344576)
    → nearest l h (negsuc 1329227995784915872903807060280344575 +ℤ s) ≡ l
low_end l h s a b = omega (arith, ints, clamps)

high_end : (l h s : ℤ) → l ≤ℤ h → h ≤ℤ (s +ℤ pos 1329227995784915872903807060280344576)
    → nearest l h (pos 1329227995784915872903807060280344576 +ℤ s) ≡ h
high_end l h s a b = omega (arith, ints, clamps)

-- an end within the unit's ends stays
kept_end : (n : ℤ) → negsuc 1329227995784915872903807060280344575 ≤ℤ n → n ≤ℤ pos 1329227995784915872903807060280344576
    → nearest (negsuc 1329227995784915872903807060280344575) (pos 1329227995784915872903807060280344576) (n +ℤ pos 0) ≡ n
kept_end n a b = omega (arith, ints, clamps)

zero_before : (s : ℤ) → pos 0 +ℤ s ≡ s
zero_before s = omega (arith, ints)

zero_behind : (s : ℤ) → s +ℤ pos 0 ≡ s
zero_behind s = omega (arith, ints)

pub after-left : (a : Bounds × ℕ) → IsSum a.0 a.1 → joined_by after (no_clamp, 0) a ≡ a
after-left a p =
    same_pair _ _ _ _
    (same_bounds _ _ _ _ _ _ (zero_before a.0.shift) (low_end a.0.low a.0.high a.0.shift p.ordered p.low_outside) (high_end a.0.low a.0.high a.0.shift p.ordered p.high_outside))
    (omega arith)

pub after-right : (a : Bounds × ℕ) → IsSum a.0 a.1 → joined_by after a (no_clamp, 0) ≡ a
after-right a p =
    same_pair _ _ _ _
    (same_bounds _ _ _ _ _ _ (zero_behind a.0.shift)
    (kept_end a.0.low p.least (omega (arith, ints, p.ordered, p.greatest)))
    (kept_end a.0.high (omega (arith, ints, p.ordered, p.least)) p.greatest))
    (omega arith)

-- ---- the sum of a list

-- rows one after another are the saturating sum, from each number
pub rows_sum : {V : Type 0} (low high : ℤ) (number : V → ℤ) (c : Bounds) (vs : List V) (x : ℤ) → low ≤ℤ high → c.low ≤ℤ c.high
    → apply (fold (λ a v. after a (row_clamp low high (number v))) c vs) x ≡ clamped_sum low high (apply c x) (map number vs)
rows_sum low high number c [] x p q = refl
rows_sum low high number c (v ∷ vs) x p q =
    rows_sum low high number (after c (row_clamp low high (number v))) vs x p
    (nearest_ordered low high (c.low +ℤ number v) (c.high +ℤ number v) p (omega (arith, ints, q)))
    ∙ ap (λ (y : ℤ). clamped_sum low high y (map number vs)) (apply-after c (row_clamp low high (number v)) x q p)

-- the saturating sum from a number of the class is a number of the class
pub sum_stays : (low high x : ℤ) (ns : List ℤ) → low ≤ℤ high → low ≤ℤ x → x ≤ℤ high → nearest low high (clamped_sum low high x ns) ≡ clamped_sum low high x ns
sum_stays low high x [] p q r = omega (arith, ints, clamps)
sum_stays low high x (n ∷ ns) p q r =
    sum_stays low high (nearest low high (x +ℤ n)) ns p (nearest_above low high (x +ℤ n) p) (nearest_below low high (x +ℤ n) p)

pub saturated_sum : {V : Type 0} (low high : ℤ) (number : V → ℤ) (vs : List V) → low ≤ℤ pos 0 → pos 127 ≤ℤ high
    → nearest low high (apply (of_rows (joined_by after) (one_row (λ v. row_clamp low high (number v))) (no_clamp, 0) vs).0 (pos 0))
    ≡ clamped_sum low high (pos 0) (map number vs)
saturated_sum low high number vs p q =
    let order : low ≤ℤ high = omega (arith, ints) in
    let top : pos 0 ≤ℤ high = omega (arith, ints) in
    ap (λ (b : Bounds). nearest low high (apply b (pos 0))) (held after (λ v. row_clamp low high (number v)) (no_clamp, 0) vs)
    ∙ ap (nearest low high) (rows_sum low high number no_clamp vs (pos 0) order (omega (arith, ints)))
    ∙ sum_stays low high (pos 0) (map number vs) order p top
