-- Clamp functions over plain numbers.
use Rattle.std.proofs.Common.{◌≡◌, ℤ, pos, negsuc, ◌+ℤ◌, ◌≤ℤ◌, ap, sym, ◌∙◌, arith}
use Rattle.std.proofs.lemmas.Int.{ints, clamps}
use Rattle.std.specs.Int.{int_max, int_min}
use mir.Val.{SFits}
use mir.Syntax.{w128}
use Rattle.tall_int.specs.Numbers.{nearest}
use Rattle.tall_clamp.specs.Clamps.{apply, after, cut_shift, IsClamp, IsRoomy}
use Rattle.tall_clamp.specs.declared.bounds.Bounds.{Bounds}

-- three equal numbers make equal clamp functions
pub same_bounds : (s t l m h k : ℤ) → s ≡ t → l ≡ m → h ≡ k
    → ◌≡◌ {A = Bounds} (record { shift = s; low = l; high = h }) (record { shift = t; low = m; high = k })
same_bounds s t l m h k p q r =
    let make : ℤ → ℤ → ℤ → Bounds = λ a b c. record { shift = a; low = b; high = c } in
    ap (λ (a : ℤ). make a l h) p ∙ ap (λ (b : ℤ). make t b h) q ∙ ap (make t m) r

-- `nearest` with the greatest number last, for ends in order
within : ℤ → ℤ → ℤ → ℤ
within l h n = int_min h (int_max l n)

within_is : (l h n : ℤ) → l ≤ℤ h → nearest l h n ≡ within l h n
unfolding within
within_is l h n p = omega (arith, ints, clamps)

within_twice : (l h m k s y : ℤ) → l ≤ℤ h → m ≤ℤ k
    → within m k (within l h y +ℤ s) ≡ within (within m k (l +ℤ s)) (within m k (h +ℤ s)) (y +ℤ s)
unfolding within
within_twice l h m k s y p q = omega (arith, ints, clamps)

-- the ends of one clamp function after another
pub nearest_ordered : (m k a b : ℤ) → m ≤ℤ k → a ≤ℤ b → nearest m k a ≤ℤ nearest m k b
nearest_ordered m k a b p q = omega (arith, ints, clamps)

pub nearest_above : (m k a : ℤ) → m ≤ℤ k → m ≤ℤ nearest m k a
nearest_above m k a p = omega (arith, ints, clamps)

pub nearest_below : (m k a : ℤ) → m ≤ℤ k → nearest m k a ≤ℤ k
nearest_below m k a p = omega (arith, ints, clamps)

-- one clamp function after another, at one number
pub nearest_twice : (l h m k s y : ℤ) → l ≤ℤ h → m ≤ℤ k
    → nearest m k (nearest l h y +ℤ s) ≡ nearest (nearest m k (l +ℤ s)) (nearest m k (h +ℤ s)) (y +ℤ s)
nearest_twice l h m k s y p q =
    within_is m k (nearest l h y +ℤ s) q
    ∙ ap (λ (n : ℤ). within m k (n +ℤ s)) (within_is l h y p)
    ∙ within_twice l h m k s y p q
    ∙ ap (λ (n : ℤ). within n (within m k (h +ℤ s)) (y +ℤ s)) (sym (within_is m k (l +ℤ s) q))
    ∙ ap (λ (n : ℤ). within (nearest m k (l +ℤ s)) n (y +ℤ s)) (sym (within_is m k (h +ℤ s) q))
    ∙ sym (within_is (nearest m k (l +ℤ s)) (nearest m k (h +ℤ s)) (y +ℤ s)
    (nearest_ordered m k (l +ℤ s) (h +ℤ s) q (omega (arith, ints))))

-- a shift that is cut at 2^110 gives the same from within 2^64 to within 2^64
pub nearest_cut : (l h s x : ℤ) → negsuc 18446744073709551615 ≤ℤ l → l ≤ℤ h → h ≤ℤ pos 18446744073709551616
    → negsuc 18446744073709551615 ≤ℤ x → x ≤ℤ pos 18446744073709551616
    → nearest l h (x +ℤ nearest (negsuc 1298074214633706907132624082305023) (pos 1298074214633706907132624082305024) s) ≡ nearest l h (x +ℤ s)
nearest_cut l h s x a b c d e = omega (arith, ints, clamps)

pub apply-after : (a b : Bounds) (x : ℤ) → a.low ≤ℤ a.high → b.low ≤ℤ b.high → apply (after a b) x ≡ apply b (apply a x)
apply-after a b x p q =
    let sum : x +ℤ (a.shift +ℤ b.shift) ≡ (x +ℤ a.shift) +ℤ b.shift = omega (arith, ints) in
    ap (nearest (nearest b.low b.high (a.low +ℤ b.shift)) (nearest b.low b.high (a.high +ℤ b.shift))) sum
    ∙ sym (nearest_twice a.low a.high b.low b.high b.shift (x +ℤ a.shift) p q)

-- what lies between ends of the class lies in the class
pub in_the_class : (low high l h n : ℤ) → low ≤ℤ l → l ≤ℤ h → h ≤ℤ high → nearest low high (nearest l h n) ≡ nearest l h n
in_the_class low high l h n a b c = omega (arith, ints, clamps)

-- a number within 2^125 fits 128 bits
pub narrow_fits : (n : ℤ) → negsuc 42535295865117307932921825928971026431 ≤ℤ n → n ≤ℤ pos 42535295865117307932921825928971026432 → SFits w128 n
narrow_fits (pos n) a b = record { sfits = omega (arith, ints, b) }
narrow_fits (negsuc n) a b = record { sfits = omega (arith, ints, a) }

-- the numbers of a clamp function of a class are within 2^120
pub clamp_is_roomy : (low high : ℤ) (c : Bounds) → negsuc 18446744073709551615 ≤ℤ low → high ≤ℤ pos 18446744073709551616 → IsClamp low high c → IsRoomy c
clamp_is_roomy low high c a b h =
    record {
      low = omega (arith, ints, h.above);
      high = omega (arith, ints, h.below);
      ordered = h.ordered;
      below = omega (arith, ints, h.least);
      above = omega (arith, ints, h.greatest);
    }

-- one after another, in one class, is a clamp function of the class
pub cut_is_clamp : (low high : ℤ) (a b : Bounds) → IsClamp low high a → IsClamp low high b → IsClamp low high (cut_shift (after a b))
cut_is_clamp low high a b p q =
    record {
      above = omega (arith, ints, q.above, nearest_above b.low b.high (a.low +ℤ b.shift) q.ordered);
      ordered = nearest_ordered b.low b.high (a.low +ℤ b.shift) (a.high +ℤ b.shift) q.ordered (omega (arith, ints, p.ordered));
      below = omega (arith, ints, q.below, nearest_below b.low b.high (a.high +ℤ b.shift) q.ordered);
      least = nearest_above (negsuc 1298074214633706907132624082305023) (pos 1298074214633706907132624082305024) (a.shift +ℤ b.shift) (omega (arith, ints));
      greatest = nearest_below (negsuc 1298074214633706907132624082305023) (pos 1298074214633706907132624082305024) (a.shift +ℤ b.shift) (omega (arith, ints));
    }

pub apply-cut : (low high : ℤ) (a b : Bounds) (x : ℤ) → negsuc 18446744073709551615 ≤ℤ low → high ≤ℤ pos 18446744073709551616
    → IsClamp low high a → IsClamp low high b → low ≤ℤ x → x ≤ℤ high → apply (cut_shift (after a b)) x ≡ apply b (apply a x)
apply-cut low high a b x u v p q s t =
    let first = nearest_above b.low b.high (a.low +ℤ b.shift) q.ordered in
    let last = nearest_below b.low b.high (a.high +ℤ b.shift) q.ordered in
    let order = nearest_ordered b.low b.high (a.low +ℤ b.shift) (a.high +ℤ b.shift) q.ordered (omega (arith, ints, p.ordered)) in
    nearest_cut (nearest b.low b.high (a.low +ℤ b.shift)) (nearest b.low b.high (a.high +ℤ b.shift)) (a.shift +ℤ b.shift) x
    (omega (arith, ints, u, q.above, first)) order (omega (arith, ints, v, q.below, last)) (omega (arith, ints, u, s)) (omega (arith, ints, v, t))
    ∙ apply-after a b x p.ordered q.ordered
