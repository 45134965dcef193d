-- Remainders by the floor, from the remainder toward zero; saturated products; numbers of a class.
use Rattle.std.proofs.Common.{◌≡◌, ◌≢◌, ℕ, zero, suc, ◌^◌, ◌≤◌, ℤ, pos, negsuc, ◌+ℤ◌, ◌-ℤ◌, ◌*ℤ◌, ◌≤ℤ◌, neg_ℤ, true, false, refl, ap, sym, subst, arith, rules}
use Rattle.std.proofs.lemmas.Int.{ints, clamps}
use Rattle.std.specs.Prelude.{int_rem, unsigned_abs}
use Rattle.std.specs.Int.{int_max, is_negative, saturate_signed}
use Rattle.std.specs.Int.Signed.{mag}
use mir.Val.{SFits, of_z}
use mir.Syntax.{w64, w128}
use Rattle.tall_int.specs.Numbers.{nearest, IsTwosRange, signed, unsigned}
use Rattle.tall_int.specs.Quotients.{differ, quotient, IsFloor}
use Rattle.tall_int.specs.Arithmetic.{divided, remainder}
use Rattle.tall_int.specs.declared.quotients.Rounding.{Rounding}
use Rattle.tall_int.specs.declared.quotients.Rounding.TheVariants.{Floor}
use Rattle.tall_int.proofs.Ranges.{IsIn}

pub turned_rest : (p q : ℤ) → q ≢ pos 0 → int_rem p q ≢ pos 0 → differ (is_negative (int_rem p q)) (is_negative q) ≡ true
    → int_rem p q +ℤ q ≡ remainder p q
turned_rest (pos m) (pos zero) h k e = absurd (h refl)
turned_rest (pos m) (pos (suc d)) h k e = grind (arith, ints)
turned_rest (pos m) (negsuc d) h k e = grind (arith, ints)
turned_rest (negsuc m) (pos zero) h k e = absurd (h refl)
turned_rest (negsuc m) (pos (suc d)) h k e = grind (arith, ints)
turned_rest (negsuc m) (negsuc d) h k e = grind (arith, ints)

pub kept_rest : (p q : ℤ) → q ≢ pos 0 → differ (is_negative (int_rem p q)) (is_negative q) ≡ false → int_rem p q ≡ remainder p q
kept_rest (pos m) (pos zero) h e = absurd (h refl)
kept_rest (pos m) (pos (suc d)) h e = grind (arith, ints)
kept_rest (pos m) (negsuc d) h e = grind (arith, ints)
kept_rest (negsuc m) (pos zero) h e = absurd (h refl)
kept_rest (negsuc m) (pos (suc d)) h e = grind (arith, ints)
kept_rest (negsuc m) (negsuc d) h e = grind (arith, ints)

pub zero_rest : (p q : ℤ) → q ≢ pos 0 → int_rem p q ≡ pos 0 → int_rem p q ≡ remainder p q
zero_rest (pos m) (pos zero) h e = absurd (h refl)
zero_rest (pos m) (pos (suc d)) h e = grind (arith, ints)
zero_rest (pos m) (negsuc d) h e = grind (arith, ints)
zero_rest (negsuc m) (pos zero) h e = absurd (h refl)
zero_rest (negsuc m) (pos (suc d)) h e = grind (arith, ints)
zero_rest (negsuc m) (negsuc d) h e = grind (arith, ints)

-- a value with the bits of 0 is 0
pub zero_from_bits : (z : ℤ) → SFits w128 z → of_z w128 z ≡ 0 → z ≡ pos 0
zero_from_bits (pos n) f e = ap pos e
zero_from_bits (negsuc n) f e = absurd (omega (arith, f.sfits))

-- two numbers of 65 bits have a sum of 128
pub sum_fits : (p q r : ℤ) → unsigned_abs p ≤ 2 ^ 64 → unsigned_abs q ≤ 2 ^ 64 → mag r ≤ mag p → SFits w128 (r +ℤ q)
sum_fits (pos a) (pos b) (pos c) u v w = record { sfits = omega arith }
sum_fits (pos a) (pos b) (negsuc c) u v w = search rules
sum_fits (pos a) (negsuc b) (pos c) u v w = search rules
sum_fits (pos a) (negsuc b) (negsuc c) u v w = search rules
sum_fits (negsuc a) (pos b) (pos c) u v w = search rules
sum_fits (negsuc a) (pos b) (negsuc c) u v w = search rules
sum_fits (negsuc a) (negsuc b) (pos c) u v w = search rules
sum_fits (negsuc a) (negsuc b) (negsuc c) u v w = search rules

pub saturated : (low high z : ℤ) → (negsuc 18446744073709551615 ≤ℤ low) → (high ≤ℤ pos 18446744073709551616) → low ≤ℤ high
    → nearest low high (saturate_signed w128 z) ≡ nearest low high z
saturated low high (pos n) p q r = omega (arith, ints, clamps)
saturated low high (negsuc n) p q r = omega (arith, ints, clamps)

-- the same of a class within 64 bits with the sign
pub saturated_word : (low high z : ℤ) → (negsuc 9223372036854775807 ≤ℤ low) → (high ≤ℤ pos 9223372036854775807) → low ≤ℤ high
    → nearest low high (saturate_signed w64 z) ≡ nearest low high z
saturated_word low high (pos n) p q r = omega (arith, ints, clamps)
saturated_word low high (negsuc n) p q r = omega (arith, ints, clamps)

-- where the greatest number of a class is within 64 bits with the sign, so is the least
pub word_low : (low high : ℤ) → IsTwosRange low high → (high ≤ℤ pos 9223372036854775807) → negsuc 9223372036854775807 ≤ℤ low
word_low _ _ (signed k) h = omega (arith, ints)
word_low _ _ (unsigned k) h = omega (arith, ints)

-- the least number of a class may go to minus the greatest before its sign is turned
pub turned_in : (low high n : ℤ) → low ≤ℤ high → nearest low high (pos 0 -ℤ int_max n (pos 0 -ℤ high)) ≡ nearest low high (neg_ℤ n)
turned_in low high n h = omega (arith, ints, clamps)

pub divided_nonzero : (how : Rounding) (low high p q : ℤ) → q ≢ pos 0 → divided how low high p q ≡ nearest low high (quotient how p q)
divided_nonzero how low high p (pos zero) h = absurd (h refl)
divided_nonzero how low high p (pos (suc d)) h = grind arith
divided_nonzero how low high p (negsuc d) h = grind arith

-- ---- the floor's remainder lies between 0 and the divisor

floor_rest : (p q : ℤ) → q ≢ pos 0 → IsFloor p q (quotient Floor p q)
floor_rest (pos m) (pos zero) h = absurd (h refl)
floor_rest (pos m) (pos (suc d)) h = record { above = λ s. (grind (arith, ints), grind (arith, ints)); below = λ s. absurd (omega (arith, ints, s)) }
floor_rest (pos m) (negsuc d) h = record { above = λ s. absurd (omega (arith, ints, s)); below = λ s. (grind (arith, ints), grind (arith, ints)) }
floor_rest (negsuc m) (pos zero) h = absurd (h refl)
floor_rest (negsuc m) (pos (suc d)) h = record { above = λ s. (grind (arith, ints), grind (arith, ints)); below = λ s. absurd (omega (arith, ints, s)) }
floor_rest (negsuc m) (negsuc d) h = record { above = λ s. absurd (omega (arith, ints, s)); below = λ s. (grind (arith, ints), grind (arith, ints)) }

remainder_nonzero : (p q : ℤ) → q ≢ pos 0 → remainder p q ≡ p -ℤ q *ℤ quotient Floor p q
remainder_nonzero p (pos zero) h = absurd (h refl)
remainder_nonzero p (pos (suc d)) h = grind arith
remainder_nonzero p (negsuc d) h = grind arith

suc_nonzero : (d : ℕ) → pos (suc d) ≢ pos 0
suc_nonzero d e = cc

negsuc_nonzero : (d : ℕ) → negsuc d ≢ pos 0
negsuc_nonzero d e = cc

-- a remainder stays where its operands and 0 are
pub remainder_in : (low high p q : ℤ) → low ≤ℤ pos 0 → pos 0 ≤ℤ high → IsIn low high p → IsIn low high q → IsIn low high (remainder p q)
remainder_in low high p (pos zero) u v hp hq = hp
remainder_in low high p (pos (suc d)) u v hp hq =
    let bounds = (floor_rest p (pos (suc d)) (suc_nonzero d)).above (omega (arith, ints)) in
    subst (IsIn low high) (sym (remainder_nonzero p (pos (suc d)) (suc_nonzero d)))
    (record { above = omega (arith, ints, bounds.0); below = omega (arith, ints, bounds.1, hq.below) })
remainder_in low high p (negsuc d) u v hp hq =
    let bounds = (floor_rest p (negsuc d) (negsuc_nonzero d)).below (omega (arith, ints)) in
    subst (IsIn low high) (sym (remainder_nonzero p (negsuc d) (negsuc_nonzero d)))
    (record { above = omega (arith, ints, bounds.0, hq.above); below = omega (arith, ints, bounds.1) })

pub small_in : (z : ℤ) → unsigned_abs z ≤ 2 ^ 53 → IsIn (negsuc 9007199254740991) (pos 9007199254740992) z
small_in (pos n) h = record { above = omega (arith, ints); below = omega (arith, ints) }
small_in (negsuc n) h = record { above = omega (arith, ints); below = omega (arith, ints) }

pub in_small : (z : ℤ) → IsIn (negsuc 9007199254740991) (pos 9007199254740992) z → unsigned_abs z ≤ 2 ^ 53
in_small (pos n) h = omega (arith, ints, h.below)
in_small (negsuc n) h = omega (arith, ints, h.above)

pub small_remainder : (p q : ℤ) → unsigned_abs p ≤ 2 ^ 53 → unsigned_abs q ≤ 2 ^ 53 → unsigned_abs (remainder p q) ≤ 2 ^ 53
small_remainder p q h k =
    in_small _ (remainder_in _ _ p q (omega (arith, ints)) (omega (arith, ints)) (small_in p h) (small_in q k))

-- a number of magnitude at most 2^53 fits 64 bits, and 128
pub small_fits : (z : ℤ) → unsigned_abs z ≤ 2 ^ 53 → SFits w64 z
small_fits (pos n) h = record { sfits = omega arith }
small_fits (negsuc n) h = record { sfits = omega arith }

pub small_fits_wide : (z : ℤ) → unsigned_abs z ≤ 2 ^ 53 → SFits w128 z
small_fits_wide (pos n) h = record { sfits = omega arith }
small_fits_wide (negsuc n) h = record { sfits = omega arith }

-- a number of 64 bits fits 128
pub word_fits : (z : ℤ) → SFits w64 z → SFits w128 z
word_fits (pos n) h = record { sfits = omega (arith, h.sfits) }
word_fits (negsuc n) h = record { sfits = omega (arith, h.sfits) }
