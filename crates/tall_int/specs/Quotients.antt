-- Quotients of unbounded whole numbers, rounded. MathWorks, idivide: 'fix' rounds toward zero, 'floor' down, 'ceil' up,
-- 'round' to the nearest whole number, where a tie goes to the larger magnitude.
use Rattle.std.specs.Prelude.{ℤ, ℕ, pos, neg_ℤ, ◌-ℤ◌, ◌*ℤ◌, ◌+◌, ◌*◌, ◌/◌, ◌≡◌, ◌≤◌, ◌<◌, ◌≤ℤ◌, ◌<ℤ◌, Bool, true, false, not, unsigned_abs}
use Rattle.std.specs.Int.{div_ceil, is_negative}
use Rattle.tall_int.specs.declared.quotients.Rounding.{Rounding}
use Rattle.tall_int.specs.declared.quotients.Rounding.TheVariants.{Fix, Floor, Ceil, Round}

-- just one of the two holds
abbrev pub differ : Bool → Bool → Bool
differ true b = not b
differ false b = b

-- the number of this magnitude, below 0 where the flag is set
abbrev pub with_sign : Bool → ℕ → ℤ
with_sign true n = neg_ℤ (pos n)
with_sign false n = pos n

-- the magnitude of m / d rounded; the flag says that the quotient is below 0, so that down is away from 0
abbrev pub rounded_size : Rounding → Bool → ℕ → ℕ → ℕ
rounded_size Fix negative m d = m / d
rounded_size Floor true m d = div_ceil m d
rounded_size Floor false m d = m / d
rounded_size Ceil true m d = m / d
rounded_size Ceil false m d = div_ceil m d
rounded_size Round negative m d = (2 * m + d) / (2 * d)

-- p / q rounded, for q other than 0
abbrev pub quotient : Rounding → ℤ → ℤ → ℤ
quotient how p q =
    let negative = differ (is_negative p) (is_negative q) in
    with_sign negative (rounded_size how negative (unsigned_abs p) (unsigned_abs q))

-- ---- what rounding means, with no division

-- r is a whole number nearest to p / q: twice its distance is at most the divisor, and a tie goes outward
pub record IsNearest (p q r : ℤ) : Type 0 where
  pub near : 2 * unsigned_abs (p -ℤ q *ℤ r) ≤ unsigned_abs q
  pub outward : 2 * unsigned_abs (p -ℤ q *ℤ r) ≡ unsigned_abs q → unsigned_abs p < unsigned_abs (q *ℤ r)

-- r is the greatest whole number that is at most p / q: what is left has the sign of q and is smaller than q
pub record IsFloor (p q r : ℤ) : Type 0 where
  pub above : pos 0 <ℤ q → (pos 0 ≤ℤ (p -ℤ q *ℤ r)) × ((p -ℤ q *ℤ r) <ℤ q)
  pub below : q <ℤ pos 0 → (q <ℤ (p -ℤ q *ℤ r)) × ((p -ℤ q *ℤ r) ≤ℤ pos 0)

-- r is p / q cut toward 0
pub record IsCut (p q r : ℤ) : Type 0 where
  pub inward : unsigned_abs (q *ℤ r) ≤ unsigned_abs p
  pub rest : unsigned_abs (p -ℤ q *ℤ r) < unsigned_abs q
