-- Whole numbers of a class. A class has a least and a greatest number; the arithmetic is that of unbounded whole
-- numbers, and its result then goes to the nearest number of the class, as the MathWorks page Integers says.
use Rattle.std.specs.Prelude.{ℤ, ℕ, pos, negsuc, ◌-◌, ◌^◌}
use Rattle.std.specs.Int.{int_max, int_min}

-- the number from `low` to `high` that is nearest to n
abbrev pub nearest : ℤ → ℤ → ℤ → ℤ
nearest low high n = int_max low (int_min high n)

-- `low` and `high` are the ends of the two's complement numbers of k + 1 bits, or of the unsigned numbers of k bits
pub data IsTwosRange : ℤ → ℤ → Type 0 where
  signed : (k : ℕ) → IsTwosRange (negsuc (2 ^ k - 1)) (pos (2 ^ k - 1))
  unsigned : (k : ℕ) → IsTwosRange (pos 0) (pos (2 ^ k - 1))
