-- Bit operators on unbounded whole numbers in two's complement: a number from 0 on has its own bits and then zeros
-- without end, and -(n + 1) has the bits of n turned round. MathWorks, bitand, bitor, bitxor.
use Rattle.std.specs.Prelude.{ℤ, ℕ, pos, negsuc, ◌-◌, bit_and, bit_or, bit_xor}
use Rattle.std.specs.Int.{bit_at}

-- bit i of a number, 0 or 1
abbrev pub bit_of : ℤ → ℕ → ℕ
bit_of (pos n) i = bit_at n i
bit_of (negsuc n) i = 1 - bit_at n i

-- the bits of a that b lacks
abbrev pub without : ℕ → ℕ → ℕ
without a b = bit_xor a (bit_and a b)

abbrev pub twos_and : ℤ → ℤ → ℤ
twos_and (pos a) (pos b) = pos (bit_and a b)
twos_and (pos a) (negsuc b) = pos (without a b)
twos_and (negsuc a) (pos b) = pos (without b a)
twos_and (negsuc a) (negsuc b) = negsuc (bit_or a b)

abbrev pub twos_or : ℤ → ℤ → ℤ
twos_or (pos a) (pos b) = pos (bit_or a b)
twos_or (pos a) (negsuc b) = negsuc (without b a)
twos_or (negsuc a) (pos b) = negsuc (without a b)
twos_or (negsuc a) (negsuc b) = negsuc (bit_and a b)

abbrev pub twos_xor : ℤ → ℤ → ℤ
twos_xor (pos a) (pos b) = pos (bit_xor a b)
twos_xor (pos a) (negsuc b) = negsuc (bit_xor a b)
twos_xor (negsuc a) (pos b) = negsuc (bit_xor a b)
twos_xor (negsuc a) (negsuc b) = pos (bit_xor a b)
