-- Clamp functions: add the shift, then go to the nearest number from `low` to `high`. A row of a saturating sum is such a
-- function of the sum before it, and one after another they are such a function again.
use Rattle.std.specs.Prelude.{◌≡◌, ℤ, pos, negsuc, ◌+ℤ◌, ◌≤ℤ◌, List}
use Rattle.tall_int.specs.Numbers.{nearest}
use Rattle.tall_int.specs.Sums.{clamped_sum}
use Rattle.tall_clamp.specs.declared.bounds.Bounds.{Bounds}

-- the value of the clamp function at x
abbrev pub apply : Bounds → ℤ → ℤ
apply c x = nearest c.low c.high (x +ℤ c.shift)

-- the clamp function of a row with the number n, in a class with these ends
abbrev pub row_clamp : ℤ → ℤ → ℤ → Bounds
row_clamp low high n = record { shift = n; low = low; high = high }

-- a, and then b
abbrev pub after : Bounds → Bounds → Bounds
after a b =
    record {
      shift = a.shift +ℤ b.shift;
      low = nearest b.low b.high (a.low +ℤ b.shift);
      high = nearest b.low b.high (a.high +ℤ b.shift);
    }

-- the shift goes to the nearest number within 2^110
abbrev pub cut_shift : Bounds → Bounds
cut_shift c =
    record {
      shift = nearest (negsuc 1298074214633706907132624082305023) (pos 1298074214633706907132624082305024) c.shift;
      low = c.low;
      high = c.high;
    }

-- the ends are in order and within 2^120, and the shift is within 2^112
pub record IsRoomy (c : Bounds) : Type 0 where
  pub low : negsuc 1329227995784915872903807060280344575 ≤ℤ c.low
  pub high : c.high ≤ℤ pos 1329227995784915872903807060280344576
  pub ordered : c.low ≤ℤ c.high
  pub below : negsuc 5192296858534827628530496329220095 ≤ℤ c.shift
  pub above : c.shift ≤ℤ pos 5192296858534827628530496329220096

-- the ends are in order and in the class, and the shift is within 2^110
pub record IsClamp (low high : ℤ) (c : Bounds) : Type 0 where
  pub above : low ≤ℤ c.low
  pub ordered : c.low ≤ℤ c.high
  pub below : c.high ≤ℤ high
  pub least : negsuc 1298074214633706907132624082305023 ≤ℤ c.shift
  pub greatest : c.shift ≤ℤ pos 1298074214633706907132624082305024

-- from each number of the class the clamp function gives the saturating sum of these rows
abbrev pub Sums : ℤ → ℤ → List ℤ → Bounds → Type 0
Sums low high rows c = (x : ℤ) → low ≤ℤ x → x ≤ℤ high → apply c x ≡ clamped_sum low high x rows
