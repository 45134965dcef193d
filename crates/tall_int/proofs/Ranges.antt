-- Numbers from a least to a greatest one.
use Rattle.std.proofs.Common.{◌≡◌, ℤ, ◌≤ℤ◌, arith}
use Rattle.std.proofs.lemmas.Int.{ints, clamps}
use Rattle.tall_int.specs.Numbers.{nearest}

-- n is a number of the class
pub record IsIn (low high n : ℤ) : Type 0 where
  pub above : low ≤ℤ n
  pub below : n ≤ℤ high

pub nearest_in : (low high n : ℤ) → IsIn low high n → nearest low high n ≡ n
nearest_in low high n h = omega (arith, ints, clamps, h.above, h.below)
