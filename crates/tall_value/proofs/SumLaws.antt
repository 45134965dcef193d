-- Sums over some numbers and then others.
use Rattle.std.specs.Prelude.{◌≡◌, refl, ℤ, ◌+ℤ◌, List, [], ◌∷◌, ◌++◌}
use Rattle.std.proofs.Common.{arith}
use Rattle.std.proofs.lemmas.Int.{ints}
use Rattle.tall_int.specs.Numbers.{nearest}
use Rattle.tall_int.specs.Sums.{clamped_sum}
use Rattle.tall_value.specs.Reductions.{total}

pub total_append : (xs ys : List ℤ) → total (xs ++ ys) ≡ total xs +ℤ total ys
total_append [] ys = omega (arith, ints)
total_append (x ∷ xs) ys = (let h = total_append xs ys in omega (arith, ints, h))

pub clamped_append : (low high sum : ℤ) (xs ys : List ℤ) → clamped_sum low high sum (xs ++ ys) ≡ clamped_sum low high (clamped_sum low high sum xs) ys
clamped_append low high sum [] ys = refl
clamped_append low high sum (x ∷ xs) ys = clamped_append low high (nearest low high (sum +ℤ x)) xs ys
