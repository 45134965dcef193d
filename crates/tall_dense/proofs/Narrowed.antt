-- Numbers kept in a range, and then in one inside it.
use Rattle.std.specs.Prelude.{ℤ, ◌≡◌, ◌≤ℤ◌}
use Rattle.std.proofs.Common.{arith, ap, ◌∙◌}
use Rattle.std.proofs.lemmas.Int.{ints, clamps}
use Rattle.tall_int.specs.Numbers.{nearest}

pub nearest_inside : (low high least greatest n : ℤ) → low ≤ℤ least → least ≤ℤ greatest → greatest ≤ℤ high
    → nearest least greatest (nearest low high n) ≡ nearest least greatest n
nearest_inside low high least greatest n p q r = omega (arith, ints, clamps, p, q, r)

-- a result in a wide range and then in the class
pub narrowed : (low high least greatest n r s : ℤ) → r ≡ nearest low high n → s ≡ nearest least greatest r
    → (low ≤ℤ least) × (least ≤ℤ greatest) × (greatest ≤ℤ high) → s ≡ nearest least greatest n
narrowed low high least greatest n r s wide class within =
    class ∙ ap (nearest least greatest) wide ∙ nearest_inside low high least greatest n within.0 within.1 within.2
