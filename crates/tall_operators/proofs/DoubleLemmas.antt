-- Arithmetic of logicals and doubles is that of the doubles that they count as.
use Rattle.std.specs.Prelude.{ℤ, Option, Result}
use Rattle.std.proofs.Common.{◌≡◌, refl, sym, ◌∙◌, ap}
use Rattle.tall_int.specs.declared.faults.WholeFault.{WholeFault}
use Rattle.tall_int.specs.declared.operators.Arith.{Arith}
use Rattle.tall_value.specs.declared.faults.CellFault.{CellFault}
use Rattle.tall_value.specs.Cells.{Seen, whole, logical, double, text}
use Rattle.tall_value.specs.CellOperators.{arithmetic, as_double, double_cell, of_doubles}
use Rattle.tall_operators.specs.Doubles.{CountsAsDouble}

of_two : (op : Arith) (x y : Seen) → CountsAsDouble x → CountsAsDouble y → arithmetic op x y ≡ double_cell (of_doubles op (as_double x) (as_double y))
of_two op (logical x) (logical y) h g = refl
of_two op (logical x) (double y) h g = refl
of_two op (double x) (logical y) h g = refl
of_two op (double x) (double y) h g = refl
of_two op (logical x) (whole k y) h g = absurd g
of_two op (logical x) (text y) h g = absurd g
of_two op (double x) (whole k y) h g = absurd g
of_two op (double x) (text y) h g = absurd g
of_two op (whole k x) y h g = absurd h
of_two op (text x) y h g = absurd h

-- what was computed of two doubles is the cell of the operator
pub of_doubles_is : (op : Arith) (x y : Seen) (a b : Option ℤ) (r : Result (Option ℤ) WholeFault) (shown : Result Seen CellFault)
    → CountsAsDouble x → CountsAsDouble y → a ≡ as_double x → b ≡ as_double y → r ≡ of_doubles op a b → shown ≡ double_cell r → shown ≡ arithmetic op x y
of_doubles_is op x y a b r shown h g is also of made =
    made ∙ ap double_cell (of ∙ ap (λ n. of_doubles op n b) is ∙ ap (λ n. of_doubles op (as_double x) n) also) ∙ sym (of_two op x y h g)
