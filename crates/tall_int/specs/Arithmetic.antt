-- The operators of integer classes, on unbounded whole numbers and the ends of the class. MathWorks, Integers: the
-- exact result, rounded, then the nearest number of the class. Over zero the project's own rule holds
-- (docs/LANGUAGE.md): a positive dividend gives the greatest number of the class, a negative one the least, and zero 0.
use Rattle.std.specs.Prelude.{ℤ, pos, ◌+ℤ◌, ◌-ℤ◌, ◌*ℤ◌, ◌==◌, unsigned_abs, if◌then◌else◌}
use Rattle.std.specs.Int.{is_negative, is_positive}
use Rattle.tall_int.specs.Numbers.{nearest}
use Rattle.tall_int.specs.Quotients.{quotient}
use Rattle.tall_int.specs.declared.quotients.Rounding.{Rounding}
use Rattle.tall_int.specs.declared.quotients.Rounding.TheVariants.{Floor, Round}
use Rattle.tall_int.specs.declared.operators.Arith.{Arith}
use Rattle.tall_int.specs.declared.operators.Arith.TheVariants.{Add, Sub, Mul, Div, Idivide, Modulo}

-- p over zero
abbrev pub over_zero : ℤ → ℤ → ℤ → ℤ
over_zero low high p = if is_negative p then low else (if is_positive p then high else pos 0)

-- p over q, rounded, in the class
abbrev pub divided : Rounding → ℤ → ℤ → ℤ → ℤ → ℤ
divided how low high p q =
    if unsigned_abs q == 0 then over_zero low high p else nearest low high (quotient how p q)

-- p minus q times the floor of p over q; p where q is 0 (MathWorks, mod)
abbrev pub remainder : ℤ → ℤ → ℤ
remainder p q = if unsigned_abs q == 0 then p else p -ℤ q *ℤ quotient Floor p q

-- the operator's result in the class
abbrev pub operation : Arith → ℤ → ℤ → ℤ → ℤ → ℤ
operation Add low high p q = nearest low high (p +ℤ q)
operation Sub low high p q = nearest low high (p -ℤ q)
operation Mul low high p q = nearest low high (p *ℤ q)
operation Div low high p q = divided Round low high p q
operation (Idivide how) low high p q = divided how low high p q
operation Modulo low high p q = nearest low high (remainder p q)
