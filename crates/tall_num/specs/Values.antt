-- The value of a spelling in an integer class, and as a whole double.
use Rattle.std.specs.Prelude.{ℕ, ℤ, pos, negsuc, suc, ◌*◌, ◌%◌, ◌^◌, ◌==◌, Bool, true, false, if◌then◌else◌, Option, None, Result, Ok, Err}
use Rattle.tall_int.specs.Numbers.{nearest}
use Rattle.tall_int.specs.Quotients.{rounded_size, with_sign}
use Rattle.tall_int.specs.Doubles.{exact}
use Rattle.tall_int.specs.declared.quotients.Rounding.TheVariants.{Round}
use Rattle.tall_int.specs.declared.faults.WholeFault.{WholeFault}
use Rattle.tall_int.specs.declared.faults.WholeFault.TheVariants.{Inexact, NotWhole}
use Rattle.tall_num.specs.Spelling.{Spelling, nan, infinity, decimal}

-- the magnitude of m times 10 to the power e, rounded to the nearest whole number, a tie to the larger one
abbrev pub decimal_size : ℕ → ℤ → ℕ
decimal_size m (pos k) = m * 10 ^ k
decimal_size m (negsuc k) = rounded_size Round false m (10 ^ suc k)

-- the value in the class from `low` to `high`: NaN gives 0, an infinity the end of its side, and a decimal is rounded
-- and then goes to the nearest number of the class
abbrev pub class_value : ℤ → ℤ → Spelling → ℤ
class_value low high nan = pos 0
class_value low high (infinity negative) = if negative then low else high
class_value low high (decimal negative m e) = nearest low high (with_sign negative (decimal_size m e))

-- m times 10 to the power e has no fraction
abbrev pub is_whole : ℕ → ℤ → Bool
is_whole m (pos k) = true
is_whole m (negsuc k) = m % 10 ^ suc k == 0

-- the value as a double: NaN is NaN, and an infinity is too large. A fraction that isn't zero is refused first, then a
-- magnitude above 2^53; without a fraction the rounded number is the number itself
abbrev pub whole_value : Spelling → Result (Option ℤ) WholeFault
whole_value nan = Ok None
whole_value (infinity negative) = Err Inexact
whole_value (decimal negative m e) =
    if is_whole m e then exact (with_sign negative (decimal_size m e)) else Err NotWhole
