-- Worked values of the definitions, each by computing.
use Rattle.std.specs.Prelude.{◌≡◌, pos, negsuc, ◌^◌, [], ◌∷◌, refl, None, Some, Ok, Err}
use Rattle.tall_int.specs.Quotients.{quotient}
use Rattle.tall_int.specs.Arithmetic.{divided, operation, remainder}
use Rattle.tall_int.specs.Twos.{twos_and, twos_or, twos_xor}
use Rattle.tall_int.specs.Doubles.{whole_add, whole_div, whole_modulo}
use Rattle.tall_int.specs.Sums.{clamped_sum}
use Rattle.tall_int.specs.declared.quotients.Rounding.TheVariants.{Fix, Floor, Ceil, Round}
use Rattle.tall_int.specs.declared.operators.Arith.TheVariants.{Add, Div, Idivide, Modulo}
use Rattle.tall_int.specs.declared.faults.WholeFault.TheVariants.{Inexact, NotWhole}

-- int8(-128) ./ int8(-1) is 127
pub least_over_minus_one : divided Round (negsuc 127) (pos 127) (negsuc 127) (negsuc 0) ≡ pos 127
least_over_minus_one = refl

-- int64(9223372036854775807) + 1 stays there
pub sum_at_the_end : operation Add (negsuc 9223372036854775807) (pos 9223372036854775807) (pos 9223372036854775807) (pos 1) ≡ pos 9223372036854775807
sum_at_the_end = refl

-- uint8(5) ./ 2 is 3, and int8(-5) ./ int8(2) is -3
pub tie_goes_out : operation Div (pos 0) (pos 255) (pos 5) (pos 2) ≡ pos 3
tie_goes_out = refl

pub tie_goes_out_below : quotient Round (negsuc 4) (pos 2) ≡ negsuc 2
tie_goes_out_below = refl

-- -7 over 2 by each other rounding
pub rounded_toward_zero : quotient Fix (negsuc 6) (pos 2) ≡ negsuc 2
rounded_toward_zero = refl

pub rounded_down : quotient Floor (negsuc 6) (pos 2) ≡ negsuc 3
rounded_down = refl

pub rounded_up : quotient Ceil (negsuc 6) (pos 2) ≡ negsuc 2
rounded_up = refl

-- 7 over 2, above 0
pub cut_above_zero : quotient Fix (pos 7) (pos 2) ≡ pos 3
cut_above_zero = refl

pub up_above_zero : quotient Ceil (pos 7) (pos 2) ≡ pos 4
up_above_zero = refl

-- mod(int8(-7), int8(3)) is 2, mod(int8(7), int8(-3)) is -2, and mod(x, 0) is x
pub remainder_of_the_floor : remainder (negsuc 6) (pos 3) ≡ pos 2
remainder_of_the_floor = refl

pub remainder_below_zero : remainder (pos 7) (negsuc 2) ≡ negsuc 1
remainder_below_zero = refl

pub remainder_by_zero : operation Modulo (negsuc 127) (pos 127) (negsuc 6) (pos 0) ≡ negsuc 6
remainder_by_zero = refl

-- int8 over zero: the ends, and 0
pub positive_over_zero : operation (Idivide Fix) (negsuc 127) (pos 127) (pos 1) (pos 0) ≡ pos 127
positive_over_zero = refl

pub negative_over_zero : operation (Idivide Fix) (negsuc 127) (pos 127) (negsuc 0) (pos 0) ≡ negsuc 127
negative_over_zero = refl

pub zero_over_zero : operation (Idivide Fix) (negsuc 127) (pos 127) (pos 0) (pos 0) ≡ pos 0
zero_over_zero = refl

-- -6 and 7 have the bits ..11010 and ..00111
pub bits_of_both : twos_and (negsuc 5) (pos 7) ≡ pos 2
bits_of_both = refl

pub bits_of_either : twos_or (negsuc 5) (pos 5) ≡ negsuc 0
bits_of_either = refl

pub bits_of_one : twos_xor (negsuc 5) (negsuc 0) ≡ pos 5
bits_of_one = refl

-- doubles: 7 ./ 2 is no whole number, 2^53 + 1 and 1 ./ 0 are not exact, and 0 ./ 0 is NaN
pub seven_halves : whole_div (Some (pos 7)) (Some (pos 2)) ≡ Err NotWhole
seven_halves = refl

pub above_the_limit : whole_add (Some (pos (2 ^ 53))) (Some (pos 1)) ≡ Err Inexact
above_the_limit = refl

pub one_over_zero : whole_div (Some (pos 1)) (Some (pos 0)) ≡ Err Inexact
one_over_zero = refl

pub nothing_over_nothing : whole_div (Some (pos 0)) (Some (pos 0)) ≡ Ok None
nothing_over_nothing = refl

pub double_remainder_by_zero : whole_modulo (Some (negsuc 6)) (Some (pos 0)) ≡ Some (negsuc 6)
double_remainder_by_zero = refl

-- int8: 100, 100, -100 from 0 is 27, and from -128 is -28
pub saturated_at_each_row : clamped_sum (negsuc 127) (pos 127) (pos 0) (pos 100 ∷ pos 100 ∷ negsuc 99 ∷ []) ≡ pos 27
saturated_at_each_row = refl

pub saturated_from_the_least : clamped_sum (negsuc 127) (pos 127) (negsuc 127) (pos 100 ∷ pos 100 ∷ negsuc 99 ∷ []) ≡ negsuc 27
saturated_from_the_least = refl
