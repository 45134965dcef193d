-- Worked values of the cell results of arithmetic and of bit operators.
use Rattle.std.specs.Prelude.{◌≡◌, refl, pos, negsuc, true, false, Some, None, Ok, Err}
use Rattle.tall_int.specs.declared.quotients.Rounding.TheVariants.{Fix, Floor, Ceil, Round}
use Rattle.tall_value.specs.declared.class.IntKind.TheVariants.{Int8, Int32, Uint8, Uint64}
use Rattle.tall_value.specs.declared.faults.CellFault.TheVariants.{Inexact, NotWhole}
use Rattle.tall_value.specs.declared.operators.Binary.TheVariants.{Add, Sub, Mul, Div, Modulo, Idivide, BitAnd, BitOr, BitXor}
use Rattle.tall_value.specs.Cells.{whole, logical, double}
use Rattle.tall_value.specs.CellOperators.{binary_cell}

-- int8(100) + 100 is int8(127)
saturates : binary_cell Add (whole Int8 (pos 100)) (double (Some (pos 100))) ≡ Ok (whole Int8 (pos 127))
saturates = refl

-- true + true is 2
logicals_count : binary_cell Add (logical true) (logical true) ≡ Ok (double (Some (pos 2)))
logicals_count = refl

-- 9007199254740992 + true is refused: Inexact
above_the_limit : binary_cell Add (double (Some (pos 9007199254740992))) (logical true) ≡ Err Inexact
above_the_limit = refl

-- NaN - uint8(7) is uint8(0)
nan_gives_zero : binary_cell Sub (double None) (whole Uint8 (pos 7)) ≡ Ok (whole Uint8 (pos 0))
nan_gives_zero = refl

-- uint64(18446744073709551615) - 1 is uint64(18446744073709551614)
exact_in_64_bits : binary_cell Sub (whole Uint64 (pos 18446744073709551615)) (double (Some (pos 1))) ≡ Ok (whole Uint64 (pos 18446744073709551614))
exact_in_64_bits = refl

-- -9007199254740992 - 1 is refused: Inexact
difference_below_the_limit : binary_cell Sub (double (Some (negsuc 9007199254740991))) (double (Some (pos 1))) ≡ Err Inexact
difference_below_the_limit = refl

-- int8(-128) .* -1 is int8(127)
least_times_minus_one : binary_cell Mul (whole Int8 (negsuc 127)) (double (Some (negsuc 0))) ≡ Ok (whole Int8 (pos 127))
least_times_minus_one = refl

-- int8(-5) .* true is int8(-5)
logical_counts_as_integer : binary_cell Mul (whole Int8 (negsuc 4)) (logical true) ≡ Ok (whole Int8 (negsuc 4))
logical_counts_as_integer = refl

-- 9007199254740992 .* 2 is refused: Inexact
product_above_the_limit : binary_cell Mul (double (Some (pos 9007199254740992))) (double (Some (pos 2))) ≡ Err Inexact
product_above_the_limit = refl

-- int32(-7) ./ 2 is int32(-4)
tie_goes_outward : binary_cell Div (whole Int32 (negsuc 6)) (double (Some (pos 2))) ≡ Ok (whole Int32 (negsuc 3))
tie_goes_outward = refl

-- int32(-7) ./ 0 is int32(-2147483648)
over_zero : binary_cell Div (whole Int32 (negsuc 6)) (double (Some (pos 0))) ≡ Ok (whole Int32 (negsuc 2147483647))
over_zero = refl

-- 7 ./ 2 is refused: NotWhole
not_whole : binary_cell Div (double (Some (pos 7))) (double (Some (pos 2))) ≡ Err NotWhole
not_whole = refl

-- 1 ./ 0 is refused: Inexact
double_over_zero : binary_cell Div (double (Some (pos 1))) (double (Some (pos 0))) ≡ Err Inexact
double_over_zero = refl

-- 0 ./ 0 is NaN
zero_over_zero : binary_cell Div (double (Some (pos 0))) (double (Some (pos 0))) ≡ Ok (double None)
zero_over_zero = refl

-- uint8(5) ./ 0 is uint8(255)
positive_over_zero : binary_cell Div (whole Uint8 (pos 5)) (double (Some (pos 0))) ≡ Ok (whole Uint8 (pos 255))
positive_over_zero = refl

-- int8(0) ./ int8(0) is int8(0)
integer_zero_over_zero : binary_cell Div (whole Int8 (pos 0)) (whole Int8 (pos 0)) ≡ Ok (whole Int8 (pos 0))
integer_zero_over_zero = refl

-- int8(5) ./ NaN is int8(0)
integer_over_nan : binary_cell Div (whole Int8 (pos 5)) (double None) ≡ Ok (whole Int8 (pos 0))
integer_over_nan = refl

-- 7 ./ int8(2) is int8(4)
double_over_integer : binary_cell Div (double (Some (pos 7))) (whole Int8 (pos 2)) ≡ Ok (whole Int8 (pos 4))
double_over_integer = refl

-- NaN ./ 0 is NaN
nan_over_zero : binary_cell Div (double None) (double (Some (pos 0))) ≡ Ok (double None)
nan_over_zero = refl

-- -6 ./ 2 is -3
quotient : binary_cell Div (double (Some (negsuc 5))) (double (Some (pos 2))) ≡ Ok (double (Some (negsuc 2)))
quotient = refl

-- mod(int32(-7), 3) is int32(2)
modulo : binary_cell Modulo (whole Int32 (negsuc 6)) (double (Some (pos 3))) ≡ Ok (whole Int32 (pos 2))
modulo = refl

-- mod(int8(-7), int8(0)) is int8(-7)
modulo_zero : binary_cell Modulo (whole Int8 (negsuc 6)) (whole Int8 (pos 0)) ≡ Ok (whole Int8 (negsuc 6))
modulo_zero = refl

-- mod(int8(7), int8(-3)) is int8(-2)
modulo_negative : binary_cell Modulo (whole Int8 (pos 7)) (whole Int8 (negsuc 2)) ≡ Ok (whole Int8 (negsuc 1))
modulo_negative = refl

-- mod(int8(-7), -3) is int8(-1)
modulo_of_negatives : binary_cell Modulo (whole Int8 (negsuc 6)) (double (Some (negsuc 2))) ≡ Ok (whole Int8 (negsuc 0))
modulo_of_negatives = refl

-- mod(-7, 0) is -7
double_modulo_zero : binary_cell Modulo (double (Some (negsuc 6))) (double (Some (pos 0))) ≡ Ok (double (Some (negsuc 6)))
double_modulo_zero = refl

-- mod(7, -3) is -2
double_modulo_negative : binary_cell Modulo (double (Some (pos 7))) (double (Some (negsuc 2))) ≡ Ok (double (Some (negsuc 1)))
double_modulo_negative = refl

-- mod(NaN, 3) is NaN
double_modulo_nan : binary_cell Modulo (double None) (double (Some (pos 3))) ≡ Ok (double None)
double_modulo_nan = refl

-- idivide(int32(-7), 2, 'fix') is int32(-3)
fix : binary_cell (Idivide Fix) (whole Int32 (negsuc 6)) (double (Some (pos 2))) ≡ Ok (whole Int32 (negsuc 2))
fix = refl

-- idivide(int32(-7), 2, 'floor') is int32(-4)
floor : binary_cell (Idivide Floor) (whole Int32 (negsuc 6)) (double (Some (pos 2))) ≡ Ok (whole Int32 (negsuc 3))
floor = refl

-- idivide(int8(7), 2, 'ceil') is int8(4)
ceiling : binary_cell (Idivide Ceil) (whole Int8 (pos 7)) (double (Some (pos 2))) ≡ Ok (whole Int8 (pos 4))
ceiling = refl

-- idivide(int8(-7), 2, 'ceil') is int8(-3)
ceiling_of_negative : binary_cell (Idivide Ceil) (whole Int8 (negsuc 6)) (double (Some (pos 2))) ≡ Ok (whole Int8 (negsuc 2))
ceiling_of_negative = refl

-- idivide(int8(-7), 2, 'round') is int8(-4)
rounded : binary_cell (Idivide Round) (whole Int8 (negsuc 6)) (double (Some (pos 2))) ≡ Ok (whole Int8 (negsuc 3))
rounded = refl

-- idivide(int8(-7), 0, 'floor') is int8(-128)
floor_over_zero : binary_cell (Idivide Floor) (whole Int8 (negsuc 6)) (double (Some (pos 0))) ≡ Ok (whole Int8 (negsuc 127))
floor_over_zero = refl

-- idivide(int8(7), false, 'ceil') is int8(127)
ceiling_over_zero : binary_cell (Idivide Ceil) (whole Int8 (pos 7)) (logical false) ≡ Ok (whole Int8 (pos 127))
ceiling_over_zero = refl

-- idivide(int8(0), 0, 'fix') is int8(0)
zero_divided_by_zero : binary_cell (Idivide Fix) (whole Int8 (pos 0)) (double (Some (pos 0))) ≡ Ok (whole Int8 (pos 0))
zero_divided_by_zero = refl

-- bitand(int8(-1), 300) is int8(127)
bits_of_negative : binary_cell BitAnd (whole Int8 (negsuc 0)) (double (Some (pos 300))) ≡ Ok (whole Int8 (pos 127))
bits_of_negative = refl

-- bitor(int8(-6), int8(3)) is int8(-5)
or_of_negative : binary_cell BitOr (whole Int8 (negsuc 5)) (whole Int8 (pos 3)) ≡ Ok (whole Int8 (negsuc 4))
or_of_negative = refl

-- bitor(int8(-6), -3) is int8(-1)
or_of_negatives : binary_cell BitOr (whole Int8 (negsuc 5)) (double (Some (negsuc 2))) ≡ Ok (whole Int8 (negsuc 0))
or_of_negatives = refl

-- bitor(-1, uint8(6)) is uint8(6)
bits_of_converted : binary_cell BitOr (double (Some (negsuc 0))) (whole Uint8 (pos 6)) ≡ Ok (whole Uint8 (pos 6))
bits_of_converted = refl

-- bitxor(int8(-6), 3) is int8(-7)
xor_of_negative : binary_cell BitXor (whole Int8 (negsuc 5)) (double (Some (pos 3))) ≡ Ok (whole Int8 (negsuc 6))
xor_of_negative = refl

-- bitxor(int8(-6), int8(-3)) is int8(7)
xor_of_negatives : binary_cell BitXor (whole Int8 (negsuc 5)) (whole Int8 (negsuc 2)) ≡ Ok (whole Int8 (pos 7))
xor_of_negatives = refl

-- bitxor(uint8(6), NaN) is uint8(6)
bits_of_nan : binary_cell BitXor (whole Uint8 (pos 6)) (double None) ≡ Ok (whole Uint8 (pos 6))
bits_of_nan = refl
