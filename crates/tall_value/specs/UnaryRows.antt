-- Worked values of the cell results of operators and functions of one operand.
use Rattle.std.specs.Prelude.{◌≡◌, refl, pos, negsuc, true, false, Some, None, Ok, Err}
use Rattle.tall_value.specs.declared.class.IntKind.TheVariants.{Int8, Int64, Uint8, Uint64}
use Rattle.tall_value.specs.declared.faults.CellFault.TheVariants.{Inexact, NanLogical}
use Rattle.tall_value.specs.declared.operators.Unary.TheVariants.{Neg, Plus, Abs, Not, ToInt8, ToUint8, ToDouble, ToLogical, IsNan}
use Rattle.tall_value.specs.Cells.{whole, logical, double}
use Rattle.tall_value.specs.CellOperators.{unary_cell}

-- -int8(-128) is int8(127)
least_negated : unary_cell Neg (whole Int8 (negsuc 127)) ≡ Ok (whole Int8 (pos 127))
least_negated = refl

-- -uint8(3) is uint8(0)
unsigned_negated : unary_cell Neg (whole Uint8 (pos 3)) ≡ Ok (whole Uint8 (pos 0))
unsigned_negated = refl

-- -true is -1
logical_negated : unary_cell Neg (logical true) ≡ Ok (double (Some (negsuc 0)))
logical_negated = refl

-- +true is 1
logical_as_double : unary_cell Plus (logical true) ≡ Ok (double (Some (pos 1)))
logical_as_double = refl

-- +int8(-5) is int8(-5)
integer_itself : unary_cell Plus (whole Int8 (negsuc 4)) ≡ Ok (whole Int8 (negsuc 4))
integer_itself = refl

-- abs(NaN) is NaN
magnitude_of_nan : unary_cell Abs (double None) ≡ Ok (double None)
magnitude_of_nan = refl

-- abs(int8(-128)) is int8(127)
magnitude_of_least : unary_cell Abs (whole Int8 (negsuc 127)) ≡ Ok (whole Int8 (pos 127))
magnitude_of_least = refl

-- ~int8(-5) is false
not_of_number : unary_cell Not (whole Int8 (negsuc 4)) ≡ Ok (logical false)
not_of_number = refl

-- ~NaN is refused: NanLogical
not_of_nan : unary_cell Not (double None) ≡ Err NanLogical
not_of_nan = refl

-- int8(NaN) is int8(0)
converted_nan : unary_cell ToInt8 (double None) ≡ Ok (whole Int8 (pos 0))
converted_nan = refl

-- int8(uint64(18446744073709551615)) is int8(127)
converted_above : unary_cell ToInt8 (whole Uint64 (pos 18446744073709551615)) ≡ Ok (whole Int8 (pos 127))
converted_above = refl

-- uint8(int8(-5)) is uint8(0)
converted_below : unary_cell ToUint8 (whole Int8 (negsuc 4)) ≡ Ok (whole Uint8 (pos 0))
converted_below = refl

-- uint8(true) is uint8(1)
converted_logical : unary_cell ToUint8 (logical true) ≡ Ok (whole Uint8 (pos 1))
converted_logical = refl

-- double(int64(9007199254740993)) is refused: Inexact
double_of_large : unary_cell ToDouble (whole Int64 (pos 9007199254740993)) ≡ Err Inexact
double_of_large = refl

-- double(int64(-9007199254740992)) is -9007199254740992
double_at_the_limit : unary_cell ToDouble (whole Int64 (negsuc 9007199254740991)) ≡ Ok (double (Some (negsuc 9007199254740991)))
double_at_the_limit = refl

-- logical(NaN) is refused: NanLogical
logical_of_nan : unary_cell ToLogical (double None) ≡ Err NanLogical
logical_of_nan = refl

-- logical(-3) is true
logical_of_number : unary_cell ToLogical (double (Some (negsuc 2))) ≡ Ok (logical true)
logical_of_number = refl

-- isnan(NaN) is true
nan_is_nan : unary_cell IsNan (double None) ≡ Ok (logical true)
nan_is_nan = refl

-- isnan(int8(0)) is false
integer_is_no_nan : unary_cell IsNan (whole Int8 (pos 0)) ≡ Ok (logical false)
integer_is_no_nan = refl
