-- Worked values of the class tables.
use Rattle.std.specs.Prelude.{◌≡◌, refl, true, false, Ok, Err}
use Rattle.tall_int.specs.declared.quotients.Rounding.TheVariants.{Fix}
use Rattle.tall_value.specs.declared.class.Class.TheVariants.{Int8, Int16, Int64, Uint8, Logical, Double, Text}
use Rattle.tall_value.specs.declared.faults.ClassFault.TheVariants.{MixedClass, BadClass}
use Rattle.tall_value.specs.declared.operators.Binary.TheVariants.{Add, Sub, Div, Modulo, Idivide, BitAnd, Lt, StrCmp, And}
use Rattle.tall_value.specs.declared.operators.Unary.TheVariants.{Neg, Not, ToInt8, IsNan}
use Rattle.tall_value.specs.ClassTables.{binary_class, unary_class}

-- a logical column + a logical column: double
logicals_add_as_doubles : binary_class Add Logical false Logical false ≡ Ok Double
logicals_add_as_doubles = refl

-- an int8 column ./ an int8 column: int8
integers_of_one_class : binary_class Div Int8 false Int8 false ≡ Ok Int8
integers_of_one_class = refl

-- an int16 column + an int8 column: refused as MixedClass
integers_of_two_classes : binary_class Add Int16 false Int8 false ≡ Err MixedClass
integers_of_two_classes = refl

-- a logical column + a uint8 column: uint8
integer_with_logical : binary_class Add Logical false Uint8 false ≡ Ok Uint8
integer_with_logical = refl

-- a double scalar + an int64 column: int64
integer_with_scalar_double : binary_class Add Double true Int64 false ≡ Ok Int64
integer_with_scalar_double = refl

-- an int8 scalar + a double column: refused as MixedClass
scalar_integer_with_double_column : binary_class Add Int8 true Double false ≡ Err MixedClass
scalar_integer_with_double_column = refl

-- idivide(a double scalar, a double scalar): refused as BadClass
idivide_of_doubles : binary_class (Idivide Fix) Double true Double true ≡ Err BadClass
idivide_of_doubles = refl

-- idivide(an int8 column, a logical column): int8
idivide_with_logical : binary_class (Idivide Fix) Int8 false Logical false ≡ Ok Int8
idivide_with_logical = refl

-- bitand(an int8 column, a logical scalar): refused as BadClass
bits_with_logical : binary_class BitAnd Int8 false Logical true ≡ Err BadClass
bits_with_logical = refl

-- bitand(a double column, an int8 column): refused as MixedClass
bits_with_double_column : binary_class BitAnd Double false Int8 false ≡ Err MixedClass
bits_with_double_column = refl

-- mod(a logical column, a double column): double
modulo_of_logical_and_double : binary_class Modulo Logical false Double false ≡ Ok Double
modulo_of_logical_and_double = refl

-- idivide(a uint8 column, an int8 column): refused as MixedClass
idivide_of_two_classes : binary_class (Idivide Fix) Uint8 false Int8 false ≡ Err MixedClass
idivide_of_two_classes = refl

-- idivide(a double column, an int8 scalar): refused as MixedClass
idivide_with_double_column : binary_class (Idivide Fix) Double false Int8 true ≡ Err MixedClass
idivide_with_double_column = refl

-- a string scalar - an int8 column: refused as BadClass
integer_with_text : binary_class Sub Text true Int8 false ≡ Err BadClass
integer_with_text = refl

-- bitand(an int16 column, an int16 column): int16
bits_of_one_class : binary_class BitAnd Int16 false Int16 false ≡ Ok Int16
bits_of_one_class = refl

-- bitand(a double scalar, an int8 column): int8
bits_with_scalar_double : binary_class BitAnd Double true Int8 false ≡ Ok Int8
bits_with_scalar_double = refl

-- bitand(an int16 scalar, an int8 scalar): refused as MixedClass
bits_of_two_classes : binary_class BitAnd Int16 true Int8 true ≡ Err MixedClass
bits_of_two_classes = refl

-- bitand(a double scalar, a double scalar): refused as BadClass
bits_of_doubles : binary_class BitAnd Double true Double true ≡ Err BadClass
bits_of_doubles = refl

-- bitand(an int8 column, a string scalar): refused as BadClass
bits_with_text : binary_class BitAnd Int8 false Text true ≡ Err BadClass
bits_with_text = refl

-- a logical column & a string column: refused as BadClass
and_with_text : binary_class And Logical false Text false ≡ Err BadClass
and_with_text = refl

-- an int8 column < a double column: logical
comparison_across_classes : binary_class Lt Int8 false Double false ≡ Ok Logical
comparison_across_classes = refl

-- a string column < an int8 column: refused as BadClass
comparison_of_text_and_number : binary_class Lt Text false Int8 false ≡ Err BadClass
comparison_of_text_and_number = refl

-- a string column < a string scalar: logical
comparison_of_texts : binary_class Lt Text false Text true ≡ Ok Logical
comparison_of_texts = refl

-- strcmp(an int8 column, an int8 column): refused as BadClass
strcmp_of_numbers : binary_class StrCmp Int8 false Int8 false ≡ Err BadClass
strcmp_of_numbers = refl

-- an int8 column & a uint8 column: logical
and_of_two_classes : binary_class And Int8 false Uint8 false ≡ Ok Logical
and_of_two_classes = refl

-- a string column + a string column: refused as BadClass
text_added : binary_class Add Text false Text false ≡ Err BadClass
text_added = refl

-- -x of a logical: double
negated_logical : unary_class Neg Logical ≡ Ok Double
negated_logical = refl

-- ~x of a string: refused as BadClass
negated_text : unary_class Not Text ≡ Err BadClass
negated_text = refl

-- int8(x) of a double: int8
converted_double : unary_class ToInt8 Double ≡ Ok Int8
converted_double = refl

-- isnan(x) of an int8: logical
nan_test_of_integer : unary_class IsNan Int8 ≡ Ok Logical
nan_test_of_integer = refl

-- -x of a uint8: uint8
sign_of_integer : unary_class Neg Uint8 ≡ Ok Uint8
sign_of_integer = refl

-- -x of a string: refused as BadClass
sign_of_text : unary_class Neg Text ≡ Err BadClass
sign_of_text = refl

-- int8(x) of a string: refused as BadClass
converted_text : unary_class ToInt8 Text ≡ Err BadClass
converted_text = refl

-- isnan(x) of a string: refused as BadClass
nan_test_of_text : unary_class IsNan Text ≡ Err BadClass
nan_test_of_text = refl
