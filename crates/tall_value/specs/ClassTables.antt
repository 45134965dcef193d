-- The class of an operator's result, or why its operands' classes are refused. MathWorks, Integers: integers combine
-- only with integers of their class and with scalar doubles. That a logical beside them counts as 0 or 1 is the project's
-- own rule. A flag says that an operand is a scalar. The cases stand in the order of the rows of docs/LANGUAGE.md,
-- operators.
use Rattle.std.specs.Prelude.{Bool, true, false, ◌&&◌, if◌then◌else◌, Result, Ok, Err}
use Rattle.tall_value.specs.declared.class.Class.{Class}
use Rattle.tall_value.specs.declared.class.IntKind.{IntKind}
use Rattle.tall_value.specs.declared.class.IntKind.TheVariants.{Int8, Int16, Int32, Int64, Uint8, Uint16, Uint32, Uint64}
use Rattle.tall_value.specs.declared.class.Kind.{Kind}
use Rattle.tall_value.specs.declared.class.Kind.TheVariants.{Integer, Logical, Double, Text}
use Rattle.tall_value.specs.declared.faults.ClassFault.{ClassFault}
use Rattle.tall_value.specs.declared.faults.ClassFault.TheVariants.{MixedClass, BadClass}
use Rattle.tall_value.specs.declared.operators.Binary.{Binary}
use Rattle.tall_value.specs.declared.operators.Binary.TheVariants.{Add, Sub, Mul, Div, Modulo, Idivide, BitAnd, BitOr, BitXor, Eq, Ne, Lt, Le, Gt, Ge, StrCmp, And, Or}
use Rattle.tall_value.specs.declared.operators.Unary.{Unary}
use Rattle.tall_value.specs.declared.operators.Unary.TheVariants.{Neg, Plus, Abs, Not, ToInt8, ToInt16, ToInt32, ToInt64, ToUint8, ToUint16, ToUint32, ToUint64, ToDouble, ToLogical, IsNan}
use Rattle.tall_value.specs.Classes.{class_of, kind_of, is_same}

-- c with c; c with logical; c with a scalar double: c.
-- c with another integer class; c with a double that isn't a scalar: MixedClass
abbrev pub beside_integer : IntKind → Kind → Bool → Result Kind ClassFault
beside_integer c (Integer d) scalar = if is_same c d then Ok (Integer c) else Err MixedClass
beside_integer c Logical scalar = Ok (Integer c)
beside_integer c Double scalar = if scalar then Ok (Integer c) else Err MixedClass
beside_integer c Text scalar = Err BadClass

-- `idivide`: no integer class on either side: BadClass
abbrev pub with_integer : Kind → Bool → Kind → Bool → Result Kind ClassFault
with_integer (Integer c) a_scalar b b_scalar = beside_integer c b b_scalar
with_integer a a_scalar (Integer c) b_scalar = beside_integer c a a_scalar
with_integer a a_scalar b b_scalar = Err BadClass

abbrev pub counts_as_double : Kind → Bool
counts_as_double Logical = true
counts_as_double Double = true
counts_as_double a = false

-- `+ - .* ./`, `mod`: double or logical with double or logical: double
abbrev pub arithmetic_kind : Kind → Bool → Kind → Bool → Result Kind ClassFault
arithmetic_kind a a_scalar b b_scalar =
    if counts_as_double a && counts_as_double b then Ok Double else with_integer a a_scalar b b_scalar

-- `bitand bitor bitxor`: c with c; c with a scalar double: c. Two integer classes; c with a double column: MixedClass
abbrev pub bits_beside : IntKind → Kind → Bool → Result Kind ClassFault
bits_beside c (Integer d) scalar = if is_same c d then Ok (Integer c) else Err MixedClass
bits_beside c Double scalar = if scalar then Ok (Integer c) else Err MixedClass
bits_beside c b scalar = Err BadClass

-- any other pair: BadClass
abbrev pub bits_kind : Kind → Bool → Kind → Bool → Result Kind ClassFault
bits_kind (Integer c) a_scalar b b_scalar = bits_beside c b b_scalar
bits_kind a a_scalar (Integer c) b_scalar = bits_beside c a a_scalar
bits_kind a a_scalar b b_scalar = Err BadClass

-- `strcmp`: string with string: logical
abbrev pub texts_kind : Kind → Kind → Result Kind ClassFault
texts_kind Text Text = Ok Logical
texts_kind a b = Err BadClass

-- integer, logical, double: k
abbrev pub of_number : Kind → Kind → Result Kind ClassFault
of_number Text k = Err BadClass
of_number a k = Ok k

-- `== ~= < <= > >=`: any two of integer, logical, double; or string with string: logical
abbrev pub comparison_kind : Kind → Kind → Result Kind ClassFault
comparison_kind Text b = texts_kind Text b
comparison_kind a b = of_number b Logical

-- `& |`: any two of integer, logical, double: logical
abbrev pub both_numbers : Kind → Kind → Result Kind ClassFault
both_numbers Text b = Err BadClass
both_numbers a b = of_number b Logical

abbrev pub binary_kind : Binary → Kind → Bool → Kind → Bool → Result Kind ClassFault
binary_kind Add a a_scalar b b_scalar = arithmetic_kind a a_scalar b b_scalar
binary_kind Sub a a_scalar b b_scalar = arithmetic_kind a a_scalar b b_scalar
binary_kind Mul a a_scalar b b_scalar = arithmetic_kind a a_scalar b b_scalar
binary_kind Div a a_scalar b b_scalar = arithmetic_kind a a_scalar b b_scalar
binary_kind Modulo a a_scalar b b_scalar = arithmetic_kind a a_scalar b b_scalar
binary_kind (Idivide how) a a_scalar b b_scalar = with_integer a a_scalar b b_scalar
binary_kind BitAnd a a_scalar b b_scalar = bits_kind a a_scalar b b_scalar
binary_kind BitOr a a_scalar b b_scalar = bits_kind a a_scalar b b_scalar
binary_kind BitXor a a_scalar b b_scalar = bits_kind a a_scalar b b_scalar
binary_kind Eq a a_scalar b b_scalar = comparison_kind a b
binary_kind Ne a a_scalar b b_scalar = comparison_kind a b
binary_kind Lt a a_scalar b b_scalar = comparison_kind a b
binary_kind Le a a_scalar b b_scalar = comparison_kind a b
binary_kind Gt a a_scalar b b_scalar = comparison_kind a b
binary_kind Ge a a_scalar b b_scalar = comparison_kind a b
binary_kind StrCmp a a_scalar b b_scalar = texts_kind a b
binary_kind And a a_scalar b b_scalar = both_numbers a b
binary_kind Or a a_scalar b b_scalar = both_numbers a b

-- unary `-`, unary `+`, `abs`: c gives c; double and logical give double
abbrev pub sign_kind : Kind → Result Kind ClassFault
sign_kind (Integer c) = Ok (Integer c)
sign_kind Logical = Ok Double
sign_kind Double = Ok Double
sign_kind Text = Err BadClass

abbrev pub unary_kind : Unary → Kind → Result Kind ClassFault
unary_kind Neg a = sign_kind a
unary_kind Plus a = sign_kind a
unary_kind Abs a = sign_kind a
unary_kind Not a = of_number a Logical
unary_kind ToInt8 a = of_number a (Integer Int8)
unary_kind ToInt16 a = of_number a (Integer Int16)
unary_kind ToInt32 a = of_number a (Integer Int32)
unary_kind ToInt64 a = of_number a (Integer Int64)
unary_kind ToUint8 a = of_number a (Integer Uint8)
unary_kind ToUint16 a = of_number a (Integer Uint16)
unary_kind ToUint32 a = of_number a (Integer Uint32)
unary_kind ToUint64 a = of_number a (Integer Uint64)
unary_kind ToDouble a = of_number a Double
unary_kind ToLogical a = of_number a Logical
unary_kind IsNan a = of_number a Logical

-- ---- the same over classes

abbrev pub class_result : Result Kind ClassFault → Result Class ClassFault
class_result (Ok k) = Ok (class_of k)
class_result (Err e) = Err e

abbrev pub binary_class : Binary → Class → Bool → Class → Bool → Result Class ClassFault
binary_class op a a_scalar b b_scalar = class_result (binary_kind op (kind_of a) a_scalar (kind_of b) b_scalar)

abbrev pub unary_class : Unary → Class → Result Class ClassFault
unary_class op a = class_result (unary_kind op (kind_of a))
