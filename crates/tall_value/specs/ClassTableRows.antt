-- Worked values of the class tables: for each operator all pairs of operands, each a column of int8, of int16, of logicals
-- or of doubles, a scalar double, or a column of texts; left operands in this order from line to line, right ones from
-- left to right.
use Rattle.std.specs.Prelude.{◌≡◌, refl, Bool, true, false, Result, Ok, Err, List, [], ◌∷◌, map}
use Rattle.tall_int.specs.declared.quotients.Rounding.TheVariants.{Round}
use Rattle.tall_value.specs.declared.class.Class.{Class}
use Rattle.tall_value.specs.declared.class.Class.TheVariants.{Int8, Int16, Int32, Int64, Uint8, Uint16, Uint32, Uint64, Logical, Double, Text}
use Rattle.tall_value.specs.declared.faults.ClassFault.{ClassFault}
use Rattle.tall_value.specs.declared.faults.ClassFault.TheVariants.{MixedClass, BadClass}
use Rattle.tall_value.specs.declared.operators.Binary.{Binary}
use Rattle.tall_value.specs.declared.operators.Binary.TheVariants.{Add, Sub, Mul, Div, Modulo, Idivide, BitAnd, BitOr, BitXor, Eq, Ne, Lt, Le, Gt, Ge, StrCmp, And, Or}
use Rattle.tall_value.specs.declared.operators.Unary.{Unary}
use Rattle.tall_value.specs.declared.operators.Unary.TheVariants.{Neg, Plus, Abs, Not, ToInt8, ToInt16, ToInt32, ToInt64, ToUint8, ToUint16, ToUint32, ToUint64, ToDouble, ToLogical, IsNan}
use Rattle.tall_value.specs.ClassTables.{binary_class, unary_class}

-- the operands, with whether each is a scalar
abbrev operands : List (Class × Bool)
operands = (Int8, false) ∷ (Int16, false) ∷ (Logical, false) ∷ (Double, false) ∷ (Double, true) ∷ (Text, false) ∷ []

abbrev table : Binary → List (List (Result Class ClassFault))
table op = map (λ (a : Class × Bool). map (λ (b : Class × Bool). binary_class op a.0 a.1 b.0 b.1) operands) operands

-- double or logical with double or logical; c with c, logical, a scalar double
abbrev arithmetic : List (List (Result Class ClassFault))
arithmetic =
    (Ok Int8 ∷ Err MixedClass ∷ Ok Int8 ∷ Err MixedClass ∷ Ok Int8 ∷ Err BadClass ∷ []) ∷
    (Err MixedClass ∷ Ok Int16 ∷ Ok Int16 ∷ Err MixedClass ∷ Ok Int16 ∷ Err BadClass ∷ []) ∷
    (Ok Int8 ∷ Ok Int16 ∷ Ok Double ∷ Ok Double ∷ Ok Double ∷ Err BadClass ∷ []) ∷
    (Err MixedClass ∷ Err MixedClass ∷ Ok Double ∷ Ok Double ∷ Ok Double ∷ Err BadClass ∷ []) ∷
    (Ok Int8 ∷ Ok Int16 ∷ Ok Double ∷ Ok Double ∷ Ok Double ∷ Err BadClass ∷ []) ∷
    (Err BadClass ∷ Err BadClass ∷ Err BadClass ∷ Err BadClass ∷ Err BadClass ∷ Err BadClass ∷ []) ∷ []

table_of_plus : table Add ≡ arithmetic
table_of_plus = refl

table_of_minus : table Sub ≡ arithmetic
table_of_minus = refl

table_of_times : table Mul ≡ arithmetic
table_of_times = refl

table_of_over : table Div ≡ arithmetic
table_of_over = refl

table_of_modulo : table Modulo ≡ arithmetic
table_of_modulo = refl

-- an integer class on either side
abbrev division : List (List (Result Class ClassFault))
division =
    (Ok Int8 ∷ Err MixedClass ∷ Ok Int8 ∷ Err MixedClass ∷ Ok Int8 ∷ Err BadClass ∷ []) ∷
    (Err MixedClass ∷ Ok Int16 ∷ Ok Int16 ∷ Err MixedClass ∷ Ok Int16 ∷ Err BadClass ∷ []) ∷
    (Ok Int8 ∷ Ok Int16 ∷ Err BadClass ∷ Err BadClass ∷ Err BadClass ∷ Err BadClass ∷ []) ∷
    (Err MixedClass ∷ Err MixedClass ∷ Err BadClass ∷ Err BadClass ∷ Err BadClass ∷ Err BadClass ∷ []) ∷
    (Ok Int8 ∷ Ok Int16 ∷ Err BadClass ∷ Err BadClass ∷ Err BadClass ∷ Err BadClass ∷ []) ∷
    (Err BadClass ∷ Err BadClass ∷ Err BadClass ∷ Err BadClass ∷ Err BadClass ∷ Err BadClass ∷ []) ∷ []

table_of_idivide : table (Idivide Round) ≡ division
table_of_idivide = refl

-- c with c and with a scalar double
abbrev of_bits : List (List (Result Class ClassFault))
of_bits =
    (Ok Int8 ∷ Err MixedClass ∷ Err BadClass ∷ Err MixedClass ∷ Ok Int8 ∷ Err BadClass ∷ []) ∷
    (Err MixedClass ∷ Ok Int16 ∷ Err BadClass ∷ Err MixedClass ∷ Ok Int16 ∷ Err BadClass ∷ []) ∷
    (Err BadClass ∷ Err BadClass ∷ Err BadClass ∷ Err BadClass ∷ Err BadClass ∷ Err BadClass ∷ []) ∷
    (Err MixedClass ∷ Err MixedClass ∷ Err BadClass ∷ Err BadClass ∷ Err BadClass ∷ Err BadClass ∷ []) ∷
    (Ok Int8 ∷ Ok Int16 ∷ Err BadClass ∷ Err BadClass ∷ Err BadClass ∷ Err BadClass ∷ []) ∷
    (Err BadClass ∷ Err BadClass ∷ Err BadClass ∷ Err BadClass ∷ Err BadClass ∷ Err BadClass ∷ []) ∷ []

table_of_bitand : table BitAnd ≡ of_bits
table_of_bitand = refl

table_of_bitor : table BitOr ≡ of_bits
table_of_bitor = refl

table_of_bitxor : table BitXor ≡ of_bits
table_of_bitxor = refl

-- numbers with numbers, texts with texts
abbrev comparisons : List (List (Result Class ClassFault))
comparisons =
    (Ok Logical ∷ Ok Logical ∷ Ok Logical ∷ Ok Logical ∷ Ok Logical ∷ Err BadClass ∷ []) ∷
    (Ok Logical ∷ Ok Logical ∷ Ok Logical ∷ Ok Logical ∷ Ok Logical ∷ Err BadClass ∷ []) ∷
    (Ok Logical ∷ Ok Logical ∷ Ok Logical ∷ Ok Logical ∷ Ok Logical ∷ Err BadClass ∷ []) ∷
    (Ok Logical ∷ Ok Logical ∷ Ok Logical ∷ Ok Logical ∷ Ok Logical ∷ Err BadClass ∷ []) ∷
    (Ok Logical ∷ Ok Logical ∷ Ok Logical ∷ Ok Logical ∷ Ok Logical ∷ Err BadClass ∷ []) ∷
    (Err BadClass ∷ Err BadClass ∷ Err BadClass ∷ Err BadClass ∷ Err BadClass ∷ Ok Logical ∷ []) ∷ []

table_of_equal : table Eq ≡ comparisons
table_of_equal = refl

table_of_different : table Ne ≡ comparisons
table_of_different = refl

table_of_less : table Lt ≡ comparisons
table_of_less = refl

table_of_at_most : table Le ≡ comparisons
table_of_at_most = refl

table_of_greater : table Gt ≡ comparisons
table_of_greater = refl

table_of_at_least : table Ge ≡ comparisons
table_of_at_least = refl

-- texts with texts
abbrev of_texts : List (List (Result Class ClassFault))
of_texts =
    (Err BadClass ∷ Err BadClass ∷ Err BadClass ∷ Err BadClass ∷ Err BadClass ∷ Err BadClass ∷ []) ∷
    (Err BadClass ∷ Err BadClass ∷ Err BadClass ∷ Err BadClass ∷ Err BadClass ∷ Err BadClass ∷ []) ∷
    (Err BadClass ∷ Err BadClass ∷ Err BadClass ∷ Err BadClass ∷ Err BadClass ∷ Err BadClass ∷ []) ∷
    (Err BadClass ∷ Err BadClass ∷ Err BadClass ∷ Err BadClass ∷ Err BadClass ∷ Err BadClass ∷ []) ∷
    (Err BadClass ∷ Err BadClass ∷ Err BadClass ∷ Err BadClass ∷ Err BadClass ∷ Err BadClass ∷ []) ∷
    (Err BadClass ∷ Err BadClass ∷ Err BadClass ∷ Err BadClass ∷ Err BadClass ∷ Ok Logical ∷ []) ∷ []

table_of_strcmp : table StrCmp ≡ of_texts
table_of_strcmp = refl

-- numbers with numbers
abbrev logicals : List (List (Result Class ClassFault))
logicals =
    (Ok Logical ∷ Ok Logical ∷ Ok Logical ∷ Ok Logical ∷ Ok Logical ∷ Err BadClass ∷ []) ∷
    (Ok Logical ∷ Ok Logical ∷ Ok Logical ∷ Ok Logical ∷ Ok Logical ∷ Err BadClass ∷ []) ∷
    (Ok Logical ∷ Ok Logical ∷ Ok Logical ∷ Ok Logical ∷ Ok Logical ∷ Err BadClass ∷ []) ∷
    (Ok Logical ∷ Ok Logical ∷ Ok Logical ∷ Ok Logical ∷ Ok Logical ∷ Err BadClass ∷ []) ∷
    (Ok Logical ∷ Ok Logical ∷ Ok Logical ∷ Ok Logical ∷ Ok Logical ∷ Err BadClass ∷ []) ∷
    (Err BadClass ∷ Err BadClass ∷ Err BadClass ∷ Err BadClass ∷ Err BadClass ∷ Err BadClass ∷ []) ∷ []

table_of_and : table And ≡ logicals
table_of_and = refl

table_of_or : table Or ≡ logicals
table_of_or = refl

-- ---- one operand: int8, int16, logical, double, text

abbrev of_each : Unary → List (Result Class ClassFault)
of_each op = map (unary_class op) (Int8 ∷ Int16 ∷ Logical ∷ Double ∷ Text ∷ [])

table_of_negation : of_each Neg ≡ Ok Int8 ∷ Ok Int16 ∷ Ok Double ∷ Ok Double ∷ Err BadClass ∷ []
table_of_negation = refl

table_of_plus_sign : of_each Plus ≡ Ok Int8 ∷ Ok Int16 ∷ Ok Double ∷ Ok Double ∷ Err BadClass ∷ []
table_of_plus_sign = refl

table_of_abs : of_each Abs ≡ Ok Int8 ∷ Ok Int16 ∷ Ok Double ∷ Ok Double ∷ Err BadClass ∷ []
table_of_abs = refl

table_of_not : of_each Not ≡ Ok Logical ∷ Ok Logical ∷ Ok Logical ∷ Ok Logical ∷ Err BadClass ∷ []
table_of_not = refl

table_of_int8 : of_each ToInt8 ≡ Ok Int8 ∷ Ok Int8 ∷ Ok Int8 ∷ Ok Int8 ∷ Err BadClass ∷ []
table_of_int8 = refl

table_of_int16 : of_each ToInt16 ≡ Ok Int16 ∷ Ok Int16 ∷ Ok Int16 ∷ Ok Int16 ∷ Err BadClass ∷ []
table_of_int16 = refl

table_of_double : of_each ToDouble ≡ Ok Double ∷ Ok Double ∷ Ok Double ∷ Ok Double ∷ Err BadClass ∷ []
table_of_double = refl

table_of_logical : of_each ToLogical ≡ Ok Logical ∷ Ok Logical ∷ Ok Logical ∷ Ok Logical ∷ Err BadClass ∷ []
table_of_logical = refl

table_of_isnan : of_each IsNan ≡ Ok Logical ∷ Ok Logical ∷ Ok Logical ∷ Ok Logical ∷ Err BadClass ∷ []
table_of_isnan = refl

-- each integer class by its name
conversions : map (λ op. unary_class op Double) (ToInt8 ∷ ToInt16 ∷ ToInt32 ∷ ToInt64 ∷ ToUint8 ∷ ToUint16 ∷ ToUint32 ∷ ToUint64 ∷ []) ≡ Ok Int8 ∷ Ok Int16 ∷ Ok Int32 ∷ Ok Int64 ∷ Ok Uint8 ∷ Ok Uint16 ∷ Ok Uint32 ∷ Ok Uint64 ∷ []
conversions = refl
