-- The cell that an operator gives of cells, or why it has none. The class tables say which classes an operator takes;
-- of other classes nothing is meant here, and a text counts as a NaN, though for `isnan` it is none. MathWorks, Integers,
-- idivide, mod, bitand; doubles are NaN or whole numbers of magnitude at most 2^53.
use Rattle.std.specs.Prelude.{ℤ, pos, neg_ℤ, unsigned_abs, Bool, true, false, not, ◌&&◌, ◌||◌, ◌==◌, Option, None, Some, Result, Ok, Err}
use Rattle.std.specs.declared.cmp.Ordering.{Ordering}
use Rattle.std.specs.declared.cmp.Ordering.TheVariants.{Less, Equal, Greater}
use Rattle.std.specs.Ordering.{nat_cmp, int_cmp}
use Rattle.std.specs.Cmp.Lexicographic.{slice_cmp}
use Rattle.tall_int.specs.Numbers.{nearest}
use Rattle.tall_int.specs.Arithmetic.{operation}
use Rattle.tall_int.specs.Twos.{twos_and, twos_or, twos_xor}
use Rattle.tall_int.specs.Doubles.{exact, whole_add, whole_sub, whole_mul, whole_div, whole_modulo, whole_neg, whole_abs}
use Rattle.tall_int.specs.declared.faults.WholeFault.{WholeFault}
use Rattle.tall_int.specs.declared.faults.WholeFault.TheVariants as whole_fault
use Rattle.tall_int.specs.declared.operators.Arith.{Arith}
use Rattle.tall_int.specs.declared.operators.Arith.TheVariants as arith
use Rattle.tall_value.specs.declared.class.IntKind.{IntKind}
use Rattle.tall_value.specs.declared.class.IntKind.TheVariants.{Int8, Int16, Int32, Int64, Uint8, Uint16, Uint32, Uint64}
use Rattle.tall_value.specs.declared.faults.CellFault.{CellFault}
use Rattle.tall_value.specs.declared.faults.CellFault.TheVariants.{Inexact, NotWhole, NanLogical}
use Rattle.tall_value.specs.declared.operators.Binary.{Binary}
use Rattle.tall_value.specs.declared.operators.Binary.TheVariants.{Add, Sub, Mul, Div, Modulo, Idivide, BitAnd, BitOr, BitXor, Eq, Ne, Lt, Le, Gt, Ge, StrCmp, And, Or}
use Rattle.tall_value.specs.declared.operators.Unary.{Unary}
use Rattle.tall_value.specs.declared.operators.Unary.TheVariants.{Neg, Plus, Abs, Not, ToInt8, ToInt16, ToInt32, ToInt64, ToUint8, ToUint16, ToUint32, ToUint64, ToDouble, ToLogical, IsNan}
use Rattle.tall_value.specs.Classes.{least, greatest}
use Rattle.tall_value.specs.Cells.{Seen, whole, logical, double, text, bit, amount, is_nan}

-- ---- numbers of an integer class

-- NaN counts as 0
abbrev pub or_zero : Option ℤ → ℤ
or_zero (Some n) = n
or_zero None = pos 0

-- the number of class k that an amount becomes
abbrev pub converted : IntKind → Option ℤ → ℤ
converted k d = nearest (least k) (greatest k) (or_zero d)

-- an operator in class k: a NaN operand gives 0
abbrev pub in_class : IntKind → Arith → Option ℤ → Option ℤ → ℤ
in_class k op (Some a) (Some b) = operation op (least k) (greatest k) a b
in_class k op a b = pos 0

-- ---- doubles

-- the double that a logical or a double counts as
abbrev pub as_double : Seen → Option ℤ
as_double (logical b) = Some (bit b)
as_double (double d) = d
as_double c = None

abbrev pub double_cell : Result (Option ℤ) WholeFault → Result Seen CellFault
double_cell (Ok d) = Ok (double d)
double_cell (Err whole_fault.Inexact) = Err Inexact
double_cell (Err whole_fault.NotWhole) = Err NotWhole

-- no class table gives a double of `idivide`
abbrev pub of_doubles : Arith → Option ℤ → Option ℤ → Result (Option ℤ) WholeFault
of_doubles arith.Add a b = whole_add a b
of_doubles arith.Sub a b = whole_sub a b
of_doubles arith.Mul a b = whole_mul a b
of_doubles arith.Div a b = whole_div a b
of_doubles (arith.Idivide how) a b = whole_div a b
of_doubles arith.Modulo a b = Ok (whole_modulo a b)

-- ---- two operands

-- the integer class on either side, which is the class of the result
abbrev pub integer_side : Seen → Seen → Option IntKind
integer_side (whole k a) y = Some k
integer_side x (whole k b) = Some k
integer_side x y = None

abbrev pub arithmetic : Arith → Seen → Seen → Result Seen CellFault
arithmetic op x y = elim (integer_side x y) [ Some k ↦ Ok (whole k (in_class k op (amount x) (amount y))) | None ↦ double_cell (of_doubles op (as_double x) (as_double y)) ]

-- both sides are converted to the integer class, whose own numbers stay as they are
abbrev pub bits : (ℤ → ℤ → ℤ) → Seen → Seen → Result Seen CellFault
bits op x y = elim (integer_side x y) [ Some k ↦ Ok (whole k (op (converted k (amount x)) (converted k (amount y)))) | None ↦ Ok (double None) ]

-- by exact value; texts by their UTF-8 bytes; none with a NaN
abbrev pub compared : Option ℤ → Option ℤ → Option Ordering
compared (Some a) (Some b) = Some (int_cmp a b)
compared a b = None

abbrev pub comparison : Seen → Seen → Option Ordering
comparison (text a) (text b) = Some (slice_cmp nat_cmp a b)
comparison x y = compared (amount x) (amount y)

-- what a comparison answers; with a NaN only `~=` is true
abbrev pub equal : Option Ordering → Bool
equal (Some Equal) = true
equal o = false

abbrev pub below : Option Ordering → Bool
below (Some Less) = true
below o = false

abbrev pub above : Option Ordering → Bool
above (Some Greater) = true
above o = false

-- a nonzero number is true, a NaN is no logical
abbrev pub truth : Seen → Result Bool CellFault
truth (logical b) = Ok b
truth (whole k n) = Ok (not (unsigned_abs n == 0))
truth (double (Some n)) = Ok (not (unsigned_abs n == 0))
truth (double None) = Err NanLogical
truth (text t) = Err NanLogical

-- both operands are looked at, whatever the first one is
abbrev pub joined : (Bool → Bool → Bool) → Result Bool CellFault → Result Bool CellFault → Result Seen CellFault
joined op (Ok a) (Ok b) = Ok (logical (op a b))
joined op (Ok a) (Err e) = Err e
joined op (Err e) b = Err e

abbrev pub binary_cell : Binary → Seen → Seen → Result Seen CellFault
binary_cell Add x y = arithmetic arith.Add x y
binary_cell Sub x y = arithmetic arith.Sub x y
binary_cell Mul x y = arithmetic arith.Mul x y
binary_cell Div x y = arithmetic arith.Div x y
binary_cell Modulo x y = arithmetic arith.Modulo x y
binary_cell (Idivide how) x y = arithmetic (arith.Idivide how) x y
binary_cell BitAnd x y = bits twos_and x y
binary_cell BitOr x y = bits twos_or x y
binary_cell BitXor x y = bits twos_xor x y
binary_cell Eq x y = Ok (logical (equal (comparison x y)))
binary_cell Ne x y = Ok (logical (not (equal (comparison x y))))
binary_cell Lt x y = Ok (logical (below (comparison x y)))
binary_cell Le x y = Ok (logical (below (comparison x y) || equal (comparison x y)))
binary_cell Gt x y = Ok (logical (above (comparison x y)))
binary_cell Ge x y = Ok (logical (above (comparison x y) || equal (comparison x y)))
binary_cell StrCmp x y = Ok (logical (equal (comparison x y)))
binary_cell And x y = joined ◌&&◌ (truth x) (truth y)
binary_cell Or x y = joined ◌||◌ (truth x) (truth y)

-- ---- one operand

-- in the class of an integer, else a double
abbrev pub signed : (ℤ → ℤ) → (Option ℤ → Option ℤ) → Seen → Result Seen CellFault
signed f g (whole k n) = Ok (whole k (nearest (least k) (greatest k) (f n)))
signed f g x = Ok (double (g (as_double x)))

abbrev pub to_integer : IntKind → Seen → Result Seen CellFault
to_integer k x = Ok (whole k (converted k (amount x)))

abbrev pub to_double : Option ℤ → Result Seen CellFault
to_double (Some n) = double_cell (exact n)
to_double None = Ok (double None)

abbrev pub truth_cell : (Bool → Bool) → Result Bool CellFault → Result Seen CellFault
truth_cell f (Ok b) = Ok (logical (f b))
truth_cell f (Err e) = Err e

abbrev pub unary_cell : Unary → Seen → Result Seen CellFault
unary_cell Neg x = signed neg_ℤ whole_neg x
unary_cell Plus x = signed (λ n. n) (λ d. d) x
unary_cell Abs x = signed (λ n. pos (unsigned_abs n)) whole_abs x
unary_cell Not x = truth_cell not (truth x)
unary_cell ToInt8 x = to_integer Int8 x
unary_cell ToInt16 x = to_integer Int16 x
unary_cell ToInt32 x = to_integer Int32 x
unary_cell ToInt64 x = to_integer Int64 x
unary_cell ToUint8 x = to_integer Uint8 x
unary_cell ToUint16 x = to_integer Uint16 x
unary_cell ToUint32 x = to_integer Uint32 x
unary_cell ToUint64 x = to_integer Uint64 x
unary_cell ToDouble x = to_double (amount x)
unary_cell ToLogical x = truth_cell (λ b. b) (truth x)
unary_cell IsNan x = Ok (logical (is_nan x))
