-- What an operator gives of cells of any numbers is within its class.
use Rattle.std.specs.Prelude.{◌≡◌, refl, ℤ, ℕ, pos, negsuc, neg_ℤ, ◌≤ℤ◌, ◌+ℤ◌, ◌-ℤ◌, ◌*ℤ◌, ◌==◌, ◌&&◌, ◌||◌, not, unsigned_abs, Bool, true, false, if◌then◌else◌, Option, None, Some, Result, Ok, Err, List, [], ◌∷◌}
use Rattle.std.specs.Int.{is_negative, is_positive, int_max, int_min}
use Rattle.std.proofs.Common.{ap, sym, subst, ◌∙◌, arith}
use Rattle.std.proofs.lemmas.Int.{ints, clamps}
use mir.Val.{SFits}
use mir.Syntax.{w128}
use Rattle.tall_int.specs.Arithmetic.{operation, divided, over_zero, remainder}
use Rattle.tall_int.specs.Doubles.{exact, whole_neg, whole_abs}
use Rattle.tall_int.specs.Numbers.{nearest, IsTwosRange, signed, unsigned}
use Rattle.tall_int.specs.Quotients.{quotient}
use Rattle.tall_int.specs.Twos.{twos_and, twos_or, twos_xor}
use Rattle.tall_int.specs.declared.faults.WholeFault.{WholeFault}
use Rattle.tall_int.specs.declared.faults.WholeFault.TheVariants as whole_fault
use Rattle.tall_int.specs.declared.operators.Arith.{Arith}
use Rattle.tall_int.specs.declared.operators.Arith.TheVariants as arithmetic_operator
use Rattle.tall_int.specs.declared.quotients.Rounding.{Rounding}
use Rattle.tall_int.specs.declared.quotients.Rounding.TheVariants.{Round}
use Rattle.tall_int.proofs.Ranges.{IsIn}
use Rattle.tall_int.proofs.TwosLemmas.{and_clamped, or_clamped, xor_clamped}
use Rattle.tall_value.specs.declared.class.IntKind.{IntKind}
use Rattle.tall_value.specs.declared.class.IntKind.TheVariants.{Int8, Int16, Int32, Int64, Uint8, Uint16, Uint32, Uint64}
use Rattle.tall_value.specs.declared.faults.CellFault.{CellFault}
use Rattle.tall_value.specs.declared.operators.Binary.{Binary}
use Rattle.tall_value.specs.declared.operators.Binary.TheVariants as binary
use Rattle.tall_value.specs.declared.operators.Unary.{Unary}
use Rattle.tall_value.specs.declared.operators.Unary.TheVariants as unary
use Rattle.tall_value.specs.Cells.{Seen, whole, logical, double, text, amount}
use Rattle.tall_value.specs.CellOperators.{or_zero, converted, in_class, as_double, of_doubles, double_cell, arithmetic, bits, joined, truth, truth_cell, signed as signed_cell, to_integer, to_double, unary_cell, binary_cell}
use Rattle.tall_value.specs.Classes.{least, greatest}

-- a number of an integer class is from its least to its greatest number
abbrev pub InRange : Seen → Type 0
InRange (whole k n) = (least k ≤ℤ n) × (n ≤ℤ greatest k)
InRange (logical b) = Unit {0}
InRange (double d) = Unit {0}
InRange (text t) = Unit {0}

abbrev pub GivesInRange : Result Seen CellFault → Type 0
GivesInRange (Ok c) = InRange c
GivesInRange (Err e) = Unit {0}

abbrev Between : ℤ → ℤ → ℤ → Type 0
Between low high n = (low ≤ℤ n) × (n ≤ℤ high)

-- ---- ends

pub ends : (k : IntKind) → Between (least k) (greatest k) (pos 0)
ends Int8 = (omega (arith, ints), omega (arith, ints))
ends Int16 = (omega (arith, ints), omega (arith, ints))
ends Int32 = (omega (arith, ints), omega (arith, ints))
ends Int64 = (omega (arith, ints), omega (arith, ints))
ends Uint8 = (omega (arith, ints), omega (arith, ints))
ends Uint16 = (omega (arith, ints), omega (arith, ints))
ends Uint32 = (omega (arith, ints), omega (arith, ints))
ends Uint64 = (omega (arith, ints), omega (arith, ints))

between : (low high n : ℤ) → low ≤ℤ pos 0 → pos 0 ≤ℤ high → Between low high (nearest low high n)
between low high n p q = (omega (arith, ints, clamps, p, q), omega (arith, ints, clamps, p, q))

pub nearest_in_range : (k : IntKind) (n : ℤ) → InRange (whole k (nearest (least k) (greatest k) n))
nearest_in_range k n = between (least k) (greatest k) n (ends k).0 (ends k).1

least_in_range : (k : IntKind) → InRange (whole k (least k))
least_in_range k = (let e = ends k in (omega (arith, ints), omega (arith, ints, e.0, e.1)))

greatest_in_range : (k : IntKind) → InRange (whole k (greatest k))
greatest_in_range k = (let e = ends k in (omega (arith, ints, e.0, e.1), omega (arith, ints)))

pub ends_in_range : (k : IntKind) → InRange (whole k (least k)) × InRange (whole k (greatest k))
ends_in_range k = (least_in_range k, greatest_in_range k)

-- ---- operators of numbers

over_zero_in : (k : IntKind) (p : ℤ) → InRange (whole k (over_zero (least k) (greatest k) p))
over_zero_in k p = by_sign (is_negative p) (is_positive p) where
  by_sign : (m n : Bool) → InRange (whole k (if m then least k else (if n then greatest k else pos 0)))
  by_sign true n = least_in_range k
  by_sign false true = greatest_in_range k
  by_sign false false = ends k

divided_in : (k : IntKind) (how : Rounding) (p q : ℤ) → InRange (whole k (divided how (least k) (greatest k) p q))
divided_in k how p q = by_test (unsigned_abs q == 0) where
  by_test : (b : Bool) → InRange (whole k (if b then over_zero (least k) (greatest k) p else nearest (least k) (greatest k) (quotient how p q)))
  by_test true = over_zero_in k p
  by_test false = nearest_in_range k (quotient how p q)

operation_in : (k : IntKind) (op : Arith) (p q : ℤ) → InRange (whole k (operation op (least k) (greatest k) p q))
operation_in k arithmetic_operator.Add p q = nearest_in_range k (p +ℤ q)
operation_in k arithmetic_operator.Sub p q = nearest_in_range k (p -ℤ q)
operation_in k arithmetic_operator.Mul p q = nearest_in_range k (p *ℤ q)
operation_in k arithmetic_operator.Div p q = divided_in k Round p q
operation_in k (arithmetic_operator.Idivide how) p q = divided_in k how p q
operation_in k arithmetic_operator.Modulo p q = nearest_in_range k (remainder p q)

class_in : (k : IntKind) (op : Arith) (a b : Option ℤ) → InRange (whole k (in_class k op a b))
class_in k op None b = ends k
class_in k op (Some p) None = ends k
class_in k op (Some p) (Some q) = operation_in k op p q

-- ---- operators of bits

twos_range : (k : IntKind) → IsTwosRange (least k) (greatest k)
twos_range Int8 = signed 7
twos_range Int16 = signed 15
twos_range Int32 = signed 31
twos_range Int64 = signed 63
twos_range Uint8 = unsigned 8
twos_range Uint16 = unsigned 16
twos_range Uint32 = unsigned 32
twos_range Uint64 = unsigned 64

-- no class has numbers outside 2^64 in magnitude
within_wide : (k : IntKind) → (negsuc 18446744073709551615 ≤ℤ least k) × (greatest k ≤ℤ pos 18446744073709551615)
within_wide Int8 = (omega (arith, ints), omega (arith, ints))
within_wide Int16 = (omega (arith, ints), omega (arith, ints))
within_wide Int32 = (omega (arith, ints), omega (arith, ints))
within_wide Int64 = (omega (arith, ints), omega (arith, ints))
within_wide Uint8 = (omega (arith, ints), omega (arith, ints))
within_wide Uint16 = (omega (arith, ints), omega (arith, ints))
within_wide Uint32 = (omega (arith, ints), omega (arith, ints))
within_wide Uint64 = (omega (arith, ints), omega (arith, ints))

wide : (n : ℤ) → negsuc 18446744073709551615 ≤ℤ n → n ≤ℤ pos 18446744073709551615 → SFits w128 n
wide (pos n) a b = record { sfits = omega (arith, ints, b) }
wide (negsuc n) a b = record { sfits = omega (arith, ints, a) }

fits : (k : IntKind) (n : ℤ) → InRange (whole k n) → SFits w128 n
fits k n h = (let e = within_wide k in wide n (omega (arith, ints, h.0, e.0)) (omega (arith, ints, h.1, e.1)))

inside : (k : IntKind) (n : ℤ) → InRange (whole k n) → IsIn (least k) (greatest k) n
inside k n h = record { above = h.0; below = h.1 }

bits_in : (k : IntKind) (x y : Option ℤ) (op wide_op : ℤ → ℤ → ℤ)
    → ((a b : ℤ) → IsIn (least k) (greatest k) a → IsIn (least k) (greatest k) b → SFits w128 a → SFits w128 b → nearest (least k) (greatest k) (wide_op a b) ≡ op a b)
    → InRange (whole k (op (converted k x) (converted k y)))
bits_in k x y op wide_op clamped =
    let a = converted k x in
    let b = converted k y in
    let p : InRange (whole k a) = nearest_in_range k (or_zero x) in
    let q : InRange (whole k b) = nearest_in_range k (or_zero y) in
    subst (λ n. InRange (whole k n)) (clamped a b (inside k a p) (inside k b q) (fits k a p) (fits k b q)) (nearest_in_range k (wide_op a b))

-- ---- cells

double_in : (r : Result (Option ℤ) WholeFault) → GivesInRange (double_cell r)
double_in (Ok d) = tt
double_in (Err whole_fault.Inexact) = tt
double_in (Err whole_fault.NotWhole) = tt

arithmetic_in : (op : Arith) (x y : Seen) → GivesInRange (arithmetic op x y)
arithmetic_in op (whole k a) y = class_in k op (Some a) (amount y)
arithmetic_in op (logical a) (whole k b) = class_in k op (amount (logical a)) (Some b)
arithmetic_in op (logical a) (logical b) = double_in (of_doubles op (as_double (logical a)) (as_double (logical b)))
arithmetic_in op (logical a) (double b) = double_in (of_doubles op (as_double (logical a)) (as_double (double b)))
arithmetic_in op (logical a) (text b) = double_in (of_doubles op (as_double (logical a)) (as_double (text b)))
arithmetic_in op (double a) (whole k b) = class_in k op (amount (double a)) (Some b)
arithmetic_in op (double a) (logical b) = double_in (of_doubles op (as_double (double a)) (as_double (logical b)))
arithmetic_in op (double a) (double b) = double_in (of_doubles op (as_double (double a)) (as_double (double b)))
arithmetic_in op (double a) (text b) = double_in (of_doubles op (as_double (double a)) (as_double (text b)))
arithmetic_in op (text a) (whole k b) = class_in k op (amount (text a)) (Some b)
arithmetic_in op (text a) (logical b) = double_in (of_doubles op (as_double (text a)) (as_double (logical b)))
arithmetic_in op (text a) (double b) = double_in (of_doubles op (as_double (text a)) (as_double (double b)))
arithmetic_in op (text a) (text b) = double_in (of_doubles op (as_double (text a)) (as_double (text b)))

all_bits_in : (op : ℤ → ℤ → ℤ) (x y : Seen) → ((k : IntKind) (a b : Option ℤ) → InRange (whole k (op (converted k a) (converted k b)))) → GivesInRange (bits op x y)
all_bits_in op (whole k a) y h = h k (Some a) (amount y)
all_bits_in op (logical a) (whole k b) h = h k (amount (logical a)) (Some b)
all_bits_in op (logical a) (logical b) h = tt
all_bits_in op (logical a) (double b) h = tt
all_bits_in op (logical a) (text b) h = tt
all_bits_in op (double a) (whole k b) h = h k (amount (double a)) (Some b)
all_bits_in op (double a) (logical b) h = tt
all_bits_in op (double a) (double b) h = tt
all_bits_in op (double a) (text b) h = tt
all_bits_in op (text a) (whole k b) h = h k (amount (text a)) (Some b)
all_bits_in op (text a) (logical b) h = tt
all_bits_in op (text a) (double b) h = tt
all_bits_in op (text a) (text b) h = tt

joined_in : (op : Bool → Bool → Bool) (a b : Result Bool CellFault) → GivesInRange (joined op a b)
joined_in op (Ok a) (Ok b) = tt
joined_in op (Ok a) (Err e) = tt
joined_in op (Err e) b = tt

pub binary_in_range : (op : Binary) (x y : Seen) → GivesInRange (binary_cell op x y)
binary_in_range binary.Add x y = arithmetic_in arithmetic_operator.Add x y
binary_in_range binary.Sub x y = arithmetic_in arithmetic_operator.Sub x y
binary_in_range binary.Mul x y = arithmetic_in arithmetic_operator.Mul x y
binary_in_range binary.Div x y = arithmetic_in arithmetic_operator.Div x y
binary_in_range binary.Modulo x y = arithmetic_in arithmetic_operator.Modulo x y
binary_in_range (binary.Idivide how) x y = arithmetic_in (arithmetic_operator.Idivide how) x y
binary_in_range binary.BitAnd x y = all_bits_in twos_and x y (λ k a b. bits_in k a b twos_and _ (λ m n. and_clamped (least k) (greatest k) m n (twos_range k)))
binary_in_range binary.BitOr x y = all_bits_in twos_or x y (λ k a b. bits_in k a b twos_or _ (λ m n. or_clamped (least k) (greatest k) m n (twos_range k)))
binary_in_range binary.BitXor x y = all_bits_in twos_xor x y (λ k a b. bits_in k a b twos_xor _ (λ m n. xor_clamped (least k) (greatest k) m n (twos_range k)))
binary_in_range binary.Eq x y = tt
binary_in_range binary.Ne x y = tt
binary_in_range binary.Lt x y = tt
binary_in_range binary.Le x y = tt
binary_in_range binary.Gt x y = tt
binary_in_range binary.Ge x y = tt
binary_in_range binary.StrCmp x y = tt
binary_in_range binary.And x y = joined_in ◌&&◌ (truth x) (truth y)
binary_in_range binary.Or x y = joined_in ◌||◌ (truth x) (truth y)

signed_in : (f : ℤ → ℤ) (g : Option ℤ → Option ℤ) (x : Seen) → GivesInRange (signed_cell f g x)
signed_in f g (whole k n) = nearest_in_range k (f n)
signed_in f g (logical b) = tt
signed_in f g (double d) = tt
signed_in f g (text t) = tt

truth_in : (f : Bool → Bool) (r : Result Bool CellFault) → GivesInRange (truth_cell f r)
truth_in f (Ok b) = tt
truth_in f (Err e) = tt

pub to_double_in : (d : Option ℤ) → GivesInRange (to_double d)
to_double_in None = tt
to_double_in (Some n) = double_in (exact n)

pub unary_in_range : (op : Unary) (x : Seen) → GivesInRange (unary_cell op x)
unary_in_range unary.Neg x = signed_in neg_ℤ whole_neg x
unary_in_range unary.Plus x = signed_in (λ n. n) (λ d. d) x
unary_in_range unary.Abs x = signed_in (λ n. pos (unsigned_abs n)) whole_abs x
unary_in_range unary.Not x = truth_in not (truth x)
unary_in_range unary.ToInt8 x = nearest_in_range Int8 (or_zero (amount x))
unary_in_range unary.ToInt16 x = nearest_in_range Int16 (or_zero (amount x))
unary_in_range unary.ToInt32 x = nearest_in_range Int32 (or_zero (amount x))
unary_in_range unary.ToInt64 x = nearest_in_range Int64 (or_zero (amount x))
unary_in_range unary.ToUint8 x = nearest_in_range Uint8 (or_zero (amount x))
unary_in_range unary.ToUint16 x = nearest_in_range Uint16 (or_zero (amount x))
unary_in_range unary.ToUint32 x = nearest_in_range Uint32 (or_zero (amount x))
unary_in_range unary.ToUint64 x = nearest_in_range Uint64 (or_zero (amount x))
unary_in_range unary.ToDouble x = to_double_in (amount x)
unary_in_range unary.ToLogical x = truth_in (λ b. b) (truth x)
unary_in_range unary.IsNan x = tt
