-- The class of an operator's result is that of the class tables.
use Rattle.std.specs.Prelude.{ℤ, pos, neg_ℤ, unsigned_abs, Bool, true, false, if◌then◌else◌, ◌&&◌, ◌||◌, Option, None, Some, Result, Ok, Err}
use Rattle.std.proofs.Common.{◌≡◌, refl, sym, ◌∙◌, ap}
use Rattle.tall_int.specs.Doubles.{exact, whole_neg, whole_abs}
use Rattle.tall_int.specs.Twos.{twos_and, twos_or, twos_xor}
use Rattle.tall_int.specs.declared.faults.WholeFault.{WholeFault}
use Rattle.tall_int.specs.declared.faults.WholeFault.TheVariants as whole_fault
use Rattle.tall_int.specs.declared.operators.Arith.{Arith}
use Rattle.tall_int.specs.declared.operators.Arith.TheVariants as arith
use Rattle.tall_value.specs.declared.class.Class.{Class}
use Rattle.tall_value.specs.declared.class.IntKind.{IntKind}
use Rattle.tall_value.specs.declared.class.IntKind.TheVariants.{Int8, Int16, Int32, Int64, Uint8, Uint16, Uint32, Uint64}
use Rattle.tall_value.specs.declared.class.Kind.{Kind}
use Rattle.tall_value.specs.declared.class.Kind.TheVariants.{Integer, Logical, Double, Text}
use Rattle.tall_value.specs.declared.faults.CellFault.{CellFault}
use Rattle.tall_value.specs.declared.faults.ClassFault.{ClassFault}
use Rattle.tall_value.specs.declared.faults.ClassFault.TheVariants.{MixedClass}
use Rattle.tall_value.specs.declared.operators.Binary.{Binary}
use Rattle.tall_value.specs.declared.operators.Binary.TheVariants.{Add, Sub, Mul, Div, Modulo, Idivide, BitAnd, BitOr, BitXor, Eq, Ne, Lt, Le, Gt, Ge, StrCmp, And, Or}
use Rattle.tall_value.specs.declared.operators.Unary.{Unary}
use Rattle.tall_value.specs.declared.operators.Unary.TheVariants.{Neg, Plus, Abs, Not, ToInt8, ToInt16, ToInt32, ToInt64, ToUint8, ToUint16, ToUint32, ToUint64, ToDouble, ToLogical, IsNan}
use Rattle.tall_value.specs.Classes.{class_of, kind_of, is_same}
use Rattle.tall_value.specs.Cells.{Seen, whole, logical, double, text, amount, seen_kind}
use Rattle.tall_value.specs.ClassTables.{sign_kind, of_number, unary_kind, unary_class, class_result, beside_integer, with_integer, arithmetic_kind, bits_beside, bits_kind, texts_kind, both_numbers, comparison_kind, binary_kind, binary_class}
use Rattle.tall_value.specs.CellOperators.{double_cell, signed, truth, truth_cell, to_double, unary_cell, as_double, of_doubles, arithmetic, bits, joined, binary_cell}
use Rattle.tall_value.specs.Elementwise.{beside}
use Rattle.tall_value.proofs.KindLaws.{kind_again}
use Rattle.tall_dense.specs.Columns.{class_of_cell}
use Rattle.tall_column.specs.Mapped.{scalar_class}

of_double : (r : Result _ WholeFault) (d : Seen) → double_cell r ≡ Ok d → seen_kind d ≡ Double
of_double (Ok n) d h = cc
of_double (Err whole_fault.Inexact) d h = absurd cc
of_double (Err whole_fault.NotWhole) d h = absurd cc

made_double : (n : Option ℤ) (d : Seen) → to_double n ≡ Ok d → seen_kind d ≡ Double
made_double (Some n) d h = of_double (exact n) d h
made_double None d h = cc

of_truth : (f : Bool → Bool) (r : Result Bool CellFault) (d : Seen) → truth_cell f r ≡ Ok d → seen_kind d ≡ Logical
of_truth f (Ok b) d h = cc
of_truth f (Err e) d h = absurd cc

made_of : (a k m : Kind) → of_number a m ≡ Ok k → k ≡ m
made_of (Integer c) k m h = cc
made_of Logical k m h = cc
made_of Double k m h = cc
made_of Text k m h = absurd cc

sign_of : (f : _) (g : _) (c d : Seen) (k : Kind) → sign_kind (seen_kind c) ≡ Ok k → signed f g c ≡ Ok d → k ≡ seen_kind d
sign_of f g (whole j n) d k h e = cc
sign_of f g (logical b) d k h e = cc
sign_of f g (double n) d k h e = cc
sign_of f g (text t) d k h e = absurd cc

kind_of_one : (op : Unary) (c d : Seen) (k : Kind) → unary_kind op (seen_kind c) ≡ Ok k → unary_cell op c ≡ Ok d → k ≡ seen_kind d
kind_of_one Neg c d k h e = sign_of neg_ℤ whole_neg c d k h e
kind_of_one Plus c d k h e = sign_of (λ n. n) (λ n. n) c d k h e
kind_of_one Abs c d k h e = sign_of (λ n. pos (unsigned_abs n)) whole_abs c d k h e
kind_of_one Not c d k h e = made_of (seen_kind c) k _ h ∙ sym (of_truth _ (truth c) d e)
kind_of_one ToInt8 c d k h e = made_of (seen_kind c) k _ h ∙ cc
kind_of_one ToInt16 c d k h e = made_of (seen_kind c) k _ h ∙ cc
kind_of_one ToInt32 c d k h e = made_of (seen_kind c) k _ h ∙ cc
kind_of_one ToInt64 c d k h e = made_of (seen_kind c) k _ h ∙ cc
kind_of_one ToUint8 c d k h e = made_of (seen_kind c) k _ h ∙ cc
kind_of_one ToUint16 c d k h e = made_of (seen_kind c) k _ h ∙ cc
kind_of_one ToUint32 c d k h e = made_of (seen_kind c) k _ h ∙ cc
kind_of_one ToUint64 c d k h e = made_of (seen_kind c) k _ h ∙ cc
kind_of_one ToDouble c d k h e = made_of (seen_kind c) k _ h ∙ sym (made_double (amount c) d e)
kind_of_one ToLogical c d k h e = made_of (seen_kind c) k _ h ∙ sym (of_truth _ (truth c) d e)
kind_of_one IsNan c d k h e = made_of (seen_kind c) k _ h ∙ cc

classed : (r : Result Kind ClassFault) (class : Class) → class_result r ≡ Ok class → (k : Kind) × (r ≡ Ok k) × (class ≡ class_of k)
classed (Ok k) class h = (k, refl, cc)
classed (Err e) class h = absurd cc

-- ---- two operands

same_of : (b : Bool) (c : IntKind) (k : Kind) → (if b then Ok (Integer c) else Err MixedClass) ≡ Ok k → k ≡ Integer c
same_of true c k h = cc
same_of false c k h = absurd cc

beside_of : (c : IntKind) (b : Kind) (s : Bool) (k : Kind) → beside_integer c b s ≡ Ok k → k ≡ Integer c
beside_of c (Integer j) s k h = same_of (is_same c j) c k h
beside_of c Logical s k h = cc
beside_of c Double s k h = same_of s c k h
beside_of c Text s k h = absurd cc

bits_of : (c : IntKind) (b : Kind) (s : Bool) (k : Kind) → bits_beside c b s ≡ Ok k → k ≡ Integer c
bits_of c (Integer j) s k h = same_of (is_same c j) c k h
bits_of c Logical s k h = absurd cc
bits_of c Double s k h = same_of s c k h
bits_of c Text s k h = absurd cc

integer_of : (op : Arith) (x y d : Seen) (s t : Bool) (k : Kind) → with_integer (seen_kind x) s (seen_kind y) t ≡ Ok k → arithmetic op x y ≡ Ok d → k ≡ seen_kind d
integer_of op (whole c n) y d s t k h e = beside_of c (seen_kind y) t k h ∙ cc
integer_of op (logical b) (whole c n) d s t k h e = beside_of c Logical s k h ∙ cc
integer_of op (double m) (whole c n) d s t k h e = beside_of c Double s k h ∙ cc
integer_of op (text u) (whole c n) d s t k h e = absurd cc
integer_of op (logical b) (logical y) d s t k h e = absurd cc
integer_of op (logical b) (double y) d s t k h e = absurd cc
integer_of op (logical b) (text y) d s t k h e = absurd cc
integer_of op (double b) (logical y) d s t k h e = absurd cc
integer_of op (double b) (double y) d s t k h e = absurd cc
integer_of op (double b) (text y) d s t k h e = absurd cc
integer_of op (text b) (logical y) d s t k h e = absurd cc
integer_of op (text b) (double y) d s t k h e = absurd cc
integer_of op (text b) (text y) d s t k h e = absurd cc

doubles_of : (op : Arith) (x y d : Seen) (k : Kind) → ◌≡◌ {A = Result Kind ClassFault} (Ok Double) (Ok k) → double_cell (of_doubles op (as_double x) (as_double y)) ≡ Ok d → k ≡ seen_kind d
doubles_of op x y d k h e = let k_is : k ≡ Double = cc in k_is ∙ sym (of_double (of_doubles op (as_double x) (as_double y)) d e)

arithmetic_of : (op : Arith) (x y d : Seen) (s t : Bool) (k : Kind) → arithmetic_kind (seen_kind x) s (seen_kind y) t ≡ Ok k → arithmetic op x y ≡ Ok d → k ≡ seen_kind d
arithmetic_of op (logical x) (logical y) d s t k h e = doubles_of op (logical x) (logical y) d k h e
arithmetic_of op (logical x) (double y) d s t k h e = doubles_of op (logical x) (double y) d k h e
arithmetic_of op (double x) (logical y) d s t k h e = doubles_of op (double x) (logical y) d k h e
arithmetic_of op (double x) (double y) d s t k h e = doubles_of op (double x) (double y) d k h e
arithmetic_of op (whole c x) y d s t k h e = integer_of op (whole c x) y d s t k h e
arithmetic_of op (text x) y d s t k h e = integer_of op (text x) y d s t k h e
arithmetic_of op (logical x) (whole c y) d s t k h e = integer_of op (logical x) (whole c y) d s t k h e
arithmetic_of op (double x) (whole c y) d s t k h e = integer_of op (double x) (whole c y) d s t k h e
arithmetic_of op (logical x) (text y) d s t k h e = integer_of op (logical x) (text y) d s t k h e
arithmetic_of op (double x) (text y) d s t k h e = integer_of op (double x) (text y) d s t k h e

bit_of_two : (op : ℤ → ℤ → ℤ) (x y d : Seen) (s t : Bool) (k : Kind) → bits_kind (seen_kind x) s (seen_kind y) t ≡ Ok k → bits op x y ≡ Ok d → k ≡ seen_kind d
bit_of_two op (whole c n) y d s t k h e = bits_of c (seen_kind y) t k h ∙ cc
bit_of_two op (logical b) (whole c n) d s t k h e = absurd cc
bit_of_two op (double m) (whole c n) d s t k h e = bits_of c Double s k h ∙ cc
bit_of_two op (text u) (whole c n) d s t k h e = absurd cc
bit_of_two op (logical b) (logical y) d s t k h e = absurd cc
bit_of_two op (logical b) (double y) d s t k h e = absurd cc
bit_of_two op (logical b) (text y) d s t k h e = absurd cc
bit_of_two op (double b) (logical y) d s t k h e = absurd cc
bit_of_two op (double b) (double y) d s t k h e = absurd cc
bit_of_two op (double b) (text y) d s t k h e = absurd cc
bit_of_two op (text b) (logical y) d s t k h e = absurd cc
bit_of_two op (text b) (double y) d s t k h e = absurd cc
bit_of_two op (text b) (text y) d s t k h e = absurd cc

texts_of : (a b k : Kind) → texts_kind a b ≡ Ok k → k ≡ Logical
texts_of Text Text k h = cc
texts_of Text (Integer c) k h = absurd cc
texts_of Text Logical k h = absurd cc
texts_of Text Double k h = absurd cc
texts_of (Integer c) b k h = absurd cc
texts_of Logical b k h = absurd cc
texts_of Double b k h = absurd cc

comparison_of : (a b k : Kind) → comparison_kind a b ≡ Ok k → k ≡ Logical
comparison_of (Integer c) b k h = made_of b k Logical h
comparison_of Logical b k h = made_of b k Logical h
comparison_of Double b k h = made_of b k Logical h
comparison_of Text b k h = texts_of Text b k h

both_of : (a b k : Kind) → both_numbers a b ≡ Ok k → k ≡ Logical
both_of (Integer c) b k h = made_of b k Logical h
both_of Logical b k h = made_of b k Logical h
both_of Double b k h = made_of b k Logical h
both_of Text b k h = absurd cc

joined_of : (op : Bool → Bool → Bool) (p q : Result Bool CellFault) (d : Seen) → joined op p q ≡ Ok d → seen_kind d ≡ Logical
joined_of op (Ok a) (Ok b) d h = cc
joined_of op (Ok a) (Err e) d h = absurd cc
joined_of op (Err e) q d h = absurd cc

kind_of_two : (op : Binary) (x y d : Seen) (s t : Bool) (k : Kind) → binary_kind op (seen_kind x) s (seen_kind y) t ≡ Ok k → binary_cell op x y ≡ Ok d → k ≡ seen_kind d
kind_of_two Add x y d s t k h e = arithmetic_of arith.Add x y d s t k h e
kind_of_two Sub x y d s t k h e = arithmetic_of arith.Sub x y d s t k h e
kind_of_two Mul x y d s t k h e = arithmetic_of arith.Mul x y d s t k h e
kind_of_two Div x y d s t k h e = arithmetic_of arith.Div x y d s t k h e
kind_of_two Modulo x y d s t k h e = arithmetic_of arith.Modulo x y d s t k h e
kind_of_two (Idivide how) x y d s t k h e = integer_of (arith.Idivide how) x y d s t k h e
kind_of_two BitAnd x y d s t k h e = bit_of_two twos_and x y d s t k h e
kind_of_two BitOr x y d s t k h e = bit_of_two twos_or x y d s t k h e
kind_of_two BitXor x y d s t k h e = bit_of_two twos_xor x y d s t k h e
kind_of_two Eq x y d s t k h e = comparison_of (seen_kind x) (seen_kind y) k h ∙ cc
kind_of_two Ne x y d s t k h e = comparison_of (seen_kind x) (seen_kind y) k h ∙ cc
kind_of_two Lt x y d s t k h e = comparison_of (seen_kind x) (seen_kind y) k h ∙ cc
kind_of_two Le x y d s t k h e = comparison_of (seen_kind x) (seen_kind y) k h ∙ cc
kind_of_two Gt x y d s t k h e = comparison_of (seen_kind x) (seen_kind y) k h ∙ cc
kind_of_two Ge x y d s t k h e = comparison_of (seen_kind x) (seen_kind y) k h ∙ cc
kind_of_two StrCmp x y d s t k h e = texts_of (seen_kind x) (seen_kind y) k h ∙ cc
kind_of_two And x y d s t k h e = both_of (seen_kind x) (seen_kind y) k h ∙ sym (joined_of ◌&&◌ (truth x) (truth y) d e)
kind_of_two Or x y d s t k h e = both_of (seen_kind x) (seen_kind y) k h ∙ sym (joined_of ◌||◌ (truth x) (truth y) d e)

-- ---- classes

-- the cell of one operand has the class of the table
pub class_of_one : (op : Unary) (a class : Class) (c d : Seen) → unary_class op a ≡ Ok class → class_of_cell c ≡ a → unary_cell op c ≡ Ok d
    → class_of_cell d ≡ class
class_of_one op a class c d h is e =
    let k = classed (unary_kind op (kind_of a)) class h in
    let same : kind_of a ≡ seen_kind c = ap kind_of (sym is) ∙ kind_again (seen_kind c) in
    sym (k.2 ∙ ap class_of (kind_of_one op c d k.0 (ap (λ j. unary_kind op j) (sym same) ∙ k.1) e))

-- the cell of two operands has the class of the table, whichever of them is a scalar
pub class_of_two : (op : Binary) (a b class : Class) (s t : Bool) (x y d : Seen) → binary_class op a s b t ≡ Ok class → class_of_cell x ≡ a → class_of_cell y ≡ b
    → binary_cell op x y ≡ Ok d → class_of_cell d ≡ class
class_of_two op a b class s t x y d h is also e =
    let k = classed (binary_kind op (kind_of a) s (kind_of b) t) class h in
    let first : kind_of a ≡ seen_kind x = ap kind_of (sym is) ∙ kind_again (seen_kind x) in
    let second : kind_of b ≡ seen_kind y = ap kind_of (sym also) ∙ kind_again (seen_kind y) in
    sym (k.2 ∙ ap class_of (kind_of_two op x y d s t k.0
    (ap (λ j. binary_kind op (seen_kind x) s j t) (sym second) ∙ ap (λ j. binary_kind op j s (kind_of b) t) (sym first) ∙ k.1) e))

pub class_beside : (op : Binary) (left : Bool) (a b class : Class) (x c d : Seen) → scalar_class op left b a ≡ Ok class → class_of_cell c ≡ a → class_of_cell x ≡ b
    → beside op left x c ≡ Ok d → class_of_cell d ≡ class
class_beside op true a b class x c d h is also e = class_of_two op b a class true false x c d h also is e
class_beside op false a b class x c d h is also e = class_of_two op a b class false true c x d h is also e
