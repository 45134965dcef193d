-- What an operator gives of cells has the kind, and so the class, that the class tables say.
use Rattle.std.specs.Prelude.{◌≡◌, ℤ, pos, neg_ℤ, unsigned_abs, Bool, true, false, if◌then◌else◌, Option, None, Some, Result, Ok, Err, refl}
use Rattle.std.proofs.Common.{ap, sym, ◌∙◌}
use Rattle.tall_int.specs.Doubles.{exact, whole_neg, whole_abs}
use Rattle.tall_int.specs.declared.faults.WholeFault.{WholeFault}
use Rattle.tall_int.specs.declared.faults.WholeFault.TheVariants as whole_fault
use Rattle.tall_int.specs.declared.operators.Arith.{Arith}
use Rattle.tall_int.specs.declared.operators.Arith.TheVariants as arith
use Rattle.tall_int.specs.Twos.{twos_and, twos_or, twos_xor}
use Rattle.tall_value.specs.declared.class.Class.{Class}
use Rattle.tall_value.specs.declared.class.IntKind.{IntKind}
use Rattle.tall_value.specs.declared.class.IntKind.TheVariants.{Int8, Int16, Int32, Int64, Uint8, Uint16, Uint32, Uint64}
use Rattle.tall_value.specs.declared.class.Kind.{Kind}
use Rattle.tall_value.specs.declared.class.Kind.TheVariants.{Integer, Logical, Double, Text}
use Rattle.tall_value.specs.declared.faults.CellFault.{CellFault}
use Rattle.tall_value.specs.declared.faults.ClassFault.{ClassFault}
use Rattle.tall_value.specs.declared.faults.ClassFault.TheVariants.{MixedClass}
use Rattle.tall_value.specs.declared.operators.Binary.{Binary}
use Rattle.tall_value.specs.declared.operators.Binary.TheVariants.{Add, Sub, Mul, Div, Modulo, Idivide, BitAnd, BitOr, BitXor, Eq, Ne, Lt, Le, Gt, Ge, StrCmp, And, Or}
use Rattle.tall_value.specs.declared.operators.Unary.{Unary}
use Rattle.tall_value.specs.declared.operators.Unary.TheVariants.{Neg, Plus, Abs, Not, ToInt8, ToInt16, ToInt32, ToInt64, ToUint8, ToUint16, ToUint32, ToUint64, ToDouble, ToLogical, IsNan}
use Rattle.tall_value.specs.Classes.{class_of, kind_of, is_same}
use Rattle.tall_value.specs.Cells.{Seen, whole, logical, double, text, seen_kind, amount}
use Rattle.tall_value.specs.CellOperators.{double_cell, arithmetic, bits, joined, truth, truth_cell, signed, to_double, unary_cell, binary_cell}
use Rattle.tall_value.specs.ClassTables.{beside_integer, with_integer, arithmetic_kind, bits_beside, bits_kind, texts_kind, of_number, both_numbers, comparison_kind, sign_kind, unary_kind, binary_kind, class_result, unary_class, binary_class}

-- ---- what was accepted

pub same_ok : {A E : Type 0} (a b : A) → ◌≡◌ {A = Result A E} (Ok a) (Ok b) → a ≡ b
same_ok a b h = cc

kind_of_ok : (d c : Seen) → ◌≡◌ {A = Result Seen CellFault} (Ok d) (Ok c) → seen_kind c ≡ seen_kind d
kind_of_ok d c e = sym (ap seen_kind (same_ok d c e))

if_ok : (b : Bool) (j k : Kind) → ◌≡◌ {A = Result Kind ClassFault} (if b then Ok j else Err MixedClass) (Ok k) → j ≡ k
if_ok true j k h = same_ok j k h
if_ok false j k h = absurd cc

-- ---- integer classes

beside_ok : (j : IntKind) (b : Kind) (s : Bool) (k : Kind) → beside_integer j b s ≡ Ok k → Integer j ≡ k
beside_ok j (Integer i) s k h = if_ok (is_same j i) (Integer j) k h
beside_ok j Logical s k h = same_ok (Integer j) k h
beside_ok j Double s k h = if_ok s (Integer j) k h
beside_ok j Text s k h = absurd cc

bits_ok : (j : IntKind) (b : Kind) (s : Bool) (k : Kind) → bits_beside j b s ≡ Ok k → Integer j ≡ k
bits_ok j (Integer i) s k h = if_ok (is_same j i) (Integer j) k h
bits_ok j Logical s k h = absurd cc
bits_ok j Double s k h = if_ok s (Integer j) k h
bits_ok j Text s k h = absurd cc

whole_kind : (j : IntKind) (n : ℤ) (c : Seen) (k : Kind) → ◌≡◌ {A = Result Seen CellFault} (Ok (whole j n)) (Ok c) → Integer j ≡ k → seen_kind c ≡ k
whole_kind j n c k e h = kind_of_ok (whole j n) c e ∙ h

pub double_kind : (r : Result (Option ℤ) WholeFault) (c : Seen) → double_cell r ≡ Ok c → seen_kind c ≡ Double
double_kind (Ok d) c e = kind_of_ok (double d) c e
double_kind (Err whole_fault.Inexact) c e = absurd cc
double_kind (Err whole_fault.NotWhole) c e = absurd cc

with_integer_law : (op : Arith) (x y c : Seen) (s t : Bool) (k : Kind) → with_integer (seen_kind x) s (seen_kind y) t ≡ Ok k → arithmetic op x y ≡ Ok c → seen_kind c ≡ k
with_integer_law op (whole j a) y c s t k h e = whole_kind j _ c k e (beside_ok j (seen_kind y) t k h)
with_integer_law op (logical a) (whole j b) c s t k h e = whole_kind j _ c k e (beside_ok j Logical s k h)
with_integer_law op (logical a) (logical b) c s t k h e = absurd cc
with_integer_law op (logical a) (double b) c s t k h e = absurd cc
with_integer_law op (logical a) (text b) c s t k h e = absurd cc
with_integer_law op (double a) (whole j b) c s t k h e = whole_kind j _ c k e (beside_ok j Double s k h)
with_integer_law op (double a) (logical b) c s t k h e = absurd cc
with_integer_law op (double a) (double b) c s t k h e = absurd cc
with_integer_law op (double a) (text b) c s t k h e = absurd cc
with_integer_law op (text a) (whole j b) c s t k h e = absurd cc
with_integer_law op (text a) (logical b) c s t k h e = absurd cc
with_integer_law op (text a) (double b) c s t k h e = absurd cc
with_integer_law op (text a) (text b) c s t k h e = absurd cc

arithmetic_law : (op : Arith) (x y c : Seen) (s t : Bool) (k : Kind) → arithmetic_kind (seen_kind x) s (seen_kind y) t ≡ Ok k → arithmetic op x y ≡ Ok c → seen_kind c ≡ k
arithmetic_law op (whole j a) y c s t k h e = with_integer_law op (whole j a) y c s t k h e
arithmetic_law op (logical a) (whole j b) c s t k h e = with_integer_law op (logical a) (whole j b) c s t k h e
arithmetic_law op (logical a) (logical b) c s t k h e = double_kind _ c e ∙ same_ok Double k h
arithmetic_law op (logical a) (double b) c s t k h e = double_kind _ c e ∙ same_ok Double k h
arithmetic_law op (logical a) (text b) c s t k h e = absurd cc
arithmetic_law op (double a) (whole j b) c s t k h e = with_integer_law op (double a) (whole j b) c s t k h e
arithmetic_law op (double a) (logical b) c s t k h e = double_kind _ c e ∙ same_ok Double k h
arithmetic_law op (double a) (double b) c s t k h e = double_kind _ c e ∙ same_ok Double k h
arithmetic_law op (double a) (text b) c s t k h e = absurd cc
arithmetic_law op (text a) y c s t k h e = with_integer_law op (text a) y c s t k h e

bits_law : (op : ℤ → ℤ → ℤ) (x y c : Seen) (s t : Bool) (k : Kind) → bits_kind (seen_kind x) s (seen_kind y) t ≡ Ok k → bits op x y ≡ Ok c → seen_kind c ≡ k
bits_law op (whole j a) y c s t k h e = whole_kind j _ c k e (bits_ok j (seen_kind y) t k h)
bits_law op (logical a) (whole j b) c s t k h e = absurd cc
bits_law op (logical a) (logical b) c s t k h e = absurd cc
bits_law op (logical a) (double b) c s t k h e = absurd cc
bits_law op (logical a) (text b) c s t k h e = absurd cc
bits_law op (double a) (whole j b) c s t k h e = whole_kind j _ c k e (bits_ok j Double s k h)
bits_law op (double a) (logical b) c s t k h e = absurd cc
bits_law op (double a) (double b) c s t k h e = absurd cc
bits_law op (double a) (text b) c s t k h e = absurd cc
bits_law op (text a) (whole j b) c s t k h e = absurd cc
bits_law op (text a) (logical b) c s t k h e = absurd cc
bits_law op (text a) (double b) c s t k h e = absurd cc
bits_law op (text a) (text b) c s t k h e = absurd cc

-- ---- logicals

pub number_ok : (a j k : Kind) → of_number a j ≡ Ok k → j ≡ k
number_ok (Integer i) j k h = same_ok j k h
number_ok Logical j k h = same_ok j k h
number_ok Double j k h = same_ok j k h
number_ok Text j k h = absurd cc

texts_ok : (a b k : Kind) → texts_kind a b ≡ Ok k → Logical ≡ k
texts_ok (Integer i) b k h = absurd cc
texts_ok Logical b k h = absurd cc
texts_ok Double b k h = absurd cc
texts_ok Text (Integer i) k h = absurd cc
texts_ok Text Logical k h = absurd cc
texts_ok Text Double k h = absurd cc
texts_ok Text Text k h = same_ok Logical k h

comparison_ok : (a b k : Kind) → comparison_kind a b ≡ Ok k → Logical ≡ k
comparison_ok (Integer i) b k h = number_ok b Logical k h
comparison_ok Logical b k h = number_ok b Logical k h
comparison_ok Double b k h = number_ok b Logical k h
comparison_ok Text b k h = texts_ok Text b k h

both_ok : (a b k : Kind) → both_numbers a b ≡ Ok k → Logical ≡ k
both_ok (Integer i) b k h = number_ok b Logical k h
both_ok Logical b k h = number_ok b Logical k h
both_ok Double b k h = number_ok b Logical k h
both_ok Text b k h = absurd cc

logical_kind : (b : Bool) (c : Seen) (k : Kind) → ◌≡◌ {A = Result Seen CellFault} (Ok (logical b)) (Ok c) → Logical ≡ k → seen_kind c ≡ k
logical_kind b c k e h = kind_of_ok (logical b) c e ∙ h

joined_kind : (op : Bool → Bool → Bool) (p q : Result Bool CellFault) (c : Seen) (k : Kind) → joined op p q ≡ Ok c → Logical ≡ k → seen_kind c ≡ k
joined_kind op (Ok a) (Ok b) c k e h = logical_kind (op a b) c k e h
joined_kind op (Ok a) (Err f) c k e h = absurd cc
joined_kind op (Err f) q c k e h = absurd cc

truth_kind : (f : Bool → Bool) (p : Result Bool CellFault) (c : Seen) (k : Kind) → truth_cell f p ≡ Ok c → Logical ≡ k → seen_kind c ≡ k
truth_kind f (Ok b) c k e h = logical_kind (f b) c k e h
truth_kind f (Err g) c k e h = absurd cc

-- ---- all operators

pub binary_law : (op : Binary) (x y c : Seen) (s t : Bool) (k : Kind) → binary_kind op (seen_kind x) s (seen_kind y) t ≡ Ok k → binary_cell op x y ≡ Ok c → seen_kind c ≡ k
binary_law Add x y c s t k h e = arithmetic_law arith.Add x y c s t k h e
binary_law Sub x y c s t k h e = arithmetic_law arith.Sub x y c s t k h e
binary_law Mul x y c s t k h e = arithmetic_law arith.Mul x y c s t k h e
binary_law Div x y c s t k h e = arithmetic_law arith.Div x y c s t k h e
binary_law Modulo x y c s t k h e = arithmetic_law arith.Modulo x y c s t k h e
binary_law (Idivide how) x y c s t k h e = with_integer_law (arith.Idivide how) x y c s t k h e
binary_law BitAnd x y c s t k h e = bits_law twos_and x y c s t k h e
binary_law BitOr x y c s t k h e = bits_law twos_or x y c s t k h e
binary_law BitXor x y c s t k h e = bits_law twos_xor x y c s t k h e
binary_law Eq x y c s t k h e = logical_kind _ c k e (comparison_ok (seen_kind x) (seen_kind y) k h)
binary_law Ne x y c s t k h e = logical_kind _ c k e (comparison_ok (seen_kind x) (seen_kind y) k h)
binary_law Lt x y c s t k h e = logical_kind _ c k e (comparison_ok (seen_kind x) (seen_kind y) k h)
binary_law Le x y c s t k h e = logical_kind _ c k e (comparison_ok (seen_kind x) (seen_kind y) k h)
binary_law Gt x y c s t k h e = logical_kind _ c k e (comparison_ok (seen_kind x) (seen_kind y) k h)
binary_law Ge x y c s t k h e = logical_kind _ c k e (comparison_ok (seen_kind x) (seen_kind y) k h)
binary_law StrCmp x y c s t k h e = logical_kind _ c k e (texts_ok (seen_kind x) (seen_kind y) k h)
binary_law And x y c s t k h e = joined_kind _ (truth x) (truth y) c k e (both_ok (seen_kind x) (seen_kind y) k h)
binary_law Or x y c s t k h e = joined_kind _ (truth x) (truth y) c k e (both_ok (seen_kind x) (seen_kind y) k h)

signed_law : (f : ℤ → ℤ) (g : Option ℤ → Option ℤ) (x c : Seen) (k : Kind) → sign_kind (seen_kind x) ≡ Ok k → signed f g x ≡ Ok c → seen_kind c ≡ k
signed_law f g (whole j n) c k h e = whole_kind j _ c k e (same_ok (Integer j) k h)
signed_law f g (logical b) c k h e = kind_of_ok (double _) c e ∙ same_ok Double k h
signed_law f g (double d) c k h e = kind_of_ok (double _) c e ∙ same_ok Double k h
signed_law f g (text t) c k h e = absurd cc

pub to_double_kind : (d : Option ℤ) (c : Seen) → to_double d ≡ Ok c → seen_kind c ≡ Double
to_double_kind (Some n) c e = double_kind (exact n) c e
to_double_kind None c e = kind_of_ok (double None) c e

pub unary_law : (op : Unary) (x c : Seen) (k : Kind) → unary_kind op (seen_kind x) ≡ Ok k → unary_cell op x ≡ Ok c → seen_kind c ≡ k
unary_law Neg x c k h e = signed_law neg_ℤ whole_neg x c k h e
unary_law Plus x c k h e = signed_law (λ n. n) (λ d. d) x c k h e
unary_law Abs x c k h e = signed_law (λ n. pos (unsigned_abs n)) whole_abs x c k h e
unary_law Not x c k h e = truth_kind _ (truth x) c k e (number_ok (seen_kind x) Logical k h)
unary_law ToInt8 x c k h e = whole_kind Int8 _ c k e (number_ok (seen_kind x) (Integer Int8) k h)
unary_law ToInt16 x c k h e = whole_kind Int16 _ c k e (number_ok (seen_kind x) (Integer Int16) k h)
unary_law ToInt32 x c k h e = whole_kind Int32 _ c k e (number_ok (seen_kind x) (Integer Int32) k h)
unary_law ToInt64 x c k h e = whole_kind Int64 _ c k e (number_ok (seen_kind x) (Integer Int64) k h)
unary_law ToUint8 x c k h e = whole_kind Uint8 _ c k e (number_ok (seen_kind x) (Integer Uint8) k h)
unary_law ToUint16 x c k h e = whole_kind Uint16 _ c k e (number_ok (seen_kind x) (Integer Uint16) k h)
unary_law ToUint32 x c k h e = whole_kind Uint32 _ c k e (number_ok (seen_kind x) (Integer Uint32) k h)
unary_law ToUint64 x c k h e = whole_kind Uint64 _ c k e (number_ok (seen_kind x) (Integer Uint64) k h)
unary_law ToDouble x c k h e = to_double_kind (amount x) c e ∙ number_ok (seen_kind x) Double k h
unary_law ToLogical x c k h e = truth_kind _ (truth x) c k e (number_ok (seen_kind x) Logical k h)
unary_law IsNan x c k h e = logical_kind _ c k e (number_ok (seen_kind x) Logical k h)

-- ---- the same over classes

pub kind_again : (k : Kind) → kind_of (class_of k) ≡ k
kind_again (Integer Int8) = refl
kind_again (Integer Int16) = refl
kind_again (Integer Int32) = refl
kind_again (Integer Int64) = refl
kind_again (Integer Uint8) = refl
kind_again (Integer Uint16) = refl
kind_again (Integer Uint32) = refl
kind_again (Integer Uint64) = refl
kind_again Logical = refl
kind_again Double = refl
kind_again Text = refl

class_ok : (r : Result Kind ClassFault) (c : Seen) (k : Class) → class_result r ≡ Ok k → ((j : Kind) → r ≡ Ok j → seen_kind c ≡ j) → class_of (seen_kind c) ≡ k
class_ok (Ok j) c k h l = ap class_of (l j refl) ∙ same_ok (class_of j) k h
class_ok (Err f) c k h l = absurd cc

pub binary_class_law : (op : Binary) (x y c : Seen) (s t : Bool) (k : Class) → binary_class op (class_of (seen_kind x)) s (class_of (seen_kind y)) t ≡ Ok k → binary_cell op x y ≡ Ok c → class_of (seen_kind c) ≡ k
binary_class_law op x y c s t k h e =
    class_ok (binary_kind op (seen_kind x) s (seen_kind y) t) c k
    (ap (λ (a : Kind). class_result (binary_kind op a s (seen_kind y) t)) (sym (kind_again (seen_kind x)))
    ∙ ap (λ (b : Kind). class_result (binary_kind op (kind_of (class_of (seen_kind x))) s b t)) (sym (kind_again (seen_kind y)))
    ∙ h)
    (λ j l. binary_law op x y c s t j l e)

pub unary_class_law : (op : Unary) (x c : Seen) (k : Class) → unary_class op (class_of (seen_kind x)) ≡ Ok k → unary_cell op x ≡ Ok c → class_of (seen_kind c) ≡ k
unary_class_law op x c k h e =
    class_ok (unary_kind op (seen_kind x)) c k
    (ap (λ (a : Kind). class_result (unary_kind op a)) (sym (kind_again (seen_kind x))) ∙ h)
    (λ j l. unary_law op x c j l e)
