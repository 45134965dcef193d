-- A place among the variants of a type tells a variant.
use Rattle.std.specs.Prelude.{◌≡◌, refl, ℕ, true, false, ◌==◌, [], ◌∷◌, get_or}
use Rattle.std.proofs.Common.{ap, sym, ◌∙◌}
use Rattle.std.proofs.lemmas.Bool.Decides.{Decides-eqb}
use Rattle.tall_int.specs.declared.quotients.Rounding.TheVariants.{Fix, Floor, Ceil, Round}
use Rattle.tall_value.specs.declared.class.Class.{Class}
use Rattle.tall_value.specs.declared.class.Class.TheVariants as class
use Rattle.tall_value.specs.declared.class.IntKind.{IntKind}
use Rattle.tall_value.specs.declared.class.IntKind.TheVariants as int_kind
use Rattle.tall_value.specs.declared.functions.Method.{Method}
use Rattle.tall_value.specs.declared.functions.Method.TheVariants as method
use Rattle.tall_value.specs.declared.functions.Reduction.{Reduction}
use Rattle.tall_value.specs.declared.functions.Reduction.TheVariants.{Sum, Min, Max, Any, All, Nnz, Numel, Height}
use Rattle.tall_value.specs.declared.functions.Scan.{Scan}
use Rattle.tall_value.specs.declared.functions.Scan.TheVariants.{CumSum, CumMin, CumMax}
use Rattle.tall_value.specs.declared.operators.Binary.{Binary}
use Rattle.tall_value.specs.declared.operators.Binary.TheVariants.{Add, Sub, Mul, Div, Modulo, Idivide, BitAnd, BitOr, BitXor, Eq, Ne, Lt, Le, Gt, Ge, StrCmp, And, Or}
use Rattle.tall_value.specs.declared.operators.Unary.{Unary}
use Rattle.tall_value.specs.declared.operators.Unary.TheVariants.{Neg, Plus, Abs, Not, ToInt8, ToInt16, ToInt32, ToInt64, ToUint8, ToUint16, ToUint32, ToUint64, ToDouble, ToLogical, IsNan}
use Rattle.tall_value.specs.Classes.{is_same}
use Rattle.tall_value.specs.Classes as classes
use Rattle.tall_semantics.specs.Operations.{Part, keys, counts, values}
use Rattle.tall_semantics.specs.Equality.{class_place, unary_place, binary_place, reduction_place, scan_place, method_place, part_place}

pub number_is : (m n : ℕ) → (m == n) ≡ true → m ≡ n
number_is m n h = (Decides-eqb m n).0 h

pub same_number : (n : ℕ) → (n == n) ≡ true
same_number n = (Decides-eqb n n).1 refl

-- a place among others tells a variant, where something leads back from the place
pub by_place : {A : Type 0} (place : A → ℕ) (back : ℕ → A) → ((a : A) → back (place a) ≡ a) → (a b : A) → (place a == place b) ≡ true → a ≡ b
by_place place back trip a b h = sym (trip a) ∙ (ap back (number_is (place a) (place b) h) ∙ trip b)

-- ---- variants by their places

class_at : ℕ → Class
class_at n = get_or (class.Int8 ∷ class.Int16 ∷ class.Int32 ∷ class.Int64 ∷ class.Uint8 ∷ class.Uint16 ∷ class.Uint32 ∷ class.Uint64 ∷ class.Logical ∷ class.Double ∷ class.Text ∷ []) n class.Text

class_trip : (c : Class) → class_at (class_place c) ≡ c
unfolding class_at
class_trip class.Int8 = refl
class_trip class.Int16 = refl
class_trip class.Int32 = refl
class_trip class.Int64 = refl
class_trip class.Uint8 = refl
class_trip class.Uint16 = refl
class_trip class.Uint32 = refl
class_trip class.Uint64 = refl
class_trip class.Logical = refl
class_trip class.Double = refl
class_trip class.Text = refl

pub class_is : (a b : Class) → (class_place a == class_place b) ≡ true → a ≡ b
class_is = by_place class_place class_at class_trip

kind_at : ℕ → IntKind
kind_at n = get_or (int_kind.Int8 ∷ int_kind.Int16 ∷ int_kind.Int32 ∷ int_kind.Int64 ∷ int_kind.Uint8 ∷ int_kind.Uint16 ∷ int_kind.Uint32 ∷ int_kind.Uint64 ∷ []) n int_kind.Uint64

kind_trip : (a : IntKind) → kind_at (classes.place a) ≡ a
unfolding kind_at
kind_trip int_kind.Int8 = refl
kind_trip int_kind.Int16 = refl
kind_trip int_kind.Int32 = refl
kind_trip int_kind.Int64 = refl
kind_trip int_kind.Uint8 = refl
kind_trip int_kind.Uint16 = refl
kind_trip int_kind.Uint32 = refl
kind_trip int_kind.Uint64 = refl

pub kind_is : (a b : IntKind) → (classes.place a == classes.place b) ≡ true → a ≡ b
kind_is = by_place classes.place kind_at kind_trip

unary_at : ℕ → Unary
unary_at n = get_or (Neg ∷ Plus ∷ Abs ∷ Not ∷ ToInt8 ∷ ToInt16 ∷ ToInt32 ∷ ToInt64 ∷ ToUint8 ∷ ToUint16 ∷ ToUint32 ∷ ToUint64 ∷ ToDouble ∷ ToLogical ∷ IsNan ∷ []) n IsNan

unary_trip : (a : Unary) → unary_at (unary_place a) ≡ a
unfolding unary_at
unary_trip Neg = refl
unary_trip Plus = refl
unary_trip Abs = refl
unary_trip Not = refl
unary_trip ToInt8 = refl
unary_trip ToInt16 = refl
unary_trip ToInt32 = refl
unary_trip ToInt64 = refl
unary_trip ToUint8 = refl
unary_trip ToUint16 = refl
unary_trip ToUint32 = refl
unary_trip ToUint64 = refl
unary_trip ToDouble = refl
unary_trip ToLogical = refl
unary_trip IsNan = refl

pub unary_is : (a b : Unary) → (unary_place a == unary_place b) ≡ true → a ≡ b
unary_is = by_place unary_place unary_at unary_trip

binary_at : ℕ → Binary
binary_at n = get_or (Add ∷ Sub ∷ Mul ∷ Div ∷ Modulo ∷ (Idivide Fix) ∷ (Idivide Floor) ∷ (Idivide Ceil) ∷ (Idivide Round) ∷ BitAnd ∷ BitOr ∷ BitXor ∷ Eq ∷ Ne ∷ Lt ∷ Le ∷ Gt ∷ Ge ∷ StrCmp ∷ And ∷ Or ∷ []) n Or

binary_trip : (a : Binary) → binary_at (binary_place a) ≡ a
unfolding binary_at
binary_trip Add = refl
binary_trip Sub = refl
binary_trip Mul = refl
binary_trip Div = refl
binary_trip Modulo = refl
binary_trip (Idivide Fix) = refl
binary_trip (Idivide Floor) = refl
binary_trip (Idivide Ceil) = refl
binary_trip (Idivide Round) = refl
binary_trip BitAnd = refl
binary_trip BitOr = refl
binary_trip BitXor = refl
binary_trip Eq = refl
binary_trip Ne = refl
binary_trip Lt = refl
binary_trip Le = refl
binary_trip Gt = refl
binary_trip Ge = refl
binary_trip StrCmp = refl
binary_trip And = refl
binary_trip Or = refl

pub binary_is : (a b : Binary) → (binary_place a == binary_place b) ≡ true → a ≡ b
binary_is = by_place binary_place binary_at binary_trip

reduction_at : ℕ → Reduction
reduction_at n = get_or ((Sum false false) ∷ (Sum false true) ∷ (Sum true false) ∷ (Sum true true) ∷ Min ∷ Max ∷ Any ∷ All ∷ Nnz ∷ Numel ∷ Height ∷ []) n Height

reduction_trip : (a : Reduction) → reduction_at (reduction_place a) ≡ a
unfolding reduction_at
reduction_trip (Sum false false) = refl
reduction_trip (Sum false true) = refl
reduction_trip (Sum true false) = refl
reduction_trip (Sum true true) = refl
reduction_trip Min = refl
reduction_trip Max = refl
reduction_trip Any = refl
reduction_trip All = refl
reduction_trip Nnz = refl
reduction_trip Numel = refl
reduction_trip Height = refl

pub reduction_is : (a b : Reduction) → (reduction_place a == reduction_place b) ≡ true → a ≡ b
reduction_is = by_place reduction_place reduction_at reduction_trip

scan_at : ℕ → Scan
scan_at n = get_or (CumSum ∷ CumMin ∷ CumMax ∷ []) n CumMax

scan_trip : (a : Scan) → scan_at (scan_place a) ≡ a
unfolding scan_at
scan_trip CumSum = refl
scan_trip CumMin = refl
scan_trip CumMax = refl

pub scan_is : (a b : Scan) → (scan_place a == scan_place b) ≡ true → a ≡ b
scan_is = by_place scan_place scan_at scan_trip

method_at : ℕ → Method
method_at n = get_or (method.Count ∷ method.Sum ∷ method.SumNative ∷ method.Min ∷ method.Max ∷ method.Nnz ∷ method.Nummissing ∷ []) n method.Nummissing

method_trip : (a : Method) → method_at (method_place a) ≡ a
unfolding method_at
method_trip method.Count = refl
method_trip method.Sum = refl
method_trip method.SumNative = refl
method_trip method.Min = refl
method_trip method.Max = refl
method_trip method.Nnz = refl
method_trip method.Nummissing = refl

pub method_is : (a b : Method) → (method_place a == method_place b) ≡ true → a ≡ b
method_is = by_place method_place method_at method_trip

part_at : ℕ → Part
part_at n = get_or (keys ∷ counts ∷ values ∷ []) n values

part_trip : (a : Part) → part_at (part_place a) ≡ a
unfolding part_at
part_trip keys = refl
part_trip counts = refl
part_trip values = refl

pub part_is : (a b : Part) → (part_place a == part_place b) ≡ true → a ≡ b
part_is = by_place part_place part_at part_trip
