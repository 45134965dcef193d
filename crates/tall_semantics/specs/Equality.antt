-- Tests for equal operations, trees and spaces. That they mean equality is a law (src/laws.rt).
use Rattle.std.specs.Prelude.{ℤ, ℕ, Bool, true, false, not, ◌&&◌, ◌==◌, Option, None, Some, bytes_eq}
use Rattle.std.specs.Ordering.{int_eq}
use Rattle.tall_int.specs.declared.quotients.Rounding.TheVariants.{Fix, Floor, Ceil, Round}
use Rattle.tall_value.specs.declared.class.Class.{Class}
use Rattle.tall_value.specs.declared.class.Class.TheVariants as class
use Rattle.tall_value.specs.declared.functions.Method.{Method}
use Rattle.tall_value.specs.declared.functions.Method.TheVariants as method
use Rattle.tall_value.specs.declared.functions.Reduction.{Reduction}
use Rattle.tall_value.specs.declared.functions.Reduction.TheVariants.{Sum, Min, Max, Any, All, Nnz, Numel, Height}
use Rattle.tall_value.specs.declared.functions.Scan.{Scan}
use Rattle.tall_value.specs.declared.functions.Scan.TheVariants.{CumSum, CumMin, CumMax}
use Rattle.tall_value.specs.declared.operators.Binary.{Binary}
use Rattle.tall_value.specs.declared.operators.Binary.TheVariants.{Add, Sub, Mul, Div, Modulo, Idivide, BitAnd, BitOr, BitXor, Eq, Ne, Lt, Le, Gt, Ge, StrCmp, And, Or}
use Rattle.tall_value.specs.declared.operators.Unary.{Unary}
use Rattle.tall_value.specs.declared.operators.Unary.TheVariants.{Neg, Plus, Abs, Not, ToInt8, ToInt16, ToInt32, ToInt64, ToUint8, ToUint16, ToUint32, ToUint64, ToDouble, ToLogical, IsNan}
use Rattle.tall_value.specs.Cells.{Seen, whole, logical, double, text}
use Rattle.tall_value.specs.Classes.{is_same}
use Rattle.tall_semantics.specs.Operations.{Op, constant, unary, binary, filter, reduce, scan, head, tail, distinct, group, Part, keys, counts, values, Tree, column, leaf, one, two}
use Rattle.tall_semantics.specs.Spaces.{Space, single, rows_of, filtered, first, last, groups}
use Rattle.tall_semantics.specs.Spaces as spaces

-- ---- the place of each variant among those of its type

abbrev pub class_place : Class → ℕ
class_place class.Int8 = 0
class_place class.Int16 = 1
class_place class.Int32 = 2
class_place class.Int64 = 3
class_place class.Uint8 = 4
class_place class.Uint16 = 5
class_place class.Uint32 = 6
class_place class.Uint64 = 7
class_place class.Logical = 8
class_place class.Double = 9
class_place class.Text = 10

abbrev pub unary_place : Unary → ℕ
unary_place Neg = 0
unary_place Plus = 1
unary_place Abs = 2
unary_place Not = 3
unary_place ToInt8 = 4
unary_place ToInt16 = 5
unary_place ToInt32 = 6
unary_place ToInt64 = 7
unary_place ToUint8 = 8
unary_place ToUint16 = 9
unary_place ToUint32 = 10
unary_place ToUint64 = 11
unary_place ToDouble = 12
unary_place ToLogical = 13
unary_place IsNan = 14

abbrev pub binary_place : Binary → ℕ
binary_place Add = 0
binary_place Sub = 1
binary_place Mul = 2
binary_place Div = 3
binary_place Modulo = 4
binary_place (Idivide Fix) = 5
binary_place (Idivide Floor) = 6
binary_place (Idivide Ceil) = 7
binary_place (Idivide Round) = 8
binary_place BitAnd = 9
binary_place BitOr = 10
binary_place BitXor = 11
binary_place Eq = 12
binary_place Ne = 13
binary_place Lt = 14
binary_place Le = 15
binary_place Gt = 16
binary_place Ge = 17
binary_place StrCmp = 18
binary_place And = 19
binary_place Or = 20

abbrev pub reduction_place : Reduction → ℕ
reduction_place (Sum false false) = 0
reduction_place (Sum false true) = 1
reduction_place (Sum true false) = 2
reduction_place (Sum true true) = 3
reduction_place Min = 4
reduction_place Max = 5
reduction_place Any = 6
reduction_place All = 7
reduction_place Nnz = 8
reduction_place Numel = 9
reduction_place Height = 10

abbrev pub scan_place : Scan → ℕ
scan_place CumSum = 0
scan_place CumMin = 1
scan_place CumMax = 2

abbrev pub method_place : Method → ℕ
method_place method.Count = 0
method_place method.Sum = 1
method_place method.SumNative = 2
method_place method.Min = 3
method_place method.Max = 4
method_place method.Nnz = 5
method_place method.Nummissing = 6

abbrev pub part_place : Part → ℕ
part_place keys = 0
part_place counts = 1
part_place values = 2

-- ---- the tests

abbrev pub same_bit : Bool → Bool → Bool
same_bit true b = b
same_bit false b = not b

-- NaN is the same as NaN here
abbrev pub same_double : Option ℤ → Option ℤ → Bool
same_double (Some m) (Some n) = int_eq m n
same_double None None = true
same_double m n = false

abbrev pub same_cell : Seen → Seen → Bool
same_cell (whole j m) (whole k n) = is_same j k && int_eq m n
same_cell (logical a) (logical b) = same_bit a b
same_cell (double m) (double n) = same_double m n
same_cell (text s) (text t) = bytes_eq s t
same_cell c d = false

abbrev pub same_op : Op → Op → Bool
same_op (constant c) (constant d) = same_cell c d
same_op (unary f) (unary g) = unary_place f == unary_place g
same_op (binary f) (binary g) = binary_place f == binary_place g
same_op filter filter = true
same_op (reduce f) (reduce g) = reduction_place f == reduction_place g
same_op (scan f) (scan g) = scan_place f == scan_place g
same_op (head j) (head k) = j == k
same_op (tail j) (tail k) = j == k
same_op distinct distinct = true
same_op (group m p) (group n q) = method_place m == method_place n && part_place p == part_place q
same_op f g = false

abbrev pub same_tree : Tree → Tree → Bool
same_tree (column s v c) (column t w d) = (s == t && v == w) && class_place c == class_place d
same_tree (leaf f) (leaf g) = same_op f g
same_tree (one f x) (one g y) = same_op f g && same_tree x y
same_tree (two f x y) (two g z w) = (same_op f g && same_tree x z) && same_tree y w
same_tree x y = false

abbrev pub same_data : Option Tree → Option Tree → Bool
same_data (Some x) (Some y) = same_tree x y
same_data None None = true
same_data x y = false

abbrev pub same_space : Space → Space → Bool
same_space single single = true
same_space (rows_of s) (rows_of t) = s == t
same_space (filtered s m) (filtered t n) = same_space s t && same_tree m n
same_space (first j s) (first k t) = j == k && same_space s t
same_space (last j s) (last k t) = j == k && same_space s t
same_space (spaces.distinct x) (spaces.distinct y) = same_tree x y
same_space (groups m k v) (groups n l w) = (method_place m == method_place n && same_tree k l) && same_data v w
same_space s t = false
