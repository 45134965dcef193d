-- Worked values of the classes of the functions of columns: for each function what it gives of each kind of class, in the
-- order integer, logical, double, string.
use Rattle.std.specs.Prelude.{◌≡◌, refl, true, false, Result, Ok, Err, List, [], ◌∷◌}
use Rattle.tall_value.specs.declared.class.Class.TheVariants as class
use Rattle.tall_value.specs.declared.class.IntKind.TheVariants.{Int8}
use Rattle.tall_value.specs.declared.class.Kind.{Kind}
use Rattle.tall_value.specs.declared.class.Kind.TheVariants.{Integer, Logical, Double, Text}
use Rattle.tall_value.specs.declared.faults.ClassFault.{ClassFault}
use Rattle.tall_value.specs.declared.faults.ClassFault.TheVariants.{BadClass}
use Rattle.tall_value.specs.declared.functions.Reduction.TheVariants.{Sum, Min, Max, Any, All, Nnz, Numel, Height}
use Rattle.tall_value.specs.declared.functions.Scan.TheVariants.{CumSum, CumMin, CumMax}
use Rattle.tall_value.specs.declared.functions.Method.TheVariants as method
use Rattle.tall_value.specs.FunctionClasses.{reduction_kind, scan_kind, method_kind, summary_kinds, reduction_class, scan_class, summary_classes}

-- of an integer, a logical, a double and a string column
abbrev of_each : (Kind → Result Kind ClassFault) → List (Result Kind ClassFault)
of_each f = f (Integer Int8) ∷ f Logical ∷ f Double ∷ f Text ∷ []

-- ---- reductions

-- sum(x)
sum : of_each (reduction_kind (Sum false false)) ≡ Ok Double ∷ Ok Double ∷ Ok Double ∷ Err BadClass ∷ []
sum = refl

sum_without_nan : of_each (reduction_kind (Sum false true)) ≡ Ok Double ∷ Ok Double ∷ Ok Double ∷ Err BadClass ∷ []
sum_without_nan = refl

-- sum(x, 'native')
native_sum : of_each (reduction_kind (Sum true false)) ≡ Ok (Integer Int8) ∷ Err BadClass ∷ Ok Double ∷ Err BadClass ∷ []
native_sum = refl

native_sum_without_nan : of_each (reduction_kind (Sum true true)) ≡ Ok (Integer Int8) ∷ Err BadClass ∷ Ok Double ∷ Err BadClass ∷ []
native_sum_without_nan = refl

-- min(x), max(x)
least : of_each (reduction_kind Min) ≡ Ok (Integer Int8) ∷ Err BadClass ∷ Ok Double ∷ Err BadClass ∷ []
least = refl

greatest : of_each (reduction_kind Max) ≡ Ok (Integer Int8) ∷ Err BadClass ∷ Ok Double ∷ Err BadClass ∷ []
greatest = refl

-- any(x), all(x)
any : of_each (reduction_kind Any) ≡ Err BadClass ∷ Ok Logical ∷ Err BadClass ∷ Err BadClass ∷ []
any = refl

all : of_each (reduction_kind All) ≡ Err BadClass ∷ Ok Logical ∷ Err BadClass ∷ Err BadClass ∷ []
all = refl

-- nnz(x)
nonzero : of_each (reduction_kind Nnz) ≡ Ok Double ∷ Ok Double ∷ Ok Double ∷ Err BadClass ∷ []
nonzero = refl

-- numel(x), height(T)
number : of_each (reduction_kind Numel) ≡ Ok Double ∷ Ok Double ∷ Ok Double ∷ Ok Double ∷ []
number = refl

height : of_each (reduction_kind Height) ≡ Ok Double ∷ Ok Double ∷ Ok Double ∷ Ok Double ∷ []
height = refl

-- ---- scans

-- cumsum(x)
running_sum : of_each (scan_kind CumSum) ≡ Ok (Integer Int8) ∷ Ok Double ∷ Ok Double ∷ Err BadClass ∷ []
running_sum = refl

-- cummin(x), cummax(x)
running_least : of_each (scan_kind CumMin) ≡ Ok (Integer Int8) ∷ Err BadClass ∷ Ok Double ∷ Err BadClass ∷ []
running_least = refl

running_greatest : of_each (scan_kind CumMax) ≡ Ok (Integer Int8) ∷ Err BadClass ∷ Ok Double ∷ Err BadClass ∷ []
running_greatest = refl

-- ---- methods of groupsummary

method_count : of_each (method_kind method.Count) ≡ Ok Double ∷ Ok Double ∷ Ok Double ∷ Ok Double ∷ []
method_count = refl

method_sum : of_each (method_kind method.Sum) ≡ Ok Double ∷ Ok Double ∷ Ok Double ∷ Err BadClass ∷ []
method_sum = refl

method_native_sum : of_each (method_kind method.SumNative) ≡ Ok (Integer Int8) ∷ Err BadClass ∷ Ok Double ∷ Err BadClass ∷ []
method_native_sum = refl

method_least : of_each (method_kind method.Min) ≡ Ok (Integer Int8) ∷ Err BadClass ∷ Ok Double ∷ Err BadClass ∷ []
method_least = refl

method_greatest : of_each (method_kind method.Max) ≡ Ok (Integer Int8) ∷ Err BadClass ∷ Ok Double ∷ Err BadClass ∷ []
method_greatest = refl

method_nonzero : of_each (method_kind method.Nnz) ≡ Ok Double ∷ Ok Double ∷ Ok Double ∷ Err BadClass ∷ []
method_nonzero = refl

method_missing : of_each (method_kind method.Nummissing) ≡ Ok Double ∷ Ok Double ∷ Ok Double ∷ Ok Double ∷ []
method_missing = refl

-- groupsummary(T, g, 'sumnative', v): the key's own class, double, and the class of v
classes_of_columns : summary_kinds method.SumNative Text (Integer Int8) ≡ Ok (Text ∷ Double ∷ Integer Int8 ∷ [])
classes_of_columns = refl

-- groupsummary(T, g, 'nummissing', v) of strings
classes_of_missing : summary_kinds method.Nummissing (Integer Int8) Text ≡ Ok (Integer Int8 ∷ Double ∷ Double ∷ [])
classes_of_missing = refl

-- groupsummary(T, g): no third column
classes_without_method : summary_kinds method.Count Logical Text ≡ Ok (Logical ∷ Double ∷ [])
classes_without_method = refl

-- groupsummary(T, g, 'min', v) of logicals
classes_refused : summary_kinds method.Min Double Logical ≡ Err BadClass
classes_refused = refl

-- ---- over classes

-- sum(x, 'native') of uint64
class_of_native_sum : reduction_class (Sum true false) class.Uint64 ≡ Ok class.Uint64
class_of_native_sum = refl

-- any(x) of strings
class_of_any : reduction_class Any class.Text ≡ Err BadClass
class_of_any = refl

-- cumsum(x) of logicals
class_of_running_sum : scan_class CumSum class.Logical ≡ Ok class.Double
class_of_running_sum = refl

-- groupsummary(T, g, 'max', v) of int16 by strings
classes_of_greatest : summary_classes method.Max class.Text class.Int16 ≡ Ok (class.Text ∷ class.Double ∷ class.Int16 ∷ [])
classes_of_greatest = refl

-- groupsummary(T, g, 'sum', v) of strings
classes_of_text_sum : summary_classes method.Sum class.Double class.Text ≡ Err BadClass
classes_of_text_sum = refl
