-- The class of the result of a function of columns, or BadClass. The cases stand in the order of the rows of
-- docs/LANGUAGE.md, functions.
use Rattle.std.specs.Prelude.{Bool, true, false, Result, Ok, Err, List, [], ◌∷◌, map}
use Rattle.tall_value.specs.declared.class.Class.{Class}
use Rattle.tall_value.specs.declared.class.Kind.{Kind}
use Rattle.tall_value.specs.declared.class.Kind.TheVariants.{Integer, Logical, Double}
use Rattle.tall_value.specs.declared.faults.ClassFault.{ClassFault}
use Rattle.tall_value.specs.declared.faults.ClassFault.TheVariants.{BadClass}
use Rattle.tall_value.specs.declared.functions.Reduction.{Reduction}
use Rattle.tall_value.specs.declared.functions.Reduction.TheVariants.{Sum, Min, Max, Any, All, Nnz, Numel, Height}
use Rattle.tall_value.specs.declared.functions.Scan.{Scan}
use Rattle.tall_value.specs.declared.functions.Scan.TheVariants.{CumSum, CumMin, CumMax}
use Rattle.tall_value.specs.declared.functions.Method.{Method}
use Rattle.tall_value.specs.declared.functions.Method.TheVariants as method
use Rattle.tall_value.specs.Classes.{class_of, kind_of}
use Rattle.tall_value.specs.ClassTables.{of_number, sign_kind, class_result}

-- integer, double: its class
abbrev pub ordered_kind : Kind → Result Kind ClassFault
ordered_kind (Integer k) = Ok (Integer k)
ordered_kind Double = Ok Double
ordered_kind a = Err BadClass

-- logical: logical
abbrev pub logical_kind : Kind → Result Kind ClassFault
logical_kind Logical = Ok Logical
logical_kind a = Err BadClass

-- `sum`: integer, logical, double give double; with 'native' integer and double give their class
abbrev pub sum_kind : Bool → Kind → Result Kind ClassFault
sum_kind false a = of_number a Double
sum_kind true a = ordered_kind a

abbrev pub reduction_kind : Reduction → Kind → Result Kind ClassFault
reduction_kind (Sum native omitnan) a = sum_kind native a
reduction_kind Min a = ordered_kind a
reduction_kind Max a = ordered_kind a
reduction_kind Any a = logical_kind a
reduction_kind All a = logical_kind a
reduction_kind Nnz a = of_number a Double
reduction_kind Numel a = Ok Double
reduction_kind Height a = Ok Double

-- `cumsum`: integer gives its class, logical and double give double
abbrev pub scan_kind : Scan → Kind → Result Kind ClassFault
scan_kind CumSum a = sign_kind a
scan_kind CumMin a = ordered_kind a
scan_kind CumMax a = ordered_kind a

-- the class of what a method of `groupsummary` gives of data of a class; no method counts the rows
abbrev pub method_kind : Method → Kind → Result Kind ClassFault
method_kind method.Count a = Ok Double
method_kind method.Sum a = of_number a Double
method_kind method.SumNative a = ordered_kind a
method_kind method.Min a = ordered_kind a
method_kind method.Max a = ordered_kind a
method_kind method.Nnz a = of_number a Double
method_kind method.Nummissing a = Ok Double

-- the classes of the columns that `groupsummary` makes of keys and of data: the key, `GroupCount`, and with a method
-- its values
abbrev pub summary_kinds : Method → Kind → Kind → Result (List Kind) ClassFault
summary_kinds method.Count key a = Ok (key ∷ Double ∷ [])
summary_kinds m key a = elim (method_kind m a) [ Ok k ↦ Ok (key ∷ Double ∷ k ∷ []) | Err e ↦ Err e ]

-- ---- the same over classes

abbrev pub reduction_class : Reduction → Class → Result Class ClassFault
reduction_class r a = class_result (reduction_kind r (kind_of a))

abbrev pub scan_class : Scan → Class → Result Class ClassFault
scan_class s a = class_result (scan_kind s (kind_of a))

abbrev pub class_results : Result (List Kind) ClassFault → Result (List Class) ClassFault
class_results (Ok ks) = Ok (map class_of ks)
class_results (Err e) = Err e

abbrev pub summary_classes : Method → Class → Class → Result (List Class) ClassFault
summary_classes m key a = class_results (summary_kinds m (kind_of key) (kind_of a))
