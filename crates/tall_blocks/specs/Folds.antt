-- Reductions, and methods of groups, over some cells and then others: what is kept of the cells so far, what it is with
-- further cells, and the result at the end. What is kept of two parts tells what is kept of both, but for the sum in an
-- integer class, which has to go on from the sum so far.
use Rattle.std.specs.Prelude.{ℤ, ℕ, pos, ◌+ℤ◌, ◌+◌, Bool, true, false, ◌||◌, ◌&&◌, if◌then◌else◌, Option, None, Some, Result, Ok, List, [], length}
use Rattle.std.specs.List.{filter, filter_map, list_any, list_all}
use Rattle.tall_int.specs.Sums.{clamped_sum}
use Rattle.tall_value.specs.declared.class.IntKind.{IntKind}
use Rattle.tall_value.specs.declared.class.Kind.{Kind}
use Rattle.tall_value.specs.declared.class.Kind.TheVariants.{Integer, Logical, Double, Text}
use Rattle.tall_value.specs.declared.faults.FaultKind.{FaultKind}
use Rattle.tall_value.specs.declared.functions.Method.{Method}
use Rattle.tall_value.specs.declared.functions.Method.TheVariants as method
use Rattle.tall_value.specs.declared.functions.Reduction.{Reduction}
use Rattle.tall_value.specs.declared.functions.Reduction.TheVariants as reduction
use Rattle.tall_value.specs.Cells.{Seen, whole, logical, double, amount, is_nan}
use Rattle.tall_value.specs.CellOperators.{to_double}
use Rattle.tall_value.specs.Classes.{least, greatest}
use Rattle.tall_value.specs.Filters.{is_true}
use Rattle.tall_value.specs.Groups.{or_nan}
use Rattle.tall_value.specs.Reductions.{or_fault, or_no_rows, every_cell, total, lesser, greater, folded, is_nonzero}

-- ---- folds whose parts join

pub data PartFold : Type 0 where
  exact_sum : PartFold
  least_cell : PartFold
  greatest_cell : PartFold
  some_true : PartFold
  all_true : PartFold
  number_of : (test : Seen → Bool) → PartFold

-- the exact total, and whether a NaN is among the cells; the best cell, none where there is no cell; and the number of
-- cells that pass the test
abbrev pub Value : PartFold → Type 0
Value exact_sum = Bool × ℤ
Value least_cell = Option Seen
Value greatest_cell = Option Seen
Value some_true = Bool
Value all_true = Bool
Value (number_of test) = ℕ

abbrev pub value_of : (p : PartFold) → List Seen → Value p
value_of exact_sum cs = (list_any is_nan cs, total (filter_map amount cs))
value_of least_cell cs = folded lesser cs
value_of greatest_cell cs = folded greater cs
value_of some_true cs = list_any is_true cs
value_of all_true cs = list_all is_true cs
value_of (number_of test) cs = length (filter test cs)

-- of equal cells the one of the first part stays
abbrev pub best_joined : (Seen → Seen → Seen) → Option Seen → Option Seen → Option Seen
best_joined f None d = d
best_joined f (Some c) None = Some c
best_joined f (Some c) (Some d) = Some (f c d)

abbrev pub joined : (p : PartFold) → Value p → Value p → Value p
joined exact_sum s t = (s.0 || t.0, s.1 +ℤ t.1)
joined least_cell s t = best_joined lesser s t
joined greatest_cell s t = best_joined greater s t
joined some_true s t = s || t
joined all_true s t = s && t
joined (number_of test) s t = s + t

-- ---- all folds

pub data Fold : Type 0 where
  by_parts : PartFold → Fold
  class_sum : IntKind → Fold

abbrev pub Kept : Fold → Type 0
Kept (by_parts p) = Value p
Kept (class_sum k) = ℤ

-- before the first cell
abbrev pub start : (g : Fold) → Kept g
start (by_parts p) = value_of p []
start (class_sum k) = pos 0

-- with further cells behind those so far
abbrev pub more : (g : Fold) → Kept g → List Seen → Kept g
more (by_parts p) s cs = joined p s (value_of p cs)
more (class_sum k) s cs = clamped_sum (least k) (greatest k) s (filter_map amount cs)

-- ---- the part of a block, made without what is kept so far

-- of a sum in a class what the block's cells make of the sum so far
abbrev pub Part : Fold → Type 0
Part (by_parts p) = Value p
Part (class_sum k) = ℤ → ℤ

abbrev pub part_of : (g : Fold) → List Seen → Part g
part_of (by_parts p) cs = value_of p cs
part_of (class_sum k) cs = λ sum. clamped_sum (least k) (greatest k) sum (filter_map amount cs)

abbrev pub with_part : (g : Fold) → Kept g → Part g → Kept g
with_part (by_parts p) s t = joined p s t
with_part (class_sum k) s t = t s

-- ---- reductions

abbrev pub native_fold : Kind → Fold
native_fold (Integer k) = class_sum k
native_fold Logical = by_parts exact_sum
native_fold Double = by_parts exact_sum
native_fold Text = by_parts exact_sum

abbrev pub reduction_fold : Reduction → Kind → Fold
reduction_fold (reduction.Sum true omit) a = native_fold a
reduction_fold (reduction.Sum false omit) a = by_parts exact_sum
reduction_fold reduction.Min a = by_parts least_cell
reduction_fold reduction.Max a = by_parts greatest_cell
reduction_fold reduction.Any a = by_parts some_true
reduction_fold reduction.All a = by_parts all_true
reduction_fold reduction.Nnz a = by_parts (number_of is_nonzero)
reduction_fold reduction.Numel a = by_parts (number_of every_cell)
reduction_fold reduction.Height a = by_parts (number_of every_cell)

-- it passes NaN over
abbrev pub omits : Reduction → Bool
omits (reduction.Sum native omit) = omit
omits reduction.Min = true
omits reduction.Max = true
omits r = false

abbrev pub total_result : Bool × ℤ → Result Seen FaultKind
total_result s = or_fault (to_double (if s.0 then None else Some s.1))

abbrev pub native_result : (a : Kind) → Kept (native_fold a) → Result Seen FaultKind
native_result (Integer k) s = Ok (whole k s)
native_result Logical s = total_result s
native_result Double s = total_result s
native_result Text s = total_result s

abbrev pub number_result : ℕ → Result Seen FaultKind
number_result n = Ok (double (Some (pos n)))

abbrev pub reduction_result : (r : Reduction) (a : Kind) → Kept (reduction_fold r a) → Result Seen FaultKind
reduction_result (reduction.Sum true omit) a s = native_result a s
reduction_result (reduction.Sum false omit) a s = total_result s
reduction_result reduction.Min a s = or_no_rows s
reduction_result reduction.Max a s = or_no_rows s
reduction_result reduction.Any a s = Ok (logical s)
reduction_result reduction.All a s = Ok (logical s)
reduction_result reduction.Nnz a s = number_result s
reduction_result reduction.Numel a s = number_result s
reduction_result reduction.Height a s = number_result s

-- ---- methods of groups

abbrev pub method_fold : Method → Kind → Fold
method_fold method.Count a = by_parts (number_of every_cell)
method_fold method.Sum a = by_parts exact_sum
method_fold method.SumNative a = native_fold a
method_fold method.Min a = by_parts least_cell
method_fold method.Max a = by_parts greatest_cell
method_fold method.Nnz a = by_parts (number_of is_nonzero)
method_fold method.Nummissing a = by_parts (number_of is_nan)

abbrev pub method_omits : Method → Bool
method_omits method.Count = false
method_omits method.Nummissing = false
method_omits m = true

abbrev pub method_result : (m : Method) (a : Kind) → Kept (method_fold m a) → Result Seen FaultKind
method_result method.Count a s = number_result s
method_result method.Sum a s = total_result s
method_result method.SumNative a s = native_result a s
method_result method.Min a s = Ok (or_nan s)
method_result method.Max a s = Ok (or_nan s)
method_result method.Nnz a s = number_result s
method_result method.Nummissing a s = number_result s
