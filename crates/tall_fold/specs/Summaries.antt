-- What a summary is seen as, and which cells it is the summary of.
use Rattle.std.specs.Prelude.{◌≡◌, ℕ, ◌<◌, ◌≤◌, ◌^◌, ℤ, pos, negsuc, Some, IfSome, IsOk, Result, Ok, Err, List, [], ◌∷◌, length}
use Rattle.std.specs.List.{All, filter, filter_map, list_any, list_all}
use Rattle.std.specs.Int.{int_max, int_min}
use Rattle.tall_int.specs.Numbers.{nearest}
use Rattle.tall_clamp.specs.Clamps.{Sums}
use Rattle.tall_clamp.specs.Outcomes.{picked}
use Rattle.tall_clamp.specs.declared.faults.FinishFault.{FinishFault}
use Rattle.tall_clamp.specs.declared.faults.FinishFault.TheVariants as finish
use Rattle.tall_value.specs.declared.cell.Cell.{Cell}
use Rattle.tall_value.specs.declared.class.Class.{Class}
use Rattle.tall_value.specs.declared.class.Kind.{Kind}
use Rattle.tall_value.specs.declared.class.Kind.TheVariants.{Integer, Logical, Double, Text}
use Rattle.tall_value.specs.declared.faults.FaultKind.{FaultKind}
use Rattle.tall_value.specs.declared.faults.FaultKind.TheVariants.{Inexact, NoRows}
use Rattle.tall_value.specs.declared.functions.Reduction.{Reduction}
use Rattle.tall_value.specs.Cells.{Seen, amount, double, seen, whole}
use Rattle.tall_value.specs.Classes.{greatest, kind_of, least}
use Rattle.tall_value.specs.Columns.{HasKind}
use Rattle.tall_value.specs.Filters.{is_true}
use Rattle.tall_value.specs.FunctionClasses.{reduction_class}
use Rattle.tall_dense.specs.Columns.{SeenColumn}
use Rattle.tall_fold.specs.Forms.{Form, exact_total, clamp_function, least_number, greatest_number, some_true, each_true, how_many, counted, form_of, omits, total_unless_nan}
use Rattle.tall_value.specs.Reductions.{used}
use Rattle.tall_fold.specs.declared.kept.Kept.{Kept}
use Rattle.tall_fold.specs.declared.kept.Kept.TheVariants as kept

abbrev pub kept_form : Kept → Form
kept_form (kept.Total s) = exact_total
kept_form (kept.Clamp s) = clamp_function
kept_form (kept.Least s) = least_number
kept_form (kept.Greatest s) = greatest_number
kept_form (kept.Any s) = some_true
kept_form (kept.All s) = each_true
kept_form (kept.Number n) = how_many

-- the rows that the fold itself counts; for a number the number, which is no greater than the rows
abbrev pub kept_rows : Kept → ℕ
kept_rows (kept.Total s) = s.1
kept_rows (kept.Clamp s) = s.1
kept_rows (kept.Least s) = s.1
kept_rows (kept.Greatest s) = s.1
kept_rows (kept.Any s) = s.1
kept_rows (kept.All s) = s.1
kept_rows (kept.Number n) = n

-- the ends of a class: the least and the greatest number of an integer class, and for a double 2^53 in magnitude
abbrev pub low_of : Kind → ℤ
low_of (Integer k) = least k
low_of Logical = pos 0
low_of Double = negsuc 9007199254740991
low_of Text = pos 0

abbrev pub high_of : Kind → ℤ
high_of (Integer k) = greatest k
high_of Logical = pos 0
high_of Double = pos 9007199254740992
high_of Text = pos 0

-- a number of the class
abbrev pub IsNumber : Kind → ℤ → Type 0
IsNumber a n = nearest (low_of a) (high_of a) n ≡ n

-- a least or greatest number is one of the class
abbrev pub HasNumber : Kind → Kept → Type 0
HasNumber a (kept.Total s) = Unit {0}
HasNumber a (kept.Clamp s) = Unit {0}
HasNumber a (kept.Least s) = IfSome s.0 (IsNumber a)
HasNumber a (kept.Greatest s) = IfSome s.0 (IsNumber a)
HasNumber a (kept.Any s) = Unit {0}
HasNumber a (kept.All s) = Unit {0}
HasNumber a (kept.Number n) = Unit {0}

-- what the cells come to: the exact total of those that count; the clamp function from the sum before the rows to the sum
-- behind them; the least and the greatest number; whether one or each is true; the number of those that count
abbrev pub ComesTo : Reduction → Kind → List Seen → Kept → Type 0
ComesTo op a cs (kept.Total s) = s.0 ≡ total_unless_nan (used (omits op) cs)
ComesTo op a cs (kept.Clamp s) = Sums (low_of a) (high_of a) (filter_map amount cs) s.0
ComesTo op a cs (kept.Least s) = s.0 ≡ picked int_min (filter_map amount cs)
ComesTo op a cs (kept.Greatest s) = s.0 ≡ picked int_max (filter_map amount cs)
ComesTo op a cs (kept.Any s) = s.0 ≡ list_any is_true cs
ComesTo op a cs (kept.All s) = s.0 ≡ list_all is_true cs
ComesTo op a cs (kept.Number n) = n ≡ length (filter (counted op) cs)

-- what is kept of the cells of a column of a kind
pub record IsKeptOf (op : Reduction) (a : Kind) (cs : List Seen) (k : Kept) : Type 0 where
  pub form : kept_form k ≡ form_of op a
  pub within : kept_rows k ≤ length cs
  pub number : HasNumber a k
  pub cells : All (HasKind a) cs
  pub comes : ComesTo op a cs k

-- a summary: the reduction, the class of the column, the number of rows, and what their cells come to
pub record SeenSummary : Type 0 where
  pub operation : Reduction
  pub class : Class
  pub rows : ℕ
  pub kept : Kept

-- the summary of the cells cs of a column of a class
pub record IsSummary (op : Reduction) (class : Class) (cs : List Seen) (s : SeenSummary) : Type 0 where
  pub operation : s.operation ≡ op
  pub class_is : s.class ≡ class
  pub takes : IsOk (reduction_class op class)
  pub rows : s.rows ≡ length cs
  pub cells : All (HasKind (kind_of class)) cs
  pub comes : ComesTo op (kind_of class) cs s.kept

-- what every summary keeps
pub record IsKept (op : Reduction) (class : Class) (rows : ℕ) (k : Kept) : Type 0 where
  pub form : kept_form k ≡ form_of op (kind_of class)
  pub few : rows < 2 ^ 40
  pub within : kept_rows k ≤ rows
  pub number : HasNumber (kind_of class) k

-- the cell of a number of a class
abbrev pub number_cell : Kind → ℤ → Seen
number_cell (Integer k) n = whole k n
number_cell Logical n = double (Some n)
number_cell Double n = double (Some n)
number_cell Text n = double (Some n)

-- a cell, or a fault, that is the result of a reduction
abbrev pub IsFound : Result Seen FaultKind → Result Cell FinishFault → Type 0
IsFound found (Ok c) = found ≡ Ok (seen c)
IsFound found (Err finish.Inexact) = found ≡ Err Inexact
IsFound found (Err finish.NoRows) = found ≡ Err NoRows
IsFound found (Err finish.Memory) = ⊥

-- an answer to a reduction's result: the cell alone in a column of the result's class, or its fault; want of memory answers
-- any
abbrev pub Finishes : Result Seen FaultKind → Reduction → Class → Result SeenColumn FinishFault → Type 0
Finishes found op class (Ok column) = (c : Seen) × (found ≡ Ok c) × (column.cells ≡ c ∷ []) × (reduction_class op class ≡ Ok column.class)
Finishes found op class (Err finish.Inexact) = found ≡ Err Inexact
Finishes found op class (Err finish.NoRows) = found ≡ Err NoRows
Finishes found op class (Err finish.Memory) = Unit {0}
