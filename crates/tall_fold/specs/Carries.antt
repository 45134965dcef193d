-- Scans over some rows of a column and then others: the fold of the cells up to a row, and what a carry is seen as.
use Rattle.std.specs.Prelude.{◌≡◌, ℕ, ℤ, pos, ◌+ℤ◌, Option, None, Some, option_map, Result, Ok, Err, List, [], ◌∷◌, ◌++◌, length}
use Rattle.std.specs.List.{filter_map}
use Rattle.std.specs.Int.{int_max, int_min}
use Rattle.tall_int.specs.Numbers.{nearest}
use Rattle.tall_int.specs.Sums.{clamped_sum}
use Rattle.tall_clamp.specs.Folds.{of_both}
use Rattle.tall_clamp.specs.Outcomes.{picked}
use Rattle.tall_value.specs.declared.cell.Cell.{Cell}
use Rattle.tall_value.specs.declared.class.Class.{Class}
use Rattle.tall_value.specs.declared.class.Kind.{Kind}
use Rattle.tall_value.specs.declared.class.Kind.TheVariants.{Integer, Logical, Double, Text}
use Rattle.tall_value.specs.declared.faults.CellFault.{CellFault}
use Rattle.tall_value.specs.declared.faults.CellFault.TheVariants.{Inexact}
use Rattle.tall_value.specs.declared.functions.Reduction.{Reduction}
use Rattle.tall_value.specs.declared.functions.Reduction.TheVariants.{Sum, Min, Max}
use Rattle.tall_value.specs.declared.functions.Scan.{Scan}
use Rattle.tall_value.specs.declared.functions.Scan.TheVariants.{CumSum, CumMin, CumMax}
use Rattle.std.specs.Prelude.{true, false}
use Rattle.tall_value.specs.Cells.{Seen, amount, double, logical, seen, text, whole}
use Rattle.tall_value.specs.CellOperators.{to_double}
use Rattle.tall_value.specs.Reductions.{or_cell}
use Rattle.tall_value.specs.Classes.{greatest, kind_of, least}
use Rattle.tall_value.specs.Columns.{numbered}
use Rattle.tall_value.specs.Elementwise.{at_row}
use Rattle.tall_dense.specs.Columns.{SeenColumn}
use Rattle.tall_dense.specs.Rows.{Answers}
use Rattle.tall_dense.specs.declared.faults.OpFault.{OpFault}
use Rattle.tall_dense.specs.declared.faults.OpFault.TheVariants.{At, Memory}
use Rattle.tall_fold.specs.Forms.{form_of, total_unless_nan}
use Rattle.tall_fold.specs.Summaries.{ComesTo, HasNumber, IsKept, kept_form, number_cell}
use Rattle.tall_fold.specs.declared.kept.Kept.{Kept}

-- ---- the fold of the cells up to a row

-- a sum is kept in an integer class at each row; else it is exact, NaN where a NaN is met, and refused above 2^53
abbrev pub running_total : Kind → List Seen → Result Seen CellFault
running_total (Integer k) cs = Ok (whole k (clamped_sum (least k) (greatest k) (pos 0) (filter_map amount cs)))
running_total Logical cs = to_double (total_unless_nan cs)
running_total Double cs = to_double (total_unless_nan cs)
running_total Text cs = to_double (total_unless_nan cs)

-- the minimum and the maximum of no number: the other end of an integer class, else NaN
abbrev pub no_least : Kind → Seen
no_least (Integer k) = whole k (greatest k)
no_least Logical = double None
no_least Double = double None
no_least Text = double None

abbrev pub no_greatest : Kind → Seen
no_greatest (Integer k) = whole k (least k)
no_greatest Logical = double None
no_greatest Double = double None
no_greatest Text = double None

-- of a kind of results
abbrev pub scan_cell : Scan → Kind → List Seen → Result Seen CellFault
scan_cell CumSum a cs = running_total a cs
scan_cell CumMin a cs = Ok (or_cell (no_least a) (option_map (number_cell a) (picked int_min (filter_map amount cs))))
scan_cell CumMax a cs = Ok (or_cell (no_greatest a) (option_map (number_cell a) (picked int_max (filter_map amount cs))))

-- each row with the fold of the cells before the column and of its own up to the row; the first row without one is the fault
abbrev pub scan_rows : Scan → Kind → (before : List Seen) → List (ℕ × Seen) → Result (List (ℕ × Seen)) (ℕ × CellFault)
scan_rows op a before [] = Ok []
scan_rows op a before (r ∷ rows) = at_row r.0 (scan_cell op a (before ++ r.1 ∷ [])) (scan_rows op a (before ++ r.1 ∷ []) rows)

-- some rows and then others, of which the first fault is the fault
abbrev pub followed : Result (List (ℕ × Seen)) (ℕ × CellFault) → Result (List (ℕ × Seen)) (ℕ × CellFault) → Result (List (ℕ × Seen)) (ℕ × CellFault)
followed (Ok rs) (Ok ss) = Ok (rs ++ ss)
followed (Ok rs) (Err e) = Err e
followed (Err e) s = Err e

-- ---- carries

-- the reduction that a carry keeps of its cells
abbrev pub sum_fold : Kind → Reduction
sum_fold (Integer k) = Sum true false
sum_fold Logical = Sum false false
sum_fold Double = Sum false false
sum_fold Text = Sum false false

abbrev pub scan_fold : Scan → Kind → Reduction
scan_fold CumSum a = sum_fold a
scan_fold CumMin a = Min
scan_fold CumMax a = Max

-- a carry: the scan, the class of its result, the number of rows, and what their cells come to
pub record SeenCarry : Type 0 where
  pub operation : Scan
  pub class : Class
  pub rows : ℕ
  pub kept : Kept

-- the carry of the cells cs, of a scan whose result has a class
pub record IsCarry (op : Scan) (class : Class) (cs : List Seen) (c : SeenCarry) : Type 0 where
  pub operation : c.operation ≡ op
  pub class_is : c.class ≡ class
  pub rows : c.rows ≡ length cs
  pub comes : ComesTo (scan_fold op (kind_of class)) (kind_of class) cs c.kept

-- an answer to the fold of a carry's rows: none where it is out of range
abbrev pub IsScanned : Result Seen CellFault → Option Cell → Type 0
IsScanned found (Some c) = found ≡ Ok (seen c)
IsScanned found None = found ≡ Err Inexact

-- ---- cells of one class, one after another

-- the cells so far, each from the one before it
abbrev pub running : (Seen → Seen → Seen) → Seen → List Seen → List Seen
running next c [] = []
running next c (d ∷ ds) = next c d ∷ running next (next c d) ds

abbrev pub next_sum : Seen → Seen → Seen
next_sum (whole k x) d = elim (amount d) [ Some n ↦ whole k (nearest (least k) (greatest k) (x +ℤ n)) | None ↦ whole k x ]
next_sum c d = c

abbrev pub next_best : (ℤ → ℤ → ℤ) → Seen → Seen → Seen
next_best pick (whole k x) d = elim (amount d) [ Some n ↦ whole k (pick x n) | None ↦ whole k x ]
next_best pick (double x) d = double (of_both pick x (amount d))
next_best pick c d = c

-- a number of an integer class is one of the class
abbrev pub InClass : Seen → Type 0
InClass (whole k n) = nearest (least k) (greatest k) n ≡ n
InClass (logical b) = Unit {0}
InClass (double d) = Unit {0}
InClass (text t) = Unit {0}

-- what is kept of the cells cs for a scan whose result has a kind
pub record IsFoldOf (op : Scan) (a : Kind) (cs : List Seen) (k : Kept) : Type 0 where
  pub form : kept_form k ≡ form_of (scan_fold op a) a
  pub number : HasNumber a k
  pub comes : ComesTo (scan_fold op a) a cs k

-- the kinds of the results of scans, and the kind of the result over a column of a kind
abbrev pub IsResult : Kind → Type 0
IsResult (Integer k) = Unit {0}
IsResult Logical = ⊥
IsResult Double = Unit {0}
IsResult Text = ⊥

abbrev pub result_kind : Kind → Kind
result_kind (Integer k) = Integer k
result_kind Logical = Double
result_kind Double = Double
result_kind Text = Text

-- what every carry keeps
pub record IsCarried (op : Scan) (class : Class) (rows : ℕ) (k : Kept) : Type 0 where
  pub kept : IsKept (scan_fold op (kind_of class)) class rows k
  pub result_is : IsResult (kind_of class)

-- an answer to the fold of doubles: none where it is out of range
abbrev pub IsDouble : Result Seen CellFault → Option (Option ℤ) → Type 0
IsDouble found (Some d) = found ≡ Ok (double d)
IsDouble found None = found ≡ Err Inexact

-- an answer to the scan of cells, from the fold that is kept of the cells before them
pub record IsScanFrom (op : Scan) (a : Kind) (k : Kept) (cells : List Seen) (r : Result SeenColumn OpFault) : Type 0 where
  pub rows : (cs : List Seen) → IsFoldOf op a cs k → Answers (scan_rows op a cs (numbered 0 cells)) (λ c. c.cells) r

-- a refusal is for want of memory
abbrev pub IsMemory : {A : Type 0} → Result A OpFault → Type 0
IsMemory (Ok a) = Unit {0}
IsMemory (Err (At row fault)) = ⊥
IsMemory (Err Memory) = Unit {0}
