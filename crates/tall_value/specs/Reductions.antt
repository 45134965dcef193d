-- Functions of all cells of a column. MathWorks, sum, min, max, any, all, nnz. By the project's own rules
-- (docs/LANGUAGE.md) the double sum is the exact total, the native sum of an integer class is kept in the class at each
-- row, in row order, and a minimum or maximum of no rows, or of NaN alone, is a fault.
use Rattle.std.specs.Prelude.{ℤ, pos, ◌+ℤ◌, Bool, true, false, not, if◌then◌else◌, Option, None, Some, Result, Ok, Err, List, [], ◌∷◌, length}
use Rattle.std.specs.List.{filter, filter_map, list_any, list_all}
use Rattle.std.specs.Ordering.{is_lt}
use Rattle.tall_int.specs.Sums.{clamped_sum}
use Rattle.tall_value.specs.declared.class.Kind.{Kind}
use Rattle.tall_value.specs.declared.class.Kind.TheVariants.{Integer}
use Rattle.tall_value.specs.declared.faults.CellFault.{CellFault}
use Rattle.tall_value.specs.declared.faults.CellFault.TheVariants as cell_fault
use Rattle.tall_value.specs.declared.faults.FaultKind.{FaultKind}
use Rattle.tall_value.specs.declared.faults.FaultKind.TheVariants.{Inexact, NotWhole, NanLogical, NoRows}
use Rattle.tall_value.specs.declared.functions.Reduction.{Reduction}
use Rattle.tall_value.specs.declared.functions.Reduction.TheVariants.{Sum, Min, Max, Any, All, Nnz, Numel, Height}
use Rattle.tall_value.specs.Classes.{least, greatest}
use Rattle.tall_value.specs.Cells.{Seen, whole, logical, double, amount, is_nan}
use Rattle.tall_value.specs.CellOrder.{cell_order}
use Rattle.tall_value.specs.CellOperators.{truth, to_double}
use Rattle.tall_value.specs.Filters.{is_true}

abbrev pub data_fault : CellFault → FaultKind
data_fault cell_fault.Inexact = Inexact
data_fault cell_fault.NotWhole = NotWhole
data_fault cell_fault.NanLogical = NanLogical

abbrev pub or_fault : Result Seen CellFault → Result Seen FaultKind
or_fault (Ok c) = Ok c
or_fault (Err e) = Err (data_fault e)

abbrev pub is_present : Seen → Bool
is_present c = not (is_nan c)

-- the cells that aren't NaN
abbrev pub present : List Seen → List Seen
present cs = filter is_present cs

-- the cells that a fold looks at, which may pass NaN over
abbrev pub used : (passes_nan : Bool) → List Seen → List Seen
used true cs = present cs
used false cs = cs

abbrev pub every_cell : Seen → Bool
every_cell c = true

-- the cell that there is, else another
abbrev pub or_cell : Seen → Option Seen → Seen
or_cell c None = c
or_cell c (Some d) = d

abbrev pub total : List ℤ → ℤ
total [] = pos 0
total (n ∷ ns) = n +ℤ total ns

-- the exact total: NaN where a NaN is met, else refused where its magnitude is above 2^53
abbrev pub exact_total : List Seen → Result Seen FaultKind
exact_total cs = or_fault (to_double (if list_any is_nan cs then None else Some (total (filter_map amount cs))))

-- the sum in the class: the clamped left fold from 0, and for a double the exact total
abbrev pub native_total : Kind → List Seen → Result Seen FaultKind
native_total (Integer k) cs = Ok (whole k (clamped_sum (least k) (greatest k) (pos 0) (filter_map amount cs)))
native_total a cs = exact_total cs

abbrev pub lesser : Seen → Seen → Seen
lesser c d = if is_lt (cell_order d c) then d else c

abbrev pub greater : Seen → Seen → Seen
greater c d = if is_lt (cell_order c d) then d else c

abbrev pub fold : (Seen → Seen → Seen) → Seen → List Seen → Seen
fold f c [] = c
fold f c (d ∷ ds) = fold f (f c d) ds

-- what the cells fold to; none where there is none
abbrev pub folded : (Seen → Seen → Seen) → List Seen → Option Seen
folded f [] = None
folded f (c ∷ cs) = Some (fold f c cs)

abbrev pub or_no_rows : Option Seen → Result Seen FaultKind
or_no_rows (Some c) = Ok c
or_no_rows None = Err NoRows

abbrev pub count : List Seen → Seen
count cs = double (Some (pos (length cs)))

-- a NaN isn't 0
abbrev pub is_nonzero : Seen → Bool
is_nonzero c = elim (truth c) [ Ok b ↦ b | Err e ↦ true ]

-- the reduction of a column of a kind
abbrev pub reduced : Reduction → Kind → List Seen → Result Seen FaultKind
reduced (Sum false false) a cs = exact_total cs
reduced (Sum true false) a cs = native_total a cs
reduced (Sum false true) a cs = exact_total (present cs)
reduced (Sum true true) a cs = native_total a (present cs)
reduced Min a cs = or_no_rows (folded lesser (present cs))
reduced Max a cs = or_no_rows (folded greater (present cs))
reduced Any a cs = Ok (logical (list_any is_true cs))
reduced All a cs = Ok (logical (list_all is_true cs))
reduced Nnz a cs = Ok (count (filter is_nonzero cs))
reduced Numel a cs = Ok (count cs)
reduced Height a cs = Ok (count cs)
