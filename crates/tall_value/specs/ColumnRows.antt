-- Worked values of what is done with columns: row by row, filters, reductions, scans.
use Rattle.std.specs.Prelude.{◌≡◌, refl, ℤ, pos, negsuc, true, false, Option, Some, None, Ok, Err, List, [], ◌∷◌, map}
use Rattle.tall_value.specs.declared.class.IntKind.{IntKind}
use Rattle.tall_value.specs.declared.class.IntKind.TheVariants.{Int8, Int16, Uint8, Uint64}
use Rattle.tall_value.specs.declared.class.Kind.TheVariants.{Integer, Logical, Double}
use Rattle.tall_value.specs.declared.faults.CellFault.TheVariants.{NotWhole}
use Rattle.tall_value.specs.declared.faults.CellFault.TheVariants as cell_fault
use Rattle.tall_value.specs.declared.faults.FaultKind.TheVariants.{Inexact, NoRows}
use Rattle.tall_value.specs.declared.functions.Reduction.TheVariants.{Sum, Min, Max, Any, All, Nnz, Height}
use Rattle.tall_value.specs.declared.functions.Scan.TheVariants.{CumSum, CumMin, CumMax}
use Rattle.tall_value.specs.declared.operators.Binary.TheVariants.{Sub, Div, Gt}
use Rattle.tall_value.specs.declared.operators.Unary.TheVariants.{Neg}
use Rattle.tall_value.specs.Cells.{Seen, whole, logical, double}
use Rattle.tall_value.specs.Columns.{numbered}
use Rattle.tall_value.specs.Elementwise.{unary_rows, binary_rows, scalar_rows}
use Rattle.tall_value.specs.Filters.{kept}
use Rattle.tall_value.specs.Reductions.{reduced}
use Rattle.tall_value.specs.Scans.{scanned}

-- a column of an integer class, and one of doubles
abbrev integers : IntKind → List ℤ → List Seen
integers k ns = map (whole k) ns

abbrev doubles : List (Option ℤ) → List Seen
doubles ds = map double ds

-- 100, 100, -100 of int8
abbrev swing : List Seen
swing = integers Int8 (pos 100 ∷ pos 100 ∷ negsuc 99 ∷ [])

-- 3, 5
abbrev pair : List Seen
pair = doubles (Some (pos 3) ∷ Some (pos 5) ∷ [])

-- sum(x, 'native') of 100, 100, -100 of int8 is 27
native_sum_in_row_order : reduced (Sum true false) (Integer Int8) swing ≡ Ok (whole Int8 (pos 27))
native_sum_in_row_order = refl

-- sum(x) of 100, 100, -100 of int8 is 100
exact_sum : reduced (Sum false false) (Integer Int8) swing ≡ Ok (double (Some (pos 100)))
exact_sum = refl

-- cumsum(x) of 100, 100, -100 of int8 is 100, 127, 27
running_sums : scanned CumSum (Integer Int8) (numbered 1 swing) ≡ Ok (numbered 1 (integers Int8 (pos 100 ∷ pos 127 ∷ pos 27 ∷ [])))
running_sums = refl

-- sum(x, 'native') of 30000, 5000, -1000 of int16 is 31767
native_sum_of_int16 : reduced (Sum true false) (Integer Int16) (integers Int16 (pos 30000 ∷ pos 5000 ∷ negsuc 999 ∷ [])) ≡ Ok (whole Int16 (pos 31767))
native_sum_of_int16 = refl

-- x - 10 of 5, 10, 255 of uint8 is 0, 0, 245
saturated_difference : scalar_rows Sub false (double (Some (pos 10))) (numbered 1 (integers Uint8 (pos 5 ∷ pos 10 ∷ pos 255 ∷ []))) ≡ Ok (numbered 1 (integers Uint8 (pos 0 ∷ pos 0 ∷ pos 245 ∷ [])))
saturated_difference = refl

-- -x of -128, 0, 127 of int8 is 127, 0, -127
negated_rows : unary_rows Neg (numbered 1 (integers Int8 (negsuc 127 ∷ pos 0 ∷ pos 127 ∷ []))) ≡ Ok (numbered 1 (integers Int8 (pos 127 ∷ pos 0 ∷ negsuc 126 ∷ [])))
negated_rows = refl

-- the greatest of uint64 twice
abbrev greatest_twice : List Seen
greatest_twice = integers Uint64 (pos 18446744073709551615 ∷ pos 18446744073709551615 ∷ [])

-- sum(x, 'native') of the two is the greatest of uint64
native_sum_at_the_end : reduced (Sum true false) (Integer Uint64) greatest_twice ≡ Ok (whole Uint64 (pos 18446744073709551615))
native_sum_at_the_end = refl

-- sum(x) of the two is refused: Inexact
exact_sum_refused : reduced (Sum false false) (Integer Uint64) greatest_twice ≡ Err Inexact
exact_sum_refused = refl

-- max(x) of 3, 5 is 5
greatest_of_doubles : reduced Max Double pair ≡ Ok (double (Some (pos 5)))
greatest_of_doubles = refl

-- x - y of 3, 5 and 1, 10 is 2, -5
row_by_row : binary_rows Sub (numbered 1 pair) (numbered 1 (doubles (Some (pos 1) ∷ Some (pos 10) ∷ []))) ≡ Ok (numbered 1 (doubles (Some (pos 2) ∷ Some (negsuc 4) ∷ [])))
row_by_row = refl

-- x ./ y of 3, 5 and 1, 2 at the rows 4 and 9 of a datastore is refused at row 9: NotWhole
fault_at_its_row : binary_rows Div ((4, double (Some (pos 3))) ∷ (9, double (Some (pos 5))) ∷ []) ((4, double (Some (pos 1))) ∷ (9, double (Some (pos 2))) ∷ []) ≡ Err (9, NotWhole)
fault_at_its_row = refl

-- x ./ y of 3, 5 and -2, 0 is refused at row 1: NotWhole
first_failing_row : binary_rows Div (numbered 1 pair) (numbered 1 (doubles (Some (negsuc 1) ∷ Some (pos 0) ∷ []))) ≡ Err (1, NotWhole)
first_failing_row = refl

-- 6 ./ x of 3, 0, 4 is refused at row 2: Inexact
later_row_fails : scalar_rows Div true (double (Some (pos 6))) (numbered 1 (doubles (Some (pos 3) ∷ Some (pos 0) ∷ Some (pos 4) ∷ []))) ≡ Err (2, cell_fault.Inexact)
later_row_fails = refl

-- -x of 3, NaN at the rows 4 and 9 of a datastore is -3, NaN at these rows
numbers_are_kept : unary_rows Neg ((4, double (Some (pos 3))) ∷ (9, double None) ∷ []) ≡ Ok ((4, double (Some (negsuc 2))) ∷ (9, double None) ∷ [])
numbers_are_kept = refl

-- x ./ 2 of 6, 3 at the rows 4 and 9 is refused at row 9: NotWhole
fault_at_a_kept_row : scalar_rows Div false (double (Some (pos 2))) ((4, double (Some (pos 6))) ∷ (9, double (Some (pos 3))) ∷ []) ≡ Err (9, NotWhole)
fault_at_a_kept_row = refl

-- 1, -2, 3 and which are above 0
abbrev signs : List Seen
signs = doubles (Some (pos 1) ∷ Some (negsuc 1) ∷ Some (pos 3) ∷ [])

-- x > 0 of 1, -2, 3 is true, false, true
mask_of_signs : scalar_rows Gt false (double (Some (pos 0))) (numbered 1 signs) ≡ Ok (numbered 1 (logical true ∷ logical false ∷ logical true ∷ []))
mask_of_signs = refl

-- x(mask) of 1, -2, 3 and true, false, true is 1, 3 at the rows 1 and 3
kept_rows : kept (numbered 1 signs) (logical true ∷ logical false ∷ logical true ∷ []) ≡ (1, double (Some (pos 1))) ∷ (3, double (Some (pos 3))) ∷ []
kept_rows = refl

-- x(mask) where no row of the mask is true has no rows
no_rows_kept : kept (numbered 1 signs) (logical false ∷ logical false ∷ logical false ∷ []) ≡ []
no_rows_kept = refl

-- sum(x, 'native') of no rows of int8 is 0
native_sum_of_none : reduced (Sum true false) (Integer Int8) [] ≡ Ok (whole Int8 (pos 0))
native_sum_of_none = refl

-- all(x) of no rows is true
all_of_none : reduced All Logical [] ≡ Ok (logical true)
all_of_none = refl

-- any(x) of no rows is false
any_of_none : reduced Any Logical [] ≡ Ok (logical false)
any_of_none = refl

-- max(x) of no rows is refused: NoRows
greatest_of_none : reduced Max (Integer Int8) [] ≡ Err NoRows
greatest_of_none = refl

-- NaN, 4, NaN, 0
abbrev gaps : List Seen
gaps = doubles (None ∷ Some (pos 4) ∷ None ∷ Some (pos 0) ∷ [])

-- min(x) of NaN, 4, NaN, 0 is 0
least_passes_nan_over : reduced Min Double gaps ≡ Ok (double (Some (pos 0)))
least_passes_nan_over = refl

-- min(x) of NaN is refused: NoRows
least_of_nans : reduced Min Double (doubles (None ∷ [])) ≡ Err NoRows
least_of_nans = refl

-- sum(x) of NaN, 4, NaN, 0 is NaN
sum_with_nan : reduced (Sum false false) Double gaps ≡ Ok (double None)
sum_with_nan = refl

-- sum(x, 'omitnan') of NaN, 4, NaN, 0 is 4
sum_without_nan : reduced (Sum false true) Double gaps ≡ Ok (double (Some (pos 4)))
sum_without_nan = refl

-- nnz(x) of NaN, 4, NaN, 0 is 3: NaN is counted
nonzero_counts_nan : reduced Nnz Double gaps ≡ Ok (double (Some (pos 3)))
nonzero_counts_nan = refl

-- height(T), where the first column is NaN, 4, NaN, 0, is 4
rows_counted : reduced Height Double gaps ≡ Ok (double (Some (pos 4)))
rows_counted = refl

-- cummin(x) of NaN, 4, NaN, 0 is NaN, 4, 4, 0
running_least : scanned CumMin Double (numbered 1 gaps) ≡ Ok (numbered 1 (doubles (None ∷ Some (pos 4) ∷ Some (pos 4) ∷ Some (pos 0) ∷ [])))
running_least = refl

-- cummax(x) of NaN, 4, NaN, 0 is NaN, 4, 4, 4
running_greatest : scanned CumMax Double (numbered 1 gaps) ≡ Ok (numbered 1 (doubles (None ∷ Some (pos 4) ∷ Some (pos 4) ∷ Some (pos 4) ∷ [])))
running_greatest = refl

-- cumsum(x) of 2, NaN, 4 is 2, NaN, NaN
running_sum_after_nan : scanned CumSum Double (numbered 1 (doubles (Some (pos 2) ∷ None ∷ Some (pos 4) ∷ []))) ≡ Ok (numbered 1 (doubles (Some (pos 2) ∷ None ∷ None ∷ [])))
running_sum_after_nan = refl

-- cumsum(x) of 2^53, 1, -1 is refused at row 2, though the third sum is in range: Inexact
running_sum_refused : scanned CumSum Double (numbered 1 (doubles (Some (pos 9007199254740992) ∷ Some (pos 1) ∷ Some (negsuc 0) ∷ []))) ≡ Err (2, cell_fault.Inexact)
running_sum_refused = refl

-- sum(x) of 2^53, 1, -1 is 2^53: the total alone counts
total_in_range : reduced (Sum false false) Double (doubles (Some (pos 9007199254740992) ∷ Some (pos 1) ∷ Some (negsuc 0) ∷ [])) ≡ Ok (double (Some (pos 9007199254740992)))
total_in_range = refl
