-- Worked values of the scans, beside those of ColumnRows.
use Rattle.std.specs.Prelude.{◌≡◌, refl, ℤ, pos, negsuc, true, false, Some, None, Ok, Err, [], ◌∷◌}
use Rattle.tall_value.specs.declared.class.IntKind.TheVariants.{Int8, Uint8}
use Rattle.tall_value.specs.declared.class.Kind.TheVariants.{Integer, Logical, Double}
use Rattle.tall_value.specs.declared.faults.CellFault.TheVariants.{Inexact}
use Rattle.tall_value.specs.declared.functions.Scan.TheVariants.{CumSum, CumMin, CumMax}
use Rattle.tall_value.specs.Cells.{Seen, whole, logical, double}
use Rattle.tall_value.specs.Columns.{numbered}
use Rattle.tall_value.specs.Scans.{scanned}

abbrev number : ℤ → Seen
number n = double (Some n)

abbrev nan : Seen
nan = double None

-- ---- cumsum

-- cumsum(x) of true, false, true is 1, 1, 2
running_sum_of_logicals : scanned CumSum Logical (numbered 1 (logical true ∷ logical false ∷ logical true ∷ [])) ≡ Ok (numbered 1 (number (pos 1) ∷ number (pos 1) ∷ number (pos 2) ∷ []))
running_sum_of_logicals = refl

-- cumsum(x) of 200, 100, 3 of uint8 is 200, 255, 255
running_sum_of_integers : scanned CumSum (Integer Uint8) (numbered 1 (whole Uint8 (pos 200) ∷ whole Uint8 (pos 100) ∷ whole Uint8 (pos 3) ∷ [])) ≡ Ok (numbered 1 (whole Uint8 (pos 200) ∷ whole Uint8 (pos 255) ∷ whole Uint8 (pos 255) ∷ []))
running_sum_of_integers = refl

-- cumsum(x) of 2^53, NaN, 1 is 2^53, NaN, NaN: the NaN comes before the row at which the sum would be 2^53 + 1
nan_before_the_end : scanned CumSum Double (numbered 1 (number (pos 9007199254740992) ∷ nan ∷ number (pos 1) ∷ [])) ≡ Ok (numbered 1 (number (pos 9007199254740992) ∷ nan ∷ nan ∷ []))
nan_before_the_end = refl

-- cumsum(x) of 2^53, 1, NaN is refused at row 2: Inexact
nan_after_the_end : scanned CumSum Double (numbered 1 (number (pos 9007199254740992) ∷ number (pos 1) ∷ nan ∷ [])) ≡ Err (2, Inexact)
nan_after_the_end = refl

-- cumsum(x) of 1 - 2^53, -1, -1, -1 at the rows 4, 7, 8, 9 of a datastore is refused at row 8, the first out of range
first_row_out_of_range : scanned CumSum Double ((4, number (negsuc 9007199254740990)) ∷ (7, number (negsuc 0)) ∷ (8, number (negsuc 0)) ∷ (9, number (negsuc 0)) ∷ []) ≡ Err (8, Inexact)
first_row_out_of_range = refl

-- cumsum(x) of no rows has no rows
running_sum_of_nothing : scanned CumSum Double [] ≡ Ok []
running_sum_of_nothing = refl

-- ---- cummin, cummax

-- cummin(x) of 3, -2, 0 of int8 is 3, -2, -2
running_least_of_integers : scanned CumMin (Integer Int8) (numbered 1 (whole Int8 (pos 3) ∷ whole Int8 (negsuc 1) ∷ whole Int8 (pos 0) ∷ [])) ≡ Ok (numbered 1 (whole Int8 (pos 3) ∷ whole Int8 (negsuc 1) ∷ whole Int8 (negsuc 1) ∷ []))
running_least_of_integers = refl

-- cummax(x) of -2, 3, 0 of int8 is -2, 3, 3
running_greatest_of_integers : scanned CumMax (Integer Int8) (numbered 1 (whole Int8 (negsuc 1) ∷ whole Int8 (pos 3) ∷ whole Int8 (pos 0) ∷ [])) ≡ Ok (numbered 1 (whole Int8 (negsuc 1) ∷ whole Int8 (pos 3) ∷ whole Int8 (pos 3) ∷ []))
running_greatest_of_integers = refl

-- cummin(x) of NaN, NaN at the rows 3 and 6 of a datastore is NaN, NaN at these rows
running_least_of_nans : scanned CumMin Double ((3, nan) ∷ (6, nan) ∷ []) ≡ Ok ((3, nan) ∷ (6, nan) ∷ [])
running_least_of_nans = refl

-- cummax(x) of no rows has no rows
running_greatest_of_nothing : scanned CumMax Double [] ≡ Ok []
running_greatest_of_nothing = refl
