-- Worked values of scans behind some cells, of the carries of blocks, and of rows that follow others.
use Rattle.std.specs.Prelude.{◌≡◌, refl, ℤ, pos, negsuc, true, None, Some, Ok, Err, List, [], ◌∷◌, map}
use Rattle.tall_value.specs.declared.class.IntKind.TheVariants.{Int8}
use Rattle.tall_value.specs.declared.class.Kind.TheVariants.{Integer, Logical, Double}
use Rattle.tall_value.specs.declared.faults.CellFault.TheVariants.{Inexact, NanLogical}
use Rattle.tall_value.specs.declared.functions.Scan.TheVariants.{CumSum, CumMin, CumMax}
use Rattle.tall_value.specs.Cells.{Seen, whole, logical}
use Rattle.tall_semantics.specs.Samples.{doubles, number, nan}
use Rattle.tall_semantics.specs.ScanCarries.{fold_of}
use Rattle.tall_blocks.specs.Carries.{Rows, flat, rows_joined, scanned_behind, carry_for}

abbrev small : ℤ → Seen
small n = whole Int8 n

-- ---- cumsum of 100, 100, then -50 of int8: 100, 127, then 77

first_integers : scanned_behind CumSum (Integer Int8) [] ((1, small (pos 100)) ∷ (2, small (pos 100)) ∷ []) ≡ Ok ((1, small (pos 100)) ∷ (2, small (pos 127)) ∷ [])
first_integers = refl

integers_go_on : scanned_behind CumSum (Integer Int8) (small (pos 100) ∷ small (pos 100) ∷ []) ((3, small (negsuc 49)) ∷ []) ≡ Ok ((3, small (pos 77)) ∷ [])
integers_go_on = refl

-- the one cell of the carry stands for both
integers_from_the_carry : scanned_behind CumSum (Integer Int8) (small (pos 127) ∷ []) ((3, small (negsuc 49)) ∷ []) ≡ Ok ((3, small (pos 77)) ∷ [])
integers_from_the_carry = refl

-- ---- of logicals and doubles: NaN stays, and the sum that is out of range has its row's number

logicals_go_on : scanned_behind CumSum Logical (logical true ∷ logical true ∷ []) ((5, logical true) ∷ []) ≡ Ok ((5, number (pos 3)) ∷ [])
logicals_go_on = refl

nan_goes_on : scanned_behind CumSum Double (nan ∷ []) ((5, number (pos 1)) ∷ []) ≡ Ok ((5, nan) ∷ [])
nan_goes_on = refl

out_of_range : scanned_behind CumSum Double (number (pos 9007199254740992) ∷ []) ((7, number (pos 0)) ∷ (8, number (pos 1)) ∷ (9, number (negsuc 0)) ∷ []) ≡ Err (8, Inexact)
out_of_range = refl

-- behind a fold out of range the first row of these rows whose fold is out of range is the fault, whatever was before
within_again : scanned_behind CumSum Double (number (pos 9007199254740992) ∷ number (pos 1) ∷ []) ((9, number (negsuc 0)) ∷ []) ≡ Ok ((9, number (pos 9007199254740992)) ∷ [])
within_again = refl

-- ---- cummin and cummax pass NaN over

least_goes_on : scanned_behind CumMin Double (number (pos 2) ∷ []) ((4, number (pos 5)) ∷ (5, nan) ∷ (6, number (pos 1)) ∷ []) ≡ Ok ((4, number (pos 2)) ∷ (5, number (pos 2)) ∷ (6, number (pos 1)) ∷ [])
least_goes_on = refl

-- ---- before the first row each carry has its scan's class

starts_of_doubles : map (λ s. fold_of s Double []) (CumSum ∷ CumMin ∷ CumMax ∷ []) ≡ Some (number (pos 0)) ∷ Some nan ∷ Some nan ∷ []
starts_of_doubles = refl

starts_of_integers : map (λ s. fold_of s (Integer Int8) []) (CumSum ∷ CumMin ∷ CumMax ∷ []) ≡ Some (small (pos 0)) ∷ Some (small (pos 127)) ∷ Some (small (negsuc 127)) ∷ []
starts_of_integers = refl

-- the class's greatest value stands for no cells, also before a row that has it
least_from_the_start : scanned_behind CumMin (Integer Int8) (small (pos 127) ∷ []) ((1, small (pos 127)) ∷ (2, small (pos 5)) ∷ []) ≡ Ok ((1, small (pos 127)) ∷ (2, small (pos 5)) ∷ [])
least_from_the_start = refl

-- ---- by blocks

abbrev in_blocks : List (List Seen)
in_blocks = doubles (Some (pos 9007199254740992) ∷ []) ∷ doubles (Some (pos 1) ∷ []) ∷ doubles (Some (negsuc 4) ∷ []) ∷ []

carries_of_blocks : map (carry_for CumSum Double in_blocks) (0 ∷ 1 ∷ 2 ∷ 3 ∷ []) ≡ Some (number (pos 0)) ∷ Some (number (pos 9007199254740992)) ∷ None ∷ None ∷ []
carries_of_blocks = refl

all_cells : flat in_blocks ≡ doubles (Some (pos 9007199254740992) ∷ Some (pos 1) ∷ Some (negsuc 4) ∷ [])
all_cells = refl

-- ---- rows and then others

abbrev one : Rows
one = (1, number (pos 1)) ∷ []

abbrev other : Rows
other = (2, nan) ∷ []

both_parts : rows_joined (Ok one) (Ok other) ≡ Ok ((1, number (pos 1)) ∷ (2, nan) ∷ [])
both_parts = refl

fault_of_the_first : rows_joined (Err (1, Inexact)) (Err (2, NanLogical)) ≡ Err (1, Inexact)
fault_of_the_first = refl

fault_of_the_second : rows_joined (Ok one) (Err (2, NanLogical)) ≡ Err (2, NanLogical)
fault_of_the_second = refl
