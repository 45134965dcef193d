-- Worked values of what summaries, carries and ends keep, and of scans that go on from a carry.
use Rattle.std.specs.Prelude.{◌≡◌, refl, ℤ, ℕ, pos, negsuc, Bool, true, false, Some, None, Ok, Err, List, [], ◌∷◌, map}
use Rattle.tall_value.specs.declared.class.Class.TheVariants as class
use Rattle.tall_value.specs.declared.class.IntKind.TheVariants.{Int8, Uint8}
use Rattle.tall_value.specs.declared.class.Kind.TheVariants.{Integer, Logical, Double, Text}
use Rattle.tall_value.specs.declared.faults.CellFault.TheVariants.{Inexact}
use Rattle.tall_value.specs.declared.functions.Reduction.TheVariants as reduction
use Rattle.tall_value.specs.declared.functions.Scan.TheVariants.{CumSum, CumMin, CumMax}
use Rattle.tall_value.specs.Cells.{Seen, whole, logical, double}
use Rattle.tall_value.specs.Columns.{numbered}
use Rattle.tall_dense.specs.Columns.{SeenColumn}
use Rattle.tall_fold.specs.Carries.{followed, next_best, next_sum, running, scan_cell, scan_fold, scan_rows}
use Rattle.std.specs.Int.{int_max, int_min}
use Rattle.tall_fold.specs.FirstAndLast.{SeenEnds, column_of, with_rows}
use Rattle.tall_fold.specs.Forms.{clamp_function, each_true, exact_total, form_of, greatest_number, how_many, least_number, some_true, total_unless_nan}
use Rattle.tall_value.specs.Reductions.{used}
use Rattle.tall_fold.specs.Summaries.{number_cell}

abbrev number : ℤ → Seen
number n = double (Some n)

abbrev nan : Seen
nan = double None

abbrev int8 : ℤ → Seen
int8 n = whole Int8 n

-- ---- what a reduction needs of the cells

-- of integers, logicals, doubles and texts
forms : map (λ r. map (form_of r) (Integer Uint8 ∷ Logical ∷ Double ∷ Text ∷ [])) (reduction.Sum true false ∷ reduction.Sum false false ∷ reduction.Min ∷ reduction.Max ∷ reduction.Any ∷ reduction.All ∷ reduction.Nnz ∷ reduction.Numel ∷ reduction.Height ∷ [])
    ≡ (clamp_function ∷ exact_total ∷ exact_total ∷ exact_total ∷ [])
    ∷ (exact_total ∷ exact_total ∷ exact_total ∷ exact_total ∷ [])
    ∷ (least_number ∷ least_number ∷ least_number ∷ least_number ∷ [])
    ∷ (greatest_number ∷ greatest_number ∷ greatest_number ∷ greatest_number ∷ [])
    ∷ (some_true ∷ some_true ∷ some_true ∷ some_true ∷ [])
    ∷ (each_true ∷ each_true ∷ each_true ∷ each_true ∷ [])
    ∷ (how_many ∷ how_many ∷ how_many ∷ how_many ∷ [])
    ∷ (how_many ∷ how_many ∷ how_many ∷ how_many ∷ [])
    ∷ (how_many ∷ how_many ∷ how_many ∷ how_many ∷ []) ∷ []
forms = refl

-- the total of 3, NaN, 4 is none, and 7 where NaN is passed over
total_of_nan : total_unless_nan (number (pos 3) ∷ nan ∷ number (pos 4) ∷ []) ≡ None
total_of_nan = refl

total_but_nan : total_unless_nan (used true (number (pos 3) ∷ nan ∷ number (pos 4) ∷ [])) ≡ Some (pos 7)
total_but_nan = refl

-- the number 1 in a column of each kind
number_in_kinds : map (λ a. number_cell a (pos 1)) (Integer Int8 ∷ Logical ∷ Double ∷ []) ≡ int8 (pos 1) ∷ number (pos 1) ∷ number (pos 1) ∷ []
number_in_kinds = refl

-- ---- scans from a carry

-- behind 100 of int8, cumsum(x) of 100, -100 is 127, 27
integers_behind : scan_rows CumSum (Integer Int8) (int8 (pos 100) ∷ []) (numbered 0 (int8 (pos 100) ∷ int8 (negsuc 99) ∷ [])) ≡ Ok (numbered 0 (int8 (pos 127) ∷ int8 (pos 27) ∷ []))
integers_behind = refl

-- behind 2^53, cumsum(x) of -1, 2 is refused at the second row of the column
doubles_behind : scan_rows CumSum Double (number (pos 9007199254740992) ∷ []) (numbered 0 (number (negsuc 0) ∷ number (pos 2) ∷ [])) ≡ Err (1, Inexact)
doubles_behind = refl

-- behind 2^53 and 1, whose own fold is out of range, cumsum(x) of -1 is 2^53
out_of_range_behind : scan_rows CumSum Double (number (pos 9007199254740992) ∷ number (pos 1) ∷ []) (numbered 0 (number (negsuc 0) ∷ [])) ≡ Ok (numbered 0 (number (pos 9007199254740992) ∷ []))
out_of_range_behind = refl

-- behind NaN, cumsum(x) of 5 is NaN, and cummin(x) is 5
nan_behind : scan_rows CumSum Double (nan ∷ []) (numbered 0 (number (pos 5) ∷ [])) ≡ Ok (numbered 0 (nan ∷ []))
nan_behind = refl

nan_passed_over : scan_rows CumMin Double (nan ∷ []) (numbered 0 (number (pos 5) ∷ [])) ≡ Ok (numbered 0 (number (pos 5) ∷ []))
nan_passed_over = refl

-- the fold of no rows: 0, the greatest and the least int8, and NaN
folds_of_nothing : map (λ op. scan_cell op (Integer Int8) []) (CumSum ∷ CumMin ∷ CumMax ∷ []) ≡ Ok (int8 (pos 0)) ∷ Ok (int8 (pos 127)) ∷ Ok (int8 (negsuc 127)) ∷ []
folds_of_nothing = refl

double_folds_of_nothing : map (λ op. scan_cell op Double []) (CumSum ∷ CumMin ∷ CumMax ∷ []) ≡ Ok (number (pos 0)) ∷ Ok nan ∷ Ok nan ∷ []
double_folds_of_nothing = refl

-- what a carry keeps: of integers the sum in the class, else the exact sum
kept_sums : map (scan_fold CumSum) (Integer Int8 ∷ Logical ∷ Double ∷ []) ≡ reduction.Sum true false ∷ reduction.Sum false false ∷ reduction.Sum false false ∷ []
kept_sums = refl

-- the first fault of some rows and then others
first_fault : followed (Err (3, Inexact)) (Err (1, Inexact)) ≡ Err (3, Inexact)
first_fault = refl

-- from 100 of int8 on: 100, -100
sums_in_turn : running next_sum (int8 (pos 100)) (int8 (pos 100) ∷ int8 (negsuc 99) ∷ []) ≡ int8 (pos 127) ∷ int8 (pos 27) ∷ []
sums_in_turn = refl

-- from no double on: NaN, 3, 2
least_in_turn : running (next_best int_min) nan (nan ∷ number (pos 3) ∷ number (pos 2) ∷ []) ≡ nan ∷ number (pos 3) ∷ number (pos 2) ∷ []
least_in_turn = refl

greatest_in_turn : running (next_best int_max) (int8 (negsuc 0)) (int8 (negsuc 1) ∷ int8 (pos 4) ∷ []) ≡ int8 (negsuc 0) ∷ int8 (pos 4) ∷ []
greatest_in_turn = refl

-- ---- ends

abbrev ends : Bool → List (ℕ × Seen) → SeenEnds
ends last rows = record { last = last; most = 2; class = class.Double; rows = rows }

abbrev rows : List (ℕ × Seen)
rows = (2, number (pos 6)) ∷ (3, nan) ∷ []

-- head(x, 2) of rows of which two came is as it was; tail(x, 2) drops the first
first_stay : with_rows (ends false rows) ((5, number (pos 8)) ∷ []) ≡ ends false rows
first_stay = refl

last_move : with_rows (ends true rows) ((5, number (pos 8)) ∷ []) ≡ ends true ((3, nan) ∷ (5, number (pos 8)) ∷ [])
last_move = refl

-- the column of what is kept
kept_column : column_of class.Double rows ≡ record { class = class.Double; cells = number (pos 6) ∷ nan ∷ [] }
kept_column = refl
