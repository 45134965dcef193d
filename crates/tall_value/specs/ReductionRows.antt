-- Worked values of the reductions, beside those of ColumnRows.
use Rattle.std.specs.Prelude.{◌≡◌, refl, ℤ, pos, negsuc, true, false, Some, None, Ok, Err, List, [], ◌∷◌, codes}
use Rattle.tall_value.specs.declared.class.IntKind.TheVariants.{Int8, Uint64}
use Rattle.tall_value.specs.declared.class.Kind.TheVariants.{Integer, Logical, Double, Text}
use Rattle.tall_value.specs.declared.faults.FaultKind.TheVariants.{Inexact, NoRows}
use Rattle.tall_value.specs.declared.functions.Reduction.TheVariants.{Sum, Min, Max, Any, All, Nnz, Numel, Height}
use Rattle.tall_value.specs.Cells.{Seen, whole, logical, double, text}
use Rattle.tall_value.specs.Reductions.{reduced}

abbrev number : ℤ → Seen
number n = double (Some n)

abbrev nan : Seen
nan = double None

-- false, true, false
abbrev mixture : List Seen
mixture = logical false ∷ logical true ∷ logical false ∷ []

-- 2^53, NaN, 1
abbrev large : List Seen
large = number (pos 9007199254740992) ∷ nan ∷ number (pos 1) ∷ []

-- ---- any, all

-- any(x) of false, true, false is true
any_of_some : reduced Any Logical mixture ≡ Ok (logical true)
any_of_some = refl

-- any(x) of false, false is false
any_of_false : reduced Any Logical (logical false ∷ logical false ∷ []) ≡ Ok (logical false)
any_of_false = refl

-- all(x) of false, true, false is false
all_of_some : reduced All Logical mixture ≡ Ok (logical false)
all_of_some = refl

-- all(x) of true, true is true
all_of_true : reduced All Logical (logical true ∷ logical true ∷ []) ≡ Ok (logical true)
all_of_true = refl

-- any(x) of no rows is false
any_of_nothing : reduced Any Logical [] ≡ Ok (logical false)
any_of_nothing = refl

-- all(x) of no rows is true
all_of_nothing : reduced All Logical [] ≡ Ok (logical true)
all_of_nothing = refl

-- ---- numel, height, nnz

-- numel(x) of 2^53, NaN, 1 is 3: NaN is counted
number_of_rows : reduced Numel Double large ≡ Ok (number (pos 3))
number_of_rows = refl

-- numel(x) of '', 'a' is 2
number_of_texts : reduced Numel Text (text (codes "") ∷ text (codes "a") ∷ []) ≡ Ok (number (pos 2))
number_of_texts = refl

-- numel(x) of no rows is 0
number_of_nothing : reduced Numel Double [] ≡ Ok (number (pos 0))
number_of_nothing = refl

-- height(T), where the first column is 'a', is 1
height_of_texts : reduced Height Text (text (codes "a") ∷ []) ≡ Ok (number (pos 1))
height_of_texts = refl

-- height(T) of no rows is 0
height_of_nothing : reduced Height (Integer Int8) [] ≡ Ok (number (pos 0))
height_of_nothing = refl

-- nnz(x) of -1, 0, 5 of int8 is 2
nonzero_integers : reduced Nnz (Integer Int8) (whole Int8 (negsuc 0) ∷ whole Int8 (pos 0) ∷ whole Int8 (pos 5) ∷ []) ≡ Ok (number (pos 2))
nonzero_integers = refl

-- nnz(x) of false, true, false is 1
nonzero_logicals : reduced Nnz Logical mixture ≡ Ok (number (pos 1))
nonzero_logicals = refl

-- nnz(x) of no rows is 0
nonzero_of_nothing : reduced Nnz Double [] ≡ Ok (number (pos 0))
nonzero_of_nothing = refl

-- ---- sum

-- sum(x) of true, false, true is 2
sum_of_logicals : reduced (Sum false false) Logical (logical true ∷ logical false ∷ logical true ∷ []) ≡ Ok (number (pos 2))
sum_of_logicals = refl

-- sum(x) of no rows is 0
sum_of_nothing : reduced (Sum false false) Double [] ≡ Ok (number (pos 0))
sum_of_nothing = refl

-- sum(x) of 2^53, NaN, 1 is NaN: the NaN comes before the total, which is out of range
sum_over_nan : reduced (Sum false false) Double large ≡ Ok nan
sum_over_nan = refl

-- sum(x, 'omitnan') of 2^53, NaN, 1 is refused: Inexact
sum_past_nan : reduced (Sum false true) Double large ≡ Err Inexact
sum_past_nan = refl

-- sum(x, 'omitnan') of NaN, NaN is 0
sum_of_nans_alone : reduced (Sum false true) Double (nan ∷ nan ∷ []) ≡ Ok (number (pos 0))
sum_of_nans_alone = refl

-- sum(x, 'omitnan') of 2^53, 1 of uint64 is refused: the exact total is a double, and 2^53 + 1 is none
sum_of_integers_refused : reduced (Sum false true) (Integer Uint64) (whole Uint64 (pos 9007199254740992) ∷ whole Uint64 (pos 1) ∷ []) ≡ Err Inexact
sum_of_integers_refused = refl

-- sum(x, 'native') of 4, NaN, -2 is NaN, as sum(x)
native_sum_over_nan : reduced (Sum true false) Double (number (pos 4) ∷ nan ∷ number (negsuc 1) ∷ []) ≡ Ok nan
native_sum_over_nan = refl

-- sum(x, 'native', 'omitnan') of 4, NaN, -2 is 2
native_sum_past_nan : reduced (Sum true true) Double (number (pos 4) ∷ nan ∷ number (negsuc 1) ∷ []) ≡ Ok (number (pos 2))
native_sum_past_nan = refl

-- sum(x, 'native', 'omitnan') of 2^53, NaN, 1 is refused: Inexact
native_sum_of_doubles_refused : reduced (Sum true true) Double large ≡ Err Inexact
native_sum_of_doubles_refused = refl

-- sum(x, 'native', 'omitnan') of 100, 100, -100 of int8 is 27: integers have no NaN to pass over
native_sum_of_integers : reduced (Sum true true) (Integer Int8) (whole Int8 (pos 100) ∷ whole Int8 (pos 100) ∷ whole Int8 (negsuc 99) ∷ []) ≡ Ok (whole Int8 (pos 27))
native_sum_of_integers = refl

-- ---- min, max

-- min(x) of 3, -128, 127 of int8 is -128
least_integer : reduced Min (Integer Int8) (whole Int8 (pos 3) ∷ whole Int8 (negsuc 127) ∷ whole Int8 (pos 127) ∷ []) ≡ Ok (whole Int8 (negsuc 127))
least_integer = refl

-- max(x) of 3, -128, 127 of int8 is 127
greatest_integer : reduced Max (Integer Int8) (whole Int8 (pos 3) ∷ whole Int8 (negsuc 127) ∷ whole Int8 (pos 127) ∷ []) ≡ Ok (whole Int8 (pos 127))
greatest_integer = refl

-- max(x) of NaN, -7, NaN is -7
greatest_passes_nan_over : reduced Max Double (nan ∷ number (negsuc 6) ∷ nan ∷ []) ≡ Ok (number (negsuc 6))
greatest_passes_nan_over = refl

-- max(x) of NaN is refused: NoRows
greatest_of_nans : reduced Max Double (nan ∷ []) ≡ Err NoRows
greatest_of_nans = refl

-- min(x) of no rows is refused: NoRows
least_of_nothing : reduced Min Double [] ≡ Err NoRows
least_of_nothing = refl
