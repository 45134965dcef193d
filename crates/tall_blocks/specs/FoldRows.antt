-- Worked values of what reductions and methods keep of some cells, and of others behind them.
use Rattle.std.specs.Prelude.{◌≡◌, refl, ℤ, pos, negsuc, true, false, Some, Ok, Err, [], ◌∷◌, map}
use Rattle.tall_value.specs.declared.class.IntKind.TheVariants.{Int8, Int16}
use Rattle.tall_value.specs.declared.class.Kind.TheVariants.{Integer, Double}
use Rattle.tall_value.specs.declared.faults.FaultKind.TheVariants.{Inexact, NoRows}
use Rattle.tall_value.specs.declared.functions.Method.TheVariants as method
use Rattle.tall_value.specs.declared.functions.Reduction.TheVariants.{Sum, Min, Max, Any, All, Nnz, Numel, Height}
use Rattle.tall_value.specs.Cells.{Seen, whole, logical}
use Rattle.tall_value.specs.Reductions.{lesser, is_nonzero, used}
use Rattle.tall_semantics.specs.Samples.{number, nan}
use Rattle.tall_blocks.specs.Folds.{exact_sum, least_cell, greatest_cell, some_true, all_true, number_of, value_of, best_joined, joined, class_sum, start, more, part_of, with_part, reduction_fold, omits, reduction_result, method_fold, method_omits, method_result}

abbrev small : ℤ → Seen
small n = whole Int8 n

-- ---- the sum in int8 of 100, and then of 100, -100: it goes on from 100 to 127 and ends at 27; the second part alone is 0

first_of_int8 : more (class_sum Int8) (start (class_sum Int8)) (small (pos 100) ∷ []) ≡ pos 100
first_of_int8 = refl

all_of_int8 : more (class_sum Int8) (pos 100) (small (pos 100) ∷ small (negsuc 99) ∷ []) ≡ pos 27
all_of_int8 = refl

second_of_int8 : more (class_sum Int8) (start (class_sum Int8)) (small (pos 100) ∷ small (negsuc 99) ∷ []) ≡ pos 0
second_of_int8 = refl

-- what the second part makes of the sum so far, made without it
second_part : with_part (class_sum Int8) (pos 100) (part_of (class_sum Int8) (small (pos 100) ∷ small (negsuc 99) ∷ [])) ≡ pos 27
second_part = refl

native_sum : reduction_result (Sum true false) (Integer Int8) (pos 27) ≡ Ok (small (pos 27))
native_sum = refl

-- ---- parts that join

-- 2^53 and 1 are out of range only as long as -1 isn't there
totals : joined exact_sum (value_of exact_sum (number (pos 9007199254740992) ∷ number (pos 1) ∷ [])) (value_of exact_sum (number (negsuc 0) ∷ [])) ≡ (false, pos 9007199254740992)
totals = refl

total_with_nan : joined exact_sum (value_of exact_sum (number (pos 1) ∷ [])) (value_of exact_sum (nan ∷ number (pos 2) ∷ [])) ≡ (true, pos 3)
total_with_nan = refl

results_of_totals : map (reduction_result (Sum false false) Double) ((false, pos 9007199254740992) ∷ (false, pos 9007199254740993) ∷ (true, pos 9007199254740993) ∷ []) ≡ Ok (number (pos 9007199254740992)) ∷ Err Inexact ∷ Ok nan ∷ []
results_of_totals = refl

least_of_parts : joined least_cell (value_of least_cell (number (pos 4) ∷ number (pos 2) ∷ [])) (value_of least_cell (number (pos 3) ∷ [])) ≡ Some (number (pos 2))
least_of_parts = refl

greatest_of_parts : joined greatest_cell (value_of greatest_cell []) (value_of greatest_cell (number (pos 3) ∷ [])) ≡ Some (number (pos 3))
greatest_of_parts = refl

-- 5 of int8 and of int16 are equal by the order of cells
first_of_equals : best_joined lesser (Some (whole Int8 (pos 5))) (Some (whole Int16 (pos 5))) ≡ Some (whole Int8 (pos 5))
first_of_equals = refl

some_of_parts : joined some_true (value_of some_true (logical false ∷ [])) (value_of some_true (logical true ∷ [])) ≡ true
some_of_parts = refl

all_of_parts : joined all_true (value_of all_true (logical false ∷ [])) (value_of all_true (logical true ∷ [])) ≡ false
all_of_parts = refl

all_of_none : value_of all_true [] ≡ true
all_of_none = refl

-- of 0, 2 and NaN, 0 two are not 0
numbers_of_parts : joined (number_of is_nonzero) (value_of (number_of is_nonzero) (number (pos 0) ∷ number (pos 2) ∷ [])) (value_of (number_of is_nonzero) (nan ∷ number (pos 0) ∷ [])) ≡ 2
numbers_of_parts = refl

-- ---- what reductions and methods look at

nan_passed_over : map omits (Sum false false ∷ Sum false true ∷ Sum true true ∷ Min ∷ Max ∷ Any ∷ All ∷ Nnz ∷ Numel ∷ Height ∷ []) ≡ false ∷ true ∷ true ∷ true ∷ true ∷ false ∷ false ∷ false ∷ false ∷ false ∷ []
nan_passed_over = refl

methods_pass_over : map method_omits (method.Count ∷ method.Sum ∷ method.SumNative ∷ method.Min ∷ method.Max ∷ method.Nnz ∷ method.Nummissing ∷ []) ≡ false ∷ true ∷ true ∷ true ∷ true ∷ true ∷ false ∷ []
methods_pass_over = refl

cells_used : used true (nan ∷ number (pos 1) ∷ []) ≡ number (pos 1) ∷ []
cells_used = refl

-- the least of no cells: refused as a reduction, NaN as a method of a group
least_of_nothing : reduction_result Min Double (start (reduction_fold Min Double)) ≡ Err NoRows
least_of_nothing = refl

least_of_a_group : method_result method.Min Double (start (method_fold method.Min Double)) ≡ Ok nan
least_of_a_group = refl

missing_in_parts : more (method_fold method.Nummissing Double) 2 (nan ∷ number (pos 1) ∷ []) ≡ 3
missing_in_parts = refl
