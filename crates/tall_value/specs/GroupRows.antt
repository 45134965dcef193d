-- Worked values of distinct cells, groups and the order of faults.
use Rattle.std.specs.Prelude.{◌≡◌, refl, ℕ, ℤ, pos, negsuc, true, false, Option, Some, None, Ok, Err, List, [], ◌∷◌, codes}
use Rattle.tall_value.specs.declared.class.IntKind.TheVariants.{Int8}
use Rattle.tall_value.specs.declared.class.Kind.TheVariants.{Integer, Logical, Double, Text}
use Rattle.tall_value.specs.declared.faults.Fault.{Fault}
use Rattle.tall_value.specs.declared.faults.FaultKind.TheVariants.{Inexact, NotWhole}
use Rattle.tall_value.specs.declared.functions.Method.TheVariants.{Count, Sum, SumNative, Min, Max, Nnz, Nummissing}
use Rattle.tall_value.specs.Cells.{Seen, whole, logical, double, text}
use Rattle.tall_value.specs.Distinct.{distinct, distinct_rows}
use Rattle.tall_value.specs.Groups.{group_keys, group_counts, group_values}
use Rattle.tall_value.specs.FaultOrder.{least_fault}

abbrev number : ℤ → Seen
number n = double (Some n)

abbrev nan : Seen
nan = double None

abbrev word : List ℕ → Seen
word t = text t

-- the table: keys b, a, b, a with the values 2, NaN, NaN, 2
abbrev keys : List Seen
keys = word (codes "b") ∷ word (codes "a") ∷ word (codes "b") ∷ word (codes "a") ∷ []

abbrev values : List Seen
values = number (pos 2) ∷ nan ∷ nan ∷ number (pos 2) ∷ []

-- unique(x) of 2, NaN, NaN, 2 is 2, NaN, NaN
distinct_keeps_each_nan : distinct values ≡ number (pos 2) ∷ nan ∷ nan ∷ []
distinct_keeps_each_nan = refl

-- unique(x) of 'b', 'a', 'b', 'a' is 'a', 'b' at the rows 1 and 2
distinct_texts : distinct_rows keys ≡ (1, word (codes "a")) ∷ (2, word (codes "b")) ∷ []
distinct_texts = refl

-- unique(x) of 3, -1, 3 of int8 is -1, 3
distinct_integers : distinct (whole Int8 (pos 3) ∷ whole Int8 (negsuc 0) ∷ whole Int8 (pos 3) ∷ []) ≡ whole Int8 (negsuc 0) ∷ whole Int8 (pos 3) ∷ []
distinct_integers = refl

-- unique(x) of true, false, true is false, true
distinct_logicals : distinct (logical true ∷ logical false ∷ logical true ∷ []) ≡ logical false ∷ logical true ∷ []
distinct_logicals = refl

-- unique(x) of no rows has no rows
distinct_of_none : distinct [] ≡ []
distinct_of_none = refl

-- the keys of 'b', 'a', 'b', 'a' are 'a', 'b'
keys_ascend : group_keys keys ≡ word (codes "a") ∷ word (codes "b") ∷ []
keys_ascend = refl

-- GroupCount of them is 2, 2
rows_of_groups : group_counts keys ≡ number (pos 2) ∷ number (pos 2) ∷ []
rows_of_groups = refl

-- 'nummissing' of 2, NaN, NaN, 2 is 1, 1
missing_of_groups : group_values Nummissing Double keys values ≡ Ok (number (pos 1) ∷ number (pos 1) ∷ [])
missing_of_groups = refl

-- 'sum' of 2, NaN, NaN, 2 is 2, 2
sums_of_groups : group_values Sum Double keys values ≡ Ok (number (pos 2) ∷ number (pos 2) ∷ [])
sums_of_groups = refl

-- 'min' of NaN, 7, NaN, -1 is -1, and NaN for the group of 'b', whose data are all NaN
least_over_nans : group_values Min Double keys (nan ∷ number (pos 7) ∷ nan ∷ number (negsuc 0) ∷ []) ≡ Ok (number (negsuc 0) ∷ nan ∷ [])
least_over_nans = refl

-- 'max' of 1, 7, 5, NaN is 7, 5
greatest_of_groups : group_values Max Double keys (number (pos 1) ∷ number (pos 7) ∷ number (pos 5) ∷ nan ∷ []) ≡ Ok (number (pos 7) ∷ number (pos 5) ∷ [])
greatest_of_groups = refl

-- 'nnz' of 2, NaN, NaN, 2 is 1, 1: NaN is passed over
nonzero_passes_nan_over : group_values Nnz Double keys values ≡ Ok (number (pos 1) ∷ number (pos 1) ∷ [])
nonzero_passes_nan_over = refl

-- 'nummissing' of texts is 0, 0
missing_texts : group_values Nummissing Text keys keys ≡ Ok (number (pos 0) ∷ number (pos 0) ∷ [])
missing_texts = refl

-- 'sumnative' of 100, 100, -100 of int8, all in one group, is 27
native_sums_of_groups : group_values SumNative (Integer Int8) (number (pos 1) ∷ number (pos 1) ∷ number (pos 1) ∷ []) (whole Int8 (pos 100) ∷ whole Int8 (pos 100) ∷ whole Int8 (negsuc 99) ∷ []) ≡ Ok (whole Int8 (pos 27) ∷ [])
native_sums_of_groups = refl

-- ---- two groups that differ, for each method: the keys b, a, b, a, b with the data 3, NaN, 4, 9, 5

abbrev uneven : List Seen
uneven = word (codes "b") ∷ word (codes "a") ∷ word (codes "b") ∷ word (codes "a") ∷ word (codes "b") ∷ []

abbrev measured : List Seen
measured = number (pos 3) ∷ nan ∷ number (pos 4) ∷ number (pos 9) ∷ number (pos 5) ∷ []

-- GroupCount is 2, 3
uneven_counts : group_values Count Double uneven measured ≡ Ok (number (pos 2) ∷ number (pos 3) ∷ [])
uneven_counts = refl

-- 'sum' is 9, 12
uneven_sums : group_values Sum Double uneven measured ≡ Ok (number (pos 9) ∷ number (pos 12) ∷ [])
uneven_sums = refl

-- 'sumnative' of doubles is 9, 12, as 'sum'
uneven_native_sums : group_values SumNative Double uneven measured ≡ Ok (number (pos 9) ∷ number (pos 12) ∷ [])
uneven_native_sums = refl

-- 'min' is 9, 3
uneven_least : group_values Min Double uneven measured ≡ Ok (number (pos 9) ∷ number (pos 3) ∷ [])
uneven_least = refl

-- 'max' is 9, 5
uneven_greatest : group_values Max Double uneven measured ≡ Ok (number (pos 9) ∷ number (pos 5) ∷ [])
uneven_greatest = refl

-- 'nnz' is 1, 3
uneven_nonzero : group_values Nnz Double uneven measured ≡ Ok (number (pos 1) ∷ number (pos 3) ∷ [])
uneven_nonzero = refl

-- 'nummissing' is 1, 0
uneven_missing : group_values Nummissing Double uneven measured ≡ Ok (number (pos 1) ∷ number (pos 0) ∷ [])
uneven_missing = refl

-- 'sumnative' of 100, 50, 100, 60, -100 of int8 is 110, 27: each group saturates in its own row order
uneven_saturated : group_values SumNative (Integer Int8) uneven (whole Int8 (pos 100) ∷ whole Int8 (pos 50) ∷ whole Int8 (pos 100) ∷ whole Int8 (pos 60) ∷ whole Int8 (negsuc 99) ∷ []) ≡ Ok (whole Int8 (pos 110) ∷ whole Int8 (pos 27) ∷ [])
uneven_saturated = refl

-- true, true, false, true, false
abbrev flags : List Seen
flags = logical true ∷ logical true ∷ logical false ∷ logical true ∷ logical false ∷ []

-- 'sum' of true, true, false, true, false is 2, 1
sums_of_logicals : group_values Sum Logical uneven flags ≡ Ok (number (pos 2) ∷ number (pos 1) ∷ [])
sums_of_logicals = refl

-- 'nnz' of true, true, false, true, false is 2, 1
nonzero_logicals : group_values Nnz Logical uneven flags ≡ Ok (number (pos 2) ∷ number (pos 1) ∷ [])
nonzero_logicals = refl

-- 'sum' of 1 to 5 by the keys true, true, false, true, false is 8 for false, 7 for true
logical_keys : group_values Sum Double flags (number (pos 1) ∷ number (pos 2) ∷ number (pos 3) ∷ number (pos 4) ∷ number (pos 5) ∷ []) ≡ Ok (number (pos 8) ∷ number (pos 7) ∷ [])
logical_keys = refl

-- ---- a group whose data are all NaN

abbrev one_group : List Seen
one_group = number (pos 1) ∷ number (pos 1) ∷ []

-- 'sum' is 0
sum_of_nans : group_values Sum Double one_group (nan ∷ nan ∷ []) ≡ Ok (number (pos 0) ∷ [])
sum_of_nans = refl

-- 'sumnative' is 0
native_sum_of_nans : group_values SumNative Double one_group (nan ∷ nan ∷ []) ≡ Ok (number (pos 0) ∷ [])
native_sum_of_nans = refl

-- 'min' is NaN
least_of_nans : group_values Min Double one_group (nan ∷ nan ∷ []) ≡ Ok (nan ∷ [])
least_of_nans = refl

-- 'max' is NaN
greatest_of_nans : group_values Max Double one_group (nan ∷ nan ∷ []) ≡ Ok (nan ∷ [])
greatest_of_nans = refl

-- 'nnz' is 0
nonzero_of_nans : group_values Nnz Double one_group (nan ∷ nan ∷ []) ≡ Ok (number (pos 0) ∷ [])
nonzero_of_nans = refl

-- 'nummissing' is 2
missing_of_nans : group_values Nummissing Double one_group (nan ∷ nan ∷ []) ≡ Ok (number (pos 2) ∷ [])
missing_of_nans = refl

-- ---- keys that are NaN, and faults

-- the keys of NaN, 5, NaN, 3 are 3, 5, NaN: the two NaN keys are one group, last
nan_keys_last : group_keys (nan ∷ number (pos 5) ∷ nan ∷ number (pos 3) ∷ []) ≡ number (pos 3) ∷ number (pos 5) ∷ nan ∷ []
nan_keys_last = refl

-- GroupCount of them is 1, 1, 2
nan_keys_counted : group_counts (nan ∷ number (pos 5) ∷ nan ∷ number (pos 3) ∷ []) ≡ number (pos 1) ∷ number (pos 1) ∷ number (pos 2) ∷ []
nan_keys_counted = refl

-- 'sum' of 2^53, 1 in the group of NaN is refused: Inexact
sum_of_group_refused : group_values Sum Double (nan ∷ nan ∷ []) (number (pos 9007199254740992) ∷ number (pos 1) ∷ []) ≡ Err Inexact
sum_of_group_refused = refl

-- of no faults none is the least
no_fault_of_none : least_fault [] ≡ None
no_fault_of_none = refl

-- a fault of an expression, by its number and its row
abbrev fault : ℕ → Option ℕ → Fault
fault number row = record { number = number; line = 1; row = row; kind = NotWhole }

-- of expression 9 at row 1 and expression 4 at the rows 7 and 5, the last is the least
least_by_number_before_row : least_fault (fault 9 (Some 1) ∷ fault 4 (Some 7) ∷ fault 4 (Some 5) ∷ []) ≡ Some (fault 4 (Some 5))
least_by_number_before_row = refl

-- a fault without a row comes before one at row 1
no_row_before_all_rows : least_fault (fault 4 (Some 1) ∷ fault 4 None ∷ []) ≡ Some (fault 4 None)
no_row_before_all_rows = refl

-- and even before a row 0, which no column has
no_row_before_row_zero : least_fault (fault 4 (Some 0) ∷ fault 4 None ∷ []) ≡ Some (fault 4 None)
no_row_before_row_zero = refl

-- of two faults at one place the first is taken
first_of_equal_places : least_fault (fault 4 (Some 1) ∷ record { number = 4; line = 9; row = Some 1; kind = Inexact } ∷ []) ≡ Some (fault 4 (Some 1))
first_of_equal_places = refl
