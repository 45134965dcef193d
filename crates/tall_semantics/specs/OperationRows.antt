-- Worked values of each operation, and a fault of each that can have one. Lines are those of docs/LANGUAGE.md.
use Rattle.std.specs.Prelude.{◌≡◌, refl, pos, negsuc, true, false, None, Some, Ok, [], ◌∷◌, codes}
use Rattle.tall_int.specs.declared.quotients.Rounding.TheVariants.{Fix, Floor}
use Rattle.tall_value.specs.declared.class.Class.TheVariants as class
use Rattle.tall_value.specs.declared.class.IntKind.TheVariants.{Int8, Int32, Uint8, Uint64}
use Rattle.tall_value.specs.declared.faults.FaultKind.TheVariants.{Inexact, NotWhole, NanLogical, NoRows}
use Rattle.tall_value.specs.declared.functions.Method.TheVariants as method
use Rattle.tall_value.specs.declared.functions.Reduction.TheVariants.{Sum, Min, Max, Any, All, Nnz, Numel, Height}
use Rattle.tall_value.specs.declared.functions.Scan.TheVariants.{CumSum, CumMin, CumMax}
use Rattle.tall_value.specs.declared.operators.Binary.TheVariants.{Add, Sub, Mul, Div, Modulo, Idivide, BitAnd, Lt, StrCmp, And}
use Rattle.tall_value.specs.declared.operators.Unary.TheVariants.{Neg, Abs, Not, ToInt8, ToDouble, ToLogical, IsNan}
use Rattle.tall_value.specs.Cells.{whole, logical, text}
use Rattle.tall_value.specs.Columns.{numbered}
use Rattle.tall_semantics.specs.Operations.{unary, binary, filter, reduce, scan, head, tail, distinct, group, keys, counts, values}
use Rattle.tall_semantics.specs.Faults.{fault_at}
use Rattle.tall_semantics.specs.Outcomes.{rows, scalar, fault}
use Rattle.tall_semantics.specs.Talls.{Tall, tall, times, over}
use Rattle.tall_semantics.specs.Samples.{at, integer_column, double_column, column_of, integers, doubles, number, nan, outcome_of, of_line, gives, scalar_of}

-- ---- columns of the rows

abbrev swing : Tall
swing = integer_column 0 Int8 (pos 100 ∷ pos 100 ∷ negsuc 99 ∷ [])

abbrev sevens : Tall
sevens = integer_column 0 Int32 (pos 7 ∷ negsuc 6 ∷ pos 5 ∷ negsuc 4 ∷ pos 0 ∷ [])

abbrev pair : Tall
pair = double_column 0 (Some (pos 3) ∷ Some (pos 5) ∷ [])

abbrev gaps : Tall
gaps = double_column 0 (Some (pos 3) ∷ Some (pos 1) ∷ None ∷ Some (pos 3) ∷ [])

abbrev words : Tall
words = column_of 0 class.Text (text (codes "b") ∷ text (codes "a") ∷ text (codes "b") ∷ text (codes "a") ∷ [])

abbrev scores : Tall
scores = double_column 1 (Some (pos 2) ∷ None ∷ None ∷ Some (pos 2) ∷ [])

abbrev flags : Tall
flags = column_of 1 class.Logical (logical true ∷ logical false ∷ logical true ∷ [])

-- ---- operators

-- x ./ 2, x ./ 0: ties go outward, and over zero the ends of the class
halves : outcome_of (of_line (binary Div) (sevens ∷ scalar_of (number (pos 2)) ∷ [])) ≡ gives (integers Int32 (pos 4 ∷ negsuc 3 ∷ pos 3 ∷ negsuc 2 ∷ pos 0 ∷ []))
unfolding tall
halves = refl

over_zero : outcome_of (of_line (binary Div) (sevens ∷ scalar_of (number (pos 0)) ∷ [])) ≡ gives (integers Int32 (pos 2147483647 ∷ negsuc 2147483647 ∷ pos 2147483647 ∷ negsuc 2147483647 ∷ pos 0 ∷ []))
unfolding tall
over_zero = refl

-- u - 10
saturated_difference : outcome_of (of_line (binary Sub) (integer_column 0 Uint8 (pos 5 ∷ pos 10 ∷ pos 255 ∷ []) ∷ scalar_of (number (pos 10)) ∷ [])) ≡ gives (integers Uint8 (pos 0 ∷ pos 0 ∷ pos 245 ∷ []))
unfolding tall
saturated_difference = refl

-- 100 - x, with the scalar on the left
scalar_on_the_left : outcome_of (of_line (binary Sub) (scalar_of (number (pos 100)) ∷ swing ∷ [])) ≡ gives (integers Int8 (pos 0 ∷ pos 0 ∷ pos 127 ∷ []))
unfolding tall
scalar_on_the_left = refl

-- idivide(x, 2), idivide(x, 2, 'floor'), mod(x, 3)
divided_by_two : outcome_of (of_line (binary (Idivide Fix)) (sevens ∷ scalar_of (number (pos 2)) ∷ [])) ≡ gives (integers Int32 (pos 3 ∷ negsuc 2 ∷ pos 2 ∷ negsuc 1 ∷ pos 0 ∷ []))
unfolding tall
divided_by_two = refl

divided_down : outcome_of (of_line (binary (Idivide Floor)) (sevens ∷ scalar_of (number (pos 2)) ∷ [])) ≡ gives (integers Int32 (pos 3 ∷ negsuc 3 ∷ pos 2 ∷ negsuc 2 ∷ pos 0 ∷ []))
unfolding tall
divided_down = refl

modulo_three : outcome_of (of_line (binary Modulo) (sevens ∷ scalar_of (number (pos 3)) ∷ [])) ≡ gives (integers Int32 (pos 1 ∷ pos 2 ∷ pos 2 ∷ pos 1 ∷ pos 0 ∷ []))
unfolding tall
modulo_three = refl

common_bits : outcome_of (of_line (binary BitAnd) (swing ∷ scalar_of (number (pos 6)) ∷ [])) ≡ gives (integers Int8 (pos 4 ∷ pos 4 ∷ pos 4 ∷ []))
unfolding tall
common_bits = refl

-- two columns of one datastore
row_by_row : outcome_of (of_line (binary Mul) (pair ∷ double_column 1 (Some (pos 2) ∷ None ∷ []) ∷ [])) ≡ gives (number (pos 6) ∷ nan ∷ [])
unfolding tall
row_by_row = refl

-- x * 2, and x / 2 of a double that isn't whole
times_a_scalar : outcome_of (times (at 4 3) (scalar_of (number (pos 2))) swing) ≡ gives (integers Int8 (pos 127 ∷ pos 127 ∷ negsuc 127 ∷ []))
unfolding tall
times_a_scalar = refl

over_a_scalar : outcome_of (over (at 4 3) pair (scalar_of (number (pos 3)))) ≡ Ok (fault (fault_at (at 4 3) (Some 2) NotWhole))
unfolding tall
over_a_scalar = refl

compared : outcome_of (of_line (binary Lt) (swing ∷ scalar_of (number (pos 0)) ∷ [])) ≡ gives (logical false ∷ logical false ∷ logical true ∷ [])
unfolding tall
compared = refl

texts_compared : outcome_of (of_line (binary StrCmp) (words ∷ scalar_of (text (codes "a")) ∷ [])) ≡ gives (logical false ∷ logical true ∷ logical false ∷ logical true ∷ [])
unfolding tall
texts_compared = refl

-- over scalars alone a scalar, and a fault without a row
of_two_scalars : outcome_of (of_line (binary Add) (scalar_of (whole Int8 (pos 100)) ∷ scalar_of (number (pos 100)) ∷ [])) ≡ Ok (scalar (whole Int8 (pos 127)))
unfolding tall
of_two_scalars = refl

fault_of_two_scalars : outcome_of (of_line (binary Div) (scalar_of (number (pos 1)) ∷ scalar_of (number (pos 0)) ∷ [])) ≡ Ok (fault (fault_at (at 4 3) None Inexact))
unfolding tall
fault_of_two_scalars = refl

-- 7 ./ 2 isn't whole, at row 2
not_whole_at_a_row : outcome_of (of_line (binary Div) (double_column 0 (Some (pos 4) ∷ Some (pos 7) ∷ Some (pos 9) ∷ []) ∷ scalar_of (number (pos 2)) ∷ [])) ≡ Ok (fault (fault_at (at 4 3) (Some 2) NotWhole))
unfolding tall
not_whole_at_a_row = refl

nan_is_no_logical : outcome_of (of_line (binary And) (gaps ∷ scalar_of (logical false) ∷ [])) ≡ Ok (fault (fault_at (at 4 3) (Some 3) NanLogical))
unfolding tall
nan_is_no_logical = refl

-- -i, abs(i)
negated : outcome_of (of_line (unary Neg) (integer_column 0 Int8 (negsuc 127 ∷ pos 0 ∷ pos 127 ∷ []) ∷ [])) ≡ gives (integers Int8 (pos 127 ∷ pos 0 ∷ negsuc 126 ∷ []))
unfolding tall
negated = refl

magnitudes : outcome_of (of_line (unary Abs) (integer_column 0 Int8 (negsuc 127 ∷ pos 0 ∷ pos 127 ∷ []) ∷ [])) ≡ gives (integers Int8 (pos 127 ∷ pos 0 ∷ pos 127 ∷ []))
unfolding tall
magnitudes = refl

turned : outcome_of (of_line (unary Not) (swing ∷ [])) ≡ gives (logical false ∷ logical false ∷ logical false ∷ [])
unfolding tall
turned = refl

converted : outcome_of (of_line (unary ToInt8) (gaps ∷ [])) ≡ gives (integers Int8 (pos 3 ∷ pos 1 ∷ pos 0 ∷ pos 3 ∷ []))
unfolding tall
converted = refl

missing : outcome_of (of_line (unary IsNan) (gaps ∷ [])) ≡ gives (logical false ∷ logical false ∷ logical true ∷ logical false ∷ [])
unfolding tall
missing = refl

double_out_of_range : outcome_of (of_line (unary ToDouble) (integer_column 0 Uint64 (pos 1 ∷ pos 9007199254740993 ∷ []) ∷ [])) ≡ Ok (fault (fault_at (at 4 3) (Some 2) Inexact))
unfolding tall
double_out_of_range = refl

nan_scalar_is_no_logical : outcome_of (of_line (unary ToLogical) (scalar_of nan ∷ [])) ≡ Ok (fault (fault_at (at 4 3) None NanLogical))
unfolding tall
nan_scalar_is_no_logical = refl

-- ---- indexing: the rows keep their numbers

kept_rows : outcome_of (of_line filter (swing ∷ flags ∷ [])) ≡ Ok (rows ((1, whole Int8 (pos 100)) ∷ (3, whole Int8 (negsuc 99)) ∷ []))
unfolding tall
kept_rows = refl

-- ---- functions

exact_sum : outcome_of (of_line (reduce (Sum false false)) (swing ∷ [])) ≡ Ok (scalar (number (pos 100)))
unfolding tall
exact_sum = refl

sum_refused : outcome_of (of_line (reduce (Sum false false)) (integer_column 0 Uint64 (pos 18446744073709551615 ∷ pos 18446744073709551615 ∷ []) ∷ [])) ≡ Ok (fault (fault_at (at 4 3) None Inexact))
unfolding tall
sum_refused = refl

native_sum : outcome_of (of_line (reduce (Sum true false)) (swing ∷ [])) ≡ Ok (scalar (whole Int8 (pos 27)))
unfolding tall
native_sum = refl

native_sum_at_the_end : outcome_of (of_line (reduce (Sum true false)) (integer_column 0 Uint64 (pos 18446744073709551615 ∷ pos 18446744073709551615 ∷ []) ∷ [])) ≡ Ok (scalar (whole Uint64 (pos 18446744073709551615)))
unfolding tall
native_sum_at_the_end = refl

sum_without_nan : outcome_of (of_line (reduce (Sum false true)) (gaps ∷ [])) ≡ Ok (scalar (number (pos 7)))
unfolding tall
sum_without_nan = refl

least_of_all : outcome_of (of_line (reduce Min) (gaps ∷ [])) ≡ Ok (scalar (number (pos 1)))
unfolding tall
least_of_all = refl

greatest_of_none : outcome_of (of_line (reduce Max) (integer_column 0 Int8 [] ∷ [])) ≡ Ok (fault (fault_at (at 4 3) None NoRows))
unfolding tall
greatest_of_none = refl

any_of_flags : outcome_of (of_line (reduce Any) (flags ∷ [])) ≡ Ok (scalar (logical true))
unfolding tall
any_of_flags = refl

all_of_flags : outcome_of (of_line (reduce All) (flags ∷ [])) ≡ Ok (scalar (logical false))
unfolding tall
all_of_flags = refl

nan_is_nonzero : outcome_of (of_line (reduce Nnz) (gaps ∷ [])) ≡ Ok (scalar (number (pos 4)))
unfolding tall
nan_is_nonzero = refl

-- a scalar is one row
cells_of_a_scalar : outcome_of (of_line (reduce Numel) (scalar_of (number (pos 9)) ∷ [])) ≡ Ok (scalar (number (pos 1)))
unfolding tall
cells_of_a_scalar = refl

height : outcome_of (of_line (reduce Height) (words ∷ [])) ≡ Ok (scalar (number (pos 4)))
unfolding tall
height = refl

running_sums : outcome_of (of_line (scan CumSum) (swing ∷ [])) ≡ gives (integers Int8 (pos 100 ∷ pos 127 ∷ pos 27 ∷ []))
unfolding tall
running_sums = refl

running_sum_refused : outcome_of (of_line (scan CumSum) (double_column 0 (Some (pos 9007199254740992) ∷ Some (pos 1) ∷ []) ∷ [])) ≡ Ok (fault (fault_at (at 4 3) (Some 2) Inexact))
unfolding tall
running_sum_refused = refl

running_least : outcome_of (of_line (scan CumMin) (gaps ∷ [])) ≡ gives (doubles (Some (pos 3) ∷ Some (pos 1) ∷ Some (pos 1) ∷ Some (pos 1) ∷ []))
unfolding tall
running_least = refl

running_greatest : outcome_of (of_line (scan CumMax) (scores ∷ [])) ≡ gives (doubles (Some (pos 2) ∷ Some (pos 2) ∷ Some (pos 2) ∷ Some (pos 2) ∷ []))
unfolding tall
running_greatest = refl

first_two : outcome_of (of_line (head 2) (swing ∷ [])) ≡ gives (integers Int8 (pos 100 ∷ pos 100 ∷ []))
unfolding tall
first_two = refl

last_three : outcome_of (of_line (tail 3) (gaps ∷ [])) ≡ Ok (rows (numbered 2 (number (pos 1) ∷ nan ∷ number (pos 3) ∷ [])))
unfolding tall
last_three = refl

distinct_values : outcome_of (of_line distinct (scores ∷ [])) ≡ gives (number (pos 2) ∷ nan ∷ nan ∷ [])
unfolding tall
distinct_values = refl

distinct_words : outcome_of (of_line distinct (words ∷ [])) ≡ gives (text (codes "a") ∷ text (codes "b") ∷ [])
unfolding tall
distinct_words = refl

-- groupsummary(T, 'g', 'nummissing', 'v'), column by column
keys_of_groups : outcome_of (of_line (group method.Nummissing keys) (words ∷ scores ∷ [])) ≡ gives (text (codes "a") ∷ text (codes "b") ∷ [])
unfolding tall
keys_of_groups = refl

counts_of_groups : outcome_of (of_line (group method.Nummissing counts) (words ∷ scores ∷ [])) ≡ gives (number (pos 2) ∷ number (pos 2) ∷ [])
unfolding tall
counts_of_groups = refl

values_of_groups : outcome_of (of_line (group method.Nummissing values) (words ∷ scores ∷ [])) ≡ gives (number (pos 1) ∷ number (pos 1) ∷ [])
unfolding tall
values_of_groups = refl

-- groupsummary(T, 'v') with NaN keys: one group, last
nan_keys : outcome_of (of_line (group method.Count keys) (scores ∷ [])) ≡ gives (number (pos 2) ∷ nan ∷ [])
unfolding tall
nan_keys = refl

-- the sum of a group is out of range: the fault of the key's column too
fault_of_a_group : outcome_of (of_line (group method.Sum keys) (gaps ∷ double_column 1 (Some (pos 9007199254740992) ∷ Some (pos 1) ∷ None ∷ Some (pos 1) ∷ []) ∷ [])) ≡ Ok (fault (fault_at (at 4 3) None Inexact))
unfolding tall
fault_of_a_group = refl
