-- Worked refusals of each operation, and what comes first where two things are wrong.
use Rattle.std.specs.Prelude.{◌≡◌, refl, pos, true, false, Some, Ok, Err, [], ◌∷◌, codes}
use Rattle.tall_int.specs.declared.quotients.Rounding.TheVariants.{Fix}
use Rattle.tall_value.specs.declared.class.Class.TheVariants as class
use Rattle.tall_value.specs.declared.class.IntKind.TheVariants.{Int8, Int32}
use Rattle.tall_value.specs.declared.functions.Method.TheVariants as method
use Rattle.tall_value.specs.declared.functions.Reduction.TheVariants.{Sum, Min, Max, Any, All, Nnz}
use Rattle.tall_value.specs.declared.functions.Scan.TheVariants.{CumSum, CumMin}
use Rattle.tall_value.specs.declared.operators.Binary.TheVariants.{Add, Idivide, BitAnd, Eq, StrCmp, And}
use Rattle.tall_value.specs.declared.operators.Unary.TheVariants.{Neg, ToDouble}
use Rattle.tall_value.specs.Cells.{whole, logical, text}
use Rattle.tall_semantics.specs.Operations.{constant, unary, binary, filter, reduce, scan, head, tail, distinct, group, keys, counts, values}
use Rattle.tall_semantics.specs.Shapes.{mixed_class, bad_class, incompatible, bad_argument}
use Rattle.tall_semantics.specs.Talls.{Tall, tall, stored_tall, times, over}
use Rattle.tall_semantics.specs.Outcomes.{rows}
use Rattle.tall_semantics.specs.Samples.{at, integer_column, double_column, column_of, number, class_in, of_line, scalar_of, accepted}

abbrev small : Tall
small = integer_column 0 Int8 (pos 1 ∷ pos 2 ∷ [])

abbrev wide : Tall
wide = integer_column 1 Int32 (pos 1 ∷ pos 2 ∷ [])

abbrev fractions : Tall
fractions = double_column 2 (Some (pos 1) ∷ Some (pos 2) ∷ [])

abbrev words : Tall
words = column_of 3 class.Text (text (codes "a") ∷ text (codes "b") ∷ [])

abbrev flags : Tall
flags = column_of 4 class.Logical (logical true ∷ logical false ∷ [])

-- columns of another datastore, with as many rows
abbrev others : Tall
others = stored_tall 1 0 class.Double (rows ((1, number (pos 1)) ∷ (2, number (pos 2)) ∷ []))

abbrev other_words : Tall
other_words = stored_tall 1 1 class.Text (rows ((1, text (codes "a")) ∷ (2, text (codes "b")) ∷ []))

abbrev total : Tall
total = accepted (of_line (reduce (Sum false false)) (fractions ∷ []))

-- ---- operators

two_integer_classes : class_in (of_line (binary Add) (small ∷ wide ∷ [])) ≡ Err mixed_class
unfolding tall
two_integer_classes = refl

integer_with_doubles : class_in (of_line (binary Add) (small ∷ fractions ∷ [])) ≡ Err mixed_class
unfolding tall
integer_with_doubles = refl

scalar_integer_with_doubles : class_in (of_line (binary Add) (scalar_of (whole Int8 (pos 1)) ∷ fractions ∷ [])) ≡ Err mixed_class
unfolding tall
scalar_integer_with_doubles = refl

-- a tall scalar is a scalar
integer_with_a_total : class_in (of_line (binary Add) (small ∷ total ∷ [])) ≡ Ok class.Int8
unfolding tall
integer_with_a_total = refl

logicals_add_up_as_doubles : class_in (of_line (binary Add) (flags ∷ flags ∷ [])) ≡ Ok class.Double
unfolding tall
logicals_add_up_as_doubles = refl

text_added : class_in (of_line (binary Add) (words ∷ small ∷ [])) ≡ Err bad_class
unfolding tall
text_added = refl

idivide_of_doubles : class_in (of_line (binary (Idivide Fix)) (fractions ∷ fractions ∷ [])) ≡ Err bad_class
unfolding tall
idivide_of_doubles = refl

bits_of_logicals : class_in (of_line (binary BitAnd) (small ∷ flags ∷ [])) ≡ Err bad_class
unfolding tall
bits_of_logicals = refl

text_beside_number : class_in (of_line (binary Eq) (words ∷ small ∷ [])) ≡ Err bad_class
unfolding tall
text_beside_number = refl

strcmp_of_numbers : class_in (of_line (binary StrCmp) (small ∷ small ∷ [])) ≡ Err bad_class
unfolding tall
strcmp_of_numbers = refl

text_as_logical : class_in (of_line (binary And) (flags ∷ words ∷ [])) ≡ Err bad_class
unfolding tall
text_as_logical = refl

two_datastores : class_in (of_line (binary Add) (fractions ∷ others ∷ [])) ≡ Err incompatible
unfolding tall
two_datastores = refl

-- the class is looked at before the rows
class_before_rows : class_in (of_line (binary Add) (small ∷ others ∷ [])) ≡ Err mixed_class
unfolding tall
class_before_rows = refl

one_operand_of_two : class_in (of_line (binary Add) (small ∷ [])) ≡ Err bad_argument
unfolding tall
one_operand_of_two = refl

-- `*` and `/` look at the scalars before the classes
two_columns_multiplied : class_in (times (at 4 3) small words) ≡ Err bad_argument
two_columns_multiplied = refl

divided_by_a_column : class_in (over (at 4 3) (scalar_of (number (pos 6))) small) ≡ Err bad_argument
unfolding tall
divided_by_a_column = refl

text_multiplied : class_in (times (at 4 3) words total) ≡ Err bad_class
unfolding tall
text_multiplied = refl

text_negated : class_in (of_line (unary Neg) (words ∷ [])) ≡ Err bad_class
unfolding tall
text_negated = refl

text_converted : class_in (of_line (unary ToDouble) (words ∷ [])) ≡ Err bad_class
unfolding tall
text_converted = refl

logical_negated : class_in (of_line (unary Neg) (flags ∷ [])) ≡ Ok class.Double
unfolding tall
logical_negated = refl

constant_with_operand : class_in (of_line (constant (number (pos 1))) (small ∷ [])) ≡ Err bad_argument
unfolding tall
constant_with_operand = refl

-- ---- indexing

index_of_another_datastore : class_in (of_line filter (others ∷ flags ∷ [])) ≡ Err incompatible
unfolding tall
index_of_another_datastore = refl

index_of_numbers : class_in (of_line filter (others ∷ small ∷ [])) ≡ Err bad_class
unfolding tall
index_of_numbers = refl

scalar_indexed : class_in (of_line filter (total ∷ flags ∷ [])) ≡ Err bad_argument
unfolding tall
scalar_indexed = refl

-- an index that is no column is looked at before its class
scalar_index : class_in (of_line filter (small ∷ total ∷ [])) ≡ Err bad_argument
unfolding tall
scalar_index = refl

-- ---- functions

sum_of_texts : class_in (of_line (reduce (Sum false true)) (words ∷ [])) ≡ Err bad_class
unfolding tall
sum_of_texts = refl

native_sum_of_logicals : class_in (of_line (reduce (Sum true false)) (flags ∷ [])) ≡ Err bad_class
unfolding tall
native_sum_of_logicals = refl

least_of_logicals : class_in (of_line (reduce Min) (flags ∷ [])) ≡ Err bad_class
unfolding tall
least_of_logicals = refl

greatest_of_texts : class_in (of_line (reduce Max) (words ∷ [])) ≡ Err bad_class
unfolding tall
greatest_of_texts = refl

any_of_numbers : class_in (of_line (reduce Any) (small ∷ [])) ≡ Err bad_class
unfolding tall
any_of_numbers = refl

all_of_doubles : class_in (of_line (reduce All) (fractions ∷ [])) ≡ Err bad_class
unfolding tall
all_of_doubles = refl

nonzero_texts : class_in (of_line (reduce Nnz) (words ∷ [])) ≡ Err bad_class
unfolding tall
nonzero_texts = refl

running_sum_of_texts : class_in (of_line (scan CumSum) (words ∷ [])) ≡ Err bad_class
unfolding tall
running_sum_of_texts = refl

running_least_of_logicals : class_in (of_line (scan CumMin) (flags ∷ [])) ≡ Err bad_class
unfolding tall
running_least_of_logicals = refl

scan_of_a_scalar : class_in (of_line (scan CumSum) (total ∷ [])) ≡ Err bad_argument
unfolding tall
scan_of_a_scalar = refl

head_of_a_scalar : class_in (of_line (head 8) (total ∷ [])) ≡ Err bad_argument
unfolding tall
head_of_a_scalar = refl

tail_of_a_scalar : class_in (of_line (tail 8) (total ∷ [])) ≡ Err bad_argument
unfolding tall
tail_of_a_scalar = refl

distinct_of_a_scalar : class_in (of_line distinct (total ∷ [])) ≡ Err bad_argument
unfolding tall
distinct_of_a_scalar = refl

sum_of_a_scalar : class_in (of_line (reduce (Sum true false)) (total ∷ [])) ≡ Ok class.Double
unfolding tall
sum_of_a_scalar = refl

-- the method's class counts for each column that is made
native_sums_of_logicals : class_in (of_line (group method.SumNative keys) (words ∷ flags ∷ [])) ≡ Err bad_class
unfolding tall
native_sums_of_logicals = refl

texts_by_group : class_in (of_line (group method.Sum values) (words ∷ words ∷ [])) ≡ Err bad_class
unfolding tall
texts_by_group = refl

missing_texts_by_group : class_in (of_line (group method.Nummissing values) (words ∷ words ∷ [])) ≡ Ok class.Double
unfolding tall
missing_texts_by_group = refl

keys_have_their_class : class_in (of_line (group method.SumNative keys) (words ∷ small ∷ [])) ≡ Ok class.Text
unfolding tall
keys_have_their_class = refl

data_have_their_class : class_in (of_line (group method.SumNative values) (words ∷ small ∷ [])) ≡ Ok class.Int8
unfolding tall
data_have_their_class = refl

key_of_another_datastore : class_in (of_line (group method.Sum counts) (other_words ∷ small ∷ [])) ≡ Err incompatible
unfolding tall
key_of_another_datastore = refl

no_data_without_method : class_in (of_line (group method.Count values) (words ∷ [])) ≡ Err bad_argument
unfolding tall
no_data_without_method = refl

no_method_without_data : class_in (of_line (group method.Sum keys) (words ∷ [])) ≡ Err bad_argument
unfolding tall
no_method_without_data = refl
