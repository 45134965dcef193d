-- What ends a run at operators and indexes over tall values, and over columns in memory, by computation.
use Rattle.std.specs.Prelude.{◌≡◌, [], ◌∷◌, ◌++◌, codes, refl, Some}
use Rattle.tall_value.specs.declared.faults.FaultKind.TheVariants.{Inexact}
use Rattle.tall_grammar.specs.declared.expressions.Infix.TheVariants.{Eq, Gt, Add, Sub, DotDiv, Mul, Div}
use Rattle.tall_local.specs.Refusals.{undefined, mixed_class, bad_class, incompatible, bad_size, bad_argument, bad_index, failed}
use Rattle.tall_script_rows.specs.RowWords.{whole_runs, two_rows, usual, ending_of, at_line}
use Rattle.tall_script_rows.specs.Drafts.{number, name, minus, infix_of, member, call, rows_of, index, silent, sets, script}

-- x = T.nosuch;
no_such_variable : ending_of two_rows (script (usual ("%d8" ∷ "%q" ∷ []) ++ (
    silent 3 (sets "x" (member (name "T") "nosuch")) ∷ []))) ≡ at_line 3 (undefined (codes "nosuch"))
unfolding whole_runs
no_such_variable = refl

-- x = T.x.y;
member_of_a_column : ending_of two_rows (script (usual ("%d8" ∷ "%q" ∷ []) ++ (
    silent 3 (sets "x" (member (member (name "T") "x") "y")) ∷ []))) ≡ at_line 3 bad_argument
unfolding whole_runs
member_of_a_column = refl

-- x = ds.ReadSize;
member_of_a_datastore : ending_of two_rows (script (usual ("%d8" ∷ "%q" ∷ []) ++ (
    silent 3 (sets "x" (member (name "ds") "ReadSize")) ∷ []))) ≡ at_line 3 bad_argument
unfolding whole_runs
member_of_a_datastore = refl

-- x = T + 1;
table_as_operand : ending_of two_rows (script (usual ("%d8" ∷ "%q" ∷ []) ++ (
    silent 3 (sets "x" (infix_of Add (name "T") (number 1))) ∷ []))) ≡ at_line 3 bad_class
unfolding whole_runs
table_as_operand = refl

-- x = -ds;
datastore_as_operand : ending_of two_rows (script (usual ("%d8" ∷ "%q" ∷ []) ++ (
    silent 3 (sets "x" (minus (name "ds"))) ∷ []))) ≡ at_line 3 bad_class
unfolding whole_runs
datastore_as_operand = refl

-- x = T.x * T.x;
columns_times_columns : ending_of two_rows (script (usual ("%d8" ∷ "%q" ∷ []) ++ (
    silent 3 (sets "x" (infix_of Mul (member (name "T") "x") (member (name "T") "x"))) ∷ []))) ≡ at_line 3 bad_argument
unfolding whole_runs
columns_times_columns = refl

-- x = 1 / T.x;
column_over_column : ending_of two_rows (script (usual ("%d8" ∷ "%q" ∷ []) ++ (
    silent 3 (sets "x" (infix_of Div (number 1) (member (name "T") "x"))) ∷ []))) ≡ at_line 3 bad_argument
unfolding whole_runs
column_over_column = refl

-- x = T.g == 1;
text_column_with_a_number : ending_of two_rows (script (usual ("%d8" ∷ "%q" ∷ []) ++ (
    silent 3 (sets "x" (infix_of Eq (member (name "T") "g") (number 1))) ∷ []))) ≡ at_line 3 bad_class
unfolding whole_runs
text_column_with_a_number = refl

-- x = T.x + int16(1);
integer_with_another_class : ending_of two_rows (script (usual ("%d8" ∷ "%q" ∷ []) ++ (
    silent 3 (sets "x" (infix_of Add (member (name "T") "x") (call "int16" (number 1 ∷ [])))) ∷ []))) ≡ at_line 3 mixed_class
unfolding whole_runs
integer_with_another_class = refl

-- x = head(T.x) + T.x;
two_spaces : ending_of two_rows (script (usual ("%d8" ∷ "%q" ∷ []) ++ (
    silent 3 (sets "x" (infix_of Add (call "head" (member (name "T") "x" ∷ [])) (member (name "T") "x"))) ∷ []))) ≡ at_line 3 incompatible
unfolding whole_runs
two_spaces = refl

-- x = head(T.x) + int16(T.x);
classes_before_spaces : ending_of two_rows (script (usual ("%d8" ∷ "%q" ∷ []) ++ (
    silent 3 (sets "x" (infix_of Add (call "head" (member (name "T") "x" ∷ [])) (call "int16" (member (name "T") "x" ∷ [])))) ∷ []))) ≡ at_line 3 mixed_class
unfolding whole_runs
classes_before_spaces = refl

-- x = T.x(T.x);
index_that_is_not_logical : ending_of two_rows (script (usual ("%d8" ∷ "%q" ∷ []) ++ (
    silent 3 (sets "x" (index (member (name "T") "x") (member (name "T") "x" ∷ []))) ∷ []))) ≡ at_line 3 bad_class
unfolding whole_runs
index_that_is_not_logical = refl

-- x = T.x(1);
number_as_index : ending_of two_rows (script (usual ("%d8" ∷ "%q" ∷ []) ++ (
    silent 3 (sets "x" (index (member (name "T") "x") (number 1 ∷ []))) ∷ []))) ≡ at_line 3 bad_argument
unfolding whole_runs
number_as_index = refl

-- x = T.x(any(T.x > 0));
tall_scalar_as_index : ending_of two_rows (script (usual ("%d8" ∷ "%q" ∷ []) ++ (
    silent 3 (sets "x" (index (member (name "T") "x") (call "any" (infix_of Gt (member (name "T") "x") (number 0) ∷ []) ∷ []))) ∷ []))) ≡ at_line 3 bad_argument
unfolding whole_runs
tall_scalar_as_index = refl

-- x = T.x(head(T.x) > 0);
index_in_another_space : ending_of two_rows (script (usual ("%d8" ∷ "%q" ∷ []) ++ (
    silent 3 (sets "x" (index (member (name "T") "x") (infix_of Gt (call "head" (member (name "T") "x" ∷ [])) (number 0) ∷ []))) ∷ []))) ≡ at_line 3 incompatible
unfolding whole_runs
index_in_another_space = refl

-- x = T(T.x, :);
rows_by_a_column_that_is_not_logical : ending_of two_rows (script (usual ("%d8" ∷ "%q" ∷ []) ++ (
    silent 3 (sets "x" (rows_of "T" (member (name "T") "x"))) ∷ []))) ≡ at_line 3 bad_class
unfolding whole_runs
rows_by_a_column_that_is_not_logical = refl

-- x = T(head(T.x) > 0, :);
rows_in_another_space : ending_of two_rows (script (usual ("%d8" ∷ "%q" ∷ []) ++ (
    silent 3 (sets "x" (rows_of "T" (infix_of Gt (call "head" (member (name "T") "x" ∷ [])) (number 0)))) ∷ []))) ≡ at_line 3 incompatible
unfolding whole_runs
rows_in_another_space = refl

-- x = T(T.x > 0);
table_without_a_colon : ending_of two_rows (script (usual ("%d8" ∷ "%q" ∷ []) ++ (
    silent 3 (sets "x" (call "T" (infix_of Gt (member (name "T") "x") (number 0) ∷ []))) ∷ []))) ≡ at_line 3 bad_argument
unfolding whole_runs
table_without_a_colon = refl

-- c = gather(T.x); / x = c(any(T.x > 0));
tall_scalar_as_index_in_memory : ending_of two_rows (script (usual ("%d8" ∷ "%q" ∷ []) ++ (
    silent 3 (sets "c" (call "gather" (member (name "T") "x" ∷ []))) ∷
    silent 4 (sets "x" (call "c" (call "any" (infix_of Gt (member (name "T") "x") (number 0) ∷ []) ∷ []))) ∷ []))) ≡ at_line 4 bad_argument
unfolding whole_runs
tall_scalar_as_index_in_memory = refl

-- y = T.x; / x = y(T.x > 0, :);
column_with_a_colon : ending_of two_rows (script (usual ("%d8" ∷ "%q" ∷ []) ++ (
    silent 3 (sets "y" (member (name "T") "x")) ∷
    silent 4 (sets "x" (rows_of "y" (infix_of Gt (member (name "T") "x") (number 0)))) ∷ []))) ≡ at_line 4 bad_argument
unfolding whole_runs
column_with_a_colon = refl

-- s = sum(T.x); / x = s(T.x > 0);
index_on_a_tall_scalar : ending_of two_rows (script (usual ("%d8" ∷ "%q" ∷ []) ++ (
    silent 3 (sets "s" (call "sum" (member (name "T") "x" ∷ []))) ∷
    silent 4 (sets "x" (call "s" (infix_of Gt (member (name "T") "x") (number 0) ∷ []))) ∷ []))) ≡ at_line 4 bad_argument
unfolding whole_runs
index_on_a_tall_scalar = refl

-- x = ds(1);
index_on_a_datastore : ending_of two_rows (script (usual ("%d8" ∷ "%q" ∷ []) ++ (
    silent 3 (sets "x" (call "ds" (number 1 ∷ []))) ∷ []))) ≡ at_line 3 bad_argument
unfolding whole_runs
index_on_a_datastore = refl

-- c = gather(T.x); / x = c + T.x;
column_in_memory_with_a_tall_column : ending_of two_rows (script (usual ("%d8" ∷ "%q" ∷ []) ++ (
    silent 3 (sets "c" (call "gather" (member (name "T") "x" ∷ []))) ∷
    silent 4 (sets "x" (infix_of Add (name "c") (member (name "T") "x"))) ∷ []))) ≡ at_line 4 incompatible
unfolding whole_runs
column_in_memory_with_a_tall_column = refl

-- c = gather(T.x); / x = c + sum(T.x);
column_in_memory_with_a_tall_scalar : ending_of two_rows (script (usual ("%d8" ∷ "%q" ∷ []) ++ (
    silent 3 (sets "c" (call "gather" (member (name "T") "x" ∷ []))) ∷
    silent 4 (sets "x" (infix_of Add (name "c") (call "sum" (member (name "T") "x" ∷ [])))) ∷ []))) ≡ at_line 4 incompatible
unfolding whole_runs
column_in_memory_with_a_tall_scalar = refl

-- c = gather(T.x); / x = c + int16(T.x);
classes_before_memory : ending_of two_rows (script (usual ("%d8" ∷ "%q" ∷ []) ++ (
    silent 3 (sets "c" (call "gather" (member (name "T") "x" ∷ []))) ∷
    silent 4 (sets "x" (infix_of Add (name "c") (call "int16" (member (name "T") "x" ∷ [])))) ∷ []))) ≡ at_line 4 mixed_class
unfolding whole_runs
classes_before_memory = refl

-- c = gather(T.x); / x = c(T.x > 0);
tall_index_of_a_column_in_memory : ending_of two_rows (script (usual ("%d8" ∷ "%q" ∷ []) ++ (
    silent 3 (sets "c" (call "gather" (member (name "T") "x" ∷ []))) ∷
    silent 4 (sets "x" (call "c" (infix_of Gt (member (name "T") "x") (number 0) ∷ []))) ∷ []))) ≡ at_line 4 incompatible
unfolding whole_runs
tall_index_of_a_column_in_memory = refl

-- c = gather(T.x); / x = c(T.x);
tall_index_that_is_not_logical : ending_of two_rows (script (usual ("%d8" ∷ "%q" ∷ []) ++ (
    silent 3 (sets "c" (call "gather" (member (name "T") "x" ∷ []))) ∷
    silent 4 (sets "x" (call "c" (member (name "T") "x" ∷ []))) ∷ []))) ≡ at_line 4 bad_class
unfolding whole_runs
tall_index_that_is_not_logical = refl

-- c = gather(T.x); / x = T.x(c > 0);
index_in_memory_of_a_tall_column : ending_of two_rows (script (usual ("%d8" ∷ "%q" ∷ []) ++ (
    silent 3 (sets "c" (call "gather" (member (name "T") "x" ∷ []))) ∷
    silent 4 (sets "x" (index (member (name "T") "x") (infix_of Gt (name "c") (number 0) ∷ []))) ∷ []))) ≡ at_line 4 incompatible
unfolding whole_runs
index_in_memory_of_a_tall_column = refl

-- c = gather(T.x); / x = T.x(c);
numbers_in_memory_as_index : ending_of two_rows (script (usual ("%d8" ∷ "%q" ∷ []) ++ (
    silent 3 (sets "c" (call "gather" (member (name "T") "x" ∷ []))) ∷
    silent 4 (sets "x" (index (member (name "T") "x") (name "c" ∷ []))) ∷ []))) ≡ at_line 4 bad_argument
unfolding whole_runs
numbers_in_memory_as_index = refl

-- c = gather(T.x); / x = c(c);
numbers_as_index_in_memory : ending_of two_rows (script (usual ("%d8" ∷ "%q" ∷ []) ++ (
    silent 3 (sets "c" (call "gather" (member (name "T") "x" ∷ []))) ∷
    silent 4 (sets "x" (call "c" (name "c" ∷ []))) ∷ []))) ≡ at_line 4 bad_argument
unfolding whole_runs
numbers_as_index_in_memory = refl

-- c = gather(T.x); / x = c(head(c, 1) > 0);
index_of_another_length : ending_of two_rows (script (usual ("%d8" ∷ "%q" ∷ []) ++ (
    silent 3 (sets "c" (call "gather" (member (name "T") "x" ∷ []))) ∷
    silent 4 (sets "x" (call "c" (infix_of Gt (call "head" (name "c" ∷ number 1 ∷ [])) (number 0) ∷ []))) ∷ []))) ≡ at_line 4 bad_size
unfolding whole_runs
index_of_another_length = refl

-- c = gather(T.x); / x = c + head(c, 1);
columns_of_two_lengths : ending_of two_rows (script (usual ("%d8" ∷ "%q" ∷ []) ++ (
    silent 3 (sets "c" (call "gather" (member (name "T") "x" ∷ []))) ∷
    silent 4 (sets "x" (infix_of Add (name "c") (call "head" (name "c" ∷ number 1 ∷ [])))) ∷ []))) ≡ at_line 4 bad_size
unfolding whole_runs
columns_of_two_lengths = refl

-- c = gather(T.x); / x = c + int16(head(c, 1));
classes_before_lengths : ending_of two_rows (script (usual ("%d8" ∷ "%q" ∷ []) ++ (
    silent 3 (sets "c" (call "gather" (member (name "T") "x" ∷ []))) ∷
    silent 4 (sets "x" (infix_of Add (name "c") (call "int16" (call "head" (name "c" ∷ number 1 ∷ []) ∷ [])))) ∷ []))) ≡ at_line 4 mixed_class
unfolding whole_runs
classes_before_lengths = refl

-- c = gather(T.x); / x = c(3);
index_past_the_end : ending_of two_rows (script (usual ("%d8" ∷ "%q" ∷ []) ++ (
    silent 3 (sets "c" (call "gather" (member (name "T") "x" ∷ []))) ∷
    silent 4 (sets "x" (call "c" (number 3 ∷ []))) ∷ []))) ≡ at_line 4 bad_index
unfolding whole_runs
index_past_the_end = refl

-- c = gather(T.x); / x = c(0);
index_of_zero : ending_of two_rows (script (usual ("%d8" ∷ "%q" ∷ []) ++ (
    silent 3 (sets "c" (call "gather" (member (name "T") "x" ∷ []))) ∷
    silent 4 (sets "x" (call "c" (number 0 ∷ []))) ∷ []))) ≡ at_line 4 bad_index
unfolding whole_runs
index_of_zero = refl

-- c = gather(T.x); / x = c(NaN);
index_that_is_nan : ending_of two_rows (script (usual ("%d8" ∷ "%q" ∷ []) ++ (
    silent 3 (sets "c" (call "gather" (member (name "T") "x" ∷ []))) ∷
    silent 4 (sets "x" (call "c" (name "NaN" ∷ []))) ∷ []))) ≡ at_line 4 bad_index
unfolding whole_runs
index_that_is_nan = refl

-- c = gather(T.x); / x = c(int8(1));
integer_as_index : ending_of two_rows (script (usual ("%d8" ∷ "%q" ∷ []) ++ (
    silent 3 (sets "c" (call "gather" (member (name "T") "x" ∷ []))) ∷
    silent 4 (sets "x" (call "c" (call "int8" (number 1 ∷ []) ∷ []))) ∷ []))) ≡ at_line 4 bad_argument
unfolding whole_runs
integer_as_index = refl

-- c = gather(T.x); / x = 6 ./ (double(c) - 2);
row_of_a_fault_in_memory : ending_of two_rows (script (usual ("%d8" ∷ "%q" ∷ []) ++ (
    silent 3 (sets "c" (call "gather" (member (name "T") "x" ∷ []))) ∷
    silent 4 (sets "x" (infix_of DotDiv (number 6) (infix_of Sub (call "double" (name "c" ∷ [])) (number 2)))) ∷ []))) ≡ at_line 4 (failed (Some 2) Inexact)
unfolding whole_runs
row_of_a_fault_in_memory = refl

-- t = gather(T); / x = t(head(t.x, 1) > 0, :);
rows_of_another_height : ending_of two_rows (script (usual ("%d8" ∷ "%q" ∷ []) ++ (
    silent 3 (sets "t" (call "gather" (name "T" ∷ []))) ∷
    silent 4 (sets "x" (rows_of "t" (infix_of Gt (call "head" (member (name "t") "x" ∷ number 1 ∷ [])) (number 0)))) ∷ []))) ≡ at_line 4 bad_size
unfolding whole_runs
rows_of_another_height = refl
