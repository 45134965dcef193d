-- What ends a call of a map function, by computation.
use Rattle.std.specs.Prelude.{◌≡◌, [], ◌∷◌, codes, refl, None, Some}
use Rattle.tall_value.specs.declared.faults.FaultKind.TheVariants.{Inexact, NotWhole, NoRows}
use Rattle.tall_grammar.specs.Trees.{assign_step, add_step}
use Rattle.tall_grammar.specs.declared.expressions.Infix.TheVariants.{Gt, Add, Sub, DotDiv, Mul}
use Rattle.tall_local.specs.Refusals.{undefined, mixed_class, bad_class, bad_size, bad_argument, bad_index, failed, bad_key, bad_value}
use Rattle.tall_script_rows.specs.RowWords.{whole_runs, map_stop, at_line}
use Rattle.tall_script_rows.specs.Drafts.{number, text, name, handle, minus, infix_of, member, call, rows_of, index}

-- x = info;
second_parameter_of_a_map_function : map_stop (
    assign_step 2 (codes "x") (name "info") ∷ []) ≡ at_line 2 (undefined (codes "info"))
unfolding whole_runs
second_parameter_of_a_map_function = refl

-- x = y;
name_without_a_value : map_stop (
    assign_step 2 (codes "x") (name "y") ∷ []) ≡ at_line 2 (undefined (codes "y"))
unfolding whole_runs
name_without_a_value = refl

-- x = prod(y);
no_function_in_a_function : map_stop (
    assign_step 2 (codes "x") (call "prod" (name "y" ∷ [])) ∷ []) ≡ at_line 2 (undefined (codes "prod"))
unfolding whole_runs
no_function_in_a_function = refl

-- x = f(1);
own_function_in_a_function : map_stop (
    assign_step 2 (codes "x") (call "f" (number 1 ∷ [])) ∷ []) ≡ at_line 2 (undefined (codes "f"))
unfolding whole_runs
own_function_in_a_function = refl

-- x = @f;
handle_in_a_function : map_stop (
    assign_step 2 (codes "x") (handle "f") ∷ []) ≡ at_line 2 bad_argument
unfolding whole_runs
handle_in_a_function = refl

-- x = tall(1);
tall_in_a_function : map_stop (
    assign_step 2 (codes "x") (call "tall" (number 1 ∷ [])) ∷ []) ≡ at_line 2 bad_argument
unfolding whole_runs
tall_in_a_function = refl

-- x = gather(1);
gather_in_a_function : map_stop (
    assign_step 2 (codes "x") (call "gather" (number 1 ∷ [])) ∷ []) ≡ at_line 2 bad_argument
unfolding whole_runs
gather_in_a_function = refl

-- x = gather(y);
arguments_of_a_refused_function : map_stop (
    assign_step 2 (codes "x") (call "gather" (name "y" ∷ [])) ∷ []) ≡ at_line 2 (undefined (codes "y"))
unfolding whole_runs
arguments_of_a_refused_function = refl

-- x = mapreduce(1, @f, @f);
mapreduce_in_a_function : map_stop (
    assign_step 2 (codes "x") (call "mapreduce" (number 1 ∷ handle "f" ∷ handle "f" ∷ [])) ∷ []) ≡ at_line 2 bad_argument
unfolding whole_runs
mapreduce_in_a_function = refl

-- x = readall(data);
readall_in_a_function : map_stop (
    assign_step 2 (codes "x") (call "readall" (name "data" ∷ [])) ∷ []) ≡ at_line 2 bad_argument
unfolding whole_runs
readall_in_a_function = refl

-- x = tabularTextDatastore('a.csv');
datastore_in_a_function : map_stop (
    assign_step 2 (codes "x") (call "tabularTextDatastore" (text "a.csv" ∷ [])) ∷ []) ≡ at_line 2 bad_argument
unfolding whole_runs
datastore_in_a_function = refl

-- x = add(store, 1, 1);
add_inside_an_expression : map_stop (
    assign_step 2 (codes "x") (call "add" (name "store" ∷ number 1 ∷ number 1 ∷ [])) ∷ []) ≡ at_line 2 bad_argument
unfolding whole_runs
add_inside_an_expression = refl

-- x = store;
store_assigned : map_stop (
    assign_step 2 (codes "x") (name "store") ∷ []) ≡ at_line 2 bad_class
unfolding whole_runs
store_assigned = refl

-- x = store(1);
store_indexed : map_stop (
    assign_step 2 (codes "x") (call "store" (number 1 ∷ [])) ∷ []) ≡ at_line 2 bad_class
unfolding whole_runs
store_indexed = refl

-- x = store.a;
member_of_a_store : map_stop (
    assign_step 2 (codes "x") (member (name "store") "a") ∷ []) ≡ at_line 2 bad_class
unfolding whole_runs
member_of_a_store = refl

-- x = store + 1;
store_as_operand : map_stop (
    assign_step 2 (codes "x") (infix_of Add (name "store") (number 1)) ∷ []) ≡ at_line 2 bad_class
unfolding whole_runs
store_as_operand = refl

-- x = -store;
minus_of_a_store : map_stop (
    assign_step 2 (codes "x") (minus (name "store")) ∷ []) ≡ at_line 2 bad_class
unfolding whole_runs
minus_of_a_store = refl

-- x = store * store;
store_times_store : map_stop (
    assign_step 2 (codes "x") (infix_of Mul (name "store") (name "store")) ∷ []) ≡ at_line 2 bad_argument
unfolding whole_runs
store_times_store = refl

-- x = sum(store);
function_of_a_store : map_stop (
    assign_step 2 (codes "x") (call "sum" (name "store" ∷ [])) ∷ []) ≡ at_line 2 bad_class
unfolding whole_runs
function_of_a_store = refl

-- x = abs(store, 1);
two_arguments_with_a_store : map_stop (
    assign_step 2 (codes "x") (call "abs" (name "store" ∷ number 1 ∷ [])) ∷ []) ≡ at_line 2 bad_argument
unfolding whole_runs
two_arguments_with_a_store = refl

-- x = data.x(store);
store_as_index : map_stop (
    assign_step 2 (codes "x") (index (member (name "data") "x") (name "store" ∷ [])) ∷ []) ≡ at_line 2 bad_class
unfolding whole_runs
store_as_index = refl

-- x = data(store, 1);
store_in_an_index_of_no_form : map_stop (
    assign_step 2 (codes "x") (call "data" (name "store" ∷ number 1 ∷ [])) ∷ []) ≡ at_line 2 bad_class
unfolding whole_runs
store_in_an_index_of_no_form = refl

-- x = data.x(store, store);
stores_in_an_index_of_no_form : map_stop (
    assign_step 2 (codes "x") (index (member (name "data") "x") (name "store" ∷ name "store" ∷ [])) ∷ []) ≡ at_line 2 bad_class
unfolding whole_runs
stores_in_an_index_of_no_form = refl

-- x = data(store, :);
store_as_index_of_a_table : map_stop (
    assign_step 2 (codes "x") (rows_of "data" (name "store")) ∷ []) ≡ at_line 2 bad_class
unfolding whole_runs
store_as_index_of_a_table = refl

-- x = intmax(store);
store_as_class_name : map_stop (
    assign_step 2 (codes "x") (call "intmax" (name "store" ∷ [])) ∷ []) ≡ at_line 2 bad_class
unfolding whole_runs
store_as_class_name = refl

-- x = sum(data.x, store);
store_as_option : map_stop (
    assign_step 2 (codes "x") (call "sum" (member (name "data") "x" ∷ name "store" ∷ [])) ∷ []) ≡ at_line 2 bad_class
unfolding whole_runs
store_as_option = refl

-- x = head(data, store);
store_as_number_of_rows : map_stop (
    assign_step 2 (codes "x") (call "head" (name "data" ∷ name "store" ∷ [])) ∷ []) ≡ at_line 2 bad_class
unfolding whole_runs
store_as_number_of_rows = refl

-- x = idivide(store, 2, 'up');
store_before_a_refused_rounding : map_stop (
    assign_step 2 (codes "x") (call "idivide" (name "store" ∷ number 2 ∷ text "up" ∷ [])) ∷ []) ≡ at_line 2 bad_class
unfolding whole_runs
store_before_a_refused_rounding = refl

-- x = groupsummary(data, 'g', store, 'x');
store_as_method : map_stop (
    assign_step 2 (codes "x") (call "groupsummary" (name "data" ∷ text "g" ∷ name "store" ∷ text "x" ∷ [])) ∷ []) ≡ at_line 2 bad_class
unfolding whole_runs
store_as_method = refl

-- x = groupsummary(store, 'g', 'sum');
three_arguments_with_a_store : map_stop (
    assign_step 2 (codes "x") (call "groupsummary" (name "store" ∷ text "g" ∷ text "sum" ∷ [])) ∷ []) ≡ at_line 2 bad_argument
unfolding whole_runs
three_arguments_with_a_store = refl

-- x = idivide(2, 2, 'up');
refused_rounding : map_stop (
    assign_step 2 (codes "x") (call "idivide" (number 2 ∷ number 2 ∷ text "up" ∷ [])) ∷ []) ≡ at_line 2 bad_argument
unfolding whole_runs
refused_rounding = refl

-- x = hasnext(1);
hasnext_of_a_number : map_stop (
    assign_step 2 (codes "x") (call "hasnext" (number 1 ∷ [])) ∷ []) ≡ at_line 2 bad_argument
unfolding whole_runs
hasnext_of_a_number = refl

-- x = getnext(store);
getnext_of_a_store : map_stop (
    assign_step 2 (codes "x") (call "getnext" (name "store" ∷ [])) ∷ []) ≡ at_line 2 bad_argument
unfolding whole_runs
getnext_of_a_store = refl

-- x = 1 ./ (data.d - 3);
row_of_a_fault_in_a_function : map_stop (
    assign_step 2 (codes "x") (infix_of DotDiv (number 1) (infix_of Sub (member (name "data") "d") (number 3))) ∷ []) ≡ at_line 2 (failed (Some 2) Inexact)
unfolding whole_runs
row_of_a_fault_in_a_function = refl

-- x = data.x + head(data.x, 1);
lengths_in_a_function : map_stop (
    assign_step 2 (codes "x") (infix_of Add (member (name "data") "x") (call "head" (member (name "data") "x" ∷ number 1 ∷ []))) ∷ []) ≡ at_line 2 bad_size
unfolding whole_runs
lengths_in_a_function = refl

-- x = data.x(3);
index_past_the_end_in_a_function : map_stop (
    assign_step 2 (codes "x") (index (member (name "data") "x") (number 3 ∷ [])) ∷ []) ≡ at_line 2 bad_index
unfolding whole_runs
index_past_the_end_in_a_function = refl

-- x = data.x + int16(1);
classes_in_a_function : map_stop (
    assign_step 2 (codes "x") (infix_of Add (member (name "data") "x") (call "int16" (number 1 ∷ []))) ∷ []) ≡ at_line 2 mixed_class
unfolding whole_runs
classes_in_a_function = refl

-- x = data.y;
variable_that_is_not_there : map_stop (
    assign_step 2 (codes "x") (member (name "data") "y") ∷ []) ≡ at_line 2 (undefined (codes "y"))
unfolding whole_runs
variable_that_is_not_there = refl

-- x = max(data.x(data.x > 5));
no_rows_in_a_function : map_stop (
    assign_step 2 (codes "x") (call "max" (index (member (name "data") "x") (infix_of Gt (member (name "data") "x") (number 5) ∷ []) ∷ [])) ∷ []) ≡ at_line 2 (failed None NoRows)
unfolding whole_runs
no_rows_in_a_function = refl

-- x = 1; / y = 7 ./ 2;
line_of_the_statement : map_stop (
    assign_step 2 (codes "x") (number 1) ∷
    assign_step 3 (codes "y") (infix_of DotDiv (number 7) (number 2)) ∷ []) ≡ at_line 3 (failed None NotWhole)
unfolding whole_runs
line_of_the_statement = refl

-- add(1, 2, 3);
add_to_no_store : map_stop (
    add_step 2 (number 1) (number 2) (number 3) ∷ []) ≡ at_line 2 bad_argument
unfolding whole_runs
add_to_no_store = refl

-- add(1, 2, y);
operands_of_add_first : map_stop (
    add_step 2 (number 1) (number 2) (name "y") ∷ []) ≡ at_line 2 (undefined (codes "y"))
unfolding whole_runs
operands_of_add_first = refl

-- add(store, store, 1);
store_as_key : map_stop (
    add_step 2 (name "store") (name "store") (number 1) ∷ []) ≡ at_line 2 bad_class
unfolding whole_runs
store_as_key = refl

-- add(store, 1, store);
store_as_value : map_stop (
    add_step 2 (name "store") (number 1) (name "store") ∷ []) ≡ at_line 2 bad_class
unfolding whole_runs
store_as_value = refl

-- add(store, data.x, data.x);
column_as_key : map_stop (
    add_step 2 (name "store") (member (name "data") "x") (member (name "data") "x") ∷ []) ≡ at_line 2 bad_key
unfolding whole_runs
column_as_key = refl

-- that the value is no scalar comes before another fault of the key
-- add(store, true, data.x);
column_as_value : map_stop (
    add_step 2 (name "store") (name "true") (member (name "data") "x") ∷ []) ≡ at_line 2 bad_value
unfolding whole_runs
column_as_value = refl

-- add(store, true, 1);
logical_as_key : map_stop (
    add_step 2 (name "store") (name "true") (number 1) ∷ []) ≡ at_line 2 bad_key
unfolding whole_runs
logical_as_key = refl

-- add(store, NaN, 1);
nan_as_key : map_stop (
    add_step 2 (name "store") (name "NaN") (number 1) ∷ []) ≡ at_line 2 bad_key
unfolding whole_runs
nan_as_key = refl

-- add(store, 1, 1); / add(store, int8(1), 1);
second_key_of_another_class : map_stop (
    add_step 2 (name "store") (number 1) (number 1) ∷
    add_step 3 (name "store") (call "int8" (number 1 ∷ [])) (number 1) ∷ []) ≡ at_line 3 bad_key
unfolding whole_runs
second_key_of_another_class = refl

-- add(store, 1, 1); / add(store, 2, int8(1));
second_value_of_another_class : map_stop (
    add_step 2 (name "store") (number 1) (number 1) ∷
    add_step 3 (name "store") (number 2) (call "int8" (number 1 ∷ [])) ∷ []) ≡ at_line 3 bad_value
unfolding whole_runs
second_value_of_another_class = refl

-- add(store, 1, 1); / add(store, int8(1), int8(1));
key_before_value : map_stop (
    add_step 2 (name "store") (number 1) (number 1) ∷
    add_step 3 (name "store") (call "int8" (number 1 ∷ [])) (call "int8" (number 1 ∷ [])) ∷ []) ≡ at_line 3 bad_key
unfolding whole_runs
key_before_value = refl

-- add(store, "a", NaN); / add(store, "b", 2);
keys_and_values_that_fit : map_stop (
    add_step 2 (name "store") (text "a") (name "NaN") ∷
    add_step 3 (name "store") (text "b") (number 2) ∷ []) ≡ None
unfolding whole_runs
keys_and_values_that_fit = refl
