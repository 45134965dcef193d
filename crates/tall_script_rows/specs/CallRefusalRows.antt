-- What ends a run at functions over values in memory, by computation.
use Rattle.std.specs.Prelude.{◌≡◌, [], ◌∷◌, refl}
use Rattle.tall_local.specs.Refusals.{bad_class, bad_argument}
use Rattle.tall_script_rows.specs.RowWords.{whole_runs, ending_of, at_line}
use Rattle.tall_script_rows.specs.Drafts.{number, text, name, minus, texts, call, silent, sets, script}

-- x = sum();
sum_of_nothing : ending_of [] (script (
    silent 1 (sets "x" (call "sum" [])) ∷ [])) ≡ at_line 1 bad_argument
unfolding whole_runs
sum_of_nothing = refl

-- x = sum(1, 'nosuch');
sum_with_another_option : ending_of [] (script (
    silent 1 (sets "x" (call "sum" (number 1 ∷ text "nosuch" ∷ []))) ∷ [])) ≡ at_line 1 bad_argument
unfolding whole_runs
sum_with_another_option = refl

-- x = sum(1, 'native', 'native');
sum_with_an_option_twice : ending_of [] (script (
    silent 1 (sets "x" (call "sum" (number 1 ∷ text "native" ∷ text "native" ∷ []))) ∷ [])) ≡ at_line 1 bad_argument
unfolding whole_runs
sum_with_an_option_twice = refl

-- x = sum(1, 2);
sum_with_an_option_that_is_no_text : ending_of [] (script (
    silent 1 (sets "x" (call "sum" (number 1 ∷ number 2 ∷ []))) ∷ [])) ≡ at_line 1 bad_argument
unfolding whole_runs
sum_with_an_option_that_is_no_text = refl

-- x = sum('a', 'nosuch');
form_before_class : ending_of [] (script (
    silent 1 (sets "x" (call "sum" (text "a" ∷ text "nosuch" ∷ []))) ∷ [])) ≡ at_line 1 bad_argument
unfolding whole_runs
form_before_class = refl

-- x = sum('a');
sum_of_a_text : ending_of [] (script (
    silent 1 (sets "x" (call "sum" (text "a" ∷ []))) ∷ [])) ≡ at_line 1 bad_class
unfolding whole_runs
sum_of_a_text = refl

-- x = sum(true, 'native');
native_sum_of_a_logical : ending_of [] (script (
    silent 1 (sets "x" (call "sum" (name "true" ∷ text "native" ∷ []))) ∷ [])) ≡ at_line 1 bad_class
unfolding whole_runs
native_sum_of_a_logical = refl

-- x = sum({'a'});
sum_of_a_list : ending_of [] (script (
    silent 1 (sets "x" (call "sum" (texts ("a" ∷ []) ∷ []))) ∷ [])) ≡ at_line 1 bad_class
unfolding whole_runs
sum_of_a_list = refl

-- x = min(true);
min_of_a_logical : ending_of [] (script (
    silent 1 (sets "x" (call "min" (name "true" ∷ []))) ∷ [])) ≡ at_line 1 bad_class
unfolding whole_runs
min_of_a_logical = refl

-- x = max(1, 2);
max_of_two : ending_of [] (script (
    silent 1 (sets "x" (call "max" (number 1 ∷ number 2 ∷ []))) ∷ [])) ≡ at_line 1 bad_argument
unfolding whole_runs
max_of_two = refl

-- x = any(1);
any_of_a_double : ending_of [] (script (
    silent 1 (sets "x" (call "any" (number 1 ∷ []))) ∷ [])) ≡ at_line 1 bad_class
unfolding whole_runs
any_of_a_double = refl

-- x = nnz('a');
nnz_of_a_text : ending_of [] (script (
    silent 1 (sets "x" (call "nnz" (text "a" ∷ []))) ∷ [])) ≡ at_line 1 bad_class
unfolding whole_runs
nnz_of_a_text = refl

-- x = numel({'a'});
numel_of_a_list : ending_of [] (script (
    silent 1 (sets "x" (call "numel" (texts ("a" ∷ []) ∷ []))) ∷ [])) ≡ at_line 1 bad_class
unfolding whole_runs
numel_of_a_list = refl

-- x = height(1);
height_of_a_scalar : ending_of [] (script (
    silent 1 (sets "x" (call "height" (number 1 ∷ []))) ∷ [])) ≡ at_line 1 bad_class
unfolding whole_runs
height_of_a_scalar = refl

-- x = cumsum(1);
cumsum_of_a_scalar : ending_of [] (script (
    silent 1 (sets "x" (call "cumsum" (number 1 ∷ []))) ∷ [])) ≡ at_line 1 bad_argument
unfolding whole_runs
cumsum_of_a_scalar = refl

-- that it is a scalar is looked at before its class
-- x = cummin('a');
cummin_of_a_scalar : ending_of [] (script (
    silent 1 (sets "x" (call "cummin" (text "a" ∷ []))) ∷ [])) ≡ at_line 1 bad_argument
unfolding whole_runs
cummin_of_a_scalar = refl

-- x = head(1);
head_of_a_scalar : ending_of [] (script (
    silent 1 (sets "x" (call "head" (number 1 ∷ []))) ∷ [])) ≡ at_line 1 bad_argument
unfolding whole_runs
head_of_a_scalar = refl

-- x = head({'a'});
head_of_a_list : ending_of [] (script (
    silent 1 (sets "x" (call "head" (texts ("a" ∷ []) ∷ []))) ∷ [])) ≡ at_line 1 bad_class
unfolding whole_runs
head_of_a_list = refl

-- x = head({'a'}, -1);
head_of_fewer_than_no_rows : ending_of [] (script (
    silent 1 (sets "x" (call "head" (texts ("a" ∷ []) ∷ minus (number 1) ∷ []))) ∷ [])) ≡ at_line 1 bad_argument
unfolding whole_runs
head_of_fewer_than_no_rows = refl

-- x = tail({'a'}, NaN);
tail_of_nan_rows : ending_of [] (script (
    silent 1 (sets "x" (call "tail" (texts ("a" ∷ []) ∷ name "NaN" ∷ []))) ∷ [])) ≡ at_line 1 bad_argument
unfolding whole_runs
tail_of_nan_rows = refl

-- x = tail({'a'}, int8(1));
tail_of_integer_rows : ending_of [] (script (
    silent 1 (sets "x" (call "tail" (texts ("a" ∷ []) ∷ call "int8" (number 1 ∷ []) ∷ []))) ∷ [])) ≡ at_line 1 bad_argument
unfolding whole_runs
tail_of_integer_rows = refl

-- x = unique(1);
unique_of_a_scalar : ending_of [] (script (
    silent 1 (sets "x" (call "unique" (number 1 ∷ []))) ∷ [])) ≡ at_line 1 bad_argument
unfolding whole_runs
unique_of_a_scalar = refl

-- x = unique({'a'});
unique_of_a_list : ending_of [] (script (
    silent 1 (sets "x" (call "unique" (texts ("a" ∷ []) ∷ []))) ∷ [])) ≡ at_line 1 bad_class
unfolding whole_runs
unique_of_a_list = refl

-- x = groupsummary(1, 'g');
groups_of_a_scalar : ending_of [] (script (
    silent 1 (sets "x" (call "groupsummary" (number 1 ∷ text "g" ∷ []))) ∷ [])) ≡ at_line 1 bad_class
unfolding whole_runs
groups_of_a_scalar = refl

-- x = groupsummary(1, 2);
groups_by_a_number : ending_of [] (script (
    silent 1 (sets "x" (call "groupsummary" (number 1 ∷ number 2 ∷ []))) ∷ [])) ≡ at_line 1 bad_argument
unfolding whole_runs
groups_by_a_number = refl

-- x = groupsummary(1, 'g', 'mean', 'v');
groups_by_another_method : ending_of [] (script (
    silent 1 (sets "x" (call "groupsummary" (number 1 ∷ text "g" ∷ text "mean" ∷ text "v" ∷ []))) ∷ [])) ≡ at_line 1 bad_argument
unfolding whole_runs
groups_by_another_method = refl

-- x = groupsummary(1, 'g', 'sum');
groups_without_data : ending_of [] (script (
    silent 1 (sets "x" (call "groupsummary" (number 1 ∷ text "g" ∷ text "sum" ∷ []))) ∷ [])) ≡ at_line 1 bad_argument
unfolding whole_runs
groups_without_data = refl

-- x = intmax(8);
intmax_of_a_number : ending_of [] (script (
    silent 1 (sets "x" (call "intmax" (number 8 ∷ []))) ∷ [])) ≡ at_line 1 bad_argument
unfolding whole_runs
intmax_of_a_number = refl

-- x = intmin('double');
intmin_of_another_class : ending_of [] (script (
    silent 1 (sets "x" (call "intmin" (text "double" ∷ []))) ∷ [])) ≡ at_line 1 bad_argument
unfolding whole_runs
intmin_of_another_class = refl
