-- What ends a run at gathers, datastores and mapreduce over values in memory, and at statements, by computation.
use Rattle.std.specs.Prelude.{◌≡◌, [], ◌∷◌, codes, refl}
use Rattle.tall_local.specs.Refusals.{undefined, bad_class, bad_argument}
use Rattle.tall_script_rows.specs.RowWords.{whole_runs, ending_of, at_line}
use Rattle.tall_script_rows.specs.Drafts.{number, name, handle, texts, call, silent, sets, gathers, sets_property, function_from, parameter, script, script_with}

-- x = tall(1);
tall_of_a_number : ending_of [] (script (
    silent 1 (sets "x" (call "tall" (number 1 ∷ []))) ∷ [])) ≡ at_line 1 bad_class
unfolding whole_runs
tall_of_a_number = refl

-- x = tall();
tall_of_nothing : ending_of [] (script (
    silent 1 (sets "x" (call "tall" [])) ∷ [])) ≡ at_line 1 bad_argument
unfolding whole_runs
tall_of_nothing = refl

-- x = gather({'a'});
gather_of_a_list : ending_of [] (script (
    silent 1 (sets "x" (call "gather" (texts ("a" ∷ []) ∷ []))) ∷ [])) ≡ at_line 1 bad_class
unfolding whole_runs
gather_of_a_list = refl

-- x = gather(1, 2);
gather_of_two_into_one : ending_of [] (script (
    silent 1 (sets "x" (call "gather" (number 1 ∷ number 2 ∷ []))) ∷ [])) ≡ at_line 1 bad_argument
unfolding whole_runs
gather_of_two_into_one = refl

-- [x, y] = gather(1);
gather_of_one_into_two : ending_of [] (script (
    silent 1 (gathers ("x" ∷ "y" ∷ []) (number 1 ∷ [])) ∷ [])) ≡ at_line 1 bad_argument
unfolding whole_runs
gather_of_one_into_two = refl

-- [x, y] = gather({'a'});
number_of_names_before_classes : ending_of [] (script (
    silent 1 (gathers ("x" ∷ "y" ∷ []) (texts ("a" ∷ []) ∷ [])) ∷ [])) ≡ at_line 1 bad_argument
unfolding whole_runs
number_of_names_before_classes = refl

-- [x] = gather({'a'});
gather_of_a_list_into_a_name : ending_of [] (script (
    silent 1 (gathers ("x" ∷ []) (texts ("a" ∷ []) ∷ [])) ∷ [])) ≡ at_line 1 bad_class
unfolding whole_runs
gather_of_a_list_into_a_name = refl

-- [x, y] = gather(z);
arguments_of_a_gather_first : ending_of [] (script (
    silent 1 (gathers ("x" ∷ "y" ∷ []) (name "z" ∷ [])) ∷ [])) ≡ at_line 1 (undefined (codes "z"))
unfolding whole_runs
arguments_of_a_gather_first = refl

-- x = readall(1);
readall_of_a_scalar : ending_of [] (script (
    silent 1 (sets "x" (call "readall" (number 1 ∷ []))) ∷ [])) ≡ at_line 1 bad_class
unfolding whole_runs
readall_of_a_scalar = refl

-- x = readall();
readall_of_nothing : ending_of [] (script (
    silent 1 (sets "x" (call "readall" [])) ∷ [])) ≡ at_line 1 bad_argument
unfolding whole_runs
readall_of_nothing = refl

-- x = mapreduce(1, 2, 3);
mapreduce_of_no_functions : ending_of [] (script (
    silent 1 (sets "x" (call "mapreduce" (number 1 ∷ number 2 ∷ number 3 ∷ []))) ∷ [])) ≡ at_line 1 bad_argument
unfolding whole_runs
mapreduce_of_no_functions = refl

-- x = mapreduce(1, @m, @m); / function m(a, b, c) / end
mapreduce_of_a_number : ending_of [] (script_with (
    silent 1 (sets "x" (call "mapreduce" (number 1 ∷ handle "m" ∷ handle "m" ∷ []))) ∷ []) (
    function_from "m" 2 (parameter "a" ∷ parameter "b" ∷ parameter "c" ∷ [])
    [] ∷ [])) ≡ at_line 1 bad_class
unfolding whole_runs
mapreduce_of_a_number = refl

-- x = mapreduce(1, @m, @nosuch); / function m(a, b, c) / end
mapreduce_of_no_function : ending_of [] (script_with (
    silent 1 (sets "x" (call "mapreduce" (number 1 ∷ handle "m" ∷ handle "nosuch" ∷ []))) ∷ []) (
    function_from "m" 2 (parameter "a" ∷ parameter "b" ∷ parameter "c" ∷ [])
    [] ∷ [])) ≡ at_line 1 (undefined (codes "nosuch"))
unfolding whole_runs
mapreduce_of_no_function = refl

-- x = mapreduce(1, @m); / function m(a, b, c) / end
mapreduce_of_one_function : ending_of [] (script_with (
    silent 1 (sets "x" (call "mapreduce" (number 1 ∷ handle "m" ∷ []))) ∷ []) (
    function_from "m" 2 (parameter "a" ∷ parameter "b" ∷ parameter "c" ∷ [])
    [] ∷ [])) ≡ at_line 1 bad_argument
unfolding whole_runs
mapreduce_of_one_function = refl

-- x = hasnext(1);
hasnext_in_the_script : ending_of [] (script (
    silent 1 (sets "x" (call "hasnext" (number 1 ∷ []))) ∷ [])) ≡ at_line 1 bad_argument
unfolding whole_runs
hasnext_in_the_script = refl

-- x = getnext(1);
getnext_in_the_script : ending_of [] (script (
    silent 1 (sets "x" (call "getnext" (number 1 ∷ []))) ∷ [])) ≡ at_line 1 bad_argument
unfolding whole_runs
getnext_in_the_script = refl

-- x = add(1, 2, 3);
add_in_the_script : ending_of [] (script (
    silent 1 (sets "x" (call "add" (number 1 ∷ number 2 ∷ number 3 ∷ []))) ∷ [])) ≡ at_line 1 bad_argument
unfolding whole_runs
add_in_the_script = refl

-- ds.ReadSize = 1;
property_of_no_value : ending_of [] (script (
    silent 1 (sets_property "ds" "ReadSize" (number 1)) ∷ [])) ≡ at_line 1 (undefined (codes "ds"))
unfolding whole_runs
property_of_no_value = refl

-- a = 1; / a.ReadSize = 1;
property_of_a_number : ending_of [] (script (
    silent 1 (sets "a" (number 1)) ∷
    silent 2 (sets_property "a" "ReadSize" (number 1)) ∷ [])) ≡ at_line 2 bad_argument
unfolding whole_runs
property_of_a_number = refl

-- names that have values are no datastores, and are there
-- true.ReadSize = 1;
property_of_true : ending_of [] (script (
    silent 1 (sets_property "true" "ReadSize" (number 1)) ∷ [])) ≡ at_line 1 bad_argument
unfolding whole_runs
property_of_true = refl

-- false.ReadSize = 1;
property_of_false : ending_of [] (script (
    silent 1 (sets_property "false" "ReadSize" (number 1)) ∷ [])) ≡ at_line 1 bad_argument
unfolding whole_runs
property_of_false = refl

-- NaN.ReadSize = 1;
property_of_nan : ending_of [] (script (
    silent 1 (sets_property "NaN" "ReadSize" (number 1)) ∷ [])) ≡ at_line 1 bad_argument
unfolding whole_runs
property_of_nan = refl

-- ds.ReadSize = y;
value_of_a_property_first : ending_of [] (script (
    silent 1 (sets_property "ds" "ReadSize" (name "y")) ∷ [])) ≡ at_line 1 (undefined (codes "y"))
unfolding whole_runs
value_of_a_property_first = refl
