-- What is refused at the making of a datastore and at its properties, by computation.
use Rattle.std.specs.Prelude.{◌≡◌, [], ◌∷◌, codes, refl}
use Rattle.tall_local.specs.Refusals.{bad_argument, no_file, no_header}
use Rattle.tall_script_rows.specs.RowWords.{whole_runs, over, ending_of, at_line}
use Rattle.tall_script_rows.specs.Drafts.{number, text, name, texts, call, silent, sets, sets_property, script}

-- tabularTextDatastore()
no_argument : ending_of [] (script (
    silent 1 (sets "ds" (call "tabularTextDatastore" [])) ∷ [])) ≡ at_line 1 bad_argument
unfolding whole_runs
no_argument = refl

-- tabularTextDatastore(1)
number_as_files : ending_of [] (script (
    silent 1 (sets "ds" (call "tabularTextDatastore" (number 1 ∷ []))) ∷ [])) ≡ at_line 1 bad_argument
unfolding whole_runs
number_as_files = refl

-- tabularTextDatastore({})
no_files : ending_of [] (script (
    silent 1 (sets "ds" (call "tabularTextDatastore" (texts [] ∷ []))) ∷ [])) ≡ at_line 1 bad_argument
unfolding whole_runs
no_files = refl

-- tabularTextDatastore({'a.csv', 'a.csv'})
file_twice : ending_of [] (script (
    silent 1 (sets "ds" (call "tabularTextDatastore" (texts ("a.csv" ∷ "a.csv" ∷ []) ∷ []))) ∷ [])) ≡ at_line 1 bad_argument
unfolding whole_runs
file_twice = refl

-- tabularTextDatastore('a.csv', 'ReadSize')
option_without_a_value : ending_of [] (script (
    silent 1 (sets "ds" (call "tabularTextDatastore" (text "a.csv" ∷ text "ReadSize" ∷ []))) ∷ [])) ≡ at_line 1 bad_argument
unfolding whole_runs
option_without_a_value = refl

-- tabularTextDatastore('a.csv', 'ReadSize', 5000000000)
block_above_all_numbers : ending_of [] (script (
    silent 1 (sets "ds" (call "tabularTextDatastore" (text "a.csv" ∷ text "ReadSize" ∷ number 5000000000 ∷ []))) ∷ [])) ≡ at_line 1 bad_argument
unfolding whole_runs
block_above_all_numbers = refl

-- tabularTextDatastore('a.csv', 'ReadSize', 2147483648)
block_too_large : ending_of [] (script (
    silent 1 (sets "ds" (call "tabularTextDatastore" (text "a.csv" ∷ text "ReadSize" ∷ number 2147483648 ∷ []))) ∷ [])) ≡ at_line 1 bad_argument
unfolding whole_runs
block_too_large = refl

-- tabularTextDatastore('a.csv', 'ReadSize', 2147483647)
largest_block : ending_of [] (script (
    silent 1 (sets "ds" (call "tabularTextDatastore" (text "a.csv" ∷ text "ReadSize" ∷ number 2147483647 ∷ []))) ∷ [])) ≡ at_line 1 (no_file (codes "a.csv"))
unfolding whole_runs
largest_block = refl

-- tabularTextDatastore('a.csv', 1, 2)
name_that_is_no_text : ending_of [] (script (
    silent 1 (sets "ds" (call "tabularTextDatastore" (text "a.csv" ∷ number 1 ∷ number 2 ∷ []))) ∷ [])) ≡ at_line 1 bad_argument
unfolding whole_runs
name_that_is_no_text = refl

-- tabularTextDatastore('a.csv', 'Nosuch', 1)
no_such_option : ending_of [] (script (
    silent 1 (sets "ds" (call "tabularTextDatastore" (text "a.csv" ∷ text "Nosuch" ∷ number 1 ∷ []))) ∷ [])) ≡ at_line 1 bad_argument
unfolding whole_runs
no_such_option = refl

-- tabularTextDatastore('a.csv', 'ReadSize', 1, 'ReadSize', 1)
option_twice : ending_of [] (script (
    silent 1 (sets "ds" (call "tabularTextDatastore" (text "a.csv" ∷ text "ReadSize" ∷ number 1 ∷ text "ReadSize" ∷ number 1 ∷ []))) ∷ [])) ≡ at_line 1 bad_argument
unfolding whole_runs
option_twice = refl

-- tabularTextDatastore('a.csv', 'Delimiter', ';;')
two_bytes_as_delimiter : ending_of [] (script (
    silent 1 (sets "ds" (call "tabularTextDatastore" (text "a.csv" ∷ text "Delimiter" ∷ text ";;" ∷ []))) ∷ [])) ≡ at_line 1 bad_argument
unfolding whole_runs
two_bytes_as_delimiter = refl

-- tabularTextDatastore('a.csv', 'Delimiter', '"')
quote_as_delimiter : ending_of [] (script (
    silent 1 (sets "ds" (call "tabularTextDatastore" (text "a.csv" ∷ text "Delimiter" ∷ text "\"" ∷ []))) ∷ [])) ≡ at_line 1 bad_argument
unfolding whole_runs
quote_as_delimiter = refl

-- tabularTextDatastore('a.csv', 'ReadSize', 0)
no_rows_as_size : ending_of [] (script (
    silent 1 (sets "ds" (call "tabularTextDatastore" (text "a.csv" ∷ text "ReadSize" ∷ number 0 ∷ []))) ∷ [])) ≡ at_line 1 bad_argument
unfolding whole_runs
no_rows_as_size = refl

-- tabularTextDatastore('a.csv', 'ReadSize', NaN)
nan_as_size : ending_of [] (script (
    silent 1 (sets "ds" (call "tabularTextDatastore" (text "a.csv" ∷ text "ReadSize" ∷ name "NaN" ∷ []))) ∷ [])) ≡ at_line 1 bad_argument
unfolding whole_runs
nan_as_size = refl

-- tabularTextDatastore('a.csv', 'ReadSize', int8(1))
integer_as_size : ending_of [] (script (
    silent 1 (sets "ds" (call "tabularTextDatastore" (text "a.csv" ∷ text "ReadSize" ∷ call "int8" (number 1 ∷ []) ∷ []))) ∷ [])) ≡ at_line 1 bad_argument
unfolding whole_runs
integer_as_size = refl

-- tabularTextDatastore('a.csv', 'ReadSize', 'all')
text_as_size : ending_of [] (script (
    silent 1 (sets "ds" (call "tabularTextDatastore" (text "a.csv" ∷ text "ReadSize" ∷ text "all" ∷ []))) ∷ [])) ≡ at_line 1 bad_argument
unfolding whole_runs
text_as_size = refl

-- tabularTextDatastore('a.csv', 'TreatAsMissing', 0)
number_as_missing : ending_of [] (script (
    silent 1 (sets "ds" (call "tabularTextDatastore" (text "a.csv" ∷ text "TreatAsMissing" ∷ number 0 ∷ []))) ∷ [])) ≡ at_line 1 bad_argument
unfolding whole_runs
number_as_missing = refl

-- tabularTextDatastore('a.csv', 'SelectedVariableNames', {})
nothing_selected : ending_of [] (script (
    silent 1 (sets "ds" (call "tabularTextDatastore" (text "a.csv" ∷ text "SelectedVariableNames" ∷ texts [] ∷ []))) ∷ [])) ≡ at_line 1 bad_argument
unfolding whole_runs
nothing_selected = refl

-- tabularTextDatastore('a.csv', 'SelectedVariableNames', {'x', 'x'})
selected_twice : ending_of [] (script (
    silent 1 (sets "ds" (call "tabularTextDatastore" (text "a.csv" ∷ text "SelectedVariableNames" ∷ texts ("x" ∷ "x" ∷ []) ∷ []))) ∷ [])) ≡ at_line 1 bad_argument
unfolding whole_runs
selected_twice = refl

-- tabularTextDatastore('a.csv', 'TextscanFormats', '%f')
formats_that_are_no_list : ending_of [] (script (
    silent 1 (sets "ds" (call "tabularTextDatastore" (text "a.csv" ∷ text "TextscanFormats" ∷ text "%f" ∷ []))) ∷ [])) ≡ at_line 1 bad_argument
unfolding whole_runs
formats_that_are_no_list = refl

-- tabularTextDatastore('a.csv', 'TextscanFormats', {'%s'})
no_such_format : ending_of [] (script (
    silent 1 (sets "ds" (call "tabularTextDatastore" (text "a.csv" ∷ text "TextscanFormats" ∷ texts ("%s" ∷ []) ∷ []))) ∷ [])) ≡ at_line 1 bad_argument
unfolding whole_runs
no_such_format = refl

-- tabularTextDatastore('a.csv', 'ReadVariableNames', 1)
number_as_truth : ending_of [] (script (
    silent 1 (sets "ds" (call "tabularTextDatastore" (text "a.csv" ∷ text "ReadVariableNames" ∷ number 1 ∷ []))) ∷ [])) ≡ at_line 1 bad_argument
unfolding whole_runs
number_as_truth = refl

-- tabularTextDatastore('a.csv')
absent_file : ending_of [] (script (
    silent 1 (sets "ds" (call "tabularTextDatastore" (text "a.csv" ∷ []))) ∷ [])) ≡ at_line 1 (no_file (codes "a.csv"))
unfolding whole_runs
absent_file = refl

-- tabularTextDatastore('a.csv', 'ReadSize', 0)
options_before_the_file : ending_of [] (script (
    silent 1 (sets "ds" (call "tabularTextDatastore" (text "a.csv" ∷ text "ReadSize" ∷ number 0 ∷ []))) ∷ [])) ≡ at_line 1 bad_argument
unfolding whole_runs
options_before_the_file = refl

-- tabularTextDatastore('a.csv', 'SelectedVariableNames', {'y'})
file_before_its_variables : ending_of [] (script (
    silent 1 (sets "ds" (call "tabularTextDatastore" (text "a.csv" ∷ text "SelectedVariableNames" ∷ texts ("y" ∷ []) ∷ []))) ∷ [])) ≡ at_line 1 (no_file (codes "a.csv"))
unfolding whole_runs
file_before_its_variables = refl

-- tabularTextDatastore('a.csv', 'SelectedVariableNames', {'y'})
no_such_variable : ending_of (over (codes "x\n1\n")) (script (
    silent 1 (sets "ds" (call "tabularTextDatastore" (text "a.csv" ∷ text "SelectedVariableNames" ∷ texts ("y" ∷ []) ∷ []))) ∷ [])) ≡ at_line 1 bad_argument
unfolding whole_runs
no_such_variable = refl

-- tabularTextDatastore('a.csv', 'TextscanFormats', {'%f', '%f'})
too_many_formats : ending_of (over (codes "x\n1\n")) (script (
    silent 1 (sets "ds" (call "tabularTextDatastore" (text "a.csv" ∷ text "TextscanFormats" ∷ texts ("%f" ∷ "%f" ∷ []) ∷ []))) ∷ [])) ≡ at_line 1 bad_argument
unfolding whole_runs
too_many_formats = refl

-- tabularTextDatastore('a.csv')
empty_file : ending_of (over (codes "")) (script (
    silent 1 (sets "ds" (call "tabularTextDatastore" (text "a.csv" ∷ []))) ∷ [])) ≡ at_line 1 (no_header (codes "a.csv"))
unfolding whole_runs
empty_file = refl

-- ds = tabularTextDatastore('a.csv'); / ds.Delimiter = 1;
property_that_is_none : ending_of (over (codes "x\n1\n")) (script (
    silent 1 (sets "ds" (call "tabularTextDatastore" (text "a.csv" ∷ []))) ∷
    silent 2 (sets_property "ds" "Delimiter" (number 1)) ∷ [])) ≡ at_line 2 bad_argument
unfolding whole_runs
property_that_is_none = refl

-- ds = tabularTextDatastore('a.csv'); / ds.ReadSize = 0;
size_of_no_rows : ending_of (over (codes "x\n1\n")) (script (
    silent 1 (sets "ds" (call "tabularTextDatastore" (text "a.csv" ∷ []))) ∷
    silent 2 (sets_property "ds" "ReadSize" (number 0)) ∷ [])) ≡ at_line 2 bad_argument
unfolding whole_runs
size_of_no_rows = refl

-- ds = tabularTextDatastore('a.csv'); / ds.SelectedVariableNames = 'y';
selection_of_no_variable : ending_of (over (codes "x\n1\n")) (script (
    silent 1 (sets "ds" (call "tabularTextDatastore" (text "a.csv" ∷ []))) ∷
    silent 2 (sets_property "ds" "SelectedVariableNames" (text "y")) ∷ [])) ≡ at_line 2 bad_argument
unfolding whole_runs
selection_of_no_variable = refl

-- ds = tabularTextDatastore('a.csv'); / ds.TextscanFormats = {'%f', '%f'};
formats_of_another_number : ending_of (over (codes "x\n1\n")) (script (
    silent 1 (sets "ds" (call "tabularTextDatastore" (text "a.csv" ∷ []))) ∷
    silent 2 (sets_property "ds" "TextscanFormats" (texts ("%f" ∷ "%f" ∷ []))) ∷ [])) ≡ at_line 2 bad_argument
unfolding whole_runs
formats_of_another_number = refl

-- ds = tabularTextDatastore('a.csv'); / T = tall(ds); / ds.ReadSize = height(T);
tall_value_as_property : ending_of (over (codes "x\n1\n")) (script (
    silent 1 (sets "ds" (call "tabularTextDatastore" (text "a.csv" ∷ []))) ∷
    silent 2 (sets "T" (call "tall" (name "ds" ∷ []))) ∷
    silent 3 (sets_property "ds" "ReadSize" (call "height" (name "T" ∷ []))) ∷ [])) ≡ at_line 3 bad_argument
unfolding whole_runs
tall_value_as_property = refl
