-- What ends a run at functions over tall values, by computation.
use Rattle.std.specs.Prelude.{◌≡◌, [], ◌∷◌, ◌++◌, codes, refl, None, Some}
use Rattle.tall_value.specs.declared.faults.FaultKind.TheVariants.{Inexact, NanLogical, NoRows}
use Rattle.tall_grammar.specs.declared.expressions.Infix.TheVariants.{Gt, Add, DotMul}
use Rattle.tall_local.specs.Refusals.{undefined, bad_class, incompatible, bad_argument, failed}
use Rattle.tall_script_rows.specs.RowWords.{whole_runs, over, two_rows, usual, ending_of, at_line}
use Rattle.tall_script_rows.specs.Drafts.{number, text, name, infix_of, member, call, index, silent, sets, gathers, sets_property, script}

-- x = sum(T);
sum_of_a_table : ending_of two_rows (script (usual ("%d8" ∷ "%q" ∷ []) ++ (
    silent 3 (sets "x" (call "sum" (name "T" ∷ []))) ∷ []))) ≡ at_line 3 bad_class
unfolding whole_runs
sum_of_a_table = refl

-- x = sum(ds);
sum_of_a_datastore : ending_of two_rows (script (usual ("%d8" ∷ "%q" ∷ []) ++ (
    silent 3 (sets "x" (call "sum" (name "ds" ∷ []))) ∷ []))) ≡ at_line 3 bad_class
unfolding whole_runs
sum_of_a_datastore = refl

-- x = sum(T.g);
sum_of_a_text_column : ending_of two_rows (script (usual ("%d8" ∷ "%q" ∷ []) ++ (
    silent 3 (sets "x" (call "sum" (member (name "T") "g" ∷ []))) ∷ []))) ≡ at_line 3 bad_class
unfolding whole_runs
sum_of_a_text_column = refl

-- x = min(T.g);
min_of_a_text_column : ending_of two_rows (script (usual ("%d8" ∷ "%q" ∷ []) ++ (
    silent 3 (sets "x" (call "min" (member (name "T") "g" ∷ []))) ∷ []))) ≡ at_line 3 bad_class
unfolding whole_runs
min_of_a_text_column = refl

-- x = height(T.x);
height_of_a_column : ending_of two_rows (script (usual ("%d8" ∷ "%q" ∷ []) ++ (
    silent 3 (sets "x" (call "height" (member (name "T") "x" ∷ []))) ∷ []))) ≡ at_line 3 bad_class
unfolding whole_runs
height_of_a_column = refl

-- x = numel(T);
numel_of_a_table : ending_of two_rows (script (usual ("%d8" ∷ "%q" ∷ []) ++ (
    silent 3 (sets "x" (call "numel" (name "T" ∷ []))) ∷ []))) ≡ at_line 3 bad_class
unfolding whole_runs
numel_of_a_table = refl

-- x = cumsum(sum(T.x));
cumsum_of_a_tall_scalar : ending_of two_rows (script (usual ("%d8" ∷ "%q" ∷ []) ++ (
    silent 3 (sets "x" (call "cumsum" (call "sum" (member (name "T") "x" ∷ []) ∷ []))) ∷ []))) ≡ at_line 3 bad_argument
unfolding whole_runs
cumsum_of_a_tall_scalar = refl

-- x = cumsum(T);
cumsum_of_a_table : ending_of two_rows (script (usual ("%d8" ∷ "%q" ∷ []) ++ (
    silent 3 (sets "x" (call "cumsum" (name "T" ∷ []))) ∷ []))) ≡ at_line 3 bad_class
unfolding whole_runs
cumsum_of_a_table = refl

-- x = head(max(T.x));
head_of_a_tall_scalar : ending_of two_rows (script (usual ("%d8" ∷ "%q" ∷ []) ++ (
    silent 3 (sets "x" (call "head" (call "max" (member (name "T") "x" ∷ []) ∷ []))) ∷ []))) ≡ at_line 3 bad_argument
unfolding whole_runs
head_of_a_tall_scalar = refl

-- x = head(ds);
head_of_a_datastore : ending_of two_rows (script (usual ("%d8" ∷ "%q" ∷ []) ++ (
    silent 3 (sets "x" (call "head" (name "ds" ∷ []))) ∷ []))) ≡ at_line 3 bad_class
unfolding whole_runs
head_of_a_datastore = refl

-- x = head(T, numel(T.x));
head_of_tall_rows : ending_of two_rows (script (usual ("%d8" ∷ "%q" ∷ []) ++ (
    silent 3 (sets "x" (call "head" (name "T" ∷ call "numel" (member (name "T") "x" ∷ []) ∷ []))) ∷ []))) ≡ at_line 3 bad_argument
unfolding whole_runs
head_of_tall_rows = refl

-- x = unique(T);
unique_of_a_table : ending_of two_rows (script (usual ("%d8" ∷ "%q" ∷ []) ++ (
    silent 3 (sets "x" (call "unique" (name "T" ∷ []))) ∷ []))) ≡ at_line 3 bad_class
unfolding whole_runs
unique_of_a_table = refl

-- x = groupsummary(T, 'k');
groups_by_no_variable : ending_of two_rows (script (usual ("%d8" ∷ "%q" ∷ []) ++ (
    silent 3 (sets "x" (call "groupsummary" (name "T" ∷ text "k" ∷ []))) ∷ []))) ≡ at_line 3 (undefined (codes "k"))
unfolding whole_runs
groups_by_no_variable = refl

-- x = groupsummary(T, 'g', 'sum', 'v');
groups_of_no_variable : ending_of two_rows (script (usual ("%d8" ∷ "%q" ∷ []) ++ (
    silent 3 (sets "x" (call "groupsummary" (name "T" ∷ text "g" ∷ text "sum" ∷ text "v" ∷ []))) ∷ []))) ≡ at_line 3 (undefined (codes "v"))
unfolding whole_runs
groups_of_no_variable = refl

-- x = groupsummary(T, 'k', 'sum', 'g');
names_before_classes : ending_of two_rows (script (usual ("%d8" ∷ "%q" ∷ []) ++ (
    silent 3 (sets "x" (call "groupsummary" (name "T" ∷ text "k" ∷ text "sum" ∷ text "g" ∷ []))) ∷ []))) ≡ at_line 3 (undefined (codes "k"))
unfolding whole_runs
names_before_classes = refl

-- x = groupsummary(T, 'g', 'sum', 'g');
sum_of_texts_in_groups : ending_of two_rows (script (usual ("%d8" ∷ "%q" ∷ []) ++ (
    silent 3 (sets "x" (call "groupsummary" (name "T" ∷ text "g" ∷ text "sum" ∷ text "g" ∷ []))) ∷ []))) ≡ at_line 3 bad_class
unfolding whole_runs
sum_of_texts_in_groups = refl

-- x = groupsummary(T.x, 'g');
groups_of_a_column : ending_of two_rows (script (usual ("%d8" ∷ "%q" ∷ []) ++ (
    silent 3 (sets "x" (call "groupsummary" (member (name "T") "x" ∷ text "g" ∷ []))) ∷ []))) ≡ at_line 3 bad_class
unfolding whole_runs
groups_of_a_column = refl

-- x = gather(ds);
gather_of_a_datastore : ending_of two_rows (script (usual ("%d8" ∷ "%q" ∷ []) ++ (
    silent 3 (sets "x" (call "gather" (name "ds" ∷ []))) ∷ []))) ≡ at_line 3 bad_class
unfolding whole_runs
gather_of_a_datastore = refl

-- [x, y] = gather(T.x, ds);
gather_of_a_datastore_into_names : ending_of two_rows (script (usual ("%d8" ∷ "%q" ∷ []) ++ (
    silent 3 (gathers ("x" ∷ "y" ∷ []) (member (name "T") "x" ∷ name "ds" ∷ [])) ∷ []))) ≡ at_line 3 bad_class
unfolding whole_runs
gather_of_a_datastore_into_names = refl

-- x = gather(max(T.x(T.x > 5)));
greatest_over_no_rows : ending_of two_rows (script (usual ("%d8" ∷ "%q" ∷ []) ++ (
    silent 3 (sets "x" (call "gather" (call "max" (index (member (name "T") "x") (infix_of Gt (member (name "T") "x") (number 5) ∷ []) ∷ []) ∷ []))) ∷ []))) ≡ at_line 3 (failed None NoRows)
unfolding whole_runs
greatest_over_no_rows = refl

-- x = logical(double(T.x) .* NaN); / y = gather(x);
nan_as_a_tall_logical : ending_of two_rows (script (usual ("%d8" ∷ "%q" ∷ []) ++ (
    silent 3 (sets "x" (call "logical" (infix_of DotMul (call "double" (member (name "T") "x" ∷ [])) (name "NaN") ∷ []))) ∷
    silent 4 (sets "y" (call "gather" (name "x" ∷ []))) ∷ []))) ≡ at_line 3 (failed (Some 1) NanLogical)
unfolding whole_runs
nan_as_a_tall_logical = refl

-- x = sum(double(T.x) + 9007199254740989); / y = gather(x);
total_of_doubles : ending_of two_rows (script (usual ("%d8" ∷ "%q" ∷ []) ++ (
    silent 3 (sets "x" (call "sum" (infix_of Add (call "double" (member (name "T") "x" ∷ [])) (number 9007199254740989) ∷ []))) ∷
    silent 4 (sets "y" (call "gather" (name "x" ∷ []))) ∷ []))) ≡ at_line 3 (failed None Inexact)
unfolding whole_runs
total_of_doubles = refl

-- x = groupsummary(T, 'GroupCount');
columns_of_one_name : ending_of (over (codes "GroupCount\n1\n")) (script (usual ("%f" ∷ []) ++ (
    silent 3 (sets "x" (call "groupsummary" (name "T" ∷ text "GroupCount" ∷ []))) ∷ []))) ≡ at_line 3 bad_argument
unfolding whole_runs
columns_of_one_name = refl

-- t = gather(T); / x = groupsummary(t, 'GroupCount');
columns_of_one_name_in_memory : ending_of (over (codes "GroupCount\n1\n")) (script (usual ("%f" ∷ []) ++ (
    silent 3 (sets "t" (call "gather" (name "T" ∷ []))) ∷
    silent 4 (sets "x" (call "groupsummary" (name "t" ∷ text "GroupCount" ∷ []))) ∷ []))) ≡ at_line 4 bad_argument
unfolding whole_runs
columns_of_one_name_in_memory = refl

-- U = tall(tabularTextDatastore('a.csv')); / x = U.x + double(T.x);
two_datastores : ending_of two_rows (script (usual ("%d8" ∷ "%q" ∷ []) ++ (
    silent 3 (sets "U" (call "tall" (call "tabularTextDatastore" (text "a.csv" ∷ []) ∷ []))) ∷
    silent 4 (sets "x" (infix_of Add (member (name "U") "x") (call "double" (member (name "T") "x" ∷ [])))) ∷ []))) ≡ at_line 4 incompatible
unfolding whole_runs
two_datastores = refl

-- a property statement makes another datastore
-- ds.ReadSize = 1; / U = tall(ds); / x = U.x + T.x;
datastore_with_another_size : ending_of two_rows (script (usual ("%d8" ∷ "%q" ∷ []) ++ (
    silent 3 (sets_property "ds" "ReadSize" (number 1)) ∷
    silent 4 (sets "U" (call "tall" (name "ds" ∷ []))) ∷
    silent 5 (sets "x" (infix_of Add (member (name "U") "x") (member (name "T") "x"))) ∷ []))) ≡ at_line 5 incompatible
unfolding whole_runs
datastore_with_another_size = refl
