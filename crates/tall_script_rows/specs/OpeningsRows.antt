-- How often a run may open a file, by computation.
use Rattle.std.specs.Prelude.{◌≡◌, [], ◌∷◌, ◌++◌, codes, refl}
use Rattle.tall_grammar.specs.declared.expressions.Infix.TheVariants.{Add, Sub, DotDiv}
use Rattle.tall_grammar.specs.Refusals.{read, syntax_at}
use Rattle.tall_grammar.specs.Trees.{assign_step}
use Rattle.tall_script.specs.AllowedOpenings.{allowed_of}
use Rattle.tall_script.specs.Runs.{openings}
use Rattle.tall_script_rows.specs.RowWords.{whole_runs, over, usual}
use Rattle.tall_script_rows.specs.Drafts.{number, text, name, handle, infix_of, member, texts, call, shown, silent, sets, gathers, function_from, parameter, script, script_with}

-- the opening alone
-- a.csv: x / 3 / 5
-- 3: z = T.x + T.x;
value_that_is_not_gathered : openings (over (codes "x\n3\n5\n")) (script (usual ("%f" ∷ []) ++ (
    silent 3 (sets "z" (infix_of Add (member (name "T") "x") (member (name "T") "x"))) ∷ []))) (codes "a.csv") ≡ 1
unfolding whole_runs
value_that_is_not_gathered = refl

-- a.csv: x / 3 / 5
-- 3: z = gather(T.x + 1);
elementwise : openings (over (codes "x\n3\n5\n")) (script (usual ("%f" ∷ []) ++ (
    silent 3 (sets "z" (call "gather" (infix_of Add (member (name "T") "x") (number 1) ∷ []))) ∷ []))) (codes "a.csv") ≡ 2
unfolding whole_runs
elementwise = refl

-- a.csv: x / 3 / 5
-- 3: z = gather(max(T.x));
one_level : openings (over (codes "x\n3\n5\n")) (script (usual ("%f" ∷ []) ++ (
    silent 3 (sets "z" (call "gather" (call "max" (member (name "T") "x" ∷ []) ∷ []))) ∷ []))) (codes "a.csv") ≡ 2
unfolding whole_runs
one_level = refl

-- a.csv: x / 3 / 5
-- 3: m = max(T.x);
-- 4: s = sum(T.x - m);
-- 5: [m, s] = gather(m, s)
two_levels : openings (over (codes "x\n3\n5\n")) (script (usual ("%f" ∷ []) ++ (
    silent 3 (sets "m" (call "max" (member (name "T") "x" ∷ []))) ∷
    silent 4 (sets "s" (call "sum" (infix_of Sub (member (name "T") "x") (name "m") ∷ []))) ∷
    shown 5 (gathers ("m" ∷ "s" ∷ []) (name "m" ∷ name "s" ∷ [])) ∷ []))) (codes "a.csv") ≡ 3
unfolding whole_runs
two_levels = refl

-- a.csv: x / 3 / 5
-- 3: z = gather(sum(T.x - max(T.x - min(T.x))));
three_levels : openings (over (codes "x\n3\n5\n")) (script (usual ("%f" ∷ []) ++ (
    silent 3 (sets "z" (call "gather" (call "sum" (infix_of Sub (member (name "T") "x") (call "max" (infix_of Sub (member (name "T") "x") (call "min" (member (name "T") "x" ∷ [])) ∷ [])) ∷ []) ∷ []))) ∷ []))) (codes "a.csv") ≡ 4
unfolding whole_runs
three_levels = refl

-- a.csv: x / 3 / 5
-- 3: z = gather(T.x - max(T.x));
gathered_column_above_a_total : openings (over (codes "x\n3\n5\n")) (script (usual ("%f" ∷ []) ++ (
    silent 3 (sets "z" (call "gather" (infix_of Sub (member (name "T") "x") (call "max" (member (name "T") "x" ∷ [])) ∷ []))) ∷ []))) (codes "a.csv") ≡ 3
unfolding whole_runs
gathered_column_above_a_total = refl

-- a.csv: x / 3 / 5
-- 3: a = gather(sum(T.x));
-- 4: b = gather(sum(T.x));
two_gathers : openings (over (codes "x\n3\n5\n")) (script (usual ("%f" ∷ []) ++ (
    silent 3 (sets "a" (call "gather" (call "sum" (member (name "T") "x" ∷ []) ∷ []))) ∷
    silent 4 (sets "b" (call "gather" (call "sum" (member (name "T") "x" ∷ []) ∷ []))) ∷ []))) (codes "a.csv") ≡ 3
unfolding whole_runs
two_gathers = refl

-- each datastore counts for itself
-- a.csv: x / 3 / 5
-- 3: U = tall(tabularTextDatastore('a.csv'));
-- 4: [a, b] = gather(sum(T.x), sum(U.x));
two_datastores_of_a_file : openings (over (codes "x\n3\n5\n")) (script (usual ("%f" ∷ []) ++ (
    silent 3 (sets "U" (call "tall" (call "tabularTextDatastore" (text "a.csv" ∷ []) ∷ []))) ∷
    silent 4 (gathers ("a" ∷ "b" ∷ []) (call "sum" (member (name "T") "x" ∷ []) ∷ call "sum" (member (name "U") "x" ∷ []) ∷ [])) ∷ []))) (codes "a.csv") ≡ 4
unfolding whole_runs
two_datastores_of_a_file = refl

-- the count of the other argument counts for each file that is reached
-- a.csv: x / 3 / 5
-- b.csv: x / 1
-- 3: U = tall(tabularTextDatastore('b.csv'));
-- 4: [a, b] = gather(sum(U.x), T.x - max(T.x));
greatest_count_of_all_arguments : openings ((codes "a.csv", codes "x\n3\n5\n") ∷ (codes "b.csv", codes "x\n1\n") ∷ []) (script (usual ("%f" ∷ []) ++ (
    silent 3 (sets "U" (call "tall" (call "tabularTextDatastore" (text "b.csv" ∷ []) ∷ []))) ∷
    silent 4 (gathers ("a" ∷ "b" ∷ []) (call "sum" (member (name "U") "x" ∷ []) ∷ infix_of Sub (member (name "T") "x") (call "max" (member (name "T") "x" ∷ [])) ∷ [])) ∷ []))) (codes "b.csv") ≡ 3
unfolding whole_runs
greatest_count_of_all_arguments = refl

-- a.csv: x / 3 / 5
-- b.csv: x / 1
-- 3: U = tall(tabularTextDatastore('b.csv'));
-- 4: a = gather(sum(T.x));
datastore_that_is_not_reached : openings ((codes "a.csv", codes "x\n3\n5\n") ∷ (codes "b.csv", codes "x\n1\n") ∷ []) (script (usual ("%f" ∷ []) ++ (
    silent 3 (sets "U" (call "tall" (call "tabularTextDatastore" (text "b.csv" ∷ []) ∷ []))) ∷
    silent 4 (sets "a" (call "gather" (call "sum" (member (name "T") "x" ∷ []) ∷ []))) ∷ []))) (codes "b.csv") ≡ 1
unfolding whole_runs
datastore_that_is_not_reached = refl

-- a.csv: x / 3 / 5
-- 3: z = gather(T.x ./ 0);
gather_with_a_fault : openings (over (codes "x\n3\n5\n")) (script (usual ("%f" ∷ []) ++ (
    silent 3 (sets "z" (call "gather" (infix_of DotDiv (member (name "T") "x") (number 0) ∷ []))) ∷ []))) (codes "a.csv") ≡ 2
unfolding whole_runs
gather_with_a_fault = refl

-- a.csv: x / 3 / 5
-- 3: [a, b] = gather(T.x, ds);
gather_that_is_refused : openings (over (codes "x\n3\n5\n")) (script (usual ("%f" ∷ []) ++ (
    silent 3 (gathers ("a" ∷ "b" ∷ []) (member (name "T") "x" ∷ name "ds" ∷ [])) ∷ []))) (codes "a.csv") ≡ 1
unfolding whole_runs
gather_that_is_refused = refl

-- a.csv: x / 3 / 5
-- 3: z = undef;
-- 4: a = gather(T.x);
later_statements_of_a_run_that_ended : openings (over (codes "x\n3\n5\n")) (script (usual ("%f" ∷ []) ++ (
    silent 3 (sets "z" (name "undef")) ∷
    silent 4 (sets "a" (call "gather" (member (name "T") "x" ∷ []))) ∷ []))) (codes "a.csv") ≡ 1
unfolding whole_runs
later_statements_of_a_run_that_ended = refl

-- a.csv: x / 3 / 5
-- 3: a = gather(T.x) + undef;
gather_before_a_refusal : openings (over (codes "x\n3\n5\n")) (script (usual ("%f" ∷ []) ++ (
    silent 3 (sets "a" (infix_of Add (call "gather" (member (name "T") "x" ∷ [])) (name "undef"))) ∷ []))) (codes "a.csv") ≡ 2
unfolding whole_runs
gather_before_a_refusal = refl

-- a.csv: x / 3 / 5
-- 3: U = tabularTextDatastore('a.csv', 'ReadSize', 0);
refused_options : openings (over (codes "x\n3\n5\n")) (script (usual ("%f" ∷ []) ++ (
    silent 3 (sets "U" (call "tabularTextDatastore" (text "a.csv" ∷ text "ReadSize" ∷ number 0 ∷ []))) ∷ []))) (codes "a.csv") ≡ 1
unfolding whole_runs
refused_options = refl

-- a.csv: x / 3 / 5
-- 3: r = mapreduce(ds, @m, @m);
-- 4: function m(a, b, c)
-- 5: end
mapreduce_opens_once : openings (over (codes "x\n3\n5\n")) (script_with (usual ("%f" ∷ []) ++ (
    silent 3 (sets "r" (call "mapreduce" (name "ds" ∷ handle "m" ∷ handle "m" ∷ []))) ∷ [])) (
    function_from "m" 4 (parameter "a" ∷ parameter "b" ∷ parameter "c" ∷ [])
    [] ∷ [])) (codes "a.csv") ≡ 2
unfolding whole_runs
mapreduce_opens_once = refl

-- a mapreduce whose map function fails counts as one that does not
-- a.csv: x / 3 / 5
-- 3: r = mapreduce(ds, @m, @m);
-- 4: function m(a, b, c)
-- 5: n = undef;
-- 6: end
mapreduce_that_fails : openings (over (codes "x\n3\n5\n")) (script_with (usual ("%f" ∷ []) ++ (
    silent 3 (sets "r" (call "mapreduce" (name "ds" ∷ handle "m" ∷ handle "m" ∷ []))) ∷ [])) (
    function_from "m" 4 (parameter "a" ∷ parameter "b" ∷ parameter "c" ∷ [])
    (assign_step 5 (codes "n") (name "undef") ∷ []) ∷ [])) (codes "a.csv") ≡ 2
unfolding whole_runs
mapreduce_that_fails = refl

-- also for a file behind the one at which it fails
-- a.csv: x / 3 / 5
-- b.csv: x / 1
-- 3: U = tabularTextDatastore({'a.csv', 'b.csv'});
-- 4: r = mapreduce(U, @m, @m);
-- 5: function m(a, b, c)
-- 6: n = undef;
-- 7: end
later_file_of_a_mapreduce_that_fails : openings ((codes "a.csv", codes "x\n3\n5\n") ∷ (codes "b.csv", codes "x\n1\n") ∷ []) (script_with (usual ("%f" ∷ []) ++ (
    silent 3 (sets "U" (call "tabularTextDatastore" (texts ("a.csv" ∷ "b.csv" ∷ []) ∷ []))) ∷
    silent 4 (sets "r" (call "mapreduce" (name "U" ∷ handle "m" ∷ handle "m" ∷ []))) ∷ [])) (
    function_from "m" 5 (parameter "a" ∷ parameter "b" ∷ parameter "c" ∷ [])
    (assign_step 6 (codes "n") (name "undef") ∷ []) ∷ [])) (codes "b.csv") ≡ 1
unfolding whole_runs
later_file_of_a_mapreduce_that_fails = refl

-- a first file that is not there is opened to find that out
-- a.csv: x / 3 / 5
-- 3: U = tabularTextDatastore({'n.csv', 'a.csv'});
first_file_that_is_not_there : openings (over (codes "x\n3\n5\n")) (script (usual ("%f" ∷ []) ++ (
    silent 3 (sets "U" (call "tabularTextDatastore" (texts ("n.csv" ∷ "a.csv" ∷ []) ∷ []))) ∷ []))) (codes "n.csv") ≡ 1
unfolding whole_runs
first_file_that_is_not_there = refl

-- the files behind it are not
-- a.csv: x / 3 / 5
-- 3: U = tabularTextDatastore({'n.csv', 'a.csv'});
file_behind_one_that_is_not_there : openings (over (codes "x\n3\n5\n")) (script (usual ("%f" ∷ []) ++ (
    silent 3 (sets "U" (call "tabularTextDatastore" (texts ("n.csv" ∷ "a.csv" ∷ []) ∷ []))) ∷ []))) (codes "a.csv") ≡ 1
unfolding whole_runs
file_behind_one_that_is_not_there = refl

-- a.csv: x / 3 / 5
-- 3: z = gather(tail(T.x));
last_rows : openings (over (codes "x\n3\n5\n")) (script (usual ("%f" ∷ []) ++ (
    silent 3 (sets "z" (call "gather" (call "tail" (member (name "T") "x" ∷ []) ∷ []))) ∷ []))) (codes "a.csv") ≡ 2
unfolding whole_runs
last_rows = refl

-- a.csv: x / 3 / 5
-- 3: z = gather(groupsummary(T, 'x'));
groups_of_a_table : openings (over (codes "x\n3\n5\n")) (script (usual ("%f" ∷ []) ++ (
    silent 3 (sets "z" (call "gather" (call "groupsummary" (name "T" ∷ text "x" ∷ []) ∷ []))) ∷ []))) (codes "a.csv") ≡ 2
unfolding whole_runs
groups_of_a_table = refl

-- a.csv: x / 3 / 5
-- 3: z = gather(1 - T.x);
column_on_the_right : openings (over (codes "x\n3\n5\n")) (script (usual ("%f" ∷ []) ++ (
    silent 3 (sets "z" (call "gather" (infix_of Sub (number 1) (member (name "T") "x") ∷ []))) ∷ []))) (codes "a.csv") ≡ 2
unfolding whole_runs
column_on_the_right = refl

-- only the first file is opened with the datastore
-- a.csv: x / 3 / 5
-- b.csv: x / 1
-- 3: U = tall(tabularTextDatastore({'a.csv', 'b.csv'}));
-- 4: a = gather(U.x);
second_file : openings ((codes "a.csv", codes "x\n3\n5\n") ∷ (codes "b.csv", codes "x\n1\n") ∷ []) (script (usual ("%f" ∷ []) ++ (
    silent 3 (sets "U" (call "tall" (call "tabularTextDatastore" (texts ("a.csv" ∷ "b.csv" ∷ []) ∷ []) ∷ []))) ∷
    silent 4 (sets "a" (call "gather" (member (name "U") "x" ∷ []))) ∷ []))) (codes "b.csv") ≡ 1
unfolding whole_runs
second_file = refl

-- a.csv: x / 3 / 5
-- 3: a = gather(1 + 2);
values_in_memory : openings (over (codes "x\n3\n5\n")) (script (usual ("%f" ∷ []) ++ (
    silent 3 (sets "a" (call "gather" (infix_of Add (number 1) (number 2) ∷ []))) ∷ []))) (codes "a.csv") ≡ 1
unfolding whole_runs
values_in_memory = refl

-- x = y;
script_over_itself : allowed_of [] (codes "s.m") (read (script (silent 1 (sets "x" (name "y")) ∷ []))) (codes "s.m") ≡ 1
unfolding whole_runs
script_over_itself = refl

-- the script a.csv, which reads itself as data: ds = tabularTextDatastore('a.csv');
script_that_reads_itself : allowed_of (over (codes "x\n")) (codes "a.csv") (read (script (silent 1 (sets "ds" (call "tabularTextDatastore" (text "a.csv" ∷ []))) ∷ []))) (codes "a.csv") ≡ 2
unfolding whole_runs
script_that_reads_itself = refl

no_script_opens_nothing_more : allowed_of [] (codes "s.m") (syntax_at 1) (codes "a.csv") ≡ 0
no_script_opens_nothing_more = refl
