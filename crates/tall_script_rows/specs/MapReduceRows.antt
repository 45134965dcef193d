-- Runs with mapreduce, by computation.
use Rattle.std.specs.Prelude.{◌≡◌, [], ◌∷◌, codes, refl, None}
use Rattle.tall_grammar.specs.Trees.{while_step, assign_step, add_step}
use Rattle.tall_grammar.specs.declared.expressions.Infix.TheVariants.{Add}
use Rattle.tall_grammar.specs.Refusals.{read}
use Rattle.tall_script.specs.Answers.{answer_of}
use Rattle.tall_script_rows.specs.RowWords.{whole_runs, over, prints, fails}
use Rattle.tall_script_rows.specs.Drafts.{number, text, name, handle, infix_of, member, texts, call, shown, silent, sets, steps, function_from, parameter, script_with}

-- a.csv: x / 1 / 2 / 3 / 4 / 5
-- 1: ds = tabularTextDatastore('a.csv', 'ReadSize', 2);
-- 2: r = mapreduce(ds, @sizes, @total)
-- 3: function sizes(data, ~, store)
-- 4: add(store, "rows", numel(data.x));
-- 5: end
-- 6: function total(key, values, out)
-- 7: n = 0;
-- 8: s = 0;
-- 9: while hasnext(values)
-- 10: s = s + getnext(values);
-- 11: n = n + 1;
-- 12: end
-- 13: add(out, "count", n);
-- 14: add(out, "total", s);
-- 15: end
rows_of_blocks : answer_of (over (codes "x\n1\n2\n3\n4\n5\n")) (read (script_with (
    silent 1 (sets "ds" (call "tabularTextDatastore" (text "a.csv" ∷ text "ReadSize" ∷ number 2 ∷ []))) ∷
    shown 2 (sets "r" (call "mapreduce" (name "ds" ∷ handle "sizes" ∷ handle "total" ∷ []))) ∷ []) (
    function_from "sizes" 3 (parameter "data" ∷ None ∷ parameter "store" ∷ [])
    (add_step 4 (name "store") (text "rows") (call "numel" (member (name "data") "x" ∷ [])) ∷ []) ∷
    function_from "total" 6 (parameter "key" ∷ parameter "values" ∷ parameter "out" ∷ [])
    (assign_step 7 (codes "n") (number 0) ∷ assign_step 8 (codes "s") (number 0) ∷ while_step 9 (call "hasnext" (name "values" ∷ [])) (steps (assign_step 10 (codes "s") (infix_of Add (name "s") (call "getnext" (name "values" ∷ []))) ∷ assign_step 11 (codes "n") (infix_of Add (name "n") (number 1)) ∷ [])) ∷ add_step 13 (name "out") (text "count") (name "n") ∷ add_step 14 (name "out") (text "total") (name "s") ∷ []) ∷ [])))
    ≡ prints (codes "r = table 2x2\n    Key  Value\n    \"count\"  3\n    \"total\"  5\n")
unfolding whole_runs
rows_of_blocks = refl

-- blocks of 2, 1 and 2 rows
-- a.csv: x / 1 / 2 / 3
-- b.csv: x / 4 / 5
-- 1: ds = tabularTextDatastore({'a.csv','b.csv'}, 'ReadSize', 2);
-- 2: r = mapreduce(ds, @sizes, @total)
-- 3: function sizes(data, ~, store)
-- 4: add(store, "rows", numel(data.x));
-- 5: end
-- 6: function total(key, values, out)
-- 7: n = 0;
-- 8: s = 0;
-- 9: while hasnext(values)
-- 10: s = s + getnext(values);
-- 11: n = n + 1;
-- 12: end
-- 13: add(out, "count", n);
-- 14: add(out, "total", s);
-- 15: end
rows_of_blocks_in_two_files : answer_of ((codes "a.csv", codes "x\n1\n2\n3\n") ∷ (codes "b.csv", codes "x\n4\n5\n") ∷ []) (read (script_with (
    silent 1 (sets "ds" (call "tabularTextDatastore" (texts ("a.csv" ∷ "b.csv" ∷ []) ∷ text "ReadSize" ∷ number 2 ∷ []))) ∷
    shown 2 (sets "r" (call "mapreduce" (name "ds" ∷ handle "sizes" ∷ handle "total" ∷ []))) ∷ []) (
    function_from "sizes" 3 (parameter "data" ∷ None ∷ parameter "store" ∷ [])
    (add_step 4 (name "store") (text "rows") (call "numel" (member (name "data") "x" ∷ [])) ∷ []) ∷
    function_from "total" 6 (parameter "key" ∷ parameter "values" ∷ parameter "out" ∷ [])
    (assign_step 7 (codes "n") (number 0) ∷ assign_step 8 (codes "s") (number 0) ∷ while_step 9 (call "hasnext" (name "values" ∷ [])) (steps (assign_step 10 (codes "s") (infix_of Add (name "s") (call "getnext" (name "values" ∷ []))) ∷ assign_step 11 (codes "n") (infix_of Add (name "n") (number 1)) ∷ [])) ∷ add_step 13 (name "out") (text "count") (name "n") ∷ add_step 14 (name "out") (text "total") (name "s") ∷ []) ∷ [])))
    ≡ prints (codes "r = table 2x2\n    Key  Value\n    \"count\"  3\n    \"total\"  5\n")
unfolding whole_runs
rows_of_blocks_in_two_files = refl

-- a.csv: x / 1 / 2 / 3 / 4 / 5
-- 1: ds = tabularTextDatastore('a.csv');
-- 2: r = mapreduce(ds, @m, @q);
-- 3: function m(data, ~, store)
-- 4: add(store, 1, 1);
-- 5: end
-- 6: function q(key, values, out)
-- 7: while hasnext(values)
-- 8: n = 1;
-- 9: end
-- 10: end
loop_without_progress : answer_of (over (codes "x\n1\n2\n3\n4\n5\n")) (read (script_with (
    silent 1 (sets "ds" (call "tabularTextDatastore" (text "a.csv" ∷ []))) ∷
    silent 2 (sets "r" (call "mapreduce" (name "ds" ∷ handle "m" ∷ handle "q" ∷ []))) ∷ []) (
    function_from "m" 3 (parameter "data" ∷ None ∷ parameter "store" ∷ [])
    (add_step 4 (name "store") (number 1) (number 1) ∷ []) ∷
    function_from "q" 6 (parameter "key" ∷ parameter "values" ∷ parameter "out" ∷ [])
    (while_step 7 (call "hasnext" (name "values" ∷ [])) (steps (assign_step 8 (codes "n") (number 1) ∷ [])) ∷ []) ∷ [])))
    ≡ fails (codes "tallrun: line 7: loop takes no value\n")
unfolding whole_runs
loop_without_progress = refl

-- a.csv: x / 1 / 2 / 3 / 4 / 5
-- 1: ds = tabularTextDatastore('a.csv');
-- 2: r = mapreduce(ds, @m, @q);
-- 3: function m(data, ~, store)
-- 4: add(store, 1, 1);
-- 5: add(store, "a", 1);
-- 6: end
-- 7: function q(key, values, out)
-- 8: add(out, key, getnext(values));
-- 9: end
key_of_another_class : answer_of (over (codes "x\n1\n2\n3\n4\n5\n")) (read (script_with (
    silent 1 (sets "ds" (call "tabularTextDatastore" (text "a.csv" ∷ []))) ∷
    silent 2 (sets "r" (call "mapreduce" (name "ds" ∷ handle "m" ∷ handle "q" ∷ []))) ∷ []) (
    function_from "m" 3 (parameter "data" ∷ None ∷ parameter "store" ∷ [])
    (add_step 4 (name "store") (number 1) (number 1) ∷ add_step 5 (name "store") (text "a") (number 1) ∷ []) ∷
    function_from "q" 7 (parameter "key" ∷ parameter "values" ∷ parameter "out" ∷ [])
    (add_step 8 (name "out") (name "key") (call "getnext" (name "values" ∷ [])) ∷ []) ∷ [])))
    ≡ fails (codes "tallrun: line 5: key not accepted\n")
unfolding whole_runs
key_of_another_class = refl
