-- The order of keys, values and faults in mapreduce, by computation.
use Prim.Native.String.{String}
use Rattle.std.specs.Prelude.{◌≡◌, ℕ, List, [], ◌∷◌, codes, refl, None}
use Rattle.tall_grammar.specs.Trees.{Step, Tree, SeenFunction, SeenScript, while_step, assign_step, add_step, if_step, no_arms, and_arm, no_steps}
use Rattle.tall_grammar.specs.declared.expressions.Infix.TheVariants.{Eq}
use Rattle.tall_grammar.specs.Refusals.{read}
use Rattle.tall_script.specs.Answers.{answer_of}
use Rattle.tall_script_rows.specs.RowWords.{whole_runs, over, prints, fails}
use Rattle.tall_script_rows.specs.Drafts.{number, text, name, handle, infix_of, member, index, texts, call, shown, silent, sets, steps, function_from, parameter, script_with, with_line}

-- data.x(1)
abbrev first_of : String → Tree
first_of variable = index (member (name "data") variable) (number 1 ∷ [])

-- a map function from line 4 on, a reduce function from line 20 on
abbrev mapping : List Step → SeenFunction
mapping bs = function_from "m" 4 (parameter "data" ∷ None ∷ parameter "store" ∷ []) bs

abbrev reducing : List Step → SeenFunction
reducing bs = function_from "q" 20 (parameter "key" ∷ parameter "values" ∷ parameter "out" ∷ []) bs

-- 1: ds = tabularTextDatastore('a.csv', 'TextscanFormats', {'%f', '%f'}, 'ReadSize', 1);
-- 3: r = mapreduce(ds, @m, @q)
abbrev by_record : List Step → List Step → SeenScript
by_record bs cs = script_with (
    silent 1 (sets "ds" (call "tabularTextDatastore" (text "a.csv" ∷ text "TextscanFormats" ∷ texts ("%f" ∷ "%f" ∷ []) ∷ text "ReadSize" ∷ number 1 ∷ [])))
    ∷ shown 3 (sets "r" (call "mapreduce" (name "ds" ∷ handle "m" ∷ handle "q" ∷ []))) ∷ []) (mapping bs ∷ reducing cs ∷ [])

-- 5: add(store, data.x(1), data.v(1));
abbrev adds_row : List Step
adds_row = add_step 5 (name "store") (first_of "x") (first_of "v") ∷ []

-- 21: while hasnext(values)
-- 22: add(out, key, getnext(values));
-- 23: end
abbrev all_values : List Step
all_values =
    while_step 21 (call "hasnext" (name "values" ∷ [])) (steps (add_step 22 (name "out") (name "key") (call "getnext" (name "values" ∷ [])) ∷ [])) ∷ []

-- 5: if data.x(1) == N
-- 6: n = NAME;
-- 7: end
abbrev fails_at : ℕ → String → List Step
fails_at n x = if_step 5 (and_arm (with_line 5 (infix_of Eq (first_of "x") (number n))) (steps (assign_step 6 (codes "n") (name x) ∷ [])) no_arms) no_steps ∷ []

-- ---- keys and values

-- a.csv: x,v / 3,10 / 1,20 / 3,30
keys_in_the_order_of_their_first_adding : answer_of (over (codes "x,v\n3,10\n1,20\n3,30\n")) (read (by_record adds_row all_values))
    ≡ prints (codes "r = table 3x2\n    Key  Value\n    3  10\n    3  30\n    1  20\n")
unfolding whole_runs
keys_in_the_order_of_their_first_adding = refl

-- without a pair of the reduce function both columns are double and empty
-- 3: r = mapreduce(ds, @m, @q)
-- 30: k = r.Key
-- 31: v = r.Value
no_pair : answer_of (over (codes "g,v\na,10\n")) (read (script_with (
    silent 1 (sets "ds" (call "tabularTextDatastore" (text "a.csv" ∷ [])))
    ∷ shown 3 (sets "r" (call "mapreduce" (name "ds" ∷ handle "m" ∷ handle "q" ∷ [])))
    ∷ shown 30 (sets "k" (member (name "r") "Key")) ∷ shown 31 (sets "v" (member (name "r") "Value")) ∷ [])
    (mapping (add_step 5 (name "store") (first_of "g") (first_of "g") ∷ []) ∷ reducing [] ∷ [])))
    ≡ prints (codes "r = table 0x2\n    Key  Value\nk = double 0x1\nv = double 0x1\n")
unfolding whole_runs
no_pair = refl

-- ---- faults of blocks

-- a.csv: x,v / 1,10 / b,20: the function's fault in the first block, and then a bad field
function_before_a_later_field : answer_of (over (codes "x,v\n1,10\nb,20\n")) (read (by_record (assign_step 5 (codes "n") (name "nosuch") ∷ []) all_values)) ≡ fails (codes "tallrun: line 5: undefined nosuch\n")
unfolding whole_runs
function_before_a_later_field = refl

-- a.csv: x,v / b,10 / 1,20: a bad field in the first block, with the line of the datastore's call
field_before_a_later_function : answer_of (over (codes "x,v\nb,10\n1,20\n")) (read (by_record (assign_step 5 (codes "n") (name "nosuch") ∷ []) all_values))
    ≡ fails (codes "tallrun: line 1: row 1: variable x: not a number\n")
unfolding whole_runs
field_before_a_later_function = refl

-- a.csv: x,v / 1,10 / 2,20: the calls of the blocks before a fault run
second_block : answer_of (over (codes "x,v\n1,10\n2,20\n")) (read (by_record (fails_at 2 "nosuch") all_values)) ≡ fails (codes "tallrun: line 6: undefined nosuch\n")
unfolding whole_runs
second_block = refl

-- 1: ds = tabularTextDatastore({'a.csv', 'b.csv'}, 'ReadSize', 1);
abbrev in_two_files : List Step → SeenScript
in_two_files bs = script_with (
    silent 1 (sets "ds" (call "tabularTextDatastore" (texts ("a.csv" ∷ "b.csv" ∷ []) ∷ text "ReadSize" ∷ number 1 ∷ [])))
    ∷ shown 3 (sets "r" (call "mapreduce" (name "ds" ∷ handle "m" ∷ handle "q" ∷ []))) ∷ []) (mapping bs ∷ reducing all_values ∷ [])

-- b.csv is absent; the function fails over a.csv
function_before_a_later_file : answer_of (over (codes "x,v\n1,10\n")) (read (in_two_files (assign_step 5 (codes "n") (name "nosuch") ∷ []))) ≡ fails (codes "tallrun: line 5: undefined nosuch\n")
unfolding whole_runs
function_before_a_later_file = refl

later_file_after_the_calls : answer_of (over (codes "x,v\n1,10\n")) (read (in_two_files adds_row)) ≡ fails (codes "tallrun: line 1: no file b.csv\n")
unfolding whole_runs
later_file_after_the_calls = refl

-- ---- faults of keys

-- 21: if key == N
-- 22: n = NAME;
-- else
-- 23: n = OTHER;
-- end
abbrev by_key : ℕ → String → String → List Step
by_key n x y =
    if_step 21 (and_arm (with_line 21 (infix_of Eq (name "key") (number n))) (steps (assign_step 22 (codes "n") (name x) ∷ [])) no_arms) (steps (assign_step 23 (codes "n") (name y) ∷ [])) ∷ []

-- of the keys 3 and 1 the first is 3
first_key : answer_of (over (codes "x,v\n3,10\n1,20\n")) (read (by_record adds_row (by_key 3 "first" "second"))) ≡ fails (codes "tallrun: line 22: undefined first\n")
unfolding whole_runs
first_key = refl

second_key : answer_of (over (codes "x,v\n3,10\n1,20\n")) (read (by_record adds_row (by_key 1 "second" "key"))) ≡ fails (codes "tallrun: line 22: undefined second\n")
unfolding whole_runs
second_key = refl

-- a fault of a block comes before one of a key, also in the last block
block_before_a_key : answer_of (over (codes "x,v\n3,10\n1,20\n")) (read (by_record (add_step 4 (name "store") (first_of "x") (first_of "v") ∷ fails_at 1 "nosuch") (by_key 3 "first" "second")))
    ≡ fails (codes "tallrun: line 6: undefined nosuch\n")
unfolding whole_runs
block_before_a_key = refl

-- ---- whole files

-- 1: ds = tabularTextDatastore({'a.csv', 'b.csv'}, 'ReadSize', 'file');
-- 5: add(store, "rows", numel(data.x));
-- b.csv has a header alone: no block, and no call
one_block_of_a_file : answer_of ((codes "a.csv", codes "x\n1\n2\n") ∷ (codes "b.csv", codes "x\n") ∷ []) (read (script_with (
    silent 1 (sets "ds" (call "tabularTextDatastore" (texts ("a.csv" ∷ "b.csv" ∷ []) ∷ text "ReadSize" ∷ text "file" ∷ [])))
    ∷ shown 3 (sets "r" (call "mapreduce" (name "ds" ∷ handle "m" ∷ handle "q" ∷ []))) ∷ [])
    (mapping (add_step 5 (name "store") (text "rows") (call "numel" (member (name "data") "x" ∷ [])) ∷ []) ∷ reducing all_values ∷ [])))
    ≡ prints (codes "r = table 1x2\n    Key  Value\n    \"rows\"  2\n")
unfolding whole_runs
one_block_of_a_file = refl
