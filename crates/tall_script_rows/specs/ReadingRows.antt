-- Runs that read: each reading fault with a file that gives it, and options that change what is read, by computation.
use Rattle.std.specs.Prelude.{◌≡◌, [], ◌∷◌, ◌++◌, codes, refl}
use Rattle.tall_grammar.specs.declared.expressions.Infix.TheVariants.{DotDiv}
use Rattle.tall_grammar.specs.Refusals.{read}
use Rattle.tall_script.specs.Answers.{answer_of}
use Rattle.tall_script_rows.specs.RowWords.{whole_runs, over, usual, prints, fails}
use Rattle.tall_script_rows.specs.Drafts.{number, text, name, infix_of, member, texts, call, shown, silent, sets, gathers, sets_property, script}

-- a.csv: x / 1
-- 1: ds = tabularTextDatastore({'a.csv', 'b.csv'});
-- 2: T = tall(ds);
-- 3: t = gather(T)
absent_later_file : answer_of (over (codes "x\n1\n")) (read (script (
    silent 1 (sets "ds" (call "tabularTextDatastore" (texts ("a.csv" ∷ "b.csv" ∷ []) ∷ []))) ∷
    silent 2 (sets "T" (call "tall" (name "ds" ∷ []))) ∷
    shown 3 (sets "t" (call "gather" (name "T" ∷ []))) ∷ [])))
    ≡ fails (codes "tallrun: line 1: no file b.csv\n")
unfolding whole_runs
absent_later_file = refl

-- a.csv: x / 1
-- b.csv: y / 1
-- 1: ds = tabularTextDatastore({'a.csv', 'b.csv'});
-- 2: T = tall(ds);
-- 3: t = gather(T)
later_header_that_differs : answer_of ((codes "a.csv", codes "x\n1\n") ∷ (codes "b.csv", codes "y\n1\n") ∷ []) (read (script (
    silent 1 (sets "ds" (call "tabularTextDatastore" (texts ("a.csv" ∷ "b.csv" ∷ []) ∷ []))) ∷
    silent 2 (sets "T" (call "tall" (name "ds" ∷ []))) ∷
    shown 3 (sets "t" (call "gather" (name "T" ∷ []))) ∷ [])))
    ≡ fails (codes "tallrun: line 1: header differs in b.csv\n")
unfolding whole_runs
later_header_that_differs = refl

-- a.csv: x,y / 1,a / 2,b,c
-- 3: t = gather(T)
too_many_fields_in_a_row : answer_of (over (codes "x,y\n1,a\n2,b,c\n")) (read (script (usual ("%f" ∷ "%q" ∷ []) ++ (
    shown 3 (sets "t" (call "gather" (name "T" ∷ []))) ∷ []))))
    ≡ fails (codes "tallrun: line 1: row 2: too many fields\n")
unfolding whole_runs
too_many_fields_in_a_row = refl

-- all selected variables are read
-- a.csv: x,y / 1,a / z,b
-- 3: t = gather(T.y)
field_that_is_no_number : answer_of (over (codes "x,y\n1,a\nz,b\n")) (read (script (usual ("%f" ∷ "%q" ∷ []) ++ (
    shown 3 (sets "t" (call "gather" (member (name "T") "y" ∷ []))) ∷ []))))
    ≡ fails (codes "tallrun: line 1: row 2: variable x: not a number\n")
unfolding whole_runs
field_that_is_no_number = refl

-- the field is the byte 255
-- 3: t = gather(T.x)
text_that_is_not_utf8 : answer_of ((codes "a.csv", codes "x,y\n1," ++ 255 ∷ 10 ∷ []) ∷ []) (read (script (usual ("%f" ∷ "%q" ∷ []) ++ (
    shown 3 (sets "t" (call "gather" (member (name "T") "x" ∷ []))) ∷ []))))
    ≡ fails (codes "tallrun: line 1: row 1: variable y: not UTF-8\n")
unfolding whole_runs
text_that_is_not_utf8 = refl

-- a.csv: x,y / 2.5,a
-- 3: t = gather(T.x)
field_that_is_not_a_whole_number : answer_of (over (codes "x,y\n2.5,a\n")) (read (script (usual ("%f" ∷ "%q" ∷ []) ++ (
    shown 3 (sets "t" (call "gather" (member (name "T") "x" ∷ []))) ∷ []))))
    ≡ fails (codes "tallrun: line 1: row 1: variable x: not a whole number\n")
unfolding whole_runs
field_that_is_not_a_whole_number = refl

-- a.csv: x,y / 9007199254740993,a
-- 3: t = gather(T.x)
field_above_the_limit : answer_of (over (codes "x,y\n9007199254740993,a\n")) (read (script (usual ("%f" ∷ "%q" ∷ []) ++ (
    shown 3 (sets "t" (call "gather" (member (name "T") "x" ∷ []))) ∷ []))))
    ≡ fails (codes "tallrun: line 1: row 1: variable x: above 2^53\n")
unfolding whole_runs
field_above_the_limit = refl

-- a.csv: x,y / Inf,a
-- 3: t = gather(T.x)
infinite_double : answer_of (over (codes "x,y\nInf,a\n")) (read (script (usual ("%f" ∷ "%q" ∷ []) ++ (
    shown 3 (sets "t" (call "gather" (member (name "T") "x" ∷ []))) ∷ []))))
    ≡ fails (codes "tallrun: line 1: row 1: variable x: above 2^53\n")
unfolding whole_runs
infinite_double = refl

-- a.csv: x,y / ?,1
-- 1: ds = tabularTextDatastore('a.csv', 'SelectedVariableNames', 'y');
-- 2: T = tall(ds);
-- 3: t = gather(T)
variable_that_is_not_selected : answer_of (over (codes "x,y\n?,1\n")) (read (script (
    silent 1 (sets "ds" (call "tabularTextDatastore" (text "a.csv" ∷ text "SelectedVariableNames" ∷ text "y" ∷ []))) ∷
    silent 2 (sets "T" (call "tall" (name "ds" ∷ []))) ∷
    shown 3 (sets "t" (call "gather" (name "T" ∷ []))) ∷ [])))
    ≡ prints (codes "t = table 1x1\n    y\n    1\n")
unfolding whole_runs
variable_that_is_not_selected = refl

-- a.csv: x / a
-- 1: ds = tabularTextDatastore('a.csv');
-- 3: ds.TextscanFormats = {'%f'};
-- 4: T = tall(ds);
-- 5: t = gather(T)
reading_fault_keeps_the_line_of_its_datastore : answer_of (over (codes "x\na\n")) (read (script (
    silent 1 (sets "ds" (call "tabularTextDatastore" (text "a.csv" ∷ []))) ∷
    silent 3 (sets_property "ds" "TextscanFormats" (texts ("%f" ∷ []))) ∷
    silent 4 (sets "T" (call "tall" (name "ds" ∷ []))) ∷
    shown 5 (sets "t" (call "gather" (name "T" ∷ []))) ∷ [])))
    ≡ fails (codes "tallrun: line 1: row 1: variable x: not a number\n")
unfolding whole_runs
reading_fault_keeps_the_line_of_its_datastore = refl

-- a.csv: x / 1
-- b.csv: x / z
-- 1: a = tall(tabularTextDatastore('a.csv', 'TextscanFormats', {'%f'}));
-- 2: b = a.x ./ 0;
-- 3: c = tall(tabularTextDatastore('b.csv', 'TextscanFormats', {'%f'}));
-- 4: [x, y] = gather(c.x, b)
lower_number_before_a_reading_fault : answer_of ((codes "a.csv", codes "x\n1\n") ∷ (codes "b.csv", codes "x\nz\n") ∷ []) (read (script (
    silent 1 (sets "a" (call "tall" (call "tabularTextDatastore" (text "a.csv" ∷ text "TextscanFormats" ∷ texts ("%f" ∷ []) ∷ []) ∷ []))) ∷
    silent 2 (sets "b" (infix_of DotDiv (member (name "a") "x") (number 0))) ∷
    silent 3 (sets "c" (call "tall" (call "tabularTextDatastore" (text "b.csv" ∷ text "TextscanFormats" ∷ texts ("%f" ∷ []) ∷ []) ∷ []))) ∷
    shown 4 (gathers ("x" ∷ "y" ∷ []) (member (name "c") "x" ∷ name "b" ∷ [])) ∷ [])))
    ≡ fails (codes "tallrun: line 2: row 1: result above 2^53\n")
unfolding whole_runs
lower_number_before_a_reading_fault = refl

-- the file has two lines of two fields with a tab between: 1 none, - 7
-- 1: ds = tabularTextDatastore('a.csv', 'Delimiter', '\t', 'ReadSize', 'file', 'TreatAsMissing', {'-', 'none'}, 'ReadVariableNames', false);
-- 2: T = tall(ds);
-- 3: t = gather(T)
other_options : answer_of ((codes "a.csv", codes "1\tnone\n-\t7\n") ∷ []) (read (script (
    silent 1 (sets "ds" (call "tabularTextDatastore" (text "a.csv" ∷ text "Delimiter" ∷ text "\\t" ∷ text "ReadSize" ∷ text "file" ∷ text "TreatAsMissing" ∷ texts ("-" ∷ "none" ∷ []) ∷ text "ReadVariableNames" ∷ name "false" ∷ []))) ∷
    silent 2 (sets "T" (call "tall" (name "ds" ∷ []))) ∷
    shown 3 (sets "t" (call "gather" (name "T" ∷ []))) ∷ [])))
    ≡ prints (codes "t = table 2x2\n    Var1  Var2\n    1  NaN\n    NaN  7\n")
unfolding whole_runs
other_options = refl

-- a.csv: x / 1
-- 1: ds = tabularTextDatastore('a.csv');
-- 2: ds.ReadSize = 1
shown_datastore_with_a_property : answer_of (over (codes "x\n1\n")) (read (script (
    silent 1 (sets "ds" (call "tabularTextDatastore" (text "a.csv" ∷ []))) ∷
    shown 2 (sets_property "ds" "ReadSize" (number 1)) ∷ [])))
    ≡ prints (codes "ds = datastore\n")
unfolding whole_runs
shown_datastore_with_a_property = refl
