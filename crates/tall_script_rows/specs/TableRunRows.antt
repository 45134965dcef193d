-- Whole runs over tables, and shown values of every kind, by computation.
use Rattle.std.specs.Prelude.{◌≡◌, [], ◌∷◌, ◌++◌, codes, refl}
use Rattle.tall_grammar.specs.Trees.{bare}
use Rattle.tall_grammar.specs.declared.expressions.Infix.TheVariants.{Gt, Add}
use Rattle.tall_grammar.specs.Refusals.{read}
use Rattle.tall_script.specs.Answers.{answer_of}
use Rattle.tall_script_rows.specs.RowWords.{whole_runs, over, usual, prints, fails}
use Rattle.tall_script_rows.specs.Drafts.{number, text, name, infix_of, member, texts, call, rows_of, index, shown, silent, sets, gathers, sets_property, script}

-- a.csv: x / 1
-- 3: s = sum(T.x)
-- 4: T
-- 5: ds
-- 6: k = int8(100) + 100
shown_values : answer_of (over (codes "x\n1\n")) (read (script (usual ("%f" ∷ []) ++ (
    shown 3 (sets "s" (call "sum" (member (name "T") "x" ∷ []))) ∷
    shown 4 (bare (name "T")) ∷
    shown 5 (bare (name "ds")) ∷
    shown 6 (sets "k" (infix_of Add (call "int8" (number 100 ∷ [])) (number 100))) ∷ []))))
    ≡ prints (codes "s = tall double\nT = tall table\nds = datastore\nk = int8 127\n")
unfolding whole_runs
shown_values = refl

-- the file ends inside a quoted field
-- 3: v = gather(T.x)
quoted_text : answer_of ((codes "a.csv", 120 ∷ 10 ∷ 34 ∷ codes "ab") ∷ []) (read (script (usual ("%q" ∷ []) ++ (
    shown 3 (sets "v" (call "gather" (member (name "T") "x" ∷ []))) ∷ []))))
    ≡ prints (codes "v = string 1x1\n    \"ab\"\n")
unfolding whole_runs
quoted_text = refl

-- a.csv: a,b / 1e3,2.5 /  7 ,1e400 / NaN,-Inf
-- 3: t = gather(T)
fields_of_a_table : answer_of (over (codes "a,b\n1e3,2.5\n 7 ,1e400\nNaN,-Inf\n")) (read (script (usual ("%f" ∷ "%d8" ∷ []) ++ (
    shown 3 (sets "t" (call "gather" (name "T" ∷ []))) ∷ []))))
    ≡ prints (codes "t = table 3x2\n    a  b\n    1000  3\n    7  127\n    NaN  -128\n")
unfolding whole_runs
fields_of_a_table = refl

-- a.csv: a,b / 2.5,1
-- 3: t = gather(T)
field_that_is_not_whole : answer_of (over (codes "a,b\n2.5,1\n")) (read (script (usual ("%f" ∷ "%d8" ∷ []) ++ (
    shown 3 (sets "t" (call "gather" (name "T" ∷ []))) ∷ []))))
    ≡ fails (codes "tallrun: line 1: row 1: variable a: not a whole number\n")
unfolding whole_runs
field_that_is_not_whole = refl

-- a.csv: g,v / b,2 / a,NaN / b, / a,2
-- 3: [u, w] = gather(unique(T.g), unique(T.v))
-- 4: G = gather(groupsummary(T, 'g', 'nummissing', 'v'))
distinct_texts_and_groups : answer_of (over (codes "g,v\nb,2\na,NaN\nb,\na,2\n")) (read (script (usual ("%q" ∷ "%f" ∷ []) ++ (
    shown 3 (gathers ("u" ∷ "w" ∷ []) (call "unique" (member (name "T") "g" ∷ []) ∷ call "unique" (member (name "T") "v" ∷ []) ∷ [])) ∷
    shown 4 (sets "G" (call "gather" (call "groupsummary" (name "T" ∷ text "g" ∷ text "nummissing" ∷ text "v" ∷ []) ∷ []))) ∷ []))))
    ≡ prints (codes "u = string 2x1\n    \"a\"\n    \"b\"\nw = double 3x1\n    2\n    NaN\n    NaN\nG = table 2x3\n    g  GroupCount  nummissing_v\n    \"a\"  2  1\n    \"b\"  2  1\n")
unfolding whole_runs
distinct_texts_and_groups = refl

-- a byte order mark, and lines that end with CR and LF
-- 1: ds = tabularTextDatastore('air.csv', 'TreatAsMissing', 'NA');
-- 2: ds.SelectedVariableNames = {'Carrier', 'DepDelay'};
-- 3: T = tall(ds);
-- 4: late = T(T.DepDelay > 0, :);
-- 5: [n, k] = gather(height(T), height(late))
-- 6: G = gather(groupsummary(T, 'Carrier', 'sum', 'DepDelay'))
flights : answer_of ((codes "air.csv", 239 ∷ 187 ∷ 191 ∷ codes "Year,Carrier,City,DepDelay\r\n2008,AA,\"Dallas, TX\",12\r\n2008,UA,\"Chicago, IL\",NA\r\n2008,AA,\"New York, NY\",-3\r\n2009,DL\r\n") ∷ []) (read (script (
    silent 1 (sets "ds" (call "tabularTextDatastore" (text "air.csv" ∷ text "TreatAsMissing" ∷ text "NA" ∷ []))) ∷
    silent 2 (sets_property "ds" "SelectedVariableNames" (texts ("Carrier" ∷ "DepDelay" ∷ []))) ∷
    silent 3 (sets "T" (call "tall" (name "ds" ∷ []))) ∷
    silent 4 (sets "late" (rows_of "T" (infix_of Gt (member (name "T") "DepDelay") (number 0)))) ∷
    shown 5 (gathers ("n" ∷ "k" ∷ []) (call "height" (name "T" ∷ []) ∷ call "height" (name "late" ∷ []) ∷ [])) ∷
    shown 6 (sets "G" (call "gather" (call "groupsummary" (name "T" ∷ text "Carrier" ∷ text "sum" ∷ text "DepDelay" ∷ []) ∷ []))) ∷ [])))
    ≡ prints (codes "n = double 4\nk = double 1\nG = table 3x3\n    Carrier  GroupCount  sum_DepDelay\n    \"AA\"  2  9\n    \"DL\"  1  0\n    \"UA\"  1  0\n")
unfolding whole_runs
flights = refl

-- a.csv: x,x, / 1,2,3
-- 1: ds = tabularTextDatastore('a.csv');
-- 2: T = tall(ds);
-- 3: t = gather(T)
repeated_and_empty_names : answer_of (over (codes "x,x,\n1,2,3\n")) (read (script (
    silent 1 (sets "ds" (call "tabularTextDatastore" (text "a.csv" ∷ []))) ∷
    silent 2 (sets "T" (call "tall" (name "ds" ∷ []))) ∷
    shown 3 (sets "t" (call "gather" (name "T" ∷ []))) ∷ [])))
    ≡ prints (codes "t = table 1x3\n    x  x_1  Var3\n    1  2  3\n")
unfolding whole_runs
repeated_and_empty_names = refl

-- a.csv: a,a_1,a / 1,2,3
-- 1: ds = tabularTextDatastore('a.csv');
-- 2: T = tall(ds);
-- 3: t = gather(T)
suffix_that_collides : answer_of (over (codes "a,a_1,a\n1,2,3\n")) (read (script (
    silent 1 (sets "ds" (call "tabularTextDatastore" (text "a.csv" ∷ []))) ∷
    silent 2 (sets "T" (call "tall" (name "ds" ∷ []))) ∷
    shown 3 (sets "t" (call "gather" (name "T" ∷ []))) ∷ [])))
    ≡ prints (codes "t = table 1x3\n    a  a_1  a_2\n    1  2  3\n")
unfolding whole_runs
suffix_that_collides = refl

-- a.csv: x,x, / 1,2,3
-- b.csv: x,y, / 1,2,3
-- 1: ds = tabularTextDatastore({'a.csv','b.csv'});
-- 2: T = tall(ds);
-- 3: t = gather(T)
header_that_differs : answer_of ((codes "a.csv", codes "x,x,\n1,2,3\n") ∷ (codes "b.csv", codes "x,y,\n1,2,3\n") ∷ []) (read (script (
    silent 1 (sets "ds" (call "tabularTextDatastore" (texts ("a.csv" ∷ "b.csv" ∷ []) ∷ []))) ∷
    silent 2 (sets "T" (call "tall" (name "ds" ∷ []))) ∷
    shown 3 (sets "t" (call "gather" (name "T" ∷ []))) ∷ [])))
    ≡ fails (codes "tallrun: line 1: header differs in b.csv\n")
unfolding whole_runs
header_that_differs = refl

-- a.csv: g,v / b,1 / a,2 / b,3
-- 3: t = gather(T)
-- 4: u = t(t.v > 1, :)
-- 5: h = head(t, 1)
-- 6: x = t.v(2)
-- 7: n = height(t)
-- 8: r = readall(t);
-- 9: g = groupsummary(t, 'g', 'max', 'v')
table_in_memory : answer_of (over (codes "g,v\nb,1\na,2\nb,3\n")) (read (script (usual ("%q" ∷ "%d8" ∷ []) ++ (
    shown 3 (sets "t" (call "gather" (name "T" ∷ []))) ∷
    shown 4 (sets "u" (rows_of "t" (infix_of Gt (member (name "t") "v") (number 1)))) ∷
    shown 5 (sets "h" (call "head" (name "t" ∷ number 1 ∷ []))) ∷
    shown 6 (sets "x" (index (member (name "t") "v") (number 2 ∷ []))) ∷
    shown 7 (sets "n" (call "height" (name "t" ∷ []))) ∷
    silent 8 (sets "r" (call "readall" (name "t" ∷ []))) ∷
    shown 9 (sets "g" (call "groupsummary" (name "t" ∷ text "g" ∷ text "max" ∷ text "v" ∷ []))) ∷ []))))
    ≡ prints (codes "t = table 3x2\n    g  v\n    \"b\"  1\n    \"a\"  2\n    \"b\"  3\nu = table 2x2\n    g  v\n    \"a\"  2\n    \"b\"  3\nh = table 1x2\n    g  v\n    \"b\"  1\nx = int8 2\nn = double 3\ng = table 2x3\n    g  GroupCount  max_v\n    \"a\"  1  2\n    \"b\"  2  3\n")
unfolding whole_runs
table_in_memory = refl

-- 1: a = 1
-- 2: l = {'p', 'q'}
-- 3: t = "say ""hi"""
-- 4: 2 + 3
-- 5: b = 2 > 3
-- 6: z = NaN
-- 7: true
-- 8: m = intmin('int64')
shown_scalars_and_lists : answer_of [] (read (script (
    shown 1 (sets "a" (number 1)) ∷
    shown 2 (sets "l" (texts ("p" ∷ "q" ∷ []))) ∷
    shown 3 (sets "t" (text "say \"hi\"")) ∷
    shown 4 (bare (infix_of Add (number 2) (number 3))) ∷
    shown 5 (sets "b" (infix_of Gt (number 2) (number 3))) ∷
    shown 6 (sets "z" (name "NaN")) ∷
    shown 7 (bare (name "true")) ∷
    shown 8 (sets "m" (call "intmin" (text "int64" ∷ []))) ∷ [])))
    ≡ prints (codes "a = double 1\nl = list 2\nt = string \"say \"\"hi\"\"\"\nans = double 5\nb = logical 0\nz = double NaN\ntrue = logical 1\nm = int64 -9223372036854775808\n")
unfolding whole_runs
shown_scalars_and_lists = refl

-- nothing
empty_script : answer_of [] (read (script [])) ≡ prints []
unfolding whole_runs
empty_script = refl
