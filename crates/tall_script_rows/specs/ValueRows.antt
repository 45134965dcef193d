-- Runs over values in memory and over tall values that end well, by computation.
use Rattle.std.specs.Prelude.{◌≡◌, [], ◌∷◌, ◌++◌, codes, refl}
use Rattle.tall_grammar.specs.Trees.{bare}
use Rattle.tall_grammar.specs.declared.expressions.Infix.TheVariants.{And, Eq, Gt, Add, Sub, DotMul, Mul, Div}
use Rattle.tall_grammar.specs.Refusals.{read}
use Rattle.tall_script.specs.Answers.{answer_of}
use Rattle.tall_script_rows.specs.RowWords.{whole_runs, over, usual, prints}
use Rattle.tall_script_rows.specs.Drafts.{number, text, name, minus, negated, infix_of, member, call, rows_of, shown, silent, sets, gathers, script}

-- 1: a = int8(100) - -100
-- 2: b = 7 - 2 .* 3
-- 3: c = 6 / 3 * 2 == 4 & ~false
-- 4: d = "b" > 'a'
-- 5: e = true + true
operators_of_scalars : answer_of [] (read (script (
    shown 1 (sets "a" (infix_of Sub (call "int8" (number 100 ∷ [])) (minus (number 100)))) ∷
    shown 2 (sets "b" (infix_of Sub (number 7) (infix_of DotMul (number 2) (number 3)))) ∷
    shown 3 (sets "c" (infix_of And (infix_of Eq (infix_of Mul (infix_of Div (number 6) (number 3)) (number 2)) (number 4)) (negated (name "false")))) ∷
    shown 4 (sets "d" (infix_of Gt (text "b") (text "a"))) ∷
    shown 5 (sets "e" (infix_of Add (name "true") (name "true"))) ∷ [])))
    ≡ prints (codes "a = int8 127\nb = double 1\nc = logical 1\nd = logical 1\ne = double 2\n")
unfolding whole_runs
operators_of_scalars = refl

-- 1: a = idivide(int8(7), 2, 'ceil')
-- 2: b = mod(-7, 3)
-- 3: c = bitand(uint8(12), 10)
-- 4: d = strcmp('a', "a")
-- 5: e = abs(int8(-128))
-- 6: g = uint8(300)
-- 7: h = isnan(NaN)
-- 8: i = intmax('uint64')
-- 9: j = logical(2)
functions_of_scalars : answer_of [] (read (script (
    shown 1 (sets "a" (call "idivide" (call "int8" (number 7 ∷ []) ∷ number 2 ∷ text "ceil" ∷ []))) ∷
    shown 2 (sets "b" (call "mod" (minus (number 7) ∷ number 3 ∷ []))) ∷
    shown 3 (sets "c" (call "bitand" (call "uint8" (number 12 ∷ []) ∷ number 10 ∷ []))) ∷
    shown 4 (sets "d" (call "strcmp" (text "a" ∷ text "a" ∷ []))) ∷
    shown 5 (sets "e" (call "abs" (call "int8" (minus (number 128) ∷ []) ∷ []))) ∷
    shown 6 (sets "g" (call "uint8" (number 300 ∷ []))) ∷
    shown 7 (sets "h" (call "isnan" (name "NaN" ∷ []))) ∷
    shown 8 (sets "i" (call "intmax" (text "uint64" ∷ []))) ∷
    shown 9 (sets "j" (call "logical" (number 2 ∷ []))) ∷ [])))
    ≡ prints (codes "a = int8 4\nb = double 2\nc = uint8 8\nd = logical 1\ne = int8 127\ng = uint8 255\nh = logical 1\ni = uint64 18446744073709551615\nj = logical 1\n")
unfolding whole_runs
functions_of_scalars = refl

-- 1: a = sum(3)
-- 2: b = sum(int8(3), 'omitnan', 'native')
-- 3: c = max(7)
-- 4: d = nnz(0)
-- 5: e = numel('a')
-- 6: g = any(true)
scalars_are_one_row : answer_of [] (read (script (
    shown 1 (sets "a" (call "sum" (number 3 ∷ []))) ∷
    shown 2 (sets "b" (call "sum" (call "int8" (number 3 ∷ []) ∷ text "omitnan" ∷ text "native" ∷ []))) ∷
    shown 3 (sets "c" (call "max" (number 7 ∷ []))) ∷
    shown 4 (sets "d" (call "nnz" (number 0 ∷ []))) ∷
    shown 5 (sets "e" (call "numel" (text "a" ∷ []))) ∷
    shown 6 (sets "g" (call "any" (name "true" ∷ []))) ∷ [])))
    ≡ prints (codes "a = double 3\nb = int8 3\nc = double 7\nd = double 0\ne = double 1\ng = logical 1\n")
unfolding whole_runs
scalars_are_one_row = refl

-- 1: true = 5;
-- 2: a = true + 1
-- 3: sum = 7;
-- 4: sum
-- 5: NaN
variables_hide_constants_and_functions : answer_of [] (read (script (
    silent 1 (sets "true" (number 5)) ∷
    shown 2 (sets "a" (infix_of Add (name "true") (number 1))) ∷
    silent 3 (sets "sum" (number 7)) ∷
    shown 4 (bare (name "sum")) ∷
    shown 5 (bare (name "NaN")) ∷ [])))
    ≡ prints (codes "a = double 6\nsum = double 7\nNaN = double NaN\n")
unfolding whole_runs
variables_hide_constants_and_functions = refl

-- 1: 1 + 1;
-- 2: ans
-- 3: b = ans + 1
ans_is_a_name : answer_of [] (read (script (
    silent 1 (bare (infix_of Add (number 1) (number 1))) ∷
    shown 2 (bare (name "ans")) ∷
    shown 3 (sets "b" (infix_of Add (name "ans") (number 1))) ∷ [])))
    ≡ prints (codes "ans = double 2\nb = double 3\n")
unfolding whole_runs
ans_is_a_name = refl

-- 1: a = 1;
-- 2: b = 2;
-- 3: a = b + 1;
-- 4: a
-- 5: b
later_statement_of_a_name : answer_of [] (read (script (
    silent 1 (sets "a" (number 1)) ∷
    silent 2 (sets "b" (number 2)) ∷
    silent 3 (sets "a" (infix_of Add (name "b") (number 1))) ∷
    shown 4 (bare (name "a")) ∷
    shown 5 (bare (name "b")) ∷ [])))
    ≡ prints (codes "a = double 3\nb = double 2\n")
unfolding whole_runs
later_statement_of_a_name = refl

-- 1: [a, a] = gather(1, 'p')
gather_of_values_in_memory : answer_of [] (read (script (
    shown 1 (gathers ("a" ∷ "a" ∷ []) (number 1 ∷ text "p" ∷ [])) ∷ [])))
    ≡ prints (codes "a = double 1\na = string \"p\"\n")
unfolding whole_runs
gather_of_values_in_memory = refl

-- a.csv: g,x,d / b,1,NaN / a,2,5 / b,-3,2
-- 3: t = gather(T);
-- 4: x = t.x;
-- 5: s = sum(x, 'native')
-- 6: c = cumsum(x)
-- 7: u = unique(t.g)
-- 8: m = min(t.d)
-- 9: h = tail(x, 2)
-- 10: n = numel(x)
-- 11: k = x(x > 0)
-- 12: y = x .* 2 - x(1)
-- 13: z = nnz(t.d)
-- 14: q = sum(t.d, 'omitnan')
columns_in_memory : answer_of (over (codes "g,x,d\nb,1,NaN\na,2,5\nb,-3,2\n")) (read (script (usual ("%q" ∷ "%d8" ∷ "%f" ∷ []) ++ (
    silent 3 (sets "t" (call "gather" (name "T" ∷ []))) ∷
    silent 4 (sets "x" (member (name "t") "x")) ∷
    shown 5 (sets "s" (call "sum" (name "x" ∷ text "native" ∷ []))) ∷
    shown 6 (sets "c" (call "cumsum" (name "x" ∷ []))) ∷
    shown 7 (sets "u" (call "unique" (member (name "t") "g" ∷ []))) ∷
    shown 8 (sets "m" (call "min" (member (name "t") "d" ∷ []))) ∷
    shown 9 (sets "h" (call "tail" (name "x" ∷ number 2 ∷ []))) ∷
    shown 10 (sets "n" (call "numel" (name "x" ∷ []))) ∷
    shown 11 (sets "k" (call "x" (infix_of Gt (name "x") (number 0) ∷ []))) ∷
    shown 12 (sets "y" (infix_of Sub (infix_of DotMul (name "x") (number 2)) (call "x" (number 1 ∷ [])))) ∷
    shown 13 (sets "z" (call "nnz" (member (name "t") "d" ∷ []))) ∷
    shown 14 (sets "q" (call "sum" (member (name "t") "d" ∷ text "omitnan" ∷ []))) ∷ []))))
    ≡ prints (codes "s = int8 0\nc = int8 3x1\n    1\n    3\n    0\nu = string 2x1\n    \"a\"\n    \"b\"\nm = double 2\nh = int8 2x1\n    2\n    -3\nn = double 3\nk = int8 2x1\n    1\n    2\ny = int8 3x1\n    1\n    3\n    -7\nz = double 3\nq = double 7\n")
unfolding whole_runs
columns_in_memory = refl

-- a.csv: g,x,d / b,1,NaN / a,2,5 / b,-3,2
-- 3: t = gather(T);
-- 4: a = groupsummary(t, 'g')
-- 5: b = groupsummary(t, 'g', 'sumnative', 'x')
-- 6: c = groupsummary(t, 'g', 'nnz', 'd')
groups_in_memory : answer_of (over (codes "g,x,d\nb,1,NaN\na,2,5\nb,-3,2\n")) (read (script (usual ("%q" ∷ "%d8" ∷ "%f" ∷ []) ++ (
    silent 3 (sets "t" (call "gather" (name "T" ∷ []))) ∷
    shown 4 (sets "a" (call "groupsummary" (name "t" ∷ text "g" ∷ []))) ∷
    shown 5 (sets "b" (call "groupsummary" (name "t" ∷ text "g" ∷ text "sumnative" ∷ text "x" ∷ []))) ∷
    shown 6 (sets "c" (call "groupsummary" (name "t" ∷ text "g" ∷ text "nnz" ∷ text "d" ∷ []))) ∷ []))))
    ≡ prints (codes "a = table 2x2\n    g  GroupCount\n    \"a\"  1\n    \"b\"  2\nb = table 2x3\n    g  GroupCount  sumnative_x\n    \"a\"  1  2\n    \"b\"  2  -2\nc = table 2x3\n    g  GroupCount  nnz_d\n    \"a\"  1  1\n    \"b\"  2  1\n")
unfolding whole_runs
groups_in_memory = refl

-- a.csv: g,x,d / b,1,NaN / a,2,5 / b,-3,2
-- 3: h = gather(head(T, 1))
-- 4: f = T(T.d > 2, :);
-- 5: g = gather(f)
-- 6: a = gather(groupsummary(f, 'g'))
-- 7: n = gather(height(tail(T)))
tall_tables : answer_of (over (codes "g,x,d\nb,1,NaN\na,2,5\nb,-3,2\n")) (read (script (usual ("%q" ∷ "%d8" ∷ "%f" ∷ []) ++ (
    shown 3 (sets "h" (call "gather" (call "head" (name "T" ∷ number 1 ∷ []) ∷ []))) ∷
    silent 4 (sets "f" (rows_of "T" (infix_of Gt (member (name "T") "d") (number 2)))) ∷
    shown 5 (sets "g" (call "gather" (name "f" ∷ []))) ∷
    shown 6 (sets "a" (call "gather" (call "groupsummary" (name "f" ∷ text "g" ∷ []) ∷ []))) ∷
    shown 7 (sets "n" (call "gather" (call "height" (call "tail" (name "T" ∷ []) ∷ []) ∷ []))) ∷ []))))
    ≡ prints (codes "h = table 1x3\n    g  x  d\n    \"b\"  1  NaN\ng = table 1x3\n    g  x  d\n    \"a\"  2  5\na = table 1x2\n    g  GroupCount\n    \"a\"  1\nn = double 3\n")
unfolding whole_runs
tall_tables = refl

-- a.csv: g,x,d / b,1,NaN / a,2,5 / b,-3,2
-- 3: s = sum(T.x);
-- 4: a = gather(s + 1)
-- 5: b = gather(T.x * s)
-- 6: c = gather(numel(s))
-- 7: d = gather(max(s))
tall_scalars : answer_of (over (codes "g,x,d\nb,1,NaN\na,2,5\nb,-3,2\n")) (read (script (usual ("%q" ∷ "%d8" ∷ "%f" ∷ []) ++ (
    silent 3 (sets "s" (call "sum" (member (name "T") "x" ∷ []))) ∷
    shown 4 (sets "a" (call "gather" (infix_of Add (name "s") (number 1) ∷ []))) ∷
    shown 5 (sets "b" (call "gather" (infix_of Mul (member (name "T") "x") (name "s") ∷ []))) ∷
    shown 6 (sets "c" (call "gather" (call "numel" (name "s" ∷ []) ∷ []))) ∷
    shown 7 (sets "d" (call "gather" (call "max" (name "s" ∷ []) ∷ []))) ∷ []))))
    ≡ prints (codes "a = double 1\nb = int8 3x1\n    0\n    0\n    0\nc = double 1\nd = double 0\n")
unfolding whole_runs
tall_scalars = refl
