-- Whole runs over a column or two, from files and statements to text and line, by computation.
use Rattle.std.specs.Prelude.{◌≡◌, [], ◌∷◌, ◌++◌, codes, refl}
use Rattle.tall_grammar.specs.declared.expressions.Infix.TheVariants.{Gt, Add, Sub, DotDiv}
use Rattle.tall_grammar.specs.Refusals.{read}
use Rattle.tall_script.specs.Answers.{answer_of}
use Rattle.tall_script_rows.specs.RowWords.{whole_runs, over, usual, prints, fails, prints_and_fails}
use Rattle.tall_script_rows.specs.Drafts.{number, text, name, minus, infix_of, member, texts, call, index, shown, silent, sets, gathers, script}

-- a.csv: x / 100 / 100 / -100
-- 3: s = gather(sum(T.x, 'native'))
native_sum_in_row_order : answer_of (over (codes "x\n100\n100\n-100\n")) (read (script (usual ("%d8" ∷ []) ++ (
    shown 3 (sets "s" (call "gather" (call "sum" (member (name "T") "x" ∷ text "native" ∷ []) ∷ []))) ∷ []))))
    ≡ prints (codes "s = int8 27\n")
unfolding whole_runs
native_sum_in_row_order = refl

-- a.csv: x / 100 / 100 / -100
-- 3: [a, c] = gather(sum(T.x), cumsum(T.x))
exact_sum_and_running_sum : answer_of (over (codes "x\n100\n100\n-100\n")) (read (script (usual ("%d8" ∷ []) ++ (
    shown 3 (gathers ("a" ∷ "c" ∷ []) (call "sum" (member (name "T") "x" ∷ []) ∷ call "cumsum" (member (name "T") "x" ∷ []) ∷ [])) ∷ []))))
    ≡ prints (codes "a = double 100\nc = int8 3x1\n    100\n    127\n    27\n")
unfolding whole_runs
exact_sum_and_running_sum = refl

-- a.csv: x / 7 / -7 / 5 / -5 / 0
-- 3: [a, b] = gather(T.x ./ 2, T.x ./ 0)
quotients_round_outward : answer_of (over (codes "x\n7\n-7\n5\n-5\n0\n")) (read (script (usual ("%d32" ∷ []) ++ (
    shown 3 (gathers ("a" ∷ "b" ∷ []) (infix_of DotDiv (member (name "T") "x") (number 2) ∷ infix_of DotDiv (member (name "T") "x") (number 0) ∷ [])) ∷ []))))
    ≡ prints (codes "a = int32 5x1\n    4\n    -4\n    3\n    -3\n    0\nb = int32 5x1\n    2147483647\n    -2147483648\n    2147483647\n    -2147483648\n    0\n")
unfolding whole_runs
quotients_round_outward = refl

-- a.csv: u,i / 5,-128 / 10,0 / 255,127
-- 3: [a, b, c] = gather(T.u - 10, -T.i, abs(T.i))
integers_saturate : answer_of (over (codes "u,i\n5,-128\n10,0\n255,127\n")) (read (script (usual ("%u8" ∷ "%d8" ∷ []) ++ (
    shown 3 (gathers ("a" ∷ "b" ∷ "c" ∷ []) (infix_of Sub (member (name "T") "u") (number 10) ∷ minus (member (name "T") "i") ∷ call "abs" (member (name "T") "i" ∷ []) ∷ [])) ∷ []))))
    ≡ prints (codes "a = uint8 3x1\n    0\n    0\n    245\nb = int8 3x1\n    127\n    0\n    -127\nc = int8 3x1\n    127\n    0\n    127\n")
unfolding whole_runs
integers_saturate = refl

-- a.csv: x / 18446744073709551615 / 18446744073709551615
-- 3: t = gather(sum(T.x, 'native'))
-- 4: s = gather(sum(T.x))
total_above_the_limit : answer_of (over (codes "x\n18446744073709551615\n18446744073709551615\n")) (read (script (usual ("%u64" ∷ []) ++ (
    shown 3 (sets "t" (call "gather" (call "sum" (member (name "T") "x" ∷ text "native" ∷ []) ∷ []))) ∷
    shown 4 (sets "s" (call "gather" (call "sum" (member (name "T") "x" ∷ []) ∷ []))) ∷ []))))
    ≡ prints_and_fails (codes "t = uint64 18446744073709551615\n") (codes "tallrun: line 4: result above 2^53\n")
unfolding whole_runs
total_above_the_limit = refl

-- a.csv: x,y / 1,2
-- 3: z = T.x + T.y;
two_integer_classes : answer_of (over (codes "x,y\n1,2\n")) (read (script (usual ("%d16" ∷ "%d32" ∷ []) ++ (
    silent 3 (sets "z" (infix_of Add (member (name "T") "x") (member (name "T") "y"))) ∷ []))))
    ≡ fails (codes "tallrun: line 3: Integers can only be combined with integers of the same class, or scalar doubles.\n")
unfolding whole_runs
two_integer_classes = refl

-- a.csv: x / 3 / 5
-- 3: m = max(T.x);
-- 4: s = sum(T.x - m);
-- 5: [m, s] = gather(m, s)
two_passes : answer_of (over (codes "x\n3\n5\n")) (read (script (usual ("%f" ∷ []) ++ (
    silent 3 (sets "m" (call "max" (member (name "T") "x" ∷ []))) ∷
    silent 4 (sets "s" (call "sum" (infix_of Sub (member (name "T") "x") (name "m") ∷ []))) ∷
    shown 5 (gathers ("m" ∷ "s" ∷ []) (name "m" ∷ name "s" ∷ [])) ∷ []))))
    ≡ prints (codes "m = double 5\ns = double -2\n")
unfolding whole_runs
two_passes = refl

-- a.csv: x / 3 / 5
-- 1: % ratios
-- 2: ds = tabularTextDatastore('a.csv', 'TextscanFormats', {'%f'});
-- 3: T = tall(ds);
-- 4: m = max(T.x);
-- 5: k = 1;
-- 6: y = T.x ./ (T.x - m);
-- 7: z = T.x ./ 0;
-- 8: [y, z] = gather(y, z)
lesser_number_wins : answer_of (over (codes "x\n3\n5\n")) (read (script (
    silent 2 (sets "ds" (call "tabularTextDatastore" (text "a.csv" ∷ text "TextscanFormats" ∷ texts ("%f" ∷ []) ∷ []))) ∷
    silent 3 (sets "T" (call "tall" (name "ds" ∷ []))) ∷
    silent 4 (sets "m" (call "max" (member (name "T") "x" ∷ []))) ∷
    silent 5 (sets "k" (number 1)) ∷
    silent 6 (sets "y" (infix_of DotDiv (member (name "T") "x") (infix_of Sub (member (name "T") "x") (name "m")))) ∷
    silent 7 (sets "z" (infix_of DotDiv (member (name "T") "x") (number 0))) ∷
    shown 8 (gathers ("y" ∷ "z" ∷ []) (name "y" ∷ name "z" ∷ [])) ∷ [])))
    ≡ fails (codes "tallrun: line 6: row 1: result is not a whole number\n")
unfolding whole_runs
lesser_number_wins = refl

-- a.csv: x / 3
-- 3: y = T.x ./ 0;
-- 4: n = gather(height(T))
fault_that_no_gather_reaches : answer_of (over (codes "x\n3\n")) (read (script (usual ("%f" ∷ []) ++ (
    silent 3 (sets "y" (infix_of DotDiv (member (name "T") "x") (number 0))) ∷
    shown 4 (sets "n" (call "gather" (call "height" (name "T" ∷ []) ∷ []))) ∷ []))))
    ≡ prints (codes "n = double 1\n")
unfolding whole_runs
fault_that_no_gather_reaches = refl

-- a.csv: x,y / 1,10 / -2,20 / 3,30
-- 3: s = gather(sum(T.x(T.x > 0) + T.y(T.x > 0)))
-- 4: q = T.x(T.x > 0) + T.y;
filters_of_one_space : answer_of (over (codes "x,y\n1,10\n-2,20\n3,30\n")) (read (script (usual ("%f" ∷ "%f" ∷ []) ++ (
    shown 3 (sets "s" (call "gather" (call "sum" (infix_of Add (index (member (name "T") "x") (infix_of Gt (member (name "T") "x") (number 0) ∷ [])) (index (member (name "T") "y") (infix_of Gt (member (name "T") "x") (number 0) ∷ [])) ∷ []) ∷ []))) ∷
    silent 4 (sets "q" (infix_of Add (index (member (name "T") "x") (infix_of Gt (member (name "T") "x") (number 0) ∷ [])) (member (name "T") "y"))) ∷ []))))
    ≡ prints_and_fails (codes "s = double 44\n") (codes "tallrun: line 4: tall arrays of different rows\n")
unfolding whole_runs
filters_of_one_space = refl

-- a.csv: x
-- 3: [n, a, b, h] = gather(sum(T.x, 'native'), all(T.x > 0), any(T.x > 0), head(T.x))
-- 4: m = gather(max(T.x))
no_rows : answer_of (over (codes "x\n")) (read (script (usual ("%d8" ∷ []) ++ (
    shown 3 (gathers ("n" ∷ "a" ∷ "b" ∷ "h" ∷ []) (call "sum" (member (name "T") "x" ∷ text "native" ∷ []) ∷ call "all" (infix_of Gt (member (name "T") "x") (number 0) ∷ []) ∷ call "any" (infix_of Gt (member (name "T") "x") (number 0) ∷ []) ∷ call "head" (member (name "T") "x" ∷ []) ∷ [])) ∷
    shown 4 (sets "m" (call "gather" (call "max" (member (name "T") "x" ∷ []) ∷ []))) ∷ []))))
    ≡ prints_and_fails (codes "n = int8 0\na = logical 1\nb = logical 0\nh = int8 0x1\n") (codes "tallrun: line 4: no rows\n")
unfolding whole_runs
no_rows = refl

-- a.csv: x / 100 / 100 / -100 / 100 / -50
-- 3: [h, c, s] = gather(head(T.x, 2), cumsum(T.x), sum(T.x, 'native'))
head_and_running_sum : answer_of (over (codes "x\n100\n100\n-100\n100\n-50\n")) (read (script (usual ("%d8" ∷ []) ++ (
    shown 3 (gathers ("h" ∷ "c" ∷ "s" ∷ []) (call "head" (member (name "T") "x" ∷ number 2 ∷ []) ∷ call "cumsum" (member (name "T") "x" ∷ []) ∷ call "sum" (member (name "T") "x" ∷ text "native" ∷ []) ∷ [])) ∷ []))))
    ≡ prints (codes "h = int8 2x1\n    100\n    100\nc = int8 5x1\n    100\n    127\n    27\n    127\n    77\ns = int8 77\n")
unfolding whole_runs
head_and_running_sum = refl

-- a.csv: x / 3 / 1 / NaN / 3
-- 3: [t, u, c] = gather(tail(T.x, 3), unique(T.x), cummin(T.x))
tail_and_distinct_values : answer_of (over (codes "x\n3\n1\nNaN\n3\n")) (read (script (usual ("%f" ∷ []) ++ (
    shown 3 (gathers ("t" ∷ "u" ∷ "c" ∷ []) (call "tail" (member (name "T") "x" ∷ number 3 ∷ []) ∷ call "unique" (member (name "T") "x" ∷ []) ∷ call "cummin" (member (name "T") "x" ∷ []) ∷ [])) ∷ []))))
    ≡ prints (codes "t = double 3x1\n    1\n    NaN\n    3\nu = double 3x1\n    1\n    3\n    NaN\nc = double 4x1\n    3\n    1\n    1\n    1\n")
unfolding whole_runs
tail_and_distinct_values = refl

-- a.csv: x / 4 / 2
-- 3: a = T.x ./ 4;
-- 4: b = T.x ./ 3;
-- 5: [a, b] = gather(a, b)
lesser_number_before_earlier_row : answer_of (over (codes "x\n4\n2\n")) (read (script (usual ("%f" ∷ []) ++ (
    silent 3 (sets "a" (infix_of DotDiv (member (name "T") "x") (number 4))) ∷
    silent 4 (sets "b" (infix_of DotDiv (member (name "T") "x") (number 3))) ∷
    shown 5 (gathers ("a" ∷ "b" ∷ []) (name "a" ∷ name "b" ∷ [])) ∷ []))))
    ≡ fails (codes "tallrun: line 3: row 2: result is not a whole number\n")
unfolding whole_runs
lesser_number_before_earlier_row = refl

-- a.csv: x / -7 / 7
-- 3: [a, b, c] = gather(idivide(T.x, 2), idivide(T.x, 2, 'floor'), mod(T.x, 3))
integer_division_and_modulo : answer_of (over (codes "x\n-7\n7\n")) (read (script (usual ("%d32" ∷ []) ++ (
    shown 3 (gathers ("a" ∷ "b" ∷ "c" ∷ []) (call "idivide" (member (name "T") "x" ∷ number 2 ∷ []) ∷ call "idivide" (member (name "T") "x" ∷ number 2 ∷ text "floor" ∷ []) ∷ call "mod" (member (name "T") "x" ∷ number 3 ∷ []) ∷ [])) ∷ []))))
    ≡ prints (codes "a = int32 2x1\n    -3\n    3\nb = int32 2x1\n    -4\n    3\nc = int32 2x1\n    2\n    1\n")
unfolding whole_runs
integer_division_and_modulo = refl

-- a.csv: x / 30000 / 5000 / -1000
-- 1: ds = tabularTextDatastore('a.csv', 'TextscanFormats', {'%d16'});
-- 2: T = tall(ds);
-- 3: s = sum(T.x, 'native');
-- 4: s = gather(s)
first_script : answer_of (over (codes "x\n30000\n5000\n-1000\n")) (read (script (
    silent 1 (sets "ds" (call "tabularTextDatastore" (text "a.csv" ∷ text "TextscanFormats" ∷ texts ("%d16" ∷ []) ∷ []))) ∷
    silent 2 (sets "T" (call "tall" (name "ds" ∷ []))) ∷
    silent 3 (sets "s" (call "sum" (member (name "T") "x" ∷ text "native" ∷ []))) ∷
    shown 4 (sets "s" (call "gather" (name "s" ∷ []))) ∷ [])))
    ≡ prints (codes "s = int16 31767\n")
unfolding whole_runs
first_script = refl

-- a.csv: x / 30000 / 30000 / -32768
-- 1: ds = tabularTextDatastore('a.csv', 'TextscanFormats', {'%d16'});
-- 2: T = tall(ds);
-- 3: s = sum(T.x, 'native');
-- 4: s = gather(s)
first_script_below_zero : answer_of (over (codes "x\n30000\n30000\n-32768\n")) (read (script (
    silent 1 (sets "ds" (call "tabularTextDatastore" (text "a.csv" ∷ text "TextscanFormats" ∷ texts ("%d16" ∷ []) ∷ []))) ∷
    silent 2 (sets "T" (call "tall" (name "ds" ∷ []))) ∷
    silent 3 (sets "s" (call "sum" (member (name "T") "x" ∷ text "native" ∷ []))) ∷
    shown 4 (sets "s" (call "gather" (name "s" ∷ []))) ∷ [])))
    ≡ prints (codes "s = int16 -1\n")
unfolding whole_runs
first_script_below_zero = refl

-- a byte order mark, then the lines x, " 5 ", 2.5 and "", each ended by CR and LF
-- 1: ds = tabularTextDatastore('a.csv', 'TextscanFormats', {'%d16'});
-- 2: T = tall(ds);
-- 3: s = sum(T.x, 'native');
-- 4: s = gather(s)
first_script_over_other_ends : answer_of ((codes "a.csv", 239 ∷ 187 ∷ 191 ∷ codes "x\r\n 5 \r\n2.5\r\n\"\"\r\n") ∷ []) (read (script (
    silent 1 (sets "ds" (call "tabularTextDatastore" (text "a.csv" ∷ text "TextscanFormats" ∷ texts ("%d16" ∷ []) ∷ []))) ∷
    silent 2 (sets "T" (call "tall" (name "ds" ∷ []))) ∷
    silent 3 (sets "s" (call "sum" (member (name "T") "x" ∷ text "native" ∷ []))) ∷
    shown 4 (sets "s" (call "gather" (name "s" ∷ []))) ∷ [])))
    ≡ prints (codes "s = int16 8\n")
unfolding whole_runs
first_script_over_other_ends = refl
