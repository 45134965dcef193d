-- What ends a run at names, operators and indexes over values in memory, by computation.
use Rattle.std.specs.Prelude.{◌≡◌, [], ◌∷◌, codes, refl, None}
use Rattle.tall_value.specs.declared.faults.FaultKind.TheVariants.{Inexact, NotWhole, NanLogical}
use Rattle.tall_grammar.specs.declared.expressions.Infix.TheVariants.{And, Eq, Add, DotDiv, Mul, Div}
use Rattle.tall_local.specs.Refusals.{undefined, mixed_class, bad_class, bad_argument, failed}
use Rattle.tall_script_rows.specs.RowWords.{whole_runs, ending_of, at_line}
use Rattle.tall_script_rows.specs.Drafts.{number, text, name, handle, minus, negated, infix_of, member, texts, call, rows_of, silent, sets, function_from, parameter, script, script_with}

-- x = y;
no_such_name : ending_of [] (script (
    silent 1 (sets "x" (name "y")) ∷ [])) ≡ at_line 1 (undefined (codes "y"))
unfolding whole_runs
no_such_name = refl

-- x = nosuch(y);
name_of_a_call_before_its_arguments : ending_of [] (script (
    silent 1 (sets "x" (call "nosuch" (name "y" ∷ []))) ∷ [])) ≡ at_line 1 (undefined (codes "nosuch"))
unfolding whole_runs
name_of_a_call_before_its_arguments = refl

-- x = sum(y, 1);
arguments_before_the_call : ending_of [] (script (
    silent 1 (sets "x" (call "sum" (name "y" ∷ number 1 ∷ []))) ∷ [])) ≡ at_line 1 (undefined (codes "y"))
unfolding whole_runs
arguments_before_the_call = refl

-- x = y + z;
left_operand_first : ending_of [] (script (
    silent 1 (sets "x" (infix_of Add (name "y") (name "z"))) ∷ [])) ≡ at_line 1 (undefined (codes "y"))
unfolding whole_runs
left_operand_first = refl

-- x = true(1);
constant_is_no_function : ending_of [] (script (
    silent 1 (sets "x" (call "true" (number 1 ∷ []))) ∷ [])) ≡ at_line 1 (undefined (codes "true"))
unfolding whole_runs
constant_is_no_function = refl

-- x = sum;
function_without_parentheses : ending_of [] (script (
    silent 1 (sets "x" (name "sum")) ∷ [])) ≡ at_line 1 (undefined (codes "sum"))
unfolding whole_runs
function_without_parentheses = refl

-- x = @m;
handle_of_no_function : ending_of [] (script (
    silent 1 (sets "x" (handle "m")) ∷ [])) ≡ at_line 1 (undefined (codes "m"))
unfolding whole_runs
handle_of_no_function = refl

-- x = @m; / function m(a, b, c) / end
handle_outside_mapreduce : ending_of [] (script_with (
    silent 1 (sets "x" (handle "m")) ∷ []) (
    function_from "m" 2 (parameter "a" ∷ parameter "b" ∷ parameter "c" ∷ [])
    [] ∷ [])) ≡ at_line 1 bad_argument
unfolding whole_runs
handle_outside_mapreduce = refl

-- x = sum(@m); / function m(a, b, c) / end
handle_as_another_argument : ending_of [] (script_with (
    silent 1 (sets "x" (call "sum" (handle "m" ∷ []))) ∷ []) (
    function_from "m" 2 (parameter "a" ∷ parameter "b" ∷ parameter "c" ∷ [])
    [] ∷ [])) ≡ at_line 1 bad_argument
unfolding whole_runs
handle_as_another_argument = refl

-- x = {'a'} + 1;
list_as_operand : ending_of [] (script (
    silent 1 (sets "x" (infix_of Add (texts ("a" ∷ [])) (number 1))) ∷ [])) ≡ at_line 1 bad_class
unfolding whole_runs
list_as_operand = refl

-- x = 'a' + 1;
text_as_operand : ending_of [] (script (
    silent 1 (sets "x" (infix_of Add (text "a") (number 1))) ∷ [])) ≡ at_line 1 bad_class
unfolding whole_runs
text_as_operand = refl

-- x = int8(1) + int16(1);
two_integer_classes : ending_of [] (script (
    silent 1 (sets "x" (infix_of Add (call "int8" (number 1 ∷ [])) (call "int16" (number 1 ∷ [])))) ∷ [])) ≡ at_line 1 mixed_class
unfolding whole_runs
two_integer_classes = refl

-- x = idivide(1, 2);
idivide_without_an_integer : ending_of [] (script (
    silent 1 (sets "x" (call "idivide" (number 1 ∷ number 2 ∷ []))) ∷ [])) ≡ at_line 1 bad_class
unfolding whole_runs
idivide_without_an_integer = refl

-- x = idivide(int8(1), 2, 'up');
idivide_with_another_rounding : ending_of [] (script (
    silent 1 (sets "x" (call "idivide" (call "int8" (number 1 ∷ []) ∷ number 2 ∷ text "up" ∷ []))) ∷ [])) ≡ at_line 1 bad_argument
unfolding whole_runs
idivide_with_another_rounding = refl

-- x = bitand(1, 2);
bits_of_doubles : ending_of [] (script (
    silent 1 (sets "x" (call "bitand" (number 1 ∷ number 2 ∷ []))) ∷ [])) ≡ at_line 1 bad_class
unfolding whole_runs
bits_of_doubles = refl

-- x = bitor(int8(1), true);
bits_of_an_integer_and_a_logical : ending_of [] (script (
    silent 1 (sets "x" (call "bitor" (call "int8" (number 1 ∷ []) ∷ name "true" ∷ []))) ∷ [])) ≡ at_line 1 bad_class
unfolding whole_runs
bits_of_an_integer_and_a_logical = refl

-- x = bitxor(int8(1), int16(1));
bits_of_two_integer_classes : ending_of [] (script (
    silent 1 (sets "x" (call "bitxor" (call "int8" (number 1 ∷ []) ∷ call "int16" (number 1 ∷ []) ∷ []))) ∷ [])) ≡ at_line 1 mixed_class
unfolding whole_runs
bits_of_two_integer_classes = refl

-- x = mod('a', 1);
modulo_of_a_text : ending_of [] (script (
    silent 1 (sets "x" (call "mod" (text "a" ∷ number 1 ∷ []))) ∷ [])) ≡ at_line 1 bad_class
unfolding whole_runs
modulo_of_a_text = refl

-- x = strcmp('a', 1);
strcmp_of_a_number : ending_of [] (script (
    silent 1 (sets "x" (call "strcmp" (text "a" ∷ number 1 ∷ []))) ∷ [])) ≡ at_line 1 bad_class
unfolding whole_runs
strcmp_of_a_number = refl

-- x = 'a' == 1;
text_with_a_number : ending_of [] (script (
    silent 1 (sets "x" (infix_of Eq (text "a") (number 1))) ∷ [])) ≡ at_line 1 bad_class
unfolding whole_runs
text_with_a_number = refl

-- x = 'a' & true;
and_of_a_text : ending_of [] (script (
    silent 1 (sets "x" (infix_of And (text "a") (name "true"))) ∷ [])) ≡ at_line 1 bad_class
unfolding whole_runs
and_of_a_text = refl

-- x = -'a';
minus_of_a_text : ending_of [] (script (
    silent 1 (sets "x" (minus (text "a"))) ∷ [])) ≡ at_line 1 bad_class
unfolding whole_runs
minus_of_a_text = refl

-- x = ~'a';
not_of_a_text : ending_of [] (script (
    silent 1 (sets "x" (negated (text "a"))) ∷ [])) ≡ at_line 1 bad_class
unfolding whole_runs
not_of_a_text = refl

-- x = abs({'a'});
abs_of_a_list : ending_of [] (script (
    silent 1 (sets "x" (call "abs" (texts ("a" ∷ []) ∷ []))) ∷ [])) ≡ at_line 1 bad_class
unfolding whole_runs
abs_of_a_list = refl

-- x = int8('a');
conversion_of_a_text : ending_of [] (script (
    silent 1 (sets "x" (call "int8" (text "a" ∷ []))) ∷ [])) ≡ at_line 1 bad_class
unfolding whole_runs
conversion_of_a_text = refl

-- x = abs(1, 2);
abs_of_two : ending_of [] (script (
    silent 1 (sets "x" (call "abs" (number 1 ∷ number 2 ∷ []))) ∷ [])) ≡ at_line 1 bad_argument
unfolding whole_runs
abs_of_two = refl

-- x = {'a'} * {'b'};
times_without_a_scalar : ending_of [] (script (
    silent 1 (sets "x" (infix_of Mul (texts ("a" ∷ [])) (texts ("b" ∷ [])))) ∷ [])) ≡ at_line 1 bad_argument
unfolding whole_runs
times_without_a_scalar = refl

-- the test on scalars comes before classes
-- x = 1 / {'a'};
over_without_a_scalar : ending_of [] (script (
    silent 1 (sets "x" (infix_of Div (number 1) (texts ("a" ∷ [])))) ∷ [])) ≡ at_line 1 bad_argument
unfolding whole_runs
over_without_a_scalar = refl

-- x = {'a'} / 1;
scalar_on_the_right_of_a_list : ending_of [] (script (
    silent 1 (sets "x" (infix_of Div (texts ("a" ∷ [])) (number 1))) ∷ [])) ≡ at_line 1 bad_class
unfolding whole_runs
scalar_on_the_right_of_a_list = refl

-- x = 7 ./ 2;
quotient_that_is_not_whole : ending_of [] (script (
    silent 1 (sets "x" (infix_of DotDiv (number 7) (number 2))) ∷ [])) ≡ at_line 1 (failed None NotWhole)
unfolding whole_runs
quotient_that_is_not_whole = refl

-- x = 1 / 0;
number_over_zero : ending_of [] (script (
    silent 1 (sets "x" (infix_of Div (number 1) (number 0))) ∷ [])) ≡ at_line 1 (failed None Inexact)
unfolding whole_runs
number_over_zero = refl

-- x = NaN & true;
nan_as_a_logical : ending_of [] (script (
    silent 1 (sets "x" (infix_of And (name "NaN") (name "true"))) ∷ [])) ≡ at_line 1 (failed None NanLogical)
unfolding whole_runs
nan_as_a_logical = refl

-- a = 5; / x = a(1);
index_on_a_scalar : ending_of [] (script (
    silent 1 (sets "a" (number 5)) ∷
    silent 2 (sets "x" (call "a" (number 1 ∷ []))) ∷ [])) ≡ at_line 2 bad_argument
unfolding whole_runs
index_on_a_scalar = refl

-- a = {'p'}; / x = a(1);
index_on_a_list : ending_of [] (script (
    silent 1 (sets "a" (texts ("p" ∷ []))) ∷
    silent 2 (sets "x" (call "a" (number 1 ∷ []))) ∷ [])) ≡ at_line 2 bad_argument
unfolding whole_runs
index_on_a_list = refl

-- a = 5; / x = a(1, :);
colon_on_a_scalar : ending_of [] (script (
    silent 1 (sets "a" (number 5)) ∷
    silent 2 (sets "x" (rows_of "a" (number 1))) ∷ [])) ≡ at_line 2 bad_argument
unfolding whole_runs
colon_on_a_scalar = refl

-- a = 5; / x = a.b;
member_of_a_scalar : ending_of [] (script (
    silent 1 (sets "a" (number 5)) ∷
    silent 2 (sets "x" (member (name "a") "b")) ∷ [])) ≡ at_line 2 bad_argument
unfolding whole_runs
member_of_a_scalar = refl
