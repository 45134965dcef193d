-- Scripts, and bytes that are none, by computation. By the law `the_verdict_is_the_answer` each row says what the bytes are.
use Rattle.std.specs.Prelude.{◌≡◌, ⊤, Bool, true, false, [], ◌++◌, Option, Some, None, replicate, codes, refl}
use Rattle.std.specs.Str.{chars, is_utf8}
use Rattle.std.specs.Str.Lossy.{utf8_valid_len}
use Rattle.std.proofs.Math.Utf8.{encode}
use Rattle.tall_lex.specs.Bytes.{is_reserved}
use Rattle.tall_lex.specs.Numbers.{is_whole_number}
use Rattle.tall_lex.specs.Pieces.{name_piece, fraction_len, exponent_len, number_len, number_piece, text_piece, comment_piece, joined_piece, sign_piece, piece_at}
use Rattle.tall_lex.specs.Tokens.{tokens_from, tokens_of_bytes}
use Rattle.tall_grammar.specs.ExprReader.{args_from, post_from, signs_from, signed, chain_from, level, expr_within}
use Rattle.tall_grammar.specs.Readers.{listed_from}
use Rattle.tall_grammar.specs.ScriptReader.{statements_from, arms_from, steps_from, steps_within, functions_from}
use Rattle.tall_grammar.specs.Refusals.{Verdict, read, bad_token, syntax_at, too_deep_at}
use Rattle.tall_grammar.specs.Verdicts.{verdict}

-- unfolded, it lets bytes be read by computing
unfoldable reading : ⊤
unfolding tokens_of_bytes utf8_valid_len is_utf8 chars encode tokens_from piece_at name_piece is_reserved number_piece number_len fraction_len exponent_len is_whole_number text_piece comment_piece joined_piece sign_piece args_from post_from signs_from signed chain_from level expr_within listed_from statements_from arms_from steps_from steps_within functions_from
reading = tt

-- the bytes are a script
abbrev is_read : Option Verdict → Bool
is_read (Some (read s)) = true
is_read a = false

-- ---- scripts

nothing : verdict 4 2 [] ≡ Some (read (record { statements = []; functions = [] }))
unfolding reading
nothing = refl

separators_alone : is_read (verdict 9 2 (codes "; ,\n% only a comment\n\n")) ≡ true
unfolding reading
separators_alone = refl

four_statements : is_read (verdict 60 5 (codes "ds = tabularTextDatastore('a.csv', 'TextscanFormats', {'%d16'});\nT = tall(ds);\ns = sum(T.x, 'native');\ns = gather(s)")) ≡ true
unfolding reading
four_statements = refl

targets_and_a_property : is_read (verdict 40 5 (codes "ds.ReadSize = 1;\n[n, s] = gather(height(T), sum(T.v))")) ≡ true
unfolding reading
targets_and_a_property = refl

every_kind_of_step : is_read (verdict 90 5 (codes "function f(a, ~, c)\nn = 0;\nif n > 1\nn = 1;\nelseif n\nelse, n = 2;\nend\nwhile hasnext(a)\nadd(c, 1, n);\nend\nfor k = 1:3\nn = n + k;\nend\nend\n")) ≡ true
unfolding reading
every_kind_of_step = refl

sixty_three_signs : is_read (verdict 80 2 (codes "x = " ++ (replicate 63 45 ++ codes "1"))) ≡ true
unfolding reading
sixty_three_signs = refl

sixty_four_parentheses : is_read (verdict 132 65 (codes "x = " ++ (replicate 64 40 ++ (codes "1" ++ replicate 64 41)))) ≡ true
unfolding reading
sixty_four_parentheses = refl

-- ---- one turn more than there are tokens, and a depth above the limit, are the least that always do

no_depth_for_the_last : verdict 132 64 (codes "x = " ++ (replicate 64 40 ++ (codes "1" ++ replicate 64 41))) ≡ None
unfolding reading
no_depth_for_the_last = refl

two_turns_for_a_token : is_read (verdict 2 65 (codes "1")) ≡ true
unfolding reading
two_turns_for_a_token = refl

one_turn_for_a_token : verdict 1 65 (codes "1") ≡ None
unfolding reading
one_turn_for_a_token = refl

-- ---- none: the line of the first token with which no script goes on, and at the end the last line

open_parenthesis : verdict 20 4 (codes "a = 1\nx = (1 + 2;") ≡ Some (syntax_at 2)
unfolding reading
open_parenthesis = refl

no_value : verdict 20 4 (codes "x =") ≡ Some (syntax_at 1)
unfolding reading
no_value = refl

no_operand : verdict 20 4 (codes "\nx = 1 +\n2") ≡ Some (syntax_at 2)
unfolding reading
no_operand = refl

trailing_comma : verdict 20 4 (codes "f(1,)") ≡ Some (syntax_at 1)
unfolding reading
trailing_comma = refl

list_of_a_number : verdict 20 4 (codes "x = {1}") ≡ Some (syntax_at 1)
unfolding reading
list_of_a_number = refl

targets_without_their_bracket : verdict 20 4 (codes "[a b = gather(x)") ≡ Some (syntax_at 1)
unfolding reading
targets_without_their_bracket = refl

targets_of_another_function : verdict 20 4 (codes "[a] = sum(x)") ≡ Some (syntax_at 1)
unfolding reading
targets_of_another_function = refl

two_expressions : verdict 20 4 (codes "1 2") ≡ Some (syntax_at 1)
unfolding reading
two_expressions = refl

point_without_a_name : verdict 20 4 (codes "x = 5.\n") ≡ Some (syntax_at 1)
unfolding reading
point_without_a_name = refl

condition_in_the_script : verdict 20 4 (codes "a = 1;\nif a\nend") ≡ Some (syntax_at 2)
unfolding reading
condition_in_the_script = refl

two_parameters : verdict 20 4 (codes "function f(a, b)\nend") ≡ Some (syntax_at 1)
unfolding reading
two_parameters = refl

function_without_its_end : verdict 30 4 (codes "function f(a, b, c)\nx") ≡ Some (syntax_at 2)
unfolding reading
function_without_its_end = refl

condition_at_the_end : verdict 30 4 (codes "function f(a, b, c)\nif") ≡ Some (syntax_at 2)
unfolding reading
condition_at_the_end = refl

elseif_after_else : verdict 40 4 (codes "function f(a, b, c)\nif a\nelse\nelseif b\nend\nend") ≡ Some (syntax_at 4)
unfolding reading
elseif_after_else = refl

two_functions_of_one_name : verdict 40 4 (codes "function f(~, ~, ~)\nend\nfunction f(~, ~, ~)\nend") ≡ Some (syntax_at 3)
unfolding reading
two_functions_of_one_name = refl

statement_after_a_function : verdict 40 4 (codes "function f(~, ~, ~)\nend\nx = 1") ≡ Some (syntax_at 3)
unfolding reading
statement_after_a_function = refl

-- ---- the order of refusals

bad_token_before_depth : verdict 80 4 (replicate 65 40 ++ codes " !") ≡ Some (bad_token 1 67)
unfolding reading
bad_token_before_depth = refl

depth_before_syntax : verdict 80 4 (codes ")\n" ++ replicate 65 40) ≡ Some (too_deep_at 2)
unfolding reading
depth_before_syntax = refl

height_alone : verdict 80 4 (codes "x = " ++ (replicate 64 45 ++ codes "1;\n")) ≡ Some (too_deep_at 1)
unfolding reading
height_alone = refl

syntax_before_height : verdict 80 4 (codes "x = " ++ (replicate 64 45 ++ codes "1;\n)")) ≡ Some (syntax_at 2)
unfolding reading
syntax_before_height = refl
