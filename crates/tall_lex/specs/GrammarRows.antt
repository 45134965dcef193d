-- Rows of bytes by the grammar of tokens, as derivations.
use Rattle.std.specs.Prelude.{◌≡◌, ℕ, pos, true, false, List, [], ◌∷◌, ◌++◌, codes, refl}
use native.Mathlib.Omega.{arith}
use Rattle.tall_num.specs.Grammar.{none, some, absent, plus}
use Rattle.tall_lex.specs.declared.tokens.TokenKind.TheVariants.{Name, Number, Text, Word, Sign as sign}
use Rattle.tall_lex.specs.Bytes.{is_reserved}
use Rattle.tall_lex.specs.Numbers.{is_whole_number}
use Rattle.tall_lex.specs.TokenGrammar.{letter_first, no_fraction, point, NumberBytes, number_bytes, Inside, nothing, byte, quote_twice, quoted, IsSign, IsToken, a_name, a_number, a_text, a_word, a_sign}
use Rattle.tall_lex.specs.GapGrammar.{end_of_script, line_feed, return_and_line_feed, rest_of_line, blank_line, block_opener, PassedOver, blank, joined_line, dots_in_the_last_line}
use Rattle.tall_lex.specs.BadTokens.{BadToken, script_ends, line_ends, return_behind_dots, opener, quote_behind_value, two_ands, open_text, no_token}

-- a byte inside a text of ''', which is neither that quote nor a line feed
abbrev and_byte : (b : ℕ) (rest : List ℕ) → (b ≡ 39 → ⊥) → (b ≡ 10 → ⊥) → Inside 39 rest → Inside 39 (b ∷ rest)
and_byte b rest other inline inside = byte 39 b rest other inline inside

-- ---- tokens

name : IsToken Name (codes "x_1")
unfolding is_reserved
name = a_name (codes "x_1") (letter_first 120 (codes "_1") refl refl) (omega arith) refl

whole : NumberBytes (codes "12")
whole = number_bytes (codes "12") [] [] (pos 0) refl no_fraction none

fraction_and_exponent : NumberBytes (codes "1.50e+2")
fraction_and_exponent = number_bytes (codes "1") (codes ".50") (codes "e+2") (pos 2) refl (point (codes "50") refl) (some 101 (codes "+") false (codes "2") refl plus refl)

number : IsToken Number (codes "1.50e2")
unfolding is_whole_number
number = a_number (codes "1.50e2") (number_bytes (codes "1") (codes ".50") (codes "e2") (pos 2) refl (point (codes "50") refl) (some 101 [] false (codes "2") refl absent refl)) refl

empty_text : IsToken Text (codes "''")
empty_text = a_text (codes "''") (quoted 39 [] refl (nothing 39)) refl

quote_alone : IsToken Text (codes "''''")
quote_alone = a_text (codes "''''") (quoted 39 (codes "''") refl (quote_twice 39 [] (nothing 39))) refl

quote_at_the_end : IsToken Text (codes "'a'''")
quote_at_the_end = a_text (codes "'a'''") (quoted 39 (codes "a''") refl (and_byte 97 (codes "''") (λ e. absurd (omega (arith, e))) (λ e. absurd (omega (arith, e))) (quote_twice 39 [] (nothing 39)))) refl

longest_sign : IsToken sign (codes ".*")
longest_sign = a_sign (codes ".*") refl

word : IsToken Word (codes "while")
unfolding is_reserved
word = a_word (codes "while") refl

two_ands_are_no_sign : IsSign (codes "&&") ≡ (false ≡ true)
two_ands_are_no_sign = refl

-- ---- what is passed over

tab : PassedOver false (9 ∷ []) (codes "x")
tab = blank false 9 (codes "x") refl

joined : PassedOver false (codes "... rest" ++ 10 ∷ []) (codes "x")
joined = joined_line false (codes " rest") (codes "x") (rest_of_line (codes " rest") [] (10 ∷ codes "x") refl (line_feed (codes "x")))

joined_with_a_return : PassedOver false (codes "..." ++ 13 ∷ 10 ∷ []) []
joined_with_a_return = joined_line false (13 ∷ []) [] (rest_of_line [] (13 ∷ []) (10 ∷ []) refl (return_and_line_feed []))

four_dots : PassedOver false (codes "....") []
four_dots = dots_in_the_last_line false (codes ".") (rest_of_line (codes ".") [] [] refl end_of_script)

-- ---- bad tokens

open_text_of_two_lines : BadToken true false [] (codes "'a" ++ 10 ∷ codes "'")
open_text_of_two_lines = open_text true false 39 (codes "a") (10 ∷ codes "'") refl (and_byte 97 [] (λ e. absurd (omega (arith, e))) (λ e. absurd (omega (arith, e))) (nothing 39)) (line_ends (codes "'"))

last_quote_written_twice : BadToken true false [] (codes "'''")
last_quote_written_twice = open_text true false 39 (codes "''") [] refl (quote_twice 39 [] (nothing 39)) script_ends

block_comment : BadToken true false [] (codes "%{ " ++ 13 ∷ 10 ∷ codes "x")
block_comment =
    opener true false (codes "%{ " ++ 13 ∷ 10 ∷ codes "x")
    (block_opener (codes " " ++ 13 ∷ []) (10 ∷ codes "x") (blank_line (codes " ") (13 ∷ []) (10 ∷ codes "x") refl (return_and_line_feed (codes "x"))))

quote_behind_a_value : BadToken false true [] (codes "';")
quote_behind_a_value = quote_behind_value false (codes ";")

doubled_and : BadToken false false [] (codes "&& b")
doubled_and = two_ands false false (codes " b")

no_token_begins : BadToken false false [] (codes "!a")
no_token_begins = no_token false false 33 (codes "a") refl refl

return_behind_three_dots : BadToken false false (codes "... a") (13 ∷ codes "b")
return_behind_three_dots = return_behind_dots false false (codes " a") (codes "b") refl (λ e. absurd (omega (arith, e)))
