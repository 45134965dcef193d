-- What begins at a byte, by computation.
use Rattle.std.specs.Prelude.{◌≡◌, true, false, List, ℕ, [], ◌∷◌, ◌++◌, codes, refl}
use Rattle.tall_lex.specs.declared.tokens.TokenKind.TheVariants.{Name, Number, Text, Word, Sign, LineEnd}
use Rattle.tall_lex.specs.declared.pieces.Piece.{Piece}
use Rattle.tall_lex.specs.declared.pieces.Piece.TheVariants.{Token, Gap, Bad}
use Rattle.tall_lex.specs.Bytes.{is_reserved}
use Rattle.tall_lex.specs.Numbers.{is_whole_number}
use Rattle.tall_lex.specs.Pieces.{piece_at, name_piece, number_piece, number_len, fraction_len, exponent_len, text_piece, comment_piece, joined_piece, sign_piece}

-- where nothing but blanks stands before in the line, and where a value ends directly before
abbrev alone : List ℕ → Piece
alone text = piece_at true false text

abbrev inside : List ℕ → Piece
inside text = piece_at false false text

abbrev behind_value : List ℕ → Piece
behind_value text = piece_at false true text

-- ---- names and words

name : alone (codes "x_1 = 2") ≡ Token Name 3
unfolding piece_at name_piece is_reserved number_piece number_len fraction_len exponent_len is_whole_number text_piece comment_piece joined_piece sign_piece
name = refl

name_of_63 : alone (codes "abcdefghijklmnopqrstuvwxyzabcdefghijklmnopqrstuvwxyz01234567890") ≡ Token Name 63
unfolding piece_at name_piece is_reserved number_piece number_len fraction_len exponent_len is_whole_number text_piece comment_piece joined_piece sign_piece
name_of_63 = refl

name_of_64 : alone (codes "abcdefghijklmnopqrstuvwxyzabcdefghijklmnopqrstuvwxyz012345678901") ≡ Bad 0
unfolding piece_at name_piece is_reserved number_piece number_len fraction_len exponent_len is_whole_number text_piece comment_piece joined_piece sign_piece
name_of_64 = refl

word : alone (codes "function a") ≡ Token Word 8
unfolding piece_at name_piece is_reserved number_piece number_len fraction_len exponent_len is_whole_number text_piece comment_piece joined_piece sign_piece
word = refl

longer_than_a_word : alone (codes "ends") ≡ Token Name 4
unfolding piece_at name_piece is_reserved number_piece number_len fraction_len exponent_len is_whole_number text_piece comment_piece joined_piece sign_piece
longer_than_a_word = refl

word_without_a_rule : alone (codes "classdef") ≡ Token Word 8
unfolding piece_at name_piece is_reserved number_piece number_len fraction_len exponent_len is_whole_number text_piece comment_piece joined_piece sign_piece
word_without_a_rule = refl

words_have_their_case : alone (codes "End") ≡ Token Name 3
unfolding piece_at name_piece is_reserved number_piece number_len fraction_len exponent_len is_whole_number text_piece comment_piece joined_piece sign_piece
words_have_their_case = refl

-- ---- numbers

number : alone (codes "12+") ≡ Token Number 2
unfolding piece_at name_piece is_reserved number_piece number_len fraction_len exponent_len is_whole_number text_piece comment_piece joined_piece sign_piece
number = refl

fraction : alone (codes "5.0;") ≡ Token Number 3
unfolding piece_at name_piece is_reserved number_piece number_len fraction_len exponent_len is_whole_number text_piece comment_piece joined_piece sign_piece
fraction = refl

whole_by_its_exponent : alone (codes "1.5e1") ≡ Token Number 5
unfolding piece_at name_piece is_reserved number_piece number_len fraction_len exponent_len is_whole_number text_piece comment_piece joined_piece sign_piece
whole_by_its_exponent = refl

whole_by_a_negative_exponent : alone (codes "120E-1 ") ≡ Token Number 6
unfolding piece_at name_piece is_reserved number_piece number_len fraction_len exponent_len is_whole_number text_piece comment_piece joined_piece sign_piece
whole_by_a_negative_exponent = refl

greatest : alone (codes "9007199254740992") ≡ Token Number 16
unfolding piece_at name_piece is_reserved number_piece number_len fraction_len exponent_len is_whole_number text_piece comment_piece joined_piece sign_piece
greatest = refl

above_the_greatest : alone (codes "9007199254740993") ≡ Bad 0
unfolding piece_at name_piece is_reserved number_piece number_len fraction_len exponent_len is_whole_number text_piece comment_piece joined_piece sign_piece
above_the_greatest = refl

not_whole : alone (codes "1.5") ≡ Bad 0
unfolding piece_at name_piece is_reserved number_piece number_len fraction_len exponent_len is_whole_number text_piece comment_piece joined_piece sign_piece
not_whole = refl

not_whole_before_a_letter : alone (codes "1.5x") ≡ Bad 0
unfolding piece_at name_piece is_reserved number_piece number_len fraction_len exponent_len is_whole_number text_piece comment_piece joined_piece sign_piece
not_whole_before_a_letter = refl

letter_behind_a_number : alone (codes "12ab") ≡ Bad 2
unfolding piece_at name_piece is_reserved number_piece number_len fraction_len exponent_len is_whole_number text_piece comment_piece joined_piece sign_piece
letter_behind_a_number = refl

exponent_without_digits : alone (codes "1e+") ≡ Bad 1
unfolding piece_at name_piece is_reserved number_piece number_len fraction_len exponent_len is_whole_number text_piece comment_piece joined_piece sign_piece
exponent_without_digits = refl

letter_behind_an_exponent : alone (codes "1e5e5") ≡ Bad 3
unfolding piece_at name_piece is_reserved number_piece number_len fraction_len exponent_len is_whole_number text_piece comment_piece joined_piece sign_piece
letter_behind_an_exponent = refl

point_of_an_operator : alone (codes "5.*2") ≡ Token Number 1
unfolding piece_at name_piece is_reserved number_piece number_len fraction_len exponent_len is_whole_number text_piece comment_piece joined_piece sign_piece
point_of_an_operator = refl

two_points_and_an_operator : alone (codes "5..*2") ≡ Token Number 1
unfolding piece_at name_piece is_reserved number_piece number_len fraction_len exponent_len is_whole_number text_piece comment_piece joined_piece sign_piece
two_points_and_an_operator = refl

point_and_a_letter : alone (codes "5.x") ≡ Token Number 1
unfolding piece_at name_piece is_reserved number_piece number_len fraction_len exponent_len is_whole_number text_piece comment_piece joined_piece sign_piece
point_and_a_letter = refl

point_first : alone (codes ".5") ≡ Token Sign 1
unfolding piece_at name_piece is_reserved number_piece number_len fraction_len exponent_len is_whole_number text_piece comment_piece joined_piece sign_piece
point_first = refl

-- ---- texts

text : alone (codes "'a b' ") ≡ Token Text 5
unfolding piece_at name_piece is_reserved number_piece number_len fraction_len exponent_len is_whole_number text_piece comment_piece joined_piece sign_piece
text = refl

long_text : alone (codes "'abcdefghijklmnopqrstuvwxyzabcdefghijklmnopqrstuvwxyzabcdefghijklmnopqrstuvwxyz'") ≡ Token Text 80
unfolding piece_at name_piece is_reserved number_piece number_len fraction_len exponent_len is_whole_number text_piece comment_piece joined_piece sign_piece
long_text = refl

empty_text : alone (codes "''") ≡ Token Text 2
unfolding piece_at name_piece is_reserved number_piece number_len fraction_len exponent_len is_whole_number text_piece comment_piece joined_piece sign_piece
empty_text = refl

quote_written_twice : alone (codes "'it''s' x") ≡ Token Text 7
unfolding piece_at name_piece is_reserved number_piece number_len fraction_len exponent_len is_whole_number text_piece comment_piece joined_piece sign_piece
quote_written_twice = refl

only_a_quote : alone (codes "''''") ≡ Token Text 4
unfolding piece_at name_piece is_reserved number_piece number_len fraction_len exponent_len is_whole_number text_piece comment_piece joined_piece sign_piece
only_a_quote = refl

other_quote : alone (34 ∷ (codes "it's" ++ 34 ∷ codes "'")) ≡ Token Text 6
unfolding piece_at name_piece is_reserved number_piece number_len fraction_len exponent_len is_whole_number text_piece comment_piece joined_piece sign_piece
other_quote = refl

comment_sign_in_a_text : alone (codes "'10% ...'") ≡ Token Text 9
unfolding piece_at name_piece is_reserved number_piece number_len fraction_len exponent_len is_whole_number text_piece comment_piece joined_piece sign_piece
comment_sign_in_a_text = refl

no_closing_quote : alone (codes "'abc") ≡ Bad 0
unfolding piece_at name_piece is_reserved number_piece number_len fraction_len exponent_len is_whole_number text_piece comment_piece joined_piece sign_piece
no_closing_quote = refl

closing_quote_on_another_line : alone (codes "'abc" ++ 10 ∷ codes "'") ≡ Bad 0
unfolding piece_at name_piece is_reserved number_piece number_len fraction_len exponent_len is_whole_number text_piece comment_piece joined_piece sign_piece
closing_quote_on_another_line = refl

last_quote_written_twice : alone (codes "'abc''") ≡ Bad 0
unfolding piece_at name_piece is_reserved number_piece number_len fraction_len exponent_len is_whole_number text_piece comment_piece joined_piece sign_piece
last_quote_written_twice = refl

return_in_a_text : alone (codes "'ab" ++ 13 ∷ codes "c'") ≡ Bad 3
unfolding piece_at name_piece is_reserved number_piece number_len fraction_len exponent_len is_whole_number text_piece comment_piece joined_piece sign_piece
return_in_a_text = refl

return_in_an_open_text : alone (codes "'ab" ++ 13 ∷ codes "c") ≡ Bad 0
unfolding piece_at name_piece is_reserved number_piece number_len fraction_len exponent_len is_whole_number text_piece comment_piece joined_piece sign_piece
return_in_an_open_text = refl

quote_behind_a_value : behind_value (codes "'a'") ≡ Bad 0
unfolding piece_at name_piece is_reserved number_piece number_len fraction_len exponent_len is_whole_number text_piece comment_piece joined_piece sign_piece
quote_behind_a_value = refl

double_quote_behind_a_value : behind_value (34 ∷ 97 ∷ 34 ∷ []) ≡ Token Text 3
unfolding piece_at name_piece is_reserved number_piece number_len fraction_len exponent_len is_whole_number text_piece comment_piece joined_piece sign_piece
double_quote_behind_a_value = refl

-- ---- blanks, comments and joined lines

space : inside (codes " x") ≡ Gap 1
unfolding piece_at name_piece is_reserved number_piece number_len fraction_len exponent_len is_whole_number text_piece comment_piece joined_piece sign_piece
space = refl

tab : inside (9 ∷ 9 ∷ []) ≡ Gap 1
unfolding piece_at name_piece is_reserved number_piece number_len fraction_len exponent_len is_whole_number text_piece comment_piece joined_piece sign_piece
tab = refl

return_before_a_line_feed : inside (13 ∷ 10 ∷ []) ≡ Gap 1
unfolding piece_at name_piece is_reserved number_piece number_len fraction_len exponent_len is_whole_number text_piece comment_piece joined_piece sign_piece
return_before_a_line_feed = refl

other_return : inside (13 ∷ 32 ∷ 10 ∷ []) ≡ Bad 0
unfolding piece_at name_piece is_reserved number_piece number_len fraction_len exponent_len is_whole_number text_piece comment_piece joined_piece sign_piece
other_return = refl

return_at_the_end : inside (13 ∷ []) ≡ Bad 0
unfolding piece_at name_piece is_reserved number_piece number_len fraction_len exponent_len is_whole_number text_piece comment_piece joined_piece sign_piece
return_at_the_end = refl

line_end : inside (10 ∷ 32 ∷ []) ≡ Token LineEnd 1
unfolding piece_at name_piece is_reserved number_piece number_len fraction_len exponent_len is_whole_number text_piece comment_piece joined_piece sign_piece
line_end = refl

comment : inside (codes "% it's 1.5" ++ 10 ∷ codes "x") ≡ Gap 10
unfolding piece_at name_piece is_reserved number_piece number_len fraction_len exponent_len is_whole_number text_piece comment_piece joined_piece sign_piece
comment = refl

comment_with_a_return_at_its_end : inside (codes "%a" ++ 13 ∷ 10 ∷ []) ≡ Gap 3
unfolding piece_at name_piece is_reserved number_piece number_len fraction_len exponent_len is_whole_number text_piece comment_piece joined_piece sign_piece
comment_with_a_return_at_its_end = refl

return_in_a_comment : inside (codes "%a" ++ 13 ∷ codes "b") ≡ Bad 2
unfolding piece_at name_piece is_reserved number_piece number_len fraction_len exponent_len is_whole_number text_piece comment_piece joined_piece sign_piece
return_in_a_comment = refl

comment_up_to_a_last_return : inside (codes "%a" ++ 13 ∷ []) ≡ Bad 2
unfolding piece_at name_piece is_reserved number_piece number_len fraction_len exponent_len is_whole_number text_piece comment_piece joined_piece sign_piece
comment_up_to_a_last_return = refl

block_comment : alone (codes "%{" ++ 10 ∷ codes "x") ≡ Bad 0
unfolding piece_at name_piece is_reserved number_piece number_len fraction_len exponent_len is_whole_number text_piece comment_piece joined_piece sign_piece
block_comment = refl

block_comment_and_blanks : alone (codes "%{ " ++ 9 ∷ 13 ∷ 10 ∷ []) ≡ Bad 0
unfolding piece_at name_piece is_reserved number_piece number_len fraction_len exponent_len is_whole_number text_piece comment_piece joined_piece sign_piece
block_comment_and_blanks = refl

block_comment_at_the_end : alone (codes "%{") ≡ Bad 0
unfolding piece_at name_piece is_reserved number_piece number_len fraction_len exponent_len is_whole_number text_piece comment_piece joined_piece sign_piece
block_comment_at_the_end = refl

block_comment_behind_a_statement : inside (codes "%{" ++ 10 ∷ []) ≡ Gap 2
unfolding piece_at name_piece is_reserved number_piece number_len fraction_len exponent_len is_whole_number text_piece comment_piece joined_piece sign_piece
block_comment_behind_a_statement = refl

brace_in_a_comment : alone (codes "%{ x" ++ 10 ∷ []) ≡ Gap 4
unfolding piece_at name_piece is_reserved number_piece number_len fraction_len exponent_len is_whole_number text_piece comment_piece joined_piece sign_piece
brace_in_a_comment = refl

joined_line : inside (codes "... rest" ++ 10 ∷ codes "x") ≡ Gap 9
unfolding piece_at name_piece is_reserved number_piece number_len fraction_len exponent_len is_whole_number text_piece comment_piece joined_piece sign_piece
joined_line = refl

joined_line_at_the_end : inside (codes "...") ≡ Gap 3
unfolding piece_at name_piece is_reserved number_piece number_len fraction_len exponent_len is_whole_number text_piece comment_piece joined_piece sign_piece
joined_line_at_the_end = refl

four_points : inside (codes "....") ≡ Gap 4
unfolding piece_at name_piece is_reserved number_piece number_len fraction_len exponent_len is_whole_number text_piece comment_piece joined_piece sign_piece
four_points = refl

points_before_an_operator : inside (codes "...*2" ++ 10 ∷ []) ≡ Gap 6
unfolding piece_at name_piece is_reserved number_piece number_len fraction_len exponent_len is_whole_number text_piece comment_piece joined_piece sign_piece
points_before_an_operator = refl

return_behind_points : inside (codes "... a" ++ 13 ∷ codes "b") ≡ Bad 5
unfolding piece_at name_piece is_reserved number_piece number_len fraction_len exponent_len is_whole_number text_piece comment_piece joined_piece sign_piece
return_behind_points = refl

-- ---- signs

longest_sign : inside (codes "<=") ≡ Token Sign 2
unfolding piece_at name_piece is_reserved number_piece number_len fraction_len exponent_len is_whole_number text_piece comment_piece joined_piece sign_piece
longest_sign = refl

three_equal_signs : inside (codes "===") ≡ Token Sign 2
unfolding piece_at name_piece is_reserved number_piece number_len fraction_len exponent_len is_whole_number text_piece comment_piece joined_piece sign_piece
three_equal_signs = refl

not_equal : inside (codes "~=1") ≡ Token Sign 2
unfolding piece_at name_piece is_reserved number_piece number_len fraction_len exponent_len is_whole_number text_piece comment_piece joined_piece sign_piece
not_equal = refl

point_and_star : inside (codes ".*") ≡ Token Sign 2
unfolding piece_at name_piece is_reserved number_piece number_len fraction_len exponent_len is_whole_number text_piece comment_piece joined_piece sign_piece
point_and_star = refl

two_points_and_a_star : inside (codes "..*") ≡ Token Sign 1
unfolding piece_at name_piece is_reserved number_piece number_len fraction_len exponent_len is_whole_number text_piece comment_piece joined_piece sign_piece
two_points_and_a_star = refl

handle : inside (codes "@f") ≡ Token Sign 1
unfolding piece_at name_piece is_reserved number_piece number_len fraction_len exponent_len is_whole_number text_piece comment_piece joined_piece sign_piece
handle = refl

two_ands : inside (codes "&&") ≡ Bad 0
unfolding piece_at name_piece is_reserved number_piece number_len fraction_len exponent_len is_whole_number text_piece comment_piece joined_piece sign_piece
two_ands = refl

two_ors : inside (codes "||") ≡ Bad 0
unfolding piece_at name_piece is_reserved number_piece number_len fraction_len exponent_len is_whole_number text_piece comment_piece joined_piece sign_piece
two_ors = refl

one_and : inside (codes "& &") ≡ Token Sign 1
unfolding piece_at name_piece is_reserved number_piece number_len fraction_len exponent_len is_whole_number text_piece comment_piece joined_piece sign_piece
one_and = refl

no_token : inside (codes "!x") ≡ Bad 0
unfolding piece_at name_piece is_reserved number_piece number_len fraction_len exponent_len is_whole_number text_piece comment_piece joined_piece sign_piece
no_token = refl

underscore_first : inside (codes "_x") ≡ Bad 0
unfolding piece_at name_piece is_reserved number_piece number_len fraction_len exponent_len is_whole_number text_piece comment_piece joined_piece sign_piece
underscore_first = refl

mark_at_the_front : alone (0xEF ∷ 0xBB ∷ 0xBF ∷ []) ≡ Bad 0
unfolding piece_at name_piece is_reserved number_piece number_len fraction_len exponent_len is_whole_number text_piece comment_piece joined_piece sign_piece
mark_at_the_front = refl
