-- The tokens of scripts, and the first bad token of others, by computation.
use Rattle.std.specs.Prelude.{◌≡◌, ℕ, List, [], ◌∷◌, ◌++◌, Result, Ok, Err, map, codes, refl}
use Rattle.tall_lex.specs.declared.tokens.TokenKind.{TokenKind}
use Rattle.tall_lex.specs.declared.tokens.TokenKind.TheVariants.{Name, Number, Text, Word, Sign, LineEnd}
use Rattle.tall_lex.specs.declared.tokens.Token.{Token}
use Rattle.tall_lex.specs.Bytes.{is_reserved}
use Rattle.tall_lex.specs.Numbers.{is_whole_number}
use Rattle.tall_lex.specs.Pieces.{piece_at, name_piece, number_piece, number_len, fraction_len, exponent_len, text_piece, comment_piece, joined_piece, sign_piece}
use Rattle.tall_lex.specs.Tokens.{Lexed, tokens_of, tokens_from, token_text}

-- a token by its kind, its line and its text
abbrev shown : List ℕ → Token → TokenKind × ℕ × List ℕ
shown script t = (t.kind, t.line, token_text script t)

abbrev all_shown : List ℕ → Lexed → Result (List (TokenKind × ℕ × List ℕ)) (ℕ × ℕ)
all_shown script (Ok ts) = Ok (map (shown script) ts)
all_shown script (Err bad) = Err bad

abbrev lexed : List ℕ → Result (List (TokenKind × ℕ × List ℕ)) (ℕ × ℕ)
lexed script = all_shown script (tokens_of script)

abbrev lf : List ℕ
lf = 10 ∷ []

nothing : lexed [] ≡ Ok []
unfolding tokens_from piece_at name_piece is_reserved number_piece number_len fraction_len exponent_len is_whole_number text_piece comment_piece joined_piece sign_piece
nothing = refl

sum_and_product : lexed (codes "y = a + b .* c") ≡ Ok (
    (Name, 1, codes "y") ∷ (Sign, 1, codes "=") ∷ (Name, 1, codes "a") ∷ (Sign, 1, codes "+")
    ∷ (Name, 1, codes "b") ∷ (Sign, 1, codes ".*") ∷ (Name, 1, codes "c") ∷ [])
unfolding tokens_from piece_at name_piece is_reserved number_piece number_len fraction_len exponent_len is_whole_number text_piece comment_piece joined_piece sign_piece
sum_and_product = refl

datastore : lexed (codes "ds = tabularTextDatastore('a.csv', 'TextscanFormats', {'%d16'});" ++ lf ++ codes "T = tall(ds);" ++ lf) ≡ Ok (
    (Name, 1, codes "ds") ∷ (Sign, 1, codes "=") ∷ (Name, 1, codes "tabularTextDatastore") ∷ (Sign, 1, codes "(")
    ∷ (Text, 1, codes "'a.csv'") ∷ (Sign, 1, codes ",") ∷ (Text, 1, codes "'TextscanFormats'") ∷ (Sign, 1, codes ",")
    ∷ (Sign, 1, codes "{") ∷ (Text, 1, codes "'%d16'") ∷ (Sign, 1, codes "}") ∷ (Sign, 1, codes ")") ∷ (Sign, 1, codes ";")
    ∷ (LineEnd, 1, lf)
    ∷ (Name, 2, codes "T") ∷ (Sign, 2, codes "=") ∷ (Name, 2, codes "tall") ∷ (Sign, 2, codes "(") ∷ (Name, 2, codes "ds")
    ∷ (Sign, 2, codes ")") ∷ (Sign, 2, codes ";") ∷ (LineEnd, 2, lf) ∷ [])
unfolding tokens_from piece_at name_piece is_reserved number_piece number_len fraction_len exponent_len is_whole_number text_piece comment_piece joined_piece sign_piece
datastore = refl

native_sum : lexed (codes "[n, s] = gather(height(T), sum(T.v, 'native'))") ≡ Ok (
    (Sign, 1, codes "[") ∷ (Name, 1, codes "n") ∷ (Sign, 1, codes ",") ∷ (Name, 1, codes "s") ∷ (Sign, 1, codes "]")
    ∷ (Sign, 1, codes "=") ∷ (Name, 1, codes "gather") ∷ (Sign, 1, codes "(") ∷ (Name, 1, codes "height")
    ∷ (Sign, 1, codes "(") ∷ (Name, 1, codes "T") ∷ (Sign, 1, codes ")") ∷ (Sign, 1, codes ",") ∷ (Name, 1, codes "sum")
    ∷ (Sign, 1, codes "(") ∷ (Name, 1, codes "T") ∷ (Sign, 1, codes ".") ∷ (Name, 1, codes "v") ∷ (Sign, 1, codes ",")
    ∷ (Text, 1, codes "'native'") ∷ (Sign, 1, codes ")") ∷ (Sign, 1, codes ")") ∷ [])
unfolding tokens_from piece_at name_piece is_reserved number_piece number_len fraction_len exponent_len is_whole_number text_piece comment_piece joined_piece sign_piece
native_sum = refl

loop_of_a_function : lexed (codes "while hasnext(v) % turns" ++ 13 ∷ 10 ∷ codes "s = s + ..." ++ lf ++ 9 ∷ codes "getnext(v);" ++ lf ++ codes "end") ≡ Ok (
    (Word, 1, codes "while") ∷ (Name, 1, codes "hasnext") ∷ (Sign, 1, codes "(") ∷ (Name, 1, codes "v") ∷ (Sign, 1, codes ")")
    ∷ (LineEnd, 1, lf)
    ∷ (Name, 2, codes "s") ∷ (Sign, 2, codes "=") ∷ (Name, 2, codes "s") ∷ (Sign, 2, codes "+")
    ∷ (Name, 3, codes "getnext") ∷ (Sign, 3, codes "(") ∷ (Name, 3, codes "v") ∷ (Sign, 3, codes ")") ∷ (Sign, 3, codes ";")
    ∷ (LineEnd, 3, lf) ∷ (Word, 4, codes "end") ∷ [])
unfolding tokens_from piece_at name_piece is_reserved number_piece number_len fraction_len exponent_len is_whole_number text_piece comment_piece joined_piece sign_piece
loop_of_a_function = refl

point_before_an_operator : lexed (codes "5..*2") ≡ Ok ((Number, 1, codes "5") ∷ (Sign, 1, codes ".") ∷ (Sign, 1, codes ".*") ∷ (Number, 1, codes "2") ∷ [])
unfolding tokens_from piece_at name_piece is_reserved number_piece number_len fraction_len exponent_len is_whole_number text_piece comment_piece joined_piece sign_piece
point_before_an_operator = refl

number_before_a_joined_line : lexed (codes "5...*2" ++ lf ++ codes "+1") ≡ Ok ((Number, 1, codes "5") ∷ (Sign, 2, codes "+") ∷ (Number, 2, codes "1") ∷ [])
unfolding tokens_from piece_at name_piece is_reserved number_piece number_len fraction_len exponent_len is_whole_number text_piece comment_piece joined_piece sign_piece
number_before_a_joined_line = refl

four_dots : lexed (codes "a....b" ++ lf ++ codes "c") ≡ Ok ((Name, 1, codes "a") ∷ (Name, 2, codes "c") ∷ [])
unfolding tokens_from piece_at name_piece is_reserved number_piece number_len fraction_len exponent_len is_whole_number text_piece comment_piece joined_piece sign_piece
four_dots = refl

empty_text : lexed (codes "x = '';") ≡ Ok ((Name, 1, codes "x") ∷ (Sign, 1, codes "=") ∷ (Text, 1, codes "''") ∷ (Sign, 1, codes ";") ∷ [])
unfolding tokens_from piece_at name_piece is_reserved number_piece number_len fraction_len exponent_len is_whole_number text_piece comment_piece joined_piece sign_piece
empty_text = refl

quote_at_the_end_of_a_text : lexed (codes "x = 'its''';") ≡ Ok ((Name, 1, codes "x") ∷ (Sign, 1, codes "=") ∷ (Text, 1, codes "'its'''") ∷ (Sign, 1, codes ";") ∷ [])
unfolding tokens_from piece_at name_piece is_reserved number_piece number_len fraction_len exponent_len is_whole_number text_piece comment_piece joined_piece sign_piece
quote_at_the_end_of_a_text = refl

quote_behind_a_word : lexed (codes "end'x'") ≡ Ok ((Word, 1, codes "end") ∷ (Text, 1, codes "'x'") ∷ [])
unfolding tokens_from piece_at name_piece is_reserved number_piece number_len fraction_len exponent_len is_whole_number text_piece comment_piece joined_piece sign_piece
quote_behind_a_word = refl

quote_behind_a_blank : lexed (codes "x 'y'") ≡ Ok ((Name, 1, codes "x") ∷ (Text, 1, codes "'y'") ∷ [])
unfolding tokens_from piece_at name_piece is_reserved number_piece number_len fraction_len exponent_len is_whole_number text_piece comment_piece joined_piece sign_piece
quote_behind_a_blank = refl

table : lexed (codes "G = gather(groupsummary(T, 'g', 'sum', 'v'))") ≡ Ok (
    (Name, 1, codes "G") ∷ (Sign, 1, codes "=") ∷ (Name, 1, codes "gather") ∷ (Sign, 1, codes "(")
    ∷ (Name, 1, codes "groupsummary") ∷ (Sign, 1, codes "(") ∷ (Name, 1, codes "T") ∷ (Sign, 1, codes ",")
    ∷ (Text, 1, codes "'g'") ∷ (Sign, 1, codes ",") ∷ (Text, 1, codes "'sum'") ∷ (Sign, 1, codes ",")
    ∷ (Text, 1, codes "'v'") ∷ (Sign, 1, codes ")") ∷ (Sign, 1, codes ")") ∷ [])
unfolding tokens_from piece_at name_piece is_reserved number_piece number_len fraction_len exponent_len is_whole_number text_piece comment_piece joined_piece sign_piece
table = refl

function_head : lexed (codes "function reduce(k, ~, out)") ≡ Ok (
    (Word, 1, codes "function") ∷ (Name, 1, codes "reduce") ∷ (Sign, 1, codes "(") ∷ (Name, 1, codes "k") ∷ (Sign, 1, codes ",")
    ∷ (Sign, 1, codes "~") ∷ (Sign, 1, codes ",") ∷ (Name, 1, codes "out") ∷ (Sign, 1, codes ")") ∷ [])
unfolding tokens_from piece_at name_piece is_reserved number_piece number_len fraction_len exponent_len is_whole_number text_piece comment_piece joined_piece sign_piece
function_head = refl

-- ---- the first bad token

quote_behind_a_name : lexed (codes "x = y';") ≡ Err (1, 6)
unfolding tokens_from piece_at name_piece is_reserved number_piece number_len fraction_len exponent_len is_whole_number text_piece comment_piece joined_piece sign_piece
quote_behind_a_name = refl

quote_behind_a_number : lexed (codes "x = 5'") ≡ Err (1, 6)
unfolding tokens_from piece_at name_piece is_reserved number_piece number_len fraction_len exponent_len is_whole_number text_piece comment_piece joined_piece sign_piece
quote_behind_a_number = refl

quote_behind_a_text : lexed (34 ∷ 97 ∷ 34 ∷ codes "'b'") ≡ Err (1, 4)
unfolding tokens_from piece_at name_piece is_reserved number_piece number_len fraction_len exponent_len is_whole_number text_piece comment_piece joined_piece sign_piece
quote_behind_a_text = refl

quote_behind_brackets : lexed (codes "(x)'") ≡ Err (1, 4)
unfolding tokens_from piece_at name_piece is_reserved number_piece number_len fraction_len exponent_len is_whole_number text_piece comment_piece joined_piece sign_piece
quote_behind_brackets = refl

quote_behind_square_brackets : lexed (codes "[]'") ≡ Err (1, 3)
unfolding tokens_from piece_at name_piece is_reserved number_piece number_len fraction_len exponent_len is_whole_number text_piece comment_piece joined_piece sign_piece
quote_behind_square_brackets = refl

quote_behind_braces : lexed (codes "{}'") ≡ Err (1, 3)
unfolding tokens_from piece_at name_piece is_reserved number_piece number_len fraction_len exponent_len is_whole_number text_piece comment_piece joined_piece sign_piece
quote_behind_braces = refl

first_of_two : lexed (codes "x = 1;" ++ lf ++ codes "  y = !a && b;") ≡ Err (2, 7)
unfolding tokens_from piece_at name_piece is_reserved number_piece number_len fraction_len exponent_len is_whole_number text_piece comment_piece joined_piece sign_piece
first_of_two = refl

block_comment_on_a_joined_line : lexed (codes "x = ..." ++ lf ++ codes " %{" ++ lf) ≡ Err (2, 2)
unfolding tokens_from piece_at name_piece is_reserved number_piece number_len fraction_len exponent_len is_whole_number text_piece comment_piece joined_piece sign_piece
block_comment_on_a_joined_line = refl

block_comment_behind_a_statement : lexed (codes "x; %{" ++ lf) ≡ Ok ((Name, 1, codes "x") ∷ (Sign, 1, codes ";") ∷ (LineEnd, 1, lf) ∷ [])
unfolding tokens_from piece_at name_piece is_reserved number_piece number_len fraction_len exponent_len is_whole_number text_piece comment_piece joined_piece sign_piece
block_comment_behind_a_statement = refl

return_inside_a_line : lexed (codes "x" ++ 13 ∷ codes "y") ≡ Err (1, 2)
unfolding tokens_from piece_at name_piece is_reserved number_piece number_len fraction_len exponent_len is_whole_number text_piece comment_piece joined_piece sign_piece
return_inside_a_line = refl

return_in_a_text_of_the_second_line : lexed (10 ∷ codes "x = 'a" ++ 13 ∷ codes "b'") ≡ Err (2, 7)
unfolding tokens_from piece_at name_piece is_reserved number_piece number_len fraction_len exponent_len is_whole_number text_piece comment_piece joined_piece sign_piece
return_in_a_text_of_the_second_line = refl

letter_behind_a_number : lexed (codes "x = 12ab") ≡ Err (1, 7)
unfolding tokens_from piece_at name_piece is_reserved number_piece number_len fraction_len exponent_len is_whole_number text_piece comment_piece joined_piece sign_piece
letter_behind_a_number = refl

doubled_and : lexed (codes "a && b") ≡ Err (1, 3)
unfolding tokens_from piece_at name_piece is_reserved number_piece number_len fraction_len exponent_len is_whole_number text_piece comment_piece joined_piece sign_piece
doubled_and = refl
