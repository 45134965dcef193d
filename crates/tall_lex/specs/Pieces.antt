-- What begins at a byte of a script, by the bytes from there on.
use Rattle.std.specs.Prelude.{ℕ, ◌+◌, ◌==◌, ◌&&◌, ◌||◌, not, Bool, true, false, if◌then◌else◌, nat_lt}
use Rattle.std.specs.Prelude.{List, [], ◌∷◌, length, take, drop, Option, Some, None, Result, Ok, Err}
use Rattle.std.specs.List.{prefix_len}
use Rattle.std.specs.Char.{is_ascii_alphabetic, is_ascii_digit}
use Rattle.tall_lex.specs.declared.tokens.TokenKind.{TokenKind}
use Rattle.tall_lex.specs.declared.tokens.TokenKind.TheVariants.{Name, Number, Text, Word, Sign, LineEnd}
use Rattle.tall_lex.specs.declared.pieces.Piece.{Piece}
use Rattle.tall_lex.specs.declared.pieces.Piece.TheVariants.{Token, Gap, Bad}
use Rattle.tall_lex.specs.Bytes.{first, second, is_name_byte, starts_blank, starts_stray, is_quote, is_reserved, is_sign, is_sign_pair, is_doubled}
use Rattle.tall_lex.specs.Numbers.{is_whole_number}

-- ---- names and words

-- a letter, and the letters, digits and '_' behind it, at most 63 bytes; a reserved word is no name
unfoldable pub name_piece : List ℕ → Piece
name_piece text =
    let n = prefix_len is_name_byte text in
    if nat_lt 63 n then Bad 0 else Token (if is_reserved (take n text) then Word else Name) n

-- ---- numbers

-- the length of the digits that stand first
abbrev pub digits_len : List ℕ → ℕ
digits_len text = prefix_len is_ascii_digit text

-- the length of a point and digits that stand first, or 0
unfoldable pub fraction_len : List ℕ → ℕ
fraction_len text = if (first text == 46) && is_ascii_digit (second text) then 1 + digits_len (drop 1 text) else 0

-- the length of an e or E that stands first, with a sign behind it if there is one
abbrev pub exponent_mark_len : List ℕ → ℕ
exponent_mark_len text =
    if (first text == 101) || (first text == 69) then (if (second text == 43) || (second text == 45) then 2 else 1) else 0

-- the length of an exponent that stands first, or 0
unfoldable pub exponent_len : List ℕ → ℕ
exponent_len text =
    let mark = exponent_mark_len text in
    let digits = digits_len (drop mark text) in
    if (mark == 0) || (digits == 0) then 0 else mark + digits

-- the length of the number that stands first: digits, and a fraction and an exponent if there are such
unfoldable pub number_len : List ℕ → ℕ
number_len text =
    let whole = digits_len text in
    let mantissa = whole + fraction_len (drop whole text) in
    mantissa + exponent_len (drop mantissa text)

-- a number that isn't whole or is above 2^53 is refused at its first byte, and a letter directly behind a number there
unfoldable pub number_piece : List ℕ → Piece
number_piece text =
    let n = number_len text in
    if not (is_whole_number (take n text)) then Bad 0
    else if is_ascii_alphabetic (first (drop n text)) then Bad n
    else Token Number n

-- ---- texts

-- Where n bytes of a text that is open stand before these, the length of the text with its closing quote, if that
-- stands on the line. After a quote inside the text, `pending` holds: it closes the text, unless another follows.
abbrev pub text_len : ℕ → ℕ → Bool → List ℕ → Option ℕ
text_len quote n pending [] = if pending then Some n else None
text_len quote n pending (b ∷ rest) =
    if pending && not (b == quote) then Some n
    else if (b == 10) && not pending then None
    else text_len quote (n + 1) ((b == quote) && not pending) rest

-- how many bytes stand before the first carriage return, or all
abbrev pub before_return : List ℕ → ℕ
before_return text = prefix_len (λ b. not (b == 13)) text

-- a text of this length, which has no carriage return in it; without a closing quote it is refused at its first
abbrev pub closed_text : List ℕ → Option ℕ → Piece
closed_text text None = Bad 0
closed_text text (Some n) =
    let clean = before_return (take n text) in if nat_lt clean n then Bad clean else Token Text n

-- `closes` holds directly behind a token after which a ''' begins no text
unfoldable pub text_piece : Bool → List ℕ → Piece
text_piece closes text =
    if closes && (first text == 39) then Bad 0
    else closed_text text (text_len (first text) 1 false (drop 1 text))

-- ---- comments and joined lines

-- Where n bytes stand before these: how many stand before the line's end, or before a stray carriage return
abbrev pub line_rest : ℕ → List ℕ → Result ℕ ℕ
line_rest n [] = Ok n
line_rest n (b ∷ rest) =
    if b == 10 then Ok n
    else if starts_stray (b ∷ rest) then Err n
    else line_rest (n + 1) rest

-- only blanks stand before the line's end
abbrev pub is_blank_line : List ℕ → Bool
is_blank_line [] = true
is_blank_line (b ∷ rest) = (b == 10) || (starts_blank (b ∷ rest) && is_blank_line rest)

-- passed over up to the line's end
abbrev pub to_line_end : Result ℕ ℕ → Piece
to_line_end (Ok n) = Gap n
to_line_end (Err n) = Bad n

-- passed over with the line's end, if there is one
abbrev pub with_line_end : List ℕ → Result ℕ ℕ → Piece
with_line_end text (Ok n) = Gap (if nat_lt n (length text) then n + 1 else n)
with_line_end text (Err n) = Bad n

-- a %{ that stands first is all of its line; `bare` holds where only blanks stand before in the line
abbrev pub is_block_opener : Bool → List ℕ → Bool
is_block_opener bare text = (second text == 123) && (bare && is_blank_line (drop 2 text))

-- a line that holds only %{ is refused
unfoldable pub comment_piece : Bool → List ℕ → Piece
comment_piece bare text =
    if is_block_opener bare text then Bad 0 else to_line_end (line_rest 1 (drop 1 text))

abbrev pub starts_dots : List ℕ → Bool
starts_dots text = (first text == 46) && ((second text == 46) && (first (drop 2 text) == 46))

unfoldable pub joined_piece : List ℕ → Piece
joined_piece text = with_line_end text (line_rest 3 (drop 3 text))

-- ---- signs

-- the longest sign that stands first
unfoldable pub sign_piece : List ℕ → Piece
sign_piece text =
    if is_doubled (first text) (second text) then Bad 0
    else if is_sign_pair (first text) (second text) then Token Sign 2
    else if is_sign (first text) then Token Sign 1
    else Bad 0

-- ---- all

-- what begins where a text that isn't empty stands
unfoldable pub piece_at : Bool → Bool → List ℕ → Piece
piece_at bare closes text =
    if is_ascii_alphabetic (first text) then name_piece text
    else if is_ascii_digit (first text) then number_piece text
    else if is_quote (first text) then text_piece closes text
    else if starts_blank text then Gap 1
    else if first text == 10 then Token LineEnd 1
    else if first text == 37 then comment_piece bare text
    else if starts_dots text then joined_piece text
    else sign_piece text

-- a ''' directly behind this token, of which the first byte is given, begins no text: a name, a number, a text, ) ] }
abbrev pub closes_value : TokenKind → ℕ → Bool
closes_value Name b = true
closes_value Number b = true
closes_value Text b = true
closes_value Word b = false
closes_value Sign b = (b == 41) || ((b == 93) || (b == 125))
closes_value LineEnd b = false
