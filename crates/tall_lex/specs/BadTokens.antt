-- What is no token: one rule for each bad token, with what stands before its first byte from where the token before ended,
-- and the bytes from its first one on.
use Rattle.std.specs.Prelude.{◌≡◌, ◌≢◌, ◌<◌, ℕ, ◌==◌, ◌&&◌, ◌||◌, Bool, true, false, List, [], ◌∷◌, ◌++◌, length}
use Rattle.std.specs.List.{list_all}
use Rattle.std.specs.Char.{is_ascii_alphabetic, is_ascii_digit}
use Rattle.tall_lex.specs.Bytes.{first, is_space, is_quote, is_sign}
use Rattle.tall_lex.specs.Numbers.{is_whole_number}
use Rattle.tall_lex.specs.TokenGrammar.{NameBytes, NumberBytes, Inside, Quoted, has_no_return, IsLongest}
use Rattle.tall_lex.specs.GapGrammar.{is_plain, BlockOpener}

-- a letter, a digit, a quote, a blank, a byte of a line's end, or '%'
abbrev pub begins_no_sign : ℕ → Bool
begins_no_sign b = is_ascii_alphabetic b || (is_ascii_digit b || (is_quote b || (is_space b || ((b == 10) || ((b == 13) || (b == 37))))))

-- the script ends, or a line feed follows
pub data EndsLine : List ℕ → Type 0 where
  script_ends : EndsLine []
  line_ends : (rest : List ℕ) → EndsLine (10 ∷ rest)

-- The flags say that only blanks stand before in the line, and that a token stands directly before after which a '''
-- begins no text.
pub data BadToken : Bool → Bool → List ℕ → List ℕ → Type 0 where
  -- a carriage return that no line feed follows: outside a comment, in one, behind '...', in a text
  stray_return : (bare closes : Bool) (rest : List ℕ) → first rest ≢ 10 → BadToken bare closes [] (13 ∷ rest)
  return_in_comment : (bare closes : Bool) (bytes rest : List ℕ) → (BlockOpener bare (37 ∷ (bytes ++ 13 ∷ rest)) → ⊥)
      → list_all is_plain bytes ≡ true → first rest ≢ 10 → BadToken bare closes (37 ∷ bytes) (13 ∷ rest)
  return_behind_dots : (bare closes : Bool) (bytes rest : List ℕ) → list_all is_plain bytes ≡ true → first rest ≢ 10
      → BadToken bare closes (46 ∷ 46 ∷ 46 ∷ bytes) (13 ∷ rest)
  return_in_text : (bare closes : Bool) (bytes others behind : List ℕ) → Quoted (bytes ++ 13 ∷ others) → has_no_return bytes ≡ true
      → (closes && (first (bytes ++ 13 ∷ others) == 39)) ≡ false → first behind ≢ first (bytes ++ 13 ∷ others)
      → BadToken bare closes bytes (13 ∷ (others ++ behind))
  -- a line that holds only '%{'
  opener : (bare closes : Bool) (rest : List ℕ) → BlockOpener bare rest → BadToken bare closes [] rest
  -- a number that isn't whole or is above 2^53, and a letter directly behind a number
  no_whole_number : (bare closes : Bool) (text behind : List ℕ) → NumberBytes text → IsLongest NumberBytes text behind
      → is_whole_number text ≡ false → BadToken bare closes [] (text ++ behind)
  letter_behind_number : (bare closes : Bool) (text behind : List ℕ) → NumberBytes text → IsLongest NumberBytes text behind
      → is_whole_number text ≡ true → is_ascii_alphabetic (first behind) ≡ true → BadToken bare closes text behind
  -- a ''' directly behind a name, a number, a text or a closing bracket
  quote_behind_value : (bare : Bool) (rest : List ℕ) → BadToken bare true [] (39 ∷ rest)
  -- '&&' and '||'
  two_ands : (bare closes : Bool) (rest : List ℕ) → BadToken bare closes [] (38 ∷ 38 ∷ rest)
  two_ors : (bare closes : Bool) (rest : List ℕ) → BadToken bare closes [] (124 ∷ 124 ∷ rest)
  -- a name of more than 63 bytes
  long_name : (bare closes : Bool) (text behind : List ℕ) → NameBytes text → IsLongest NameBytes text behind → 63 < length text
      → BadToken bare closes [] (text ++ behind)
  -- a text without its closing quote on its line
  open_text : (bare closes : Bool) (quote : ℕ) (inside behind : List ℕ) → is_quote quote ≡ true → Inside quote inside → EndsLine behind
      → BadToken bare closes [] (quote ∷ (inside ++ behind))
  -- a byte that begins no token and is not passed over; each sign of two bytes begins with one that is a sign
  no_token : (bare closes : Bool) (b : ℕ) (rest : List ℕ) → begins_no_sign b ≡ false → is_sign b ≡ false → BadToken bare closes [] (b ∷ rest)
