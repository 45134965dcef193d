-- What a token is, and what may stand beside it. In all of it a token is the longest that begins where it stands.
use Rattle.std.specs.Prelude.{◌≡◌, ◌≢◌, ◌≤◌, ℕ, ℤ, ◌==◌, ◌&&◌, not, Bool, true, false, List, [], ◌∷◌, ◌++◌, length, nat_eq, codes}
use Rattle.std.specs.List.{list_all, list_any}
use Rattle.std.specs.Cmp.Lexicographic.{pointwise}
use Rattle.std.specs.Char.{is_ascii_alphabetic}
use Rattle.tall_num.specs.Spelling.{is_digits}
use Rattle.tall_num.specs.Grammar.{Exponent}
use Rattle.tall_lex.specs.declared.tokens.TokenKind.{TokenKind}
use Rattle.tall_lex.specs.declared.tokens.TokenKind.TheVariants.{Name, Number, Text, Word, Sign, LineEnd}
use Rattle.tall_lex.specs.Bytes.{first, second, is_name_byte, is_quote, is_reserved, is_doubled}
use Rattle.tall_lex.specs.Numbers.{is_whole_number}
use Rattle.tall_lex.specs.Pieces.{starts_dots}

-- ---- names, numbers, texts and signs as rows of bytes

-- a letter, then letters, digits and '_'
pub data NameBytes : List ℕ → Type 0 where
  letter_first : (b : ℕ) (bytes : List ℕ) → is_ascii_alphabetic b ≡ true → list_all is_name_byte bytes ≡ true → NameBytes (b ∷ bytes)

-- nothing, or a point and digits
pub data Fraction : List ℕ → Type 0 where
  no_fraction : Fraction []
  point : (digits : List ℕ) → is_digits digits ≡ true → Fraction (46 ∷ digits)

-- digits, with a fraction and an exponent if wanted; the exponent is that of number fields
pub data NumberBytes : List ℕ → Type 0 where
  number_bytes : (whole fraction exponent : List ℕ) (e : ℤ) → is_digits whole ≡ true → Fraction fraction → Exponent exponent e
      → NumberBytes (whole ++ (fraction ++ exponent))

-- what may stand between two quotes: bytes other than the quote and a line feed, and the quote written twice
pub data Inside : ℕ → List ℕ → Type 0 where
  nothing : (quote : ℕ) → Inside quote []
  byte : (quote b : ℕ) (rest : List ℕ) → b ≢ quote → b ≢ 10 → Inside quote rest → Inside quote (b ∷ rest)
  quote_twice : (quote : ℕ) (rest : List ℕ) → Inside quote rest → Inside quote (quote ∷ (quote ∷ rest))

-- a ''' or a '"', what stands inside, and the same quote
pub data Quoted : List ℕ → Type 0 where
  quoted : (quote : ℕ) (inside : List ℕ) → is_quote quote ≡ true → Inside quote inside → Quoted (quote ∷ (inside ++ quote ∷ []))

-- no carriage return is among the bytes
abbrev pub has_no_return : List ℕ → Bool
has_no_return text = list_all (λ b. not (b == 13)) text

abbrev pub signs : List (List ℕ)
signs = codes "+" ∷ codes "-" ∷ codes ".*" ∷ codes "./" ∷ codes "*" ∷ codes "/" ∷ codes "==" ∷ codes "~=" ∷ codes "<" ∷ codes "<="
    ∷ codes ">" ∷ codes ">=" ∷ codes "&" ∷ codes "|" ∷ codes "~" ∷ codes "=" ∷ codes "(" ∷ codes ")" ∷ codes "[" ∷ codes "]"
    ∷ codes "{" ∷ codes "}" ∷ codes "," ∷ codes ";" ∷ codes ":" ∷ codes "." ∷ codes "@" ∷ []

abbrev pub IsSign : List ℕ → Type 0
IsSign text = list_any (λ s. pointwise nat_eq s text) signs ≡ true

-- ---- tokens

-- the bytes are a token of this kind
pub data IsToken : TokenKind → List ℕ → Type 0 where
  a_name : (text : List ℕ) → NameBytes text → length text ≤ 63 → is_reserved text ≡ false → IsToken Name text
  a_number : (text : List ℕ) → NumberBytes text → is_whole_number text ≡ true → IsToken Number text
  a_text : (text : List ℕ) → Quoted text → has_no_return text ≡ true → IsToken Text text
  a_sign : (text : List ℕ) → IsSign text → IsToken Sign text
  a_word : (text : List ℕ) → is_reserved text ≡ true → IsToken Word text
  a_line_end : IsToken LineEnd (10 ∷ [])

-- no front of what follows makes a text longer that is in this class
abbrev pub IsLongest : (List ℕ → Type 0) → List ℕ → List ℕ → Type 0
IsLongest Is text behind = (more rest : List ℕ) → behind ≡ more ++ rest → Is (text ++ more) → more ≡ []

-- '&&' or '||' stands first
abbrev pub starts_doubled : List ℕ → Bool
starts_doubled text = is_doubled (first text) (second text)

-- Where the flag holds, the token stands directly behind one after which a ''' begins no text. No letter follows a number
-- directly; the quote that closes a text isn't written twice; '...', '&&' and '||' begin no sign.
abbrev pub MayStand : Bool → TokenKind → List ℕ → List ℕ → Type 0
MayStand closes Name text behind = IsLongest NameBytes text behind
MayStand closes Number text behind = IsLongest NumberBytes text behind × (is_ascii_alphabetic (first behind) ≡ false)
MayStand closes Text text behind = ((closes && (first text == 39)) ≡ false) × (first behind ≢ first text)
MayStand closes Sign text behind =
    IsLongest IsSign text behind × (starts_dots (text ++ behind) ≡ false) × (starts_doubled (text ++ behind) ≡ false)
MayStand closes Word text behind = IsLongest NameBytes text behind
MayStand closes LineEnd text behind = Unit {0}
