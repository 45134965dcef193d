-- A script as a row of tokens and of what is passed over, each behind the one before.
use Rattle.std.specs.Prelude.{◌≡◌, ℕ, ◌+◌, ◌-◌, ◌==◌, not, Bool, false, List, [], ◌∷◌, ◌++◌, length, take, drop}
use Rattle.std.specs.List.{list_all, suffix_len, count_by}
use Rattle.std.specs.Str.{IsUtf8, IsValidUpTo}
use Rattle.tall_lex.specs.declared.tokens.TokenKind.{TokenKind}
use Rattle.tall_lex.specs.declared.tokens.Token.{Token}
use Rattle.tall_lex.specs.Bytes.{first, is_space}
use Rattle.tall_lex.specs.Pieces.{closes_value}
use Rattle.tall_lex.specs.Tokens.{token_text}
use Rattle.tall_lex.specs.TokenGrammar.{IsToken, MayStand}
use Rattle.tall_lex.specs.GapGrammar.{PassedOver}
use Rattle.tall_lex.specs.BadTokens.{BadToken}

-- the line that a script has come to behind these bytes, from 1
abbrev pub line_behind : List ℕ → ℕ
line_behind before = 1 + count_by (λ b. b == 10) before

-- the bytes of that line so far: those behind the last line feed
abbrev pub line_so_far : List ℕ → List ℕ
line_so_far before = drop (length before - suffix_len (λ b. not (b == 10)) before) before

-- the place in the line of the byte behind them, from 1
abbrev pub place_behind : List ℕ → ℕ
place_behind before = 1 + length (line_so_far before)

-- the line so far has blanks alone
abbrev pub is_bare : List ℕ → Bool
is_bare before = list_all is_space (line_so_far before)

-- The tokens of what is left of a script behind these bytes. The flag says that a token ends directly before after which a
-- ''' begins no text.
pub data Tokens : List ℕ → Bool → List ℕ → List Token → Type 0 where
  at_end : (before : List ℕ) (closes : Bool) → Tokens before closes [] []
  token : (before : List ℕ) (closes : Bool) (kind : TokenKind) (text rest : List ℕ) (tokens : List Token)
      → IsToken kind text → MayStand closes kind text rest
      → Tokens (before ++ text) (closes_value kind (first text)) rest tokens
      → Tokens before closes (text ++ rest)
      (record { kind = kind; line = line_behind before; from = length before; to = length before + length text } ∷ tokens)
  passed_over : (before : List ℕ) (closes : Bool) (text rest : List ℕ) (tokens : List Token) → PassedOver (is_bare before) text rest
      → Tokens (before ++ text) false rest tokens → Tokens before closes (text ++ rest) tokens

-- The line and the place of the first bad token of what is left, with the bytes before and the flag of `Tokens`.
pub data FirstBadToken : List ℕ → Bool → List ℕ → ℕ → ℕ → Type 0 where
  bad : (before : List ℕ) (closes : Bool) (skipped rest : List ℕ) → BadToken (is_bare before) closes skipped rest
      → FirstBadToken before closes (skipped ++ rest) (line_behind (before ++ skipped)) (place_behind (before ++ skipped))
  bad_behind_token : (before : List ℕ) (closes : Bool) (kind : TokenKind) (text rest : List ℕ) (line place : ℕ)
      → IsToken kind text → MayStand closes kind text rest
      → FirstBadToken (before ++ text) (closes_value kind (first text)) rest line place
      → FirstBadToken before closes (text ++ rest) line place
  bad_behind_gap : (before : List ℕ) (closes : Bool) (text rest : List ℕ) (line place : ℕ) → PassedOver (is_bare before) text rest
      → FirstBadToken (before ++ text) false rest line place → FirstBadToken before closes (text ++ rest) line place

-- the script has these tokens
abbrev pub HasTokens : List ℕ → List Token → Type 0
HasTokens script tokens = Tokens [] false script tokens

-- the script's first bad token stands at this line and place
abbrev pub HasBadToken : List ℕ → ℕ → ℕ → Type 0
HasBadToken script line place = FirstBadToken [] false script line place

-- ---- scripts of any bytes

-- a script of any bytes has these tokens: the bytes are UTF-8
abbrev pub BytesHaveTokens : List ℕ → List Token → Type 0
BytesHaveTokens bytes tokens = IsUtf8 bytes × HasTokens bytes tokens

-- The first bad token of a script of any bytes. What stands before the first byte that isn't UTF-8 is read as if the script
-- ended there, and else that byte is the bad token.
pub data BytesHaveBadToken : List ℕ → ℕ → ℕ → Type 0 where
  in_text : (bytes : List ℕ) (line place : ℕ) → IsUtf8 bytes → HasBadToken bytes line place → BytesHaveBadToken bytes line place
  before_other_bytes : (bytes : List ℕ) (n line place : ℕ) → IsValidUpTo bytes n → HasBadToken (take n bytes) line place
      → BytesHaveBadToken bytes line place
  other_byte : (bytes : List ℕ) (n : ℕ) (tokens : List Token) → IsValidUpTo bytes n → HasTokens (take n bytes) tokens
      → BytesHaveBadToken bytes (line_behind (take n bytes)) (place_behind (take n bytes))

-- ---- what follows for each token

-- the token's slice of the script is a token of its kind, and its line is that of its first byte
abbrev pub IsTokenOf : List ℕ → Token → Type 0
IsTokenOf script t = IsToken t.kind (token_text script t) × (t.line ≡ line_behind (take t.from script))
