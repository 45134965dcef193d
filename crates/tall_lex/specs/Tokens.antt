-- The tokens of a script, or its first bad token. A script is a row of tokens and of what is passed over: blanks,
-- comments and joined lines. A piece begins where the one before it ends.
use Rattle.std.specs.Prelude.{ℕ, suc, zero, ◌+◌, ◌-◌, ◌<◌, ◌≤◌, ◌==◌, Bool, false, if◌then◌else◌, List, [], ◌∷◌, length, take, drop, Result, Ok, Err}
use Rattle.std.specs.Str.Lossy.{utf8_valid_len}
use Rattle.tall_lex.specs.declared.tokens.Token.{Token}
use Rattle.tall_lex.specs.declared.places.Spot.{Spot}
use Rattle.tall_lex.specs.declared.pieces.Piece.{Piece}
use Rattle.tall_lex.specs.declared.pieces.Piece.TheVariants.{Token as token, Gap, Bad}
use Rattle.tall_lex.specs.Bytes.{first}
use Rattle.tall_lex.specs.Places.{beginning, behind, past}
use Rattle.tall_lex.specs.Pieces.{piece_at, closes_value}

-- the tokens, or the line and the place of the first bad token
abbrev pub Lexed : Type 0
Lexed = Result (List Token) (ℕ × ℕ)

abbrev pub with_token : Token → Lexed → Lexed
with_token t (Ok ts) = Ok (t ∷ ts)
with_token t (Err bad) = Err bad

-- the line and the place of a spot
abbrev pub place_of : Spot → ℕ × ℕ
place_of spot = (spot.line, spot.place)

-- A piece, and then the rest: `go closes n` is the rest of the script behind n further bytes, where `closes` says
-- whether a value ends there.
abbrev pub begun : Spot → ℕ → List ℕ → Piece → (Bool → ℕ → Lexed) → Lexed
begun spot at text (token kind n) go =
    with_token (record { kind = kind; line = spot.line; from = at; to = at + n }) (go (closes_value kind (first text)) (n - 1))
begun spot at text (Gap n) go = go false (n - 1)
begun spot at text (Bad n) go = Err (place_of (past spot (take n text)))

-- The tokens of a rest of a script, which stands at a spot behind `at` bytes, and of which the first bytes, so many as
-- the number says, belong to the piece before.
unfoldable pub tokens_from : Spot → ℕ → Bool → ℕ → List ℕ → Lexed
tokens_from spot at closes k [] = Ok []
tokens_from spot at closes (suc k) (b ∷ rest) = tokens_from (behind spot b) (at + 1) closes k rest
tokens_from spot at closes zero (b ∷ rest) =
    begun spot at (b ∷ rest) (piece_at spot.bare closes (b ∷ rest)) (λ ends k. tokens_from (behind spot b) (at + 1) ends k rest)

-- the tokens of a script
abbrev pub tokens_of : List ℕ → Lexed
tokens_of script = tokens_from beginning 0 false 0 script

-- ---- scripts of any bytes

-- a byte at this spot is no token
abbrev pub then_bad : Spot → Lexed → Lexed
then_bad spot (Ok ts) = Err (place_of spot)
then_bad spot (Err bad) = Err bad

-- The tokens of a script of any bytes: what stands before the first byte that isn't UTF-8 is read as if the script ended
-- there, and that byte is a bad token.
unfoldable pub tokens_of_bytes : List ℕ → Lexed
tokens_of_bytes bytes =
    if utf8_valid_len bytes == length bytes then tokens_of bytes
    else then_bad (past beginning (take (utf8_valid_len bytes) bytes)) (tokens_of (take (utf8_valid_len bytes) bytes))

-- ---- spans

-- the bytes of a token of a script
abbrev pub token_text : List ℕ → Token → List ℕ
token_text script t = take (t.to - t.from) (drop t.from script)

-- the tokens are spans of what stands from `low` to `high`, one behind the other, none of them empty
abbrev pub InOrder : ℕ → ℕ → List Token → Type 0
InOrder low high [] = low ≤ high
InOrder low high (t ∷ ts) = (low ≤ t.from) × (t.from < t.to) × InOrder t.to high ts
