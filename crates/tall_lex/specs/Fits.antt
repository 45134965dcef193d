-- How long a piece may be.
use Rattle.std.specs.Prelude.{ℕ, ◌<◌, ◌≤◌}
use Rattle.tall_lex.specs.declared.pieces.Piece.{Piece}
use Rattle.tall_lex.specs.declared.pieces.Piece.TheVariants.{Token, Gap, Bad}

-- the piece lies in a text of this length; a piece has a byte at least, and a bad token begins in the text
abbrev pub FitsIn : ℕ → Piece → Type 0
FitsIn len (Token kind n) = (0 < n) × (n ≤ len)
FitsIn len (Gap n) = (0 < n) × (n ≤ len)
FitsIn len (Bad n) = n ≤ len
