-- What begins at a byte by the grammar of tokens: a token, what is passed over, or what stands before a bad token.
use Rattle.std.proofs.Common.{Bool, List, ◌++◌, ℕ}
use Rattle.tall_lex.specs.declared.tokens.TokenKind.{TokenKind}
use Rattle.tall_lex.specs.TokenGrammar.{IsToken, MayStand}
use Rattle.tall_lex.specs.GapGrammar.{PassedOver}
use Rattle.tall_lex.specs.BadTokens.{BadToken}

pub data Found : Bool → Bool → List ℕ → Type 0 where
  found_token : (bare closes : Bool) (kind : TokenKind) (text behind : List ℕ) → IsToken kind text → MayStand closes kind text behind
      → Found bare closes (text ++ behind)
  found_gap : (bare closes : Bool) (text behind : List ℕ) → PassedOver bare text behind → Found bare closes (text ++ behind)
  found_bad : (bare closes : Bool) (skipped rest : List ℕ) → BadToken bare closes skipped rest → Found bare closes (skipped ++ rest)
