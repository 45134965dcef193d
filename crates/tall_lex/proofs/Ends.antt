-- Where the part of a script ends that is UTF-8.
use Rattle.std.proofs.Common.{◌≡◌, ℕ, List, length, take, ap, eq-eqb}
use Rattle.std.proofs.lemmas.Str.{utf8_valid_len-IsUtf8}
use Rattle.std.specs.Prelude.{if◌then◌else◌}
use Rattle.std.specs.Str.{IsUtf8}
use Rattle.std.specs.Str.Lossy.{utf8_valid_len}
use Rattle.tall_lex.specs.Places.{beginning, past}
use Rattle.tall_lex.specs.Tokens.{tokens_of, tokens_of_bytes, then_bad}

-- all of it
pub of_text : (bytes : List ℕ) → IsUtf8 bytes → tokens_of_bytes bytes ≡ tokens_of bytes
unfolding tokens_of_bytes
of_text bytes is =
    ap
    (λ b. if b then tokens_of bytes
    else then_bad (past beginning (take (utf8_valid_len bytes) bytes)) (tokens_of (take (utf8_valid_len bytes) bytes)))
    (eq-eqb (utf8_valid_len bytes) (length bytes) (utf8_valid_len-IsUtf8 bytes is))
