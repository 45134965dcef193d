-- Each token of a script is the slice of its span.
use Rattle.std.proofs.Common.{◌≡◌, ◌∙◌, ℕ, sym, ap, subst, Bool, false, List, [], ◌++◌, ◌+◌, ◌-◌, take, drop, length, append_assoc, refl, arith}
use Rattle.std.specs.Prelude.{Ok}
use Rattle.std.specs.List.{AllByRecursion}
use Rattle.std.proofs.Math.Seq.{take-append_seam, drop-append_seam}
use Rattle.tall_lex.specs.declared.tokens.TokenKind.{TokenKind}
use Rattle.tall_lex.specs.declared.tokens.Token.{Token}
use Rattle.tall_lex.specs.Tokens.{tokens_of}
use Rattle.tall_lex.specs.TokenGrammar.{IsToken}
use Rattle.tall_lex.specs.ScriptGrammar.{line_behind, Tokens, at_end, token, passed_over, IsTokenOf}
use Rattle.tall_lex.proofs.Scripts.{tokens_are}

slice_of : (script before text rest : List ℕ) → script ≡ before ++ (text ++ rest)
    → take ((length before + length text) - length before) (drop (length before) script) ≡ text
slice_of script before text rest parts =
    let len : (length before + length text) - length before ≡ length text = omega arith in
    ap (λ n. take n (drop (length before) script)) len
    ∙ ap (λ s. take (length text) (drop (length before) s)) parts
    ∙ ap (take (length text)) (drop-append_seam before (text ++ rest)) ∙ take-append_seam text rest

here : (script before : List ℕ) (kind : TokenKind) (text rest : List ℕ) → script ≡ before ++ (text ++ rest) → IsToken kind text
    → IsTokenOf script (record { kind = kind; line = line_behind before; from = length before; to = length before + length text })
here script before kind text rest parts is = (
  subst (IsToken kind) (sym (slice_of script before text rest parts)) is,
  ap line_behind (sym (ap (take (length before)) parts ∙ take-append_seam before (text ++ rest))),
)

from_here : (script before : List ℕ) (closes : Bool) (text : List ℕ) (tokens : List Token) → script ≡ before ++ text
    → Tokens before closes text tokens → AllByRecursion (IsTokenOf script) tokens
from_here script before closes text tokens parts (at_end p c) = tt
from_here script before closes text tokens parts (token p c kind t rest more is stand next) = (
  here script before kind t rest parts is,
  from_here script (before ++ t) _ rest more (parts ∙ sym (append_assoc before t rest)) next,
)
from_here script before closes text tokens parts (passed_over p c t rest more is next) =
    from_here script (before ++ t) false rest tokens (parts ∙ sym (append_assoc before t rest)) next

pub slices : (script : List ℕ) (tokens : List Token) → tokens_of script ≡ Ok tokens → AllByRecursion (IsTokenOf script) tokens
slices script tokens h = from_here script [] false script tokens refl (tokens_are script tokens h)
