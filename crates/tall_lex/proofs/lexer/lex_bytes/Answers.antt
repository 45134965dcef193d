use Rattle.std.proofs.Common.{◌≡◌, sym, subst}
use Rattle.std.specs.Prelude.{MatchResult, Ok}
use Rattle.tall_lex.specs.Faults.{IsRefusal}
use Rattle.tall_lex.specs.Tokens.{Lexed}
use Rattle.tall_lex.proofs.Ends.{of_text}
use Rattle.tall_lex.proofs.lexer.lex_bytes.Goals as goal

pub returns-in-Ok-clause-tokens : goal.returns-in-Ok-clause-tokens
returns-in-Ok-clause-tokens c =
    subst (λ (l : Lexed). MatchResult c.lex_text.result (λ v. l ≡ Ok v.items) (λ fault. IsRefusal fault l))
    (sym (of_text c.args.bytes.now c.in-Ok.ensures.cases.1)) c.lex_text.ensures.tokens
