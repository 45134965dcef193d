-- What a function that reads ensures: it is the reader, unless memory fails.
use Rattle.std.specs.Prelude.{ℕ, Bool, true, ◌≡◌, ◌≢◌, ◌≤◌, length, List, Option, Some, None, Result, Ok, Err}
use Rattle.std.specs.Str.{IsUtf8}
use Rattle.tall_lex.specs.declared.tokens.Token.{Token}
use Rattle.tall_lex.specs.Tokens.{token_text}
use Rattle.tall_grammar.specs.declared.faults.Fault.{Fault}
use Rattle.tall_grammar.specs.declared.faults.Fault.TheVariants.{Memory}
use Rattle.tall_grammar.specs.Lexemes.{Lexeme, is_sign_kind, is_line_end_kind, text_value}
use Rattle.tall_grammar.specs.Readers.{Input, Outcome, is_name_kind, is_text_kind}
use Rattle.tall_grammar.specs.Kept.{Kept}

-- a part is seen through `view`
abbrev pub Gives : {A B : Type 0} → (A → B) → Outcome B → Result A Fault → Input → Type 0
Gives view outcome (Ok a) new = outcome ≡ Ok (view a, new)
Gives view outcome (Err e) new = e ≢ Memory → outcome ≡ Err e

-- a part is seen as it is
abbrev pub itself : {A : Type 0} → A → A
itself a = a

abbrev pub is_sign_token : Lexeme → Bool
is_sign_token t = is_sign_kind t.kind

abbrev pub is_line_end_token : Lexeme → Bool
is_line_end_token t = is_line_end_kind t.kind

-- what is kept, seen through `view`
abbrev pub kept_by : {A B : Type 0} → (A → B) → Option (A × ℕ) → Kept B
kept_by view None = None
kept_by view (Some p) = Some (view p.0, p.1)

-- A token is a span of the script; that of a name, and the value of a text, is UTF-8.
pub record IsSlice (script : List ℕ) (t : Token) : Type 0 where
  pub ordered : t.from ≤ t.to
  pub within : t.to ≤ length script
  pub name : is_name_kind t.kind ≡ true → IsUtf8 (token_text script t)
  pub value : is_text_kind t.kind ≡ true → IsUtf8 (text_value (token_text script t))
