-- Each token of a UTF-8 script is a span of it, a name's bytes are UTF-8, and so is the value of a text.
use Rattle.std.proofs.Common.{◌≡◌, ◌<◌, ◌+◌, ◌-◌, ℕ, Bool, true, false, List, [], ◌∷◌, ◌++◌, take, drop, length, refl, sym, ap, ◌∙◌, subst, arith, append_assoc, length-append}
use Rattle.std.specs.Prelude.{Ok}
use Rattle.std.specs.List.{AllByRecursion, list_all}
use Rattle.std.specs.Char.{is_ascii_alphabetic}
use Rattle.std.specs.Str.{IsAscii, IsUtf8}
use Rattle.std.proofs.Math.Seq.{drop-append_seam, take-append_seam}
use Rattle.std.proofs.lemmas.Bool.{and_parts, false≢true}
use Rattle.std.proofs.lemmas.Bool.Decides.{nat_tests}
use Rattle.std.proofs.lemmas.Str.{IsUtf8-from_ascii}
use Rattle.std.proofs.lemmas.Str.Ascii.{IsAscii-cons, IsAscii-nil}
use Rattle.tall_lex.specs.declared.tokens.Token.{Token}
use Rattle.tall_lex.specs.declared.tokens.TokenKind.{TokenKind}
use Rattle.tall_lex.specs.Bytes.{is_name_byte, is_quote}
use Rattle.tall_lex.specs.ScriptGrammar.{Tokens, at_end, token, passed_over, line_behind}
use Rattle.tall_lex.specs.TokenGrammar.{NameBytes, letter_first, Quoted, quoted, IsToken, a_name, a_number, a_text, a_sign, a_word, a_line_end}
use Rattle.tall_lex.specs.Tokens.{tokens_of_bytes}
use Rattle.tall_lex.proofs.ByteScripts.{bytes_are}
use Rattle.tall_grammar.specs.Lexemes.{all_but_last, text_value, without_doubles}
use Rattle.tall_grammar.specs.Readers.{is_name_kind, is_text_kind}
use Rattle.tall_expr.specs.Gives.{IsSlice}
use Rattle.tall_parse.proofs.Cuts.{before_ascii, behind_ascii, text_once}

-- ---- names

letter_is_ascii : (b : ℕ) → is_ascii_alphabetic b ≡ true → b < 128
letter_is_ascii b h = grind (arith, nat_tests)

name_byte_is_ascii : (b : ℕ) → is_name_byte b ≡ true → b < 128
name_byte_is_ascii b h = grind (arith, nat_tests)

name_bytes_are_ascii : (bytes : List ℕ) → list_all is_name_byte bytes ≡ true → IsAscii bytes
name_bytes_are_ascii [] h = IsAscii-nil
name_bytes_are_ascii (b ∷ bytes) h =
    let p = and_parts (is_name_byte b) (list_all is_name_byte bytes) h in
    IsAscii-cons b bytes (name_byte_is_ascii b p.0) (name_bytes_are_ascii bytes p.1)

name_is_ascii : (text : List ℕ) → NameBytes text → IsUtf8 text
name_is_ascii text (letter_first b bytes h all) = IsUtf8-from_ascii (b ∷ bytes) (IsAscii-cons b bytes (letter_is_ascii b h) (name_bytes_are_ascii bytes all))

-- ---- texts

quote_is_ascii : (b : ℕ) → is_quote b ≡ true → b < 128
quote_is_ascii b h = grind (arith, nat_tests)

between : (inside : List ℕ) (quote : ℕ) → all_but_last (inside ++ quote ∷ []) ≡ inside
between [] quote = refl
between (b ∷ []) quote = refl
between (b ∷ c ∷ inside) quote = ap (λ x. b ∷ x) (between (c ∷ inside) quote)

-- the value of a text that stands in a UTF-8 script
value_in : (before text rest : List ℕ) → Quoted text → IsUtf8 (before ++ (text ++ rest)) → IsUtf8 (text_value text)
value_in before text rest (quoted quote inside is _) u =
    let small = quote_is_ascii quote is in
    let from_inside : IsUtf8 (inside ++ quote ∷ rest) =
    subst IsUtf8 (append_assoc inside (quote ∷ []) rest) (behind_ascii before ((inside ++ quote ∷ []) ++ rest) quote small u) in
    subst (λ (w : List ℕ). IsUtf8 (without_doubles quote false w)) (sym (between inside quote))
    (text_once inside quote small (before_ascii inside rest quote small from_inside))

-- ---- tokens

-- what is wanted of a token's text where it stands
record Fits (before text rest : List ℕ) (kind : TokenKind) : Type 0 where
  pub name : is_name_kind kind ≡ true → IsUtf8 text
  pub value : is_text_kind kind ≡ true → IsUtf8 (text_value text)

fits : (before text rest : List ℕ) (kind : TokenKind) → IsToken kind text → IsUtf8 (before ++ (text ++ rest)) → Fits before text rest kind
fits before text rest kind (a_name text1 is short free) u = record { name = λ _. name_is_ascii text1 is; value = λ e. absurd (false≢true e) }
fits before text rest kind (a_number text1 is whole) u = record { name = λ e. absurd (false≢true e); value = λ e. absurd (false≢true e) }
fits before text rest kind (a_text text1 is plain) u = record { name = λ e. absurd (false≢true e); value = λ _. value_in before text1 rest is u }
fits before text rest kind (a_sign text1 is) u = record { name = λ e. absurd (false≢true e); value = λ e. absurd (false≢true e) }
fits before text rest kind (a_word text1 is) u = record { name = λ e. absurd (false≢true e); value = λ e. absurd (false≢true e) }
fits before text rest kind a_line_end u = record { name = λ e. absurd (false≢true e); value = λ e. absurd (false≢true e) }

slice_of : (script before text rest : List ℕ) → script ≡ before ++ (text ++ rest)
    → take ((length before + length text) - length before) (drop (length before) script) ≡ text
slice_of script before text rest parts =
    let len : (length before + length text) - length before ≡ length text = omega arith in
    ap (λ n. take n (drop (length before) script)) len
    ∙ ap (λ s. take (length text) (drop (length before) s)) parts
    ∙ ap (take (length text)) (drop-append_seam before (text ++ rest)) ∙ take-append_seam text rest

here : (script before text rest : List ℕ) (kind : TokenKind) → script ≡ before ++ (text ++ rest) → IsToken kind text → IsUtf8 script
    → IsSlice script (record { kind = kind; line = line_behind before; from = length before; to = length before + length text })
here script before text rest kind parts is u =
    let same = sym (slice_of script before text rest parts) in
    let f = fits before text rest kind is (subst IsUtf8 parts u) in
    record {
      ordered = omega arith;
      within = omega (arith, ap length parts, length-append before (text ++ rest), length-append text rest);
      name = λ e. subst IsUtf8 same (f.name e);
      value = λ e. subst (λ (w : List ℕ). IsUtf8 (text_value w)) same (f.value e);
    }

from_here : (script before : List ℕ) (closes : Bool) (text : List ℕ) (tokens : List Token) → script ≡ before ++ text → IsUtf8 script
    → Tokens before closes text tokens → AllByRecursion (IsSlice script) tokens
from_here script before closes text tokens parts u (at_end p c) = tt
from_here script before closes text tokens parts u (token p c kind t rest more is stand next) = (
  here script before t rest kind parts is u,
  from_here script (before ++ t) _ rest more (parts ∙ sym (append_assoc before t rest)) u next,
)
from_here script before closes text tokens parts u (passed_over p c t rest more is next) =
    from_here script (before ++ t) false rest more (parts ∙ sym (append_assoc before t rest)) u next

-- the tokens of a script of any bytes
pub are_slices : (bytes : List ℕ) (tokens : List Token) → tokens_of_bytes bytes ≡ Ok tokens → AllByRecursion (IsSlice bytes) tokens
are_slices bytes tokens h = let are = bytes_are bytes tokens h in from_here bytes [] false bytes tokens refl are.0 are.1
