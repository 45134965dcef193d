-- How many brackets and blocks are open behind a token, by what the token is.
use Rattle.std.proofs.Common.{◌≡◌, ℕ, ◌+◌, ◌-◌, Bool, true, false, List, Option, Some, None, refl, ap, ◌∙◌, arith}
use Rattle.std.specs.Prelude.{zero, suc, if◌then◌else◌, ◌||◌, ◌&&◌, not, codes}
use Rattle.std.specs.List.{list_any}
use Rattle.tall_lex.specs.declared.tokens.TokenKind.{TokenKind}
use Rattle.tall_lex.specs.declared.tokens.TokenKind.TheVariants.{Name, Number, Text, Word, Sign, LineEnd}
use Rattle.tall_grammar.specs.declared.expressions.Prefix.{Prefix}
use Rattle.tall_grammar.specs.declared.expressions.Infix.{Infix}
use Rattle.tall_grammar.specs.declared.expressions.Infix.TheVariants.{Or, And}
use Rattle.tall_grammar.specs.Lexemes.{Lexeme, sign, word, is_the_sign, is_the_word, is_line_end_kind, is_separator, is_text, prefix_sign}
use Rattle.tall_grammar.specs.Refusals.{opens, closes, open_behind}
use Rattle.tall_grammar.specs.Readers.{is_name, is_text_token, is_number, operator_of}
use Rattle.tall_grammar.specs.ExprReader.{operators}
use Rattle.tall_grammar.specs.ScriptReader.{is_the_name, word_line, separator_shows, parameter_of, new_name}
use Rattle.tall_grammar.proofs.Signs.{Among, AllGive, given_among, of_kind, sign_is, word_is, name_is, text_is, number_is, operator_is, multiplicative_is, additive_is, comparison_is, one_text_is, prefix_is}
use Rattle.tall_grammar.proofs.Tokens.{the_name_is}
use Rattle.tall_grammar.proofs.Lines.{shows_if}
use Rattle.tall_grammar.proofs.Lasting.{Moves}

-- a token that opens nothing and closes nothing
stays : (o : ℕ) (t : Lexeme) → opens t ≡ false → closes t ≡ false → open_behind o t ≡ o
stays o t e f = ap (λ x. if x then o + 1 else if closes t then o - 1 else o) e ∙ ap (λ x. if x then o - 1 else o) f

-- ---- signs and words

pub sign_moves : (o n : ℕ) (s : List ℕ) → ((l : ℕ) → open_behind o (sign l s) ≡ n) → Moves (is_the_sign s) o n
sign_moves o n s e t h = ap (open_behind o) (sign_is s t h) ∙ e t.line

pub word_moves : (o n : ℕ) (s : List ℕ) → ((l : ℕ) → open_behind o (word l s) ≡ n) → Moves (is_the_word s) o n
word_moves o n s e t h = ap (open_behind o) (word_is s t h) ∙ e t.line

-- behind what closes as many are open as before what opened
pub one_less : (o : ℕ) → (o + 1) - 1 ≡ o
one_less o = omega arith

-- ---- names, texts and numbers

pub name_stays : (o : ℕ) → Moves is_name o o
name_stays o t h = ap (open_behind o) (name_is t h)

pub text_stays : (o : ℕ) → Moves is_text_token o o
text_stays o t h = ap (open_behind o) (text_is t h)

pub number_stays : (o : ℕ) → Moves is_number o o
number_stays o t h = ap (open_behind o) (number_is t h)

pub the_name_stays : (o : ℕ) (s : List ℕ) → Moves (is_the_name s) o o
the_name_stays o s t h = ap (open_behind o) (the_name_is s t h)

pub new_name_stays : (o : ℕ) (before : List (List ℕ)) (t : Lexeme) (s : List ℕ) → new_name before t ≡ Some s → open_behind o t ≡ o
new_name_stays o before t s h = (elim (is_name t) as (λ x. is_name t ≡ x → (if x && not (list_any (is_text t.text) before) then Some t.text else None) ≡ Some s → open_behind o t ≡ o) [
  | true ↦ λ e h. name_stays o t e
  | false ↦ λ e h. absurd cc
]) refl h

-- ---- operators

operator_stays : {O : Type 0} (o : ℕ) (op : List ℕ → Option O) (t : Lexeme) (x : O) (xs : List (List ℕ)) → operator_of op t ≡ Some x → ((s : List ℕ) → op s ≡ Some x → Among xs s)
    → ((l : ℕ) → AllGive opens false l xs) → ((l : ℕ) → AllGive closes false l xs) → open_behind o t ≡ o
operator_stays o op t x xs h among e f =
    let p = operator_is op t x h in
    let a = among t.text p.1 in
    ap (open_behind o) p.0 ∙ stays o (sign t.line t.text) (given_among opens false t.line xs t.text a (e t.line)) (given_among closes false t.line xs t.text a (f t.line))

pub prefix_stays : (o : ℕ) (t : Lexeme) (x : Prefix) → operator_of prefix_sign t ≡ Some x → open_behind o t ≡ o
prefix_stays o t x h = operator_stays o prefix_sign t x _ h (λ s e. prefix_is s x e) (λ l. (refl, (refl, (refl, tt)))) (λ l. (refl, (refl, (refl, tt))))

pub operators_stay : (n o : ℕ) (t : Lexeme) (x : Infix) → operator_of (operators n) t ≡ Some x → open_behind o t ≡ o
operators_stay zero o t x h = operator_stays o (operators 0) t x _ h (λ s e. multiplicative_is s x e) (λ l. (refl, (refl, (refl, (refl, tt))))) (λ l. (refl, (refl, (refl, (refl, tt)))))
operators_stay (suc zero) o t x h = operator_stays o (operators 1) t x _ h (λ s e. additive_is s x e) (λ l. (refl, (refl, tt))) (λ l. (refl, (refl, tt)))
operators_stay (suc (suc zero)) o t x h =
    operator_stays o (operators 2) t x _ h (λ s e. comparison_is s x e) (λ l. (refl, (refl, (refl, (refl, (refl, (refl, tt))))))) (λ l. (refl, (refl, (refl, (refl, (refl, (refl, tt)))))))
operators_stay (suc (suc (suc zero))) o t x h = operator_stays o (operators 3) t x _ h (λ s e. one_text_is s (codes "&") And x e) (λ l. (refl, tt)) (λ l. (refl, tt))
operators_stay (suc (suc (suc (suc n)))) o t x h = operator_stays o (operators (suc (suc (suc (suc n))))) t x _ h (λ s e. one_text_is s (codes "|") Or x e) (λ l. (refl, tt)) (λ l. (refl, tt))

-- ---- separators

line_end_stays : (o : ℕ) (t : Lexeme) → is_line_end_kind t.kind ≡ true → open_behind o t ≡ o
line_end_stays o t h = by t.kind refl h where
  by : (k : TokenKind) → t.kind ≡ k → is_line_end_kind k ≡ true → open_behind o t ≡ o
  by LineEnd e h = ap (open_behind o) (of_kind t LineEnd e)
  by Sign e h = absurd cc
  by Name e h = absurd cc
  by Number e h = absurd cc
  by Text e h = absurd cc
  by Word e h = absurd cc

pub separator_stays : (o : ℕ) → Moves is_separator o o
separator_stays o t h = (elim (is_the_sign (codes ";") t) as (λ x. is_the_sign (codes ";") t ≡ x → (x || (is_the_sign (codes ",") t || is_line_end_kind t.kind)) ≡ true → open_behind o t ≡ o) [
  | true ↦ λ e g. sign_moves o o (codes ";") (λ l. refl) t e
  | false ↦ λ e g. comma_or g
]) refl h where
  comma_or : (is_the_sign (codes ",") t || is_line_end_kind t.kind) ≡ true → open_behind o t ≡ o
  comma_or g = (elim (is_the_sign (codes ",") t) as (λ x. is_the_sign (codes ",") t ≡ x → (x || is_line_end_kind t.kind) ≡ true → open_behind o t ≡ o) [
    | true ↦ λ e g. sign_moves o o (codes ",") (λ l. refl) t e
    | false ↦ λ e g. line_end_stays o t g
  ]) refl g

pub shown_stays : (o : ℕ) (t : Lexeme) (x : Bool) → separator_shows t ≡ Some x → open_behind o t ≡ o
shown_stays o t x h = separator_stays o t (shows_if t x h).0

-- ---- other choices

pub elseif_stays : (o : ℕ) (t : Lexeme) (x : ℕ) → word_line (codes "elseif") t ≡ Some x → open_behind o t ≡ o
elseif_stays o t x h = (elim (is_the_word (codes "elseif") t) as (λ z. is_the_word (codes "elseif") t ≡ z → (if z then Some t.line else None) ≡ Some x → open_behind o t ≡ o) [
  | true ↦ λ e h. word_moves o o (codes "elseif") (λ l. refl) t e
  | false ↦ λ e h. absurd cc
]) refl h

pub parameter_stays : (o : ℕ) (t : Lexeme) (x : Option (List ℕ)) → parameter_of t ≡ Some x → open_behind o t ≡ o
parameter_stays o t x h = (elim (is_name t) as (λ z. is_name t ≡ z → (if z then Some (Some t.text) else if is_the_sign (codes "~") t then Some None else None) ≡ Some x → open_behind o t ≡ o) [
  | true ↦ λ e h. name_stays o t e
  | false ↦ λ e h. none_or h
]) refl h where
  none_or : ◌≡◌ {A = Option (Option (List ℕ))} (if is_the_sign (codes "~") t then Some None else None) (Some x) → open_behind o t ≡ o
  none_or h = (elim (is_the_sign (codes "~") t) as (λ z. is_the_sign (codes "~") t ≡ z → ◌≡◌ {A = Option (Option (List ℕ))} (if z then Some None else None) (Some x) → open_behind o t ≡ o) [
    | true ↦ λ e h. sign_moves o o (codes "~") (λ l. refl) t e
    | false ↦ λ e h. absurd cc
  ]) refl h
