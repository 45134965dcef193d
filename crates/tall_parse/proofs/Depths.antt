-- Brackets and blocks, one token on.
use Rattle.std.proofs.Common.{◌≡◌, ◌<◌, ◌≤◌, ◌+◌, ℕ, List, ◌∷◌, Option, Some, None, length, drop, get_or, sym, ap, ◌∙◌, subst}
use Rattle.std.specs.Prelude.{nat_lt}
use Rattle.std.specs.List.{AllByRecursion}
use Rattle.std.proofs.lemmas.Bool.{cond-false, cond-true, le-ltb, lt-ltb}
use Rattle.std.proofs.lemmas.List.{drop_more}
use Rattle.std.proofs.lemmas.List.Elements.{All-from_recursion}
use Rattle.std.proofs.Math.ListN.{drop_of_length-le}
use Rattle.tall_lex.specs.declared.tokens.Token.{Token}
use Rattle.tall_expr.specs.Gives.{IsSlice}
use Rattle.tall_grammar.specs.Lexemes.{lexeme_of, lexemes_of}
use Rattle.tall_grammar.specs.Refusals.{limit, open_behind, too_deep_from}

pub slice_at : (text : List ℕ) (tokens : List Token) (i : ℕ) (t : Token) → AllByRecursion (IsSlice text) tokens → i < length tokens → t ≡ get_or tokens i t → IsSlice text t
slice_at text tokens i t all inside is = subst (IsSlice text) (sym is) (All-from_recursion (IsSlice text) tokens all i t inside)

next_token : (text : List ℕ) (tokens : List Token) (i d : ℕ) (t : Token) → i < length tokens → t ≡ get_or tokens i t
    → too_deep_from d (lexemes_of text (drop i tokens)) ≡ too_deep_from d (lexeme_of text t ∷ lexemes_of text (drop (i + 1) tokens))
next_token text tokens i d t inside is =
    ap (λ (ts : List Token). too_deep_from d (lexemes_of text ts)) (drop_more tokens i t inside ∙ ap (λ (x : Token). x ∷ drop (i + 1) tokens) (sym is))

-- not too deep behind a token
pub one_on : (text : List ℕ) (tokens : List Token) (i d e : ℕ) (t : Token) (all : Option ℕ) → i < length tokens → t ≡ get_or tokens i t → e ≡ open_behind d (lexeme_of text t) → e ≤ limit
    → too_deep_from d (lexemes_of text (drop i tokens)) ≡ all → too_deep_from e (lexemes_of text (drop (i + 1) tokens)) ≡ all
one_on text tokens i d e t all inside is behind few same =
    ap (λ n. too_deep_from n (lexemes_of text (drop (i + 1) tokens))) behind
    ∙ (sym (cond-false (nat_lt limit (open_behind d (lexeme_of text t))) (Some t.line) _ (le-ltb limit (open_behind d (lexeme_of text t)) (subst (λ n. n ≤ limit) behind few)))
    ∙ (sym (next_token text tokens i d t inside is) ∙ same))

-- too deep behind it
pub too_many : (text : List ℕ) (tokens : List Token) (i d e : ℕ) (t : Token) (all : Option ℕ) → i < length tokens → t ≡ get_or tokens i t → e ≡ open_behind d (lexeme_of text t) → limit < e
    → too_deep_from d (lexemes_of text (drop i tokens)) ≡ all → Some t.line ≡ all
too_many text tokens i d e t all inside is behind many same =
    sym (cond-true (nat_lt limit (open_behind d (lexeme_of text t))) (Some t.line) _ (lt-ltb limit (open_behind d (lexeme_of text t)) (subst (λ n. limit < n) behind many)))
    ∙ (sym (next_token text tokens i d t inside is) ∙ same)

-- no token is left
pub all_passed : (text : List ℕ) (tokens : List Token) (i d : ℕ) (all : Option ℕ) → length tokens ≤ i → too_deep_from d (lexemes_of text (drop i tokens)) ≡ all → None ≡ all
all_passed text tokens i d all over same = ap (λ (ts : List Token). too_deep_from d (lexemes_of text ts)) (sym (drop_of_length-le tokens over)) ∙ same
