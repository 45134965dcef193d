-- Lines of a text and of its tokens.
use Rattle.std.proofs.Common.{◌≡◌, ◌<◌, ◌≤◌, ◌+◌, ℕ, List, [], ◌∷◌, length, map, drop, get_or, sym, ap, ◌∙◌, subst}
use Rattle.std.specs.Prelude.{◌==◌}
use Rattle.std.specs.List.{count_by}
use Rattle.std.proofs.lemmas.List.{drop-map, drop_more, length-map}
use Rattle.std.proofs.Math.ListN.{drop_of_length-le}
use Rattle.tall_lex.specs.declared.tokens.Token.{Token}
use Rattle.tall_lex.proofs.SpotsBehind.{past_behind}
use Rattle.tall_grammar.specs.Lexemes.{lexeme_of, lexemes_of}
use Rattle.tall_grammar.specs.Refusals.{last_line}
use Rattle.tall_grammar.specs.Verdicts.{line_from}

pub last_line_is : (text : List ℕ) → last_line text ≡ 1 + count_by (λ b. b == 10) text
last_line_is text = let e = past_behind [] text in ap (λ s. s.line) e

-- tokens from a place on
lexemes_from : (text : List ℕ) (tokens : List Token) (i : ℕ) (t : Token) → i < length tokens → t ≡ get_or tokens i t
    → drop i (lexemes_of text tokens) ≡ lexeme_of text t ∷ drop (i + 1) (lexemes_of text tokens)
lexemes_from text tokens i t inside is =
    drop-map (lexeme_of text) i tokens
    ∙ (ap (map (lexeme_of text)) (drop_more tokens i t inside ∙ ap (λ (x : Token). x ∷ drop (i + 1) tokens) (sym is))
    ∙ ap (λ w. lexeme_of text t ∷ w) (sym (drop-map (lexeme_of text) (i + 1) tokens)))

pub line_at : (text : List ℕ) (tokens : List Token) (i : ℕ) (t : Token) (last : ℕ) → i < length tokens → t ≡ get_or tokens i t
    → line_from last (drop i (lexemes_of text tokens)) ≡ t.line
line_at text tokens i t last inside is = ap (line_from last) (lexemes_from text tokens i t inside is)

pub no_line_at : (text : List ℕ) (tokens : List Token) (i last : ℕ) → length tokens ≤ i → line_from last (drop i (lexemes_of text tokens)) ≡ last
no_line_at text tokens i last outside =
    ap (line_from last) (drop_of_length-le (lexemes_of text tokens) (subst (λ n. n ≤ i) (sym (length-map tokens (lexeme_of text))) outside))
