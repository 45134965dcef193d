-- What is said of bytes is what they are, and they are nothing else.
use Rattle.std.proofs.Common.{◌≡◌, ℕ, ◌<◌, ◌≤◌, List, length, Bool, true, false, Option, Some, None, Ok, Err, refl, sym, ap, ◌∙◌, subst, arith}
use Rattle.std.specs.Bool.{Decides}
use Rattle.std.specs.Prelude.{if◌then◌else◌, nat_lt}
use Rattle.std.proofs.lemmas.Bool.Decides.{Decides-ltb}
use Rattle.std.proofs.lemmas.Bool.{false≢true}
use Rattle.tall_lex.specs.Tokens.{Lexed, tokens_of_bytes}
use Rattle.tall_grammar.specs.Lexemes.{Lexeme, lexemes_of}
use Rattle.tall_grammar.specs.Refusals.{Parses, Reads, Verdict, bad_token, has_bad_token, has_tokens, is_script, is_too_deep, is_too_high, is_too_long, last_line, longest, stops_short, ends_early, too_deep, too_deep_at, too_long}
use Rattle.tall_grammar.specs.Verdicts.{lexemes_said, tokens_said, verdict}
use Rattle.tall_grammar.proofs.Telling.{said_alone, said_tells}

pub same_answer : (a b : Verdict) → ◌≡◌ {A = Option Verdict} (Some a) (Some b) → a ≡ b
same_answer a b e = cc

-- ---- of tokens

pub lexemes_tell : (k d last : ℕ) (ts : List Lexeme) (a : Verdict) (deep : Option ℕ) → too_deep ts ≡ deep → lexemes_said k d last ts deep ≡ Some a → Reads last ts a
lexemes_tell k d last ts a None e q = said_tells k d last ts a e q
lexemes_tell k d last ts a (Some line) e q = subst (Reads last ts) (same_answer (too_deep_at line) a q) (is_too_deep e)

none_deep : (ts : List Lexeme) (l : ℕ) → too_deep ts ≡ Some l → too_deep ts ≡ None → ⊥
none_deep ts l e f = let g : ◌≡◌ {A = Option ℕ} (Some l) None = sym e ∙ f in absurd cc

same_line_of : (l m : ℕ) → ◌≡◌ {A = Option ℕ} (Some l) (Some m) → l ≡ m
same_line_of l m e = cc

pub lexemes_alone : (k d last : ℕ) (ts : List Lexeme) (a b : Verdict) (deep : Option ℕ) → too_deep ts ≡ deep → lexemes_said k d last ts deep ≡ Some a → Reads last ts b → b ≡ a
lexemes_alone k d last ts a b None e q r = said_alone k d last ts a b e q r
lexemes_alone k d last ts a _ (Some line) e q (is_too_deep {l} f) = ap too_deep_at (same_line_of l line (sym f ∙ e)) ∙ same_answer (too_deep_at line) a q
lexemes_alone k d last ts a _ (Some line) e q (stops_short {l} f s) = absurd (none_deep ts line e f)
lexemes_alone k d last ts a _ (Some line) e q (ends_early f s) = absurd (none_deep ts line e f)
lexemes_alone k d last ts a _ (Some line) e q (is_too_high {l} {s} f r h) = absurd (none_deep ts line e f)
lexemes_alone k d last ts a _ (Some line) e q (is_script {s} f r h) = absurd (none_deep ts line e f)

-- ---- of bytes

bad_pair : ℕ × ℕ → Lexed
bad_pair bad = Err bad

tokens_tell : (k d : ℕ) (bytes : List ℕ) (a : Verdict) → length bytes ≤ longest → (lexed : Lexed) → tokens_of_bytes bytes ≡ lexed → tokens_said k d bytes lexed ≡ Some a → Parses bytes a
tokens_tell k d bytes a short (Err bad) e q = subst (Parses bytes) (same_answer (bad_token bad.0 bad.1) a q) (has_bad_token short e)
tokens_tell k d bytes a short (Ok tokens) e q = has_tokens short e (lexemes_tell k d (last_line bytes) (lexemes_of bytes tokens) a (too_deep (lexemes_of bytes tokens)) refl q)

not_long : (bytes : List ℕ) → (longest < length bytes → ⊥) → length bytes ≤ longest
not_long bytes h = omega (arith, h)

pub verdict_tells : (k d : ℕ) (bytes : List ℕ) (a : Verdict) → verdict k d bytes ≡ Some a → Parses bytes a
verdict_tells k d bytes a q = by (nat_lt longest (length bytes)) (Decides-ltb longest (length bytes)) refl q
  where
    by : (b : Bool) → Decides b (longest < length bytes) → b ≡ nat_lt longest (length bytes)
        → (if b then Some too_long else tokens_said k d bytes (tokens_of_bytes bytes)) ≡ Some a → Parses bytes a
    by true t e r = let long = t.0 refl in subst (Parses bytes) (same_answer too_long a r) (is_too_long (omega (arith, long)))
    by false t e r = tokens_tell k d bytes a (not_long bytes (λ l. false≢true (t.1 l))) (tokens_of_bytes bytes) refl r
