-- What is told of bytes is what they are, and they are nothing else.
use Rattle.std.proofs.Common.{◌≡◌, ◌<◌, ◌≤◌, ℕ, List, length, Option, Some, None, refl, sym, ap, ◌∙◌, subst, arith}
use Rattle.std.specs.Prelude.{IfSome, Result, Ok, Err}
use Rattle.tall_lex.specs.declared.tokens.Token.{Token}
use Rattle.tall_lex.specs.Tokens.{Lexed, tokens_of_bytes}
use Rattle.tall_grammar.specs.Lexemes.{Lexeme, lexemes_of}
use Rattle.tall_grammar.specs.Readers.{Input, input}
use Rattle.tall_grammar.specs.Refusals.{Parses, Reads, Verdict, bad_token, has_bad_token, has_tokens, is_too_long, last_line, limit, longest, too_deep, too_deep_at, too_long}
use Rattle.tall_grammar.specs.ScriptReader.{program}
use Rattle.tall_grammar.specs.Verdicts.{said}
use Rattle.tall_grammar.specs.declared.faults.Fault.{Fault}
use Rattle.tall_grammar.specs.declared.faults.Fault.TheVariants.{OutOfTurns}
use Rattle.tall_grammar.specs.Kept.{Flagged}
use Rattle.tall_grammar.specs.Trees.{SeenScript}
use Rattle.tall_expr.specs.Gives.{Gives}
use Rattle.tall_grammar.proofs.Enough.{tokens_answered}
use Rattle.tall_grammar.proofs.OfBytes.{lexemes_alone, lexemes_tell}

-- ---- of tokens

pub deep_sound : (last line : ℕ) (ts : List Lexeme) → too_deep ts ≡ Some line → Reads last ts (too_deep_at line)
deep_sound last line ts e = lexemes_tell 0 0 last ts (too_deep_at line) (Some line) e refl

pub deep_complete : (last line : ℕ) (ts : List Lexeme) (a : Verdict) → too_deep ts ≡ Some line → Reads last ts a → too_deep_at line ≡ a
deep_complete last line ts a e r = sym (lexemes_alone 0 0 last ts (too_deep_at line) a (Some line) e refl r)

module _ (turns depth last : ℕ) (ts : List Lexeme) (flat : too_deep ts ≡ None) where
  pub said_sound : (o : Option Verdict) → IfSome o (λ a. said last ts (program turns depth (input ts 1)) ≡ Some a) → IfSome o (Reads last ts)
  said_sound None h = tt
  said_sound (Some a) h = lexemes_tell turns depth last ts a None flat h

  pub said_complete : (o : Option Verdict) → IfSome o (λ a. said last ts (program turns depth (input ts 1)) ≡ Some a) → (a : Verdict) → Reads last ts a → IfSome o (λ found. found ≡ a)
  said_complete None h a r = tt
  said_complete (Some found) h a r = sym (lexemes_alone turns depth last ts found a None flat h r)

-- more turns than tokens, and a depth above the limit, don't run out
turns_last : (turns depth : ℕ) (ts : List Lexeme) → too_deep ts ≡ None → length ts < turns → limit < depth → program turns depth (input ts 1) ≡ Err OutOfTurns → ⊥
turns_last turns depth ts flat few deep tired =
    let u = tokens_answered turns depth 0 ts flat few deep in
    unsaid u.0 (sym (ap (said 0 ts) tired) ∙ u.1) where
      unsaid : (answer : Verdict) → ◌≡◌ {A = Option Verdict} None (Some answer) → ⊥
      unsaid answer e = absurd cc

-- so no function that gives what the reader gives answers that they did
pub never_tired : {A : Type 0} (turns depth : ℕ) (ts : List Lexeme) (view : A → Flagged SeenScript) (i : Input) (result : Result A Fault) (new : Input) → too_deep ts ≡ None
    → length ts < turns → limit < depth → i ≡ input ts 1 → Gives view (program turns depth i) result new → result ≡ Err OutOfTurns → ⊥
never_tired {A} turns depth ts view i result new flat few deep start gives tired =
    let given : Gives view (program turns depth (input ts 1)) (Err OutOfTurns) new = subst (λ (r : Result A Fault). Gives view (program turns depth (input ts 1)) r new) tired (subst (λ (j : Input). Gives view (program turns depth j) result new) start gives) in
    turns_last turns depth ts flat few deep (given (λ e. absurd cc))

-- ---- of bytes

same_tokens : (ts us : List Token) → ◌≡◌ {A = Lexed} (Ok ts) (Ok us) → ts ≡ us
same_tokens ts us e = cc

same_bad : (l p : ℕ) (b : ℕ × ℕ) → ◌≡◌ {A = Lexed} (Err (l, p)) (Err b) → (l, p) ≡ b
same_bad l p b e = cc

not_bad : (ts : List Token) (b : ℕ × ℕ) → ◌≡◌ {A = Lexed} (Ok ts) (Err b) → ⊥
not_bad ts b e = absurd cc

pub long_sound : (bytes : List ℕ) → longest < length bytes → Parses bytes too_long
long_sound bytes long = is_too_long long

pub long_complete : (bytes : List ℕ) (a : Verdict) → longest < length bytes → Parses bytes a → too_long ≡ a
long_complete bytes _ long (is_too_long l) = refl
long_complete bytes _ long (has_bad_token {l} {p} short e) = absurd (omega (arith, long, short))
long_complete bytes a long (has_tokens {tokens} short e r) = absurd (omega (arith, long, short))

pub bad_sound : (bytes : List ℕ) (line place : ℕ) → length bytes ≤ longest → tokens_of_bytes bytes ≡ Err (line, place) → Parses bytes (bad_token line place)
bad_sound bytes line place short e = has_bad_token short e

pub bad_complete : (bytes : List ℕ) (line place : ℕ) (a : Verdict) → length bytes ≤ longest → tokens_of_bytes bytes ≡ Err (line, place) → Parses bytes a → bad_token line place ≡ a
bad_complete bytes line place _ short e (is_too_long long) = absurd (omega (arith, long, short))
bad_complete bytes line place _ short e (has_bad_token {l} {p} _ f) = ap (λ (b : ℕ × ℕ). bad_token b.0 b.1) (same_bad line place (l, p) (sym e ∙ f))
bad_complete bytes line place a short e (has_tokens {tokens} _ f r) = absurd (not_bad tokens (line, place) (sym f ∙ e))

module _ (bytes : List ℕ) (tokens : List Token) (short : length bytes ≤ longest) (are : tokens_of_bytes bytes ≡ Ok tokens) (o : Option Verdict) where
  pub tokens_sound : IfSome o (Reads (last_line bytes) (lexemes_of bytes tokens)) → IfSome o (Parses bytes)
  tokens_sound h = by o h where
    by : (o : Option Verdict) → IfSome o (Reads (last_line bytes) (lexemes_of bytes tokens)) → IfSome o (Parses bytes)
    by None h = tt
    by (Some a) h = has_tokens short are h

  pub tokens_complete : ((a : Verdict) → Reads (last_line bytes) (lexemes_of bytes tokens) a → IfSome o (λ found. found ≡ a)) → (a : Verdict) → Parses bytes a → IfSome o (λ found. found ≡ a)
  tokens_complete all _ (is_too_long long) = absurd (omega (arith, long, short))
  tokens_complete all _ (has_bad_token {l} {p} _ e) = absurd (not_bad tokens (l, p) (sym are ∙ e))
  tokens_complete all a (has_tokens {tokens = ts} _ e r) = all a (subst (λ (us : List Token). Reads (last_line bytes) (lexemes_of bytes us) a) (same_tokens ts tokens (sym e ∙ are)) r)
