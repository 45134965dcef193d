-- With more turns than tokens, and a depth above the limit, the reader says what tokens and bytes are. So each text has an
-- answer, and no other.
use Rattle.std.proofs.Common.{◌≡◌, ℕ, ◌+◌, ◌<◌, ◌≤◌, Bool, true, false, List, [], length, Option, Some, None, Ok, Err, refl, sym, ap, ◌∙◌, arith, length-append}
use Rattle.std.proofs.lemmas.Bool.Decides.{nat_tests}
use Rattle.std.proofs.lemmas.List.{length-map}
use Rattle.std.specs.Prelude.{if◌then◌else◌, nat_lt}
use Rattle.tall_lex.specs.declared.tokens.Token.{Token}
use Rattle.tall_lex.specs.Tokens.{Lexed, tokens_of_bytes}
use Rattle.tall_lex.specs.ScriptGrammar.{Tokens, at_end, token, passed_over}
use Rattle.tall_lex.proofs.Begun.{token_some}
use Rattle.tall_lex.proofs.ByteScripts.{bytes_are}
use Rattle.tall_grammar.specs.declared.faults.Fault.TheVariants.{Stop, OutOfTurns, Memory}
use Rattle.tall_grammar.specs.Lexemes.{Lexeme, lexeme_of, lexemes_of}
use Rattle.tall_grammar.specs.Refusals.{Parses, Verdict, bad_token, has_bad_token, has_tokens, is_too_long, last_line, limit, longest, too_deep, too_deep_at, too_long}
use Rattle.tall_grammar.specs.Kept.{Flagged}
use Rattle.tall_grammar.specs.Trees.{SeenScript}
use Rattle.tall_grammar.specs.Readers.{Outcome, input}
use Rattle.tall_grammar.specs.ScriptReader.{program}
use Rattle.tall_grammar.specs.Verdicts.{lexemes_said, of_flag, said, syntax_from, tokens_said, verdict}
use Rattle.tall_grammar.proofs.Lasting.{Leaves}
use Rattle.tall_grammar.proofs.LastingScripts.{lasts_program}
use Rattle.tall_grammar.proofs.OfBytes.{same_answer, lexemes_alone, verdict_tells}

-- ---- no more tokens than bytes

few_of : (before : List ℕ) (closes : Bool) (text : List ℕ) (tokens : List Token) → Tokens before closes text tokens → length tokens ≤ length text
few_of before closes text tokens (at_end p c) = omega arith
few_of before closes all all_tokens (token p c kind text rest tokens is stand more) =
    let le = few_of _ _ rest tokens more in
    let some = token_some kind text is in
    omega (arith, le, some, length-append text rest)
few_of before closes all tokens (passed_over p c text rest tokens1 gap more) =
    let le = few_of _ _ rest tokens1 more in
    omega (arith, le, length-append text rest)

few_tokens : (bytes : List ℕ) (tokens : List Token) → tokens_of_bytes bytes ≡ Ok tokens → length tokens ≤ length bytes
few_tokens bytes tokens h = few_of [] false bytes tokens (bytes_are bytes tokens h).1

-- ---- there is an answer

pub tokens_answered : (k d last : ℕ) (ts : List Lexeme) → too_deep ts ≡ None → length ts < k → limit < d → (answer : Verdict) × (said last ts (program k d (input ts 1)) ≡ Some answer)
tokens_answered k d last ts flat less deep = by (program k d (input ts 1)) ((lasts_program k d deep 0).leaves (input ts 1) (record { fewer = less; low = omega arith; flat = flat })) where
  by : (o : Outcome (Flagged SeenScript)) → Leaves k 0 o → (answer : Verdict) × (said last ts o ≡ Some answer)
  by (Ok p) h = (of_flag p.0, refl)
  by (Err (Stop n)) h = (syntax_from last ts n, refl)
  by (Err OutOfTurns) h = absurd h
  by (Err Memory) h = absurd h

lexemes_answered : (k d last : ℕ) (ts : List Lexeme) → length ts < k → limit < d → (deep : Option ℕ) → too_deep ts ≡ deep → (answer : Verdict) × (lexemes_said k d last ts deep ≡ Some answer)
lexemes_answered k d last ts less enough None e = tokens_answered k d last ts e less enough
lexemes_answered k d last ts less enough (Some line) e = (too_deep_at line, refl)

pub verdict_answered : (k d : ℕ) (bytes : List ℕ) → length bytes < k → limit < d → (answer : Verdict) × (verdict k d bytes ≡ Some answer)
verdict_answered k d bytes less enough = by (nat_lt longest (length bytes)) where
  of_tokens : (lexed : Lexed) → tokens_of_bytes bytes ≡ lexed → (answer : Verdict) × (tokens_said k d bytes lexed ≡ Some answer)
  of_tokens (Err bad) e = (bad_token bad.0 bad.1, refl)
  of_tokens (Ok tokens) e =
      let le = few_tokens bytes tokens e in
      let same : length (lexemes_of bytes tokens) ≡ length tokens = length-map tokens (lexeme_of bytes) in
      lexemes_answered k d (last_line bytes) (lexemes_of bytes tokens) (omega (arith, le, same, less)) enough (too_deep (lexemes_of bytes tokens)) refl

  by : (b : Bool) → (answer : Verdict) × ((if b then Some too_long else tokens_said k d bytes (tokens_of_bytes bytes)) ≡ Some answer)
  by true = (too_long, refl)
  by false = of_tokens (tokens_of_bytes bytes) refl

-- each text has an answer
pub some_answer : (bytes : List ℕ) → (answer : Verdict) × Parses bytes answer
some_answer bytes = let u = verdict_answered (length bytes + 1) (limit + 1) bytes (omega arith) (omega arith) in (u.0, verdict_tells (length bytes + 1) (limit + 1) bytes u.0 u.1)

-- ---- there is no other

not_long : (k d : ℕ) (bytes : List ℕ) (a : Verdict) → length bytes ≤ longest → verdict k d bytes ≡ Some a → tokens_said k d bytes (tokens_of_bytes bytes) ≡ Some a
not_long k d bytes a short q =
    let e : nat_lt longest (length bytes) ≡ false = grind (arith, nat_tests) in
    sym (ap (λ x. if x then Some too_long else tokens_said k d bytes (tokens_of_bytes bytes)) e) ∙ q

pub verdict_alone : (k d : ℕ) (bytes : List ℕ) (a b : Verdict) → verdict k d bytes ≡ Some a → Parses bytes b → b ≡ a
verdict_alone k d bytes a _ q (is_too_long long) =
    let e : nat_lt longest (length bytes) ≡ true = grind (arith, nat_tests) in
    same_answer too_long a (sym (ap (λ x. if x then Some too_long else tokens_said k d bytes (tokens_of_bytes bytes)) e) ∙ q)
verdict_alone k d bytes a _ q (has_bad_token {l} {p} short h) =
    same_answer (bad_token l p) a (sym (ap (tokens_said k d bytes) h) ∙ not_long k d bytes a short q)
verdict_alone k d bytes a b q (has_tokens {tokens} {answer} short h r) =
    lexemes_alone k d (last_line bytes) (lexemes_of bytes tokens) a b (too_deep (lexemes_of bytes tokens)) refl (sym (ap (tokens_said k d bytes) h) ∙ not_long k d bytes a short q) r

-- each text has no other answer
pub answer_alone : (bytes : List ℕ) (a b : Verdict) → Parses bytes a → Parses bytes b → a ≡ b
answer_alone bytes a b r s =
    let u = verdict_answered (length bytes + 1) (limit + 1) bytes (omega arith) (omega arith) in
    verdict_alone (length bytes + 1) (limit + 1) bytes u.0 a u.1 r ∙ sym (verdict_alone (length bytes + 1) (limit + 1) bytes u.0 b u.1 s)
