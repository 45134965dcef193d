-- Scripts of any bytes by the grammar of tokens.
use Rattle.std.proofs.Common.{◌≡◌, ◌≢◌, ◌≤◌, ◌<◌, ◌∙◌, ℕ, suc, zero, refl, sym, ap, subst, List, [], take, length, arith, inl, inr}
use Rattle.std.specs.Prelude.{◌==◌, Ok, Err}
use Rattle.std.specs.Str.{IsUtf8, IsValidUpTo, is_utf8}
use Rattle.std.specs.Str.Lossy.{utf8_valid_len, valid_len_up_to}
use Rattle.std.proofs.lemmas.Bool.{cond_both, cond-false, cases_Bool, cases_lt, true≢false, eqb-true, eqb-false, ne_eqb}
use Rattle.std.proofs.lemmas.List.{take_all}
use Rattle.std.proofs.lemmas.Str.{IsUtf8-nil, IsUtf8-from_is_utf8, is_utf8-from_IsUtf8, utf8_valid_len_le, utf8_valid_len-IsValidUpTo}
use Rattle.tall_lex.specs.declared.tokens.Token.{Token}
use Rattle.tall_lex.specs.declared.places.Spot.{Spot}
use Rattle.tall_lex.specs.Places.{beginning, past}
use Rattle.tall_lex.specs.Tokens.{Lexed, place_of, tokens_of, tokens_of_bytes, then_bad}
use Rattle.tall_lex.specs.ScriptGrammar.{line_behind, place_behind, BytesHaveTokens, BytesHaveBadToken, in_text, before_other_bytes, other_byte}
use Rattle.tall_lex.proofs.Ends.{of_text}
use Rattle.tall_lex.proofs.SpotsBehind.{past_behind}
use Rattle.tall_lex.proofs.Scripts.{tokens_derived, tokens_are, bad_derived, bad_token_is}

-- ---- the longest front that is UTF-8

front_is_text : (bytes : List ℕ) (n : ℕ) → IsUtf8 (take (valid_len_up_to bytes n) bytes)
front_is_text bytes zero = IsUtf8-nil
front_is_text bytes (suc n) =
    cond_both (is_utf8 (take (suc n) bytes)) (suc n) (valid_len_up_to bytes n) (λ k. IsUtf8 (take k bytes))
    (λ is. IsUtf8-from_is_utf8 (take (suc n) bytes) is) (λ no. front_is_text bytes n)

front_is_longest : (bytes : List ℕ) (n m : ℕ) → m ≤ n → IsUtf8 (take m bytes) → m ≤ valid_len_up_to bytes n
front_is_longest bytes zero m below is = below
front_is_longest bytes (suc n) m below is =
    cond_both (is_utf8 (take (suc n) bytes)) (suc n) (valid_len_up_to bytes n) (λ k. m ≤ k) (λ yes. below)
    (λ no. elim (cases_lt m (suc n)) [
      | inl less ↦ front_is_longest bytes n m (omega (arith, less)) is
      | inr more ↦
          let same : m ≡ suc n = omega (arith, below, more) in
          absurd (true≢false (sym (is_utf8-from_IsUtf8 (take (suc n) bytes) (subst (λ k. IsUtf8 (take k bytes)) same is)) ∙ no))
    ])

text_of_all : (bytes : List ℕ) → utf8_valid_len bytes ≡ length bytes → IsUtf8 bytes
unfolding utf8_valid_len
text_of_all bytes h =
    subst IsUtf8 (take_all (utf8_valid_len bytes) bytes (let e : utf8_valid_len bytes ≡ length bytes = h in omega (arith, e)))
    (front_is_text bytes (length bytes))

valid_front : (bytes : List ℕ) → utf8_valid_len bytes ≢ length bytes → IsValidUpTo bytes (utf8_valid_len bytes)
unfolding utf8_valid_len
valid_front bytes other =
    let n = utf8_valid_len bytes in
    let within : n ≤ length bytes = utf8_valid_len_le bytes in
    record {
      short = omega (arith, within, other);
      front = front_is_text bytes (length bytes);
      longest = λ m more is. elim (cases_lt (length bytes) m) [
        | inl over ↦
            let whole : take m bytes ≡ take (length bytes) bytes = take_all m bytes (omega (arith, over)) ∙ sym (take_all (length bytes) bytes (omega arith)) in
            let long : length bytes ≤ n = front_is_longest bytes (length bytes) (length bytes) (omega arith) (subst IsUtf8 whole is) in
            absurd (omega (arith, long, within, other))
        | inr below ↦
            let long : m ≤ n = front_is_longest bytes (length bytes) m below is in
            absurd (omega (arith, long, more))
      ];
    }

-- ---- the reading

of_front : (bytes : List ℕ) (n : ℕ) → IsValidUpTo bytes n
    → tokens_of_bytes bytes ≡ then_bad (past beginning (take n bytes)) (tokens_of (take n bytes))
unfolding tokens_of_bytes
of_front bytes n valid =
    let same : utf8_valid_len bytes ≡ n = utf8_valid_len-IsValidUpTo bytes n valid in
    let short : n < length bytes = valid.short in
    cond-false (utf8_valid_len bytes == length bytes) _ _ (ne_eqb (utf8_valid_len bytes) (length bytes) (λ e. absurd (omega (arith, same, short, e))))
    ∙ ap (λ k. then_bad (past beginning (take k bytes)) (tokens_of (take k bytes))) same

pub bytes_derived : (bytes : List ℕ) (tokens : List Token) → BytesHaveTokens bytes tokens → tokens_of_bytes bytes ≡ Ok tokens
bytes_derived bytes tokens is = of_text bytes is.0 ∙ tokens_derived bytes tokens is.1

pub bad_bytes_derived : (bytes : List ℕ) (line place : ℕ) → BytesHaveBadToken bytes line place → tokens_of_bytes bytes ≡ Err (line, place)
bad_bytes_derived bytes line place (in_text b l p text is) = of_text bytes text ∙ bad_derived bytes line place is
bad_bytes_derived bytes line place (before_other_bytes b n l p valid is) =
    of_front bytes n valid ∙ ap (then_bad (past beginning (take n bytes))) (bad_derived (take n bytes) line place is)
bad_bytes_derived bytes line place (other_byte b n tokens valid is) =
    of_front bytes n valid ∙ ap (then_bad (past beginning (take n bytes))) (tokens_derived (take n bytes) tokens is)
    ∙ ap (λ s. Err (place_of s)) (past_behind [] (take n bytes))

never_tokens : (spot : Spot) (lexed : Lexed) (tokens : List Token) → then_bad spot lexed ≡ Ok tokens → ⊥
never_tokens spot (Ok ts) tokens h = cc
never_tokens spot (Err bad) tokens h = cc

pub bytes_are : (bytes : List ℕ) (tokens : List Token) → tokens_of_bytes bytes ≡ Ok tokens → BytesHaveTokens bytes tokens
bytes_are bytes tokens h = elim (cases_Bool (utf8_valid_len bytes == length bytes)) [
  | inl all ↦
      let text = text_of_all bytes (eqb-true (utf8_valid_len bytes) (length bytes) all) in
      (text, tokens_are bytes tokens (sym (of_text bytes text) ∙ h))
  | inr other ↦
      let valid = valid_front bytes (eqb-false (utf8_valid_len bytes) (length bytes) other) in
      absurd (never_tokens (past beginning (take (utf8_valid_len bytes) bytes)) _ tokens (sym (of_front bytes (utf8_valid_len bytes) valid) ∙ h))
]

bad_front : (bytes : List ℕ) (n line place : ℕ) (lexed : Lexed) → IsValidUpTo bytes n → tokens_of (take n bytes) ≡ lexed
    → then_bad (past beginning (take n bytes)) lexed ≡ Err (line, place) → BytesHaveBadToken bytes line place
bad_front bytes n line place (Ok tokens) valid is h =
    let there : Path Lexed (Err (line_behind (take n bytes), place_behind (take n bytes))) (Err (line, place)) =
    ap (λ s. Err (place_of s)) (sym (past_behind [] (take n bytes))) ∙ h in
    let pair : Path (ℕ × ℕ) (line_behind (take n bytes), place_behind (take n bytes)) (line, place) = cc in
    subst (λ x. BytesHaveBadToken bytes x place) (ap (λ x. x.0) pair)
    (subst (λ x. BytesHaveBadToken bytes (line_behind (take n bytes)) x) (ap (λ x. x.1) pair)
    (other_byte bytes n tokens valid (tokens_are (take n bytes) tokens is)))
bad_front bytes n line place (Err bad) valid is h =
    before_other_bytes bytes n line place valid (bad_token_is (take n bytes) line place (is ∙ h))

pub bad_bytes_are : (bytes : List ℕ) (line place : ℕ) → tokens_of_bytes bytes ≡ Err (line, place) → BytesHaveBadToken bytes line place
bad_bytes_are bytes line place h = elim (cases_Bool (utf8_valid_len bytes == length bytes)) [
  | inl all ↦
      let text = text_of_all bytes (eqb-true (utf8_valid_len bytes) (length bytes) all) in
      in_text bytes line place text (bad_token_is bytes line place (sym (of_text bytes text) ∙ h))
  | inr other ↦
      let n = utf8_valid_len bytes in
      let valid = valid_front bytes (eqb-false n (length bytes) other) in
      bad_front bytes n line place (tokens_of (take n bytes)) valid refl (sym (of_front bytes n valid) ∙ h)
]
