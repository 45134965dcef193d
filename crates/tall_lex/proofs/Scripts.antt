-- The tokens of a script, and its first bad token, by the grammar of tokens and by the reading of scripts.
use Rattle.std.proofs.Common.{◌≡◌, ◌≤◌, ◌<◌, ◌∙◌, ℕ, suc, zero, refl, sym, ap, subst, Bool, false, List, [], ◌∷◌, ◌++◌, ◌+◌, take, drop, length, arith}
use Rattle.std.specs.Prelude.{Ok, Err}
use Rattle.std.proofs.lemmas.List.{length-append}
use Rattle.std.proofs.Math.Seq.{take-append_seam, drop-append_seam}
use Rattle.tall_lex.specs.declared.tokens.TokenKind.{TokenKind}
use Rattle.tall_lex.specs.declared.tokens.Token.{Token}
use Rattle.tall_lex.specs.Bytes.{first}
use Rattle.tall_lex.specs.Places.{past}
use Rattle.tall_lex.specs.Pieces.{closes_value}
use Rattle.tall_lex.specs.Tokens.{Lexed, with_token, place_of, tokens_from, tokens_of}
use Rattle.tall_lex.specs.TokenGrammar.{IsToken, MayStand}
use Rattle.tall_lex.specs.GapGrammar.{PassedOver}
use Rattle.tall_lex.specs.BadTokens.{BadToken}
use Rattle.tall_lex.specs.ScriptGrammar.{line_behind, place_behind, is_bare, Tokens, at_end, token, passed_over, FirstBadToken, bad, bad_behind_token, bad_behind_gap, HasTokens, HasBadToken}
use Rattle.tall_lex.proofs.Steps.{token_step, gap_step, bad_step}
use Rattle.tall_lex.proofs.Found.{Found, found_token, found_gap, found_bad}
use Rattle.tall_lex.proofs.Begun.{token_is, bad_is, begin_found, some_front, token_some, gap_some, bad_some}
use Rattle.tall_lex.proofs.GapPieces.{gap_is}
use Rattle.tall_lex.proofs.SpotsBehind.{spot_behind, past_behind}

-- the reading of what is left of a script behind these bytes
abbrev read : List ℕ → Bool → List ℕ → Lexed
read before closes text = tokens_from (spot_behind before) (length before) closes 0 text

first_front : (text rest : List ℕ) → 0 < length text → first (text ++ rest) ≡ first text
first_front [] rest h = absurd (omega (arith, h))
first_front (b ∷ text) rest h = refl

-- ---- behind a piece

behind_it : (before text rest : List ℕ) (ends : Bool)
    → tokens_from (past (spot_behind before) (take (length text) (text ++ rest))) (length before + length text) ends 0 (drop (length text) (text ++ rest))
    ≡ read (before ++ text) ends rest
behind_it before text rest ends =
    ap (λ t. tokens_from (past (spot_behind before) t) (length before + length text) ends 0 (drop (length text) (text ++ rest))) (take-append_seam text rest)
    ∙ ap (λ t. tokens_from (past (spot_behind before) text) (length before + length text) ends 0 t) (drop-append_seam text rest)
    ∙ ap (λ s. tokens_from s (length before + length text) ends 0 rest) (past_behind before text)
    ∙ ap (λ n. tokens_from (spot_behind (before ++ text)) n ends 0 rest) (sym (length-append before text))

read_token : (before : List ℕ) (closes : Bool) (kind : TokenKind) (text rest : List ℕ) → IsToken kind text → MayStand closes kind text rest
    → read before closes (text ++ rest)
    ≡ with_token (record { kind = kind; line = line_behind before; from = length before; to = length before + length text })
    (read (before ++ text) (closes_value kind (first text)) rest)
read_token before closes kind text rest is stand =
    let t : Token = record { kind = kind; line = line_behind before; from = length before; to = length before + length text } in
    token_step (text ++ rest) (length text) (spot_behind before) (length before) closes kind
    (token_is (is_bare before) closes kind text rest is stand) (some_front text rest (token_some kind text is)) (token_some kind text is)
    ∙ ap (with_token t) (behind_it before text rest (closes_value kind (first (text ++ rest)))
    ∙ ap (λ b. read (before ++ text) (closes_value kind b) rest) (first_front text rest (token_some kind text is)))

read_gap : (before : List ℕ) (closes : Bool) (text rest : List ℕ) → PassedOver (is_bare before) text rest
    → read before closes (text ++ rest) ≡ read (before ++ text) false rest
read_gap before closes text rest is =
    gap_step (text ++ rest) (length text) (spot_behind before) (length before) closes
    (gap_is (is_bare before) closes text rest is) (some_front text rest (gap_some (is_bare before) text rest is)) (gap_some (is_bare before) text rest is)
    ∙ behind_it before text rest false

read_bad : (before : List ℕ) (closes : Bool) (skipped rest : List ℕ) → BadToken (is_bare before) closes skipped rest
    → read before closes (skipped ++ rest) ≡ Err (line_behind (before ++ skipped), place_behind (before ++ skipped))
read_bad before closes skipped rest is =
    bad_step (skipped ++ rest) (length skipped) (spot_behind before) (length before) closes
    (bad_is (is_bare before) closes skipped rest is) (bad_some (is_bare before) closes skipped rest is)
    ∙ ap (λ t. Err (place_of (past (spot_behind before) t))) (take-append_seam skipped rest)
    ∙ ap (λ s. Err (place_of s)) (past_behind before skipped)

-- ---- what the grammar has is what is read

tokens_read : (before : List ℕ) (closes : Bool) (text : List ℕ) (tokens : List Token) → Tokens before closes text tokens
    → read before closes text ≡ Ok tokens
unfolding tokens_from
tokens_read before closes text tokens (at_end p c) = refl
tokens_read before closes text tokens (token p c kind t rest more is stand next) =
    read_token before closes kind t rest is stand
    ∙ ap (with_token (record { kind = kind; line = line_behind before; from = length before; to = length before + length t }))
    (tokens_read (before ++ t) (closes_value kind (first t)) rest more next)
tokens_read before closes text tokens (passed_over p c t rest more is next) =
    read_gap before closes t rest is ∙ tokens_read (before ++ t) false rest tokens next

bad_read : (before : List ℕ) (closes : Bool) (text : List ℕ) (line place : ℕ) → FirstBadToken before closes text line place
    → read before closes text ≡ Err (line, place)
bad_read before closes text line place (bad p c skipped rest is) = read_bad before closes skipped rest is
bad_read before closes text line place (bad_behind_token p c kind t rest l n is stand next) =
    read_token before closes kind t rest is stand
    ∙ ap (with_token (record { kind = kind; line = line_behind before; from = length before; to = length before + length t }))
    (bad_read (before ++ t) (closes_value kind (first t)) rest line place next)
bad_read before closes text line place (bad_behind_gap p c t rest l n is next) =
    read_gap before closes t rest is ∙ bad_read (before ++ t) false rest line place next

-- ---- the grammar has tokens or a bad token for each script

data Ending : List ℕ → Bool → List ℕ → Type 0 where
  has_tokens : (before : List ℕ) (closes : Bool) (text : List ℕ) (tokens : List Token) → Tokens before closes text tokens → Ending before closes text
  has_bad : (before : List ℕ) (closes : Bool) (text : List ℕ) (line place : ℕ) → FirstBadToken before closes text line place → Ending before closes text

behind_token : (before : List ℕ) (closes : Bool) (kind : TokenKind) (text rest : List ℕ) → IsToken kind text → MayStand closes kind text rest
    → Ending (before ++ text) (closes_value kind (first text)) rest → Ending before closes (text ++ rest)
behind_token before closes kind text rest is stand (has_tokens p c r tokens next) =
    has_tokens before closes (text ++ rest) _ (token before closes kind text rest tokens is stand next)
behind_token before closes kind text rest is stand (has_bad p c r line place next) =
    has_bad before closes (text ++ rest) line place (bad_behind_token before closes kind text rest line place is stand next)

behind_gap : (before : List ℕ) (closes : Bool) (text rest : List ℕ) → PassedOver (is_bare before) text rest
    → Ending (before ++ text) false rest → Ending before closes (text ++ rest)
behind_gap before closes text rest is (has_tokens p c r tokens next) =
    has_tokens before closes (text ++ rest) tokens (passed_over before closes text rest tokens is next)
behind_gap before closes text rest is (has_bad p c r line place next) =
    has_bad before closes (text ++ rest) line place (bad_behind_gap before closes text rest line place is next)

shorter : (text rest : List ℕ) (n : ℕ) → 0 < length text → length (text ++ rest) ≤ suc n → length rest ≤ n
shorter text rest n h k = omega (arith, h, k, length-append text rest)

ending_of : (bare closes : Bool) (text before : List ℕ) (n : ℕ) → Found bare closes text → bare ≡ is_bare before → length text ≤ suc n
    → ((p : List ℕ) (c : Bool) (rest : List ℕ) → length rest ≤ n → Ending p c rest) → Ending before closes text
ending_of bare closes text before n (found_token b c kind t rest is stand) same short go =
    behind_token before closes kind t rest is stand (go (before ++ t) (closes_value kind (first t)) rest (shorter t rest n (token_some kind t is) short))
ending_of bare closes text before n (found_gap b c t rest is) same short go =
    behind_gap before closes t rest (subst (λ x. PassedOver x t rest) same is) (go (before ++ t) false rest (shorter t rest n (gap_some bare t rest is) short))
ending_of bare closes text before n (found_bad b c skipped rest is) same short go =
    has_bad before closes (skipped ++ rest) _ _ (bad before closes skipped rest (subst (λ x. BadToken x closes skipped rest) same is))

ending : (n : ℕ) (before : List ℕ) (closes : Bool) (text : List ℕ) → length text ≤ n → Ending before closes text
ending n before closes [] short = has_tokens before closes [] [] (at_end before closes)
ending zero before closes (b ∷ text) short = absurd (omega (arith, short))
ending (suc n) before closes (b ∷ text) short =
    ending_of (is_bare before) closes (b ∷ text) before n (begin_found (is_bare before) closes b text) refl short (ending n)

-- ---- scripts

pub tokens_derived : (script : List ℕ) (tokens : List Token) → HasTokens script tokens → tokens_of script ≡ Ok tokens
tokens_derived script tokens is = tokens_read [] false script tokens is

pub bad_derived : (script : List ℕ) (line place : ℕ) → HasBadToken script line place → tokens_of script ≡ Err (line, place)
bad_derived script line place is = bad_read [] false script line place is

pub data Read : List ℕ → Type 0 where
  as_tokens : (script : List ℕ) (tokens : List Token) → HasTokens script tokens → Read script
  as_bad : (script : List ℕ) (line place : ℕ) → HasBadToken script line place → Read script

reading_of : (before : List ℕ) (closes : Bool) (script : List ℕ) → before ≡ [] → closes ≡ false → Ending before closes script → Read script
reading_of before closes script p q (has_tokens b c s tokens is) =
    as_tokens script tokens (subst (λ x. Tokens x false script tokens) p (subst (λ x. Tokens before x script tokens) q is))
reading_of before closes script p q (has_bad b c s line place is) =
    as_bad script line place (subst (λ x. FirstBadToken x false script line place) p (subst (λ x. FirstBadToken before x script line place) q is))

reading : (script : List ℕ) → Read script
reading script = reading_of [] false script refl refl (ending (length script) [] false script (omega arith))

same_tokens : (script : List ℕ) (tokens : List Token) → tokens_of script ≡ Ok tokens → Read script → HasTokens script tokens
same_tokens script tokens h (as_tokens s others is) =
    let both : Path Lexed (Ok others) (Ok tokens) = sym (tokens_derived script others is) ∙ h in
    let same : others ≡ tokens = cc in
    subst (HasTokens script) same is
same_tokens script tokens h (as_bad s line place is) =
    let both : Path Lexed (Err (line, place)) (Ok tokens) = sym (bad_derived script line place is) ∙ h in cc

same_bad : (script : List ℕ) (line place : ℕ) → tokens_of script ≡ Err (line, place) → Read script → HasBadToken script line place
same_bad script line place h (as_tokens s others is) =
    let both : Path Lexed (Ok others) (Err (line, place)) = sym (tokens_derived script others is) ∙ h in cc
same_bad script line place h (as_bad s l p is) =
    let both : Path Lexed (Err (l, p)) (Err (line, place)) = sym (bad_derived script l p is) ∙ h in
    let pair : Path (ℕ × ℕ) (l, p) (line, place) = cc in
    subst (λ x. HasBadToken script x place) (ap (λ x. x.0) pair) (subst (λ x. HasBadToken script l x) (ap (λ x. x.1) pair) is)

pub tokens_are : (script : List ℕ) (tokens : List Token) → tokens_of script ≡ Ok tokens → HasTokens script tokens
tokens_are script tokens h = same_tokens script tokens h (reading script)

pub bad_token_is : (script : List ℕ) (line place : ℕ) → tokens_of script ≡ Err (line, place) → HasBadToken script line place
bad_token_is script line place h = same_bad script line place h (reading script)
