-- How the tokens of a rest of a script go on behind a piece.
use Rattle.std.proofs.Common.{◌≡◌, ℕ, suc, zero, ◌+◌, ◌-◌, ◌<◌, ◌≤◌, Bool, false, List, [], ◌∷◌, ◌++◌, length, take, drop, refl, ap, ◌∙◌, sym, arith, append_assoc}
use Rattle.std.proofs.Math.ListN.{drop_of_length-le}
use Rattle.std.proofs.lemmas.List.{append-nil, length-drop, drop-drop}
use Rattle.std.specs.Prelude.{Ok, Err}
use Rattle.tall_lex.specs.declared.tokens.TokenKind.{TokenKind}
use Rattle.tall_lex.specs.declared.tokens.Token.{Token}
use Rattle.tall_lex.specs.declared.places.Spot.{Spot}
use Rattle.tall_lex.specs.declared.pieces.Piece.TheVariants.{Token as token, Gap, Bad}
use Rattle.tall_lex.specs.Bytes.{first}
use Rattle.tall_lex.specs.Places.{behind, past}
use Rattle.tall_lex.specs.Pieces.{piece_at, closes_value}
use Rattle.tall_lex.specs.Tokens.{Lexed, with_token, place_of, begun, tokens_from, InOrder}

-- the tokens so far, and then those of the rest
abbrev pub with_all : List Token → Lexed → Lexed
with_all ts (Ok us) = Ok (ts ++ us)
with_all ts (Err bad) = Err bad

pub with_all_one : (ts : List Token) (t : Token) (rest : Lexed) → with_all (ts ++ t ∷ []) rest ≡ with_all ts (with_token t rest)
with_all_one ts t (Ok us) = ap Ok (append_assoc ts (t ∷ []) us)
with_all_one ts t (Err bad) = refl

-- the bytes that belong to the piece before are passed over
pub skip : (text : List ℕ) (k : ℕ) (spot : Spot) (at : ℕ) (closes : Bool)
    → tokens_from spot at closes k text ≡ tokens_from (past spot (take k text)) (at + k) closes 0 (drop k text)
unfolding tokens_from
skip [] zero spot at closes = refl
skip [] (suc k) spot at closes = refl
skip (b ∷ rest) zero spot at closes =
    let e : at ≡ at + 0 = omega arith in ap (λ n. tokens_from spot n closes 0 (b ∷ rest)) e
skip (b ∷ rest) (suc k) spot at closes =
    let e : (at + 1) + k ≡ at + suc k = omega arith in
    skip rest k (behind spot b) (at + 1) closes
    ∙ ap (λ n. tokens_from (past (behind spot b) (take k rest)) n closes 0 (drop k rest)) e

-- behind a token
pub token_step : (text : List ℕ) (n : ℕ) (spot : Spot) (at : ℕ) (closes : Bool) (kind : TokenKind)
    → piece_at spot.bare closes text ≡ token kind n → 0 < length text → 0 < n
    → tokens_from spot at closes 0 text ≡ with_token (record { kind = kind; line = spot.line; from = at; to = at + n })
    (tokens_from (past spot (take n text)) (at + n) (closes_value kind (first text)) 0 (drop n text))
unfolding tokens_from
token_step [] n spot at closes kind is some long = absurd (omega (arith, some))
token_step (b ∷ rest) zero spot at closes kind is some long = absurd (omega (arith, long))
token_step (b ∷ rest) (suc m) spot at closes kind is some long =
    let go : Bool → ℕ → Lexed = λ ends k. tokens_from (behind spot b) (at + 1) ends k rest in
    let e : suc m - 1 ≡ m = omega arith in
    let t : Token = record { kind = kind; line = spot.line; from = at; to = at + suc m } in
    ap (λ p. begun spot at (b ∷ rest) p go) is
    ∙ ap (λ k. with_token t (go (closes_value kind b) k)) e
    ∙ ap (with_token t) (skip rest m (behind spot b) (at + 1) (closes_value kind b))
    ∙ (let f : (at + 1) + m ≡ at + suc m = omega arith in
    ap (λ k. with_token t (tokens_from (past (behind spot b) (take m rest)) k (closes_value kind b) 0 (drop m rest))) f)

-- behind what is passed over
pub gap_step : (text : List ℕ) (n : ℕ) (spot : Spot) (at : ℕ) (closes : Bool)
    → piece_at spot.bare closes text ≡ Gap n → 0 < length text → 0 < n
    → tokens_from spot at closes 0 text ≡ tokens_from (past spot (take n text)) (at + n) false 0 (drop n text)
unfolding tokens_from
gap_step [] n spot at closes is some long = absurd (omega (arith, some))
gap_step (b ∷ rest) zero spot at closes is some long = absurd (omega (arith, long))
gap_step (b ∷ rest) (suc m) spot at closes is some long =
    let go : Bool → ℕ → Lexed = λ ends k. tokens_from (behind spot b) (at + 1) ends k rest in
    let e : suc m - 1 ≡ m = omega arith in
    ap (λ p. begun spot at (b ∷ rest) p go) is
    ∙ ap (go false) e
    ∙ skip rest m (behind spot b) (at + 1) false
    ∙ (let f : (at + 1) + m ≡ at + suc m = omega arith in
    ap (λ k. tokens_from (past (behind spot b) (take m rest)) k false 0 (drop m rest)) f)

-- at a bad token
pub bad_step : (text : List ℕ) (n : ℕ) (spot : Spot) (at : ℕ) (closes : Bool)
    → piece_at spot.bare closes text ≡ Bad n → 0 < length text
    → tokens_from spot at closes 0 text ≡ Err (place_of (past spot (take n text)))
unfolding tokens_from
bad_step [] n spot at closes is some = absurd (omega (arith, some))
bad_step (b ∷ rest) n spot at closes is some =
    ap (λ p. begun spot at (b ∷ rest) p (λ ends k. tokens_from (behind spot b) (at + 1) ends k rest)) is

-- one span more
pub in_order_one : (ts : List Token) (low mid high : ℕ) (t : Token)
    → InOrder low mid ts → mid ≤ t.from → t.from < t.to → t.to ≤ high → InOrder low high (ts ++ t ∷ [])
in_order_one [] low mid high t ordered from some to = (omega (arith, ordered, from), some, to)
in_order_one (u ∷ us) low mid high t ordered from some to =
    (ordered.0, ordered.1, in_order_one us u.to mid high t ordered.2 from some to)

pub in_order_more : (ts : List Token) (low mid high : ℕ) → InOrder low mid ts → mid ≤ high → InOrder low high ts
in_order_more [] low mid high ordered more = omega (arith, ordered, more)
in_order_more (u ∷ us) low mid high ordered more = (ordered.0, ordered.1, in_order_more us u.to mid high ordered.2 more)

-- ---- the steps at a place of a whole script, of which the tokens so far are known

pub at_end : (text : List ℕ) (ts : List Token) (spot : Spot) (at : ℕ) (closes : Bool) (whole : Lexed)
    → length text ≤ at → with_all ts (tokens_from spot at closes 0 (drop at text)) ≡ whole → whole ≡ Ok ts
unfolding tokens_from
at_end text ts spot at closes whole done all =
    sym all ∙ ap (λ rest. with_all ts (tokens_from spot at closes 0 rest)) (drop_of_length-le text done) ∙ ap Ok (append-nil ts)

pub at_bad : (text rest : List ℕ) (ts : List Token) (spot found : Spot) (at n : ℕ) (closes : Bool) (whole : Lexed)
    → rest ≡ drop at text → at < length text
    → Bad n ≡ piece_at spot.bare closes rest → found ≡ past spot (take n rest)
    → with_all ts (tokens_from spot at closes 0 (drop at text)) ≡ whole → whole ≡ Err (found.line, found.place)
at_bad text rest ts spot found at n closes whole cut below is there all =
    let some : 0 < length rest = omega (arith, ap length cut, length-drop at text, below) in
    sym all ∙ ap (λ r. with_all ts (tokens_from spot at closes 0 r)) (sym cut)
    ∙ ap (with_all ts) (bad_step rest n spot at closes (sym is) some) ∙ ap (λ s. Err (place_of s)) (sym there)

pub at_gap : (text rest : List ℕ) (ts : List Token) (spot next : Spot) (at n : ℕ) (closes : Bool) (whole : Lexed)
    → rest ≡ drop at text → at < length text
    → Gap n ≡ piece_at spot.bare closes rest → 0 < n → next ≡ past spot (take n rest)
    → with_all ts (tokens_from spot at closes 0 (drop at text)) ≡ whole
    → with_all ts (tokens_from next (at + n) false 0 (drop (at + n) text)) ≡ whole
at_gap text rest ts spot next at n closes whole cut below is long there all =
    let some : 0 < length rest = omega (arith, ap length cut, length-drop at text, below) in
    let behind_it : drop (at + n) text ≡ drop n rest = sym (drop-drop n at text) ∙ ap (drop n) (sym cut) in
    ap (λ s. with_all ts (tokens_from s (at + n) false 0 (drop (at + n) text))) there
    ∙ ap (λ r. with_all ts (tokens_from (past spot (take n rest)) (at + n) false 0 r)) behind_it
    ∙ ap (with_all ts) (sym (gap_step rest n spot at closes (sym is) some long))
    ∙ ap (λ r. with_all ts (tokens_from spot at closes 0 r)) cut
    ∙ all

pub at_token : (text rest : List ℕ) (ts : List Token) (spot next : Spot) (at n : ℕ) (closes ends : Bool) (kind : TokenKind) (whole : Lexed)
    → rest ≡ drop at text → at < length text
    → token kind n ≡ piece_at spot.bare closes rest → 0 < n → next ≡ past spot (take n rest)
    → ends ≡ closes_value kind (first rest)
    → with_all ts (tokens_from spot at closes 0 (drop at text)) ≡ whole
    → with_all (ts ++ record { kind = kind; line = spot.line; from = at; to = at + n } ∷ [])
    (tokens_from next (at + n) ends 0 (drop (at + n) text)) ≡ whole
at_token text rest ts spot next at n closes ends kind whole cut below is long there ending all =
    let some : 0 < length rest = omega (arith, ap length cut, length-drop at text, below) in
    let behind_it : drop (at + n) text ≡ drop n rest = sym (drop-drop n at text) ∙ ap (drop n) (sym cut) in
    let t : Token = record { kind = kind; line = spot.line; from = at; to = at + n } in
    ap (λ s. with_all (ts ++ t ∷ []) (tokens_from s (at + n) ends 0 (drop (at + n) text))) there
    ∙ ap (λ r. with_all (ts ++ t ∷ []) (tokens_from (past spot (take n rest)) (at + n) ends 0 r)) behind_it
    ∙ ap (λ e. with_all (ts ++ t ∷ []) (tokens_from (past spot (take n rest)) (at + n) e 0 (drop n rest))) ending
    ∙ with_all_one ts t (tokens_from (past spot (take n rest)) (at + n) (closes_value kind (first rest)) 0 (drop n rest))
    ∙ ap (with_all ts) (sym (token_step rest n spot at closes kind (sym is) some long))
    ∙ ap (λ r. with_all ts (tokens_from spot at closes 0 r)) cut
    ∙ all
