-- Signs, and bytes that begin no token, by the grammar of tokens.
use Rattle.std.proofs.Common.{◌≡◌, ◌∙◌, ℕ, refl, sym, ap, subst, Bool, true, false, cond, not, ◌||◌, ◌&&◌, List, [], ◌∷◌, ◌++◌, drop, length, arith, inl, inr, ◌⊎◌}
use Rattle.std.specs.Prelude.{◌==◌, nat_eq, codes}
use Rattle.std.specs.List.{list_any}
use Rattle.std.specs.Char.{is_ascii_alphabetic, is_ascii_digit}
use Rattle.std.specs.Cmp.Lexicographic.{pointwise}
use Rattle.std.proofs.lemmas.Bool.{and_parts, and_left, or_cases, or_parts, or_from, cond-true, cond-false, true≢false, cases_Bool, eqb-true, not-true, false_from_ne_true}
use Rattle.tall_lex.specs.declared.tokens.TokenKind.TheVariants.{Sign, LineEnd}
use Rattle.tall_lex.specs.declared.pieces.Piece.TheVariants.{Token, Bad}
use Rattle.tall_lex.specs.Bytes.{first, second, is_space, is_quote, starts_blank, is_sign, is_sign_pair, is_doubled}
use Rattle.tall_lex.specs.Pieces.{piece_at, sign_piece, joined_piece, starts_dots}
use Rattle.tall_lex.specs.TokenGrammar.{signs, IsSign, IsLongest, a_sign, a_line_end}
use Rattle.tall_lex.specs.BadTokens.{begins_no_sign, two_ands, two_ors, no_token}
use Rattle.tall_lex.proofs.Words.{one_of_good, byte_of_good}
use Rattle.tall_lex.proofs.Found.{Found, found_token, found_bad}
use Rattle.tall_lex.proofs.GapPieces.{dots_found}

-- ---- the signs of one byte and of two

is_sign_text : List ℕ → Bool
is_sign_text [] = false
is_sign_text (a ∷ []) = is_sign a
is_sign_text (a ∷ b ∷ []) = is_sign a && (is_sign_pair a b && not (b == 0))
is_sign_text (a ∷ b ∷ c ∷ rest) = false

abbrev is_listed : List ℕ → Bool
is_listed text = list_any (λ s. pointwise nat_eq s text) signs

sign_text : (text : List ℕ) → IsSign text → is_sign_text text ≡ true
unfolding is_sign_text
sign_text text h = one_of_good is_sign_text signs text h refl

listed_byte : (a : ℕ) → is_sign a ≡ true → IsSign (a ∷ [])
listed_byte a h = byte_of_good (λ s. is_listed (s ∷ [])) (codes "+-*/<>&|~=()[]{},;:.@") a h refl

listed_point : (b : ℕ) → ((b == 42) || (b == 47)) ≡ true → IsSign (46 ∷ b ∷ [])
listed_point b h = elim (or_cases (b == 42) (b == 47) h) [
  | inl e ↦ subst (λ c. IsSign (46 ∷ c ∷ [])) (sym (eqb-true b 42 e)) refl
  | inr e ↦ subst (λ c. IsSign (46 ∷ c ∷ [])) (sym (eqb-true b 47 e)) refl
]

listed_pair : (a b : ℕ) → is_sign_pair a b ≡ true → IsSign (a ∷ b ∷ [])
listed_pair a b h = elim (or_cases ((a == 46) && ((b == 42) || (b == 47))) (list_any (λ s. s == a) (codes "=~<>") && (b == 61)) h) [
  | inl p ↦
      let both = and_parts (a == 46) ((b == 42) || (b == 47)) p in
      subst (λ c. IsSign (c ∷ b ∷ [])) (sym (eqb-true a 46 both.0)) (listed_point b both.1)
  | inr p ↦
      let both = and_parts (list_any (λ s. s == a) (codes "=~<>")) (b == 61) p in
      subst (λ c. IsSign (a ∷ c ∷ [])) (sym (eqb-true b 61 both.1))
      (byte_of_good (λ s. is_listed (s ∷ 61 ∷ [])) (codes "=~<>") a both.0 refl)
]

-- ---- a byte that comes to the test of signs

sign_late : (a : ℕ) → is_sign a ≡ true → begins_no_sign a ≡ false
sign_late a h = not-true (begins_no_sign a) (byte_of_good (λ s. not (begins_no_sign s)) (codes "+-*/<>&|~=()[]{},;:.@") a h refl)

late_piece : (bare closes : Bool) (b : ℕ) (text : List ℕ) → begins_no_sign b ≡ false
    → piece_at bare closes (b ∷ text) ≡ cond (starts_dots (b ∷ text)) (joined_piece (b ∷ text)) (sign_piece (b ∷ text))
unfolding piece_at
late_piece bare closes b text h =
    let p1 = or_parts (is_ascii_alphabetic b) _ h in
    let p2 = or_parts (is_ascii_digit b) _ p1.1 in
    let p3 = or_parts (is_quote b) _ p2.1 in
    let p4 = or_parts (is_space b) _ p3.1 in
    let p5 = or_parts (b == 10) _ p4.1 in
    let p6 = or_parts (b == 13) (b == 37) p5.1 in
    cond-false (is_ascii_alphabetic b) _ _ p1.0
    ∙ cond-false (is_ascii_digit b) _ _ p2.0
    ∙ cond-false (is_quote b) _ _ p3.0
    ∙ cond-false (starts_blank (b ∷ text)) _ _ (or_from (is_space b) ((b == 13) && (first text == 10)) p4.0 (and_left (b == 13) (first text == 10) p6.0))
    ∙ cond-false (b == 10) _ _ p5.0
    ∙ cond-false (b == 37) _ _ p6.1

-- ---- signs

pair_begins : (a b : ℕ) → is_sign_pair a b ≡ true → (is_sign a ≡ true) × (not (b == 0) ≡ true)
unfolding is_sign_text
pair_begins a b h =
    let both = and_parts (is_sign a) (is_sign_pair a b && not (b == 0)) (sign_text (a ∷ b ∷ []) (listed_pair a b h)) in
    (both.0, (and_parts (is_sign_pair a b) (not (b == 0)) both.1).1)

pair_is : (a : ℕ) (behind : List ℕ) → IsLongest IsSign (a ∷ []) behind → is_sign_pair a (first behind) ≡ false
pair_is a [] longest = false_from_ne_true (is_sign_pair a 0) (λ yes. absurd (true≢false (sym (pair_begins a 0 yes).1)))
pair_is a (b ∷ rest) longest =
    false_from_ne_true (is_sign_pair a b) (λ yes. let none : b ∷ [] ≡ [] = longest (b ∷ []) rest refl (listed_pair a b yes) in cc)

pub sign_is : (bare closes : Bool) (text behind : List ℕ) → IsSign text → IsLongest IsSign text behind → starts_dots (text ++ behind) ≡ false
    → is_doubled (first (text ++ behind)) (second (text ++ behind)) ≡ false → piece_at bare closes (text ++ behind) ≡ Token Sign (length text)
unfolding sign_piece is_sign_text
sign_is bare closes [] behind is longest dots doubled = absurd (true≢false (sym is))
sign_is bare closes (a ∷ []) behind is longest dots doubled =
    let sign = sign_text (a ∷ []) is in
    late_piece bare closes a behind (sign_late a sign)
    ∙ cond-false (starts_dots (a ∷ behind)) _ _ dots
    ∙ cond-false (is_doubled a (first behind)) _ _ doubled
    ∙ cond-false (is_sign_pair a (first behind)) _ _ (pair_is a behind longest)
    ∙ cond-true (is_sign a) _ _ sign
sign_is bare closes (a ∷ b ∷ []) behind is longest dots doubled =
    let both = and_parts (is_sign a) _ (sign_text (a ∷ b ∷ []) is) in
    let pair = and_parts (is_sign_pair a b) (not (b == 0)) both.1 in
    late_piece bare closes a (b ∷ behind) (sign_late a both.0)
    ∙ cond-false (starts_dots (a ∷ b ∷ behind)) _ _ dots
    ∙ cond-false (is_doubled a b) _ _ doubled
    ∙ cond-true (is_sign_pair a b) _ _ pair.0
sign_is bare closes (a ∷ b ∷ c ∷ more) behind is longest dots doubled = absurd (true≢false (sym (sign_text (a ∷ b ∷ c ∷ more) is)))

-- ---- what is no sign

doubled_is : (a b : ℕ) → is_doubled a b ≡ true → ((a ≡ 38) × (b ≡ 38)) ⊎ ((a ≡ 124) × (b ≡ 124))
doubled_is a b h = elim (or_cases ((a == 38) && (b == 38)) ((a == 124) && (b == 124)) h) [
  | inl e ↦ let both = and_parts (a == 38) (b == 38) e in inl (eqb-true a 38 both.0, eqb-true b 38 both.1)
  | inr e ↦ let both = and_parts (a == 124) (b == 124) e in inr (eqb-true a 124 both.0, eqb-true b 124 both.1)
]

doubled_begins : (a b : ℕ) → is_doubled a b ≡ true → is_sign a ≡ true
doubled_begins a b h = elim (doubled_is a b h) [
  | inl e ↦ subst (λ c. is_sign c ≡ true) (sym e.0) refl
  | inr e ↦ subst (λ c. is_sign c ≡ true) (sym e.0) refl
]

dots_begin : (a : ℕ) (text : List ℕ) → starts_dots (a ∷ text) ≡ true → is_sign a ≡ true
dots_begin a text h =
    subst (λ c. is_sign c ≡ true) (sym (eqb-true a 46 (and_parts (a == 46) ((first text == 46) && (first (drop 1 text) == 46)) h).0)) refl

never : (a : ℕ) (b : Bool) → is_sign a ≡ false → (b ≡ true → is_sign a ≡ true) → b ≡ false
never a b none some = false_from_ne_true b (λ yes. absurd (true≢false (sym (some yes) ∙ none)))

pub no_token_is : (bare closes : Bool) (b : ℕ) (rest : List ℕ) → begins_no_sign b ≡ false → is_sign b ≡ false → piece_at bare closes (b ∷ rest) ≡ Bad 0
unfolding sign_piece
no_token_is bare closes b rest late none =
    late_piece bare closes b rest late
    ∙ cond-false (starts_dots (b ∷ rest)) _ _ (never b (starts_dots (b ∷ rest)) none (dots_begin b rest))
    ∙ cond-false (is_doubled b (first rest)) _ _ (never b (is_doubled b (first rest)) none (doubled_begins b (first rest)))
    ∙ cond-false (is_sign_pair b (first rest)) _ _ (never b (is_sign_pair b (first rest)) none (λ yes. (pair_begins b (first rest) yes).0))
    ∙ cond-false (is_sign b) _ _ none

pub two_ands_is : (bare closes : Bool) (rest : List ℕ) → piece_at bare closes (38 ∷ 38 ∷ rest) ≡ Bad 0
unfolding piece_at sign_piece
two_ands_is bare closes rest = refl

pub two_ors_is : (bare closes : Bool) (rest : List ℕ) → piece_at bare closes (124 ∷ 124 ∷ rest) ≡ Bad 0
unfolding piece_at sign_piece
two_ors_is bare closes rest = refl

pub line_end_is : (bare closes : Bool) (rest : List ℕ) → piece_at bare closes (10 ∷ rest) ≡ Token LineEnd 1
unfolding piece_at
line_end_is bare closes rest = refl

-- ---- what begins at a byte that begins nothing but signs

dots_text : (bare closes : Bool) (b : ℕ) (text : List ℕ) → starts_dots (b ∷ text) ≡ true → Found bare closes (b ∷ text)
dots_text bare closes b [] h = absurd (true≢false (sym (and_parts (b == 46) false h).1))
dots_text bare closes b (c ∷ []) h =
    absurd (true≢false (sym (and_parts (c == 46) false (and_parts (b == 46) ((c == 46) && false) h).1).1))
dots_text bare closes b (c ∷ d ∷ text) h =
    let one = and_parts (b == 46) ((c == 46) && (d == 46)) h in
    let two = and_parts (c == 46) (d == 46) one.1 in
    subst (λ x. Found bare closes (x ∷ c ∷ d ∷ text)) (sym (eqb-true b 46 one.0))
    (subst (λ x. Found bare closes (46 ∷ x ∷ d ∷ text)) (sym (eqb-true c 46 two.0))
    (subst (λ x. Found bare closes (46 ∷ 46 ∷ x ∷ text)) (sym (eqb-true d 46 two.1)) (dots_found bare closes text)))

doubled_text : (bare closes : Bool) (b : ℕ) (text : List ℕ) → is_doubled b (first text) ≡ true → Found bare closes (b ∷ text)
doubled_text bare closes b [] h = elim (doubled_is b 0 h) [
  | inl e ↦ absurd (omega (arith, e.1))
  | inr e ↦ absurd (omega (arith, e.1))
]
doubled_text bare closes b (c ∷ text) h = elim (doubled_is b c h) [
  | inl e ↦ subst (λ x. Found bare closes (x ∷ c ∷ text)) (sym e.0)
      (subst (λ x. Found bare closes (38 ∷ x ∷ text)) (sym e.1) (found_bad bare closes [] (38 ∷ 38 ∷ text) (two_ands bare closes text)))
  | inr e ↦ subst (λ x. Found bare closes (x ∷ c ∷ text)) (sym e.0)
      (subst (λ x. Found bare closes (124 ∷ x ∷ text)) (sym e.1) (found_bad bare closes [] (124 ∷ 124 ∷ text) (two_ors bare closes text)))
]

longest_pair : (a b : ℕ) (behind : List ℕ) → IsLongest IsSign (a ∷ b ∷ []) behind
unfolding is_sign_text
longest_pair a b behind [] rest e is = refl
longest_pair a b behind (c ∷ more) rest e is = absurd (true≢false (sym (sign_text (a ∷ b ∷ c ∷ more) is)))

longest_byte : (a : ℕ) (behind : List ℕ) → is_sign_pair a (first behind) ≡ false → IsLongest IsSign (a ∷ []) behind
unfolding is_sign_text
longest_byte a behind none [] rest e is = refl
longest_byte a behind none (b ∷ []) rest e is =
    let both = and_parts (is_sign a) (is_sign_pair a b && not (b == 0)) (sign_text (a ∷ b ∷ []) is) in
    let pair = and_parts (is_sign_pair a b) (not (b == 0)) both.1 in
    absurd (true≢false (sym pair.0 ∙ ap (λ t. is_sign_pair a (first t)) (sym e) ∙ none))
longest_byte a behind none (b ∷ c ∷ more) rest e is = absurd (true≢false (sym (sign_text (a ∷ b ∷ c ∷ more) is)))

pair_text : (bare closes : Bool) (b : ℕ) (text : List ℕ) → starts_dots (b ∷ text) ≡ false → is_doubled b (first text) ≡ false
    → is_sign_pair b (first text) ≡ true → Found bare closes (b ∷ text)
pair_text bare closes b [] dots doubled h = absurd (true≢false (sym (pair_begins b 0 h).1))
pair_text bare closes b (c ∷ text) dots doubled h =
    found_token bare closes Sign (b ∷ c ∷ []) text (a_sign (b ∷ c ∷ []) (listed_pair b c h)) (longest_pair b c text, dots, doubled)

pub sign_found : (bare closes : Bool) (b : ℕ) (text : List ℕ) → begins_no_sign b ≡ false → Found bare closes (b ∷ text)
sign_found bare closes b text late = elim (cases_Bool (starts_dots (b ∷ text))) [
  | inl is ↦ dots_text bare closes b text is
  | inr dots ↦ elim (cases_Bool (is_doubled b (first text))) [
    | inl is ↦ doubled_text bare closes b text is
    | inr doubled ↦ elim (cases_Bool (is_sign_pair b (first text))) [
      | inl is ↦ pair_text bare closes b text dots doubled is
      | inr no_pair ↦ elim (cases_Bool (is_sign b)) [
        | inl is ↦ found_token bare closes Sign (b ∷ []) text (a_sign (b ∷ []) (listed_byte b is)) (longest_byte b text no_pair, dots, doubled)
        | inr none ↦ found_bad bare closes [] (b ∷ text) (no_token bare closes b text late none)
      ]
    ]
  ]
]

pub line_end_found : (bare closes : Bool) (text : List ℕ) → Found bare closes (10 ∷ text)
line_end_found bare closes text = found_token bare closes LineEnd (10 ∷ []) text a_line_end tt
