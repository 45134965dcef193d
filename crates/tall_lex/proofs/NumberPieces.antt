-- Numbers by the grammar of tokens.
use Rattle.std.proofs.Common.{◌≡◌, ◌≢◌, ◌≤◌, ◌<◌, ◌∙◌, ℕ, suc, ℤ, pos, refl, sym, ap, subst, Bool, true, false, cond, not, ◌||◌, ◌&&◌, List, [], ◌∷◌, ◌++◌, ◌+◌, ◌-◌, take, drop, length, one-add, append_assoc, arith, inl, inr}
use Rattle.std.specs.Prelude.{◌==◌}
use Rattle.std.specs.List.{list_all}
use Rattle.std.specs.Char.{is_ascii_alphabetic, is_ascii_digit}
use Rattle.std.proofs.lemmas.Bool.{and_parts, and_from, and_left, or_cases, or_parts, or_from, or_right, cond-true, cond-false, true≢false, cases_Bool, cases_lt, eqb-true, eqb-false, ne_eqb}
use Rattle.std.proofs.lemmas.Bool.Decides.{nat_tests}
use Rattle.std.proofs.lemmas.List.{length-append, length-drop, take-append-drop}
use Rattle.std.proofs.lemmas.Grind.{common_steps}
use Rattle.std.proofs.lemmas.List.Sums.{prefix_len-le-length}
use Rattle.std.proofs.Math.Seq.{take-append_seam, drop-append_seam, take-add, take-append-add}
use Rattle.tall_num.specs.Spelling.{is_digits, is_empty, is_letter}
use Rattle.tall_num.specs.Grammar.{Exponent, none, some, Sign, absent, plus, minus}
use Rattle.tall_num.proofs.Digits.{list_all_prefix}
use Rattle.tall_num.proofs.Derived.{prefix_front, letter_no_digit}
use Rattle.tall_num.proofs.Plain.{all_of_digits, digit_range}
use Rattle.tall_lex.specs.declared.tokens.TokenKind.TheVariants.{Number}
use Rattle.tall_lex.specs.declared.pieces.Piece.TheVariants.{Token, Bad}
use Rattle.tall_lex.specs.Bytes.{first, second}
use Rattle.tall_lex.specs.Numbers.{is_whole_number}
use Rattle.tall_lex.specs.Pieces.{piece_at, number_piece, number_len, digits_len, fraction_len, exponent_mark_len, exponent_len}
use Rattle.tall_lex.specs.TokenGrammar.{Fraction, no_fraction, point, NumberBytes, number_bytes, IsLongest, a_number}
use Rattle.tall_lex.specs.BadTokens.{no_whole_number, letter_behind_number}
use Rattle.tall_lex.proofs.Fronts.{front_at_least}
use Rattle.tall_lex.proofs.Found.{Found, found_token, found_bad}

-- ---- digits

digit_first : (ds rest : List ℕ) → is_digits ds ≡ true → is_ascii_digit (first (ds ++ rest)) ≡ true
digit_first [] rest h = absurd (true≢false (sym h))
digit_first (d ∷ ds) rest h = (and_parts (is_ascii_digit d) (list_all is_ascii_digit ds) (all_of_digits (d ∷ ds) h)).0

pub some_digits : (ds : List ℕ) → is_digits ds ≡ true → 0 < length ds
some_digits [] h = absurd (true≢false (sym h))
some_digits (d ∷ ds) h = omega arith

-- digits that stand first, if there is one
front_digits : (text : List ℕ) → 0 < digits_len text → is_digits (take (digits_len text) text) ≡ true
front_digits [] h = absurd (omega (arith, h))
front_digits (b ∷ text) h = elim (cases_Bool (is_ascii_digit b)) [
  | inl digit ↦
      let len : digits_len (b ∷ text) ≡ suc (digits_len text) = cond-true (is_ascii_digit b) (1 + digits_len text) 0 digit ∙ one-add (digits_len text) in
      ap (λ n. is_digits (take n (b ∷ text))) len
      ∙ and_from (not (is_empty (b ∷ take (digits_len text) text))) (list_all is_ascii_digit (b ∷ take (digits_len text) text))
      (ap not (ne_eqb (suc (length (take (digits_len text) text))) 0 (λ e. absurd (omega (arith, e)))))
      (and_from (is_ascii_digit b) _ digit (list_all_prefix is_ascii_digit text))
  | inr other ↦ absurd (let zero : digits_len (b ∷ text) ≡ 0 = cond-false (is_ascii_digit b) (1 + digits_len text) 0 other in omega (arith, h, zero))
]

first_digit : (text : List ℕ) → is_ascii_digit (first text) ≡ true → 0 < digits_len text
first_digit [] h = absurd (true≢false (sym h))
first_digit (b ∷ text) h =
    let len : digits_len (b ∷ text) ≡ 1 + digits_len text = cond-true (is_ascii_digit b) (1 + digits_len text) 0 h in omega (arith, len)

-- ---- fractions

fraction_at_point : (ds rest : List ℕ) → is_digits ds ≡ true → fraction_len (46 ∷ (ds ++ rest)) ≡ 1 + digits_len (ds ++ rest)
unfolding fraction_len
fraction_at_point ds rest h = cond-true (is_ascii_digit (first (ds ++ rest))) (1 + digits_len (ds ++ rest)) 0 (digit_first ds rest h)

fraction_at_least : (fraction rest : List ℕ) → Fraction fraction → length fraction ≤ fraction_len (fraction ++ rest)
fraction_at_least fraction rest no_fraction = omega arith
fraction_at_least fraction rest (point ds h) =
    let len : fraction_len (46 ∷ (ds ++ rest)) ≡ 1 + digits_len (ds ++ rest) = fraction_at_point ds rest h in
    let most : length ds ≤ digits_len (ds ++ rest) = front_at_least is_ascii_digit ds rest (all_of_digits ds h) in
    omega (arith, len, most)

fraction_is : (fraction rest : List ℕ) → Fraction fraction → is_ascii_digit (first rest) ≡ false → (first rest == 46) ≡ false
    → fraction_len (fraction ++ rest) ≡ length fraction
unfolding fraction_len
fraction_is fraction rest no_fraction h k = cond-false ((first rest == 46) && is_ascii_digit (second rest)) _ _ (and_left (first rest == 46) _ k)
fraction_is fraction rest (point ds all) h k =
    fraction_at_point ds rest all ∙ ap (λ n. 1 + n) (prefix_front is_ascii_digit ds rest (all_of_digits ds all) h) ∙ one-add (length ds)

fraction_front : (text : List ℕ) → Fraction (take (fraction_len text) text)
unfolding fraction_len
fraction_front text = elim (cases_Bool ((first text == 46) && is_ascii_digit (second text))) [
  | inl there ↦ subst (λ n. Fraction (take n text)) (sym (cond-true _ (1 + digits_len (drop 1 text)) 0 there)) (at_point text there)
  | inr none_there ↦ subst (λ n. Fraction (take n text)) (sym (cond-false _ (1 + digits_len (drop 1 text)) 0 none_there)) no_fraction
]
  where
    at_point : (t : List ℕ) → ((first t == 46) && is_ascii_digit (second t)) ≡ true → Fraction (take (1 + digits_len (drop 1 t)) t)
    at_point [] h = absurd (true≢false (sym h))
    at_point (b ∷ t) h =
        let both = and_parts (b == 46) (is_ascii_digit (first t)) h in
        subst (λ n. Fraction (take n (b ∷ t))) (sym (one-add (digits_len t)))
        (subst (λ c. Fraction (c ∷ take (digits_len t) t)) (sym (eqb-true b 46 both.0)) (point (take (digits_len t) t) (front_digits t (first_digit t both.1))))

-- ---- exponents

e_letter : (b : ℕ) → is_letter 101 b ≡ true → ((b == 101) || (b == 69)) ≡ true
e_letter b h = grind (arith, nat_tests)

letter_e : (b : ℕ) → ((b == 101) || (b == 69)) ≡ true → is_letter 101 b ≡ true
letter_e b h = grind (arith, nat_tests)

-- the length of the mark, by its sign
mark_is : (b : ℕ) (text : List ℕ) → is_letter 101 b ≡ true
    → exponent_mark_len (b ∷ text) ≡ cond ((first text == 43) || (first text == 45)) 2 1
mark_is b text h = cond-true ((b == 101) || (b == 69)) _ _ (e_letter b h)

exponent_by : (text : List ℕ) (m n : ℕ) → exponent_mark_len text ≡ suc m → digits_len (drop (suc m) text) ≡ n → 0 < n → exponent_len text ≡ suc m + n
unfolding exponent_len
exponent_by text m n mark digits h =
    ap (λ k. cond ((k == 0) || (digits_len (drop k text) == 0)) 0 (k + digits_len (drop k text))) mark
    ∙ ap (λ d. cond ((suc m == 0) || (d == 0)) 0 (suc m + d)) digits
    ∙ cond-false ((suc m == 0) || (n == 0)) 0 (suc m + n)
    (or_from (suc m == 0) (n == 0) (ne_eqb (suc m) 0 (λ e. absurd (omega (arith, e)))) (ne_eqb n 0 (λ e. absurd (omega (arith, e, h)))))

no_mark : (text : List ℕ) → exponent_mark_len text ≡ 0 → exponent_len text ≡ 0
unfolding exponent_len
no_mark text mark = ap (λ k. cond ((k == 0) || (digits_len (drop k text) == 0)) 0 (k + digits_len (drop k text))) mark

no_digits : (text : List ℕ) (m : ℕ) → exponent_mark_len text ≡ suc m → digits_len (drop (suc m) text) ≤ 0 → exponent_len text ≡ 0
unfolding exponent_len
no_digits text m mark h =
    let digits : digits_len (drop (suc m) text) ≡ 0 = omega (arith, h) in
    ap (λ k. cond ((k == 0) || (digits_len (drop k text) == 0)) 0 (k + digits_len (drop k text))) mark
    ∙ ap (λ d. cond ((suc m == 0) || (d == 0)) 0 (suc m + d)) digits
    ∙ cond-true ((suc m == 0) || (0 == 0)) 0 (suc m + 0) (or_right (suc m == 0) (0 == 0) refl)

digit_no_sign : (b : ℕ) → is_ascii_digit b ≡ true → ((b == 43) || (b == 45)) ≡ false
digit_no_sign b h = let range = digit_range b h in grind (arith, nat_tests)

marked_at_least : (text ds rest : List ℕ) (m : ℕ) → exponent_mark_len text ≡ suc m → drop (suc m) text ≡ ds ++ rest → is_digits ds ≡ true
    → suc m + length ds ≤ exponent_len text
marked_at_least text ds rest m mark cut h =
    let most : length ds ≤ digits_len (ds ++ rest) = front_at_least is_ascii_digit ds rest (all_of_digits ds h) in
    let one : 0 < length ds = some_digits ds h in
    let len : exponent_len text ≡ suc m + digits_len (ds ++ rest) =
    exponent_by text m (digits_len (ds ++ rest)) mark (ap digits_len cut) (omega (arith, most, one)) in
    omega (arith, len, most)

exponent_at_least : (exponent rest : List ℕ) (e : ℤ) → Exponent exponent e → length exponent ≤ exponent_len (exponent ++ rest)
exponent_at_least exponent rest e none = omega arith
exponent_at_least exponent rest e (some b sign negative ds letter absent h) =
    let mark : exponent_mark_len (b ∷ (ds ++ rest)) ≡ 1 =
    mark_is b (ds ++ rest) letter ∙ cond-false ((first (ds ++ rest) == 43) || (first (ds ++ rest) == 45)) 2 1 (digit_no_sign (first (ds ++ rest)) (digit_first ds rest h)) in
    let long : 1 + length ds ≤ exponent_len (b ∷ (ds ++ rest)) = marked_at_least (b ∷ (ds ++ rest)) ds rest 0 mark refl h in
    omega (arith, long)
exponent_at_least exponent rest e (some b sign negative ds letter plus h) =
    let long : 2 + length ds ≤ exponent_len (b ∷ 43 ∷ (ds ++ rest)) = marked_at_least (b ∷ 43 ∷ (ds ++ rest)) ds rest 1 (mark_is b (43 ∷ (ds ++ rest)) letter) refl h in
    omega (arith, long)
exponent_at_least exponent rest e (some b sign negative ds letter minus h) =
    let long : 2 + length ds ≤ exponent_len (b ∷ 45 ∷ (ds ++ rest)) = marked_at_least (b ∷ 45 ∷ (ds ++ rest)) ds rest 1 (mark_is b (45 ∷ (ds ++ rest)) letter) refl h in
    omega (arith, long)

record ExponentFront (text : List ℕ) : Type 0 where
  pub value : ℤ
  pub is : Exponent (take (exponent_len text) text) value

empty_exponent : (text : List ℕ) → exponent_len text ≡ 0 → ExponentFront text
empty_exponent text h = record { value = pos 0; is = subst (λ n. Exponent (take n text) (pos 0)) (sym h) none }

front_of : (text exponent : List ℕ) (e : ℤ) → take (exponent_len text) text ≡ exponent → Exponent exponent e → ExponentFront text
front_of text exponent e h is = record { value = e; is = subst (λ t. Exponent t e) (sym h) is }

plain_exponent : (b : ℕ) (text : List ℕ) → is_letter 101 b ≡ true → exponent_mark_len (b ∷ text) ≡ 1 → ExponentFront (b ∷ text)
plain_exponent b text letter mark = elim (cases_lt 0 (digits_len text)) [
  | inl some_here ↦
      let len : exponent_len (b ∷ text) ≡ 1 + digits_len text = exponent_by (b ∷ text) 0 (digits_len text) mark refl some_here in
      front_of (b ∷ text) (b ∷ ([] ++ take (digits_len text) text)) _ (ap (λ n. take n (b ∷ text)) (len ∙ one-add (digits_len text)))
      (some b [] false (take (digits_len text) text) letter absent (front_digits text some_here))
  | inr none_here ↦ empty_exponent (b ∷ text) (no_digits (b ∷ text) 0 mark none_here)
]

signed_exponent : (b s : ℕ) (negative : Bool) (text : List ℕ) → is_letter 101 b ≡ true → Sign (s ∷ []) negative
    → exponent_mark_len (b ∷ s ∷ text) ≡ 2 → ExponentFront (b ∷ s ∷ text)
signed_exponent b s negative text letter sign mark = elim (cases_lt 0 (digits_len text)) [
  | inl some_here ↦
      let len : exponent_len (b ∷ s ∷ text) ≡ 2 + digits_len text = exponent_by (b ∷ s ∷ text) 1 (digits_len text) mark refl some_here in
      let more : 2 + digits_len text ≡ suc (suc (digits_len text)) = omega arith in
      front_of (b ∷ s ∷ text) (b ∷ ((s ∷ []) ++ take (digits_len text) text)) _ (ap (λ n. take n (b ∷ s ∷ text)) (len ∙ more))
      (some b (s ∷ []) negative (take (digits_len text) text) letter sign (front_digits text some_here))
  | inr none_here ↦ empty_exponent (b ∷ s ∷ text) (no_digits (b ∷ s ∷ text) 1 mark none_here)
]

sign_exponent : (b : ℕ) (text : List ℕ) → is_letter 101 b ≡ true → ((first text == 43) || (first text == 45)) ≡ true → ExponentFront (b ∷ text)
sign_exponent b [] letter h = absurd (true≢false (sym h))
sign_exponent b (s ∷ text) letter h =
    let mark = mark_is b (s ∷ text) letter ∙ cond-true ((s == 43) || (s == 45)) 2 1 h in
    elim (or_cases (s == 43) (s == 45) h) [
      | inl e ↦ signed_exponent b s false text letter (subst (λ c. Sign (c ∷ []) false) (sym (eqb-true s 43 e)) plus) mark
      | inr e ↦ signed_exponent b s true text letter (subst (λ c. Sign (c ∷ []) true) (sym (eqb-true s 45 e)) minus) mark
    ]

exponent_front : (text : List ℕ) → ExponentFront text
exponent_front [] = empty_exponent [] (no_mark [] refl)
exponent_front (b ∷ text) = elim (cases_Bool ((b == 101) || (b == 69))) [
  | inl letter ↦ elim (cases_Bool ((first text == 43) || (first text == 45))) [
    | inl signed ↦ sign_exponent b text (letter_e b letter) signed
    | inr unsigned ↦ plain_exponent b text (letter_e b letter) (mark_is b text (letter_e b letter) ∙ cond-false ((first text == 43) || (first text == 45)) 2 1 unsigned)
  ]
  | inr other ↦ empty_exponent (b ∷ text) (no_mark (b ∷ text) (cond-false ((b == 101) || (b == 69)) _ _ other))
]

-- ---- lengths within the text

fraction_within : (text : List ℕ) → fraction_len text ≤ length text
unfolding fraction_len
fraction_within [] = omega arith
fraction_within (b ∷ text) =
    let most : digits_len text ≤ length text = prefix_len-le-length is_ascii_digit text in
    elim (cases_Bool ((b == 46) && is_ascii_digit (first text))) [
      | inl there ↦ (let len : fraction_len (b ∷ text) ≡ 1 + digits_len text = cond-true _ (1 + digits_len text) 0 there in omega (arith, len, most))
      | inr none_there ↦ (let len : fraction_len (b ∷ text) ≡ 0 = cond-false _ (1 + digits_len text) 0 none_there in omega (arith, len))
    ]

exponent_within : (text : List ℕ) → exponent_len text ≤ length text
unfolding exponent_len
exponent_within text =
    let mark = exponent_mark_len text in
    let digits = digits_len (drop mark text) in
    let most : digits ≤ length (drop mark text) = prefix_len-le-length is_ascii_digit (drop mark text) in
    let left : length (drop mark text) ≡ length text - mark = length-drop mark text in
    elim (cases_Bool ((mark == 0) || (digits == 0))) [
      | inl zero ↦ (let len : exponent_len text ≡ 0 = cond-true _ 0 (mark + digits) zero in omega (arith, len))
      | inr some_there ↦
          let len : exponent_len text ≡ mark + digits = cond-false ((mark == 0) || (digits == 0)) 0 (mark + digits) some_there in
          let full : digits ≢ 0 = eqb-false digits 0 (or_parts (mark == 0) (digits == 0) some_there).1 in
          omega (arith, len, most, left, full)
    ]

number_within : (text : List ℕ) → number_len text ≤ length text
unfolding number_len
number_within text =
    let w = digits_len text in
    let f = fraction_len (drop w text) in
    let a : w ≤ length text = prefix_len-le-length is_ascii_digit text in
    let b : f ≤ length (drop w text) = fraction_within (drop w text) in
    let c : exponent_len (drop (w + f) text) ≤ length (drop (w + f) text) = exponent_within (drop (w + f) text) in
    let d : length (drop w text) ≡ length text - w = length-drop w text in
    let e : length (drop (w + f) text) ≡ length text - (w + f) = length-drop (w + f) text in
    omega (arith, a, b, c, d, e)

-- ---- numbers

number_front : (text : List ℕ) → is_ascii_digit (first text) ≡ true → NumberBytes (take (number_len text) text)
unfolding number_len
number_front text h =
    let w = digits_len text in
    let f = fraction_len (drop w text) in
    let rest = drop (w + f) text in
    let x = exponent_len rest in
    let exponent = exponent_front rest in
    subst NumberBytes
    (sym (take-add (w + f) x text ∙ ap (λ t. t ++ take x rest) (take-add w f text) ∙ append_assoc (take w text) (take f (drop w text)) (take x rest)))
    (number_bytes (take w text) (take f (drop w text)) (take x rest) exponent.value (front_digits text (first_digit text h))
    (fraction_front (drop w text)) exponent.is)

mantissa_at_least : (text : List ℕ) (w : ℕ) → digits_len text ≡ w → w + fraction_len (drop w text) ≤ number_len text
unfolding number_len
mantissa_at_least text w h =
    let same : digits_len text + fraction_len (drop (digits_len text) text) ≡ w + fraction_len (drop w text) = ap (λ n. n + fraction_len (drop n text)) h in
    omega (arith, same)

digits_at_least : (text : List ℕ) → digits_len text ≤ number_len text
digits_at_least text = let most = mantissa_at_least text (digits_len text) refl in omega (arith, most)

number_by : (text : List ℕ) (w f : ℕ) → digits_len text ≡ w → fraction_len (drop w text) ≡ f → number_len text ≡ (w + f) + exponent_len (drop (w + f) text)
unfolding number_len
number_by text w f h k =
    ap (λ n. (n + fraction_len (drop n text)) + exponent_len (drop (n + fraction_len (drop n text)) text)) h
    ∙ ap (λ m. (w + m) + exponent_len (drop (w + m) text)) k

-- behind digits and a fraction that end there
parts_len : (whole fraction rest : List ℕ) → is_digits whole ≡ true → Fraction fraction → is_ascii_digit (first (fraction ++ rest)) ≡ false
    → is_ascii_digit (first rest) ≡ false → (first rest == 46) ≡ false
    → number_len (whole ++ (fraction ++ rest)) ≡ (length whole + length fraction) + exponent_len rest
parts_len whole fraction rest all frac no_digit no_more no_point =
    let text = whole ++ (fraction ++ rest) in
    let cut : drop (length whole) text ≡ fraction ++ rest = drop-append_seam whole (fraction ++ rest) in
    let len : length whole + length fraction ≡ length (whole ++ fraction) = sym (length-append whole fraction) in
    let behind : drop (length whole + length fraction) text ≡ rest =
    ap (λ n. drop n text) len ∙ ap (drop (length (whole ++ fraction))) (sym (append_assoc whole fraction rest)) ∙ drop-append_seam (whole ++ fraction) rest in
    number_by text (length whole) (length fraction)
    (prefix_front is_ascii_digit whole (fraction ++ rest) (all_of_digits whole all) no_digit)
    (ap fraction_len cut ∙ fraction_is fraction rest frac no_more no_point)
    ∙ ap (λ t. (length whole + length fraction) + exponent_len t) behind

no_digit_first : (fraction rest : List ℕ) → Fraction fraction → is_ascii_digit (first rest) ≡ false → is_ascii_digit (first (fraction ++ rest)) ≡ false
no_digit_first fraction rest no_fraction h = h
no_digit_first fraction rest (point ds all) h = refl

joined : (whole fraction exponent rest : List ℕ) → (whole ++ (fraction ++ exponent)) ++ rest ≡ whole ++ (fraction ++ (exponent ++ rest))
joined whole fraction exponent rest =
    append_assoc whole (fraction ++ exponent) rest ∙ ap (λ t. whole ++ t) (append_assoc fraction exponent rest)

parts_at_least : (whole fraction exponent rest : List ℕ) (e : ℤ) → is_digits whole ≡ true → Fraction fraction → Exponent exponent e
    → length whole + (length fraction + length exponent) ≤ number_len (whole ++ (fraction ++ (exponent ++ rest)))
parts_at_least whole fraction exponent rest e all no_fraction none =
    let a : length whole ≤ digits_len (whole ++ rest) = front_at_least is_ascii_digit whole rest (all_of_digits whole all) in
    let b : digits_len (whole ++ rest) ≤ number_len (whole ++ rest) = digits_at_least (whole ++ rest) in
    omega (arith, a, b)
parts_at_least whole fraction exponent rest e all (point ds frac) none =
    let text = whole ++ (46 ∷ (ds ++ rest)) in
    let w : digits_len text ≡ length whole = prefix_front is_ascii_digit whole (46 ∷ (ds ++ rest)) (all_of_digits whole all) refl in
    let a : length whole + fraction_len (drop (length whole) text) ≤ number_len text = mantissa_at_least text (length whole) w in
    let b : fraction_len (drop (length whole) text) ≡ fraction_len (46 ∷ (ds ++ rest)) = ap fraction_len (drop-append_seam whole (46 ∷ (ds ++ rest))) in
    let c : length (46 ∷ ds) ≤ fraction_len (46 ∷ (ds ++ rest)) = fraction_at_least (46 ∷ ds) rest (point ds frac) in
    omega (arith, a, b, c)
parts_at_least whole fraction exponent rest e all frac (some b sign negative ds letter s h) =
    let first_is = letter_no_digit b letter in
    let tail = (b ∷ (sign ++ ds)) ++ rest in
    let len : number_len (whole ++ (fraction ++ tail)) ≡ (length whole + length fraction) + exponent_len tail =
    parts_len whole fraction tail all frac (no_digit_first fraction tail frac first_is.0) first_is.0 first_is.1 in
    let most : length (b ∷ (sign ++ ds)) ≤ exponent_len tail = exponent_at_least (b ∷ (sign ++ ds)) rest e (some b sign negative ds letter s h) in
    omega (arith, len, most)

number_at_least : (text rest : List ℕ) → NumberBytes text → length text ≤ number_len (text ++ rest)
number_at_least text rest (number_bytes whole fraction exponent e all frac exp) =
    let most : length whole + (length fraction + length exponent) ≤ number_len (whole ++ (fraction ++ (exponent ++ rest))) =
    parts_at_least whole fraction exponent rest e all frac exp in
    let len : length (whole ++ (fraction ++ exponent)) ≡ length whole + (length fraction + length exponent) =
    length-append whole (fraction ++ exponent) ∙ ap (λ n. length whole + n) (length-append fraction exponent) in
    let same : number_len ((whole ++ (fraction ++ exponent)) ++ rest) ≡ number_len (whole ++ (fraction ++ (exponent ++ rest))) =
    ap number_len (joined whole fraction exponent rest) in
    omega (arith, most, len, same)

no_bytes : (text : List ℕ) → length text ≤ 0 → text ≡ []
no_bytes [] h = refl
no_bytes (b ∷ text) h = absurd (omega (arith, h))

-- a number is the longest that begins there exactly where it has the length that is read
longest_front : (text : List ℕ) → IsLongest NumberBytes (take (number_len text) text) (drop (number_len text) text)
longest_front text more rest e is =
    let n = number_len text in
    let whole : (take n text ++ more) ++ rest ≡ text = append_assoc (take n text) more rest ∙ ap (λ t. take n text ++ t) (sym e) ∙ take-append-drop n text in
    let most : length (take n text ++ more) ≤ number_len ((take n text ++ more) ++ rest) = number_at_least (take n text ++ more) rest is in
    let same : number_len ((take n text ++ more) ++ rest) ≡ n = ap number_len whole in
    let len : length (take n text ++ more) ≡ length (take n text) + length more = length-append (take n text) more in
    let within : n ≤ length text = number_within text in
    let front : length (take n text) ≡ n = grind (arith, common_steps) in
    no_bytes more (omega (arith, most, same, len, front))

number_first : (text rest : List ℕ) → NumberBytes text → is_ascii_digit (first (text ++ rest)) ≡ true
number_first text rest (number_bytes whole fraction exponent e all frac exp) =
    ap (λ t. is_ascii_digit (first t)) (joined whole fraction exponent rest) ∙ digit_first whole (fraction ++ (exponent ++ rest)) all

longest_len : (text behind : List ℕ) → NumberBytes text → IsLongest NumberBytes text behind → number_len (text ++ behind) ≡ length text
longest_len text behind is longest =
    let n = number_len (text ++ behind) in
    let k = n - length text in
    let most : length text ≤ n = number_at_least text behind is in
    let sum : n ≡ length text + k = omega (arith, most) in
    let within : n ≤ length (text ++ behind) = number_within (text ++ behind) in
    let len : length (text ++ behind) ≡ length text + length behind = length-append text behind in
    let longer : NumberBytes (text ++ take k behind) =
    subst NumberBytes (ap (λ m. take m (text ++ behind)) sum ∙ take-append-add text behind k) (number_front (text ++ behind) (number_first text behind is)) in
    let none_more : take k behind ≡ [] = longest (take k behind) (drop k behind) (sym (take-append-drop k behind)) longer in
    let short : k ≤ length behind = omega (arith, sum, within, len) in
    let size : length (take k behind) ≡ k = grind (arith, common_steps) in
    let zero : length (take k behind) ≡ 0 = ap length none_more in
    omega (arith, sum, size, zero)

-- ---- the piece

digit_no_letter : (b : ℕ) → is_ascii_digit b ≡ true → is_ascii_alphabetic b ≡ false
digit_no_letter b h = let range = digit_range b h in grind (arith, nat_tests)

number_piece_is : (bare closes : Bool) (text behind : List ℕ) → NumberBytes text → IsLongest NumberBytes text behind
    → piece_at bare closes (text ++ behind) ≡ cond (not (is_whole_number text)) (Bad 0)
    (cond (is_ascii_alphabetic (first behind)) (Bad (length text)) (Token Number (length text)))
unfolding piece_at number_piece
number_piece_is bare closes text behind is longest =
    let digit = number_first text behind is in
    cond-false (is_ascii_alphabetic (first (text ++ behind))) _ _ (digit_no_letter (first (text ++ behind)) digit)
    ∙ cond-true (is_ascii_digit (first (text ++ behind))) (number_piece (text ++ behind)) _ digit
    ∙ ap (λ n. cond (not (is_whole_number (take n (text ++ behind)))) (Bad 0) (cond (is_ascii_alphabetic (first (drop n (text ++ behind)))) (Bad n) (Token Number n)))
    (longest_len text behind is longest)
    ∙ ap (λ t. cond (not (is_whole_number t)) (Bad 0) (cond (is_ascii_alphabetic (first (drop (length text) (text ++ behind)))) (Bad (length text)) (Token Number (length text))))
    (take-append_seam text behind)
    ∙ ap (λ t. cond (not (is_whole_number text)) (Bad 0) (cond (is_ascii_alphabetic (first t)) (Bad (length text)) (Token Number (length text))))
    (drop-append_seam text behind)

pub number_is : (bare closes : Bool) (text behind : List ℕ) → NumberBytes text → is_whole_number text ≡ true → IsLongest NumberBytes text behind
    → is_ascii_alphabetic (first behind) ≡ false → piece_at bare closes (text ++ behind) ≡ Token Number (length text)
number_is bare closes text behind is whole longest other =
    number_piece_is bare closes text behind is longest
    ∙ cond-false (not (is_whole_number text)) _ _ (ap not whole) ∙ cond-false (is_ascii_alphabetic (first behind)) _ _ other

pub no_whole_number_is : (bare closes : Bool) (text behind : List ℕ) → NumberBytes text → IsLongest NumberBytes text behind
    → is_whole_number text ≡ false → piece_at bare closes (text ++ behind) ≡ Bad 0
no_whole_number_is bare closes text behind is longest whole =
    number_piece_is bare closes text behind is longest ∙ cond-true (not (is_whole_number text)) _ _ (ap not whole)

pub letter_behind_number_is : (bare closes : Bool) (text behind : List ℕ) → NumberBytes text → IsLongest NumberBytes text behind
    → is_whole_number text ≡ true → is_ascii_alphabetic (first behind) ≡ true → piece_at bare closes (text ++ behind) ≡ Bad (length text)
letter_behind_number_is bare closes text behind is longest whole letter =
    number_piece_is bare closes text behind is longest
    ∙ cond-false (not (is_whole_number text)) _ _ (ap not whole) ∙ cond-true (is_ascii_alphabetic (first behind)) _ _ letter

pub number_found : (bare closes : Bool) (text : List ℕ) → is_ascii_digit (first text) ≡ true → Found bare closes text
number_found bare closes text digit =
    let n = number_len text in
    let front = take n text in
    let behind = drop n text in
    let is = number_front text digit in
    let longest = longest_front text in
    subst (Found bare closes) (take-append-drop n text)
    (elim (cases_Bool (is_whole_number front)) [
      | inl whole ↦ elim (cases_Bool (is_ascii_alphabetic (first behind))) [
        | inl letter ↦ found_bad bare closes front behind (letter_behind_number bare closes front behind is longest whole letter)
        | inr other ↦ found_token bare closes Number front behind (a_number front is whole) (longest, other)
      ]
      | inr fraction ↦ found_bad bare closes [] (front ++ behind) (no_whole_number bare closes front behind is longest fraction)
    ])
