-- What the grammar derives is what the reading gives.
use Rattle.std.proofs.Common.{◌≡◌, ◌≤◌, ◌∙◌, ℕ, suc, refl, sym, ap, arith, Bool, true, false, cond, ◌&&◌, ◌||◌, List, [], ◌∷◌, ◌++◌, ◌+◌, ◌-◌, take, drop, reverse, length, Some, None, one-add, length-append, inl, inr}
use Rattle.std.specs.Prelude.{ℤ, pos, ◌-ℤ◌, ◌==◌, slice_index, codes}
use Rattle.std.specs.List.{list_all, prefix_len, suffix_len}
use Rattle.std.specs.Char.{is_ascii_digit}
use Rattle.std.proofs.lemmas.Bool.{and_parts, and_from, true≢false, ne_eqb, or_cases, eqb-true, and_left, and_right}
use Rattle.std.proofs.lemmas.Bool.Decides.{nat_tests}
use Rattle.std.proofs.lemmas.List.{append-nil, append_assoc, reverse-append, length-reverse}
use Rattle.std.proofs.lemmas.List.Folds.{list_all-append}
use Rattle.std.proofs.Math.Seq.{take-append_seam, drop-append_seam}
use Rattle.tall_int.specs.Quotients.{with_sign}
use Rattle.tall_num.specs.Spelling.{Spelling, infinity, decimal, first, is_blank, is_letter, is_empty, is_digits, is_nan, is_inf, is_word, digits_value, leading_digits, after_digits, fraction_digits, after_fraction, has_fraction, has_minus, after_sign, signed_digits, exponent_of, scaled, decimal_of, text_spells, trimmed, before_blanks, spells}
use Rattle.tall_num.specs.Grammar.{Sign, absent, plus, minus, Mantissa, whole, both, fraction, Exponent, none, some, Text, number, infinite, no_number, Spells}
use Rattle.tall_num.proofs.Plain.{all_of_digits, some_of_digits, first_of_digits, first_of_all, digit_range}

-- ---- choices

pub chosen : {X : Type 0} (b : Bool) (x y : X) → b ≡ true → cond b x y ≡ x
chosen true x y h = refl
chosen false x y h = absurd (true≢false (sym h))

pub passed : {X : Type 0} (b : Bool) (x y : X) → b ≡ false → cond b x y ≡ y
passed true x y h = absurd (true≢false h)
passed false x y h = refl

cons_some : (x : ℕ) (xs : List ℕ) → is_empty (x ∷ xs) ≡ false
cons_some x xs = ne_eqb (suc (length xs)) 0 (λ e. absurd (omega (arith, e)))

append_some : (xs ys : List ℕ) → is_empty xs ≡ false → is_empty (xs ++ ys) ≡ false
append_some [] ys h = absurd (true≢false h)
append_some (x ∷ xs) ys h = cons_some x (xs ++ ys)

first_append : (xs ys : List ℕ) → is_empty xs ≡ false → first (xs ++ ys) ≡ first xs
first_append [] ys h = absurd (true≢false h)
first_append (x ∷ xs) ys h = refl

-- ---- a front of which all pass, before an element that doesn't

pub prefix_zero : (p : ℕ → Bool) (xs : List ℕ) → p (first xs) ≡ false → prefix_len p xs ≡ 0
prefix_zero p [] h = refl
prefix_zero p (x ∷ xs) h = passed (p x) (1 + prefix_len p xs) 0 h

pub prefix_front : (p : ℕ → Bool) (xs rest : List ℕ) → list_all p xs ≡ true → p (first rest) ≡ false → prefix_len p (xs ++ rest) ≡ length xs
prefix_front p [] rest h k = prefix_zero p rest k
prefix_front p (x ∷ xs) rest h k =
    let parts = and_parts (p x) (list_all p xs) h in
    chosen (p x) (1 + prefix_len p (xs ++ rest)) 0 parts.0 ∙ rw one-add (ap suc (prefix_front p xs rest parts.1 k))

taken : (p : ℕ → Bool) (xs rest : List ℕ) → list_all p xs ≡ true → p (first rest) ≡ false → take (prefix_len p (xs ++ rest)) (xs ++ rest) ≡ xs
taken p xs rest h k = ap (λ n. take n (xs ++ rest)) (prefix_front p xs rest h k) ∙ take-append_seam xs rest

dropped : (p : ℕ → Bool) (xs rest : List ℕ) → list_all p xs ≡ true → p (first rest) ≡ false → drop (prefix_len p (xs ++ rest)) (xs ++ rest) ≡ rest
dropped p xs rest h k = ap (λ n. drop n (xs ++ rest)) (prefix_front p xs rest h k) ∙ drop-append_seam xs rest

-- ---- signs and exponents

sign_rest : (sign : List ℕ) (negative : Bool) (rest : List ℕ) → Sign sign negative → ((first rest == 45) || (first rest == 43)) ≡ false
    → after_sign (sign ++ rest) ≡ rest
sign_rest sign negative rest absent h = passed _ (drop 1 rest) rest h
sign_rest sign negative rest plus h = refl
sign_rest sign negative rest minus h = refl

sign_flag : (sign : List ℕ) (negative : Bool) (rest : List ℕ) → Sign sign negative → (first rest == 45) ≡ false
    → has_minus (sign ++ rest) ≡ negative
sign_flag sign negative rest absent h = h
sign_flag sign negative rest plus h = refl
sign_flag sign negative rest minus h = refl

digit_no_sign : (b : ℕ) → is_ascii_digit b ≡ true → (((b == 45) || (b == 43)) ≡ false) × ((b == 45) ≡ false)
digit_no_sign b h = let range = digit_range b h in (grind (arith, nat_tests), grind (arith, nat_tests))

pub letter_no_digit : (b : ℕ) → is_letter 101 b ≡ true → (is_ascii_digit b ≡ false) × ((b == 46) ≡ false)
letter_no_digit b h = (grind (arith, nat_tests), grind (arith, nat_tests))

exponent_first : (text : List ℕ) (e : ℤ) → Exponent text e → (is_ascii_digit (first text) ≡ false) × ((first text == 46) ≡ false)
exponent_first text e none = (refl, refl)
exponent_first text e (some b sign negative ds letter s h) = letter_no_digit b letter

signed_reads : (sign : List ℕ) (negative : Bool) (ds : List ℕ) → Sign sign negative → is_digits ds ≡ true
    → signed_digits (sign ++ ds) ≡ Some (with_sign negative (digits_value ds))
signed_reads sign negative ds s h =
    let byte = digit_no_sign (first ds) (first_of_digits ds h) in
    let rest = sign_rest sign negative ds s byte.0 in
    let flag = sign_flag sign negative ds s byte.1 in
    ap (λ t. cond (is_digits t) (Some (with_sign (has_minus (sign ++ ds)) (digits_value t))) None) rest
    ∙ chosen (is_digits ds) _ _ h
    ∙ ap (λ b. Some (with_sign b (digits_value ds))) flag

exponent_reads : (text : List ℕ) (e : ℤ) → Exponent text e → exponent_of text ≡ Some e
exponent_reads text e none = refl
exponent_reads text e (some b sign negative ds letter s h) =
    passed (is_empty (b ∷ (sign ++ ds))) _ _ (cons_some b (sign ++ ds))
    ∙ chosen (is_letter 101 b) _ _ letter
    ∙ signed_reads sign negative ds s h

-- ---- decimals

decimal_by : (negative : Bool) (text ds rest fs tail : List ℕ) (e : ℤ) → leading_digits text ≡ ds → after_digits text ≡ rest
    → fraction_digits rest ≡ fs → after_fraction rest ≡ tail → is_empty (ds ++ fs) ≡ false → exponent_of tail ≡ Some e
    → decimal_of negative text ≡ Some (decimal negative (digits_value (ds ++ fs)) (e -ℤ pos (length fs)))
decimal_by negative text ds rest fs tail e lead after front back full exponent =
    ap (λ t. scaled negative (t ++ fraction_digits (after_digits text)) (length (fraction_digits (after_digits text))) (exponent_of (after_fraction (after_digits text)))) lead
    ∙ ap (λ t. scaled negative (ds ++ fraction_digits t) (length (fraction_digits t)) (exponent_of (after_fraction t))) after
    ∙ ap (λ t. scaled negative (ds ++ t) (length t) (exponent_of (after_fraction rest))) front
    ∙ ap (λ t. scaled negative (ds ++ fs) (length fs) (exponent_of t)) back
    ∙ ap (scaled negative (ds ++ fs) (length fs)) exponent
    ∙ passed (is_empty (ds ++ fs)) _ _ full

no_fraction : (rest : List ℕ) → (first rest == 46) ≡ false → has_fraction rest ≡ false
no_fraction rest h = ap (λ b. b && is_ascii_digit (first (drop 1 rest))) h

point_fraction : (fs tail : List ℕ) → is_digits fs ≡ true → has_fraction (46 ∷ (fs ++ tail)) ≡ true
point_fraction fs tail h = ap is_ascii_digit (first_append fs tail (some_of_digits fs h)) ∙ first_of_digits fs h

fraction_reads : (fs tail : List ℕ) → is_digits fs ≡ true → is_ascii_digit (first tail) ≡ false
    → (fraction_digits (46 ∷ (fs ++ tail)) ≡ fs) × (after_fraction (46 ∷ (fs ++ tail)) ≡ tail)
fraction_reads fs tail h k = (
  chosen (has_fraction (46 ∷ (fs ++ tail))) _ _ (point_fraction fs tail h) ∙ taken is_ascii_digit fs tail (all_of_digits fs h) k,
  chosen (has_fraction (46 ∷ (fs ++ tail))) _ _ (point_fraction fs tail h) ∙ dropped is_ascii_digit fs tail (all_of_digits fs h) k,
)

mantissa_reads : (negative : Bool) (text digits : List ℕ) (places : ℕ) (tail : List ℕ) (e : ℤ) → Mantissa text digits places → Exponent tail e
    → decimal_of negative (text ++ tail) ≡ Some (decimal negative (digits_value digits) (e -ℤ pos places))
mantissa_reads negative text digits places tail e (whole ds h) x =
    let next = exponent_first tail e x in
    decimal_by negative (ds ++ tail) ds tail [] tail e (taken is_ascii_digit ds tail (all_of_digits ds h) next.0) (dropped is_ascii_digit ds tail (all_of_digits ds h) next.0)
    (passed (has_fraction tail) _ _ (no_fraction tail next.1)) (passed (has_fraction tail) _ _ (no_fraction tail next.1))
    (append_some ds [] (some_of_digits ds h)) (exponent_reads tail e x)
    ∙ ap (λ t. Some (decimal negative (digits_value t) (e -ℤ pos 0))) (append-nil ds)
mantissa_reads negative text digits places tail e (both ds fs h k) x =
    let next = exponent_first tail e x in
    let parts = fraction_reads fs tail k next.0 in
    ap (decimal_of negative) (append_assoc ds (46 ∷ fs) tail)
    ∙ decimal_by negative (ds ++ 46 ∷ (fs ++ tail)) ds (46 ∷ (fs ++ tail)) fs tail e
    (taken is_ascii_digit ds (46 ∷ (fs ++ tail)) (all_of_digits ds h) refl) (dropped is_ascii_digit ds (46 ∷ (fs ++ tail)) (all_of_digits ds h) refl)
    parts.0 parts.1 (append_some ds fs (some_of_digits ds h)) (exponent_reads tail e x)
mantissa_reads negative text digits places tail e (fraction fs k) x =
    let next = exponent_first tail e x in
    let parts = fraction_reads fs tail k next.0 in
    decimal_by negative (46 ∷ (fs ++ tail)) [] (46 ∷ (fs ++ tail)) fs tail e refl refl parts.0 parts.1 (some_of_digits fs k) (exponent_reads tail e x)

-- ---- texts

mantissa_first : (text digits : List ℕ) (places : ℕ) (tail : List ℕ) → Mantissa text digits places
    → (is_ascii_digit (first (text ++ tail)) || (first (text ++ tail) == 46)) ≡ true
mantissa_first text digits places tail (whole ds h) =
    ap (λ b. is_ascii_digit b || (b == 46)) (first_append ds tail (some_of_digits ds h))
    ∙ ap (λ b. b || (first ds == 46)) (first_of_digits ds h)
mantissa_first text digits places tail (both ds fs h k) =
    ap (λ t. is_ascii_digit (first t) || (first t == 46)) (append_assoc ds (46 ∷ fs) tail)
    ∙ ap (λ b. is_ascii_digit b || (b == 46)) (first_append ds (46 ∷ (fs ++ tail)) (some_of_digits ds h))
    ∙ ap (λ b. b || (first ds == 46)) (first_of_digits ds h)
mantissa_first text digits places tail (fraction fs k) = refl

record Start (b : ℕ) : Type 0 where
  pub no_sign : ((b == 45) || (b == 43)) ≡ false
  pub no_minus : (b == 45) ≡ false
  pub no_n : is_letter 110 b ≡ false
  pub no_blank : is_blank b ≡ false

digit_or_point : (b : ℕ) → (is_ascii_digit b || (b == 46)) ≡ true → (46 ≤ b) × (b ≤ 57)
digit_or_point b h = elim (or_cases (is_ascii_digit b) (b == 46) h) [
  | inl digit ↦ (let range = digit_range b digit in (omega arith, omega arith))
  | inr point ↦ (let e : b ≡ 46 = eqb-true b 46 point in (omega arith, omega arith))
]

start_of_mantissa : (b : ℕ) → (is_ascii_digit b || (b == 46)) ≡ true → Start b × (is_letter 105 b ≡ false)
start_of_mantissa b h =
    let range = digit_or_point b h in (
      record { no_sign = grind (arith, nat_tests); no_minus = grind (arith, nat_tests); no_n = grind (arith, nat_tests); no_blank = grind (arith, nat_tests) },
      grind (arith, nat_tests),
    )

start_of_i : (b : ℕ) → is_letter 105 b ≡ true → Start b
start_of_i b h = record { no_sign = grind (arith, nat_tests); no_minus = grind (arith, nat_tests); no_n = grind (arith, nat_tests); no_blank = grind (arith, nat_tests) }

letter_no_blank : (lower b : ℕ) → 65 ≤ lower → is_letter lower b ≡ true → is_blank b ≡ false
letter_no_blank lower b h e = grind (arith, nat_tests)

no_word : (word text : List ℕ) → is_letter (slice_index word 0) (first text) ≡ false → is_word word text ≡ false
no_word word text h = and_left _ _ (and_left _ _ (and_right _ _ h))

word_first : (word text : List ℕ) → is_word word text ≡ true → is_letter (slice_index word 0) (first text) ≡ true
word_first word text h = (and_parts _ _ (and_parts _ _ (and_parts _ _ h).0).0).1

sign_no_n : (sign : List ℕ) (negative : Bool) (rest : List ℕ) → Sign sign negative → is_letter 110 (first rest) ≡ false
    → is_letter 110 (first (sign ++ rest)) ≡ false
sign_no_n sign negative rest absent h = h
sign_no_n sign negative rest plus h = refl
sign_no_n sign negative rest minus h = refl

text_reads : (text : List ℕ) (s : Spelling) → Text text s → text_spells text ≡ Some s
text_reads text s (number sign negative mantissa digits places exponent e g m x) =
    let body = mantissa ++ exponent in
    let start = start_of_mantissa (first body) (mantissa_first mantissa digits places exponent m) in
    let rest = sign_rest sign negative body g start.0.no_sign in
    passed (is_nan (sign ++ body)) _ _ (no_word (codes "nan") (sign ++ body) (sign_no_n sign negative body g start.0.no_n))
    ∙ passed (is_inf (after_sign (sign ++ body))) _ _ (ap is_inf rest ∙ no_word (codes "inf") body start.1)
    ∙ ap (decimal_of (has_minus (sign ++ body))) rest
    ∙ ap (λ b. decimal_of b body) (sign_flag sign negative body g start.0.no_minus)
    ∙ mantissa_reads negative mantissa digits places exponent e m x
text_reads text s (infinite sign negative word g h) =
    let start = start_of_i (first word) (word_first (codes "inf") word h) in
    passed (is_nan (sign ++ word)) _ _ (no_word (codes "nan") (sign ++ word) (sign_no_n sign negative word g start.no_n))
    ∙ chosen (is_inf (after_sign (sign ++ word))) _ _ (ap is_inf (sign_rest sign negative word g start.no_sign) ∙ h)
    ∙ ap (λ b. Some (infinity b)) (sign_flag sign negative word g start.no_minus)
text_reads text s (no_number word h) = chosen (is_nan word) _ _ h

-- ---- the ends of a text

pub all_reverse : (p : ℕ → Bool) (xs : List ℕ) → list_all p xs ≡ true → list_all p (reverse xs) ≡ true
all_reverse p [] h = refl
all_reverse p (x ∷ xs) h =
    let parts = and_parts (p x) (list_all p xs) h in
    ap (list_all p) (reverse-append (x ∷ []) xs) ∙ list_all-append p (reverse xs) (x ∷ [])
    ∙ and_from (list_all p (reverse xs)) (list_all p (x ∷ [])) (all_reverse p xs parts.1) (and_from (p x) true parts.0 refl)

reverse_some : (xs : List ℕ) → is_empty xs ≡ false → is_empty (reverse xs) ≡ false
reverse_some xs h = ap (λ n. n == 0) (length-reverse xs) ∙ h

last_append : (xs ys : List ℕ) → is_empty ys ≡ false → first (reverse (xs ++ ys)) ≡ first (reverse ys)
last_append xs ys h = ap first (reverse-append xs ys) ∙ first_append (reverse ys) (reverse xs) (reverse_some ys h)

last_digit : (ds : List ℕ) → is_digits ds ≡ true → is_ascii_digit (first (reverse ds)) ≡ true
last_digit ds h =
    first_of_all (reverse ds) (reverse_some ds (some_of_digits ds h)) (all_reverse is_ascii_digit ds (all_of_digits ds h))

word_last : (word text : List ℕ) → is_word word text ≡ true → (is_empty text ≡ false) × (is_letter (slice_index word 2) (first (reverse text)) ≡ true)
word_last word [] h = absurd (true≢false (sym h))
word_last word (a ∷ []) h = absurd (true≢false (sym h))
word_last word (a ∷ b ∷ []) h = absurd (true≢false (sym h))
word_last word (a ∷ b ∷ c ∷ []) h = (refl, (and_parts _ _ h).1)
word_last word (a ∷ b ∷ c ∷ d ∷ rest) h =
    let long : (length (a ∷ b ∷ c ∷ d ∷ rest) == 3) ≡ false = ne_eqb _ 3 (λ e. absurd (omega (arith, e))) in
    absurd (true≢false (sym h ∙ and_left _ _ (and_left _ _ (and_left _ _ long))))

mantissa_last : (text digits : List ℕ) (places : ℕ) → Mantissa text digits places
    → (is_empty text ≡ false) × (is_ascii_digit (first (reverse text)) ≡ true)
mantissa_last text digits places (whole ds h) = (some_of_digits ds h, last_digit ds h)
mantissa_last text digits places (both ds fs h k) = (
  append_some ds (46 ∷ fs) (some_of_digits ds h),
  ap is_ascii_digit (last_append ds (46 ∷ fs) (cons_some 46 fs) ∙ last_append (46 ∷ []) fs (some_of_digits fs k)) ∙ last_digit fs k,
)
mantissa_last text digits places (fraction fs k) =
    (cons_some 46 fs, ap is_ascii_digit (last_append (46 ∷ []) fs (some_of_digits fs k)) ∙ last_digit fs k)

body_last : (mantissa digits : List ℕ) (places : ℕ) (exponent : List ℕ) (e : ℤ) → Mantissa mantissa digits places → Exponent exponent e
    → (is_empty (mantissa ++ exponent) ≡ false) × (is_ascii_digit (first (reverse (mantissa ++ exponent))) ≡ true)
body_last mantissa digits places exponent e m none =
    let front = mantissa_last mantissa digits places m in
    (append_some mantissa [] front.0, ap (λ t. is_ascii_digit (first (reverse t))) (append-nil mantissa) ∙ front.1)
body_last mantissa digits places exponent e m (some b sign negative ds letter g h) = (
  append_some mantissa (b ∷ (sign ++ ds)) (mantissa_last mantissa digits places m).0,
  ap is_ascii_digit (last_append mantissa (b ∷ (sign ++ ds)) (cons_some b (sign ++ ds)) ∙ last_append (b ∷ sign) ds (some_of_digits ds h))
      ∙ last_digit ds h,
)

record Edges (text : List ℕ) : Type 0 where
  pub full : is_empty text ≡ false
  pub front : is_blank (first text) ≡ false
  pub back : is_blank (first (reverse text)) ≡ false

sign_edges : (sign : List ℕ) (negative : Bool) (rest : List ℕ) → Sign sign negative → Edges rest → Edges (sign ++ rest)
sign_edges sign negative rest absent h = h
sign_edges sign negative rest plus h = record {
  full = cons_some 43 rest;
  front = refl;
  back = ap is_blank (last_append (43 ∷ []) rest h.full) ∙ h.back;
}
sign_edges sign negative rest minus h = record {
  full = cons_some 45 rest;
  front = refl;
  back = ap is_blank (last_append (45 ∷ []) rest h.full) ∙ h.back;
}

digit_no_blank : (b : ℕ) → is_ascii_digit b ≡ true → is_blank b ≡ false
digit_no_blank b h = let range = digit_range b h in grind (arith, nat_tests)

edges : (text : List ℕ) (s : Spelling) → Text text s → Edges text
edges text s (number sign negative mantissa digits places exponent e g m x) =
    let start = start_of_mantissa (first (mantissa ++ exponent)) (mantissa_first mantissa digits places exponent m) in
    let end = body_last mantissa digits places exponent e m x in
    sign_edges sign negative (mantissa ++ exponent) g
    (record { full = end.0; front = start.0.no_blank; back = digit_no_blank (first (reverse (mantissa ++ exponent))) end.1 })
edges text s (infinite sign negative word g h) =
    let end = word_last (codes "inf") word h in
    sign_edges sign negative word g
    (record { full = end.0; front = (start_of_i (first word) (word_first (codes "inf") word h)).no_blank; back = letter_no_blank 102 (first (reverse word)) (omega arith) end.1 })
edges text s (no_number word h) =
    let end = word_last (codes "nan") word h in
    record { full = end.0; front = letter_no_blank 110 (first word) (omega arith) (word_first (codes "nan") word h); back = letter_no_blank 110 (first (reverse word)) (omega arith) end.1 }

-- ---- fields

cut_end : (text after : List ℕ) → list_all is_blank after ≡ true → is_blank (first (reverse text)) ≡ false → before_blanks (text ++ after) ≡ text
cut_end text after h k =
    let count : suffix_len is_blank (text ++ after) ≡ length after =
    ap (prefix_len is_blank) (reverse-append text after)
    ∙ prefix_front is_blank (reverse after) (reverse text) (all_reverse is_blank after h) k ∙ length-reverse after in
    let left : length (text ++ after) - suffix_len is_blank (text ++ after) ≡ length text = omega (arith, length-append text after, count) in
    ap (λ n. take n (text ++ after)) left ∙ take-append_seam text after

trimmed_is : (before text after : List ℕ) → list_all is_blank before ≡ true → list_all is_blank after ≡ true → Edges text
    → trimmed (before ++ (text ++ after)) ≡ text
trimmed_is before text after h k e =
    ap before_blanks (dropped is_blank before (text ++ after) h (ap is_blank (first_append text after e.full) ∙ e.front))
    ∙ cut_end text after k e.back

-- a field of the grammar is read as what it spells
pub derived_is_read : (bytes : List ℕ) (s : Spelling) → Spells bytes s → spells bytes ≡ Some s
derived_is_read bytes s f =
    ap spells f.bytes_are
    ∙ ap text_spells (trimmed_is f.before f.text f.after f.blanks_before f.blanks_after (edges f.text s f.spelled))
    ∙ text_reads f.text s f.spelled
