-- What the bytes of a number field spell. A field is optional blanks, one of three forms, and optional blanks: an
-- optional sign, a mantissa and an optional exponent; an optional sign and Inf; NaN. A mantissa is digits, or digits, a
-- point and digits, or a point and digits. An exponent is e or E, an optional sign and digits. Digits are one or more.
use Rattle.std.specs.Prelude.{ℕ, ℤ, pos, ◌+◌, ◌-◌, ◌*◌, ◌-ℤ◌, ◌==◌, ◌&&◌, ◌||◌, not, Bool, if◌then◌else◌, nat_le}
use Rattle.std.specs.Prelude.{List, [], ◌∷◌, ◌++◌, length, take, drop, slice_index, Option, Some, None, option_map, codes}
use Rattle.std.specs.List.{list_all, prefix_len, suffix_len}
use Rattle.std.specs.Char.{is_ascii_digit}
use Rattle.tall_int.specs.Quotients.{with_sign}

-- a decimal is m times 10 to the power e, below 0 where the flag is set
pub data Spelling : Type 0 where
  nan : Spelling
  infinity : (negative : Bool) → Spelling
  decimal : (negative : Bool) (m : ℕ) (e : ℤ) → Spelling

-- ---- bytes and texts

-- a space or a tab
abbrev pub is_blank : ℕ → Bool
is_blank b = (b == 32) || (b == 9)

-- a letter, given in lower case, in either case
abbrev pub is_letter : ℕ → ℕ → Bool
is_letter lower b = (b == lower) || (b + 32 == lower)

abbrev pub is_empty : List ℕ → Bool
is_empty text = length text == 0

-- the first byte, or 0 where there is none
abbrev pub first : List ℕ → ℕ
first text = slice_index text 0

-- without the blanks at both ends
abbrev pub after_blanks : List ℕ → List ℕ
after_blanks text = drop (prefix_len is_blank text) text

abbrev pub before_blanks : List ℕ → List ℕ
before_blanks text = take (length text - suffix_len is_blank text) text

abbrev pub trimmed : List ℕ → List ℕ
trimmed bytes = before_blanks (after_blanks bytes)

-- ---- signs and digits

-- '-' stands first
abbrev pub has_minus : List ℕ → Bool
has_minus text = first text == 45

-- without a '-' or '+' that stands first
abbrev pub after_sign : List ℕ → List ℕ
after_sign text = if (first text == 45) || (first text == 43) then drop 1 text else text

-- the digits that stand first, and what follows them
abbrev pub leading_digits : List ℕ → List ℕ
leading_digits text = take (prefix_len is_ascii_digit text) text

abbrev pub after_digits : List ℕ → List ℕ
after_digits text = drop (prefix_len is_ascii_digit text) text

-- one digit or more, and nothing else
abbrev pub is_digits : List ℕ → Bool
is_digits text = not (is_empty text) && list_all is_ascii_digit text

-- the number that digits write after those that wrote n
abbrev pub digits_onto : ℕ → List ℕ → ℕ
digits_onto n [] = n
digits_onto n (b ∷ rest) = digits_onto (n * 10 + (b - 48)) rest

abbrev pub digits_value : List ℕ → ℕ
digits_value digits = digits_onto 0 digits

-- the number of a text of one digit to eighteen and nothing else
abbrev pub short_number : List ℕ → Option ℕ
short_number text = if is_digits text && nat_le (length text) 18 then Some (digits_value text) else None

-- ---- the parts of a decimal

-- a point and a digit stand first
abbrev pub has_fraction : List ℕ → Bool
has_fraction text = (first text == 46) && is_ascii_digit (first (drop 1 text))

-- the digits after a point that stands first, and what follows; a point without digits is left
abbrev pub fraction_digits : List ℕ → List ℕ
fraction_digits text = if has_fraction text then leading_digits (drop 1 text) else []

abbrev pub after_fraction : List ℕ → List ℕ
after_fraction text = if has_fraction text then after_digits (drop 1 text) else text

-- digits up to the end, with a sign or without
abbrev pub signed_digits : List ℕ → Option ℤ
signed_digits text =
    if is_digits (after_sign text) then Some (with_sign (has_minus text) (digits_value (after_sign text))) else None

-- what follows the mantissa, up to the end: nothing, or an exponent
abbrev pub exponent_of : List ℕ → Option ℤ
exponent_of text =
    if is_empty text then Some (pos 0)
    else if is_letter 101 (first text) then signed_digits (drop 1 text)
    else None

-- the decimal of a mantissa's digits, of which the last `places` stand after the point, and an exponent
abbrev pub scaled : Bool → List ℕ → ℕ → Option ℤ → Option Spelling
scaled negative digits places exponent =
    if is_empty digits then None
    else option_map (λ e. decimal negative (digits_value digits) (e -ℤ pos places)) exponent

-- an unsigned decimal up to the end
abbrev pub decimal_of : Bool → List ℕ → Option Spelling
decimal_of negative text =
    let rest = after_digits text in
    scaled negative (leading_digits text ++ fraction_digits rest) (length (fraction_digits rest)) (exponent_of (after_fraction rest))

-- ---- fields

-- the text is a word of three letters, given in lower case, in any case
abbrev pub is_word : List ℕ → List ℕ → Bool
is_word word text =
    (length text == 3) && is_letter (slice_index word 0) (slice_index text 0)
    && is_letter (slice_index word 1) (slice_index text 1) && is_letter (slice_index word 2) (slice_index text 2)

abbrev pub is_nan : List ℕ → Bool
is_nan text = is_word (codes "nan") text

abbrev pub is_inf : List ℕ → Bool
is_inf text = is_word (codes "inf") text

-- what a text without blanks at its ends spells
abbrev pub text_spells : List ℕ → Option Spelling
text_spells text =
    if is_nan text then Some nan
    else if is_inf (after_sign text) then Some (infinity (has_minus text))
    else decimal_of (has_minus text) (after_sign text)

-- what a field spells, or nothing
abbrev pub spells : List ℕ → Option Spelling
spells bytes = text_spells (trimmed bytes)
