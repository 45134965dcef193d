-- A text of a sign and digits, read the short way.
use Rattle.std.proofs.Common.{◌≡◌, ◌≤◌, ℕ, pos, refl, Bool, true, false, not, ◌&&◌, ◌||◌, List, [], ◌∷◌, ◌++◌, drop, length, arith, ap, ◌∙◌, sym, Some, None}
use Rattle.std.specs.Prelude.{◌==◌, nat_le, if◌then◌else◌}
use Rattle.std.specs.List.{list_all, prefix_len}
use Rattle.std.specs.Char.{is_ascii_digit}
use Rattle.tall_num.specs.Spelling.{decimal, first, is_digits, is_nan, is_inf, has_minus, after_sign, decimal_of, text_spells, digits_value, short_number, scaled, is_empty, leading_digits, after_digits, fraction_digits, after_fraction, exponent_of}
use Rattle.tall_num.proofs.Digits.{prefix_len_all}
use Rattle.std.proofs.lemmas.Bool.{and_parts, not-true, true≢false}
use Rattle.std.proofs.lemmas.List.{append-nil, take_all, drop_all}
use Rattle.std.proofs.lemmas.Bool.Decides.{nat_tests}

pub all_of_digits : (ds : List ℕ) → is_digits ds ≡ true → list_all is_ascii_digit ds ≡ true
all_of_digits ds h = (and_parts (not (is_empty ds)) (list_all is_ascii_digit ds) h).1

pub some_of_digits : (ds : List ℕ) → is_digits ds ≡ true → is_empty ds ≡ false
some_of_digits ds h = not-true (is_empty ds) (and_parts (not (is_empty ds)) (list_all is_ascii_digit ds) h).0

pub first_of_all : (ds : List ℕ) → is_empty ds ≡ false → list_all is_ascii_digit ds ≡ true → is_ascii_digit (first ds) ≡ true
first_of_all [] e h = absurd (true≢false e)
first_of_all (d ∷ ds) e h = (and_parts (is_ascii_digit d) (list_all is_ascii_digit ds) h).0

pub first_of_digits : (ds : List ℕ) → is_digits ds ≡ true → is_ascii_digit (first ds) ≡ true
first_of_digits ds h = first_of_all ds (some_of_digits ds h) (all_of_digits ds h)

pub digit_range : (b : ℕ) → is_ascii_digit b ≡ true → (48 ≤ b) × (b ≤ 57)
digit_range b h = grind (arith, nat_tests)

no_inf : (ds : List ℕ) → is_digits ds ≡ true → is_inf ds ≡ false
no_inf ds h = let range = digit_range (first ds) (first_of_digits ds h) in grind (arith, nat_tests)

no_nan_by : (text : List ℕ) (b : Bool) → ((first text == 45) || (first text == 43)) ≡ b
    → is_digits (if b then drop 1 text else text) ≡ true → is_nan text ≡ false
no_nan_by text true e h = grind (arith, nat_tests)
no_nan_by text false e h = let range = digit_range (first text) (first_of_digits text h) in grind (arith, nat_tests)

no_nan : (text : List ℕ) → is_digits (after_sign text) ≡ true → is_nan text ≡ false
no_nan text h = no_nan_by text ((first text == 45) || (first text == 43)) refl h

decimal_of_all : (negative : Bool) (ds : List ℕ) → is_empty ds ≡ false
    → scaled negative (ds ++ []) 0 (Some (pos 0)) ≡ Some (decimal negative (digits_value ds) (pos 0))
decimal_of_all negative ds e = rw append-nil (rw e refl)

decimal_of_parts : (negative : Bool) (ds whole rest : List ℕ) → is_empty ds ≡ false → whole ≡ ds → rest ≡ []
    → scaled negative (whole ++ fraction_digits rest) (length (fraction_digits rest)) (exponent_of (after_fraction rest))
    ≡ Some (decimal negative (digits_value ds) (pos 0))
decimal_of_parts negative ds whole rest e w r =
    ap (λ x. scaled negative (x ++ fraction_digits rest) (length (fraction_digits rest)) (exponent_of (after_fraction rest))) w
    ∙ ap (λ x. scaled negative (ds ++ fraction_digits x) (length (fraction_digits x)) (exponent_of (after_fraction x))) r
    ∙ decimal_of_all negative ds e

decimal_of_digits : (negative : Bool) (ds : List ℕ) → is_digits ds ≡ true → decimal_of negative ds ≡ Some (decimal negative (digits_value ds) (pos 0))
decimal_of_digits negative ds h =
    let all : prefix_len is_ascii_digit ds ≡ length ds = prefix_len_all is_ascii_digit ds (all_of_digits ds h) in
    decimal_of_parts negative ds (leading_digits ds) (after_digits ds) (some_of_digits ds h)
    (take_all _ ds (omega arith)) (drop_all _ ds (omega arith))

short_number_is : (b c : Bool) (v n : ℕ) → (if b && c then Some v else None) ≡ Some n → (b ≡ true) × (v ≡ n)
short_number_is true true v n h = (refl, cc)
short_number_is true false v n h = cc
short_number_is false c v n h = cc

last_of : {X : Type 0} (a b : Bool) (x y z w : X) → a ≡ false → b ≡ false → z ≡ w → (if a then x else if b then y else z) ≡ w
last_of true b x y z w e f h = absurd (true≢false e)
last_of false true x y z w e f h = absurd (true≢false f)
last_of false false x y z w e f h = h

plain_spells : (text : List ℕ) (n : ℕ) → short_number (after_sign text) ≡ Some n → text_spells text ≡ Some (decimal (has_minus text) n (pos 0))
plain_spells text n h =
    let ds = after_sign text in
    let facts = short_number_is (is_digits ds) (nat_le (length ds) 18) (digits_value ds) n h in
    last_of (is_nan text) (is_inf ds) _ _ _ _ (no_nan text facts.0) (no_inf ds facts.0)
    (decimal_of_digits (has_minus text) ds facts.0 ∙ ap (λ v. Some (decimal (has_minus text) v (pos 0))) facts.1)

-- the same, of the parts that the code has
pub plain_read : (text digits : List ℕ) (negative : Bool) (n : ℕ) → negative ≡ has_minus text → digits ≡ after_sign text
    → Some n ≡ short_number digits → text_spells text ≡ Some (decimal negative n (pos 0))
plain_read text digits negative n minus rest e =
    plain_spells text n (ap short_number (sym rest) ∙ sym e) ∙ ap (λ b. Some (decimal b n (pos 0))) (sym minus)
