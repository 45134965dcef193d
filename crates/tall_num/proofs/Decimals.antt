-- What the code finds of a decimal's parts.
use Rattle.std.proofs.Common.{◌≡◌, ◌<◌, ◌≤◌, ◌^◌, min, ℕ, true, cond, ◌+◌, length, get_or, arith, ap, ◌∙◌, sym, Option, Some, None, length-append}
use Rattle.std.specs.Prelude.{nat_le}
use Rattle.std.specs.List.{list_all}
use Rattle.std.specs.Char.{is_ascii_digit}
use Rattle.std.proofs.lemmas.Bool.{and_from, le-leb, lt-leb}
use Rattle.std.proofs.lemmas.List.Folds.{list_all-append}
use Rattle.tall_num.specs.declared.decimal.Decimal.{Decimal}
use Rattle.tall_num.specs.Spelling.{digits_value}
use Rattle.tall_num.specs.Values.{decimal_size, is_whole}
use Rattle.tall_num.specs.Sizes.{capped, point_of, size_before, rounds_up, is_zero_from}
use Rattle.tall_num.specs.View.{digits_of, exponent_of}
use Rattle.tall_num.proofs.Sizes.{Small, Found, found_none, found_some}

-- where the point stands
abbrev pub place : Decimal → Option ℕ
place d = point_of d.exponent_negative (capped (digits_value d.exponent.now)) (length d.whole.now)

all_digits : (d : Decimal) → list_all is_ascii_digit (digits_of d) ≡ true
all_digits d =
    list_all-append is_ascii_digit d.whole.now d.fraction.now ∙ and_from _ _ d.whole_is_digits d.fraction_is_digits

none_of : (d : Decimal) → None ≡ place d → Small d.exponent_negative (digits_value d.exponent.now) (length d.fraction.now) (digits_of d)
none_of d e =
    found_none d.exponent_negative (digits_value d.exponent.now) (length d.whole.now) (length d.fraction.now) (digits_of d)
    (all_digits d) (length-append d.whole.now d.fraction.now) (sym e)

some_of : (d : Decimal) (p : ℕ) → length d.whole.now + length d.fraction.now + 20 ≤ 10 ^ 20 → Some p ≡ place d
    → Found d.exponent_negative (digits_value d.exponent.now) (length d.whole.now) (length d.fraction.now) (digits_of d) p
some_of d p room e =
    found_some d.exponent_negative (digits_value d.exponent.now) (length d.whole.now) (length d.fraction.now) p (digits_of d)
    (all_digits d) (length-append d.whole.now d.fraction.now) room (sym e)

pub round_none : (d : Decimal) → None ≡ place d → 0 ≡ capped (decimal_size (digits_value (digits_of d)) (exponent_of d))
round_none d e = sym (ap capped (none_of d e).size)

pub whole_none : (d : Decimal) → None ≡ place d → is_zero_from (digits_of d) 0 ≡ is_whole (digits_value (digits_of d)) (exponent_of d)
whole_none d e = sym (none_of d e).whole

pub whole_some : (d : Decimal) (p : ℕ) → length d.whole.now + length d.fraction.now + 20 ≤ 10 ^ 20 → Some p ≡ place d
    → is_zero_from (digits_of d) p ≡ is_whole (digits_value (digits_of d)) (exponent_of d)
whole_some d p room e = sym (some_of d p room e).whole

capped_sum : (n m : ℕ) → min (10 ^ 20) (capped n + m) ≡ capped (n + m)
capped_sum n m = omega arith

round_some : (d : Decimal) (p size byte : ℕ) → length d.whole.now + length d.fraction.now + 20 ≤ 10 ^ 20 → Some p ≡ place d
    → size ≡ capped (size_before (digits_of d) p) → byte ≡ get_or (digits_of d) p 0
    → min (10 ^ 20) (size + cond (nat_le 53 byte) 1 0) ≡ capped (decimal_size (digits_value (digits_of d)) (exponent_of d))
round_some d p size byte room e s b =
    ap (λ x. min (10 ^ 20) (x + cond (nat_le 53 byte) 1 0)) s
    ∙ ap (λ x. min (10 ^ 20) (capped (size_before (digits_of d) p) + cond (nat_le 53 x) 1 0)) b
    ∙ capped_sum (size_before (digits_of d) p) (cond (rounds_up (digits_of d) p) 1 0)
    ∙ sym (some_of d p room e).size

pub round_up : (d : Decimal) (p size byte r : ℕ) → length d.whole.now + length d.fraction.now + 20 ≤ 10 ^ 20 → Some p ≡ place d
    → size ≡ capped (size_before (digits_of d) p) → byte ≡ get_or (digits_of d) p 0 → 53 ≤ byte → r ≡ min (10 ^ 20) (size + 1)
    → r ≡ capped (decimal_size (digits_value (digits_of d)) (exponent_of d))
round_up d p size byte r room e s b high result =
    result ∙ ap (λ t. min (10 ^ 20) (size + cond t 1 0)) (sym (le-leb 53 byte high)) ∙ round_some d p size byte room e s b

pub round_down : (d : Decimal) (p size byte : ℕ) → length d.whole.now + length d.fraction.now + 20 ≤ 10 ^ 20 → Some p ≡ place d
    → size ≡ capped (size_before (digits_of d) p) → byte ≡ get_or (digits_of d) p 0 → byte < 53
    → size ≡ capped (decimal_size (digits_value (digits_of d)) (exponent_of d))
round_down d p size byte room e s b low =
    let same : size ≡ min (10 ^ 20) (size + 0) = omega arith in
    same ∙ ap (λ t. min (10 ^ 20) (size + cond t 1 0)) (sym (lt-leb 53 byte low)) ∙ round_some d p size byte room e s b
