-- Fields with what they spell, by computation.
use Rattle.std.specs.Prelude.{◌≡◌, pos, negsuc, true, false, codes, Some, None, refl}
use Rattle.tall_num.specs.Spelling.{nan, infinity, decimal, spells}

plain : spells (codes "5000") ≡ Some (decimal false 5000 (pos 0))
plain = refl

blanks_at_both_ends : spells (codes " 7 ") ≡ Some (decimal false 7 (pos 0))
blanks_at_both_ends = refl

tabs : spells (codes "\t-7\t") ≡ Some (decimal true 7 (pos 0))
tabs = refl

minus_zero : spells (codes "-0") ≡ Some (decimal true 0 (pos 0))
minus_zero = refl

fraction : spells (codes "-2.50") ≡ Some (decimal true 250 (negsuc 1))
fraction = refl

point_first : spells (codes ".5") ≡ Some (decimal false 5 (negsuc 0))
point_first = refl

all_parts : spells (codes "+.5E+1") ≡ Some (decimal false 5 (pos 0))
all_parts = refl

exponent : spells (codes "12.5e3") ≡ Some (decimal false 125 (pos 2))
exponent = refl

negative_exponent : spells (codes "25e-1") ≡ Some (decimal false 25 (negsuc 0))
negative_exponent = refl

long_exponent : spells (codes "-1e-99999999999999999999") ≡ Some (decimal true 1 (negsuc 99999999999999999998))
long_exponent = refl

zeros_first : spells (codes "007e01") ≡ Some (decimal false 7 (pos 1))
zeros_first = refl

infinities : spells (codes "-inf") ≡ Some (infinity true)
infinities = refl

infinity_in_capitals : spells (codes "+INF ") ≡ Some (infinity false)
infinity_in_capitals = refl

nan_in_capitals : spells (codes "NAN") ≡ Some nan
nan_in_capitals = refl

-- ---- no numbers

empty : spells (codes "") ≡ None
empty = refl

only_blanks : spells (codes " \t ") ≡ None
only_blanks = refl

point_last : spells (codes "5.") ≡ None
point_last = refl

point_last_before_exponent : spells (codes "5.e1") ≡ None
point_last_before_exponent = refl

only_point : spells (codes ".") ≡ None
only_point = refl

only_sign : spells (codes "+") ≡ None
only_sign = refl

two_signs : spells (codes "+-5") ≡ None
two_signs = refl

no_exponent_digits : spells (codes "1e") ≡ None
no_exponent_digits = refl

no_digits_after_exponent_sign : spells (codes "1e+") ≡ None
no_digits_after_exponent_sign = refl

no_mantissa : spells (codes "e5") ≡ None
no_mantissa = refl

hexadecimal : spells (codes "0x1") ≡ None
hexadecimal = refl

digit_groups : spells (codes "1_0") ≡ None
digit_groups = refl

after_nan : spells (codes "nan5") ≡ None
after_nan = refl

signed_nan : spells (codes "-nan") ≡ None
signed_nan = refl

long_word : spells (codes "Infinity") ≡ None
long_word = refl

blanks_inside : spells (codes "1 0") ≡ None
blanks_inside = refl

blank_after_sign : spells (codes "- 5") ≡ None
blank_after_sign = refl

blank_before_exponent : spells (codes "1 e5") ≡ None
blank_before_exponent = refl

fraction_in_exponent : spells (codes "1e5.5") ≡ None
fraction_in_exponent = refl

line_feed : spells (codes "5\n") ≡ None
line_feed = refl
