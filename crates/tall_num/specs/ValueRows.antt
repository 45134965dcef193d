-- Values of spellings in int8 and as doubles, by computation.
use Rattle.std.specs.Prelude.{◌≡◌, ℕ, ℤ, pos, negsuc, codes, List, Option, Some, None, Result, Ok, Err, option_map, refl}
use Rattle.tall_int.specs.declared.faults.WholeFault.{WholeFault}
use Rattle.tall_int.specs.declared.faults.WholeFault.TheVariants.{Inexact, NotWhole}
use Rattle.tall_num.specs.Spelling.{spells}
use Rattle.tall_num.specs.Values.{class_value, whole_value}

abbrev int8_of : List ℕ → Option ℤ
int8_of text = option_map (class_value (negsuc 127) (pos 127)) (spells text)

tie : int8_of (codes "2.5") ≡ Some (pos 3)
tie = refl

negative_tie : int8_of (codes "-2.5") ≡ Some (negsuc 2)
negative_tie = refl

below_a_tie : int8_of (codes "2.4999999999999999999999999999999999999999999999") ≡ Some (pos 2)
below_a_tie = refl

tie_by_exponent : int8_of (codes "25e-1") ≡ Some (pos 3)
tie_by_exponent = refl

tie_past_the_point : int8_of (codes "0.25e1") ≡ Some (pos 3)
tie_past_the_point = refl

large : int8_of (codes "1e400") ≡ Some (pos 127)
large = refl

large_below_zero : int8_of (codes "-1e400") ≡ Some (negsuc 127)
large_below_zero = refl

rounded_then_clamped : int8_of (codes "127.5") ≡ Some (pos 127)
rounded_then_clamped = refl

small : int8_of (codes "1e-400") ≡ Some (pos 0)
small = refl

not_a_number : int8_of (codes "nan") ≡ Some (pos 0)
not_a_number = refl

infinite : int8_of (codes "-Inf") ≡ Some (negsuc 127)
infinite = refl

-- ---- doubles

abbrev double_of : List ℕ → Option (Result (Option ℤ) WholeFault)
double_of text = option_map whole_value (spells text)

fraction : double_of (codes "2.5") ≡ Some (Err NotWhole)
fraction = refl

no_fraction : double_of (codes "-2.500e3") ≡ Some (Ok (Some (negsuc 2499)))
no_fraction = refl

fraction_comes_first : double_of (codes "9007199254740993.5") ≡ Some (Err NotWhole)
fraction_comes_first = refl

greatest : double_of (codes "9007199254740992") ≡ Some (Ok (Some (pos 9007199254740992)))
greatest = refl

too_large : double_of (codes "9007199254740993") ≡ Some (Err Inexact)
too_large = refl

too_large_by_exponent : double_of (codes "1e400") ≡ Some (Err Inexact)
too_large_by_exponent = refl

infinite_double : double_of (codes "-inf") ≡ Some (Err Inexact)
infinite_double = refl

nan_double : double_of (codes "NaN") ≡ Some (Ok None)
nan_double = refl
