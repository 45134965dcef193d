-- What a clause sees of a field: what it spells.
use Rattle.std.specs.Prelude.{List, ℕ, ℤ, pos, ◌-ℤ◌, ◌++◌, length}
use Rattle.tall_int.specs.Quotients.{with_sign}
use Rattle.tall_num.specs.Spelling.{Spelling, nan, infinity, decimal, digits_value}
use Rattle.tall_num.specs.declared.decimal.Decimal.{Decimal}
use Rattle.tall_num.specs.declared.decimal.Form.{Form}
use Rattle.tall_num.specs.declared.decimal.Form.TheVariants.{Nan, Infinity, Plain, General}

-- the digits before and after the point
abbrev pub digits_of : Decimal → List ℕ
digits_of d = d.whole.now ++ d.fraction.now

abbrev pub exponent_of : Decimal → ℤ
exponent_of d = with_sign d.exponent_negative (digits_value d.exponent.now) -ℤ pos (length d.fraction.now)

abbrev pub decimal_spelling : Decimal → Spelling
decimal_spelling d = decimal d.negative (digits_value (digits_of d)) (exponent_of d)

abbrev pub form_spelling : Form → Spelling
form_spelling Nan = nan
form_spelling (Infinity negative) = infinity negative
form_spelling (Plain negative size) = decimal negative size (pos 0)
form_spelling (General d) = decimal_spelling d
