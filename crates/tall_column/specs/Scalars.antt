-- Scalars beside a column of an integer class.
use Rattle.std.specs.Prelude.{ℤ, Bool, true, false, if◌then◌else◌, Option, None, Some}
use Rattle.tall_value.specs.declared.class.IntKind.{IntKind}
use Rattle.tall_value.specs.declared.operators.Binary.{Binary}
use Rattle.tall_value.specs.declared.operators.Binary.TheVariants.{BitAnd, BitOr, BitXor}
use Rattle.tall_value.specs.Cells.{Seen, whole, logical, double, text, bit}
use Rattle.tall_value.specs.Classes.{is_same}

-- the number that a scalar counts as beside class k, which need not be a number of the class; none for a number of another
-- integer class, for NaN and for a text
abbrev pub number_beside : IntKind → Seen → Option ℤ
number_beside k (whole j n) = if is_same j k then Some n else None
number_beside k (logical b) = Some (bit b)
number_beside k (double d) = d
number_beside k (text t) = None

-- `bitand`, `bitor` and `bitxor`, which convert both sides to the integer class
abbrev pub is_bits : Binary → Bool
is_bits BitAnd = true
is_bits BitOr = true
is_bits BitXor = true
is_bits op = false
