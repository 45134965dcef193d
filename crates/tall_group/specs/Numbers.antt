-- Keys that stand for numbers, and the cells of a class that they are.
use Rattle.std.specs.Prelude.{ℤ, pos, ◌==◌, unsigned_abs, Bool, not, Option, None, Some, Result, Ok, Err, []}
use Rattle.tall_int.specs.Doubles.{exact}
use Rattle.tall_int.specs.Numbers.{nearest}
use Rattle.tall_value.specs.declared.class.Kind.{Kind}
use Rattle.tall_value.specs.declared.class.Kind.TheVariants.{Integer, Logical, Double, Text}
use Rattle.tall_value.specs.Cells.{Seen, whole, logical, double, text, amount}
use Rattle.tall_value.specs.Classes.{least, greatest}
use Rattle.tall_group.specs.declared.numbers.Number.{Number}
use Rattle.tall_group.specs.declared.numbers.Number.TheVariants.{Whole, Nan}

-- the number that a cell stands for
abbrev pub number_or_nan : Option ℤ → Number
number_or_nan (Some n) = Whole n
number_or_nan None = Nan

abbrev pub number_of : Seen → Number
number_of c = number_or_nan (amount c)

abbrev pub double_of : Number → Seen
double_of (Whole n) = elim (exact n) [ Ok d ↦ double d | Err e ↦ double None ]
double_of Nan = double None

abbrev pub whole_of : Number → ℤ
whole_of (Whole n) = n
whole_of Nan = pos 0

-- a number as a logical: 0 is false
abbrev pub is_not_zero : ℤ → Bool
is_not_zero n = not (unsigned_abs n == 0)

-- the cell of a kind that stands for the number, or for the nearest of its class
abbrev pub key_cell : Kind → Number → Seen
key_cell (Integer k) n = whole k (nearest (least k) (greatest k) (whole_of n))
key_cell Logical n = logical (is_not_zero (whole_of n))
key_cell Double n = double_of n
key_cell Text n = text []
