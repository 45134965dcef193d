-- The classes of the language and their kinds. MathWorks, Integers: the range of each integer class.
use Rattle.std.specs.Prelude.{ℤ, ℕ, pos, negsuc, Bool, ◌==◌}
use Rattle.tall_value.specs.declared.class.Class.{Class}
use Rattle.tall_value.specs.declared.class.Class.TheVariants as class
use Rattle.tall_value.specs.declared.class.IntKind.{IntKind}
use Rattle.tall_value.specs.declared.class.IntKind.TheVariants.{Int8, Int16, Int32, Int64, Uint8, Uint16, Uint32, Uint64}
use Rattle.tall_value.specs.declared.class.Kind.{Kind}
use Rattle.tall_value.specs.declared.class.Kind.TheVariants.{Integer, Logical, Double, Text}

abbrev pub class_of : Kind → Class
class_of (Integer Int8) = class.Int8
class_of (Integer Int16) = class.Int16
class_of (Integer Int32) = class.Int32
class_of (Integer Int64) = class.Int64
class_of (Integer Uint8) = class.Uint8
class_of (Integer Uint16) = class.Uint16
class_of (Integer Uint32) = class.Uint32
class_of (Integer Uint64) = class.Uint64
class_of Logical = class.Logical
class_of Double = class.Double
class_of Text = class.Text

abbrev pub kind_of : Class → Kind
kind_of class.Int8 = Integer Int8
kind_of class.Int16 = Integer Int16
kind_of class.Int32 = Integer Int32
kind_of class.Int64 = Integer Int64
kind_of class.Uint8 = Integer Uint8
kind_of class.Uint16 = Integer Uint16
kind_of class.Uint32 = Integer Uint32
kind_of class.Uint64 = Integer Uint64
kind_of class.Logical = Logical
kind_of class.Double = Double
kind_of class.Text = Text

-- the least number of an integer class
abbrev pub least : IntKind → ℤ
least Int8 = negsuc 127
least Int16 = negsuc 32767
least Int32 = negsuc 2147483647
least Int64 = negsuc 9223372036854775807
least Uint8 = pos 0
least Uint16 = pos 0
least Uint32 = pos 0
least Uint64 = pos 0

-- the greatest number of an integer class
abbrev pub greatest : IntKind → ℤ
greatest Int8 = pos 127
greatest Int16 = pos 32767
greatest Int32 = pos 2147483647
greatest Int64 = pos 9223372036854775807
greatest Uint8 = pos 255
greatest Uint16 = pos 65535
greatest Uint32 = pos 4294967295
greatest Uint64 = pos 18446744073709551615

-- the place of an integer class among the eight
abbrev pub place : IntKind → ℕ
place Int8 = 0
place Int16 = 1
place Int32 = 2
place Int64 = 3
place Uint8 = 4
place Uint16 = 5
place Uint32 = 6
place Uint64 = 7

abbrev pub is_same : IntKind → IntKind → Bool
is_same c d = place c == place d
