-- The class of a variable of a format: docs/LANGUAGE.md, "Formats".
use Rattle.std.specs.Prelude.{◌≡◌, refl}
use Rattle.tall_value.specs.declared.class.Class.{Class}
use Rattle.tall_value.specs.declared.class.Class.TheVariants as class
use Rattle.tall_value.specs.declared.class.IntKind.{IntKind}
use Rattle.tall_value.specs.declared.class.IntKind.TheVariants as kind
use Rattle.tall_value.specs.declared.class.Kind.TheVariants.{Integer}
use Rattle.tall_value.specs.Classes.{class_of}
use Rattle.tall_store.specs.declared.format.Format.{Format}
use Rattle.tall_store.specs.declared.format.Format.TheVariants.{Int8, Int16, Int32, Int64, Uint8, Uint16, Uint32, Uint64, Double, Text}

abbrev pub class_of_format : Format → Class
class_of_format Int8 = class.Int8
class_of_format Int16 = class.Int16
class_of_format Int32 = class.Int32
class_of_format Int64 = class.Int64
class_of_format Uint8 = class.Uint8
class_of_format Uint16 = class.Uint16
class_of_format Uint32 = class.Uint32
class_of_format Uint64 = class.Uint64
class_of_format Double = class.Double
class_of_format Text = class.Text

-- the format of an integer class
abbrev pub integer_format : IntKind → Format
integer_format kind.Int8 = Int8
integer_format kind.Int16 = Int16
integer_format kind.Int32 = Int32
integer_format kind.Int64 = Int64
integer_format kind.Uint8 = Uint8
integer_format kind.Uint16 = Uint16
integer_format kind.Uint32 = Uint32
integer_format kind.Uint64 = Uint64

-- its class is that integer class
pub class_of_integers : (k : IntKind) → class_of (Integer k) ≡ class_of_format (integer_format k)
class_of_integers kind.Int8 = refl
class_of_integers kind.Int16 = refl
class_of_integers kind.Int32 = refl
class_of_integers kind.Int64 = refl
class_of_integers kind.Uint8 = refl
class_of_integers kind.Uint16 = refl
class_of_integers kind.Uint32 = refl
class_of_integers kind.Uint64 = refl
