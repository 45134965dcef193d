-- What a clause sees of an owned cell.
use Rattle.std.specs.Prelude.{pos}
use Rattle.tall_value.specs.declared.class.IntKind.TheVariants.{Int8, Int16, Int32, Int64, Uint8, Uint16, Uint32, Uint64}
use Rattle.tall_value.specs.declared.owned.Owned.{Owned}
use Rattle.tall_value.specs.declared.owned.Owned.TheVariants.{I8, I16, I32, I64, U8, U16, U32, U64, Logical, Double, Text}
use Rattle.tall_value.specs.Cells.{Seen, whole, logical, double, text}

abbrev pub owned_seen : Owned → Seen
owned_seen (I8 n) = whole Int8 n
owned_seen (I16 n) = whole Int16 n
owned_seen (I32 n) = whole Int32 n
owned_seen (I64 n) = whole Int64 n
owned_seen (U8 n) = whole Uint8 (pos n)
owned_seen (U16 n) = whole Uint16 (pos n)
owned_seen (U32 n) = whole Uint32 (pos n)
owned_seen (U64 n) = whole Uint64 (pos n)
owned_seen (Logical b) = logical b
owned_seen (Double d) = double d
owned_seen (Text t) = text t
