-- What a clause sees of the values of a column.
use Rattle.std.specs.Prelude.{pos, map}
use Rattle.tall_value.specs.declared.class.Class.TheVariants as class
use Rattle.tall_value.specs.declared.class.IntKind.TheVariants.{Int8, Int16, Int32, Int64, Uint8, Uint16, Uint32, Uint64}
use Rattle.tall_value.specs.Cells.{whole, logical, double, text}
use Rattle.tall_dense.specs.Columns.{SeenColumn}
use Rattle.tall_dense.specs.declared.values.Values.{Values}
use Rattle.tall_dense.specs.declared.values.Values.TheVariants.{I8, I16, I32, I64, U8, U16, U32, U64, Logical, Double, Text}

abbrev pub shown : Values → SeenColumn
shown (I8 v) = record { class = class.Int8; cells = map (λ n. whole Int8 n) v.items }
shown (I16 v) = record { class = class.Int16; cells = map (λ n. whole Int16 n) v.items }
shown (I32 v) = record { class = class.Int32; cells = map (λ n. whole Int32 n) v.items }
shown (I64 v) = record { class = class.Int64; cells = map (λ n. whole Int64 n) v.items }
shown (U8 v) = record { class = class.Uint8; cells = map (λ n. whole Uint8 (pos n)) v.items }
shown (U16 v) = record { class = class.Uint16; cells = map (λ n. whole Uint16 (pos n)) v.items }
shown (U32 v) = record { class = class.Uint32; cells = map (λ n. whole Uint32 (pos n)) v.items }
shown (U64 v) = record { class = class.Uint64; cells = map (λ n. whole Uint64 (pos n)) v.items }
shown (Logical v) = record { class = class.Logical; cells = map (λ b. logical b) v.items }
shown (Double v) = record { class = class.Double; cells = map (λ d. double d) v.items }
shown (Text t) = record { class = class.Text; cells = map (λ s. text s) t }
