-- Cells as plain data: the class and the value, which for an integer class is a whole number.
use Rattle.std.specs.Prelude.{ℤ, ℕ, pos, ◌≤◌, ◌^◌, unsigned_abs, Bool, true, false, Option, None, Some, List}
use Rattle.tall_value.specs.declared.class.IntKind.{IntKind}
use Rattle.tall_value.specs.declared.class.Kind.{Kind}
use Rattle.tall_value.specs.declared.class.Kind.TheVariants.{Integer, Logical, Double, Text}
use Rattle.tall_value.specs.declared.cell.Cell.{Cell}
use Rattle.tall_value.specs.declared.cell.Cell.TheVariants as cell
use Rattle.tall_value.specs.declared.cell.Content.{Content}
use Rattle.tall_value.specs.declared.cell.Content.TheVariants as content
use Rattle.tall_value.specs.declared.class.IntKind.TheVariants.{Int8, Int16, Int32, Int64, Uint8, Uint16, Uint32, Uint64}

-- a double is NaN, here None, or a whole number; a text is its bytes in UTF-8
pub data Seen : Type 0 where
  whole : IntKind → ℤ → Seen
  logical : Bool → Seen
  double : Option ℤ → Seen
  text : List ℕ → Seen

abbrev pub seen_kind : Seen → Kind
seen_kind (whole k n) = Integer k
seen_kind (logical b) = Logical
seen_kind (double d) = Double
seen_kind (text t) = Text

-- false and true as 0 and 1
abbrev pub bit : Bool → ℤ
bit true = pos 1
bit false = pos 0

-- the number that a cell stands for; none for NaN, and for a text, which stands for none
abbrev pub amount : Seen → Option ℤ
amount (whole k n) = Some n
amount (logical b) = Some (bit b)
amount (double d) = d
amount (text t) = None

abbrev pub is_nan : Seen → Bool
is_nan (double None) = true
is_nan c = false

-- ---- what a clause sees of a cell

abbrev pub seen : Cell → Seen
seen (cell.I8 n) = whole Int8 n
seen (cell.I16 n) = whole Int16 n
seen (cell.I32 n) = whole Int32 n
seen (cell.I64 n) = whole Int64 n
seen (cell.U8 n) = whole Uint8 (pos n)
seen (cell.U16 n) = whole Uint16 (pos n)
seen (cell.U32 n) = whole Uint32 (pos n)
seen (cell.U64 n) = whole Uint64 (pos n)
seen (cell.Logical b) = logical b
seen (cell.Double d) = double d
seen (cell.Text t) = text t.now

abbrev pub content_seen : Content → Seen
content_seen (content.Whole k n) = whole k n
content_seen (content.Logical b) = logical b
content_seen (content.Double d) = double d
content_seen (content.Text t) = text t.now

-- a number of an integer class is at most 2^64 in magnitude
abbrev pub HasSmall : Seen → Type 0
HasSmall (whole k n) = unsigned_abs n ≤ 2 ^ 64
HasSmall c = Unit {0}
