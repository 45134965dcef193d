-- The cells that a scan goes over.
use Rattle.std.specs.Prelude.{◌≡◌}
use Rattle.tall_value.specs.declared.class.Kind.{Kind}
use Rattle.tall_value.specs.declared.class.Kind.TheVariants.{Integer, Logical, Double, Text}
use Rattle.tall_value.specs.Cells.{Seen, seen_kind}
use Rattle.tall_blocks.specs.Carries.{IsInClass}

-- a cell of a column of a kind, as far as scans ask for it
abbrev pub IsScanned : Kind → Seen → Type 0
IsScanned (Integer k) c = IsInClass (Integer k) c
IsScanned Double c = seen_kind c ≡ Double
IsScanned Logical c = Unit {0}
IsScanned Text c = Unit {0}
