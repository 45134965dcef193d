-- Values that count as doubles in arithmetic.
use Rattle.tall_value.specs.Cells.{Seen, whole, logical, double, text}

-- a logical or a double
abbrev pub CountsAsDouble : Seen → Type 0
CountsAsDouble (whole k n) = ⊥
CountsAsDouble (logical b) = Unit {0}
CountsAsDouble (double d) = Unit {0}
CountsAsDouble (text t) = ⊥
