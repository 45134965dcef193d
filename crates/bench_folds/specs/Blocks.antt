-- Blocks of keys and values.
use Rattle.std.specs.Prelude.{◌≡◌, length}
use Rattle.tall_value.specs.declared.class.Class.TheVariants as class
use Rattle.tall_dense.specs.Columns.{SeenColumn}

-- texts and int16, equally many
abbrev pub IsBlock : SeenColumn × SeenColumn → Type 0
IsBlock b = (b.0.class ≡ class.Text) × (b.1.class ≡ class.Int16) × (length b.0.cells ≡ length b.1.cells)
