-- What a reading fault names: the fault of a field a variable, by its place in the file from 1.
use Rattle.std.specs.Prelude.{◌<◌, ◌≤◌, ℕ, ⊤}
use Rattle.tall_value.specs.declared.faults.ReadingKind.{ReadingKind}
use Rattle.tall_value.specs.declared.faults.ReadingKind.TheVariants as kind

abbrev pub IsColumn : ReadingKind → (variables column : ℕ) → Type 0
IsColumn kind.NoFile n column = ⊤
IsColumn kind.HeaderDiffers n column = ⊤
IsColumn kind.TooManyRows n column = ⊤
IsColumn kind.TooManyFields n column = ⊤
IsColumn kind.BadField n column = (0 < column) × (column ≤ n)
IsColumn kind.BadText n column = (0 < column) × (column ≤ n)
IsColumn kind.NotWhole n column = (0 < column) × (column ≤ n)
IsColumn kind.Inexact n column = (0 < column) × (column ≤ n)
