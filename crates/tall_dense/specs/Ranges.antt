-- Numbers that are in a range or not.
use Rattle.std.specs.Prelude.{ℤ, ◌&&◌, int_le, if◌then◌else◌, Option, None, Some}

-- the number, where it is in the range
abbrev pub in_range : ℤ → ℤ → ℤ → Option ℤ
in_range low high n = if int_le low n && int_le n high then Some n else None
