-- Two look-ups after one another.
use Rattle.std.specs.Prelude.{Option, None, Some}

abbrev pub option_or : {A : Type 0} → Option A → Option A → Option A
option_or (Some a) o = Some a
option_or None o = o
