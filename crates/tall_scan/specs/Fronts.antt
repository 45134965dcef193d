-- What reading one byte does to the bytes that are left.
use Rattle.std.specs.Prelude.{ℕ, List, [], ◌∷◌, Option, None, Some}
use Rattle.std.specs.Io.KnownBytes.{Consumes, IsAtEnd}

-- the byte was the first that was left, or none was left
abbrev pub TakesByte : Option ℕ → Option (List ℕ) → Option (List ℕ) → Type 0
TakesByte None old new = Consumes old new [] × IsAtEnd new
TakesByte (Some byte) old new = Consumes old new (byte ∷ [])
