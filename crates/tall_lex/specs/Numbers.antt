-- The numbers that a script may have.
use Rattle.std.specs.Prelude.{ℕ, Bool, false, is_ok, List, Option, Some, None}
use Rattle.tall_num.specs.Spelling.{Spelling, spells}
use Rattle.tall_num.specs.Values.{whole_value}

-- a number whose value is whole and of a magnitude of at most 2^53
abbrev pub is_whole_spelling : Option Spelling → Bool
is_whole_spelling None = false
is_whole_spelling (Some spelling) = is_ok (whole_value spelling)

-- the bytes are a number field with such a value
unfoldable pub is_whole_number : List ℕ → Bool
is_whole_number text = is_whole_spelling (spells text)
