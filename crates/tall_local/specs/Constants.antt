-- Names that have a value while no variable hides them.
use Rattle.std.specs.Prelude.{ℕ, true, false, List, [], ◌∷◌, Option, None, codes}
use Rattle.tall_value.specs.Cells.{Seen, logical, double}
use Rattle.tall_local.specs.Names.{named}

abbrev pub constants : List (List ℕ × Seen)
constants = (codes "true", logical true) ∷ (codes "false", logical false) ∷ (codes "NaN", double None) ∷ []

unfoldable pub constant_named : List ℕ → Option Seen
constant_named name = named constants name
