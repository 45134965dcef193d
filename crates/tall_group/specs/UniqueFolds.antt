-- Distinct cells so far.
use Rattle.std.specs.Prelude.{◌≡◌, ℕ, List, length}
use Rattle.std.specs.List.{All, filter}
use Rattle.tall_value.specs.declared.class.Class.{Class}
use Rattle.tall_value.specs.Cells.{Seen, is_nan}
use Rattle.tall_value.specs.Classes.{kind_of}
use Rattle.tall_value.specs.Columns.{HasKind}
use Rattle.tall_value.specs.Reductions.{present}
use Rattle.tall_group.specs.Keys.{found}
use Rattle.tall_group.specs.declared.unique.UniqueFold.{UniqueFold}

-- the class of the cells
abbrev pub class_of_unique : UniqueFold → Class
class_of_unique fold = fold.keys.class

-- the fold is one of these cells, in this order; then `finish` gives their distinct cells
pub record IsUniqueOf (fold : UniqueFold) (cs : List Seen) : Type 0 where
  pub found_in : (c : Seen) → found c fold.keys.cells ≡ found c (present cs)
  pub nans : fold.nans ≡ length (filter is_nan cs)
  pub kinds : All (HasKind (kind_of fold.keys.class)) cs
