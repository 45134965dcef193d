-- Columns of several kinds, as those of `groupsummary` are.
use Rattle.tall_value.specs.declared.class.Kind.{Kind}
use Rattle.std.specs.Prelude.{List, [], ◌∷◌}
use Rattle.std.specs.List.{All}
use Rattle.tall_value.specs.Cells.{Seen}
use Rattle.tall_value.specs.Columns.{HasKind}

-- as many columns as there are kinds, each of its kind
abbrev pub HaveKinds : List Kind → List (List Seen) → Type 0
HaveKinds [] [] = Unit {0}
HaveKinds (k ∷ kinds) (column ∷ columns) = All (HasKind k) column × HaveKinds kinds columns
HaveKinds kinds columns = ⊥
