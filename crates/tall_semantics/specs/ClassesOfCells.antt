-- Cells of a class.
use Rattle.std.specs.Prelude.{◌≡◌}
use Rattle.std.specs.List.{All}
use Rattle.tall_value.specs.declared.class.Class.{Class}
use Rattle.tall_value.specs.Cells.{Seen, seen_kind}
use Rattle.tall_value.specs.Classes.{class_of}
use Rattle.tall_semantics.specs.Outcomes.{Outcome, cells_in}

abbrev pub HasClass : Class → Seen → Type 0
HasClass k c = class_of (seen_kind c) ≡ k

-- each cell of the value has the class; a fault has no cells
abbrev pub HaveClass : Class → Outcome → Type 0
HaveClass k x = All (HasClass k) (cells_in x)
