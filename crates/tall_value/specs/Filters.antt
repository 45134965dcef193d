-- The rows that a logical column keeps, in order, as they are.
use Rattle.std.specs.Prelude.{Bool, true, false, if◌then◌else◌, List, [], ◌∷◌}
use Rattle.tall_value.specs.Cells.{Seen, logical}

abbrev pub is_true : Seen → Bool
is_true (logical true) = true
is_true c = false

-- of rows or of cells, by the cells of the mask: as many as there are rows, since a mask of another length is refused
-- before, and of such a mask nothing is meant here
abbrev pub kept : {R : Type 0} → List R → List Seen → List R
kept [] mask = []
kept (r ∷ rows) [] = []
kept (r ∷ rows) (m ∷ mask) = if is_true m then r ∷ kept rows mask else kept rows mask
