-- The least of several faults of operators and functions: by the expression's number, then by the row, where none comes
-- before all rows. A reading fault of a datastore has a column and its datastore besides; where numbers and rows are
-- equal, these order it, and that order is defined where datastores are known.
use Rattle.std.specs.Prelude.{ℕ, ◌+◌, Bool, if◌then◌else◌, Option, None, Some, List, [], ◌∷◌}
use Rattle.std.specs.Ordering.{nat_cmp, is_lt}
use Rattle.std.specs.Cmp.Lexicographic.{slice_cmp}
use Rattle.tall_value.specs.declared.faults.Fault.{Fault}

abbrev pub row_place : Option ℕ → ℕ
row_place None = 0
row_place (Some row) = row + 1

abbrev pub fault_place : Fault → List ℕ
fault_place f = f.number ∷ row_place f.row ∷ []

abbrev pub precedes : Fault → Fault → Bool
precedes f g = is_lt (slice_cmp nat_cmp (fault_place f) (fault_place g))

-- the earlier of the two, and the first where neither precedes
abbrev pub least_of : Fault → Fault → Fault
least_of f g = if precedes g f then g else f

abbrev pub least_fault : List Fault → Option Fault
least_fault [] = None
least_fault (f ∷ fs) = Some (elim (least_fault fs) [ None ↦ f | Some g ↦ least_of f g ])
