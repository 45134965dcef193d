-- Faults in the data of expressions and in the reading of datastores, and the least of several.
use Rattle.std.specs.Prelude.{ℕ, Bool, if◌then◌else◌, Option, None, Some, List, [], ◌∷◌}
use Rattle.std.specs.Ordering.{nat_cmp, is_lt}
use Rattle.std.specs.Cmp.Lexicographic.{slice_cmp}
use Rattle.tall_value.specs.declared.faults.Fault as value
use Rattle.tall_value.specs.declared.faults.FaultKind.{FaultKind}
use Rattle.tall_value.specs.declared.faults.ReadingKind.{ReadingKind}
use Rattle.tall_value.specs.FaultOrder.{row_place}

-- an expression: its number in the script, and the line of its statement
pub record At : Type 0 where
  pub number : ℕ
  pub line : ℕ

-- what went wrong: in an operation, or in a file of a datastore, by its place in the list of files from 0
pub data Cause : Type 0 where
  computed : FaultKind → Cause
  reading : ReadingKind → (file : ℕ) → Cause

-- `row` is from 1, and none for a reduction and an operation over scalars. A reading fault also has the variable's place
-- in the file from 1, which is 0 where the whole row or the file is wrong, and its datastore; an operation's has 0 there.
pub record Fault : Type 0 where
  pub number : ℕ
  pub row : Option ℕ
  pub column : ℕ
  pub store : ℕ
  pub cause : Cause
  pub line : ℕ

-- by number, then row, where none comes before all rows, then column, then the datastore that was made earlier
abbrev pub fault_place : Fault → List ℕ
fault_place f = f.number ∷ row_place f.row ∷ f.column ∷ f.store ∷ []

abbrev pub precedes : Fault → Fault → Bool
precedes f g = is_lt (slice_cmp nat_cmp (fault_place f) (fault_place g))

-- the earlier of the two, and the first where neither precedes
abbrev pub least_of : Fault → Fault → Fault
least_of f g = if precedes g f then g else f

abbrev pub earlier : Option Fault → Option Fault → Option Fault
earlier None g = g
earlier (Some f) None = Some f
earlier (Some f) (Some g) = Some (least_of f g)

-- the least of all that there are
abbrev pub least_fault : List (Option Fault) → Option Fault
least_fault [] = None
least_fault (f ∷ fs) = earlier f (least_fault fs)

-- ---- faults of operations, at a row or at none

abbrev pub fault_at : At → Option ℕ → FaultKind → Fault
fault_at at row kind = record { number = at.number; row = row; column = 0; store = 0; cause = computed kind; line = at.line }

-- what a clause sees of such a fault in code
abbrev pub fault_seen : value.Fault → Fault
fault_seen f = record { number = f.number; row = f.row; column = 0; store = 0; cause = computed f.kind; line = f.line }
