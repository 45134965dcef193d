-- Operators row by row. The outcome has a cell for each row, in order; the first row where the operator has none is the
-- fault.
use Rattle.std.specs.Prelude.{ℕ, Bool, if◌then◌else◌, List, [], ◌∷◌, Result, Ok, Err}
use Rattle.tall_value.specs.declared.faults.CellFault.{CellFault}
use Rattle.tall_value.specs.declared.operators.Binary.{Binary}
use Rattle.tall_value.specs.declared.operators.Unary.{Unary}
use Rattle.tall_value.specs.Cells.{Seen}
use Rattle.tall_value.specs.CellOperators.{unary_cell, binary_cell}

abbrev pub in_front : {R E : Type 0} → R → Result (List R) E → Result (List R) E
in_front r (Ok rows) = Ok (r ∷ rows)
in_front r (Err e) = Err e

abbrev pub at_row : ℕ → Result Seen CellFault → Result (List (ℕ × Seen)) (ℕ × CellFault) → Result (List (ℕ × Seen)) (ℕ × CellFault)
at_row row (Ok c) rest = in_front (row, c) rest
at_row row (Err fault) rest = Err (row, fault)

abbrev pub each_row : (Seen → Result Seen CellFault) → List (ℕ × Seen) → Result (List (ℕ × Seen)) (ℕ × CellFault)
each_row f [] = Ok []
each_row f (r ∷ rows) = at_row r.0 (f r.1) (each_row f rows)

-- two columns of one space or of one length in memory: equally many rows with the same numbers. Columns of unequal
-- lengths are refused before, and of these nothing is meant here
abbrev pub each_pair : (Seen → Seen → Result Seen CellFault) → List (ℕ × Seen) → List (ℕ × Seen) → Result (List (ℕ × Seen)) (ℕ × CellFault)
each_pair f [] others = Ok []
each_pair f (r ∷ rows) [] = Ok []
each_pair f (r ∷ rows) (s ∷ others) = at_row r.0 (f r.1 s.1) (each_pair f rows others)

abbrev pub unary_rows : Unary → List (ℕ × Seen) → Result (List (ℕ × Seen)) (ℕ × CellFault)
unary_rows op rows = each_row (unary_cell op) rows

abbrev pub binary_rows : Binary → List (ℕ × Seen) → List (ℕ × Seen) → Result (List (ℕ × Seen)) (ℕ × CellFault)
binary_rows op rows others = each_pair (binary_cell op) rows others

-- a scalar meets each row
abbrev pub beside : Binary → Bool → Seen → Seen → Result Seen CellFault
beside op scalar_left scalar c = if scalar_left then binary_cell op scalar c else binary_cell op c scalar

abbrev pub scalar_rows : Binary → Bool → Seen → List (ℕ × Seen) → Result (List (ℕ × Seen)) (ℕ × CellFault)
scalar_rows op scalar_left scalar rows = each_row (beside op scalar_left scalar) rows
