-- What a value comes to: a cell for each of its rows, a scalar, or a fault; and what an operation gives of operands that
-- have no fault. The cases of `own_outcome` stand in the order of docs/LANGUAGE.md, operators and then functions.
use Rattle.std.specs.Prelude.{ℕ, true, false, Option, None, Some, Result, Ok, Err, List, [], ◌∷◌, get_or}
use Rattle.tall_value.specs.declared.class.Kind.{Kind}
use Rattle.tall_value.specs.declared.faults.CellFault.{CellFault}
use Rattle.tall_value.specs.declared.faults.FaultKind.{FaultKind}
use Rattle.tall_value.specs.declared.functions.Method.{Method}
use Rattle.tall_value.specs.declared.operators.Binary.{Binary}
use Rattle.tall_value.specs.declared.operators.Unary.{Unary}
use Rattle.tall_value.specs.Cells.{Seen}
use Rattle.tall_value.specs.CellOperators.{unary_cell, binary_cell}
use Rattle.tall_value.specs.Columns.{cells}
use Rattle.tall_value.specs.Elementwise.{unary_rows, binary_rows, scalar_rows}
use Rattle.tall_value.specs.Reductions.{or_fault, data_fault}
use Rattle.tall_value.specs.GroupSummary.{summary}
use Rattle.tall_semantics.specs.Operations.{Part}
use Rattle.tall_semantics.specs.Equality.{part_place}
use Rattle.tall_semantics.specs.Faults.{At, Fault, fault_at}

-- rows are pairs of the row number and the cell, in the order of the rows
pub data Outcome : Type 0 where
  rows : List (ℕ × Seen) → Outcome
  scalar : Seen → Outcome
  fault : Fault → Outcome

abbrev pub fault_of : Outcome → Option Fault
fault_of (rows rs) = None
fault_of (scalar c) = None
fault_of (fault f) = Some f

abbrev pub rows_in : Outcome → List (ℕ × Seen)
rows_in (rows rs) = rs
rows_in (scalar c) = (1, c) ∷ []
rows_in (fault f) = []

-- a scalar is one row
abbrev pub cells_in : Outcome → List Seen
cells_in x = cells (rows_in x)

-- ---- the answers of columns and of cells as outcomes

abbrev pub row_by_row : At → Result (List (ℕ × Seen)) (ℕ × CellFault) → Outcome
row_by_row at (Ok rs) = rows rs
row_by_row at (Err e) = fault (fault_at at (Some e.0) (data_fault e.1))

abbrev pub alone : At → Result Seen FaultKind → Outcome
alone at (Ok c) = scalar c
alone at (Err kind) = fault (fault_at at None kind)

-- ---- operations over operands without a fault

-- row by row; over a scalar alone a scalar
abbrev pub elementwise_one : At → Unary → Outcome → Outcome
elementwise_one at op (rows rs) = row_by_row at (unary_rows op rs)
elementwise_one at op (scalar c) = alone at (or_fault (unary_cell op c))
elementwise_one at op (fault f) = fault f

-- two columns of one space, a scalar that meets each row, two scalars
abbrev pub elementwise_two : At → Binary → Outcome → Outcome → Outcome
elementwise_two at op (rows rs) (rows ss) = row_by_row at (binary_rows op rs ss)
elementwise_two at op (rows rs) (scalar d) = row_by_row at (scalar_rows op false d rs)
elementwise_two at op (scalar c) (rows ss) = row_by_row at (scalar_rows op true c ss)
elementwise_two at op (scalar c) (scalar d) = alone at (or_fault (binary_cell op c d))
elementwise_two at op (fault f) y = fault f
elementwise_two at op x (fault f) = fault f

-- a column of `groupsummary`; a fault of the call is that of each column
abbrev pub part_of_group : At → Part → Result (List (List (ℕ × Seen))) FaultKind → Outcome
part_of_group at part (Ok columns) = rows (get_or columns (part_place part) [])
part_of_group at part (Err kind) = fault (fault_at at None kind)

abbrev pub grouped : At → Method → Part → Kind → List (ℕ × Seen) → List (ℕ × Seen) → Outcome
grouped at m part a ks ds = part_of_group at part (summary m a ks ds)
