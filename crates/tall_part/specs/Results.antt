-- What an end comes to: columns with the numbers of their rows, or a fault.
use Rattle.std.specs.Prelude.{◌≡◌, ◌<◌, ◌≤◌, length, ℕ, Some, Result, Ok, List, [], ◌∷◌, slice_get}
use Rattle.tall_value.specs.declared.class.Class.{Class}
use Rattle.tall_value.specs.declared.faults.ClassFault.{ClassFault}
use Rattle.tall_value.specs.Columns.{cells}
use Rattle.tall_value.specs.FunctionClasses.{reduction_class, summary_classes}
use Rattle.tall_dense.specs.Columns.{SeenColumn}
use Rattle.tall_semantics.specs.Faults.{At, fault_seen}
use Rattle.tall_semantics.specs.Outcomes.{Outcome, rows, scalar, fault}
use Rattle.tall_semantics.specs.Shapes.{part_class}
use Rattle.tall_blocks.specs.Carries.{Rows}
use Rattle.tall_graph.specs.Vertices.{part_of}
use Rattle.tall_part.specs.declared.operation.EndOperation.{EndOperation}
use Rattle.tall_part.specs.declared.operation.EndOperation.TheVariants as end
use Rattle.tall_part.specs.declared.results.EndColumn.{EndColumn}
use Rattle.tall_part.specs.declared.results.EndFault.{EndFault}
use Rattle.tall_part.specs.declared.results.EndFault.TheVariants as fault_of_end
use Rattle.tall_part.specs.Operations.{IsColumn, IsTaken, column_count, outcome_of_rows}
use Rattle.tall_part.specs.Parts.{numbers}

-- a column with row numbers is the outcome; a scalar has none
abbrev pub IsOutcome : Outcome → SeenColumn → List ℕ → Type 0
IsOutcome (rows rs) column ns = (column.cells ≡ cells rs) × (ns ≡ numbers rs)
IsOutcome (scalar c) column ns = (column.cells ≡ c ∷ []) × (ns ≡ [])
IsOutcome (fault f) column ns = ⊥

-- the class of one of the columns
abbrev pub class_of_column : EndOperation → (n : ℕ) → (first last : Class) → Result Class ClassFault
class_of_column (end.Reduce r) n a b = reduction_class r a
class_of_column (end.Head k) n a b = Ok a
class_of_column (end.Tail k) n a b = Ok a
class_of_column end.Distinct n a b = Ok a
class_of_column (end.Group m) n a b = part_class (part_of n) (summary_classes m a b)

-- each of the columns is there, of its class
abbrev pub HaveClasses : EndOperation → (first last : Class) → List EndColumn → Type 0
HaveClasses op a b columns = (n : ℕ) → n < column_count op → (c : EndColumn) × (slice_get columns n ≡ Some c) × (class_of_column op n a b ≡ Ok c.column.class)

-- and is its outcome
abbrev pub AreOutcomes : At → EndOperation → (first last : Class) → (rs ss : Rows) → List EndColumn → Type 0
AreOutcomes at op a b rs ss columns = (n : ℕ) (c : EndColumn) → n < column_count op → slice_get columns n ≡ Some c → IsOutcome (outcome_of_rows at op n a b rs ss) c.column c.rows.items

-- the fault is the outcome of each of the columns; want of memory tells nothing
abbrev pub IsFaultOf : At → EndOperation → (first last : Class) → (rs ss : Rows) → EndFault → Type 0
IsFaultOf at op a b rs ss (fault_of_end.Data f) = (n : ℕ) → outcome_of_rows at op n a b rs ss ≡ fault (fault_seen f)
IsFaultOf at op a b rs ss fault_of_end.Memory = Unit {0}

-- ---- whatever the rows are

-- an operation that is accepted over operands of these classes: it takes them, its result has this class, and its node is
-- one of the columns
pub record IsAccepted (op : EndOperation) (n : ℕ) (first last result : Class) : Type 0 where
  pub taken : IsTaken op first last
  pub class_is : class_of_column op n first last ≡ Ok result
  pub column : IsColumn op n → n < column_count op

-- a scalar has one cell and no row number, other columns have a number for each cell, and no more rows than there were
abbrev pub IsHigh : EndOperation → (most cells numbers : ℕ) → Type 0
IsHigh (end.Reduce r) most cells numbers = (cells ≡ 1) × (numbers ≡ 0)
IsHigh op most cells numbers = (numbers ≡ cells) × (cells ≤ most)

abbrev pub AreHigh : EndOperation → (most : ℕ) → List EndColumn → Type 0
AreHigh op most columns = (n : ℕ) (c : EndColumn) → n < column_count op → slice_get columns n ≡ Some c → IsHigh op most (length c.column.cells) (length c.rows.items)
