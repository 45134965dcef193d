-- Operations that need all rows of their operands, and their outcomes, told by the rows of the first and of the last operand:
-- where there is one operand, its own twice.
use Rattle.std.specs.Prelude.{◌≡◌, ◌<◌, ℕ, Bool, not, ◌&&◌, IsOk}
use Rattle.tall_value.specs.declared.class.Class.{Class}
use Rattle.tall_value.specs.declared.functions.Method.{Method}
use Rattle.tall_value.specs.declared.functions.Method.TheVariants as method
use Rattle.tall_value.specs.Classes.{kind_of}
use Rattle.tall_value.specs.Columns.{cells}
use Rattle.tall_value.specs.Distinct.{distinct_rows}
use Rattle.tall_value.specs.Ends.{first_rows, last_rows}
use Rattle.tall_value.specs.FunctionClasses.{method_kind, reduction_class}
use Rattle.tall_value.specs.Reductions.{reduced}
use Rattle.tall_semantics.specs.Chains.{needs_all_rows}
use Rattle.tall_semantics.specs.Equality.{part_place}
use Rattle.tall_semantics.specs.Faults.{At}
use Rattle.tall_semantics.specs.Operations.{Op, reduce, head, tail, distinct, group, Made}
use Rattle.tall_semantics.specs.Outcomes.{Outcome, rows, alone, grouped}
use Rattle.tall_semantics.specs.Plans.{is_scan}
use Rattle.tall_blocks.specs.Carries.{Rows}
use Rattle.tall_graph.specs.Vertices.{part_of}
use Rattle.tall_graph.specs.declared.operations.NodeOp.{NodeOp}
use Rattle.tall_graph.specs.declared.operations.NodeOp.TheVariants as node
use Rattle.tall_part.specs.declared.operation.EndOperation.{EndOperation}
use Rattle.tall_part.specs.declared.operation.EndOperation.TheVariants as end

-- it needs all rows, and gives none of them before the last one came
abbrev pub is_end : Made → Bool
is_end made = needs_all_rows made && not (is_scan made)

-- the operation of one of the columns
abbrev pub op_of : EndOperation → (n : ℕ) → Op
op_of (end.Reduce r) n = reduce r
op_of (end.Head k) n = head k
op_of (end.Tail k) n = tail k
op_of end.Distinct n = distinct
op_of (end.Group m) n = group m (part_of n)

-- which of the columns a node is
abbrev pub number_of : NodeOp → ℕ
number_of (node.Group m n) = part_place (part_of n)
number_of op = 0

-- such a number
abbrev pub IsColumn : EndOperation → (n : ℕ) → Type 0
IsColumn (end.Group m) n = n < 3
IsColumn e n = n ≡ 0

-- how many columns there are
abbrev pub method_columns : Method → ℕ
method_columns method.Count = 2
method_columns m = 3

abbrev pub column_count : EndOperation → ℕ
column_count (end.Group m) = method_columns m
column_count e = 1

-- the class of the first operand, or of the last one, is one that the operation takes
abbrev pub IsTaken : EndOperation → (first last : Class) → Type 0
IsTaken (end.Reduce r) a b = IsOk (reduction_class r a)
IsTaken (end.Head k) a b = Unit {0}
IsTaken (end.Tail k) a b = Unit {0}
IsTaken end.Distinct a b = Unit {0}
IsTaken (end.Group m) a b = IsOk (method_kind m (kind_of b))

-- the outcome of one of the columns; of a group rs are the keys and ss the data
abbrev pub outcome_of_rows : At → EndOperation → (n : ℕ) → (first last : Class) → (rs ss : Rows) → Outcome
outcome_of_rows at (end.Reduce r) n a b rs ss = alone at (reduced r (kind_of a) (cells rs))
outcome_of_rows at (end.Head k) n a b rs ss = rows (first_rows k rs)
outcome_of_rows at (end.Tail k) n a b rs ss = rows (last_rows k rs)
outcome_of_rows at end.Distinct n a b rs ss = rows (distinct_rows (cells rs))
outcome_of_rows at (end.Group m) n a b rs ss = grouped at m (part_of n) (kind_of b) rs ss
