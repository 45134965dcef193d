-- Functions of values over values in memory, at once. docs/LANGUAGE.md, functions: that a function of a column takes no
-- scalar is looked at first, then names of variables, then classes, then the names of the columns made.
use Rattle.std.specs.Prelude.{ℕ, pos, if◌then◌else◌, List, [], ◌∷◌, None, Some, Result, Ok, Err}
use Rattle.tall_value.specs.declared.class.Class.{Class}
use Rattle.tall_value.specs.declared.faults.ClassFault.{ClassFault}
use Rattle.tall_value.specs.declared.faults.FaultKind.{FaultKind}
use Rattle.tall_value.specs.declared.functions.Method.{Method}
use Rattle.tall_value.specs.declared.functions.Method.TheVariants.{Count}
use Rattle.tall_value.specs.declared.functions.Reduction.{Reduction}
use Rattle.tall_value.specs.declared.functions.Scan.{Scan}
use Rattle.tall_value.specs.Cells.{Seen, seen_kind, double}
use Rattle.tall_value.specs.Columns.{numbered}
use Rattle.tall_value.specs.Distinct as all
use Rattle.tall_value.specs.Ends.{first_rows, last_rows}
use Rattle.tall_value.specs.FunctionClasses.{reduction_kind, scan_kind, summary_classes}
use Rattle.tall_value.specs.GroupSummary.{summary_columns}
use Rattle.tall_value.specs.SummaryNames.{summary_names}
use Rattle.tall_value.specs.Reductions.{reduced}
use Rattle.tall_value.specs.Scans.{scanned}
use Rattle.tall_column.specs.Columns.{SeenColumn}
use Rattle.tall_column.specs.Tables.{column_named, height_of}
use Rattle.tall_value.specs.Names.{are_distinct}
use Rattle.tall_local.specs.Names.{each_named}
use Rattle.tall_local.specs.Refusals.{Refusal, undefined, bad_class, bad_argument, failed, refused_class, and_then, or_refuse}
use Rattle.tall_local.specs.Memory.{Memory, scalar, column, table, texts, kind_of_column}
use Rattle.tall_local.specs.MemoryOperators.{with_kind, column_result, memory_unary, memory_binary}
use Rattle.tall_local.specs.Applications.{Operation, reduce, height, scan, head, tail, distinct, groups, unary, Application, applied}

-- a fault of a function of all rows has no row
abbrev pub total_result : Result Seen FaultKind → Result Memory Refusal
total_result (Ok c) = Ok (scalar c)
total_result (Err kind) = Err (failed None kind)

abbrev pub count_cell : ℕ → Seen
count_cell n = double (Some (pos n))

-- a scalar is one row
abbrev pub memory_reduce : Reduction → Memory → Result Memory Refusal
memory_reduce r (scalar c) = with_kind (reduction_kind r (seen_kind c)) (λ k. total_result (reduced r (seen_kind c) (c ∷ [])))
memory_reduce r (column x) = with_kind (reduction_kind r (kind_of_column x)) (λ k. total_result (reduced r (kind_of_column x) x.cells))
memory_reduce r v = Err bad_class

abbrev pub memory_height : Memory → Result Memory Refusal
memory_height (table t) = Ok (scalar (count_cell (height_of t)))
memory_height v = Err bad_class

abbrev pub memory_scan : Scan → Memory → Result Memory Refusal
memory_scan s (scalar c) = Err bad_argument
memory_scan s (column x) = with_kind (scan_kind s (kind_of_column x)) (λ k. column_result k (scanned s (kind_of_column x) (numbered 1 x.cells)))
memory_scan s v = Err bad_class

abbrev pub with_cells : (List Seen → List Seen) → SeenColumn → SeenColumn
with_cells f x = record { class = x.class; cells = f x.cells }

-- some of the rows of a column, or of each column of a table
abbrev pub memory_rows : (List Seen → List Seen) → Memory → Result Memory Refusal
memory_rows f (scalar c) = Err bad_argument
memory_rows f (column x) = Ok (column (with_cells f x))
memory_rows f (table t) = Ok (table (each_named (with_cells f) t))
memory_rows f (texts ts) = Err bad_class

abbrev pub memory_distinct : Memory → Result Memory Refusal
memory_distinct (scalar c) = Err bad_argument
memory_distinct (column x) = Ok (column (with_cells all.distinct x))
memory_distinct v = Err bad_class

-- ---- groups

abbrev pub variable_named : List (List ℕ × SeenColumn) → List ℕ → Result SeenColumn Refusal
variable_named t name = or_refuse (undefined name) (column_named name t)

-- the columns under their names, which have to be distinct
abbrev pub paired : {A : Type 0} → List (List ℕ) → List A → List (List ℕ × A)
paired (name ∷ names) (a ∷ rest) = (name, a) ∷ paired names rest
paired names rest = []

abbrev pub if_distinct : {A : Type 0} → List (List ℕ) → Result A Refusal → Result A Refusal
if_distinct names answer = if are_distinct names then answer else Err bad_argument

-- the columns of a summary with their classes
abbrev pub columns_of : List Class → List (List Seen) → List SeenColumn
columns_of (class ∷ classes) (cells ∷ rest) = record { class = class; cells = cells } ∷ columns_of classes rest
columns_of classes columns = []

abbrev pub summary_result : List (List ℕ) → List Class → Result (List (List Seen)) FaultKind → Result Memory Refusal
summary_result names classes (Ok columns) = Ok (table (paired names (columns_of classes columns)))
summary_result names classes (Err kind) = Err (failed None kind)

abbrev pub with_classes : {A : Type 0} → Result (List Class) ClassFault → (List Class → Result A Refusal) → Result A Refusal
with_classes (Ok classes) f = f classes
with_classes (Err e) f = Err (refused_class e)

-- of a key and data; without a method the data aren't looked at
abbrev pub memory_summary : Method → List (List ℕ) → SeenColumn → SeenColumn → Result Memory Refusal
memory_summary m names g v =
    with_classes (summary_classes m g.class v.class)
    (λ classes. if_distinct names (summary_result names classes (summary_columns m (kind_of_column v) g.cells v.cells)))

abbrev pub memory_groups : Memory → List ℕ → Method → List ℕ → Result Memory Refusal
memory_groups (table t) key Count value = and_then (variable_named t key) (λ g. memory_summary Count (summary_names Count key value) g g)
memory_groups (table t) key m value =
    and_then (variable_named t key) (λ g. and_then (variable_named t value) (memory_summary m (summary_names m key value) g))
memory_groups v key m value = Err bad_class

-- ---- all functions

abbrev pub memory_operation : Operation → Memory → Result Memory Refusal
memory_operation (reduce r) v = memory_reduce r v
memory_operation height v = memory_height v
memory_operation (scan s) v = memory_scan s v
memory_operation (head k) v = memory_rows (first_rows k) v
memory_operation (tail k) v = memory_rows (last_rows k) v
memory_operation distinct v = memory_distinct v
memory_operation (groups key m value) v = memory_groups v key m value
memory_operation (unary op) v = memory_unary op v

unfoldable pub memory_application : Application Memory → Result Memory Refusal
memory_application a = applied (λ c. Ok (scalar c)) memory_operation memory_binary a
