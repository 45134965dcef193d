-- Which vertices an operation over the values of a graph adds, in which order, and which of them its value is. A value of a
-- graph stands for a tall column or a tall scalar by its place; what it is, is told by a solution f of the graph's equations.
use Rattle.std.specs.Prelude.{◌≡◌, ◌≢◌, ℕ, ◌+◌, ◌<◌, true, List, [], ◌∷◌, map, length, Option, Some}
use Rattle.std.specs.List.{All, range_with_len}
use Rattle.tall_value.specs.declared.functions.Method.{Method}
use Rattle.tall_value.specs.declared.functions.Method.TheVariants.{Count}
use Rattle.tall_value.specs.declared.functions.Reduction.{Reduction}
use Rattle.tall_value.specs.declared.functions.Reduction.TheVariants.{Height}
use Rattle.tall_value.specs.declared.functions.Scan.{Scan}
use Rattle.tall_value.specs.declared.operators.Binary.{Binary}
use Rattle.tall_value.specs.declared.operators.Unary.{Unary}
use Rattle.tall_value.specs.Cells.{Seen}
use Rattle.tall_value.specs.Names.{are_distinct}
use Rattle.tall_value.specs.SummaryNames.{summary_names}
use Rattle.tall_semantics.specs.Deferred.{Vertex}
use Rattle.tall_semantics.specs.Faults.{At}
use Rattle.tall_semantics.specs.Operations.{Op}
use Rattle.tall_semantics.specs.Operations as op
use Rattle.tall_semantics.specs.Talls.{Tall}
use Rattle.tall_local.specs.Applications.{Operation, reduce, height, scan, head, tail, distinct, groups, unary, Application, constant, to_one, to_two}
use Rattle.tall_local.specs.Arguments.{Index, rows_at, all_variables_at}
use Rattle.tall_local.specs.Memory.{Memory, scalar, column, table, texts}
use Rattle.tall_local.specs.MemoryLaws.{HasItsClass, HaveTheirClasses}
use Rattle.tall_local.specs.MemoryFunctions.{paired}
use Rattle.tall_local.specs.Names.{named, names_of, each_named}
use Rattle.tall_local.specs.Values.{Value, datastore, tall_table, deferred, in_memory}
use Rattle.tall_script.specs.ScriptValues.{TallValue, parts_of}
use Rattle.tall_script.specs.VertexLaws.{vertex}

-- a value of a script whose tall columns and tall scalars are those of a graph's places
abbrev pub PlacedValue : Type 0
PlacedValue = Value ℕ

abbrev pub value_by : (ℕ → Tall) → PlacedValue → TallValue
value_by f (datastore place) = datastore place
value_by f (tall_table t) = tall_table (each_named f t)
value_by f (deferred i) = deferred (f i)
value_by f (in_memory v) = in_memory v

abbrev pub application_by : (ℕ → Tall) → Application PlacedValue → Application TallValue
application_by f (constant c) = constant c
application_by f (to_one o v) = to_one o (value_by f v)
application_by f (to_two o v w) = to_two o (value_by f v) (value_by f w)

-- ---- vertices

abbrev pub one_vertex : At → Op → List ℕ → List Vertex
one_vertex at o args = vertex at o args ∷ []

-- over each column of a table
abbrev pub for_each : At → Op → (ℕ → List ℕ) → List (List ℕ × ℕ) → List Vertex
for_each at o operands t = map (vertex at o) (map (λ (x : List ℕ × ℕ). operands x.1) t)

-- the columns of `groupsummary`
abbrev pub for_parts : At → Method → List ℕ → List Vertex
for_parts at m args = map (λ part. vertex at (op.group m part) args) (parts_of m)

-- so many values from the place n on, under these names
abbrev pub from_place : (n : ℕ) → List (List ℕ) → ℕ → List (List ℕ × ℕ)
from_place n names many = paired names (range_with_len n many)

abbrev pub columns_from : (n : ℕ) → List (List ℕ × ℕ) → PlacedValue
columns_from n t = tall_table (from_place n (names_of t) (length t))

abbrev pub summary_from : (n : ℕ) → Method → (key value : List ℕ) → PlacedValue
summary_from n m key value = tall_table (from_place n (summary_names m key value) (length (parts_of m)))

-- what an application over values of a graph of n vertices adds, and its value
pub data AddsFor (at : At) (n : ℕ) : Application PlacedValue → List Vertex → PlacedValue → Type 0 where
  of_unary : (o : Unary) (i : ℕ) → AddsFor at n (to_one (unary o) (deferred i)) (one_vertex at (op.unary o) (i ∷ [])) (deferred n)
  of_reduction : (r : Reduction) (i : ℕ) → AddsFor at n (to_one (reduce r) (deferred i)) (one_vertex at (op.reduce r) (i ∷ [])) (deferred n)
  -- the number of rows of the first column
  of_height : (x : List ℕ × ℕ) (t : List (List ℕ × ℕ)) → AddsFor at n (to_one height (tall_table (x ∷ t))) (one_vertex at (op.reduce Height) (x.1 ∷ [])) (deferred n)
  of_scan : (s : Scan) (i : ℕ) → AddsFor at n (to_one (scan s) (deferred i)) (one_vertex at (op.scan s) (i ∷ [])) (deferred n)
  of_head : (k i : ℕ) → AddsFor at n (to_one (head k) (deferred i)) (one_vertex at (op.head k) (i ∷ [])) (deferred n)
  of_tail : (k i : ℕ) → AddsFor at n (to_one (tail k) (deferred i)) (one_vertex at (op.tail k) (i ∷ [])) (deferred n)
  of_head_rows : (k : ℕ) (t : List (List ℕ × ℕ)) → AddsFor at n (to_one (head k) (tall_table t)) (for_each at (op.head k) (λ i. i ∷ []) t) (columns_from n t)
  of_tail_rows : (k : ℕ) (t : List (List ℕ × ℕ)) → AddsFor at n (to_one (tail k) (tall_table t)) (for_each at (op.tail k) (λ i. i ∷ []) t) (columns_from n t)
  of_distinct : (i : ℕ) → AddsFor at n (to_one distinct (deferred i)) (one_vertex at op.distinct (i ∷ [])) (deferred n)
  -- the groups of a key alone
  of_counts : (t : List (List ℕ × ℕ)) (key value : List ℕ) (g : ℕ) → named t key ≡ Some g → are_distinct (summary_names Count key value) ≡ true
      → AddsFor at n (to_one (groups key Count value) (tall_table t)) (for_parts at Count (g ∷ [])) (summary_from n Count key value)
  of_groups : (t : List (List ℕ × ℕ)) (key value : List ℕ) (m : Method) (g v : ℕ) → m ≢ Count → named t key ≡ Some g → named t value ≡ Some v → are_distinct (summary_names m key value) ≡ true
      → AddsFor at n (to_one (groups key m value) (tall_table t)) (for_parts at m (g ∷ v ∷ [])) (summary_from n m key value)
  of_binary : (o : Binary) (i j : ℕ) → AddsFor at n (to_two o (deferred i) (deferred j)) (one_vertex at (op.binary o) (i ∷ j ∷ [])) (deferred n)
  -- behind the scalar in memory that it meets
  of_left_scalar : (o : Binary) (c : Seen) (j : ℕ) → AddsFor at n (to_two o (in_memory (scalar c)) (deferred j)) (vertex at (op.constant c) [] ∷ vertex at (op.binary o) (n ∷ j ∷ []) ∷ []) (deferred (n + 1))
  of_right_scalar : (o : Binary) (i : ℕ) (c : Seen) → AddsFor at n (to_two o (deferred i) (in_memory (scalar c))) (vertex at (op.constant c) [] ∷ vertex at (op.binary o) (i ∷ n ∷ []) ∷ []) (deferred (n + 1))

-- the same of an index
pub data AddsForIndex (at : At) (n : ℕ) : PlacedValue → Index PlacedValue → List Vertex → PlacedValue → Type 0 where
  of_column : (i mask : ℕ) → AddsForIndex at n (deferred i) (rows_at (deferred mask)) (one_vertex at op.filter (i ∷ mask ∷ [])) (deferred n)
  of_table : (t : List (List ℕ × ℕ)) (mask : ℕ) → AddsForIndex at n (tall_table t) (all_variables_at (deferred mask)) (for_each at op.filter (λ i. i ∷ mask ∷ []) t) (columns_from n t)

-- ---- values that are there

abbrev pub IsPlace : ℕ → List ℕ × ℕ → Type 0
IsPlace n x = x.1 < n

abbrev pub IsInGraph : (n : ℕ) → PlacedValue → Type 0
IsInGraph n (datastore place) = Unit {0}
IsInGraph n (tall_table t) = All (IsPlace n) t
IsInGraph n (deferred i) = i < n
IsInGraph n (in_memory v) = Unit {0}

abbrev pub AreInGraph : (n : ℕ) → Application PlacedValue → Type 0
AreInGraph n (constant c) = Unit {0}
AreInGraph n (to_one o v) = IsInGraph n v
AreInGraph n (to_two o v w) = IsInGraph n v × IsInGraph n w

abbrev pub IndexIsInGraph : (n : ℕ) → Index PlacedValue → Type 0
IndexIsInGraph n (rows_at v) = IsInGraph n v
IndexIsInGraph n (all_variables_at v) = IsInGraph n v

-- ---- what a value's cells are

-- the cells of columns have the column's class
abbrev pub CellsHaveClass : Memory → Type 0
CellsHaveClass (scalar c) = Unit {0}
CellsHaveClass (column x) = HasItsClass x
CellsHaveClass (table t) = HaveTheirClasses t
CellsHaveClass (texts ts) = Unit {0}

abbrev pub HeldCellsHaveClass : PlacedValue → Type 0
HeldCellsHaveClass (datastore place) = Unit {0}
HeldCellsHaveClass (tall_table t) = Unit {0}
HeldCellsHaveClass (deferred i) = Unit {0}
HeldCellsHaveClass (in_memory v) = CellsHaveClass v

abbrev pub IsInMemory : TallValue → Type 0
IsInMemory (datastore place) = ⊥
IsInMemory (tall_table t) = ⊥
IsInMemory (deferred x) = ⊥
IsInMemory (in_memory v) = Unit {0}
