-- Operators, indexes and functions of values over the values of a script. Where all operands are in memory they are
-- computed at once; an operation over a tall value is deferred, and refused as `tall` refuses it. A scalar in memory
-- meets each row of a tall value; a column in memory meets none. docs/LANGUAGE.md, operators and functions.
use Rattle.std.specs.Prelude.{ℕ, Bool, false, if◌then◌else◌, List, [], ◌∷◌, Option, None, Some, Result, Ok, Err}
use Rattle.tall_value.specs.declared.class.Class.{Class}
use Rattle.tall_value.specs.declared.faults.ClassFault.{ClassFault}
use Rattle.tall_value.specs.declared.functions.Method.{Method}
use Rattle.tall_value.specs.declared.functions.Method.TheVariants.{Count}
use Rattle.tall_value.specs.declared.functions.Reduction.{Reduction}
use Rattle.tall_value.specs.declared.functions.Reduction.TheVariants.{Height}
use Rattle.tall_value.specs.declared.operators.Binary.{Binary}
use Rattle.tall_value.specs.declared.operators.Unary.{Unary}
use Rattle.tall_value.specs.Cells.{Seen}
use Rattle.tall_value.specs.ClassTables.{binary_class}
use Rattle.tall_value.specs.SummaryNames.{summary_names}
use Rattle.tall_grammar.specs.declared.expressions.Prefix.{Prefix}
use Rattle.tall_grammar.specs.declared.expressions.Infix.{Infix}
use Rattle.tall_semantics.specs.Faults.{At}
use Rattle.tall_semantics.specs.Operations.{Op, Part, keys, counts, values}
use Rattle.tall_semantics.specs.Operations as op
use Rattle.tall_semantics.specs.Spaces.{is_single}
use Rattle.tall_semantics.specs.Shapes as shapes
use Rattle.tall_semantics.specs.Talls.{Tall, tall}
use Rattle.tall_local.specs.Arguments.{Argument, Index, rows_at, all_variables_at, index_of}
use Rattle.tall_local.specs.Lists.{each_of}
use Rattle.tall_local.specs.Names.{named}
use Rattle.tall_local.specs.Refusals.{Refusal, undefined, mixed_class, bad_class, incompatible, bad_argument, refused_class, and_then, or_refuse}
use Rattle.tall_local.specs.Memory.{Memory, scalar, column, table, is_scalar, scalar_in}
use Rattle.tall_local.specs.MemoryOperators.{memory_unary, memory_binary, unary_of, binary_of, scalars_fit}
use Rattle.tall_local.specs.MemoryIndexing.{is_logical, memory_index, memory_member}
use Rattle.tall_local.specs.MemoryFunctions.{memory_operation, paired, if_distinct}
use Rattle.tall_local.specs.Applications.{Operation, reduce, height, scan, head, tail, distinct, groups, unary, Application, applied}
use Rattle.tall_local.specs.Values.{Value, tall_table, deferred, in_memory, memory_answer}

-- a value of a script
abbrev pub TallValue : Type 0
TallValue = Value Tall

-- ---- tall values

abbrev pub refusal_of : shapes.ShapeRefusal → Refusal
refusal_of shapes.mixed_class = mixed_class
refusal_of shapes.bad_class = bad_class
refusal_of shapes.incompatible = incompatible
refusal_of shapes.bad_argument = bad_argument

abbrev pub computed : At → Op → List Tall → Result Tall Refusal
computed at o xs = elim (tall at o xs) [ Ok x ↦ Ok x | Err e ↦ Err (refusal_of e) ]

abbrev pub tall_answer : Result Tall Refusal → Result TallValue Refusal
tall_answer (Ok x) = Ok (deferred x)
tall_answer (Err e) = Err e

abbrev pub deferring : At → Op → List Tall → Result TallValue Refusal
deferring at o xs = tall_answer (computed at o xs)

abbrev pub is_tall_scalar : Tall → Bool
is_tall_scalar x = is_single x.shape.space

-- a scalar in memory, as a tall value
abbrev pub beside_scalar : At → Seen → (Tall → Result TallValue Refusal) → Result TallValue Refusal
beside_scalar at c f = and_then (computed at (op.constant c) []) f

-- a column in memory meets no tall value, once their classes are accepted
abbrev pub beside_column : Result Class ClassFault → Result TallValue Refusal
beside_column (Ok c) = Err incompatible
beside_column (Err e) = Err (refused_class e)

-- ---- operators

abbrev pub unary_value : At → Unary → TallValue → Result TallValue Refusal
unary_value at o (in_memory v) = memory_answer (memory_unary o v)
unary_value at o (deferred x) = deferring at (op.unary o) (x ∷ [])
unary_value at o v = Err bad_class

abbrev pub binary_value : At → Binary → TallValue → TallValue → Result TallValue Refusal
binary_value at o (in_memory v) (in_memory w) = memory_answer (memory_binary o v w)
binary_value at o (deferred x) (deferred y) = deferring at (op.binary o) (x ∷ y ∷ [])
binary_value at o (deferred x) (in_memory (scalar c)) = beside_scalar at c (λ y. deferring at (op.binary o) (x ∷ y ∷ []))
binary_value at o (in_memory (scalar c)) (deferred y) = beside_scalar at c (λ x. deferring at (op.binary o) (x ∷ y ∷ []))
binary_value at o (deferred x) (in_memory (column y)) = beside_column (binary_class o x.shape.class (is_tall_scalar x) y.class false)
binary_value at o (in_memory (column x)) (deferred y) = beside_column (binary_class o x.class false y.shape.class (is_tall_scalar y))
binary_value at o v w = Err bad_class

-- a tall scalar is a scalar
abbrev pub is_scalar_value : TallValue → Bool
is_scalar_value (in_memory v) = is_scalar v
is_scalar_value (deferred x) = is_tall_scalar x
is_scalar_value v = false

unfoldable pub prefix_value : At → Prefix → TallValue → Result TallValue Refusal
prefix_value at o v = unary_value at (unary_of o) v

unfoldable pub infix_value : At → Infix → TallValue → TallValue → Result TallValue Refusal
infix_value at o v w = if scalars_fit o (is_scalar_value v) (is_scalar_value w) then binary_value at (binary_of o) v w else Err bad_argument

-- ---- variables of a table, and indexes

abbrev pub tall_variable : List (List ℕ × Tall) → List ℕ → Result Tall Refusal
tall_variable t name = or_refuse (undefined name) (named t name)

unfoldable pub member_value : TallValue → List ℕ → Result TallValue Refusal
member_value (in_memory v) name = memory_answer (memory_member v name)
member_value (tall_table t) name = tall_answer (tall_variable t name)
member_value v name = Err bad_argument

-- each column of a table
abbrev pub over_columns : (Tall → Result Tall Refusal) → List (List ℕ × Tall) → Result (List (List ℕ × Tall)) Refusal
over_columns f t = each_of (λ entry. elim (f entry.1) [ Ok x ↦ Ok (entry.0, x) | Err e ↦ Err e ]) t

abbrev pub table_answer : Result (List (List ℕ × Tall)) Refusal → Result TallValue Refusal
table_answer (Ok t) = Ok (tall_table t)
table_answer (Err e) = Err e

-- an index that is tall where what is indexed is in memory: its class is looked at first; a tall scalar is no index
abbrev pub tall_index_of_memory : Tall → Result TallValue Refusal
tall_index_of_memory i = if is_tall_scalar i then Err bad_argument else if is_logical i.shape.class then Err incompatible else Err bad_class

-- an index in memory where what is indexed is tall
abbrev pub memory_index_of_tall : Memory → Result TallValue Refusal
memory_index_of_tall (column mask) = if is_logical mask.class then Err incompatible else Err bad_argument
memory_index_of_tall i = Err bad_argument

-- x(i) of a tall column; any index on a scalar is refused
abbrev pub tall_column_index : At → Tall → TallValue → Result TallValue Refusal
tall_column_index at x (deferred mask) = deferring at op.filter (x ∷ mask ∷ [])
tall_column_index at x (in_memory i) = if is_tall_scalar x then Err bad_argument else memory_index_of_tall i
tall_column_index at x i = Err bad_argument

-- T(i, :) of a tall table
abbrev pub tall_table_index : At → List (List ℕ × Tall) → TallValue → Result TallValue Refusal
tall_table_index at t (deferred mask) = table_answer (over_columns (λ x. computed at op.filter (x ∷ mask ∷ [])) t)
tall_table_index at t (in_memory i) = memory_index_of_tall i
tall_table_index at t i = Err bad_argument

abbrev pub index_value_of : At → TallValue → Option (Index TallValue) → Result TallValue Refusal
index_value_of at (in_memory v) (Some (rows_at (in_memory i))) = memory_answer (memory_index v (Some (rows_at i)))
index_value_of at (in_memory v) (Some (all_variables_at (in_memory i))) = memory_answer (memory_index v (Some (all_variables_at i)))
index_value_of at (in_memory (column x)) (Some (rows_at (deferred i))) = tall_index_of_memory i
index_value_of at (in_memory (table t)) (Some (all_variables_at (deferred i))) = tall_index_of_memory i
index_value_of at (deferred x) (Some (rows_at i)) = tall_column_index at x i
index_value_of at (tall_table t) (Some (all_variables_at i)) = tall_table_index at t i
index_value_of at v index = Err bad_argument

unfoldable pub index_value : At → TallValue → List (Argument TallValue) → Result TallValue Refusal
index_value at v args = index_value_of at v (index_of args)

-- ---- functions of values

abbrev pub reduce_value : At → Reduction → TallValue → Result TallValue Refusal
reduce_value at r (deferred x) = deferring at (op.reduce r) (x ∷ [])
reduce_value at r v = Err bad_class

-- the number of rows of the first column
abbrev pub height_value : At → TallValue → Result TallValue Refusal
height_value at (tall_table (entry ∷ t)) = reduce_value at Height (deferred entry.1)
height_value at v = Err bad_class

-- an operation on a column alone
abbrev pub column_value : At → Op → TallValue → Result TallValue Refusal
column_value at o (deferred x) = deferring at o (x ∷ [])
column_value at o v = Err bad_class

-- an operation on a column, or on each column of a table
abbrev pub rows_value : At → Op → TallValue → Result TallValue Refusal
rows_value at o (tall_table t) = table_answer (over_columns (λ x. computed at o (x ∷ [])) t)
rows_value at o v = column_value at o v

-- the columns that a method makes
abbrev pub parts_of : Method → List Part
parts_of Count = keys ∷ counts ∷ []
parts_of m = keys ∷ counts ∷ values ∷ []

-- the columns of `groupsummary` under their names
abbrev pub group_columns : At → Method → List Tall → Result (List Tall) Refusal
group_columns at m xs = each_of (λ part. computed at (op.group m part) xs) (parts_of m)

abbrev pub summary_table : List (List ℕ) → Result (List Tall) Refusal → Result TallValue Refusal
summary_table names (Ok columns) = if_distinct names (Ok (tall_table (paired names columns)))
summary_table names (Err e) = Err e

abbrev pub groups_value : At → TallValue → List ℕ → Method → List ℕ → Result TallValue Refusal
groups_value at (tall_table t) key Count value =
    and_then (tall_variable t key) (λ g. summary_table (summary_names Count key value) (group_columns at Count (g ∷ [])))
groups_value at (tall_table t) key m value =
    and_then (tall_variable t key) (λ g. and_then (tall_variable t value)
    (λ v. summary_table (summary_names m key value) (group_columns at m (g ∷ v ∷ []))))
groups_value at v key m value = Err bad_class

-- values in memory are computed at once
abbrev pub operation_value : At → Operation → TallValue → Result TallValue Refusal
operation_value at o (in_memory v) = memory_answer (memory_operation o v)
operation_value at (reduce r) v = reduce_value at r v
operation_value at height v = height_value at v
operation_value at (scan s) v = column_value at (op.scan s) v
operation_value at (head k) v = rows_value at (op.head k) v
operation_value at (tail k) v = rows_value at (op.tail k) v
operation_value at distinct v = column_value at op.distinct v
operation_value at (groups key m value) v = groups_value at v key m value
operation_value at (unary o) v = unary_value at o v

unfoldable pub application_value : At → Application TallValue → Result TallValue Refusal
application_value at a = applied (λ c. Ok (in_memory (scalar c))) (operation_value at) (binary_value at) a

-- a scalar in memory, for options and numbers of rows
abbrev pub scalar_given : TallValue → Option Seen
scalar_given (in_memory v) = scalar_in v
scalar_given v = None

abbrev pub class_of_tall : Tall → Class
class_of_tall x = x.shape.class
