-- Operators over values in memory, at once. Classes are looked at before rows; the rows of a column in memory are
-- numbered from 1, and the first that has no result is the fault. docs/LANGUAGE.md, operators.
use Rattle.std.specs.Prelude.{ℕ, Bool, true, false, ◌||◌, if◌then◌else◌, ◌==◌, length, List, Result, Ok, Err, Some, None}
use Rattle.tall_value.specs.declared.class.Kind.{Kind}
use Rattle.tall_value.specs.declared.faults.CellFault.{CellFault}
use Rattle.tall_value.specs.declared.faults.ClassFault.{ClassFault}
use Rattle.tall_value.specs.declared.operators.Binary.{Binary}
use Rattle.tall_value.specs.declared.operators.Binary.TheVariants as binary
use Rattle.tall_value.specs.declared.operators.Unary.{Unary}
use Rattle.tall_value.specs.declared.operators.Unary.TheVariants as unary
use Rattle.tall_value.specs.Classes.{class_of}
use Rattle.tall_value.specs.ClassTables.{unary_kind, binary_kind}
use Rattle.tall_value.specs.Cells.{Seen, seen_kind}
use Rattle.tall_value.specs.CellOperators.{unary_cell, binary_cell}
use Rattle.tall_value.specs.Columns.{numbered, cells}
use Rattle.tall_value.specs.Elementwise.{unary_rows, binary_rows, scalar_rows}
use Rattle.tall_column.specs.Columns.{SeenColumn}
use Rattle.tall_grammar.specs.declared.expressions.Prefix.{Prefix}
use Rattle.tall_grammar.specs.declared.expressions.Prefix.TheVariants as before
use Rattle.tall_grammar.specs.declared.expressions.Infix.{Infix}
use Rattle.tall_grammar.specs.declared.expressions.Infix.TheVariants as between
use Rattle.tall_local.specs.Refusals.{Refusal, bad_class, bad_size, bad_argument, refused_class, refused_cell}
use Rattle.tall_local.specs.Memory.{Memory, scalar, column, table, texts, kind_of_column, is_scalar}

-- what is done with the class of a result, or the refusal of the operands' classes
abbrev pub with_kind : {A : Type 0} → Result Kind ClassFault → (Kind → Result A Refusal) → Result A Refusal
with_kind (Ok k) f = f k
with_kind (Err e) f = Err (refused_class e)

-- a fault over scalars has no row
abbrev pub scalar_result : Result Seen CellFault → Result Memory Refusal
scalar_result (Ok c) = Ok (scalar c)
scalar_result (Err e) = Err (refused_cell None e)

abbrev pub column_result : Kind → Result (List (ℕ × Seen)) (ℕ × CellFault) → Result Memory Refusal
column_result k (Ok rows) = Ok (column (record { class = class_of k; cells = cells rows }))
column_result k (Err e) = Err (refused_cell (Some e.0) e.1)

unfoldable pub memory_unary : Unary → Memory → Result Memory Refusal
memory_unary op (scalar c) = with_kind (unary_kind op (seen_kind c)) (λ k. scalar_result (unary_cell op c))
memory_unary op (column x) = with_kind (unary_kind op (kind_of_column x)) (λ k. column_result k (unary_rows op (numbered 1 x.cells)))
memory_unary op (table t) = Err bad_class
memory_unary op (texts ts) = Err bad_class

abbrev pub if_equal_lengths : {A : Type 0} → SeenColumn → SeenColumn → Result A Refusal → Result A Refusal
if_equal_lengths x y answer = if length x.cells == length y.cells then answer else Err bad_size

unfoldable pub memory_binary : Binary → Memory → Memory → Result Memory Refusal
memory_binary op (scalar c) (scalar d) =
    with_kind (binary_kind op (seen_kind c) true (seen_kind d) true) (λ k. scalar_result (binary_cell op c d))
memory_binary op (scalar c) (column y) =
    with_kind (binary_kind op (seen_kind c) true (kind_of_column y) false)
    (λ k. column_result k (scalar_rows op true c (numbered 1 y.cells)))
memory_binary op (column x) (scalar d) =
    with_kind (binary_kind op (kind_of_column x) false (seen_kind d) true)
    (λ k. column_result k (scalar_rows op false d (numbered 1 x.cells)))
memory_binary op (column x) (column y) =
    with_kind (binary_kind op (kind_of_column x) false (kind_of_column y) false)
    (λ k. if_equal_lengths x y (column_result k (binary_rows op (numbered 1 x.cells) (numbered 1 y.cells))))
memory_binary op v w = Err bad_class

-- ---- as they are written

abbrev pub unary_of : Prefix → Unary
unary_of before.Minus = unary.Neg
unary_of before.Plus = unary.Plus
unary_of before.Not = unary.Not

-- after their test `*` and `/` are `.*` and `./`
abbrev pub binary_of : Infix → Binary
binary_of between.Or = binary.Or
binary_of between.And = binary.And
binary_of between.Eq = binary.Eq
binary_of between.Ne = binary.Ne
binary_of between.Lt = binary.Lt
binary_of between.Le = binary.Le
binary_of between.Gt = binary.Gt
binary_of between.Ge = binary.Ge
binary_of between.Add = binary.Add
binary_of between.Sub = binary.Sub
binary_of between.DotMul = binary.Mul
binary_of between.DotDiv = binary.Div
binary_of between.Mul = binary.Mul
binary_of between.Div = binary.Div

-- `*` needs a scalar on at least one side, and `/` one on its right
abbrev pub scalars_fit : Infix → Bool → Bool → Bool
scalars_fit between.Mul left right = left || right
scalars_fit between.Div left right = right
scalars_fit op left right = true

unfoldable pub memory_prefix : Prefix → Memory → Result Memory Refusal
memory_prefix op v = memory_unary (unary_of op) v

-- the test on scalars comes before classes
unfoldable pub memory_infix : Infix → Memory → Memory → Result Memory Refusal
memory_infix op v w = if scalars_fit op (is_scalar v) (is_scalar w) then memory_binary (binary_of op) v w else Err bad_argument
