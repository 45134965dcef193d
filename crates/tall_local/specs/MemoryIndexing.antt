-- Indexing of values in memory, and the variables of a table. docs/LANGUAGE.md, operators.
use Rattle.std.specs.Prelude.{ℕ, if◌then◌else◌, ◌==◌, length, Bool, true, false, List, Option, None, Some, Result, Ok, Err}
use Rattle.tall_value.specs.declared.class.Class.{Class}
use Rattle.tall_value.specs.declared.class.Class.TheVariants as class
use Rattle.tall_value.specs.Cells.{Seen, double}
use Rattle.tall_value.specs.Index.{cell_at}
use Rattle.tall_column.specs.Columns.{SeenColumn, rows_kept}
use Rattle.tall_column.specs.Tables.{column_named, height_of}
use Rattle.tall_local.specs.Arguments.{Index, rows_at, all_variables_at}
use Rattle.tall_local.specs.Names.{each_named}
use Rattle.tall_local.specs.Refusals.{Refusal, undefined, bad_size, bad_argument, bad_index}
use Rattle.tall_local.specs.Memory.{Memory, scalar, column, table}

abbrev pub is_logical : Class → Bool
is_logical class.Logical = true
is_logical c = false

-- the cell of a row, counted from 1
abbrev pub indexed_cell : Option Seen → Result Memory Refusal
indexed_cell (Some c) = Ok (scalar c)
indexed_cell None = Err bad_index

-- x(mask)
abbrev pub memory_masked : SeenColumn → SeenColumn → Result Memory Refusal
memory_masked x mask = if length x.cells == length mask.cells then Ok (column (rows_kept x mask)) else Err bad_size

-- a column in memory that isn't logical is no index
abbrev pub if_mask : SeenColumn → Result Memory Refusal → Result Memory Refusal
if_mask mask answer = if is_logical mask.class then answer else Err bad_argument

-- x(mask), x(k)
abbrev pub memory_column_index : SeenColumn → Memory → Result Memory Refusal
memory_column_index x (column mask) = if_mask mask (memory_masked x mask)
memory_column_index x (scalar (double k)) = indexed_cell (cell_at k x.cells)
memory_column_index x i = Err bad_argument

-- T(mask, :)
abbrev pub memory_table_index : List (List ℕ × SeenColumn) → Memory → Result Memory Refusal
memory_table_index t (column mask) =
    if_mask mask (if height_of t == length mask.cells then Ok (table (each_named (λ x. rows_kept x mask) t)) else Err bad_size)
memory_table_index t i = Err bad_argument

unfoldable pub memory_index : Memory → Option (Index Memory) → Result Memory Refusal
memory_index (column x) (Some (rows_at i)) = memory_column_index x i
memory_index (table t) (Some (all_variables_at i)) = memory_table_index t i
memory_index v index = Err bad_argument

-- T.name
unfoldable pub memory_member : Memory → List ℕ → Result Memory Refusal
memory_member (table t) name = elim (column_named name t) [ Some x ↦ Ok (column x) | None ↦ Err (undefined name) ]
memory_member v name = Err bad_argument
