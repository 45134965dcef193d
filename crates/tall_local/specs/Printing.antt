-- The text of a value under a name. docs/LANGUAGE.md, printing.
use Rattle.std.specs.Prelude.{ℕ, true, false, List, [], ◌∷◌, ◌++◌, map, length, if◌then◌else◌, ◌==◌, None, Some, codes}
use Rattle.std.specs.Fmt.{decimal, signed_decimal}
use Rattle.std.specs.List.{flat_map}
use Rattle.tall_value.specs.declared.class.Class.{Class}
use Rattle.tall_value.specs.declared.class.Class.TheVariants as class
use Rattle.tall_value.specs.Cells.{Seen, whole, logical, double, text}
use Rattle.tall_column.specs.Columns.{SeenColumn, class_of_cell}
use Rattle.tall_column.specs.Tables.{height_of}
use Rattle.tall_local.specs.Names.{names_of}
use Rattle.tall_local.specs.Memory.{Memory, scalar, column, table, texts}
use Rattle.tall_local.specs.Values.{Value, datastore, tall_table, deferred, in_memory}

abbrev pub class_name : Class → List ℕ
class_name class.Int8 = codes "int8"
class_name class.Int16 = codes "int16"
class_name class.Int32 = codes "int32"
class_name class.Int64 = codes "int64"
class_name class.Uint8 = codes "uint8"
class_name class.Uint16 = codes "uint16"
class_name class.Uint32 = codes "uint32"
class_name class.Uint64 = codes "uint64"
class_name class.Logical = codes "logical"
class_name class.Double = codes "double"
class_name class.Text = codes "string"

-- ---- cells

abbrev pub quote : ℕ
quote = 34

-- each quote is doubled, and all other bytes are as they are
abbrev pub doubled : ℕ → List ℕ
doubled b = if b == quote then quote ∷ quote ∷ [] else b ∷ []

abbrev pub quoted : List ℕ → List ℕ
quoted t = quote ∷ (flat_map doubled t ++ quote ∷ [])

abbrev pub cell_text : Seen → List ℕ
cell_text (whole k n) = signed_decimal n
cell_text (logical true) = codes "1"
cell_text (logical false) = codes "0"
cell_text (double (Some n)) = signed_decimal n
cell_text (double None) = codes "NaN"
cell_text (text t) = quoted t

-- ---- lines

abbrev pub text_line : List ℕ → List ℕ
text_line t = t ++ codes "\n"

-- the first line
abbrev pub head_line : List ℕ → List ℕ → List ℕ
head_line name t = text_line (name ++ codes " = " ++ t)

-- a line of a column or of a table: four blanks, and the parts with two blanks between neighbours
abbrev pub spaced : List (List ℕ) → List ℕ
spaced [] = []
spaced (t ∷ []) = t
spaced (t ∷ u ∷ ts) = t ++ codes "  " ++ spaced (u ∷ ts)

abbrev pub row_line : List (List ℕ) → List ℕ
row_line ts = text_line (codes "    " ++ spaced ts)

abbrev pub column_lines : List Seen → List ℕ
column_lines cs = flat_map (λ c. row_line (cell_text c ∷ [])) cs

-- ---- tables

-- a cell in front of each row
abbrev pub beside_rows : List Seen → List (List Seen) → List (List Seen)
beside_rows (c ∷ cs) (row ∷ rows) = (c ∷ row) ∷ beside_rows cs rows
beside_rows cs rows = []

abbrev pub rows_without_cells : List Seen → List (List Seen)
rows_without_cells [] = []
rows_without_cells (c ∷ cs) = [] ∷ rows_without_cells cs

-- the rows of columns of one height
abbrev pub table_rows : List (List ℕ × SeenColumn) → List (List Seen)
table_rows [] = []
table_rows (entry ∷ []) = beside_rows entry.1.cells (rows_without_cells entry.1.cells)
table_rows (entry ∷ next ∷ t) = beside_rows entry.1.cells (table_rows (next ∷ t))

abbrev pub table_lines : List (List ℕ × SeenColumn) → List ℕ
table_lines t = row_line (names_of t) ++ flat_map (λ row. row_line (map cell_text row)) (table_rows t)

-- ---- values

unfoldable pub memory_text : List ℕ → Memory → List ℕ
memory_text name (scalar c) = head_line name (class_name (class_of_cell c) ++ codes " " ++ cell_text c)
memory_text name (column x) = head_line name (class_name x.class ++ codes " " ++ decimal (length x.cells) ++ codes "x1") ++ column_lines x.cells
memory_text name (table t) = head_line name (codes "table " ++ decimal (height_of t) ++ codes "x" ++ decimal (length t)) ++ table_lines t
memory_text name (texts ts) = head_line name (codes "list " ++ decimal (length ts))

-- a deferred value shows its class; `D` tells it
unfoldable pub value_text : {D : Type 0} → (D → Class) → List ℕ → Value D → List ℕ
value_text class_in name (in_memory v) = memory_text name v
value_text class_in name (deferred x) = head_line name (codes "tall " ++ class_name (class_in x))
value_text class_in name (tall_table t) = head_line name (codes "tall table")
value_text class_in name (datastore place) = head_line name (codes "datastore")
