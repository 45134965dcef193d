-- Tables as plain data: names with their columns, in order.
use Rattle.std.specs.Prelude.{ℕ, ◌≡◌, false, if◌then◌else◌, List, [], ◌∷◌, length, Option, None, Some}
use Rattle.std.specs.List.{AllPairs}
use Rattle.std.specs.Str.{bytes_eq}
use Rattle.tall_dense.specs.Columns.{SeenColumn}

-- the column of a name
abbrev pub column_named : List ℕ → List (List ℕ × SeenColumn) → Option SeenColumn
column_named name [] = None
column_named name (entry ∷ entries) = if bytes_eq entry.0 name then Some entry.1 else column_named name entries

-- the number of rows of the first column, or 0
abbrev pub height_of : List (List ℕ × SeenColumn) → ℕ
height_of [] = 0
height_of (entry ∷ entries) = length entry.1.cells

-- each column has so many rows
abbrev pub HasHeight : ℕ → List (List ℕ × SeenColumn) → Type 0
HasHeight height [] = Unit {0}
HasHeight height (entry ∷ entries) = (length entry.1.cells ≡ height) × HasHeight height entries

-- a column of so many rows fits: any, where there is none yet
abbrev pub FitsHeight : ℕ → List (List ℕ × SeenColumn) → Type 0
FitsHeight height [] = Unit {0}
FitsHeight height (entry ∷ entries) = height ≡ length entry.1.cells

abbrev pub AreApart : (List ℕ × SeenColumn) → (List ℕ × SeenColumn) → Type 0
AreApart entry other = bytes_eq entry.0 other.0 ≡ false

-- all names are distinct, and all columns have one height
pub record IsTable (entries : List (List ℕ × SeenColumn)) : Type 0 where
  pub distinct : AllPairs AreApart entries
  pub one_height : HasHeight (height_of entries) entries
