-- The rows of a table, each as the cells of its columns.
use Rattle.std.specs.Prelude.{Some, slice_get, option_map}
use Rattle.std.proofs.Common.{ℕ, zero, suc, ◌≡◌, ◌<◌, List, [], ◌∷◌, length, map, refl, sym, ◌∙◌, ap, arith, get_or}
use Rattle.std.proofs.lemmas.Option.{get_or_from_slice_get}
use Rattle.tall_value.specs.Cells.{Seen, text}
use Rattle.tall_column.specs.Columns.{SeenColumn}
use Rattle.tall_column.specs.Tables.{HasHeight, IsTable, height_of}
use Rattle.tall_local.specs.Names.{names_of}
use Rattle.tall_local.specs.Printing.{beside_rows, rows_without_cells, table_rows}
use Rattle.tall_print.specs.Rows.{cells_at}

abbrev Columns : Type 0
Columns = List (List ℕ × SeenColumn)

-- an item that is there
pub here : {A : Type 0} (xs : List A) (i : ℕ) (d : A) → i < length xs → slice_get xs i ≡ Some (get_or xs i d)
here [] i d h = absurd (omega (arith, h))
here (x ∷ xs) zero d h = refl
here (x ∷ xs) (suc i) d h = here xs i d (omega (arith, h))

-- ---- rows

length-beside : (cs : List Seen) (rows : List (List Seen)) → length rows ≡ length cs → length (beside_rows cs rows) ≡ length cs
length-beside [] rows h = refl
length-beside (c ∷ cs) [] h = absurd (omega (arith, h))
length-beside (c ∷ cs) (row ∷ rows) h = ap suc (length-beside cs rows (omega (arith, h)))

length-without : (cs : List Seen) → length (rows_without_cells cs) ≡ length cs
length-without [] = refl
length-without (c ∷ cs) = ap suc (length-without cs)

get-without : (cs : List Seen) (i : ℕ) → i < length cs → slice_get (rows_without_cells cs) i ≡ Some []
get-without [] i h = absurd (omega (arith, h))
get-without (c ∷ cs) zero h = refl
get-without (c ∷ cs) (suc i) h = get-without cs i (omega (arith, h))

get-beside : (cs : List Seen) (rows : List (List Seen)) (i : ℕ) (row : List Seen) → i < length cs → slice_get rows i ≡ Some row
    → slice_get (beside_rows cs rows) i ≡ Some (get_or cs i (text []) ∷ row)
get-beside [] rows i row h g = absurd (omega (arith, h))
get-beside (c ∷ cs) [] i row h g = absurd cc
get-beside (c ∷ cs) (r ∷ rows) zero row h g = cc
get-beside (c ∷ cs) (r ∷ rows) (suc i) row h g = get-beside cs rows i row (omega (arith, h)) g

pub length-rows : (height : ℕ) (entry : List ℕ × SeenColumn) (entries : Columns) → HasHeight height (entry ∷ entries) → length (table_rows (entry ∷ entries)) ≡ height
length-rows height entry [] h =
    length-beside entry.1.cells (rows_without_cells entry.1.cells) (length-without entry.1.cells) ∙ h.0
length-rows height entry (next ∷ entries) h =
    length-beside entry.1.cells (table_rows (next ∷ entries)) (length-rows height next entries h.1 ∙ sym h.0) ∙ h.0

pub get-rows : (height : ℕ) (entry : List ℕ × SeenColumn) (entries : Columns) (row : ℕ) → HasHeight height (entry ∷ entries) → row < height
    → slice_get (table_rows (entry ∷ entries)) row ≡ Some (cells_at row (entry ∷ entries))
get-rows height entry [] row h r =
    let within : row < length entry.1.cells = omega (arith, h.0, r) in
    get-beside entry.1.cells (rows_without_cells entry.1.cells) row [] within (get-without entry.1.cells row within)
get-rows height entry (next ∷ entries) row h r =
    get-beside entry.1.cells (table_rows (next ∷ entries)) row (cells_at row (next ∷ entries)) (omega (arith, h.0, r)) (get-rows height next entries row h.1 r)

-- of a table
pub rows_are_as_many : (t : Columns) → IsTable t → length (table_rows t) ≡ height_of t
rows_are_as_many [] is = refl
rows_are_as_many (entry ∷ entries) is = length-rows _ entry entries is.one_height

pub row_of_table : (t : Columns) (row : ℕ) → IsTable t → row < height_of t → slice_get (table_rows t) row ≡ Some (cells_at row t)
row_of_table [] row is r = absurd (omega (arith, r))
row_of_table (entry ∷ entries) row is r = get-rows _ entry entries row is.one_height r

-- ---- columns

pub has_row : (height : ℕ) (t : Columns) (i : ℕ) (c : SeenColumn) → HasHeight height t → option_map (λ e. e.1) (slice_get t i) ≡ Some c → length c.cells ≡ height
has_row height [] i c h g = absurd cc
has_row height (entry ∷ entries) zero c h g = let e : entry.1 ≡ c = cc in ap (λ (x : SeenColumn). length x.cells) (sym e) ∙ h.0
has_row height (entry ∷ entries) (suc i) c h g = has_row height entries i c h.1 g

pub name_here : (t : Columns) (i : ℕ) (name : List ℕ) → option_map (λ e. e.0) (slice_get t i) ≡ Some name → slice_get (names_of t) i ≡ Some name
name_here [] i name g = g
name_here (entry ∷ entries) zero name g = g
name_here (entry ∷ entries) (suc i) name g = name_here entries i name g

pub length-names : (t : Columns) → length (names_of t) ≡ length t
length-names [] = refl
length-names (entry ∷ entries) = ap suc (length-names entries)

pub cell_here : (f : Seen → List ℕ) (t : Columns) (i row : ℕ) (c : SeenColumn) (x : Seen) → option_map (λ e. e.1) (slice_get t i) ≡ Some c → slice_get c.cells row ≡ Some x
    → slice_get (map f (cells_at row t)) i ≡ Some (f x)
cell_here f [] i row c x g s = absurd cc
cell_here f (entry ∷ entries) zero row c x g s =
    let e : entry.1 ≡ c = cc in
    ap (λ y. Some (f y)) (ap (λ (k : SeenColumn). get_or k.cells row (text [])) e ∙ get_or_from_slice_get c.cells row x (text []) s)
cell_here f (entry ∷ entries) (suc i) row c x g s = cell_here f entries i row c x g s
