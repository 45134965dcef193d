-- The records of a part, one after the other.
use Rattle.std.proofs.Common.{ℕ, ◌≡◌, ◌∙◌, ◌<◌, ◌≤◌, ◌+◌, List, [], ◌∷◌, ◌++◌, Bool, true, false, Some, Ok, Err, Result, sym, ap, subst, refl, arith, length, get_or, take, drop, ltb}
use Rattle.std.specs.List.{flat_map, cons_option}
use Rattle.std.specs.Result.{result_err, result_ok, result_map_both}
use Rattle.std.proofs.lemmas.List.{append_assoc, append-nil, drop_more, get_or-take, length-take-le}
use Rattle.std.proofs.Math.ListN.{drop_of_length-le}
use Rattle.tall_cut.specs.Rows.{Fields}
use Rattle.tall_value.specs.Cells.{Seen}
use Rattle.tall_store.specs.declared.part.Part.{Part}
use Rattle.tall_store.specs.declared.faults.ReadingFault.{ReadingFault}
use Rattle.tall_value.specs.declared.faults.ReadingKind.{ReadingKind}
use Rattle.tall_value.specs.declared.faults.ReadingKind.TheVariants.{TooManyFields}
use Rattle.tall_store.specs.Stores.{SeenStore, format_at}
use Rattle.tall_store.specs.declared.format.Format.{Format}
use Rattle.tall_store.specs.Fields.{field_value}
use Rattle.tall_store.specs.Records.{DataRecord, numbered_records}
use Rattle.tall_store.specs.ReadingOrder.{first_reading_fault}
use Rattle.tall_store.specs.Stored.{cells_at, value_at}
use Rattle.tall_store.specs.Walk.{fault_when}
use Rattle.tall_store.specs.Reads.{ReadsColumn, column_faults, first_width_fault, width_faults}
use Rattle.tall_store.specs.Parts.{part_records}
use Rattle.tall_store.proofs.ByColumn.{as_flat}
use Rattle.tall_value.specs.declared.class.Class.{Class}
use Rattle.tall_column.specs.Columns.{SeenColumn}
use Rattle.tall_store.specs.Formats.{class_of_format}
use Rattle.tall_store.proofs.Prefixes.{Each, IsLater, each_append, each_weaker, first_is, later_row}

-- the records from a place on
abbrev pub rest_of : Part → ℕ → List DataRecord
rest_of part i = numbered_records part.file (part.first_row + i) (drop i (take part.rows part.block.now))

abbrev pub record_at : Part → ℕ → DataRecord
record_at part i = record { file = part.file; row = part.first_row + i; fields = get_or part.block.now i [] }

pub rest_start : (part : Part) → rest_of part 0 ≡ part_records part
rest_start part = ap (λ row. numbered_records part.file row (take part.rows part.block.now)) (omega arith)

taken_len : (part : Part) → length (take part.rows part.block.now) ≡ part.rows
taken_len part = length-take-le part.rows part.block.now part.within

pub rest_end : (part : Part) → rest_of part part.rows ≡ []
rest_end part =
    ap (λ xs. numbered_records part.file (part.first_row + part.rows) xs)
    (drop_of_length-le (take part.rows part.block.now) (subst (λ n. n ≤ part.rows) (sym (taken_len part)) (omega arith)))

pub rest_more : (part : Part) (i : ℕ) → i < part.rows → rest_of part i ≡ record_at part i ∷ rest_of part (i + 1)
rest_more part i l =
    ap (λ xs. numbered_records part.file (part.first_row + i) xs)
    (drop_more (take part.rows part.block.now) i [] (subst (λ n. i < n) (sym (taken_len part)) l)
    ∙ ap (λ x. x ∷ drop (i + 1) (take part.rows part.block.now)) (get_or-take part.rows part.block.now i [] l))
    ∙ ap (λ row. record_at part i ∷ numbered_records part.file row (drop (i + 1) (take part.rows part.block.now))) (omega arith)

-- ---- rows

pub rows_from : (file row : ℕ) (records : List Fields) → Each (λ r. row ≤ r.row) (numbered_records file row records)
rows_from file row [] = tt
rows_from file row (fields ∷ records) =
    (omega arith, each_weaker (λ r. row + 1 ≤ r.row) (λ r. row ≤ r.row) (λ r l. omega arith) (numbered_records file (row + 1) records) (rows_from file (row + 1) records))

-- what holds of the rows of records holds of their faults' rows
pub faults_rows : (P : ℕ → Type 0) (h : DataRecord → List ReadingFault) → ((r : DataRecord) → Each {X = ReadingFault} (λ f. f.row ≡ r.row) (h r))
    → (records : List DataRecord) → Each (λ r. P r.row) records → Each {X = ReadingFault} (λ f. P f.row) (flat_map h records)
faults_rows P h e [] l = tt
faults_rows P h e (r ∷ records) l =
    each_append (λ (f : ReadingFault). P f.row) (h r) (flat_map h records)
    (each_weaker (λ (f : ReadingFault). f.row ≡ r.row) (λ f. P f.row) (λ f s. subst P (sym s) l.0) (h r) (e r))
    (faults_rows P h e records l.1)

pub when_row : (b : Bool) (kind : ReadingKind) (file row : ℕ) → Each (λ f. f.row ≡ row) (fault_when b kind file row)
when_row true kind file row = (refl, tt)
when_row false kind file row = tt

-- ---- widths

abbrev width_rest : SeenStore → Part → ℕ → List ReadingFault
width_rest store part i = flat_map (width_faults store) (rest_of part i)

pub width_passed : (store : SeenStore) (part : Part) (i : ℕ) → i < part.rows → ltb (length store.names) (length (get_or part.block.now i [])) ≡ false
    → first_width_fault store (rest_of part i) ≡ first_width_fault store (part_records part)
    → first_width_fault store (rest_of part (i + 1)) ≡ first_width_fault store (part_records part)
width_passed store part i l b e =
    ap (λ w. first_reading_fault (fault_when w TooManyFields part.file (part.first_row + i) ++ width_rest store part (i + 1))) (sym b)
    ∙ ap (first_width_fault store) (sym (rest_more part i l)) ∙ e

pub width_found : (store : SeenStore) (part : Part) (i : ℕ) → i < part.rows → ltb (length store.names) (length (get_or part.block.now i [])) ≡ true
    → first_width_fault store (rest_of part i) ≡ first_width_fault store (part_records part)
    → Some (record { kind = TooManyFields; file = part.file; row = part.first_row + i; column = 0 }) ≡ first_width_fault store (part_records part)
width_found store part i l b e =
    let f : ReadingFault = record { kind = TooManyFields; file = part.file; row = part.first_row + i; column = 0 } in
    sym (first_is f (width_rest store part (i + 1))
    (each_weaker (λ g. part.first_row + (i + 1) ≤ g.row) (IsLater f) (λ g m. later_row f g (omega arith)) (width_rest store part (i + 1))
    (faults_rows (λ n. part.first_row + (i + 1) ≤ n) (width_faults store) (λ r. when_row (ltb (length store.names) (length r.fields)) TooManyFields r.file r.row) (rest_of part (i + 1))
    (rows_from part.file (part.first_row + (i + 1)) (drop (i + 1) (take part.rows part.block.now))))))
    ∙ ap (λ w. first_reading_fault (fault_when w TooManyFields part.file (part.first_row + i) ++ width_rest store part (i + 1))) (sym b)
    ∙ ap (first_width_fault store) (sym (rest_more part i l)) ∙ e

-- ---- one variable

-- the value of the field of a variable in the record at a place
abbrev pub value_of : SeenStore → Part → ℕ → ℕ → Result Seen ReadingKind
value_of store part place i = field_value (format_at store place) store.missing (get_or (get_or part.block.now i []) place [])

abbrev pub fault_of : Part → ℕ → ℕ → ReadingKind → ReadingFault
fault_of part place i kind = record { kind = kind; file = part.file; row = part.first_row + i; column = place + 1 }

pub value_is : (store : SeenStore) (part : Part) (place i : ℕ) (format : Format) (missing : List (List ℕ)) (bytes : List ℕ) (v : Result Seen ReadingKind)
    → format ≡ format_at store place → missing ≡ store.missing → bytes ≡ get_or (get_or part.block.now i []) place []
    → v ≡ field_value format missing bytes → v ≡ value_of store part place i
value_is store part place i format missing bytes v p q r e =
    e ∙ ap (λ f. field_value f missing bytes) p ∙ ap (λ m. field_value (format_at store place) m bytes) q
    ∙ ap (λ b. field_value (format_at store place) store.missing b) r

abbrev placed_value : Part → ℕ → ℕ → Result Seen ReadingKind → Result Seen ReadingFault
placed_value part place i v = result_map_both (λ cell. cell) (fault_of part place i) v

pub faults_step : (store : SeenStore) (part : Part) (place i : ℕ) (v : Result Seen ReadingKind) → i < part.rows → v ≡ value_of store part place i
    → column_faults store (rest_of part i) place ≡ cons_option (result_err (placed_value part place i v)) (column_faults store (rest_of part (i + 1)) place)
faults_step store part place i v l e =
    ap (λ rs. column_faults store rs place) (rest_more part i l)
    ∙ ap (λ w. cons_option (result_err (placed_value part place i w)) (column_faults store (rest_of part (i + 1)) place)) (sym e)

pub cells_step : (store : SeenStore) (part : Part) (place i : ℕ) (v : Result Seen ReadingKind) → i < part.rows → v ≡ value_of store part place i
    → cells_at store (rest_of part i) place ≡ cons_option (result_ok (placed_value part place i v)) (cells_at store (rest_of part (i + 1)) place)
cells_step store part place i v l e =
    ap (λ rs. cells_at store rs place) (rest_more part i l)
    ∙ ap (λ w. cons_option (result_ok (placed_value part place i w)) (cells_at store (rest_of part (i + 1)) place)) (sym e)

pub cell_faults : (store : SeenStore) (part : Part) (place i : ℕ) (cell : Seen) → i < part.rows → Ok cell ≡ value_of store part place i
    → column_faults store (rest_of part i) place ≡ column_faults store (part_records part) place
    → column_faults store (rest_of part (i + 1)) place ≡ column_faults store (part_records part) place
cell_faults store part place i cell l e before = sym (faults_step store part place i (Ok cell) l e) ∙ before

pub cell_cells : (store : SeenStore) (part : Part) (place i : ℕ) (cell : Seen) (cells : List Seen) → i < part.rows → Ok cell ≡ value_of store part place i
    → cells ++ cells_at store (rest_of part i) place ≡ cells_at store (part_records part) place
    → (cells ++ cell ∷ []) ++ cells_at store (rest_of part (i + 1)) place ≡ cells_at store (part_records part) place
cell_cells store part place i cell cells l e before =
    append_assoc cells (cell ∷ []) (cells_at store (rest_of part (i + 1)) place)
    ∙ ap (λ xs. cells ++ xs) (sym (cells_step store part place i (Ok cell) l e)) ∙ before

field_row : (store : SeenStore) (place : ℕ) (r : DataRecord) (v : Result Seen ReadingKind)
    → Each {X = ReadingFault} (λ f. f.row ≡ r.row) (cons_option (result_err (result_map_both (λ (cell : Seen). cell) (λ kind. record { kind = kind; file = r.file; row = r.row; column = place + 1 }) v)) [])
field_row store place r (Ok cell) = tt
field_row store place r (Err kind) = (refl, tt)

pub fault_first : (store : SeenStore) (part : Part) (place i : ℕ) (kind : ReadingKind) → i < part.rows → Err kind ≡ value_of store part place i
    → column_faults store (rest_of part i) place ≡ column_faults store (part_records part) place
    → first_reading_fault (column_faults store (part_records part) place) ≡ Some (fault_of part place i kind)
fault_first store part place i kind l e before =
    let f : ReadingFault = fault_of part place i kind in
    let rest : List ReadingFault = column_faults store (rest_of part (i + 1)) place in
    ap first_reading_fault (sym before ∙ faults_step store part place i (Err kind) l e)
    ∙ first_is f rest
    (each_weaker (λ g. part.first_row + (i + 1) ≤ g.row) (IsLater f) (λ g m. later_row f g (omega arith)) rest
    (subst (Each (λ g. part.first_row + (i + 1) ≤ g.row)) (sym (as_flat (λ r. result_err (value_at store place r)) (rest_of part (i + 1))))
    (faults_rows (λ n. part.first_row + (i + 1) ≤ n) (λ r. cons_option (result_err (value_at store place r)) [])
    (λ r. field_row store place r (field_value (format_at store place) store.missing (get_or r.fields place []))) (rest_of part (i + 1))
    (rows_from part.file (part.first_row + (i + 1)) (drop (i + 1) (take part.rows part.block.now))))))

pub column_read : (store : SeenStore) (part : Part) (place : ℕ) (column : SeenColumn)
    → column.class ≡ class_of_format (format_at store place)
    → column_faults store (rest_of part part.rows) place ≡ column_faults store (part_records part) place
    → column.cells ++ cells_at store (rest_of part part.rows) place ≡ cells_at store (part_records part) place
    → ReadsColumn store (part_records part) place (Ok column)
column_read store part place column class faults cells = (
  same_column column.class (class_of_format (format_at store place)) column.cells (cells_at store (part_records part) place) class
      (sym (append-nil column.cells) ∙ ap (λ rs. column.cells ++ cells_at store rs place) (sym (rest_end part)) ∙ cells),
  sym faults ∙ ap (λ rs. column_faults store rs place) (rest_end part),
)
  where
    same_column : (c d : Class) (xs ys : List Seen) → c ≡ d → xs ≡ ys → ◌≡◌ {A = SeenColumn} (record { class = c; cells = xs }) (record { class = d; cells = ys })
    same_column c d xs ys p q = cc
