-- Blocks and whole files: the cells and the first fault of the one are those of the other.
use Rattle.std.proofs.Common.{ℕ, zero, suc, ◌≡◌, ◌∙◌, ◌<◌, ◌≤◌, ◌+◌, ◌^◌, inl, inr, List, [], ◌∷◌, ◌++◌, Bool, true, false, Option, Some, None, Ok, Err, Result, sym, ap, subst, refl, arith, length, get_or, take, drop, leb, ltb}
use Rattle.std.specs.Prelude.{◌⊎◌, ◌-◌, ◌&&◌, not}
use Rattle.std.specs.Bool.{Decides}
use Rattle.std.proofs.lemmas.Bool.{false≢true}
use Rattle.std.proofs.lemmas.Bool.Decides.{Decides-ltb}
use Rattle.std.specs.List.{filter_map, flat_map, cons_option}
use Rattle.std.specs.Option.{option_or}
use Rattle.std.specs.Result.{result_err, result_ok, result_map_both}
use Rattle.std.proofs.lemmas.Grind.{flat_map-append}
use Rattle.std.proofs.lemmas.List.{append_assoc, append-nil, take-append-drop, length-drop}
use Rattle.std.proofs.lemmas.List.Elements.{filter_map-append}
use Rattle.tall_outside.specs.Shelf.{Files, file_in}
use Rattle.tall_cut.specs.declared.cutter.ReadSize.TheVariants.{Rows, File}
use Rattle.tall_cut.specs.Rows.{Fields}
use Rattle.tall_value.specs.Cells.{Seen}
use Rattle.tall_store.specs.declared.faults.ReadingFault.{ReadingFault}
use Rattle.tall_value.specs.declared.faults.ReadingKind.{ReadingKind}
use Rattle.tall_value.specs.declared.faults.ReadingKind.TheVariants.{HeaderDiffers, NoFile, TooManyFields, TooManyRows}
use Rattle.tall_store.specs.Stores.{SeenStore, format_at}
use Rattle.tall_store.specs.Fields.{field_value}
use Rattle.tall_store.specs.Headers.{begins_with}
use Rattle.tall_store.specs.Records.{DataRecord, data_in, numbered_records, records_in}
use Rattle.tall_store.specs.Walk.{fault_when, file_faults, records_from}
use Rattle.tall_store.specs.ReadingOrder.{earlier_of, first_reading_fault, kind_rank}
use Rattle.tall_store.specs.Stored.{cells_at, file_faults_from, record_faults, value_at}
use Rattle.tall_store.specs.Blocks.{Block, CellsJoin, FaultsJoin, IsCutting, SizesCut, blocks_from, blocks_up_to, first_in_blocks, first_met_from, numbered_blocks}
use Rattle.tall_store.proofs.ReadingLaws.{first_append}
use Rattle.tall_store.proofs.Prefixes.{Each, IsLater, LaterIn, each_append, each_weaker, first_before}
use Rattle.tall_store.proofs.ByColumn.{mix}
use Rattle.tall_store.proofs.Limits.{faults_after, faults_below, numbered_append, rows_apart}

abbrev all_of : List (List Fields) → List Fields
all_of blocks = flat_map (λ block. block) blocks

-- ---- cells

abbrev cells_of : SeenStore → ℕ → Block → List Seen
cells_of store place block = cells_at store (numbered_records block.file block.row block.records) place

file_cells : (store : SeenStore) (place file row : ℕ) (blocks : List (List Fields))
    → flat_map (cells_of store place) (numbered_blocks file row blocks) ≡ cells_at store (numbered_records file row (all_of blocks)) place
file_cells store place file row [] = refl
file_cells store place file row (records ∷ blocks) =
    ap (λ cells. cells_at store (numbered_records file row records) place ++ cells) (file_cells store place file (row + length records) blocks)
    ∙ sym (filter_map-append (λ r. result_ok (value_at store place r)) (numbered_records file row records) (numbered_records file (row + length records) (all_of blocks)))
    ∙ ap (λ rs. cells_at store rs place) (sym (numbered_append file row records (all_of blocks)))

cells_join_from : (cut : List Fields → List (List Fields)) → IsCutting cut → (store : SeenStore) (files : Files) (place file row : ℕ) (names : List (List ℕ))
    → flat_map (cells_of store place) (blocks_from cut store files file row names) ≡ cells_at store (records_from store files file row names) place
cells_join_from cut c store files place file row [] = refl
cells_join_from cut c store files place file row (name ∷ names) =
    let found : List Fields = data_in store (file_in files name) in
    flat_map-append (cells_of store place) (numbered_blocks file row (cut found)) (blocks_from cut store files (file + 1) (row + length found) names)
    ∙ ap (λ cells. cells ++ flat_map (cells_of store place) (blocks_from cut store files (file + 1) (row + length found) names))
    (file_cells store place file row (cut found) ∙ ap (λ rs. cells_at store (numbered_records file row rs) place) (c found))
    ∙ ap (λ cells. cells_at store (numbered_records file row found) place ++ cells) (cells_join_from cut c store files place (file + 1) (row + length found) names)
    ∙ sym (filter_map-append (λ r. result_ok (value_at store place r)) (numbered_records file row found) (records_from store files (file + 1) (row + length found) names))

pub cells_join : CellsJoin
cells_join cut c store files place = cells_join_from cut c store files place 0 1 store.files

-- ---- the first fault of a file's blocks

abbrev data_faults : SeenStore → ℕ → ℕ → List Fields → List ReadingFault
data_faults store file row records = flat_map (record_faults store) (numbered_records file row records)

file_first : (store : SeenStore) (file row : ℕ) (blocks : List (List Fields))
    → first_in_blocks store (numbered_blocks file row blocks) ≡ first_reading_fault (data_faults store file row (all_of blocks))
file_first store file row [] = refl
file_first store file row (records ∷ blocks) =
    let later : List ReadingFault = data_faults store file (row + length records) (all_of blocks) in
    ap (λ f. option_or (first_reading_fault (data_faults store file row records)) f) (file_first store file (row + length records) blocks)
    ∙ sym (first_before (data_faults store file row records) later
    (rows_apart (row + length records) (data_faults store file row records) later
    (faults_below store file row (row + length records) records (omega arith)) (faults_after store file (row + length records) (all_of blocks))))
    ∙ ap first_reading_fault
    (sym (flat_map-append (record_faults store) (numbered_records file row records) (numbered_records file (row + length records) (all_of blocks)))
    ∙ ap (flat_map (record_faults store)) (sym (numbered_append file row records (all_of blocks))))

-- ---- places of faults

-- a fault of a record, or of one of its fields
abbrev IsOf : DataRecord → ReadingFault → Type 0
IsOf r g = (g.row ≡ r.row) × ((g.file ≡ r.file) × ((0 < g.column) ⊎ (2 ≤ kind_rank g.kind)))

when_of : (b : Bool) (kind : ReadingKind) (r : DataRecord) → 2 ≤ kind_rank kind → Each (IsOf r) (fault_when b kind r.file r.row)
when_of true kind r l = ((refl, (refl, inr l)), tt)
when_of false kind r l = tt

value_of : (r : DataRecord) (place : ℕ) (v : Result Seen ReadingKind) (rest : List ReadingFault) → Each (IsOf r) rest
    → Each (IsOf r) (cons_option (result_err (result_map_both (λ (cell : Seen). cell) (λ kind. record { kind = kind; file = r.file; row = r.row; column = place + 1 }) v)) rest)
value_of r place (Ok cell) rest e = e
value_of r place (Err kind) rest e = ((refl, (refl, inl (omega arith))), e)

values_of : (store : SeenStore) (r : DataRecord) (places : List ℕ) → Each (IsOf r) (filter_map (λ place. result_err (value_at store place r)) places)
values_of store r [] = tt
values_of store r (place ∷ places) =
    value_of r place (field_value (format_at store place) store.missing (get_or r.fields place []))
    (filter_map (λ p. result_err (value_at store p r)) places) (values_of store r places)

record_of : (store : SeenStore) (r : DataRecord) → Each (IsOf r) (record_faults store r)
record_of store r =
    each_append (IsOf r) (fault_when (leb (2 ^ 40) r.row) TooManyRows r.file r.row)
    (fault_when (ltb (length store.names) (length r.fields)) TooManyFields r.file r.row ++ filter_map (λ place. result_err (value_at store place r)) store.selected)
    (when_of (leb (2 ^ 40) r.row) TooManyRows r (omega arith))
    (each_append (IsOf r) (fault_when (ltb (length store.names) (length r.fields)) TooManyFields r.file r.row)
    (filter_map (λ place. result_err (value_at store place r)) store.selected)
    (when_of (ltb (length store.names) (length r.fields)) TooManyFields r (omega arith)) (values_of store r store.selected))

-- a fault of data from a file and a row on
abbrev IsData : ℕ → ℕ → ReadingFault → Type 0
IsData file row g = (row ≤ g.row) × ((file ≤ g.file) × ((0 < g.column) ⊎ (2 ≤ kind_rank g.kind)))

-- a fault from a file and a row on
abbrev IsFrom : ℕ → ℕ → ReadingFault → Type 0
IsFrom file row g = (row ≤ g.row) × (file ≤ g.file)

data_of : (file row : ℕ) (r : DataRecord) → row ≤ r.row → file ≤ r.file → (g : ReadingFault) → IsOf r g → IsData file row g
data_of file row r l m g o = (subst (λ n. row ≤ n) (sym o.0) l, (subst (λ n. file ≤ n) (sym o.1.0) m, o.1.1))

abbrev IsRecord : ℕ → ℕ → DataRecord → Type 0
IsRecord file row r = (row ≤ r.row) × (file ≤ r.file)

data_from : (store : SeenStore) (file row : ℕ) (records : List DataRecord) → Each (IsRecord file row) records
    → Each (IsData file row) (flat_map (record_faults store) records)
data_from store file row [] l = tt
data_from store file row (r ∷ records) l =
    each_append (IsData file row) (record_faults store r) (flat_map (record_faults store) records)
    (each_weaker (IsOf r) (IsData file row) (data_of file row r l.0.0 l.0.1) (record_faults store r) (record_of store r))
    (data_from store file row records l.1)

numbered_from : (file row : ℕ) (records : List Fields) → Each (IsRecord file row) (numbered_records file row records)
numbered_from file row [] = tt
numbered_from file row (fields ∷ records) = (
  (omega arith, omega arith),
  each_weaker (IsRecord file (row + 1)) (IsRecord file row) (λ r l. (after row r.row l.0, l.1)) (numbered_records file (row + 1) records) (numbered_from file (row + 1) records),
)
  where
    after : (m n : ℕ) → m + 1 ≤ n → m ≤ n
    after m n l = omega arith

lower_records : (file row more : ℕ) (records : List DataRecord) → Each (IsRecord (file + 1) (row + more)) records → Each (IsRecord file row) records
lower_records file row more records e =
    each_weaker (IsRecord (file + 1) (row + more)) (IsRecord file row) (λ r l. (drop_more_rows row more r.row l.0, drop_one file r.file l.1)) records e
  where
    drop_more_rows : (m k n : ℕ) → m + k ≤ n → m ≤ n
    drop_more_rows m k n l = omega arith

    drop_one : (m n : ℕ) → m + 1 ≤ n → m ≤ n
    drop_one m n l = omega arith

lower_faults : (file row more : ℕ) (faults : List ReadingFault) → Each (IsFrom (file + 1) (row + more)) faults → Each (IsFrom file row) faults
lower_faults file row more faults e =
    each_weaker (IsFrom (file + 1) (row + more)) (IsFrom file row) (λ g l. (drop_more_rows row more g.row l.0, drop_one file g.file l.1)) faults e
  where
    drop_more_rows : (m k n : ℕ) → m + k ≤ n → m ≤ n
    drop_more_rows m k n l = omega arith

    drop_one : (m n : ℕ) → m + 1 ≤ n → m ≤ n
    drop_one m n l = omega arith

records_after : (store : SeenStore) (files : Files) (file row : ℕ) (names : List (List ℕ)) → Each (IsRecord file row) (records_from store files file row names)
records_after store files file row [] = tt
records_after store files file row (name ∷ names) =
    let found : List Fields = data_in store (file_in files name) in
    each_append (IsRecord file row) (numbered_records file row found) (records_from store files (file + 1) (row + length found) names)
    (numbered_from file row found)
    (lower_records file row (length found) (records_from store files (file + 1) (row + length found) names) (records_after store files (file + 1) (row + length found) names))

-- a fault of a file itself
abbrev IsFile : ℕ → ℕ → ReadingFault → Type 0
IsFile file row f = (f.row ≡ row) × ((f.column ≡ 0) × ((f.file ≡ file) × (kind_rank f.kind ≤ 1)))

when_file : (b : Bool) (kind : ReadingKind) (file row : ℕ) → kind_rank kind ≤ 1 → Each (IsFile file row) (fault_when b kind file row)
when_file true kind file row l = ((refl, (refl, (refl, l))), tt)
when_file false kind file row l = tt

file_of : (store : SeenStore) (bytes : Option (List ℕ)) (file row : ℕ) → Each (IsFile file row) (file_faults store bytes file row)
file_of store None file row = when_file true NoFile file row (omega arith)
file_of store (Some bytes) file row = when_file (store.header && not (begins_with store.first (records_in store (Some bytes)))) HeaderDiffers file row (omega arith)

files_after : (store : SeenStore) (files : Files) (file row : ℕ) (names : List (List ℕ)) → Each (IsFrom file row) (file_faults_from store files file row names)
files_after store files file row [] = tt
files_after store files file row (name ∷ names) =
    let found : List Fields = data_in store (file_in files name) in
    each_append (IsFrom file row) (file_faults store (file_in files name) file row) (file_faults_from store files (file + 1) (row + length found) names)
    (each_weaker (IsFile file row) (IsFrom file row) (λ g e. (equal_le row g.row e.0, equal_le file g.file e.1.1.0)) (file_faults store (file_in files name) file row)
    (file_of store (file_in files name) file row))
    (lower_faults file row (length found) (file_faults_from store files (file + 1) (row + length found) names) (files_after store files (file + 1) (row + length found) names))
  where
    equal_le : (m n : ℕ) → n ≡ m → m ≤ n
    equal_le m n e = omega arith

-- ---- which come first

split : (m n : ℕ) → m ≤ n → (m < n) ⊎ (m ≡ n)
split m n l = by_test (ltb m n) (Decides-ltb m n) refl
  where
    not_below : (m n : ℕ) → m ≤ n → (m < n → ⊥) → m ≡ n
    not_below m n l other = omega arith

    by_test : (b : Bool) → Decides b (m < n) → b ≡ ltb m n → (m < n) ⊎ (m ≡ n)
    by_test true d e = inl (d.0 refl)
    by_test false d e = inr (not_below m n l (λ lt. false≢true (d.1 lt)))

none_less : (n : ℕ) → 0 < n → 0 ≡ n → ⊥
none_less n l e = omega arith

later_by_kind : (fr fc ff fk gr gc gf gk : ℕ) → fr ≤ gr → fc ≡ 0 → ff ≤ gf → (0 < gc) ⊎ (fk < gk)
    → LaterIn (fr ∷ fc ∷ ff ∷ fk ∷ []) (gr ∷ gc ∷ gf ∷ gk ∷ [])
later_by_kind fr fc ff fk gr gc gf gk rows first files last = by_row (split fr gr rows)
  where
    by_last : 0 ≡ gc → (0 < gc) ⊎ (fk < gk) → (fk < gk) ⊎ ((fk ≡ gk) × Unit {0})
    by_last e (inl l) = absurd (none_less gc l e)
    by_last e (inr l) = inl l

    by_file : 0 ≡ gc → (ff < gf) ⊎ (ff ≡ gf) → (ff < gf) ⊎ ((ff ≡ gf) × ((fk < gk) ⊎ ((fk ≡ gk) × Unit {0})))
    by_file e (inl l) = inl l
    by_file e (inr same) = inr (same, by_last e last)

    by_column : (0 < gc) ⊎ (0 ≡ gc) → (fc < gc) ⊎ ((fc ≡ gc) × ((ff < gf) ⊎ ((ff ≡ gf) × ((fk < gk) ⊎ ((fk ≡ gk) × Unit {0})))))
    by_column (inl l) = inl (subst (λ n. n < gc) (sym first) l)
    by_column (inr e) = inr (first ∙ e, by_file e (split ff gf files))

    by_row : (fr < gr) ⊎ (fr ≡ gr) → LaterIn (fr ∷ fc ∷ ff ∷ fk ∷ []) (gr ∷ gc ∷ gf ∷ gk ∷ [])
    by_row (inl l) = inl l
    by_row (inr same) = inr (same, by_column (split 0 gc (omega arith)))

later_by_file : (fr fc ff fk gr gc gf gk : ℕ) → fr ≤ gr → fc ≡ 0 → ff < gf
    → LaterIn (fr ∷ fc ∷ ff ∷ fk ∷ []) (gr ∷ gc ∷ gf ∷ gk ∷ [])
later_by_file fr fc ff fk gr gc gf gk rows first files = by_row (split fr gr rows)
  where
    by_column : (0 < gc) ⊎ (0 ≡ gc) → (fc < gc) ⊎ ((fc ≡ gc) × ((ff < gf) ⊎ ((ff ≡ gf) × ((fk < gk) ⊎ ((fk ≡ gk) × Unit {0})))))
    by_column (inl l) = inl (subst (λ n. n < gc) (sym first) l)
    by_column (inr e) = inr (first ∙ e, inl files)

    by_row : (fr < gr) ⊎ (fr ≡ gr) → LaterIn (fr ∷ fc ∷ ff ∷ fk ∷ []) (gr ∷ gc ∷ gf ∷ gk ∷ [])
    by_row (inl l) = inl l
    by_row (inr same) = inr (same, by_column (split 0 gc (omega arith)))

-- a fault of a file comes before those of its data
before_data : (file row : ℕ) (f g : ReadingFault) → IsFile file row f → IsData file row g → IsLater f g
before_data file row f g i d =
    later_by_kind f.row f.column f.file (kind_rank f.kind) g.row g.column g.file (kind_rank g.kind)
    (subst (λ n. n ≤ g.row) (sym i.0) d.0) i.1.0 (subst (λ n. n ≤ g.file) (sym i.1.1.0) d.1.0) (by_kind d.1.1)
  where
    two : (m n : ℕ) → m ≤ 1 → 2 ≤ n → m < n
    two m n l r = omega arith

    by_kind : (0 < g.column) ⊎ (2 ≤ kind_rank g.kind) → (0 < g.column) ⊎ (kind_rank f.kind < kind_rank g.kind)
    by_kind (inl l) = inl l
    by_kind (inr l) = inr (two (kind_rank f.kind) (kind_rank g.kind) i.1.1.1 l)

-- and before those of later files
before_files : (file row : ℕ) (f g : ReadingFault) → IsFile file row f → (row ≤ g.row) × (file + 1 ≤ g.file) → IsLater f g
before_files file row f g i d =
    later_by_file f.row f.column f.file (kind_rank f.kind) g.row g.column g.file (kind_rank g.kind)
    (subst (λ n. n ≤ g.row) (sym i.0) d.0) i.1.0 (above f.file file g.file i.1.1.0 d.1)
  where
    above : (m k n : ℕ) → m ≡ k → k + 1 ≤ n → m < n
    above m k n e l = omega arith

-- ---- all files

rearranged : (a b c d : List ReadingFault) → first_reading_fault ((a ++ b) ++ (c ++ d)) ≡ first_reading_fault (a ++ (c ++ (b ++ d)))
rearranged a b c d =
    first_append (a ++ b) (c ++ d)
    ∙ ap (λ f. earlier_of f (first_reading_fault (c ++ d))) (first_append a b)
    ∙ ap (λ f. earlier_of (earlier_of (first_reading_fault a) (first_reading_fault b)) f) (first_append c d)
    ∙ mix (first_reading_fault a) (first_reading_fault b) (first_reading_fault c) (first_reading_fault d)
    ∙ ap (λ f. earlier_of f (earlier_of (first_reading_fault b) (first_reading_fault d))) (sym (first_append a c))
    ∙ ap (λ f. earlier_of (first_reading_fault (a ++ c)) f) (sym (first_append b d))
    ∙ sym (first_append (a ++ c) (b ++ d))
    ∙ ap first_reading_fault (append_assoc a c (b ++ d))

faults_join_from : (cut : List Fields → List (List Fields)) → IsCutting cut → (store : SeenStore) (files : Files) (file row : ℕ) (names : List (List ℕ))
    → first_met_from cut store files file row names
    ≡ first_reading_fault (file_faults_from store files file row names ++ flat_map (record_faults store) (records_from store files file row names))
faults_join_from cut c store files file row [] = refl
faults_join_from cut c store files file row (name ∷ names) =
    let bytes : Option (List ℕ) = file_in files name in
    let found : List Fields = data_in store bytes in
    let next : ℕ = row + length found in
    let own : List ReadingFault = file_faults store bytes file row in
    let here : List ReadingFault = data_faults store file row found in
    let others : List ReadingFault = file_faults_from store files (file + 1) next names in
    let rest : List ReadingFault = flat_map (record_faults store) (records_from store files (file + 1) next names) in
    let later : Each (IsFrom (file + 1) next) (others ++ rest) =
    each_append (IsFrom (file + 1) next) others rest (files_after store files (file + 1) next names)
    (each_weaker (IsData (file + 1) next) (IsFrom (file + 1) next) (λ g d. (d.0, d.1.0)) rest
    (data_from store (file + 1) next (records_from store files (file + 1) next names) (records_after store files (file + 1) next names))) in
    ap (λ f. option_or (first_reading_fault own) (option_or (first_in_blocks store (numbered_blocks file row (cut found))) f)) (faults_join_from cut c store files (file + 1) next names)
    ∙ ap (λ f. option_or (first_reading_fault own) (option_or f (first_reading_fault (others ++ rest))))
    (file_first store file row (cut found) ∙ ap (λ rs. first_reading_fault (data_faults store file row rs)) (c found))
    ∙ ap (λ f. option_or (first_reading_fault own) f)
    (sym (first_before here (others ++ rest)
    (rows_apart next here (others ++ rest) (faults_below store file row next found (omega arith))
    (each_weaker (IsFrom (file + 1) next) (λ g. next ≤ g.row) (λ g d. d.0) (others ++ rest) later))))
    ∙ sym (first_before own (here ++ (others ++ rest))
    (each_weaker (IsFile file row) (λ f. Each (IsLater f) (here ++ (others ++ rest)))
    (λ f i. each_append (IsLater f) here (others ++ rest)
    (each_weaker (IsData file row) (IsLater f) (λ g d. before_data file row f g i d) here
    (data_from store file row (numbered_records file row found) (numbered_from file row found)))
    (each_weaker (IsFrom (file + 1) next) (IsLater f) (λ g d. before_files file row f g i (from_next row (length found) g.row d.0, d.1)) (others ++ rest) later))
    own (file_of store bytes file row)))
    ∙ sym (rearranged own others here rest)
    ∙ ap (λ fs. first_reading_fault ((own ++ others) ++ fs))
    (sym (flat_map-append (record_faults store) (numbered_records file row found) (records_from store files (file + 1) next names)))
  where
    from_next : (m k n : ℕ) → m + k ≤ n → m ≤ n
    from_next m k n l = omega arith

pub faults_join : FaultsJoin
faults_join cut c store files = faults_join_from cut c store files 0 1 store.files

-- ---- sizes

blocks_whole : (n size : ℕ) (records : List Fields) → 0 < size → length records ≤ n → all_of (blocks_up_to n size records) ≡ records
unfolding blocks_up_to
blocks_whole zero size [] l m = refl
blocks_whole zero size (fields ∷ records) l m = absurd (omega arith)
blocks_whole (suc n) size [] l m = refl
blocks_whole (suc n) size (fields ∷ records) l m =
    ap (λ rs. take size (fields ∷ records) ++ rs)
    (blocks_whole n size (drop size (fields ∷ records)) l (subst (λ k. k ≤ n) (sym (length-drop size (fields ∷ records))) (shorter (length records) (length (fields ∷ records)) size n refl l m)))
    ∙ take-append-drop size (fields ∷ records)
  where
    shorter : (k j size n : ℕ) → j ≡ suc k → 0 < size → j ≤ suc n → j - size ≤ n
    shorter k j size n e l m = omega arith

pub sizes_cut : SizesCut
sizes_cut (Rows size) l records = blocks_whole (length records) size records l (omega arith)
sizes_cut File l [] = refl
sizes_cut File l (fields ∷ records) = append-nil (fields ∷ records)
