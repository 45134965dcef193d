-- The first fault of a block whose rows may reach 2^40.
use Rattle.std.proofs.Common.{ℕ, suc, ◌≡◌, ◌∙◌, ◌<◌, ◌≤◌, ◌+◌, ◌^◌, inl, inr, List, [], ◌∷◌, ◌++◌, Bool, true, false, Option, Some, None, Ok, Err, Result, sym, ap, subst, refl, arith, length, get_or, take, drop, leb, ltb}
use Rattle.std.specs.List.{filter_map, flat_map, cons_option}
use Rattle.std.specs.Option.{option_or}
use Rattle.std.specs.Result.{result_err, result_map_both}
use Rattle.std.proofs.lemmas.Bool.{false≢true, lt-leb}
use Rattle.std.specs.Bool.{Decides}
use Rattle.std.proofs.lemmas.Bool.Decides.{Decides-eqb}
use Rattle.std.specs.Prelude.{◌-◌, ◌==◌, ◌≢◌, min}
use Rattle.std.proofs.lemmas.Grind.{flat_map-append}
use Rattle.std.proofs.lemmas.List.{drop_more, length-take-le, take-append-drop}
use Rattle.std.proofs.Math.Seq.{take-length}
use Rattle.tall_column.specs.Columns.{SeenColumn}
use Rattle.tall_store.specs.declared.faults.ColumnsFault.{ColumnsFault}
use Rattle.tall_store.specs.declared.faults.ColumnsFault.TheVariants.{Memory, Reading}
use Rattle.tall_cut.specs.Rows.{Fields}
use Rattle.tall_value.specs.Cells.{Seen}
use Rattle.tall_store.specs.declared.faults.ReadingFault.{ReadingFault}
use Rattle.tall_value.specs.declared.faults.ReadingKind.{ReadingKind}
use Rattle.tall_value.specs.declared.faults.ReadingKind.TheVariants.{TooManyFields, TooManyRows}
use Rattle.tall_store.specs.declared.part.Part.{Part}
use Rattle.tall_store.specs.Stores.{SeenStore, format_at}
use Rattle.tall_store.specs.Fields.{field_value}
use Rattle.tall_store.specs.Records.{DataRecord, numbered_records}
use Rattle.tall_store.specs.ReadingOrder.{first_reading_fault}
use Rattle.tall_store.specs.Stored.{record_faults, unless_fault, value_at, variables_of}
use Rattle.tall_store.specs.Walk.{fault_when}
use Rattle.tall_store.specs.Reads.{Answers, first_of_columns, first_width_fault}
use Rattle.tall_store.specs.Parts.{part_records}
use Rattle.tall_store.specs.Blocks.{Block, block_table, block_variables, first_block_fault}
use Rattle.tall_store.proofs.Prefixes.{Each, IsLater, each_append, each_weaker, first_before, first_is, later_row}
use Rattle.tall_store.proofs.ByColumn.{first_by_column}
use Rattle.tall_store.proofs.PartRows.{faults_rows, rows_from, when_row}

-- ---- rows of records and of their faults

pub numbered_append : (file row : ℕ) (xs ys : List Fields)
    → numbered_records file row (xs ++ ys) ≡ numbered_records file row xs ++ numbered_records file (row + length xs) ys
numbered_append file row [] ys = ap (λ n. numbered_records file n ys) (omega arith)
numbered_append file row (fields ∷ xs) ys =
    ap (λ rs. record { file = file; row = row; fields = fields } ∷ rs)
    (numbered_append file (row + 1) xs ys
    ∙ ap (λ n. numbered_records file (row + 1) xs ++ numbered_records file n ys) (next (length xs) (length (fields ∷ xs)) refl))
  where
    next : (m n : ℕ) → n ≡ suc m → (row + 1) + m ≡ row + n
    next m n e = omega arith

pub rows_below : (file row n : ℕ) (records : List Fields) → row + length records ≤ n → Each (λ r. r.row < n) (numbered_records file row records)
rows_below file row n [] l = tt
rows_below file row n (fields ∷ records) l = (omega arith, rows_below file (row + 1) n records (omega arith))

value_row : (store : SeenStore) (r : DataRecord) (place : ℕ) (v : Result Seen ReadingKind) (rest : List ReadingFault)
    → Each {X = ReadingFault} (λ f. f.row ≡ r.row) rest
    → Each {X = ReadingFault} (λ f. f.row ≡ r.row) (cons_option (result_err (result_map_both (λ (cell : Seen). cell) (λ kind. record { kind = kind; file = r.file; row = r.row; column = place + 1 }) v)) rest)
value_row store r place (Ok cell) rest e = e
value_row store r place (Err kind) rest e = (refl, e)

value_rows : (store : SeenStore) (r : DataRecord) (places : List ℕ)
    → Each {X = ReadingFault} (λ f. f.row ≡ r.row) (filter_map (λ place. result_err (value_at store place r)) places)
value_rows store r [] = tt
value_rows store r (place ∷ places) =
    value_row store r place (field_value (format_at store place) store.missing (get_or r.fields place []))
    (filter_map (λ p. result_err (value_at store p r)) places) (value_rows store r places)

pub record_rows : (store : SeenStore) (r : DataRecord) → Each {X = ReadingFault} (λ f. f.row ≡ r.row) (record_faults store r)
record_rows store r =
    each_append (λ (f : ReadingFault). f.row ≡ r.row) (fault_when (leb (2 ^ 40) r.row) TooManyRows r.file r.row)
    (fault_when (ltb (length store.names) (length r.fields)) TooManyFields r.file r.row ++ filter_map (λ place. result_err (value_at store place r)) store.selected)
    (when_row (leb (2 ^ 40) r.row) TooManyRows r.file r.row)
    (each_append (λ (f : ReadingFault). f.row ≡ r.row) (fault_when (ltb (length store.names) (length r.fields)) TooManyFields r.file r.row)
    (filter_map (λ place. result_err (value_at store place r)) store.selected)
    (when_row (ltb (length store.names) (length r.fields)) TooManyFields r.file r.row) (value_rows store r store.selected))

pub faults_below : (store : SeenStore) (file row n : ℕ) (records : List Fields) → row + length records ≤ n
    → Each (λ f. f.row < n) (flat_map (record_faults store) (numbered_records file row records))
faults_below store file row n records l =
    faults_rows (λ m. m < n) (record_faults store) (record_rows store) (numbered_records file row records) (rows_below file row n records l)

pub faults_after : (store : SeenStore) (file row : ℕ) (records : List Fields)
    → Each (λ f. row ≤ f.row) (flat_map (record_faults store) (numbered_records file row records))
faults_after store file row records =
    faults_rows (λ m. row ≤ m) (record_faults store) (record_rows store) (numbered_records file row records) (rows_from file row records)

-- faults of rows below n come before those of rows from n on
pub rows_apart : (n : ℕ) (xs ys : List ReadingFault) → Each (λ f. f.row < n) xs → Each (λ g. n ≤ g.row) ys → Each (λ f. Each (IsLater f) ys) xs
rows_apart n xs ys below above =
    each_weaker (λ f. f.row < n) (λ f. Each (IsLater f) ys)
    (λ f l. each_weaker (λ g. n ≤ g.row) (IsLater f) (λ g m. later_row f g (omega arith)) ys above) xs below

-- ---- the row numbered 2^40

abbrev pub rows_fault : ℕ → ℕ → ReadingFault
rows_fault file row = record { kind = TooManyRows; file = file; row = row; column = 0 }

width_later : (b : Bool) (file row : ℕ) → Each (IsLater (rows_fault file row)) (fault_when b TooManyFields file row)
width_later true file row = (inr (refl, inr (refl, inr (refl, inl (omega arith)))), tt)
width_later false file row = tt

value_later : (file row place : ℕ) (v : Result Seen ReadingKind) (rest : List ReadingFault) → Each (IsLater (rows_fault file row)) rest
    → Each (IsLater (rows_fault file row)) (cons_option (result_err (result_map_both (λ (cell : Seen). cell) (λ kind. record { kind = kind; file = file; row = row; column = place + 1 }) v)) rest)
value_later file row place (Ok cell) rest e = e
value_later file row place (Err kind) rest e = (inr (refl, inl (omega arith)), e)

values_later : (store : SeenStore) (file row : ℕ) (fields : Fields) (places : List ℕ)
    → Each (IsLater (rows_fault file row)) (filter_map (λ place. result_err (value_at store place (record { file = file; row = row; fields = fields }))) places)
values_later store file row fields [] = tt
values_later store file row fields (place ∷ places) =
    value_later file row place (field_value (format_at store place) store.missing (get_or fields place []))
    (filter_map (λ p. result_err (value_at store p (record { file = file; row = row; fields = fields }))) places)
    (values_later store file row fields places)

pub first_beyond : (store : SeenStore) (file row : ℕ) (fields : Fields) (records : List Fields) → leb (2 ^ 40) row ≡ true
    → first_reading_fault (flat_map (record_faults store) (numbered_records file row (fields ∷ records))) ≡ Some (rows_fault file row)
first_beyond store file row fields records b =
    let r : DataRecord = record { file = file; row = row; fields = fields } in
    let others : List ReadingFault = fault_when (ltb (length store.names) (length fields)) TooManyFields file row
    ++ filter_map (λ place. result_err (value_at store place r)) store.selected in
    let rest : List ReadingFault = flat_map (record_faults store) (numbered_records file (row + 1) records) in
    ap (λ w. first_reading_fault ((fault_when w TooManyRows file row ++ others) ++ rest)) b
    ∙ first_is (rows_fault file row) (others ++ rest)
    (each_append (IsLater (rows_fault file row)) others rest
    (each_append (IsLater (rows_fault file row)) (fault_when (ltb (length store.names) (length fields)) TooManyFields file row)
    (filter_map (λ place. result_err (value_at store place r)) store.selected)
    (width_later (ltb (length store.names) (length fields)) file row) (values_later store file row fields store.selected))
    (each_weaker (λ g. row + 1 ≤ g.row) (IsLater (rows_fault file row)) (λ g m. later_row (rows_fault file row) g (omega arith)) rest
    (faults_after store file (row + 1) records)))

-- ---- a part of a block, and the block

not_above : (row : ℕ) → row < 2 ^ 40 → leb (2 ^ 40) row ≡ false
not_above row l = lt-leb (2 ^ 40) row l

abbrev pub block_of : Part → Block
block_of part = record { file = part.file; row = part.first_row; records = part.block.now }

abbrev pub first_of_part : SeenStore → Part → Option ReadingFault
first_of_part store part = first_of_columns store (part_records part) (first_width_fault store (part_records part)) store.selected

part_first : (store : SeenStore) (part : Part) → first_reading_fault (flat_map (record_faults store) (part_records part)) ≡ first_of_part store part
part_first store part =
    first_by_column store (part_records part)
    (each_weaker (λ r. r.row < 2 ^ 40) (λ r. leb (2 ^ 40) r.row ≡ false) (λ r l. not_above r.row l) (part_records part)
    (rows_below part.file part.first_row (2 ^ 40) (take part.rows part.block.now)
    (subst (λ n. part.first_row + n ≤ 2 ^ 40) (sym (length-take-le part.rows part.block.now part.within)) part.numbered)))

-- all of the block
same_records : (part : Part) → part.rows ≡ length part.block.now → part_records part ≡ numbered_records part.file part.first_row part.block.now
same_records part e =
    ap (λ n. numbered_records part.file part.first_row (take n part.block.now)) e
    ∙ ap (numbered_records part.file part.first_row) (take-length part.block.now)

pub answer_whole : (store : SeenStore) (part : Part) (result : Result (List (List ℕ × SeenColumn)) ColumnsFault) → part.rows ≡ length part.block.now
    → Answers (unless_fault (first_of_part store part) (variables_of store (part_records part))) result → Answers (block_table store (block_of part)) result
answer_whole store part result e a =
    subst (λ rs. Answers (unless_fault (first_reading_fault (flat_map (record_faults store) rs)) (variables_of store rs)) result) (same_records part e)
    (subst (λ f. Answers (unless_fault f (variables_of store (part_records part))) result) (sym (part_first store part)) a)

-- a part up to the row before 2^40
block_first : (store : SeenStore) (part : Part) → part.rows < length part.block.now → part.first_row + part.rows ≡ 2 ^ 40
    → first_block_fault store (block_of part) ≡ option_or (first_of_part store part) (Some (rows_fault part.file (2 ^ 40)))
block_first store part l e =
    let taken : List Fields = take part.rows part.block.now in
    let left : List Fields = drop (part.rows + 1) part.block.now in
    let fields : Fields = get_or part.block.now part.rows [] in
    let len : part.first_row + length taken ≡ 2 ^ 40 = ap (λ n. part.first_row + n) (length-take-le part.rows part.block.now part.within) ∙ e in
    ap (λ rs. first_reading_fault (flat_map (record_faults store) (numbered_records part.file part.first_row rs)))
    (sym (take-append-drop part.rows part.block.now) ∙ ap (λ rs. taken ++ rs) (drop_more part.block.now part.rows [] l))
    ∙ ap (λ rs. first_reading_fault (flat_map (record_faults store) rs)) (numbered_append part.file part.first_row taken (fields ∷ left))
    ∙ ap (λ n. first_reading_fault (flat_map (record_faults store) (part_records part ++ numbered_records part.file n (fields ∷ left)))) len
    ∙ ap first_reading_fault (flat_map-append (record_faults store) (part_records part) (numbered_records part.file (2 ^ 40) (fields ∷ left)))
    ∙ first_before (flat_map (record_faults store) (part_records part)) (flat_map (record_faults store) (numbered_records part.file (2 ^ 40) (fields ∷ left)))
    (rows_apart (2 ^ 40) (flat_map (record_faults store) (part_records part)) (flat_map (record_faults store) (numbered_records part.file (2 ^ 40) (fields ∷ left)))
    (faults_below store part.file part.first_row (2 ^ 40) taken (subst (λ n. n ≤ 2 ^ 40) (sym len) (omega arith)))
    (faults_after store part.file (2 ^ 40) (fields ∷ left)))
    ∙ ap (λ f. option_or f (first_reading_fault (flat_map (record_faults store) (numbered_records part.file (2 ^ 40) (fields ∷ left))))) (part_first store part)
    ∙ ap (λ f. option_or (first_of_part store part) f) (first_beyond store part.file (2 ^ 40) fields left refl)

cut_ok : (f due : Option ReadingFault) (limit : ReadingFault) (vars all t : List (List ℕ × SeenColumn)) → due ≡ option_or f (Some limit) → unless_fault f vars ≡ Ok t
    → unless_fault due all ≡ Err limit
cut_ok None due limit vars all t e h = ap (λ d. unless_fault d all) e
cut_ok (Some f) due limit vars all t e h = absurd cc

cut_err : (f due : Option ReadingFault) (limit fault : ReadingFault) (vars all : List (List ℕ × SeenColumn)) → due ≡ option_or f (Some limit) → unless_fault f vars ≡ Err fault
    → unless_fault due all ≡ Err fault
cut_err None due limit fault vars all e h = absurd cc
cut_err (Some f) due limit fault vars all e h = ap (λ d. unless_fault d all) e ∙ h

pub answer_limit : (store : SeenStore) (part : Part) (t : List (List ℕ × SeenColumn)) → part.rows < length part.block.now → part.first_row + part.rows ≡ 2 ^ 40
    → Answers (unless_fault (first_of_part store part) (variables_of store (part_records part))) (Ok t)
    → block_table store (block_of part) ≡ Err (rows_fault part.file (2 ^ 40))
answer_limit store part t l e a =
    cut_ok (first_of_part store part) (first_block_fault store (block_of part)) (rows_fault part.file (2 ^ 40))
    (variables_of store (part_records part)) (block_variables store (block_of part)) t (block_first store part l e) a

pub answer_cut : (store : SeenStore) (part : Part) (fault : ReadingFault) → part.rows < length part.block.now → part.first_row + part.rows ≡ 2 ^ 40
    → Answers (unless_fault (first_of_part store part) (variables_of store (part_records part))) (Err (Reading fault))
    → block_table store (block_of part) ≡ Err fault
answer_cut store part fault l e a =
    cut_err (first_of_part store part) (first_block_fault store (block_of part)) (rows_fault part.file (2 ^ 40)) fault
    (variables_of store (part_records part)) (block_variables store (block_of part)) (block_first store part l e) a

-- the part that a block is read in
pub record IsPart (block : List Fields) (file row : ℕ) (part : Part) : Type 0 where
  pub block_is : part.block.now ≡ block
  pub file_is : part.file ≡ file
  pub row_is : part.first_row ≡ row
  pub rows_are : part.rows ≡ min (length block) (2 ^ 40 - row)
  pub last : row ≤ 2 ^ 40

abbrev pub due_of : SeenStore → List Fields → ℕ → ℕ → Result (List (List ℕ × SeenColumn)) ReadingFault
due_of store block file row = block_table store (record { file = file; row = row; records = block })

same_block : (store : SeenStore) (block : List Fields) (file row : ℕ) (part : Part) → IsPart block file row part
    → block_table store (block_of part) ≡ due_of store block file row
same_block store block file row part p =
    ap (λ xs. due_of store xs part.file part.first_row) p.block_is ∙ ap (λ n. due_of store block n part.first_row) p.file_is
    ∙ ap (λ n. due_of store block file n) p.row_is

abbrev pub read_of : SeenStore → Part → Result (List (List ℕ × SeenColumn)) ReadingFault
read_of store part = unless_fault (first_of_part store part) (variables_of store (part_records part))

pub whole_table : (store : SeenStore) (block : List Fields) (file row : ℕ) (part : Part) (t : List (List ℕ × SeenColumn)) → IsPart block file row part
    → part.rows ≡ length part.block.now → Answers (read_of store part) (Ok t) → due_of store block file row ≡ Ok t
whole_table store block file row part t p e a =
    sym (same_block store block file row part p) ∙ answer_whole store part (Ok t) e a

-- a part that is not the whole block ends at the row before 2^40
is_cut : (block : List Fields) (file row : ℕ) (part : Part) → IsPart block file row part → part.rows ≢ length part.block.now
    → (part.rows < length part.block.now) × (part.first_row + part.rows ≡ 2 ^ 40)
is_cut block file row part p other =
    let same : length part.block.now ≡ length block = ap length p.block_is in (
      cut_rows part.rows (length part.block.now) (length block) row p.rows_are same other p.last,
      ap (λ n. n + part.rows) p.row_is ∙ cut_end part.rows (length part.block.now) (length block) row p.rows_are same other p.last,
    )
  where
    cut_rows : (rows n m row : ℕ) → rows ≡ min m (2 ^ 40 - row) → n ≡ m → rows ≢ n → row ≤ 2 ^ 40 → rows < n
    cut_rows rows n m row e s other l = omega arith

    cut_end : (rows n m row : ℕ) → rows ≡ min m (2 ^ 40 - row) → n ≡ m → rows ≢ n → row ≤ 2 ^ 40 → row + rows ≡ 2 ^ 40
    cut_end rows n m row e s other l = omega arith

pub limit_fault : (store : SeenStore) (block : List Fields) (file row : ℕ) (part : Part) (t : List (List ℕ × SeenColumn)) → IsPart block file row part
    → part.rows ≢ length part.block.now → Answers (read_of store part) (Ok t) → due_of store block file row ≡ Err (rows_fault file (2 ^ 40))
limit_fault store block file row part t p other a =
    let cut : (part.rows < length part.block.now) × (part.first_row + part.rows ≡ 2 ^ 40) = is_cut block file row part p other in
    sym (same_block store block file row part p) ∙ answer_limit store part t cut.0 cut.1 a
    ∙ ap (λ n. Err (rows_fault n (2 ^ 40))) p.file_is

pub part_fault : (store : SeenStore) (block : List Fields) (file row : ℕ) (part : Part) (fault : ReadingFault) → IsPart block file row part
    → Answers (read_of store part) (Err (Reading fault)) → due_of store block file row ≡ Err fault
part_fault store block file row part fault p a = by_test (part.rows == length part.block.now) (Decides-eqb part.rows (length part.block.now)) refl
  where
    by_test : (b : Bool) → Decides b (part.rows ≡ length part.block.now) → b ≡ (part.rows == length part.block.now) → due_of store block file row ≡ Err fault
    by_test true d e = sym (same_block store block file row part p) ∙ answer_whole store part (Err (Reading fault)) (d.0 refl) a
    by_test false d e =
        let other : part.rows ≢ length part.block.now = λ s. false≢true (d.1 s) in
        let cut : (part.rows < length part.block.now) × (part.first_row + part.rows ≡ 2 ^ 40) = is_cut block file row part p other in
        sym (same_block store block file row part p) ∙ answer_cut store part fault cut.0 cut.1 a

pub part_answer : (store : SeenStore) (block : List Fields) (file row : ℕ) (part : Part) (fault : ColumnsFault) → IsPart block file row part
    → Answers (read_of store part) (Err fault) → Answers (due_of store block file row) (Err fault)
part_answer store block file row part (Reading fault) p a = part_fault store block file row part fault p a
part_answer store block file row part Memory p a = tt

pub is_all : (a b : ℕ) → true ≡ (a == b) → a ≡ b
is_all a b e = (Decides-eqb a b).0 (sym e)

pub is_less : (a b : ℕ) → false ≡ (a == b) → a ≢ b
is_less a b e = λ s. false≢true (e ∙ (Decides-eqb a b).1 s)
