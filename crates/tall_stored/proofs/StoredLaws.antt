-- What columns of files are to a graph.
use Rattle.std.proofs.Common.{ℕ, zero, suc, ◌≡◌, ◌∙◌, ◌<◌, ◌+◌, ◌^◌, Bool, true, false, List, [], ◌∷◌, ◌++◌, length, length-append, map, get_or, Option, None, Some, Result, Ok, Err, sym, ap, refl, subst, arith}
use Rattle.std.specs.Prelude.{ℤ, if◌then◌else◌, nat_le, nat_lt, option_map, slice_get}
use Rattle.std.specs.List.{All, filter_map, flat_map, cons_option, range_with_len}
use Rattle.std.proofs.lemmas.List.{map-append}
use Rattle.std.specs.Result.{result_err, result_map_both, result_ok}
use Rattle.std.proofs.lemmas.List.Elements.{All-cons, All-nil}
use Rattle.tall_outside.specs.Shelf.{Files, file_in}
use Rattle.tall_value.specs.declared.class.Class.{Class}
use Rattle.tall_value.specs.declared.class.IntKind.{IntKind}
use Rattle.tall_value.specs.declared.class.IntKind.TheVariants.{Int8, Int16, Int32, Int64, Uint8, Uint16, Uint32, Uint64}
use Rattle.tall_value.specs.declared.class.Kind.TheVariants.{Integer}
use Rattle.tall_value.specs.declared.class.Kind.TheVariants as kind
use Rattle.tall_value.specs.Cells.{Seen, double, seen_kind, text, whole}
use Rattle.tall_value.specs.Classes.{class_of, greatest, least}
use Rattle.tall_value.specs.Columns.{cells, numbered}
use Rattle.tall_semantics.specs.Operations.{stored}
use Rattle.tall_semantics.specs.Faults.{At, Fault}
use Rattle.tall_semantics.specs.Outcomes.{Outcome, rows, scalar, fault, fault_of, cells_in}
use Rattle.tall_semantics.specs.Talls.{Columns}
use Rattle.tall_semantics.specs.Deferred.{Vertex}
use Rattle.tall_semantics.specs.Numbered.{AreReadings}
use Rattle.tall_semantics.specs.RowsOfSpaces.{AreColumns, numbers_in}
use Rattle.tall_cut.specs.Rows.{Fields}
use Rattle.tall_store.specs.declared.faults.ReadingFault.{ReadingFault}
use Rattle.tall_store.specs.Stores.{SeenStore, format_at}
use Rattle.tall_value.specs.declared.faults.ReadingKind.{ReadingKind}
use Rattle.tall_value.specs.declared.faults.ReadingKind.TheVariants.{TooManyFields, TooManyRows}
use Rattle.tall_store.specs.declared.format.Format.{Format}
use Rattle.tall_store.specs.declared.format.Format.TheVariants as format
use Rattle.tall_store.specs.Fields.{double_number, field_value, integer_number, integer_value, utf8_text}
use Rattle.tall_store.specs.Formats.{class_of_format}
use Rattle.tall_store.specs.Records.{DataRecord, data_in, numbered_records}
use Rattle.tall_store.specs.ReadingOrder.{earlier_of, first_reading_fault, precedes}
use Rattle.tall_store.specs.Walk.{WalkedFile, all_records, fault_when, records_from, walk}
use Rattle.tall_store.specs.Stored.{all_faults, cells_at, first_fault, record_faults, stored_column, unless_fault, value_at}
use Rattle.tall_store.specs.Reads.{column_faults}
use Rattle.tall_store.proofs.TableRows.{whole_height}
use Rattle.tall_stored.specs.StoredColumns.{AreStored, IsColumn, Store, column_outcome, variable_class, fault_of_reading, rows_of_store, rows_of_stores, stored_outcome}

-- ---- the first fault

fault_by : (place : ℕ) (at : At) (f : Option ReadingFault) (rs : List (ℕ × Seen)) → fault_of (stored_outcome place at (unless_fault f rs)) ≡ option_map (fault_of_reading place at) f
fault_by place at None rs = refl
fault_by place at (Some f) rs = refl

-- the fault of a column is the datastore's
column_fault : (files : Files) (place : ℕ) (d : Store) (variable : ℕ) → fault_of (column_outcome files place d variable) ≡ option_map (fault_of_reading place d.at) (first_fault d.store files)
column_fault files place d variable = fault_by place d.at (first_fault d.store files) (numbered 1 (cells_at d.store (all_records d.store files) (get_or d.store.selected variable 0)))

number_by : (place : ℕ) (at : At) (f : Option ReadingFault) (x : Fault) → option_map (fault_of_reading place at) f ≡ Some x → (x.number ≡ at.number) × (x.store ≡ place)
number_by place at None x e = absurd cc
number_by place at (Some f) x e = let g : fault_of_reading place at f ≡ x = cc in (ap (λ (y : Fault). y.number) (sym g), ap (λ (y : Fault). y.store) (sym g))

pub one_store : (d e : Store) → ◌≡◌ {A = Option Store} (Some d) (Some e) → d ≡ e
one_store d e h = cc

never_scalar : (place : ℕ) (at : At) (r : Result (List (ℕ × Seen)) ReadingFault) (x : Seen) → stored_outcome place at r ≡ scalar x → ⊥
never_scalar place at (Ok rs) x e = absurd cc
never_scalar place at (Err f) x e = absurd cc

no_fault : (place : ℕ) (at : At) (f : Option ReadingFault) → option_map (fault_of_reading place at) f ≡ None → f ≡ None
no_fault place at None e = refl
no_fault place at (Some f) e = absurd cc

-- ---- where a datastore has no fault

one_of : (b : Bool) (f g : ReadingFault) → ◌≡◌ {A = Option ReadingFault} (if b then Some g else Some f) None → ⊥
one_of true f g e = absurd cc
one_of false f g e = absurd cc

some_earlier : (f : ReadingFault) (g : Option ReadingFault) → earlier_of (Some f) g ≡ None → ⊥
some_earlier f None e = absurd cc
some_earlier f (Some g) e = one_of (precedes g f) f g e

pub none_there : (fs : List ReadingFault) → first_reading_fault fs ≡ None → fs ≡ []
none_there [] e = refl
none_there (f ∷ fs) e = absurd (some_earlier f (first_reading_fault fs) e)

pub both_empty : {A : Type 0} (xs ys : List A) → xs ++ ys ≡ [] → (xs ≡ []) × (ys ≡ [])
both_empty [] ys e = (refl, e)
both_empty (x ∷ xs) ys e = absurd cc

none_given : (a : Option ReadingFault) (fs : List ReadingFault) → cons_option a fs ≡ [] → (a ≡ None) × (fs ≡ [])
none_given None fs e = (refl, e)
none_given (Some f) fs e = absurd cc

none_at : (h : ℕ → Option ReadingFault) (xs : List ℕ) (i : ℕ) → i < length xs → filter_map h xs ≡ [] → h (get_or xs i 0) ≡ None
none_at h [] i l e = absurd (omega (arith, l))
none_at h (x ∷ xs) zero l e = (none_given (h x) (filter_map h xs) e).0
none_at h (x ∷ xs) (suc i) l e = none_at h xs i (omega (arith, l)) (none_given (h x) (filter_map h xs) e).1

abbrev faults_in : SeenStore → DataRecord → List ReadingFault
faults_in store r = filter_map (λ place. result_err (value_at store place r)) store.selected

field_none : (store : SeenStore) (r : DataRecord) → record_faults store r ≡ [] → faults_in store r ≡ []
field_none store r e =
    let rest = (both_empty (fault_when (nat_le (2 ^ 40) r.row) TooManyRows r.file r.row) (fault_when (nat_lt (length store.names) (length r.fields)) TooManyFields r.file r.row ++ faults_in store r) e).1 in
    (both_empty (fault_when (nat_lt (length store.names) (length r.fields)) TooManyFields r.file r.row) (faults_in store r) rest).1

pub column_none : (store : SeenStore) (variable : ℕ) → variable < length store.selected → (records : List DataRecord) → flat_map (record_faults store) records ≡ []
    → column_faults store records (get_or store.selected variable 0) ≡ []
column_none store variable l [] e = refl
column_none store variable l (r ∷ records) e =
    let both = both_empty (record_faults store r) (flat_map (record_faults store) records) e in
    let here : result_err (value_at store (get_or store.selected variable 0) r) ≡ None = none_at (λ place. result_err (value_at store place r)) store.selected variable l (field_none store r both.0) in
    ap (λ a. cons_option a (column_faults store records (get_or store.selected variable 0))) here ∙ column_none store variable l records both.1

-- ---- numbers of rows

cells_numbers : (n : ℕ) (cs : List Seen) → numbers_in (rows (numbered n cs)) ≡ range_with_len n (length cs)
cells_numbers n [] = refl
cells_numbers n (c ∷ cs) = ap (λ ns. n ∷ ns) (cells_numbers (n + 1) cs)

abbrev row_numbers : List DataRecord → List ℕ
row_numbers records = map (λ (r : DataRecord). r.row) records

ranges_join : (a m n : ℕ) → range_with_len a (m + n) ≡ range_with_len a m ++ range_with_len (a + m) n
ranges_join a zero n = ap (λ k. range_with_len a k) (plain n) ∙ ap (λ k. range_with_len k n) (added a)
  where
    plain : (n : ℕ) → 0 + n ≡ n
    plain n = omega arith

    added : (a : ℕ) → a ≡ a + 0
    added a = omega arith
ranges_join a (suc m) n =
    ap (λ k. range_with_len a k) (moved m n) ∙ ap (λ ns. a ∷ ns) (ranges_join (a + 1) m n ∙ ap (λ k. range_with_len (a + 1) m ++ range_with_len k n) (next a m))
  where
    moved : (m n : ℕ) → suc m + n ≡ suc (m + n)
    moved m n = omega arith

    next : (a m : ℕ) → a + 1 + m ≡ a + suc m
    next a m = omega arith

file_numbers : (file row : ℕ) (records : List Fields) → row_numbers (numbered_records file row records) ≡ range_with_len row (length records)
file_numbers file row [] = refl
file_numbers file row (fields ∷ records) = ap (λ ns. row ∷ ns) (file_numbers file (row + 1) records)

file_length : (file row : ℕ) (records : List Fields) → length (numbered_records file row records) ≡ length records
file_length file row [] = refl
file_length file row (fields ∷ records) = ap suc (file_length file (row + 1) records)

walk_numbers : (store : SeenStore) (files : Files) (file row : ℕ) (names : List (List ℕ))
    → row_numbers (records_from store files file row names) ≡ range_with_len row (length (records_from store files file row names))
walk_numbers store files file row [] = refl
walk_numbers store files file row (name ∷ names) =
    let found : List Fields = data_in store (file_in files name) in
    let here : List DataRecord = numbered_records file row found in
    let rest : List DataRecord = records_from store files (file + 1) (row + length found) names in
    map-append (λ (r : DataRecord). r.row) here rest
    ∙ ap (λ ns. ns ++ row_numbers rest) (file_numbers file row found)
    ∙ ap (λ ns. range_with_len row (length found) ++ ns) (walk_numbers store files (file + 1) (row + length found) names)
    ∙ sym (ap (λ n. range_with_len row n) (length-append here rest ∙ ap (λ n. n + length rest) (file_length file row found)) ∙ ranges_join row (length found) (length rest))

column_numbers : (store : SeenStore) (files : Files) (variable : ℕ) → variable < length store.selected → first_fault store files ≡ None
    → numbers_in (rows (numbered 1 (cells_at store (all_records store files) (get_or store.selected variable 0)))) ≡ row_numbers (all_records store files)
column_numbers store files variable l none =
    let records : List DataRecord = all_records store files in
    let empty = (both_empty (flat_map (λ (f : WalkedFile). f.faults) (walk store files)) (flat_map (record_faults store) records) (none_there (all_faults store files) none)).1 in
    let height : length (cells_at store records (get_or store.selected variable 0)) ≡ length records = whole_height store records (get_or store.selected variable 0) (column_none store variable l records empty) in
    cells_numbers 1 (cells_at store records (get_or store.selected variable 0)) ∙ ap (λ n. range_with_len 1 n) height ∙ sym (walk_numbers store files 0 1 store.files)

-- ---- classes

whole_kind : (k : IntKind) (r : Result ℤ ReadingKind) (c : Seen) → result_map_both (λ n. whole k n) (λ e. e) r ≡ Ok c → seen_kind c ≡ Integer k
whole_kind k (Ok n) c e = let g : whole k n ≡ c = cc in ap seen_kind (sym g)
whole_kind k (Err f) c e = absurd cc

double_kind : (r : Result (Option ℤ) ReadingKind) (c : Seen) → result_map_both (λ d. double d) (λ e. e) r ≡ Ok c → seen_kind c ≡ kind.Double
double_kind (Ok d) c e = let g : double d ≡ c = cc in ap seen_kind (sym g)
double_kind (Err f) c e = absurd cc

text_kind : (r : Result (List ℕ) ReadingKind) (c : Seen) → result_map_both (λ t. text t) (λ e. e) r ≡ Ok c → seen_kind c ≡ kind.Text
text_kind (Ok t) c e = let g : text t ≡ c = cc in ap seen_kind (sym g)
text_kind (Err f) c e = absurd cc

integer_class : (k : IntKind) (missing : List (List ℕ)) (bytes : List ℕ) (c : Seen) → integer_value k missing bytes ≡ Ok c → class_of (seen_kind c) ≡ class_of (Integer k)
integer_class k missing bytes c e = ap class_of (whole_kind k (integer_number (least k) (greatest k) missing bytes) c e)

-- a field has the class of its format
field_class : (f : Format) (missing : List (List ℕ)) (bytes : List ℕ) (c : Seen) → field_value f missing bytes ≡ Ok c → class_of (seen_kind c) ≡ class_of_format f
field_class format.Int8 missing bytes c e = integer_class Int8 missing bytes c e
field_class format.Int16 missing bytes c e = integer_class Int16 missing bytes c e
field_class format.Int32 missing bytes c e = integer_class Int32 missing bytes c e
field_class format.Int64 missing bytes c e = integer_class Int64 missing bytes c e
field_class format.Uint8 missing bytes c e = integer_class Uint8 missing bytes c e
field_class format.Uint16 missing bytes c e = integer_class Uint16 missing bytes c e
field_class format.Uint32 missing bytes c e = integer_class Uint32 missing bytes c e
field_class format.Uint64 missing bytes c e = integer_class Uint64 missing bytes c e
field_class format.Double missing bytes c e = ap class_of (double_kind (double_number missing bytes) c e)
field_class format.Text missing bytes c e = ap class_of (text_kind (utf8_text bytes) c e)

value_of_field : (v : Result Seen ReadingKind) (g : ReadingKind → ReadingFault) (c : Seen) → result_map_both (λ (cell : Seen). cell) g v ≡ Ok c → v ≡ Ok c
value_of_field (Ok d) g c e = let same : d ≡ c = cc in ap Ok same
value_of_field (Err f) g c e = absurd cc

with_cell : (k : Class) (v : Result Seen ReadingFault) (cs : List Seen) → ((c : Seen) → v ≡ Ok c → class_of (seen_kind c) ≡ k) → All (λ c. class_of (seen_kind c) ≡ k) cs
    → All (λ c. class_of (seen_kind c) ≡ k) (cons_option (result_ok v) cs)
with_cell k (Ok c) cs h all = All-cons (λ (d : Seen). class_of (seen_kind d) ≡ k) c cs (h c refl) all
with_cell k (Err f) cs h all = all

cells_class : (store : SeenStore) (place : ℕ) (records : List DataRecord) → All (λ c. class_of (seen_kind c) ≡ class_of_format (format_at store place)) (cells_at store records place)
cells_class store place [] = All-nil (λ (c : Seen). class_of (seen_kind c) ≡ class_of_format (format_at store place))
cells_class store place (r ∷ records) =
    let fields : List ℕ = get_or r.fields place [] in
    with_cell (class_of_format (format_at store place)) (value_at store place r) (cells_at store records place)
    (λ c e. field_class (format_at store place) store.missing fields c
    (value_of_field (field_value (format_at store place) store.missing fields) (λ kind. record { kind = kind; file = r.file; row = r.row; column = place + 1 }) c e))
    (cells_class store place records)

pub cells-numbered : (n : ℕ) (cs : List Seen) → cells (numbered n cs) ≡ cs
cells-numbered n [] = refl
cells-numbered n (c ∷ cs) = ap (λ rest. c ∷ rest) (cells-numbered (n + 1) cs)

outcome_class : (place : ℕ) (at : At) (k : Class) (f : Option ReadingFault) (cs : List Seen) → All (λ c. class_of (seen_kind c) ≡ k) cs
    → All (λ c. class_of (seen_kind c) ≡ k) (cells_in (stored_outcome place at (unless_fault f (numbered 1 cs))))
outcome_class place at k None cs all = subst (λ (ds : List Seen). All (λ c. class_of (seen_kind c) ≡ k) ds) (sym (cells-numbered 1 cs)) all
outcome_class place at k (Some f) cs all = All-nil (λ (c : Seen). class_of (seen_kind c) ≡ k)

module _ (files : Files) (stores : List Store) (vs : List Vertex) (columns : Columns) (are : AreStored files stores vs columns) where
  fault_here : (i : ℕ) (v : Vertex) (place variable : ℕ) (class : Class) (h : slice_get vs i ≡ Some v) (m : v.made ≡ stored place variable class)
      → fault_of (columns place variable) ≡ option_map (fault_of_reading place (are i v place variable class h m).found.at) (first_fault (are i v place variable class h m).found.store files)
  fault_here i v place variable class h m = let c = are i v place variable class h m in ap fault_of c.told ∙ column_fault files place c.found variable

  pub are_readings : AreReadings columns vs
  are_readings = record {
    first = λ i j v w place variable other class class' h g m n.
        let c = are i v place variable class h m in
        let d = are j w place other class' g n in
        let same : c.found ≡ d.found = one_store c.found d.found (sym c.there ∙ d.there) in
        fault_here i v place variable class h m ∙ ap (λ (e : Store). option_map (fault_of_reading place e.at) (first_fault e.store files)) same ∙ sym (fault_here j w place other class' g n);
    called = λ i v place variable class x h m e.
        let c = are i v place variable class h m in
        let u = number_by place c.found.at (first_fault c.found.store files) x (sym (fault_here i v place variable class h m) ∙ e) in
        (u.0 ∙ ap (λ (a : At). a.number) (sym c.called), u.1);
  }

  pub no_scalar : (i : ℕ) (v : Vertex) (place variable : ℕ) (class : Class) (x : Seen) → slice_get vs i ≡ Some v → v.made ≡ stored place variable class → columns place variable ≡ scalar x → ⊥
  no_scalar i v place variable class x h m e =
      let c = are i v place variable class h m in
      never_scalar place c.found.at (stored_column c.found.store files variable) x (sym c.told ∙ e)

  pub same_rows : (i : ℕ) (v : Vertex) (place variable : ℕ) (class : Class) → slice_get vs i ≡ Some v → v.made ≡ stored place variable class → fault_of (columns place variable) ≡ None
      → numbers_in (columns place variable) ≡ rows_of_stores files stores place
  same_rows i v place variable class h m e =
      let c = are i v place variable class h m in
      let none : first_fault c.found.store files ≡ None = no_fault place c.found.at (first_fault c.found.store files) (sym (fault_here i v place variable class h m) ∙ e) in
      ap numbers_in c.told
      ∙ ap (λ f. numbers_in (stored_outcome place c.found.at (unless_fault f (numbered 1 (cells_at c.found.store (all_records c.found.store files) (get_or c.found.store.selected variable 0)))))) none
      ∙ column_numbers c.found.store files variable c.selected none
      ∙ sym (ap (rows_of_store files) c.there)

  -- for the clause on classes of `AreColumns`
  pub have_classes : (i : ℕ) (v : Vertex) (place variable : ℕ) (class : Class) → slice_get vs i ≡ Some v → v.made ≡ stored place variable class
      → All (λ c. class_of (seen_kind c) ≡ class) (cells_in (columns place variable))
  have_classes i v place variable class h m =
      let c = are i v place variable class h m in
      let variable_place : ℕ = get_or c.found.store.selected variable 0 in
      let records : List DataRecord = all_records c.found.store files in
      subst (λ (k : Class). All (λ d. class_of (seen_kind d) ≡ k) (cells_in (columns place variable))) (sym c.kind)
      (subst (λ (x : Outcome). All (λ d. class_of (seen_kind d) ≡ variable_class c.found.store variable) (cells_in x)) (sym c.told)
      (outcome_class place c.found.at (variable_class c.found.store variable) (first_fault c.found.store files) (cells_at c.found.store records variable_place) (cells_class c.found.store variable_place records)))

  pub are_columns : AreColumns columns (rows_of_stores files stores) vs
  are_columns = record {
    no_scalar = no_scalar;
    same_rows = same_rows;
    classes = have_classes;
  }
