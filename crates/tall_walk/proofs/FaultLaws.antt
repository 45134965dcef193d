-- The reading faults of a block: their file, kind and column.
use Rattle.std.proofs.Common.{ℕ, ◌≡◌, ◌∙◌, ◌<◌, ◌≤◌, ◌+◌, ◌^◌, List, [], ◌∷◌, ◌++◌, Bool, true, false, Ok, Err, Result, sym, ap, subst, refl, arith, length, get_or, leb, ltb}
use Rattle.std.specs.Prelude.{ℤ, pos, if◌then◌else◌, Option, Some, None, IfSome}
use Rattle.std.specs.List.{All, filter_map, flat_map, cons_option}
use Rattle.std.specs.Result.{result_err, result_map_both}
use Rattle.std.specs.Str.{is_utf8}
use Rattle.std.proofs.lemmas.List.Elements.{All-head, All-tail}
use Rattle.tall_int.specs.declared.faults.WholeFault.{WholeFault}
use Rattle.tall_int.specs.declared.faults.WholeFault.TheVariants as whole_fault
use Rattle.tall_num.specs.Spelling.{Spelling, spells}
use Rattle.tall_num.specs.Values.{whole_value}
use Rattle.tall_value.specs.declared.class.IntKind.{IntKind}
use Rattle.tall_value.specs.declared.class.IntKind.TheVariants as kind
use Rattle.tall_value.specs.Classes.{least, greatest}
use Rattle.tall_value.specs.Cells.{Seen, whole, double, text}
use Rattle.tall_value.specs.declared.faults.ReadingKind.{ReadingKind}
use Rattle.tall_value.specs.declared.faults.ReadingKind.TheVariants.{NoFile, HeaderDiffers, TooManyRows, TooManyFields, BadField, BadText, NotWhole, Inexact}
use Rattle.tall_store.specs.declared.faults.ReadingFault.{ReadingFault}
use Rattle.tall_store.specs.declared.format.Format.{Format}
use Rattle.tall_store.specs.declared.format.Format.TheVariants as format
use Rattle.tall_store.specs.Fields.{field_value, is_missing, number_fault, spelled_double, spelled_integer, utf8_text}
use Rattle.tall_store.specs.Stores.{IsStore, SeenStore, format_at}
use Rattle.tall_store.specs.Records.{DataRecord, numbered_records}
use Rattle.tall_store.specs.ReadingOrder.{first_reading_fault}
use Rattle.tall_store.specs.Stored.{record_faults, value_at}
use Rattle.tall_store.specs.Walk.{fault_when}
use Rattle.tall_store.specs.Blocks.{Block, first_block_fault}
use Rattle.tall_cut.specs.Rows.{Fields}
use Rattle.tall_store.proofs.Prefixes.{Each, each_append, first_holds}
use Rattle.tall_walk.specs.Placed.{IsColumn}

-- a kind of fault of a file that is there
abbrev pub IsThere : ReadingKind → Type 0
IsThere NoFile = ⊥
IsThere k = Unit {0}

abbrev ErrIsThere : Result Seen ReadingKind → Type 0
ErrIsThere (Ok c) = Unit {0}
ErrIsThere (Err k) = IsThere k

-- ---- fields

integer_kinds : (k : IntKind) (missing : List (List ℕ)) (bytes : List ℕ)
    → ErrIsThere (result_map_both (λ n. whole k n) (λ e. e) (if is_missing missing bytes then Ok (pos 0) else spelled_integer (least k) (greatest k) (spells bytes)))
integer_kinds k missing bytes = by_field (is_missing missing bytes) (spells bytes)
  where
    by_field : (b : Bool) (s : Option Spelling) → ErrIsThere (result_map_both (λ n. whole k n) (λ e. e) (if b then Ok (pos 0) else spelled_integer (least k) (greatest k) s))
    by_field true s = tt
    by_field false None = tt
    by_field false (Some s) = tt

double_kinds : (missing : List (List ℕ)) (bytes : List ℕ)
    → ErrIsThere (result_map_both (λ d. double d) (λ e. e) (if is_missing missing bytes then Ok None else spelled_double (spells bytes)))
double_kinds missing bytes = by_field (is_missing missing bytes) (spells bytes)
  where
    by_value : (v : Result (Option ℤ) WholeFault) → ErrIsThere (result_map_both (λ d. double d) (λ e. e) (result_map_both (λ d. d) number_fault v))
    by_value (Ok d) = tt
    by_value (Err whole_fault.Inexact) = tt
    by_value (Err whole_fault.NotWhole) = tt

    by_field : (b : Bool) (s : Option Spelling) → ErrIsThere (result_map_both (λ d. double d) (λ e. e) (if b then Ok None else spelled_double s))
    by_field true s = tt
    by_field false None = tt
    by_field false (Some s) = by_value (whole_value s)

text_kinds : (bytes : List ℕ) → ErrIsThere (result_map_both (λ t. text t) (λ e. e) (utf8_text bytes))
text_kinds bytes = by_test (is_utf8 bytes)
  where
    by_test : (b : Bool) → ErrIsThere (result_map_both (λ t. text t) (λ e. e) (if b then Ok bytes else Err BadText))
    by_test true = tt
    by_test false = tt

field_kinds : (f : Format) (missing : List (List ℕ)) (bytes : List ℕ) → ErrIsThere (field_value f missing bytes)
field_kinds format.Int8 missing bytes = integer_kinds kind.Int8 missing bytes
field_kinds format.Int16 missing bytes = integer_kinds kind.Int16 missing bytes
field_kinds format.Int32 missing bytes = integer_kinds kind.Int32 missing bytes
field_kinds format.Int64 missing bytes = integer_kinds kind.Int64 missing bytes
field_kinds format.Uint8 missing bytes = integer_kinds kind.Uint8 missing bytes
field_kinds format.Uint16 missing bytes = integer_kinds kind.Uint16 missing bytes
field_kinds format.Uint32 missing bytes = integer_kinds kind.Uint32 missing bytes
field_kinds format.Uint64 missing bytes = integer_kinds kind.Uint64 missing bytes
field_kinds format.Double missing bytes = double_kinds missing bytes
field_kinds format.Text missing bytes = text_kinds bytes

-- ---- records

-- a fault of data: in this file, which is there, and of a variable
pub record IsOfData (names file : ℕ) (g : ReadingFault) : Type 0 where
  pub file_is : g.file ≡ file
  pub there : IsThere g.kind
  pub column : IsColumn g.kind names g.column

column_at : (k : ReadingKind) (names place : ℕ) → place < names → IsColumn k names (place + 1)
column_at NoFile names place l = tt
column_at HeaderDiffers names place l = tt
column_at TooManyRows names place l = tt
column_at TooManyFields names place l = tt
column_at BadField names place l = (omega arith, omega (arith, l))
column_at BadText names place l = (omega arith, omega (arith, l))
column_at NotWhole names place l = (omega arith, omega (arith, l))
column_at Inexact names place l = (omega arith, omega (arith, l))

value_faults : (names : ℕ) (r : DataRecord) (place : ℕ) (v : Result Seen ReadingKind) (rest : List ReadingFault) → place < names → ErrIsThere v → Each (IsOfData names r.file) rest
    → Each (IsOfData names r.file) (cons_option (result_err (result_map_both (λ (cell : Seen). cell) (λ kind. record { kind = kind; file = r.file; row = r.row; column = place + 1 }) v)) rest)
value_faults names r place (Ok cell) rest l k e = e
value_faults names r place (Err kind) rest l k e = (record { file_is = refl; there = k; column = column_at kind names place l }, e)

values_faults : (store : SeenStore) (r : DataRecord) (places : List ℕ) → All (λ place. place < length store.names) places
    → Each (IsOfData (length store.names) r.file) (filter_map (λ place. result_err (value_at store place r)) places)
values_faults store r [] l = tt
values_faults store r (place ∷ places) l =
    value_faults (length store.names) r place (field_value (format_at store place) store.missing (get_or r.fields place []))
    (filter_map (λ p. result_err (value_at store p r)) places) (All-head (λ p. p < length store.names) place places l) (field_kinds (format_at store place) store.missing (get_or r.fields place []))
    (values_faults store r places (All-tail (λ p. p < length store.names) place places l))

when_faults : (b : Bool) (k : ReadingKind) (names file row : ℕ) → IsThere k → IsColumn k names 0 → Each (IsOfData names file) (fault_when b k file row)
when_faults true k names file row t c = (record { file_is = refl; there = t; column = c }, tt)
when_faults false k names file row t c = tt

record_faults_of : (store : SeenStore) (r : DataRecord) → All (λ place. place < length store.names) store.selected → Each (IsOfData (length store.names) r.file) (record_faults store r)
record_faults_of store r l =
    let P : ReadingFault → Type 0 = IsOfData (length store.names) r.file in
    each_append P (fault_when (leb (2 ^ 40) r.row) TooManyRows r.file r.row)
    (fault_when (ltb (length store.names) (length r.fields)) TooManyFields r.file r.row ++ filter_map (λ place. result_err (value_at store place r)) store.selected)
    (when_faults (leb (2 ^ 40) r.row) TooManyRows (length store.names) r.file r.row tt tt)
    (each_append P (fault_when (ltb (length store.names) (length r.fields)) TooManyFields r.file r.row)
    (filter_map (λ place. result_err (value_at store place r)) store.selected)
    (when_faults (ltb (length store.names) (length r.fields)) TooManyFields (length store.names) r.file r.row tt tt) (values_faults store r store.selected l))

records_faults_of : (store : SeenStore) (file row : ℕ) (records : List Fields) → All (λ place. place < length store.names) store.selected
    → Each (IsOfData (length store.names) file) (flat_map (record_faults store) (numbered_records file row records))
records_faults_of store file row [] l = tt
records_faults_of store file row (fields ∷ records) l =
    each_append (IsOfData (length store.names) file) (record_faults store (record { file = file; row = row; fields = fields })) (flat_map (record_faults store) (numbered_records file (row + 1) records))
    (record_faults_of store (record { file = file; row = row; fields = fields }) l) (records_faults_of store file (row + 1) records l)

-- ---- blocks

pub block_fault : (store : SeenStore) (b : Block) → IsStore store → IfSome (first_block_fault store b) (IsOfData (length store.names) b.file)
block_fault store b is =
    first_holds (IsOfData (length store.names) b.file) (flat_map (record_faults store) (numbered_records b.file b.row b.records)) (records_faults_of store b.file b.row b.records is.places)
