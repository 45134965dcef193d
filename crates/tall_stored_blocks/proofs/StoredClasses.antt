-- The cells of stored columns are within their class.
use Rattle.std.proofs.Common.{ℕ, ◌≡◌, ◌+◌, Bool, true, false, List, [], ◌∷◌, get_or, Option, None, Some, Result, Ok, Err, sym, ap, subst, refl}
use Rattle.std.specs.Prelude.{pos, ℤ, if◌then◌else◌, slice_get}
use Rattle.std.specs.List.{All, cons_option}
use Rattle.std.specs.Result.{result_map_both, result_ok}
use Rattle.std.proofs.lemmas.List.Elements.{All-nil, All-cons}
use Rattle.tall_num.specs.Spelling.{Spelling, nan, infinity, decimal, spells}
use Rattle.tall_num.specs.Values.{class_value}
use Rattle.tall_outside.specs.Shelf.{Files}
use Rattle.tall_value.specs.declared.class.Class.{Class}
use Rattle.tall_value.specs.declared.class.IntKind.{IntKind}
use Rattle.tall_value.specs.declared.class.IntKind.TheVariants as kind
use Rattle.tall_value.specs.declared.faults.ReadingKind.{ReadingKind}
use Rattle.tall_value.specs.declared.faults.ReadingKind.TheVariants.{BadField}
use Rattle.tall_value.specs.Cells.{Seen, whole, double, text}
use Rattle.tall_value.specs.Classes.{kind_of, least, greatest}
use Rattle.tall_value.specs.Columns.{cells, numbered}
use Rattle.tall_semantics.specs.Deferred.{Vertex}
use Rattle.tall_semantics.specs.Faults.{At}
use Rattle.tall_semantics.specs.Operations.{stored}
use Rattle.tall_semantics.specs.Outcomes.{Outcome, cells_in}
use Rattle.tall_semantics.specs.Talls.{Columns}
use Rattle.tall_semantics.proofs.ClassLaws.{from_class}
use Rattle.tall_blocks.specs.Blocks.{AreInTheirClasses}
use Rattle.tall_blocks.proofs.InClassLaws.{all_class}
use Rattle.tall_blocks.proofs.RangeLaws.{InRange, ends, ends_in_range, nearest_in_range}
use Rattle.tall_store.specs.declared.faults.ReadingFault.{ReadingFault}
use Rattle.tall_store.specs.declared.format.Format.{Format}
use Rattle.tall_store.specs.declared.format.Format.TheVariants as format
use Rattle.tall_store.specs.Fields.{is_missing, spelled_integer, integer_number, integer_value, double_number, double_value, utf8_text, text_value, field_value}
use Rattle.tall_store.specs.Records.{DataRecord}
use Rattle.tall_store.specs.Stored.{all_faults, cells_at, first_fault, unless_fault, value_at}
use Rattle.tall_store.specs.Stores.{SeenStore, format_at}
use Rattle.tall_store.specs.Walk.{all_records}
use Rattle.tall_stored.specs.StoredColumns.{AreStored, Store, stored_outcome}
use Rattle.tall_stored.proofs.StoredLaws.{cells-numbered, have_classes}

abbrev FieldInRange : {E : Type 0} → Result Seen E → Type 0
FieldInRange (Ok c) = InRange c
FieldInRange (Err e) = Unit {0}

-- ---- fields

spelled_in : (k : IntKind) (s : Spelling) → InRange (whole k (class_value (least k) (greatest k) s))
spelled_in k nan = ends k
spelled_in k (infinity true) = (ends_in_range k).0
spelled_in k (infinity false) = (ends_in_range k).1
spelled_in k (decimal negative m e) = nearest_in_range k _

abbrev as_whole : IntKind → Result ℤ ReadingKind → Result Seen ReadingKind
as_whole k r = result_map_both (λ n. whole k n) (λ e. e) r

integer_in : (k : IntKind) (missing : List (List ℕ)) (bytes : List ℕ) → FieldInRange (integer_value k missing bytes)
integer_in k missing bytes = by_field (is_missing missing bytes) (spells bytes) where
  by_field : (b : Bool) (s : Option Spelling) → FieldInRange (as_whole k (if b then Ok (pos 0) else spelled_integer (least k) (greatest k) s))
  by_field true s = ends k
  by_field false None = tt
  by_field false (Some s) = spelled_in k s

double_in : (r : Result (Option ℤ) ReadingKind) → FieldInRange {E = ReadingKind} (result_map_both (λ d. double d) (λ e. e) r)
double_in (Ok d) = tt
double_in (Err e) = tt

text_in : (r : Result (List ℕ) ReadingKind) → FieldInRange {E = ReadingKind} (result_map_both (λ t. text t) (λ e. e) r)
text_in (Ok t) = tt
text_in (Err e) = tt

field_in : (f : Format) (missing : List (List ℕ)) (bytes : List ℕ) → FieldInRange (field_value f missing bytes)
field_in format.Int8 missing bytes = integer_in kind.Int8 missing bytes
field_in format.Int16 missing bytes = integer_in kind.Int16 missing bytes
field_in format.Int32 missing bytes = integer_in kind.Int32 missing bytes
field_in format.Int64 missing bytes = integer_in kind.Int64 missing bytes
field_in format.Uint8 missing bytes = integer_in kind.Uint8 missing bytes
field_in format.Uint16 missing bytes = integer_in kind.Uint16 missing bytes
field_in format.Uint32 missing bytes = integer_in kind.Uint32 missing bytes
field_in format.Uint64 missing bytes = integer_in kind.Uint64 missing bytes
field_in format.Double missing bytes = double_in (double_number missing bytes)
field_in format.Text missing bytes = text_in (utf8_text bytes)

-- ---- columns

with_cell : (r : Result Seen ReadingKind) (g : ReadingKind → ReadingFault) (cs : List Seen) → FieldInRange r → All InRange cs → All InRange (cons_option (result_ok (result_map_both (λ (c : Seen). c) g r)) cs)
with_cell (Ok c) g cs h all = All-cons InRange c cs h all
with_cell (Err e) g cs h all = all

cells_in_range : (store : SeenStore) (place : ℕ) (records : List DataRecord) → All InRange (cells_at store records place)
cells_in_range store place [] = All-nil InRange
cells_in_range store place (r ∷ records) =
    let fields : List ℕ = get_or r.fields place [] in
    with_cell (field_value (format_at store place) store.missing fields) (λ kind. record { kind = kind; file = r.file; row = r.row; column = place + 1 }) (cells_at store records place)
    (field_in (format_at store place) store.missing fields) (cells_in_range store place records)

outcome_in : (place : ℕ) (at : At) (f : Option ReadingFault) (cs : List Seen) → All InRange cs → All InRange (cells_in (stored_outcome place at (unless_fault f (numbered 1 cs))))
outcome_in place at None cs all = subst (All InRange) (sym (cells-numbered 1 cs)) all
outcome_in place at (Some f) cs all = All-nil InRange

pub stored_in_class : (files : Files) (stores : List Store) (vs : List Vertex) (columns : Columns) → AreStored files stores vs columns → AreInTheirClasses columns vs
stored_in_class files stores vs columns are i v place variable class h m =
    let c = are i v place variable class h m in
    let records : List DataRecord = all_records c.found.store files in
    let ranges = subst (λ (x : Outcome). All InRange (cells_in x)) (sym c.told)
    (outcome_in place c.found.at (first_fault c.found.store files) (cells_at c.found.store records (get_or c.found.store.selected variable 0)) (cells_in_range c.found.store (get_or c.found.store.selected variable 0) records)) in
    all_class (kind_of class) (cells_in (columns place variable)) (from_class class (cells_in (columns place variable)) (have_classes files stores vs columns are i v place variable class h m)) ranges
