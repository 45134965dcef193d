-- What the faults of a gather and of reading are called: with the names of files and of variables, and the line of the
-- datastore's call or of the failing expression. docs/LANGUAGE.md, fault lines.
use Rattle.std.specs.Prelude.{ℕ, ◌-◌, List, [], slice_get, get_or, Option, None, Some}
use Rattle.tall_semantics.specs.Faults.{Cause, computed, reading, Fault}
use Rattle.tall_store.specs.declared.faults.ReadingFault.{ReadingFault}
use Rattle.tall_value.specs.declared.faults.ReadingKind.{ReadingKind}
use Rattle.tall_value.specs.declared.faults.ReadingKind.TheVariants as kind
use Rattle.tall_store.specs.Stores.{SeenStore, name_at}
use Rattle.tall_local.specs.Refusals.{Refusal, bad_argument, bad_class, failed, Stop, stop_at}
use Rattle.tall_local.specs.Refusals as refusal
use Rattle.tall_script.specs.States.{Store}

-- by the file's place in the list, the row, and the variable's place in the file from 1
abbrev pub reading_refusal : SeenStore → ReadingKind → (file row column : ℕ) → Refusal
reading_refusal store kind.NoFile file row column = refusal.no_file (get_or store.files file [])
reading_refusal store kind.HeaderDiffers file row column = refusal.header_differs (get_or store.files file [])
reading_refusal store kind.TooManyRows file row column = refusal.too_many_rows
reading_refusal store kind.TooManyFields file row column = refusal.too_many_fields row
reading_refusal store kind.BadField file row column = refusal.bad_field row (name_at store (column - 1))
reading_refusal store kind.BadText file row column = refusal.bad_text row (name_at store (column - 1))
reading_refusal store kind.NotWhole file row column = refusal.field_not_whole row (name_at store (column - 1))
reading_refusal store kind.Inexact file row column = refusal.field_inexact row (name_at store (column - 1))

abbrev pub stop_of_reading : Store → ReadingFault → Stop
stop_of_reading d f = stop_at d.at.line (reading_refusal d.store f.kind f.file f.row f.column)

-- ---- faults of a gather

-- of a datastore that there is
abbrev pub reading_in : Option Store → ReadingKind → (file : ℕ) → Fault → Refusal
reading_in (Some d) k file f = reading_refusal d.store k file (elim f.row [ Some row ↦ row | None ↦ 0 ]) f.column
reading_in None k file f = bad_argument

abbrev pub refusal_of_cause : List Store → Cause → Fault → Refusal
refusal_of_cause stores (computed k) f = failed f.row k
refusal_of_cause stores (reading k file) f = reading_in (slice_get stores f.store) k file f

abbrev pub stop_of_fault : List Store → Fault → Stop
stop_of_fault stores f = stop_at f.line (refusal_of_cause stores f.cause f)
