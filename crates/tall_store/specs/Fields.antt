-- The value of a field in a format: docs/LANGUAGE.md, "Formats". A missing field is looked at first.
use Rattle.std.specs.Prelude.{ℕ, ℤ, pos, ◌||◌, Bool, if◌then◌else◌, List, Option, Some, None, Result, Ok, Err}
use Rattle.std.specs.List.{list_any}
use Rattle.std.specs.Str.{bytes_eq, is_utf8}
use Rattle.std.specs.Result.{result_map_both}
use Rattle.tall_int.specs.declared.faults.WholeFault.{WholeFault}
use Rattle.tall_int.specs.declared.faults.WholeFault.TheVariants as whole_fault
use Rattle.tall_num.specs.Spelling.{Spelling, is_empty, spells, trimmed}
use Rattle.tall_num.specs.Values.{class_value, whole_value}
use Rattle.tall_value.specs.declared.class.IntKind.{IntKind}
use Rattle.tall_value.specs.declared.class.IntKind.TheVariants as kind
use Rattle.tall_value.specs.Classes.{least, greatest}
use Rattle.tall_value.specs.Cells.{Seen, whole, double, text}
use Rattle.tall_value.specs.declared.faults.ReadingKind.{ReadingKind}
use Rattle.tall_value.specs.declared.faults.ReadingKind.TheVariants.{BadField, BadText, NotWhole, Inexact}
use Rattle.tall_store.specs.declared.format.Format.{Format}
use Rattle.tall_store.specs.declared.format.Format.TheVariants.{Int8, Int16, Int32, Int64, Uint8, Uint16, Uint32, Uint64, Double, Text}

-- without the blanks at its ends, the field is empty or one of the spellings of TreatAsMissing, byte for byte
abbrev pub is_missing : List (List ℕ) → List ℕ → Bool
is_missing missing bytes = is_empty (trimmed bytes) || list_any (λ spelling. bytes_eq spelling (trimmed bytes)) missing

-- ---- integer formats: the nearest number of the class from `low` to `high`, and 0 for a missing field

abbrev pub spelled_integer : ℤ → ℤ → Option Spelling → Result ℤ ReadingKind
spelled_integer low high None = Err BadField
spelled_integer low high (Some spelling) = Ok (class_value low high spelling)

abbrev pub integer_number : ℤ → ℤ → List (List ℕ) → List ℕ → Result ℤ ReadingKind
integer_number low high missing bytes = if is_missing missing bytes then Ok (pos 0) else spelled_integer low high (spells bytes)

abbrev pub integer_value : IntKind → List (List ℕ) → List ℕ → Result Seen ReadingKind
integer_value k missing bytes = result_map_both (λ n. whole k n) (λ e. e) (integer_number (least k) (greatest k) missing bytes)

-- ---- %f: a whole number of magnitude at most 2^53, or NaN, which a missing field is too

abbrev pub number_fault : WholeFault → ReadingKind
number_fault whole_fault.Inexact = Inexact
number_fault whole_fault.NotWhole = NotWhole

abbrev pub spelled_double : Option Spelling → Result (Option ℤ) ReadingKind
spelled_double None = Err BadField
spelled_double (Some spelling) = result_map_both (λ d. d) number_fault (whole_value spelling)

abbrev pub double_number : List (List ℕ) → List ℕ → Result (Option ℤ) ReadingKind
double_number missing bytes = if is_missing missing bytes then Ok None else spelled_double (spells bytes)

abbrev pub double_value : List (List ℕ) → List ℕ → Result Seen ReadingKind
double_value missing bytes = result_map_both (λ d. double d) (λ e. e) (double_number missing bytes)

-- ---- %q: the bytes as they are, in UTF-8

abbrev pub utf8_text : List ℕ → Result (List ℕ) ReadingKind
utf8_text bytes = if is_utf8 bytes then Ok bytes else Err BadText

abbrev pub text_value : List ℕ → Result Seen ReadingKind
text_value bytes = result_map_both (λ t. text t) (λ e. e) (utf8_text bytes)

-- ---- all formats

abbrev pub field_value : Format → List (List ℕ) → List ℕ → Result Seen ReadingKind
field_value Int8 missing bytes = integer_value kind.Int8 missing bytes
field_value Int16 missing bytes = integer_value kind.Int16 missing bytes
field_value Int32 missing bytes = integer_value kind.Int32 missing bytes
field_value Int64 missing bytes = integer_value kind.Int64 missing bytes
field_value Uint8 missing bytes = integer_value kind.Uint8 missing bytes
field_value Uint16 missing bytes = integer_value kind.Uint16 missing bytes
field_value Uint32 missing bytes = integer_value kind.Uint32 missing bytes
field_value Uint64 missing bytes = integer_value kind.Uint64 missing bytes
field_value Double missing bytes = double_value missing bytes
field_value Text missing bytes = text_value bytes
