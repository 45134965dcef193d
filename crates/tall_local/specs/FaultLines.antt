-- The text of each fault. docs/LANGUAGE.md, fault lines.
use Rattle.std.specs.Prelude.{ℕ, List, [], ◌++◌, Option, None, Some, codes}
use Rattle.std.specs.Fmt.{decimal}
use Rattle.tall_value.specs.declared.faults.FaultKind.{FaultKind}
use Rattle.tall_value.specs.declared.faults.FaultKind.TheVariants.{Inexact, NotWhole, NanLogical, NoRows}
use Rattle.tall_local.specs.Refusals.{Refusal, undefined, mixed_class, bad_class, incompatible, bad_size, bad_argument, bad_index, failed, no_file, no_header, header_differs, too_many_rows, too_many_fields, bad_field, bad_text, field_not_whole, field_inexact, no_value_left, no_progress, too_many_turns, bad_key, bad_value, Stop}

abbrev pub row_text : ℕ → List ℕ
row_text row = codes "row " ++ decimal row ++ codes ": "

abbrev pub at_row : Option ℕ → List ℕ
at_row None = []
at_row (Some row) = row_text row

abbrev pub kind_text : FaultKind → List ℕ
kind_text Inexact = codes "result above 2^53"
kind_text NotWhole = codes "result is not a whole number"
kind_text NanLogical = codes "NaN has no logical value"
kind_text NoRows = codes "no rows"

abbrev pub of_field : ℕ → List ℕ → List ℕ → List ℕ
of_field row variable what = row_text row ++ codes "variable " ++ variable ++ codes ": " ++ what

unfoldable pub refusal_text : Refusal → List ℕ
refusal_text (undefined name) = codes "undefined " ++ name
refusal_text mixed_class = codes "Integers can only be combined with integers of the same class, or scalar doubles."
refusal_text bad_class = codes "class not accepted"
refusal_text incompatible = codes "tall arrays of different rows"
refusal_text bad_size = codes "sizes differ"
refusal_text bad_argument = codes "argument not accepted"
refusal_text bad_index = codes "index out of range"
refusal_text (failed row kind) = at_row row ++ kind_text kind
refusal_text (no_file name) = codes "no file " ++ name
refusal_text (no_header name) = codes "no header in " ++ name
refusal_text (header_differs name) = codes "header differs in " ++ name
refusal_text too_many_rows = codes "too many rows"
refusal_text (too_many_fields row) = row_text row ++ codes "too many fields"
refusal_text (bad_field row variable) = of_field row variable (codes "not a number")
refusal_text (bad_text row variable) = of_field row variable (codes "not UTF-8")
refusal_text (field_not_whole row variable) = of_field row variable (codes "not a whole number")
refusal_text (field_inexact row variable) = of_field row variable (codes "above 2^53")
refusal_text no_value_left = codes "no value left"
refusal_text no_progress = codes "loop takes no value"
refusal_text too_many_turns = codes "too many turns"
refusal_text bad_key = codes "key not accepted"
refusal_text bad_value = codes "value not accepted"

-- ---- lines

abbrev pub fault_line : List ℕ → List ℕ
fault_line what = codes "tallrun: " ++ what ++ codes "\n"

abbrev pub on_line : ℕ → List ℕ → List ℕ
on_line line what = codes "line " ++ decimal line ++ codes ": " ++ what

abbrev pub stop_line : Stop → List ℕ
stop_line stop = fault_line (on_line stop.line (refusal_text stop.refusal))

-- ---- of what is no script, without its front

abbrev pub too_long_text : List ℕ
too_long_text = codes "script above 1048576 bytes"

abbrev pub bad_token_text : (line place : ℕ) → List ℕ
bad_token_text line place = on_line line (codes "bad token at " ++ decimal place)

abbrev pub too_deep_text : (line : ℕ) → List ℕ
too_deep_text line = on_line line (codes "nested above 64")

abbrev pub syntax_text : (line : ℕ) → List ℕ
syntax_text line = on_line line (codes "syntax")

-- a script that isn't there
abbrev pub no_script_text : List ℕ → List ℕ
no_script_text name = codes "no file " ++ name

-- words that are no command
abbrev pub usage_text : List ℕ
usage_text = codes "usage: tallrun [--workers N] SCRIPT"

-- ---- of what the outside does

-- what of the outside ends a run; the names are those of files
pub data OutsideFault : Type 0 where
  cannot_read : (name : List ℕ) → OutsideFault
  -- a file had so many rows, and then so many
  file_changed : (name : List ℕ) (rows more : ℕ) → OutsideFault
  file_too_large : (name : List ℕ) → OutsideFault
  cannot_write : OutsideFault
  out_of_memory : OutsideFault

unfoldable pub outside_text : OutsideFault → List ℕ
outside_text (cannot_read name) = codes "cannot read " ++ name
outside_text (file_changed name rows more) = codes "file " ++ name ++ codes " changed: " ++ decimal rows ++ codes " rows, then " ++ decimal more
outside_text (file_too_large name) = codes "file " ++ name ++ codes " above 2^50 bytes"
outside_text cannot_write = codes "cannot write"
outside_text out_of_memory = codes "out of memory"

abbrev pub outside_line : OutsideFault → List ℕ
outside_line f = fault_line (outside_text f)
