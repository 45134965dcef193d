-- A refusal as definitions see it.
use Rattle.tall_local.specs.Refusals as spec
use Rattle.tall_lines.specs.declared.refusals.Refusal.{Refusal}
use Rattle.tall_lines.specs.declared.refusals.Refusal.TheVariants.{Undefined, MixedClass, BadClass, Incompatible, BadSize, BadArgument, BadIndex, Data, NoFile, NoHeader, HeaderDiffers, TooManyRows, TooManyFields, BadField, BadText, FieldNotWhole, FieldInexact, EndOfValues, NoProgress, TooManyTurns, KeyClass, ValueClass}

abbrev pub refusal_seen : Refusal → spec.Refusal
refusal_seen (Undefined name) = spec.undefined name.now
refusal_seen MixedClass = spec.mixed_class
refusal_seen BadClass = spec.bad_class
refusal_seen Incompatible = spec.incompatible
refusal_seen BadSize = spec.bad_size
refusal_seen BadArgument = spec.bad_argument
refusal_seen BadIndex = spec.bad_index
refusal_seen (Data row kind) = spec.failed row kind
refusal_seen (NoFile name) = spec.no_file name.now
refusal_seen (NoHeader name) = spec.no_header name.now
refusal_seen (HeaderDiffers name) = spec.header_differs name.now
refusal_seen TooManyRows = spec.too_many_rows
refusal_seen (TooManyFields row) = spec.too_many_fields row
refusal_seen (BadField row variable) = spec.bad_field row variable.now
refusal_seen (BadText row variable) = spec.bad_text row variable.now
refusal_seen (FieldNotWhole row variable) = spec.field_not_whole row variable.now
refusal_seen (FieldInexact row variable) = spec.field_inexact row variable.now
refusal_seen EndOfValues = spec.no_value_left
refusal_seen NoProgress = spec.no_progress
refusal_seen TooManyTurns = spec.too_many_turns
refusal_seen KeyClass = spec.bad_key
refusal_seen ValueClass = spec.bad_value
