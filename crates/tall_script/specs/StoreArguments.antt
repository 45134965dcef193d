-- The options of a call of `tabularTextDatastore`, and the values of a datastore's properties, by the form of the values
-- in memory that are given. docs/LANGUAGE.md, datastores. What is in range is told by the options themselves.
use Rattle.std.specs.Prelude.{ℕ, pos, ◌&&◌, ◌==◌, Bool, true, if◌then◌else◌, List, [], ◌∷◌, map, Option, None, Some, is_some, option_map, option_and_then, codes}
use Rattle.std.specs.List.{list_all}
use Rattle.tall_value.specs.Cells.{logical, double}
use Rattle.tall_cut.specs.declared.cutter.ReadSize.{ReadSize}
use Rattle.tall_cut.specs.declared.cutter.ReadSize.TheVariants.{Rows, File}
use Rattle.tall_value.specs.Names.{are_distinct}
use Rattle.tall_store.specs.declared.format.Format.{Format}
use Rattle.tall_store.specs.declared.format.Format.TheVariants.{Int8, Int16, Int32, Int64, Uint8, Uint16, Uint32, Uint64, Double, Text}
use Rattle.tall_store.specs.declared.options.OptionName.{OptionName}
use Rattle.tall_store.specs.declared.options.OptionName.TheVariants as option
use Rattle.tall_store.specs.declared.options.Property.{Property}
use Rattle.tall_store.specs.declared.options.Property.TheVariants as property
use Rattle.tall_store.specs.Options.{SeenOptions, size_of_rows}
use Rattle.tall_local.specs.Lists.{all_of}
use Rattle.tall_local.specs.Names.{named, names_of}
use Rattle.tall_local.specs.Memory.{Memory, scalar, texts, scalar_in, text_in}
use Rattle.tall_local.specs.Applications.{text_of, choice_of}

-- ---- values of options

-- a text or a list
abbrev pub texts_given : Memory → Option (List (List ℕ))
texts_given (scalar c) = option_map (λ t. t ∷ []) (text_in c)
texts_given (texts ts) = Some ts
texts_given v = None

-- one byte; the two characters `\t` are a tab
abbrev pub delimiter_of : List ℕ → Option ℕ
delimiter_of (b ∷ []) = Some b
delimiter_of (b ∷ c ∷ []) = if (b == 92) && (c == 116) then Some 9 else None
delimiter_of t = None

abbrev pub delimiter_given : Memory → Option ℕ
delimiter_given v = option_and_then delimiter_of (text_of (scalar_in v))

abbrev pub sizes : List (List ℕ × ReadSize)
sizes = (codes "file", File) ∷ []

-- a number of records that a block may have, or 'file'
abbrev pub size_given : Memory → Option ReadSize
size_given (scalar (double (Some (pos n)))) = size_of_rows n
size_given v = choice_of sizes (scalar_in v)

abbrev pub formats : List (List ℕ × Format)
formats =
    (codes "%d8", Int8) ∷ (codes "%d16", Int16) ∷ (codes "%d32", Int32) ∷ (codes "%d64", Int64)
    ∷ (codes "%u8", Uint8) ∷ (codes "%u16", Uint16) ∷ (codes "%u32", Uint32) ∷ (codes "%u64", Uint64)
    ∷ (codes "%d", Int32) ∷ (codes "%u", Uint32) ∷ (codes "%f", Double) ∷ (codes "%q", Text) ∷ []

-- a list of formats
abbrev pub formats_given : Memory → Option (List Format)
formats_given (texts ts) = all_of (named formats) ts
formats_given v = None

abbrev pub truth_given : Memory → Option Bool
truth_given (scalar (logical b)) = Some b
truth_given v = None

-- ---- options

abbrev pub with_option : Option (List ℕ) → Memory → Option (List (List ℕ × Memory)) → Option (List (List ℕ × Memory))
with_option (Some name) v (Some pairs) = Some ((name, v) ∷ pairs)
with_option name v pairs = None

-- pairs of a name and a value
abbrev pub pairs_given : List Memory → Option (List (List ℕ × Memory))
pairs_given [] = Some []
pairs_given (name ∷ []) = None
pairs_given (name ∷ v ∷ rest) = with_option (text_of (scalar_in name)) v (pairs_given rest)

abbrev pub option_name : OptionName → List ℕ
option_name option.Delimiter = codes "Delimiter"
option_name option.ReadSize = codes "ReadSize"
option_name option.TreatAsMissing = codes "TreatAsMissing"
option_name option.SelectedVariableNames = codes "SelectedVariableNames"
option_name option.TextscanFormats = codes "TextscanFormats"
option_name option.ReadVariableNames = codes "ReadVariableNames"

abbrev pub with_its_name : OptionName → List ℕ × OptionName
with_its_name o = (option_name o, o)

abbrev pub options : List (List ℕ × OptionName)
options = map with_its_name (option.Delimiter ∷ option.ReadSize ∷ option.TreatAsMissing ∷ option.SelectedVariableNames ∷ option.TextscanFormats ∷ option.ReadVariableNames ∷ [])

-- each is an option, and stands once
abbrev pub are_options : List (List ℕ) → Bool
are_options names = list_all (λ name. is_some (named options name)) names && are_distinct names

abbrev pub value_given : List (List ℕ × Memory) → OptionName → Option Memory
value_given given o = named given (option_name o)

-- an option's value, or its default
abbrev pub option_or : {A : Type 0} → (Memory → Option A) → A → Option Memory → Option A
option_or read default None = Some default
option_or read default (Some v) = read v

-- the same of an option that has none
abbrev pub optional : {A : Type 0} → (Memory → Option A) → Option Memory → Option (Option A)
optional read None = Some None
optional read (Some v) = option_map (λ a. Some a) (read v)

-- the options by the files and by the six values
abbrev pub options_with : Option (List (List ℕ)) → Option ℕ → Option ReadSize → Option (List (List ℕ)) → Option (Option (List (List ℕ))) → Option (Option (List Format)) → Option Bool → Option SeenOptions
options_with (Some files) (Some delimiter) (Some size) (Some missing) (Some selected) (Some kinds) (Some header) =
    Some (record { files = files; delimiter = delimiter; size = size; missing = missing; selected = selected; formats = kinds; header = header })
options_with files delimiter size missing selected kinds header = None

abbrev pub options_from : Memory → List (List ℕ × Memory) → Option SeenOptions
options_from files given =
    options_with (texts_given files)
    (option_or delimiter_given 44 (value_given given option.Delimiter))
    (option_or size_given (Rows 20000) (value_given given option.ReadSize))
    (option_or texts_given [] (value_given given option.TreatAsMissing))
    (optional texts_given (value_given given option.SelectedVariableNames))
    (optional formats_given (value_given given option.TextscanFormats))
    (option_or truth_given true (value_given given option.ReadVariableNames))

-- the options of a call's arguments; none where they aren't accepted
unfoldable pub options_given : List Memory → Option SeenOptions
options_given [] = None
options_given (files ∷ rest) =
    option_and_then (λ given. if are_options (names_of given) then options_from files given else None) (pairs_given rest)

-- ---- properties

abbrev pub properties : List (List ℕ × Property)
properties =
    (option_name option.ReadSize, property.ReadSize) ∷ (option_name option.SelectedVariableNames, property.SelectedVariableNames) ∷ (option_name option.TextscanFormats, property.TextscanFormats) ∷ []
