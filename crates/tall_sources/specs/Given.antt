-- What a clause sees of the arguments of a call of `tabularTextDatastore`, and of a property's value.
use Rattle.std.specs.Prelude.{ℕ, pos, ◌&&◌, not, Bool, true, false, if◌then◌else◌, List, [], ◌∷◌, Option, None, Some, is_some, option_and_then}
use Rattle.std.specs.Str.{bytes_eq}
use Rattle.tall_cut.specs.declared.cutter.ReadSize.{ReadSize}
use Rattle.tall_cut.specs.declared.cutter.ReadSize.TheVariants.{Rows}
use Rattle.tall_store.specs.declared.options.OptionName.{OptionName}
use Rattle.tall_store.specs.declared.options.OptionName.TheVariants as option
use Rattle.tall_value.specs.Cells.{Seen, logical, double}
use Rattle.tall_store.specs.Options.{SeenOptions, size_of_rows}
use Rattle.tall_local.specs.Applications.{text_of, choice_of}
use Rattle.tall_local.specs.Lists.{all_of}
use Rattle.tall_local.specs.Memory.{Memory, table, texts, scalar_in}
use Rattle.tall_local.specs.Names.{named}
use Rattle.tall_memory.specs.Values.{ref_seen}
use Rattle.tall_script.specs.StoreArguments.{delimiter_given, formats_given, option_name, option_or, optional, options, options_given, options_with, size_given, sizes, texts_given, truth_given}
use Rattle.tall_deferred.specs.declared.values.ScriptRef.{ScriptRef}
use Rattle.tall_deferred.specs.declared.values.ScriptRef.TheVariants as lent

-- a value in memory
abbrev pub memory_lent : ScriptRef → Option Memory
memory_lent (lent.Datastore place) = None
memory_lent (lent.Table xs) = None
memory_lent (lent.Tall n) = None
memory_lent (lent.Memory v) = Some (ref_seen v)

-- the options, none where they aren't accepted by their form; all arguments have to be values in memory
abbrev pub options_lent : List ScriptRef → Option SeenOptions
options_lent args = option_and_then options_given (all_of memory_lent args)

-- ---- one value

abbrev pub is_in_memory : ScriptRef → Bool
is_in_memory v = is_some (memory_lent v)

-- no option takes a table, and so none takes what is not in memory
abbrev pub memory_in : ScriptRef → Memory
memory_in (lent.Datastore place) = table []
memory_in (lent.Table xs) = table []
memory_in (lent.Tall n) = table []
memory_in (lent.Memory v) = ref_seen v

abbrev pub texts_in : Memory → Option (List (List ℕ))
texts_in (texts ts) = Some ts
texts_in v = None

abbrev pub size_in : Option Seen → Option ReadSize
size_in (Some (double (Some (pos n)))) = size_of_rows n
size_in c = choice_of sizes c

abbrev pub truth_in : Option Seen → Option Bool
truth_in (Some (logical b)) = Some b
truth_in c = None

-- it is this text
abbrev pub is_text : Option (List ℕ) → List ℕ → Bool
is_text (Some t) name = bytes_eq t name
is_text None name = false

-- ---- pairs of a name and a value

-- the value behind the first of a name
abbrev pub value_behind : List Memory → List ℕ → Option Memory
value_behind [] name = None
value_behind (other ∷ []) name = None
value_behind (other ∷ v ∷ rest) name = if is_text (text_of (scalar_in other)) name then Some v else value_behind rest name

-- the name is an option's, and does not stand again among the pairs behind it
abbrev pub is_new_option : Option (List ℕ) → List Memory → Bool
is_new_option (Some name) rest = is_some (named options name) && not (is_some (value_behind rest name))
is_new_option None rest = false

-- each name is an option's and stands once, and has a value
abbrev pub are_pairs : List Memory → Bool
are_pairs [] = true
are_pairs (name ∷ []) = false
are_pairs (name ∷ v ∷ rest) = is_new_option (text_of (scalar_in name)) rest && are_pairs rest

-- the value of an option
unfoldable pub value_of : List Memory → OptionName → Option Memory
value_of pairs o = value_behind pairs (option_name o)

-- the options by the files and by the value of each option
abbrev pub options_by : Memory → (OptionName → Option Memory) → Option SeenOptions
options_by files value =
    options_with (texts_given files)
    (option_or delimiter_given 44 (value option.Delimiter))
    (option_or size_given (Rows 20000) (value option.ReadSize))
    (option_or texts_given [] (value option.TreatAsMissing))
    (optional texts_given (value option.SelectedVariableNames))
    (optional formats_given (value option.TextscanFormats))
    (option_or truth_given true (value option.ReadVariableNames))

abbrev pub options_of_pairs : Memory → List Memory → Option SeenOptions
options_of_pairs files pairs = if are_pairs pairs then options_by files (value_of pairs) else None

-- of values in memory: the files, and then pairs
abbrev pub options_in_memory : List Memory → Option SeenOptions
options_in_memory [] = None
options_in_memory (files ∷ pairs) = options_of_pairs files pairs
