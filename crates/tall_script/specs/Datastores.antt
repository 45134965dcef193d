-- Datastores in a script: their making and their properties. docs/LANGUAGE.md, datastores.
use Rattle.std.specs.Prelude.{ℕ, if◌then◌else◌, List, [], ◌∷◌, length, Option, None, Some, option_and_then, Result, Ok, Err}
use Rattle.tall_outside.specs.Shelf.{Files}
use Rattle.tall_semantics.specs.Faults.{At}
use Rattle.tall_semantics.specs.Talls.{Tall}
use Rattle.tall_store.specs.declared.faults.StoreFault.{StoreFault}
use Rattle.tall_store.specs.declared.faults.StoreFault.TheVariants as store_fault
use Rattle.tall_store.specs.declared.options.Property.{Property}
use Rattle.tall_store.specs.declared.options.Property.TheVariants as property
use Rattle.tall_store.specs.Opening.{first_name, opening}
use Rattle.tall_store.specs.Options.{SeenOptions, is_accepted}
use Rattle.tall_store.specs.Properties.{sized, selecting, formatted}
use Rattle.tall_store.specs.Stores.{SeenStore}
use Rattle.tall_local.specs.Arguments.{Argument, value_given}
use Rattle.tall_local.specs.Lists.{all_of}
use Rattle.tall_local.specs.Refusals.{Refusal, bad_argument, bad_class, failed, Stop, stop_at}
use Rattle.tall_local.specs.Refusals as refusal
use Rattle.tall_local.specs.Memory.{Memory}
use Rattle.tall_local.specs.Expressions.{Valued, gives, stops}
use Rattle.tall_script.specs.ScriptValues.{TallValue}
use Rattle.tall_script.specs.StoreArguments.{options_given, size_given, texts_given, formats_given}
use Rattle.tall_local.specs.Values.{datastore, in_memory}
use Rattle.tall_script.specs.States.{State, Openings, with_openings, with_store}

-- ---- making

abbrev pub value_in_memory : TallValue → Option Memory
value_in_memory (in_memory v) = Some v
value_in_memory v = None

-- the definition of an opening has these three faults alone
abbrev pub opening_refusal : List (List ℕ) → StoreFault → Refusal
opening_refusal files store_fault.NoFile = refusal.no_file (first_name files)
opening_refusal files store_fault.NoHeader = refusal.no_header (first_name files)
opening_refusal files f = bad_argument

-- one more datastore is the value; its place is the number of those before it
abbrev pub made_store : At → List (List ℕ) → Result SeenStore StoreFault → State Tall → Valued TallValue (State Tall)
made_store at files (Ok store) s = gives (datastore (length s.stores)) (with_store (record { at = at; store = store }) s)
made_store at files (Err f) s = stops (stop_at at.line (opening_refusal files f)) s

-- what is refused before the opening opens nothing; the opening opens the first file once
abbrev pub first_opening : SeenOptions → List Openings
first_opening o = if is_accepted o then record { files = first_name o.files ∷ []; times = 1 } ∷ [] else []

abbrev pub store_with : Files → At → Option SeenOptions → State Tall → Valued TallValue (State Tall)
store_with files at None s = stops (stop_at at.line bad_argument) s
store_with files at (Some o) s = made_store at o.files (opening files o) (with_openings (first_opening o) s)

-- all arguments have to be values in memory
abbrev pub memory_given : List (Argument TallValue) → Option (List Memory)
memory_given args = option_and_then (all_of value_in_memory) (all_of value_given args)

abbrev pub options_in : List (Argument TallValue) → Option SeenOptions
options_in args = option_and_then options_given (memory_given args)

-- tabularTextDatastore(files, options)
unfoldable pub datastore_call : Files → At → List (Argument TallValue) → State Tall → Valued TallValue (State Tall)
datastore_call files at args s = store_with files at (options_in args) s

-- ---- properties

abbrev pub or_bad : {A : Type 0} → (A → Result SeenStore StoreFault) → Option A → Result SeenStore Refusal
or_bad change None = Err bad_argument
or_bad change (Some a) = elim (change a) [ Ok store ↦ Ok store | Err f ↦ Err bad_argument ]

-- the datastore with a property changed
unfoldable pub changed : SeenStore → Property → TallValue → Result SeenStore Refusal
changed store property.ReadSize (in_memory v) = or_bad (sized store) (size_given v)
changed store property.SelectedVariableNames (in_memory v) = or_bad (selecting store) (texts_given v)
changed store property.TextscanFormats (in_memory v) = or_bad (formatted store) (formats_given v)
changed store p v = Err bad_argument
