-- What a call of `tabularTextDatastore` gives, and what it opens.
use Rattle.std.specs.Prelude.{◌≡◌, ℕ, List, [], Option, None, Some, IfSome, Result, Ok, Err, length}
use Rattle.tall_outside.specs.Shelf.{Files}
use Rattle.tall_store.specs.Opening.{IsWithin, first_name, opening}
use Rattle.tall_store.specs.Options.{SeenOptions}
use Rattle.tall_store.specs.Stores.{SeenStore}
use Rattle.tall_store.specs.declared.faults.StoreFault.{StoreFault}
use Rattle.tall_store.specs.declared.faults.StoreFault.TheVariants as store_fault
use Rattle.tall_semantics.specs.Faults.{At}
use Rattle.tall_semantics.specs.Talls.{Tall}
use Rattle.tall_local.specs.Expressions.{Valued, gives, stops}
use Rattle.tall_local.specs.Refusals.{Refusal, bad_argument, no_file, no_header, stop_at}
use Rattle.tall_local.specs.Values.{datastore}
use Rattle.tall_script.specs.Datastores.{first_opening, opening_refusal}
use Rattle.tall_script.specs.ScriptValues.{TallValue}
use Rattle.tall_script.specs.States.{Openings, State, with_store}
use Rattle.tall_sources.specs.declared.opening.OpenFault.{OpenFault}
use Rattle.tall_sources.specs.declared.opening.OpenFault.TheVariants as fault

-- ---- what is due

-- an opening's datastore, or its refusal
abbrev pub refused_opening : List (List ℕ) → Result SeenStore StoreFault → Result SeenStore Refusal
refused_opening files (Ok store) = Ok store
refused_opening files (Err f) = Err (opening_refusal files f)

-- the datastore of the options over these files, or the refusal
abbrev pub store_due : Files → Option SeenOptions → Result SeenStore Refusal
store_due files None = Err bad_argument
store_due files (Some o) = refused_opening o.files (opening files o)

-- an answer is what is due; where a file could not be read, and for want of memory, it is free
abbrev pub OpensTo : Result SeenStore Refusal → Result SeenStore OpenFault → Type 0
OpensTo want (Ok store) = want ≡ Ok store
OpensTo want (Err fault.BadArgument) = want ≡ Err bad_argument
OpensTo want (Err (fault.NoFile name)) = want ≡ Err (no_file name)
OpensTo want (Err (fault.NoHeader name)) = want ≡ Err (no_header name)
OpensTo want (Err (fault.Failed name)) = Unit {0}
OpensTo want (Err (fault.TooLarge name)) = Unit {0}
OpensTo want (Err fault.Memory) = Unit {0}

-- what the call does to the state of a script
abbrev pub makes : At → Result SeenStore Refusal → State Tall → Valued TallValue (State Tall)
makes at (Ok store) s = gives (datastore (length s.stores)) (with_store (record { at = at; store = store }) s)
makes at (Err refusal) s = stops (stop_at at.line refusal) s

-- what it may open: nothing where it is refused before its file is looked at
abbrev pub openings_due : Option SeenOptions → List Openings
openings_due None = []
openings_due (Some o) = first_opening o

-- ---- causes

-- the fault without the file's name
abbrev pub without_name : OpenFault → StoreFault
without_name fault.BadArgument = store_fault.BadArgument
without_name (fault.NoFile name) = store_fault.NoFile
without_name (fault.NoHeader name) = store_fault.NoHeader
without_name (fault.Failed name) = store_fault.Failed
without_name (fault.TooLarge name) = store_fault.TooLarge
without_name fault.Memory = store_fault.Memory

abbrev pub unnamed : Result SeenStore OpenFault → Result SeenStore StoreFault
unnamed (Ok store) = Ok store
unnamed (Err e) = Err (without_name e)

-- the name of the first file; none is looked at without options
abbrev pub first_given : Option SeenOptions → List ℕ
first_given None = []
first_given (Some o) = first_name o.files

-- the file that a fault names is this one
abbrev pub IsOf : List ℕ → OpenFault → Type 0
IsOf first fault.BadArgument = Unit {0}
IsOf first (fault.NoFile name) = name ≡ first
IsOf first (fault.NoHeader name) = name ≡ first
IsOf first (fault.Failed name) = name ≡ first
IsOf first (fault.TooLarge name) = name ≡ first
IsOf first fault.Memory = Unit {0}

-- the first file is no longer than 2^50 bytes
abbrev pub FirstIsWithin : Files → Option SeenOptions → Type 0
FirstIsWithin files wanted = IfSome wanted (λ o. IsWithin files o)
