-- What a property statement makes of a datastore.
use Rattle.std.specs.Prelude.{◌≡◌, ℕ, List, [], ◌∷◌, ◌++◌, length, Result, Ok, Err}
use Rattle.tall_local.specs.Names.{named}
use Rattle.tall_local.specs.Refusals.{Refusal, bad_argument, and_then, or_refuse}
use Rattle.tall_store.specs.Stores.{SeenStore}
use Rattle.tall_store.specs.declared.faults.StoreFault.{StoreFault}
use Rattle.tall_script.specs.Datastores.{changed}
use Rattle.tall_script.specs.ScriptValues.{TallValue}
use Rattle.tall_script.specs.States.{Store}
use Rattle.tall_script.specs.StoreArguments.{properties}
use Rattle.tall_deferred.specs.Faults.{IsDue}
use Rattle.tall_deferred.specs.declared.faults.ValueFault.{ValueFault}

-- by the name of the property
abbrev pub changed_by : SeenStore → List ℕ → TallValue → Result SeenStore Refusal
changed_by store p v = and_then (or_refuse bad_argument (named properties p)) (λ property. changed store property v)

-- what a datastore refuses is an argument that isn't accepted
abbrev pub or_refused : Result SeenStore StoreFault → Result SeenStore Refusal
or_refused r = elim r [ Ok store ↦ Ok store | Err f ↦ Err bad_argument ]

abbrev pub itself : SeenStore → SeenStore
itself store = store

-- one more datastore, whose place is the answer, or the refusal, with the datastores as they were
abbrev pub AddsStore : Result Store Refusal → List Store → Result ℕ ValueFault → List Store → Type 0
AddsStore want old (Ok place) new = (d : Store) × (want ≡ Ok d) × (place ≡ length old) × (new ≡ old ++ d ∷ [])
AddsStore want old (Err e) new = IsDue want e × (new ≡ old)
