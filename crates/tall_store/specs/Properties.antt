-- Datastores with one property changed: docs/LANGUAGE.md, "Datastores". Each is refused as an option of the opening is.
use Rattle.std.specs.Prelude.{◌≡◌, ℕ, ◌==◌, if◌then◌else◌, List, length, Option, None, Some, Result, Ok, Err}
use Rattle.tall_cut.specs.declared.cutter.ReadSize.{ReadSize}
use Rattle.tall_store.specs.declared.format.Format.{Format}
use Rattle.tall_store.specs.declared.faults.StoreFault.{StoreFault}
use Rattle.tall_store.specs.declared.faults.StoreFault.TheVariants.{BadArgument, NoFile, Failed, TooLarge, NoHeader, Memory}
use Rattle.tall_store.specs.Options.{is_choice, is_size}
use Rattle.tall_store.specs.Choices.{places_of}
use Rattle.tall_store.specs.Stores.{SeenStore}

abbrev pub sized : SeenStore → ReadSize → Result SeenStore StoreFault
sized store size = if is_size size then Ok (record store { size = size }) else Err BadArgument

abbrev pub with_places : SeenStore → Option (List ℕ) → Result SeenStore StoreFault
with_places store None = Err BadArgument
with_places store (Some places) = Ok (record store { selected = places })

abbrev pub selecting : SeenStore → List (List ℕ) → Result SeenStore StoreFault
selecting store names = if is_choice names then with_places store (places_of store.names names) else Err BadArgument

abbrev pub formatted : SeenStore → List Format → Result SeenStore StoreFault
formatted store formats = if length formats == length store.names then Ok (record store { formats = formats }) else Err BadArgument

-- an answer is what is due; for want of memory it is free
abbrev pub Changes : Result SeenStore StoreFault → Result SeenStore StoreFault → Type 0
Changes due (Ok store) = due ≡ Ok store
Changes due (Err BadArgument) = due ≡ Err BadArgument
Changes due (Err NoFile) = ⊥
Changes due (Err Failed) = ⊥
Changes due (Err TooLarge) = ⊥
Changes due (Err NoHeader) = ⊥
Changes due (Err Memory) = Unit {0}

-- a datastore, or the refusal
abbrev pub option_or_refuse : Option SeenStore → Result SeenStore StoreFault
option_or_refuse (Some store) = Ok store
option_or_refuse None = Err BadArgument
