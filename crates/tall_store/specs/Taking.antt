-- What taking the next record does to the records that are left of a file.
use Rattle.std.specs.Prelude.{◌≡◌, List, [], ◌∷◌, Option, None, Some, Result, Ok, Err}
use Rattle.tall_cut.specs.Rows.{Fields}
use Rattle.tall_store.specs.declared.faults.StoreFault.{StoreFault}

-- the first record that was left was taken, or none was left, where that is known; at a fault nothing is said
abbrev pub TakesNext : Option (List Fields) → Option (List Fields) → Result (Option Fields) StoreFault → Type 0
TakesNext None after result = Unit {0}
TakesNext (Some records) after (Err fault) = Unit {0}
TakesNext (Some records) after (Ok None) = records ≡ []
TakesNext (Some records) None (Ok (Some fields)) = ⊥
TakesNext (Some records) (Some rest) (Ok (Some fields)) = records ≡ fields ∷ rest
