-- What is known of the opening of a datastore.
use Rattle.std.specs.Prelude.{◌≡◌, ◌≢◌, false, [], ◌∷◌, Option, Result, Err, IfErr, IfSome}
use Rattle.tall_outside.specs.declared.shelf.Shelf as shelf
use Rattle.tall_outside.specs.OpenedNames.{Adds, OpensOnce}
use Rattle.tall_outside.specs.ShelfCounts.{IsLater, shelf_counts}
use Rattle.tall_store.specs.Causes.{HasOpened, IsExplained, RefusesUnopened}
use Rattle.tall_store.specs.Options.{SeenOptions}
use Rattle.tall_store.specs.Stores.{SeenStore}
use Rattle.tall_store.specs.declared.faults.StoreFault.TheVariants as store_fault
use Rattle.tall_script.specs.OpeningLaws.{makes_datastore}
use Rattle.tall_sources.specs.Opened.{FirstIsWithin, IsOf, OpensTo, first_given, store_due, unnamed}
use Rattle.tall_sources.specs.declared.opening.OpenFault.{OpenFault}

-- what the opening of a datastore by options comes to, between two moments of the shelf
pub record IsOpening {S : Type 0} (s : shelf.Ghosts S) (wanted : Option SeenOptions) (before now : S) (r : Result SeenStore OpenFault) : Type 0 where
  pub told : IfSome (s.held before) (λ files. OpensTo (store_due files wanted) r)
  pub within : IfSome (s.held before) (λ files. FirstIsWithin files wanted → unnamed r ≢ Err store_fault.TooLarge)
  pub held : s.held now ≡ s.held before
  pub explained : IsExplained (unnamed r) (shelf_counts s before) (shelf_counts s now)
  pub named : IfErr r (λ e. IsOf (first_given wanted) e)
  pub later : IsLater (shelf_counts s before) (shelf_counts s now)
  pub refused : makes_datastore wanted ≡ false → RefusesUnopened (unnamed r) × (now ≡ before)
  pub once : OpensOnce (first_given wanted) (s.opened before) (s.opened now)
  pub opened : HasOpened (unnamed r) → Adds (first_given wanted ∷ []) (s.opened before) (s.opened now)
