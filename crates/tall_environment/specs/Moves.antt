-- What an expression leaves of an environment and of the shelf: names stay, and all else only grows.
use Rattle.std.specs.Prelude.{◌≡◌, ◌≤◌, ◌+◌, ℕ, true, List, ◌++◌, length, slice_get, Option, Some}
use Rattle.tall_value.specs.Names.{are_distinct}
use Rattle.tall_outside.specs.declared.shelf.Shelf as shelf
use Rattle.tall_outside.specs.Shelf.{Files, openings_of}
use Rattle.tall_outside.specs.ShelfCounts.{IsLater, shelf_counts}
use Rattle.tall_semantics.specs.Deferred.{IsMeaning}
use Rattle.tall_semantics.specs.Talls.{Columns, Tall}
use Rattle.tall_stored.specs.StoredColumns.{AreStored, Store}
use Rattle.tall_script.specs.States.{Openings, times_allowed}
use Rattle.tall_environment.specs.Environments.{SeenEnvironment}

-- where the shelf tells which names were opened, it goes on telling, and none is taken back
abbrev pub OpensMore : (before now : Option (List (List ℕ))) → Type 0
OpensMore before now = (names : List (List ℕ)) → before ≡ Some names → (all : List (List ℕ)) × (now ≡ Some all) × ((name : List ℕ) → openings_of name names ≤ openings_of name all)

-- no name was opened more often than is allowed
abbrev pub OpensWithin : List Openings → (before now : Option (List (List ℕ))) → Type 0
OpensWithin more before now = (names all : List (List ℕ)) → before ≡ Some names → now ≡ Some all → (name : List ℕ) → openings_of name all ≤ openings_of name names + times_allowed name more

-- no datastore lists a file twice
abbrev pub HaveDistinctFiles : List Store → Type 0
HaveDistinctFiles stores = (place : ℕ) (d : Store) → slice_get stores place ≡ Some d → are_distinct d.store.files ≡ true

-- more is allowed now; where the shelf tells its files, no more was opened, and datastores still list no file twice
pub record Opens {S : Type 0} (s : shelf.Ghosts S) (old new : SeenEnvironment) (before now : S) : Type 0 where
  pub more : List Openings
  pub allowed : new.opened ≡ old.opened ++ more
  pub grows : OpensMore (s.opened before) (s.opened now)
  pub distinct : (files : Files) → s.held before ≡ Some files → HaveDistinctFiles old.stores → HaveDistinctFiles new.stores
  pub within : (files : Files) → s.held before ≡ Some files → HaveDistinctFiles old.stores → OpensWithin more (s.opened before) (s.opened now)

pub record Moves {S : Type 0} (s : shelf.Ghosts S) (old new : SeenEnvironment) (before now : S) : Type 0 where
  pub names : new.names ≡ old.names
  pub size : length old.graph ≤ length new.graph
  -- what values mean later they meant before
  pub stored : (files : Files) (columns : Columns) → AreStored files new.stores new.graph columns → AreStored files old.stores old.graph columns
  pub meant : (columns : Columns) (f : ℕ → Tall) → IsMeaning columns new.graph f → IsMeaning columns old.graph f
  pub held : s.held now ≡ s.held before
  pub counts : IsLater (shelf_counts s before) (shelf_counts s now)
  pub opens : Opens s old new before now
