-- The datastores of a script as they are kept: those of a list and their calls, side by side.
use Rattle.std.specs.Prelude.{List, [], ◌∷◌}
use Rattle.tall_store.specs.Stores.{SeenStore}
use Rattle.tall_stored.specs.StoredColumns.{Store}
use Rattle.tall_deferred.specs.declared.values.At.{At}
use Rattle.tall_deferred.specs.Values.{at_seen}

abbrev pub called : List At → List SeenStore → List Store
called (at ∷ calls) (store ∷ stores) = record { at = at_seen at; store = store } ∷ called calls stores
called calls stores = []

abbrev pub store_in : Store → SeenStore
store_in d = d.store
