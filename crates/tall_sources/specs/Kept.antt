-- What is kept of the datastores of a script and of its graph, so that `tall` may add the variables of each.
use Rattle.std.specs.Prelude.{◌≡◌, ◌<◌, ℕ, List, length, slice_get, Some}
use Rattle.tall_value.specs.declared.class.Class.{Class}
use Rattle.tall_semantics.specs.Deferred.{Vertex}
use Rattle.tall_semantics.specs.Faults.{At}
use Rattle.tall_semantics.specs.Operations.{Made, stored, operation}
use Rattle.tall_stored.specs.StoredColumns.{Store, variable_class}

abbrev pub IsStored : Made → Type 0
IsStored (stored s v c) = Unit {0}
IsStored (operation o) = ⊥

pub record AreKept (stores : List Store) (vs : List Vertex) : Type 0 where
  -- a variable of a datastore is selected in one that is there, and has the number and the line of its call
  pub found : (i : ℕ) (v : Vertex) (place variable : ℕ) (class : Class) → slice_get vs i ≡ Some v → v.made ≡ stored place variable class
      → (d : Store) × (slice_get stores place ≡ Some d) × (v.at ≡ d.at) × (variable < length d.store.selected) × (class ≡ variable_class d.store variable)
  -- variables alone have the number of a datastore's call
  pub alone : (i place : ℕ) (v : Vertex) (d : Store) → slice_get vs i ≡ Some v → slice_get stores place ≡ Some d → v.at.number ≡ d.at.number → IsStored v.made

-- the calls of all datastores come before an expression
abbrev pub CallsAreLower : At → List Store → Type 0
CallsAreLower at stores = (place : ℕ) (d : Store) → slice_get stores place ≡ Some d → d.at.number < at.number
