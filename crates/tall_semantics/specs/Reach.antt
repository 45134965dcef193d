-- Which datastores are read for a value. `reads` tells it from the value's tree (src/graphs.rt).
use Rattle.std.specs.Prelude.{◌≡◌, ℕ, Some, List, slice_get}
use Rattle.tall_semantics.specs.Operations.{Made, stored, operation}
use Rattle.tall_semantics.specs.Deferred.{Vertex, DependsOn}

-- a variable of the datastore
abbrev pub IsOfStore : (store : ℕ) → Made → Type 0
IsOfStore store (stored s v c) = store ≡ s
IsOfStore store (operation op) = ⊥

-- the value is computed from a variable of the datastore
abbrev pub Reaches : List Vertex → (store : ℕ) → ℕ → Type 0
Reaches vs store i = (j : ℕ) × (v : Vertex) × DependsOn vs i j × (slice_get vs j ≡ Some v) × IsOfStore store v.made
