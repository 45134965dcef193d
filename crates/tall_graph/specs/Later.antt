-- Numbers above those of a list of vertices.
use Rattle.std.specs.Prelude.{◌≡◌, ℕ, ◌<◌, Some, List, slice_get}
use Rattle.tall_semantics.specs.Operations.{Made, stored, operation}
use Rattle.tall_semantics.specs.Deferred.{Vertex}

abbrev pub IsAbove : List Vertex → (number : ℕ) → Type 0
IsAbove vs n = (j : ℕ) (w : Vertex) → slice_get vs j ≡ Some w → w.at.number < n

abbrev pub IsOperation : Made → Type 0
IsOperation (stored s v c) = ⊥
IsOperation (operation f) = Unit {0}
