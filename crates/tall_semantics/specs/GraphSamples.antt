-- A worked list of vertices: two variables of a datastore, both filtered by one mask, the sums of one by the other, and a
-- running sum of differences to the greatest; and the copy of the datastore that a property statement makes.
use Rattle.std.specs.Prelude.{ℕ, pos, false, List, [], ◌∷◌, ◌++◌}
use Rattle.tall_value.specs.declared.class.Class.TheVariants as class
use Rattle.tall_value.specs.declared.functions.Method.TheVariants as method
use Rattle.tall_value.specs.declared.functions.Reduction.TheVariants.{Sum, Max}
use Rattle.tall_value.specs.declared.functions.Scan.TheVariants.{CumSum}
use Rattle.tall_value.specs.declared.operators.Binary.TheVariants.{Sub, Gt}
use Rattle.tall_semantics.specs.Operations.{constant, binary, filter, reduce, scan, group, Part, keys, counts, values, Made, stored, operation}
use Rattle.tall_semantics.specs.Deferred.{Vertex}
use Rattle.tall_semantics.specs.Samples.{at, number}

-- of the expression with this number, on line 3
abbrev pub vertex : (number : ℕ) → Made → List ℕ → Vertex
vertex n made args = record { at = at n 3; made = made; args = args }

abbrev pub summed : (number : ℕ) → Part → Vertex
summed n part = vertex n (operation (group method.Sum part)) (4 ∷ 5 ∷ [])

-- x > 0: the constant has the operator's number
abbrev pub masked : List Vertex
masked =
    vertex 3 (stored 0 0 class.Double) []
    ∷ vertex 3 (stored 0 1 class.Double) []
    ∷ vertex 8 (operation (constant (number (pos 0)))) []
    ∷ vertex 8 (operation (binary Gt)) (0 ∷ 2 ∷ [])
    ∷ []

-- T(x > 0, :) has a filter for each variable, and `groupsummary` of it three columns
abbrev pub grouped : List Vertex
grouped =
    masked ++ (vertex 10 (operation filter) (0 ∷ 3 ∷ [])
    ∷ vertex 10 (operation filter) (1 ∷ 3 ∷ [])
    ∷ summed 14 keys
    ∷ summed 14 counts
    ∷ summed 14 values
    ∷ [])

-- m = max(x), cumsum(x - m) and the sum of it; datastore 1 is datastore 0 with another property
abbrev pub running : List Vertex
running =
    grouped ++ (vertex 3 (stored 1 0 class.Double) []
    ∷ vertex 17 (operation (reduce Max)) (0 ∷ [])
    ∷ vertex 19 (operation (binary Sub)) (0 ∷ 10 ∷ [])
    ∷ vertex 20 (operation (scan CumSum)) (11 ∷ [])
    ∷ vertex 22 (operation (reduce (Sum false false))) (12 ∷ [])
    ∷ [])
