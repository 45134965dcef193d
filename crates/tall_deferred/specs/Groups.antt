-- The columns of a summary of groups as nodes.
use Rattle.std.specs.Prelude.{ℕ, List, [], ◌∷◌, map, Vec}
use Rattle.tall_value.specs.declared.functions.Method.{Method}
use Rattle.tall_semantics.specs.Deferred.{Vertex}
use Rattle.tall_semantics.specs.Faults.{At}
use Rattle.tall_semantics.specs.Operations.{group}
use Rattle.tall_semantics.specs.Talls.{Tall}
use Rattle.tall_script.specs.ScriptValues.{parts_of}
use Rattle.tall_script.specs.VertexLaws.{vertex}
use Rattle.tall_deferred.specs.declared.values.Variable.{Variable}

abbrev pub nodes_at : {Z : Type 0} → (ℕ → Tall) → Vec ℕ Z → List Tall
nodes_at f xs = map f xs.items

-- the nodes under their names
abbrev pub zipped : List (List ℕ) → List ℕ → List Variable
zipped (name ∷ names) (x ∷ xs) = record { name = name; node = x } ∷ zipped names xs
zipped names xs = []

abbrev pub group_vertices : At → Method → List ℕ → List Vertex
group_vertices at m args = map (λ part. vertex at (group m part) args) (parts_of m)
