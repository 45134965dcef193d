-- What `tall` of a datastore adds to a graph: the variables of its selection, with the number and the line of its call.
use Rattle.std.specs.Prelude.{◌≡◌, ℕ, ◌+◌, List, [], ◌∷◌, ◌++◌, map, take}
use Rattle.tall_value.specs.declared.class.Class.{Class}
use Rattle.tall_semantics.specs.Deferred.{Vertex}
use Rattle.tall_semantics.specs.Faults.{At}
use Rattle.tall_store.specs.Formats.{class_of_format}
use Rattle.tall_store.specs.Stores.{SeenStore, format_at}
use Rattle.tall_script.specs.VertexLaws.{variable_of}
use Rattle.tall_deferred.specs.declared.faults.ValueFault.{ValueFault}
use Rattle.tall_deferred.specs.declared.faults.ValueFault.TheVariants as fault

-- the variables at the places of the selection with their classes, from one on
abbrev pub variables_from : SeenStore → (from : ℕ) → List ℕ → List (ℕ × Class)
variables_from store from [] = []
variables_from store from (variable ∷ rest) = (from, class_of_format (format_at store variable)) ∷ variables_from store (from + 1) rest

abbrev pub variable_vertices : At → (place : ℕ) → SeenStore → List Vertex
variable_vertices at place store = map (variable_of at place) (variables_from store 0 store.selected)

-- the first variables of the datastore at a place more
abbrev pub AddsVariables : At → (place : ℕ) → SeenStore → List Vertex → List Vertex → Type 0
AddsVariables at place store old new = (n : ℕ) × (new ≡ old ++ take n (variable_vertices at place store))

-- want of memory
abbrev pub IsMemory : ValueFault → Type 0
IsMemory (fault.Undefined name) = ⊥
IsMemory fault.MixedClass = ⊥
IsMemory fault.BadClass = ⊥
IsMemory fault.Incompatible = ⊥
IsMemory fault.BadSize = ⊥
IsMemory fault.BadArgument = ⊥
IsMemory fault.BadIndex = ⊥
IsMemory (fault.Data row kind) = ⊥
IsMemory fault.Memory = Unit {0}
