-- What an expression of a script adds to a graph, which has a vertex for each tall column and tall scalar: an operation, an
-- operator behind the scalar in memory that it meets, an operation over each column of a table, the columns of a `groupsummary`,
-- or the variables of a datastore. An expression is evaluated after its parts and after all expressions of lower numbers.
use Rattle.std.specs.Prelude.{◌≡◌, ◌<◌, ℕ, ◌+◌, true, List, [], ◌∷◌, ◌++◌, map}
use Rattle.tall_value.specs.declared.class.Class.{Class}
use Rattle.tall_value.specs.declared.functions.Method.{Method}
use Rattle.tall_value.specs.Cells.{Seen}
use Rattle.tall_semantics.specs.Additions.{MayAdd}
use Rattle.tall_semantics.specs.Deferred.{Vertex, AllBelow}
use Rattle.tall_semantics.specs.Faults.{At}
use Rattle.tall_semantics.specs.Numbered.{AreBothStored, OfOneStore, never_fails}
use Rattle.tall_semantics.specs.Operations.{Op, constant, group, Part, stored, operation}

abbrev pub vertex : At → Op → List ℕ → Vertex
vertex at o args = record { at = at; made = operation o; args = args }

abbrev pub AllOf : (List ℕ → Type 0) → List (List ℕ) → Type 0
AllOf Is [] = Unit {0}
AllOf Is (args ∷ rest) = Is args × AllOf Is rest

-- of the expression `at`, to a graph of n vertices
pub data Adds (at : At) (n : ℕ) : List Vertex → Type 0 where
  one_operation : (o : Op) (args : List ℕ) → AllBelow n args → Adds at n (vertex at o args ∷ [])
  behind_a_scalar : (c : Seen) (o : Op) (args : List ℕ) → AllBelow (n + 1) args → Adds at n (vertex at (constant c) [] ∷ vertex at o args ∷ [])
  over_columns : (o : Op) (columns : List (List ℕ)) → never_fails (operation o) ≡ true → AllOf (AllBelow n) columns → Adds at n (map (vertex at o) columns)
  of_groups : (m : Method) (parts : List Part) (args : List ℕ) → AllBelow n args → Adds at n (map (λ part. vertex at (group m part) args) parts)

-- the expressions of the graph so far have lower numbers
abbrev pub IsLower : At → Vertex → Type 0
IsLower at w = w.at.number < at.number

-- ---- the variables of a datastore, which have the number and the line of its call

abbrev pub variable_of : At → (place : ℕ) → ℕ × Class → Vertex
variable_of at place x = record { at = at; made = stored place x.0 x.1; args = [] }

-- what has the number of the call is a variable of a datastore, and the variables of this one have its line; the call itself adds
-- nothing
pub record MayStandBeside (at : At) (place : ℕ) (w : Vertex) : Type 0 where
  pub stored_alone : w.at.number ≡ at.number → (variable : ℕ) (class : Class) → AreBothStored (stored place variable class) w.made
  pub called : (variable : ℕ) (class : Class) → OfOneStore (stored place variable class) w.made → at ≡ w.at

-- ---- all of them, one after another

abbrev pub MayFollow : List Vertex → List Vertex → Type 0
MayFollow vs [] = Unit {0}
MayFollow vs (w ∷ ws) = MayAdd vs w × MayFollow (vs ++ w ∷ []) ws
