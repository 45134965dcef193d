-- What a graph keeps of the numbers of its vertices, and what is known of the reading faults of its columns. From this the
-- least fault can be found level by level (src/laws.rt).
use Rattle.std.specs.Prelude.{◌≡◌, ◌≢◌, ℕ, ◌≤◌, ◌⊎◌, Bool, true, false, Option, None, Some, List, slice_get}
use Rattle.tall_value.specs.declared.class.Class.{Class}
use Rattle.tall_semantics.specs.Operations.{constant, filter, head, tail, distinct, group, Made, stored, operation}
use Rattle.tall_semantics.specs.Faults.{Fault}
use Rattle.tall_semantics.specs.Outcomes.{fault_of}
use Rattle.tall_semantics.specs.Shapes.{level}
use Rattle.tall_semantics.specs.Talls.{Tall, Columns}
use Rattle.tall_semantics.specs.Deferred.{Vertex, IsMeaning, IsOrdered, IsAmong, AreThere, AreUnder, own_in}
use Rattle.tall_semantics.specs.Levels.{Nodes, IsNumbered, IsBefore}

-- it has no fault of its own
abbrev pub never_fails : Made → Bool
never_fails (operation (constant c)) = true
never_fails (operation filter) = true
never_fails (operation (head k)) = true
never_fails (operation (tail k)) = true
never_fails (operation distinct) = true
never_fails made = false

abbrev pub AreBothStored : Made → Made → Type 0
AreBothStored (stored s v c) (stored t w d) = Unit {0}
AreBothStored made other = ⊥

abbrev pub OfOneStore : Made → Made → Type 0
OfOneStore (stored s v c) (stored t w d) = s ≡ t
OfOneStore made other = ⊥

abbrev pub OfOneMethod : Made → Made → Type 0
OfOneMethod (operation (group m p)) (operation (group n q)) = m ≡ n
OfOneMethod made other = ⊥

-- two vertices of one number are variables of datastores, or columns of one `groupsummary`, or one of them never fails
abbrev pub MayShare : Vertex → Vertex → Type 0
MayShare v w =
    AreBothStored v.made w.made
    ⊎ ((OfOneMethod v.made w.made × (v.args ≡ w.args) × (v.at.line ≡ w.at.line))
    ⊎ ((never_fails v.made ≡ true) ⊎ (never_fails w.made ≡ true)))

pub record AreNumbered (vs : List Vertex) : Type 0 where
  -- an operand's number is at most that of what is made of it
  pub lower : (i a : ℕ) (v w : Vertex) → slice_get vs i ≡ Some v → IsAmong v.args a → slice_get vs a ≡ Some w → w.at.number ≤ v.at.number
  -- all variables of one datastore have the number and the line of its call
  pub calls : (i j : ℕ) (v w : Vertex) → slice_get vs i ≡ Some v → slice_get vs j ≡ Some w → OfOneStore v.made w.made → v.at ≡ w.at
  pub shared : (i j : ℕ) (v w : Vertex) → i ≢ j → slice_get vs i ≡ Some v → slice_get vs j ≡ Some w → v.at.number ≡ w.at.number → MayShare v w

-- each column of a datastore has the datastore's first reading fault, if there is one, with the number of its call
pub record AreReadings (columns : Columns) (vs : List Vertex) : Type 0 where
  pub first : (i j : ℕ) (v w : Vertex) (store variable other : ℕ) (class class' : Class) → slice_get vs i ≡ Some v → slice_get vs j ≡ Some w
      → v.made ≡ stored store variable class → w.made ≡ stored store other class' → fault_of (columns store variable) ≡ fault_of (columns store other)
  pub called : (i : ℕ) (v : Vertex) (store variable : ℕ) (class : Class) (x : Fault) → slice_get vs i ≡ Some v → v.made ≡ stored store variable class
      → fault_of (columns store variable) ≡ Some x → (x.number ≡ v.at.number) × (x.store ≡ store)

abbrev pub number_at : Option Vertex → ℕ
number_at None = 0
number_at (Some v) = v.at.number

-- ---- levels that serve

-- the vertices with their numbers and own faults, by levels
abbrev pub nodes_by : List Vertex → (ℕ → Tall) → (levels : ℕ → ℕ) → Nodes
nodes_by vs f levels = record { number = λ i. number_at (slice_get vs i); level = levels; own = own_in vs f }

-- what the step from a level to the next needs, and that an operand comes before what is made of it
pub record AreLevels (vs : List Vertex) (f : ℕ → Tall) (levels : ℕ → ℕ) : Type 0 where
  pub numbered : IsNumbered (nodes_by vs f levels)
  pub operands : (i a : ℕ) (v w : Vertex) → slice_get vs i ≡ Some v → IsAmong v.args a → slice_get vs a ≡ Some w → IsBefore (nodes_by vs f levels) a i

-- the level of each value
abbrev pub levels_in : (ℕ → Tall) → ℕ → ℕ
levels_in f i = level (f i).shape

-- what a gather of the roots stands on; `needed` are the places of all that the roots depend on
pub record IsGather (columns : Columns) (vs : List Vertex) (f : ℕ → Tall) (levels : ℕ → ℕ) (roots needed : List ℕ) : Type 0 where
  pub meaning : IsMeaning columns vs f
  pub ordered : IsOrdered vs
  pub levelled : AreLevels vs f levels
  pub there : AreThere vs roots
  pub under : AreUnder vs roots needed
