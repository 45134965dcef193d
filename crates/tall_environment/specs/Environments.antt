-- What a script has while it runs, as clauses see it, and what the definitions see of it.
use Rattle.std.specs.Prelude.{◌≡◌, ◌≤◌, ℕ, List, map, length, slice_get, Some}
use Rattle.std.specs.List.{All}
use Rattle.tall_semantics.specs.Deferred.{Vertex}
use Rattle.tall_semantics.specs.Faults.{At}
use Rattle.tall_semantics.specs.Talls.{Tall}
use Rattle.tall_stored.specs.StoredColumns.{Store}
use Rattle.tall_script.specs.ScriptValues.{TallValue}
use Rattle.tall_script.specs.States.{Openings, State}
use Rattle.tall_script.specs.VertexLaws.{IsLower}
use Rattle.tall_deferred.specs.declared.values.ScriptValue.{ScriptValue}
use Rattle.tall_deferred.specs.Turns.{IsAtMost}
use Rattle.tall_deferred.specs.Values.{IsValue, value_at}
use Rattle.tall_sources.specs.Kept.{AreKept, CallsAreLower}

-- the names with their values in the order of their first assignments, the datastores in the order of their making, the graph
-- of all deferred values, and how often files may have been opened
pub record SeenEnvironment : Type 0 where
  pub names : List (List ℕ × ScriptValue)
  pub stores : List Store
  pub graph : List Vertex
  pub opened : List Openings

abbrev pub opening_of : List (List ℕ) × ℕ → Openings
opening_of p = record { files = p.0; times = p.1 }

-- ---- what each environment keeps

abbrev pub IsNamed : (n : ℕ) → List ℕ × ScriptValue → Type 0
IsNamed n x = IsValue n x.1

-- tall values of names are nodes of the graph, and its stored columns those of the datastores
pub record IsEnvironment (e : SeenEnvironment) : Type 0 where
  pub names : All (IsNamed (length e.graph)) e.names
  pub kept : AreKept e.stores e.graph

-- ---- the state of the definitions, by a solution f of the graph

abbrev pub name_at : (ℕ → Tall) → List ℕ × ScriptValue → List ℕ × TallValue
name_at f x = (x.0, value_at f x.1)

abbrev pub names_at : (ℕ → Tall) → List (List ℕ × ScriptValue) → List (List ℕ × TallValue)
names_at f xs = map (name_at f) xs

abbrev pub state_at : (ℕ → Tall) → SeenEnvironment → State Tall
state_at f e = record { names = names_at f e.names; stores = e.stores; opened = e.opened }

-- ---- numbers of expressions

abbrev pub numbered : ℕ → At
numbered n = record { number = n; line = 0 }

-- the expression with this number may come next: those of the graph and the calls of the datastores came before
pub record IsNext (n : ℕ) (e : SeenEnvironment) : Type 0 where
  pub graph : All (IsLower (numbered n)) e.graph
  pub calls : CallsAreLower (numbered n) e.stores

abbrev pub CallsAreAtMost : At → List Store → Type 0
CallsAreAtMost at stores = (place : ℕ) (d : Store) → slice_get stores place ≡ Some d → d.at.number ≤ at.number

-- it may have been the last
pub record IsLast (n : ℕ) (e : SeenEnvironment) : Type 0 where
  pub graph : All (IsAtMost (numbered n)) e.graph
  pub calls : CallsAreAtMost (numbered n) e.stores
