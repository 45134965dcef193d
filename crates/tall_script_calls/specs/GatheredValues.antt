-- Which values may be gathered, their tall nodes in order, and what they come to where the column of each node is told.
use Rattle.std.specs.Prelude.{ℕ, Bool, true, false, List, [], ◌∷◌, map, Option, None, Some}
use Rattle.tall_value.specs.Cells.{Seen}
use Rattle.tall_column.specs.Columns.{SeenColumn}
use Rattle.tall_semantics.specs.Deferred.{Vertex}
use Rattle.tall_semantics.specs.ShapesInOrder.{shape_at}
use Rattle.tall_semantics.specs.Spaces.{is_single}
use Rattle.tall_local.specs.Arguments.{Argument, value_given}
use Rattle.tall_local.specs.Lists.{all_of}
use Rattle.tall_local.specs.Memory.{Memory, scalar, column, table, texts}
use Rattle.tall_memory.specs.declared.values.MemoryValue.{MemoryValue}
use Rattle.tall_memory.specs.declared.values.MemoryValue.TheVariants as memory
use Rattle.tall_deferred.specs.declared.values.ScriptValue.{ScriptValue}
use Rattle.tall_deferred.specs.declared.values.ScriptValue.TheVariants as kept
use Rattle.tall_deferred.specs.declared.values.Variable.{Variable}
use Rattle.tall_deferred.specs.Values.{shared_seen}
use Rattle.tall_script.specs.Gathers.{gather_openings}
use Rattle.tall_script.specs.ScriptValues.{TallValue}
use Rattle.tall_script.specs.States.{Openings}
use Rattle.tall_environment.specs.Environments.{SeenEnvironment}

-- ---- classes

abbrev pub is_no_list : MemoryValue → Bool
is_no_list (memory.Value v) = true
is_no_list (memory.Texts ts) = false

-- neither a datastore nor a list of texts
abbrev pub may_gather : ScriptValue → Bool
may_gather (kept.Datastore place) = false
may_gather (kept.Table xs) = true
may_gather (kept.Tall n) = true
may_gather (kept.Memory v) = is_no_list v.value

-- ---- roots

abbrev pub node_in : Variable → ℕ
node_in x = x.node

abbrev pub nodes_in : ScriptValue → List ℕ
nodes_in (kept.Datastore place) = []
nodes_in (kept.Table xs) = map node_in xs.items
nodes_in (kept.Tall n) = n ∷ []
nodes_in (kept.Memory v) = []

-- what a gather of the roots may open
abbrev pub openings_by : SeenEnvironment → (roots : List ℕ) → List Openings
openings_by e roots = gather_openings 0 e.stores (map (shape_at e.graph) roots)

-- ---- values

-- the nodes that are scalars
abbrev pub single_in : List Vertex → ℕ → Bool
single_in vs n = is_single (shape_at vs n).space

-- a scalar is the only cell of its column, which has one
abbrev pub scalar_of : List Seen → Memory
scalar_of [] = texts []
scalar_of (c ∷ cs) = scalar c

abbrev pub root_memory : Bool → SeenColumn → Memory
root_memory true x = scalar_of x.cells
root_memory false x = column x

abbrev pub variable_by : (ℕ → SeenColumn) → Variable → List ℕ × SeenColumn
variable_by g x = (x.name, g x.node)

-- a value that may be gathered, where `g` is the column of each node
abbrev pub memory_by : (single : ℕ → Bool) → (g : ℕ → SeenColumn) → ScriptValue → Memory
memory_by single g (kept.Datastore place) = texts []
memory_by single g (kept.Table xs) = table (map (variable_by g) xs.items)
memory_by single g (kept.Tall n) = root_memory (single n) (g n)
memory_by single g (kept.Memory v) = shared_seen v

abbrev pub memories_by : (single : ℕ → Bool) → (g : ℕ → SeenColumn) → List ScriptValue → List Memory
memories_by single g vs = map (memory_by single g) vs

-- ---- one argument

abbrev pub only_of : Option (List TallValue) → Option TallValue
only_of None = None
only_of (Some []) = None
only_of (Some (v ∷ [])) = Some v
only_of (Some (v ∷ w ∷ vs)) = None

abbrev pub only_given : List (Argument TallValue) → Option TallValue
only_given args = only_of (all_of value_given args)
