-- What a clause sees of values of a script. A tall value is a node of a graph; `f` tells the value of each node.
use Rattle.std.specs.Prelude.{ℕ, ◌<◌, if◌then◌else◌, List, [], ◌∷◌, map, Option, None, Some, Vec}
use Rattle.std.specs.Str.{bytes_eq}
use Rattle.std.specs.List.{All}
use Rattle.std.specs.declared.alloc.Global.{Global}
use Rattle.std.specs.declared.rc.Rc.{Rc}
use Rattle.tall_semantics.specs.Faults as semantics
use Rattle.tall_semantics.specs.Talls.{Tall}
use Rattle.tall_local.specs.Arguments.{Index, rows_at, all_variables_at}
use Rattle.tall_local.specs.Values.{datastore, tall_table, deferred, in_memory}
use Rattle.tall_local.specs.Memory.{Memory}
use Rattle.tall_memory.specs.declared.values.MemoryValue.{MemoryValue}
use Rattle.tall_memory.specs.Values.{ref_seen, value_seen}
use Rattle.tall_script.specs.ScriptValues.{TallValue}
use Rattle.tall_deferred.specs.declared.values.At.{At}
use Rattle.tall_deferred.specs.declared.values.ScriptIndex.{ScriptIndex}
use Rattle.tall_deferred.specs.declared.values.ScriptIndex.TheVariants as index
use Rattle.tall_deferred.specs.declared.values.ScriptRef.{ScriptRef}
use Rattle.tall_deferred.specs.declared.values.ScriptRef.TheVariants as lent
use Rattle.tall_deferred.specs.declared.values.ScriptValue.{ScriptValue}
use Rattle.tall_deferred.specs.declared.values.ScriptValue.TheVariants as kept
use Rattle.tall_deferred.specs.declared.values.Variable.{Variable}

abbrev pub at_seen : At → semantics.At
at_seen at = record { number = at.number; line = at.line }

abbrev pub variable_at : (ℕ → Tall) → Variable → List ℕ × Tall
variable_at f x = (x.name, f x.node)

abbrev pub variables_at : (ℕ → Tall) → List Variable → List (List ℕ × Tall)
variables_at f xs = map (variable_at f) xs

abbrev pub columns_at : {Z : Type 0} → (ℕ → Tall) → Vec Variable Z → List (List ℕ × Tall)
columns_at f xs = variables_at f xs.items

-- a value in memory that is shared
abbrev pub Shared : Type 0
Shared = Rc MemoryValue Global

abbrev pub shared_seen : Shared → Memory
shared_seen v = value_seen v.value

abbrev pub value_at : (ℕ → Tall) → ScriptValue → TallValue
value_at f (kept.Datastore place) = datastore place
value_at f (kept.Table xs) = tall_table (variables_at f xs.items)
value_at f (kept.Tall n) = deferred (f n)
value_at f (kept.Memory v) = in_memory (shared_seen v)

abbrev pub lent_at : (ℕ → Tall) → ScriptRef → TallValue
lent_at f (lent.Datastore place) = datastore place
lent_at f (lent.Table xs) = tall_table (variables_at f xs.now)
lent_at f (lent.Tall n) = deferred (f n)
lent_at f (lent.Memory v) = in_memory (ref_seen v)

-- ---- of a graph of n nodes

abbrev pub IsVariable : ℕ → Variable → Type 0
IsVariable n x = x.node < n

abbrev pub IsValue : ℕ → ScriptValue → Type 0
IsValue n (kept.Datastore place) = Unit {0}
IsValue n (kept.Table xs) = All (IsVariable n) xs.items
IsValue n (kept.Tall x) = x < n
IsValue n (kept.Memory v) = Unit {0}

abbrev pub IsLent : ℕ → ScriptRef → Type 0
IsLent n (lent.Datastore place) = Unit {0}
IsLent n (lent.Table xs) = All (IsVariable n) xs.now
IsLent n (lent.Tall x) = x < n
IsLent n (lent.Memory v) = Unit {0}

abbrev pub IsInMemory : ScriptValue → Type 0
IsInMemory (kept.Memory v) = Unit {0}
IsInMemory v = ⊥

-- ---- indexes

abbrev pub index_at : (ℕ → Tall) → ScriptIndex → Option (Index TallValue)
index_at f (index.Rows i) = Some (rows_at (lent_at f i))
index_at f (index.AllVariables i) = Some (all_variables_at (lent_at f i))
index_at f index.OtherForm = None

abbrev pub IsIndex : ℕ → ScriptIndex → Type 0
IsIndex n (index.Rows i) = IsLent n i
IsIndex n (index.AllVariables i) = IsLent n i
IsIndex n index.OtherForm = Unit {0}

-- ---- variables

-- the node of the first variable of a name
abbrev pub node_named : List Variable → List ℕ → Option ℕ
node_named [] name = None
node_named (x ∷ xs) name = if bytes_eq x.name name then Some x.node else node_named xs name
