-- What answers a word of the definitions over a graph: for all columns and all solutions f of its equations.
use Rattle.std.specs.Prelude.{ℕ, ◌≡◌, List, [], ◌∷◌, ◌++◌, length, Result, Ok, Err}
use Rattle.tall_semantics.specs.Deferred.{Vertex, IsMeaning}
use Rattle.tall_semantics.specs.Faults.{At}
use Rattle.tall_semantics.specs.Operations.{Made, stored, operation}
use Rattle.tall_semantics.specs.Talls.{Tall, Columns}
use Rattle.tall_local.specs.Refusals.{Refusal, bad_argument}
use Rattle.tall_script.specs.ScriptValues.{computed}
use Rattle.tall_script.specs.VertexLaws.{Adds}
use Rattle.tall_deferred.specs.declared.faults.ValueFault.{ValueFault}
use Rattle.tall_deferred.specs.Faults.{IsDue}

-- ---- values

-- the answer is the value that is wanted, as `view` sees it, or its refusal
abbrev pub Comes : {V D : Type 0} → (V → D) → Result D Refusal → Result V ValueFault → Type 0
Comes view want (Ok v) = want ≡ Ok (view v)
Comes view want (Err e) = IsDue want e

-- `want` is a word over the values of the graph's nodes
abbrev pub Means : {V D : Type 0} → List Vertex → ((ℕ → Tall) → V → D) → ((ℕ → Tall) → Result D Refusal) → Result V ValueFault → Type 0
Means vs view want result = (columns : Columns) (f : ℕ → Tall) → IsMeaning columns vs f → Comes (view f) (want f) result

-- ---- graphs

-- what an expression leaves of a graph
abbrev pub Extends : At → List Vertex → List Vertex → Type 0
Extends at old new = (ws : List Vertex) × Adds at (length old) ws × (new ≡ old ++ ws)

-- one vertex more, which is the answer
abbrev pub IsPushed : List Vertex → Vertex → Result ℕ ValueFault → List Vertex → Type 0
IsPushed old v (Ok n) new = (n ≡ length old) × (new ≡ old ++ v ∷ [])
IsPushed old v (Err e) new = new ≡ old

-- ---- operations

-- of what is made by an operation; a stored column is none
abbrev pub computed_of : At → Made → List Tall → Result Tall Refusal
computed_of at (operation o) xs = computed at o xs
computed_of at (stored s v c) xs = Err bad_argument

abbrev pub node_at : (ℕ → Tall) → ℕ → Tall
node_at f n = f n
