-- What is there of a block: the variables of its datastore, and the columns that were computed of nodes. They show outcomes
-- over the block's rows; values that are known as a whole are the same over each block.
use Rattle.std.specs.Prelude.{◌≡◌, ◌≤◌, ℕ, nat_eq, if◌then◌else◌, true, false, Bool, Option, None, Some, Result, List, [], ◌∷◌, length, option_map, slice_get}
use Rattle.std.specs.HashMap.{HashMap, get}
use Rattle.tall_value.specs.Cells.{Seen}
use Rattle.tall_value.specs.declared.class.Class.{Class}
use Rattle.tall_value.specs.contracts.class.ClassPartialEq.TheImpl as class_eq
use Rattle.tall_dense.specs.Columns.{SeenColumn}
use Rattle.tall_dense.specs.declared.faults.OpFault.{OpFault}
use Rattle.tall_column.specs.Tables.{height_of}
use Rattle.tall_semantics.specs.Faults.{At}
use Rattle.tall_semantics.specs.Operations.{Op, Made, stored, operation}
use Rattle.tall_semantics.specs.Outcomes.{Outcome, rows_in, scalar}
use Rattle.tall_semantics.specs.Spaces.{is_single}
use Rattle.tall_semantics.specs.Talls.{Tall, Columns}
use Rattle.tall_semantics.specs.Deferred.{Vertex}
use Rattle.tall_blocks.specs.Cut.{AreAligned, AreCut}
use Rattle.tall_blocks.specs.ValuesOver.{IsOver}
use Rattle.tall_semantics.specs.ShapesInOrder.{shape_at}
use Rattle.tall_fuse.specs.Results.{Found}
use Rattle.tall_fuse.specs.Kept.{found}
use Rattle.tall_fuse.specs.declared.known.Known.{Known}
use Rattle.tall_block.specs.Shown.{Shows, Tells}

-- ---- columns

-- a column of another class is none
abbrev pub of_class : Class → Option SeenColumn → Option SeenColumn
of_class k None = None
of_class k (Some c) = if (class_eq.ghosts).eq c.class k then Some c else None

-- a variable's column
abbrev pub variable_at : List (List ℕ × SeenColumn) → (variable : ℕ) → Class → Option SeenColumn
variable_at table x k = of_class k (option_map (λ (e : List ℕ × SeenColumn). e.1) (slice_get table x))

module _ {S : Type 0} where
  abbrev pub made_at : List (List ℕ × SeenColumn) → HashMap ℕ SeenColumn S → Made → ℕ → Option SeenColumn
  made_at table made (stored s x k) i = variable_at table x k
  made_at table made (operation op) i = get nat_eq made i

  abbrev pub vertex_column : List (List ℕ × SeenColumn) → HashMap ℕ SeenColumn S → Option Vertex → ℕ → Option SeenColumn
  vertex_column table made None i = None
  vertex_column table made (Some v) i = made_at table made v.made i

  -- the column that is there of the node at a place
  abbrev pub column_at : List Vertex → List (List ℕ × SeenColumn) → HashMap ℕ SeenColumn S → ℕ → Option SeenColumn
  column_at vs table made i = vertex_column table made (slice_get vs i) i

  abbrev pub IsThere : List Vertex → List (List ℕ × SeenColumn) → HashMap ℕ SeenColumn S → ℕ → Type 0
  IsThere vs table made i = (c : SeenColumn) × (column_at vs table made i ≡ Some c)

  -- each has the class of its node, which is no scalar
  abbrev pub AreColumns : List Vertex → List (List ℕ × SeenColumn) → HashMap ℕ SeenColumn S → Type 0
  AreColumns vs table made = (i : ℕ) (c : SeenColumn) → column_at vs table made i ≡ Some c → (c.class ≡ (shape_at vs i).class) × (is_single (shape_at vs i).space ≡ false)

  -- none has more rows than the variables
  abbrev pub AreShort : List Vertex → List (List ℕ × SeenColumn) → HashMap ℕ SeenColumn S → Type 0
  AreShort vs table made = (i : ℕ) (c : SeenColumn) → column_at vs table made i ≡ Some c → length c.cells ≤ height_of table

  -- each of a node that is cut shows the node's outcome
  abbrev pub AreShown : List Vertex → (cut : ℕ → Bool) → List (List ℕ × SeenColumn) → HashMap ℕ SeenColumn S → (ℕ → Outcome) → Type 0
  AreShown vs cut table made h = (i : ℕ) (c : SeenColumn) → cut i ≡ true → column_at vs table made i ≡ Some c → Shows (h i) c.cells

-- ---- scalars that are known

abbrev pub first_cell : List Seen → Option Seen
first_cell [] = None
first_cell (c ∷ cs) = Some c

abbrev pub scalar_of : Option Found → Option Seen
scalar_of None = None
scalar_of (Some r) = first_cell r.column.cells

-- the scalar that is known of a node
abbrev pub known_scalar : Known → ℕ → Option Seen
known_scalar known i = scalar_of (found known i)

-- ---- nodes, and outcomes over the block

abbrev pub vertex_over : At → Op → List ℕ → Vertex
vertex_over at op args = record { at = at; made = operation op; args = args }

-- the operation over these operands makes the node
abbrev pub IsOperation : List Vertex → (place : ℕ) → Op → List ℕ → Type 0
IsOperation vs i op args = (at : At) × (slice_get vs i ≡ Some (vertex_over at op args))

-- h are the outcomes over a block's rows, of a pass over the values f that computes by blocks what is cut
pub record AreOfBlock (vs : List Vertex) (columns : Columns) (so_far : ℕ → List Seen) (f : ℕ → Tall) (cut : ℕ → Bool) (h : ℕ → Outcome) : Type 0 where
  pub over : IsOver columns so_far vs f cut h
  pub can : AreCut f cut vs
  pub aligned : AreAligned vs cut h

-- the columns of nodes show their outcomes
abbrev pub Show : (ℕ → Outcome) → List (ℕ × SeenColumn) → Type 0
Show h [] = Unit {0}
Show h (x ∷ xs) = Shows (h x.0) x.1.cells × Show h xs

-- what the answer of a node over these columns of its operands, of which `lead` is the first with rows, tells of its outcome
-- over any such block
abbrev pub TellsNode : List Vertex → (place : ℕ) → Op → List ℕ → List (ℕ × SeenColumn) → (lead : ℕ) → Result SeenColumn OpFault → Type 0
TellsNode vs i op args operands lead result = (columns : Columns) (so_far : ℕ → List Seen) (f : ℕ → Tall) (cut : ℕ → Bool) (h : ℕ → Outcome) → AreOfBlock vs columns so_far f cut h → cut i ≡ true
    → Show h operands → (at : At) → slice_get vs i ≡ Some (vertex_over at op args) → Tells at (rows_in (h lead)) (h i) result

-- the same, where the node at s is the scalar c
abbrev pub TellsBeside : List Vertex → (place : ℕ) → Op → List ℕ → List (ℕ × SeenColumn) → (lead : ℕ) → (s : ℕ) → Seen → Result SeenColumn OpFault → Type 0
TellsBeside vs i op args operands lead s c result = (columns : Columns) (so_far : ℕ → List Seen) (f : ℕ → Tall) (cut : ℕ → Bool) (h : ℕ → Outcome) → AreOfBlock vs columns so_far f cut h → cut i ≡ true
    → Show h operands → h s ≡ scalar c → (at : At) → slice_get vs i ≡ Some (vertex_over at op args) → Tells at (rows_in (h lead)) (h i) result

-- what the column of a node over these columns of its operands shows over any such block
abbrev pub ShowsNode : List Vertex → (place : ℕ) → Op → List ℕ → List (ℕ × SeenColumn) → SeenColumn → Type 0
ShowsNode vs i op args operands column = (columns : Columns) (so_far : ℕ → List Seen) (f : ℕ → Tall) (cut : ℕ → Bool) (h : ℕ → Outcome) → AreOfBlock vs columns so_far f cut h → cut i ≡ true
    → Show h operands → (at : At) → slice_get vs i ≡ Some (vertex_over at op args) → Shows (h i) column.cells
