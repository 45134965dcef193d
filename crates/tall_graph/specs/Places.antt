-- The class and the space of what is made, told by the places of nodes.
use Rattle.std.specs.Prelude.{◌≡◌, ℕ, ◌<◌, Option, None, Some, Result, Ok, Err, List, [], ◌∷◌}
use Rattle.tall_value.specs.declared.class.Class.{Class}
use Rattle.tall_semantics.specs.Operations.{Made, stored, operation, Tree}
use Rattle.tall_semantics.specs.Spaces.{Space, single, rows_of, filtered, first, last, groups}
use Rattle.tall_semantics.specs.Spaces as spaces
use Rattle.tall_semantics.specs.Shapes.{Shape, ShapeRefusal, bad_argument, place_of, chain_of}
use Rattle.tall_semantics.specs.Equality.{same_space}
use Rattle.tall_semantics.specs.Deferred.{Vertex}
use Rattle.tall_semantics.specs.ShapesInOrder.{shape_at}
use Rattle.tall_graph.specs.declared.operations.GraphFault.{GraphFault}
use Rattle.tall_graph.specs.declared.operations.GraphFault.TheVariants.{BadArgument}
use Rattle.tall_graph.specs.declared.operands.SpaceNumber.{SpaceNumber}
use Rattle.tall_graph.specs.declared.operands.SpaceNumber.TheVariants as number
use Rattle.tall_graph.specs.declared.operands.Operands.{Operands}
use Rattle.tall_graph.specs.declared.operands.Operands.TheVariants as operands
use Rattle.tall_graph.specs.declared.operands.NewSpace.{NewSpace}
use Rattle.tall_graph.specs.declared.operands.NewSpace.TheVariants as new
use Rattle.tall_graph.specs.declared.operands.Placed.{Placed}
use Rattle.tall_graph.specs.Vertices.{refusal_of}
use Rattle.tall_graph.specs.Trees.{trees_of, spaces_of}
use Rattle.tall_graph.specs.Numbers.{IsNumber}
use Rattle.tall_graph.specs.Keys.{IsSpaceKey}

abbrev pub places : Operands → List ℕ
places operands.Nothing = []
places (operands.One x) = x ∷ []
places (operands.Two x y) = x ∷ y ∷ []

-- more than two operands are refused, whatever they are
abbrev pub IsListed : List ℕ → Result Operands GraphFault → Type 0
IsListed args (Ok o) = args ≡ places o
IsListed args (Err e) = (e ≡ BadArgument) × ((x : ℕ) × (y : ℕ) × (z : ℕ) × (rest : List ℕ) × (args ≡ x ∷ y ∷ z ∷ rest))

abbrev pub AreWithin : ℕ → Operands → Type 0
AreWithin n operands.Nothing = Unit {0}
AreWithin n (operands.One x) = x < n
AreWithin n (operands.Two x y) = (x < n) × (y < n)

abbrev pub tree_at : List Vertex → ℕ → Tree
tree_at vs i = (shape_at vs i).tree

abbrev pub data_at : List Vertex → Option ℕ → Option Tree
data_at vs None = None
data_at vs (Some i) = Some (tree_at vs i)

abbrev pub space_told : List Vertex → NewSpace → Space
space_told vs (new.Of x) = (shape_at vs x).space
space_told vs new.Single = single
space_told vs (new.RowsOf s) = rows_of s
space_told vs (new.Kept x m) = filtered (shape_at vs x).space (tree_at vs m)
space_told vs (new.First k x) = first k (shape_at vs x).space
space_told vs (new.Last k x) = last k (shape_at vs x).space
space_told vs (new.Distinct x) = spaces.distinct (tree_at vs x)
space_told vs (new.Groups m g d) = groups m (tree_at vs g) (data_at vs d)

abbrev pub space_result : List Vertex → Result NewSpace GraphFault → Result Space ShapeRefusal
space_result vs (Ok s) = Ok (space_told vs s)
space_result vs (Err e) = Err (refusal_of e)

abbrev pub place_result : List Vertex → Result Placed GraphFault → Result (Class × Space) ShapeRefusal
place_result vs (Ok p) = Ok (p.class, space_told vs p.space)
place_result vs (Err e) = Err (refusal_of e)

-- the class and the space of what is made of operands with these shapes, or why it is refused
abbrev pub made_place : Made → List Shape → Result (Class × Space) ShapeRefusal
made_place (stored s v c) [] = Ok (c, rows_of s)
made_place (stored s v c) (x ∷ xs) = Err bad_argument
made_place (operation f) xs = place_of f xs

abbrev pub chain_over : Made → List Shape → ℕ
chain_over (stored s v c) xs = 0
chain_over (operation f) xs = chain_of f xs

-- ---- numbers

abbrev pub IsDataWithin : ℕ → Option ℕ → Type 0
IsDataWithin n None = Unit {0}
IsDataWithin n (Some x) = x < n

abbrev pub IsWithin : ℕ → NewSpace → Type 0
IsWithin n (new.Of x) = x < n
IsWithin n new.Single = Unit {0}
IsWithin n (new.RowsOf s) = Unit {0}
IsWithin n (new.Kept x m) = (x < n) × (m < n)
IsWithin n (new.First k x) = x < n
IsWithin n (new.Last k x) = x < n
IsWithin n (new.Distinct x) = x < n
IsWithin n (new.Groups m g d) = (g < n) × IsDataWithin n d

-- a number that the graph has, or a key of its table
abbrev pub IsSpaceNumber : List Vertex → SpaceNumber → Space → Type 0
IsSpaceNumber vs (number.Known n) s = IsNumber same_space (spaces_of vs) n s
IsSpaceNumber vs (number.New k) s = IsSpaceKey (spaces_of vs) (trees_of vs) k s
