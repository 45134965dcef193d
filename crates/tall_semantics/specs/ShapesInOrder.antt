-- The shapes of a list of vertices by recursion, earlier vertices first, and which lists are made: each operand stands
-- before what is made of it, and each operation is accepted. What is accepted follows from shapes alone, so from no column
-- and no outcome: a list is made exactly where it is sound, and its values have these shapes (src/laws.rt).
use Rattle.std.specs.Prelude.{◌≡◌, ℕ, Some, Result, Ok, Err, List, [], ◌∷◌, ◌++◌, map, get_or, slice_get}
use Rattle.tall_semantics.specs.Operations.{Made, stored, operation}
use Rattle.tall_semantics.specs.Shapes.{Shape, ShapeRefusal, bad_argument, shape, stored_shape}
use Rattle.tall_semantics.specs.Deferred.{Vertex, AllBelow}
use Rattle.tall_semantics.specs.InOrder.{blank}

-- the shape of what is made of operands with these shapes, or its refusal
abbrev pub made_shape : Made → List Shape → Result Shape ShapeRefusal
made_shape (stored s v c) [] = Ok (stored_shape s v c)
made_shape (stored s v c) (x ∷ xs) = Err bad_argument
made_shape (operation op) xs = shape op xs

-- the shape of what is refused, which no made list has
abbrev pub or_blank_shape : Result Shape ShapeRefusal → Shape
or_blank_shape (Ok s) = s
or_blank_shape (Err e) = blank.shape

abbrev pub shape_in : List Shape → ℕ → Shape
shape_in ss n = get_or ss n blank.shape

abbrev pub next_shape : List Shape → Vertex → Shape
next_shape ss v = or_blank_shape (made_shape v.made (map (shape_in ss) v.args))

unfoldable pub shapes_from : List Shape → List Vertex → List Shape
shapes_from ss [] = ss
shapes_from ss (v ∷ vs) = shapes_from (ss ++ next_shape ss v ∷ []) vs

abbrev pub shapes_of : List Vertex → List Shape
shapes_of vs = shapes_from [] vs

-- the shape of the value at a place
abbrev pub shape_at : List Vertex → ℕ → Shape
shape_at vs i = shape_in (shapes_of vs) i

-- what stands at these places of the list makes a value
abbrev pub CanBeMade : List Vertex → Made → List ℕ → Type 0
CanBeMade vs made args = (s : Shape) × (made_shape made (map (shape_at vs) args) ≡ Ok s)

abbrev pub IsMade : List Vertex → Type 0
IsMade vs = (i : ℕ) (v : Vertex) → slice_get vs i ≡ Some v → AllBelow i v.args × CanBeMade vs v.made v.args
