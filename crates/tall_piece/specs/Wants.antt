-- What a graph says of the nodes that are wanted of a pass, and what parts and sums are ones of.
use Rattle.std.specs.Prelude.{◌≡◌, ◌≤◌, ◌<◌, ◌⊎◌, ℕ, Option, Some, Ok, List, [], ◌∷◌, ◌++◌, length, map, slice_get}
use Rattle.tall_value.specs.declared.class.Class.{Class}
use Rattle.tall_value.specs.Cells.{Seen}
use Rattle.tall_value.specs.Classes.{kind_of}
use Rattle.tall_value.specs.Columns.{cells}
use Rattle.tall_value.specs.FunctionClasses.{scan_class}
use Rattle.tall_dense.specs.Columns.{SeenColumn}
use Rattle.tall_fold.specs.Carries.{SeenCarry}
use Rattle.tall_semantics.specs.Operations.{scan, operation}
use Rattle.tall_semantics.specs.Deferred.{Vertex}
use Rattle.tall_semantics.specs.ShapesInOrder.{shape_at}
use Rattle.tall_blocks.specs.Carries.{Rows, carry_for, flat}
use Rattle.tall_part.specs.Operations.{IsTaken, op_of}
use Rattle.tall_part.specs.Parts.{IsPart, IsPartOf}
use Rattle.tall_part.specs.NextCarries.{IsBlockCarry, IsNextCarry}
use Rattle.tall_part.specs.declared.operation.EndOperation.{EndOperation}
use Rattle.tall_part.specs.declared.operation.EndOperation.TheVariants as end
use Rattle.tall_part.specs.declared.next_carry.NextCarry.{NextCarry}
use Rattle.tall_part.specs.declared.part.EndPart.{EndPart}
use Rattle.tall_piece.specs.Carried.{AreCarries}
use Rattle.tall_piece.specs.declared.parts.Part.{Part}
use Rattle.tall_piece.specs.declared.parts.Part.TheVariants as part
use Rattle.tall_piece.specs.declared.parts.Sum.{Sum}
use Rattle.tall_piece.specs.declared.parts.Sum.TheVariants as sum
use Rattle.tall_piece.specs.declared.wanted.Way.{Way}
use Rattle.tall_piece.specs.declared.wanted.Way.TheVariants as way
use Rattle.tall_piece.specs.declared.wanted.Wanted.{Wanted}

abbrev pub class_at : List Vertex → ℕ → Class
class_at vs i = (shape_at vs i).class

-- ---- nodes

-- groups alone have two operands
abbrev pub HasTwo : EndOperation → Type 0
HasTwo (end.Reduce r) = ⊥
HasTwo (end.Head k) = ⊥
HasTwo (end.Tail k) = ⊥
HasTwo end.Distinct = ⊥
HasTwo (end.Group m) = Unit {0}

-- one operand is the first and the last
abbrev pub AreOperands : EndOperation → List ℕ → (first last : ℕ) → Type 0
AreOperands e args a b = ((args ≡ a ∷ []) × (b ≡ a)) ⊎ (HasTwo e × (args ≡ a ∷ b ∷ []))

-- the node at i is of the way
abbrev pub IsOfWay : List Vertex → (i : ℕ) → Way → Type 0
IsOfWay vs i (way.End e a b) =
    (v : Vertex) × (n : ℕ) × (slice_get vs i ≡ Some v) × (v.made ≡ operation (op_of e n)) × AreOperands e v.args a b × IsTaken e (class_at vs a) (class_at vs b) × (a < length vs) × (b < length vs) × ((shape_at vs a).space ≡ (shape_at vs b).space)
IsOfWay vs i (way.Carries s a) = (v : Vertex) × (slice_get vs i ≡ Some v) × (v.made ≡ operation (scan s)) × (v.args ≡ a ∷ []) × (scan_class s (class_at vs a) ≡ Ok (class_at vs i)) × (a < length vs)
IsOfWay vs i way.Rows = (v : Vertex) × (slice_get vs i ≡ Some v)

-- ---- a part of rows that `rows` tells by the places of nodes

abbrev pub IsEndPart : List Vertex → (rows : ℕ → Rows) → Way → EndPart → Type 0
IsEndPart vs rows (way.End e a b) t = IsPartOf e (class_at vs a) (class_at vs b) (rows a) (rows b) t
IsEndPart vs rows (way.Carries s a) t = ⊥
IsEndPart vs rows way.Rows t = ⊥

abbrev pub IsCarryPart : List Vertex → (rows : ℕ → Rows) → Way → SeenCarry → Type 0
IsCarryPart vs rows (way.End e a b) c = ⊥
IsCarryPart vs rows (way.Carries s a) c = IsBlockCarry s (class_at vs a) (cells (rows a)) c
IsCarryPart vs rows way.Rows c = ⊥

abbrev pub IsColumnPart : (rows : ℕ → Rows) → (i : ℕ) → Way → SeenColumn → Type 0
IsColumnPart rows i (way.End e a b) column = ⊥
IsColumnPart rows i (way.Carries s a) column = ⊥
IsColumnPart rows i way.Rows column = column.cells ≡ cells (rows i)

abbrev pub IsPartOfRows : List Vertex → (rows : ℕ → Rows) → Wanted → Part → Type 0
IsPartOfRows vs rows w (part.End t) = IsEndPart vs rows w.way t
IsPartOfRows vs rows w (part.Carry c) = IsCarryPart vs rows w.way c
IsPartOfRows vs rows w (part.Rows column) = IsColumnPart rows w.node w.way column

-- the number of rows that the node's value is told from
abbrev pub height_of : (rows : ℕ → Rows) → (i : ℕ) → Way → ℕ
height_of rows i (way.End e a b) = length (rows a)
height_of rows i (way.Carries s a) = length (rows a)
height_of rows i way.Rows = length (rows i)

-- ---- a sum over blocks, of which `blocks` tells the rows by the places of nodes; `given` tells the carries by block

abbrev pub blocks_cells : List Rows → List (List Seen)
blocks_cells rss = map cells rss

abbrev pub IsNextOf : List Vertex → (given : ℕ → Option Seen) → (blocks : ℕ → List Rows) → Way → NextCarry → SeenColumn → Type 0
IsNextOf vs given blocks (way.End e a b) c column = ⊥
IsNextOf vs given blocks (way.Carries s a) c column = IsNextCarry s (class_at vs a) (blocks_cells (blocks a)) c × AreCarries given (length (blocks a)) column.cells
IsNextOf vs given blocks way.Rows c column = ⊥

abbrev pub IsSumOfBlocks : List Vertex → (given : ℕ → Option Seen) → (blocks : ℕ → List Rows) → Wanted → Sum → Type 0
IsSumOfBlocks vs given blocks w (sum.End t) = IsEndPart vs (λ i. flat (blocks i)) w.way t
IsSumOfBlocks vs given blocks w (sum.Carries next column) = IsNextOf vs given blocks w.way next column
IsSumOfBlocks vs given blocks w (sum.Rows column) = IsColumnPart (λ i. flat (blocks i)) w.node w.way column

-- with one block more
abbrev pub and_block : (ℕ → List Rows) → (more : ℕ → Rows) → ℕ → List Rows
and_block blocks more i = blocks i ++ more i ∷ []

-- the carries are those of the scan over these blocks, one more, and those behind it
abbrev pub AreGiven : List Vertex → (given : ℕ → Option Seen) → (blocks : ℕ → List Rows) → (more : ℕ → Rows) → Way → Type 0
AreGiven vs given blocks more (way.End e a b) = Unit {0}
AreGiven vs given blocks more (way.Carries s a) = (rest : List (List Seen)) × ((m : ℕ) → given m ≡ carry_for s (kind_of (class_at vs a)) (blocks_cells (blocks a) ++ cells (more a) ∷ rest) m)
AreGiven vs given blocks more way.Rows = Unit {0}

-- ---- whatever the shelf tells: of some rows, at most n

abbrev pub SomeEnd : List Vertex → ℕ → Way → EndPart → Type 0
SomeEnd vs n (way.End e a b) t = IsPart e (class_at vs a) (class_at vs b) n t
SomeEnd vs n (way.Carries s a) t = ⊥
SomeEnd vs n way.Rows t = ⊥

abbrev pub SomeCarry : List Vertex → ℕ → Way → SeenCarry → Type 0
SomeCarry vs n (way.End e a b) c = ⊥
SomeCarry vs n (way.Carries s a) c = (cs : List Seen) × IsBlockCarry s (class_at vs a) cs c × (length cs ≤ n)
SomeCarry vs n way.Rows c = ⊥

abbrev pub SomeNext : List Vertex → ℕ → (i : ℕ) → Way → NextCarry → SeenColumn → Type 0
SomeNext vs n i (way.End e a b) c column = ⊥
SomeNext vs n i (way.Carries s a) c column = (blocks : List (List Seen)) × IsNextCarry s (class_at vs a) blocks c × (length (flat blocks) ≤ n) × (column.class ≡ class_at vs i) × (scan_class s (class_at vs a) ≡ Ok (class_at vs i))
SomeNext vs n i way.Rows c column = ⊥

abbrev pub SomeColumn : List Vertex → ℕ → (i : ℕ) → Way → SeenColumn → Type 0
SomeColumn vs n i (way.End e a b) column = ⊥
SomeColumn vs n i (way.Carries s a) column = ⊥
SomeColumn vs n i way.Rows column = (column.class ≡ class_at vs i) × (length column.cells ≤ n)

-- a block's part for the node
abbrev pub FitsPart : List Vertex → ℕ → Wanted → Part → Type 0
FitsPart vs n w (part.End t) = SomeEnd vs n w.way t
FitsPart vs n w (part.Carry c) = SomeCarry vs n w.way c
FitsPart vs n w (part.Rows column) = SomeColumn vs n w.node w.way column

-- what the blocks so far give for it
abbrev pub FitsSum : List Vertex → ℕ → Wanted → Sum → Type 0
FitsSum vs n w (sum.End t) = SomeEnd vs n w.way t
FitsSum vs n w (sum.Carries next column) = SomeNext vs n w.node w.way next column
FitsSum vs n w (sum.Rows column) = SomeColumn vs n w.node w.way column
