-- What joining a block's part to a sum does.
use Rattle.std.specs.Prelude.{◌≡◌, ◌+◌, ◌<◌, ◌^◌, ℕ, Option, None, Some, List, [], ◌∷◌, ◌++◌, length}
use Rattle.tall_value.specs.declared.class.Class.{Class}
use Rattle.tall_value.specs.declared.functions.Scan.{Scan}
use Rattle.tall_value.specs.Cells.{Seen}
use Rattle.tall_value.specs.Classes.{kind_of}
use Rattle.tall_dense.specs.Columns.{SeenColumn}
use Rattle.tall_part.specs.NextCarries.{IsNextCarry}
use Rattle.tall_part.specs.declared.next_carry.NextCarry.{NextCarry}
use Rattle.tall_piece.specs.Carried.{with_fold}
use Rattle.tall_semantics.specs.Deferred.{Vertex}
use Rattle.tall_blocks.specs.Carries.{Rows, carry_for, flat}
use Rattle.tall_piece.specs.declared.parts.Part.{Part}
use Rattle.tall_piece.specs.declared.parts.Sum.{Sum}
use Rattle.tall_piece.specs.declared.wanted.Wanted.{Wanted}
use Rattle.tall_piece.specs.Wants.{AreGiven, FitsPart, FitsSum, IsPartOfRows, IsOfWay, IsSumOfBlocks, and_block, height_of}

-- a part that is not there fits
abbrev pub FitsIfThere : List Vertex → ℕ → Wanted → Option Part → Type 0
FitsIfThere vs n w None = Unit {0}
FitsIfThere vs n w (Some t) = FitsPart vs n w t

-- the part is there, and of these rows
abbrev pub IsThereOfRows : List Vertex → (rows : ℕ → Rows) → Wanted → Option Part → Type 0
IsThereOfRows vs rows w None = ⊥
IsThereOfRows vs rows w (Some t) = IsPartOfRows vs rows w t

-- the sum behind one block more; where the part is missing nothing is said of rows
pub record IsJoined (old : Sum) (part : Option Part) (new : Sum) : Type 0 where
  pub fits : (vs : List Vertex) (w : Wanted) (n m : ℕ) → FitsSum vs n w old → FitsIfThere vs m w part → n + m < 2 ^ 40 → FitsSum vs (n + m) w new
  pub rows : (vs : List Vertex) (w : Wanted) (given : ℕ → Option Seen) (blocks : ℕ → List Rows) (more : ℕ → Rows) → IsSumOfBlocks vs given blocks w old → IsThereOfRows vs more w part
      → AreGiven vs given blocks more w.way → height_of (λ i. flat (blocks i)) w.node w.way + height_of more w.node w.way < 2 ^ 40 → IsSumOfBlocks vs given (and_block blocks more) w new

-- what a call may ask for: they fit some node
abbrev pub CanJoin : Sum → Option Part → Type 0
CanJoin old part = (vs : List Vertex) × (w : Wanted) × (n : ℕ) × (m : ℕ) × FitsSum vs n w old × FitsIfThere vs m w part × (n + m < 2 ^ 40)

-- the carries so far with that of the next block, where it is there
abbrev pub IsWithCarry : NextCarry → (old new : SeenColumn) → Type 0
IsWithCarry next old new = (o : Option Seen) × (new.class ≡ old.class) × (new.cells ≡ with_fold old.cells o)
    × ((s : Scan) (class : Class) (blocks : List (List Seen)) → IsNextCarry s class blocks next → (more : List Seen) (rest : List (List Seen)) → o ≡ carry_for s (kind_of class) (blocks ++ more ∷ rest) (length blocks))

-- ---- all sums

-- the first part; behind the last one there is none
abbrev pub part_first : List (Option Part) → Option Part
part_first [] = None
part_first (o ∷ os) = o

abbrev pub parts_rest : List (Option Part) → List (Option Part)
parts_rest [] = []
parts_rest (o ∷ os) = os

abbrev pub AllCanJoin : List Sum → List (Option Part) → Type 0
AllCanJoin [] os = Unit {0}
AllCanJoin (s ∷ ss) os = CanJoin s (part_first os) × AllCanJoin ss (parts_rest os)

-- each with the part at its place
abbrev pub AreAllJoined : List Sum → List (Option Part) → List Sum → Type 0
AreAllJoined [] os ns = ns ≡ []
AreAllJoined (s ∷ ss) os [] = ⊥
AreAllJoined (s ∷ ss) os (n ∷ ns) = IsJoined s (part_first os) n × AreAllJoined ss (parts_rest os) ns

-- ---- before the first block

abbrev pub IsFirst : List Vertex → Wanted → Sum → Type 0
IsFirst vs w s = FitsSum vs 0 w s × ((given : ℕ → Option Seen) → IsSumOfBlocks vs given (λ i. []) w s)

abbrev pub AreWays : List Vertex → List Wanted → Type 0
AreWays vs [] = Unit {0}
AreWays vs (w ∷ ws) = ((w.node < length vs) × IsOfWay vs w.node w.way) × AreWays vs ws

abbrev pub AreFirst : List Vertex → List Wanted → List Sum → Type 0
AreFirst vs [] ss = ss ≡ []
AreFirst vs (w ∷ ws) [] = ⊥
AreFirst vs (w ∷ ws) (s ∷ ss) = IsFirst vs w s × AreFirst vs ws ss
