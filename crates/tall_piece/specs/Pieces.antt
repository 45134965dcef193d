-- Which piece is right for a block of a pass, and what the pieces of the first n blocks come to when they are joined.
use Rattle.std.specs.Prelude.{◌≡◌, ◌+◌, ◌<◌, ◌≤◌, ◌^◌, ℕ, Option, List, [], ◌∷◌, slice_get}
use Rattle.tall_semantics.specs.Faults.{Fault, earlier}
use Rattle.tall_semantics.specs.Outcomes.{Outcome, rows_in}
use Rattle.tall_semantics.specs.Deferred.{Vertex}
use Rattle.tall_semantics.specs.Least.{IsBelow}
use Rattle.tall_semantics.specs.Numbered.{number_at}
use Rattle.tall_blocks.specs.Carries.{Rows, flat}
use Rattle.tall_piece.specs.declared.parts.Part.{Part}
use Rattle.tall_piece.specs.declared.parts.Sum.{Sum}
use Rattle.tall_piece.specs.declared.wanted.Wanted.{Wanted}
use Rattle.tall_piece.specs.Joins.{FitsIfThere, IsThereOfRows, part_first, parts_rest}
use Rattle.tall_piece.specs.Passes.{PassOver, IsSeen, blocks_up_to, carry_of, fault_up_to}
use Rattle.tall_piece.specs.Wants.{FitsSum, IsSumOfBlocks, height_of}

-- ---- whatever the shelf tells

-- each part that is there is one of at most so many rows
abbrev pub PartsFit : List Vertex → (rows : ℕ) → List Wanted → List (Option Part) → Type 0
PartsFit vs n [] os = Unit {0}
PartsFit vs n (w ∷ ws) os = FitsIfThere vs n w (part_first os) × PartsFit vs n ws (parts_rest os)

-- each node that is wanted has its sum
abbrev pub SumsFit : List Vertex → (rows : ℕ) → List Wanted → List Sum → Type 0
SumsFit vs n [] ss = ss ≡ []
SumsFit vs n (w ∷ ws) [] = ⊥
SumsFit vs n (w ∷ ws) (s ∷ ss) = FitsSum vs n w s × SumsFit vs n ws ss

-- what joining a block asks for: both fit the same nodes, and they have fewer than 2^40 rows together
abbrev pub CanGoOn : (rows : ℕ) → List Sum → (more : ℕ) → List (Option Part) → Type 0
CanGoOn n ss m os = (vs : List Vertex) × (ws : List Wanted) × SumsFit vs n ws ss × PartsFit vs m ws os × (n + m < 2 ^ 40)

-- ---- in a pass

module _ {vs : List Vertex} {store : ℕ} {all : List ℕ} {wanted : List Wanted} (p : PassOver vs store all wanted) where
  -- of what is numbered below the bound, the parts are those of a block of so many rows, which `more` tells
  abbrev pub PartsAre : (more : ℕ → Rows) → (rows : ℕ) → (bound : Option Fault) → List Wanted → List (Option Part) → Type 0
  PartsAre more n bound [] os = Unit {0}
  PartsAre more n bound (w ∷ ws) os =
      (IsBelow bound (number_at (slice_get vs w.node)) → IsThereOfRows vs more w (part_first os) × (height_of more w.node w.way ≤ n)) × PartsAre more n bound ws (parts_rest os)

  -- and the sums those of the first blocks, with so many rows
  abbrev pub SumsAre : (blocks : ℕ) → (rows : ℕ) → (bound : Option Fault) → List Wanted → List Sum → Type 0
  SumsAre k n bound [] ss = Unit {0}
  SumsAre k n bound (w ∷ ws) [] = ⊥
  SumsAre k n bound (w ∷ ws) (s ∷ ss) =
      (IsBelow bound (number_at (slice_get vs w.node)) → IsSumOfBlocks vs (λ b. carry_of p b w.node) (blocks_up_to p k) w s × (height_of (λ i. flat (blocks_up_to p k i)) w.node w.way ≤ n))
      × SumsAre k n bound ws ss

  -- over the block k, of so many rows, over which the outcomes are h: the least fault that is seen, and the parts of what is
  -- numbered below the faults of the blocks up to this one
  pub record IsPiece (k : ℕ) (h : ℕ → Outcome) (rows : ℕ) (fault : Option Fault) (parts : List (Option Part)) : Type 0 where
    pub seen : IsSeen p k h fault
    pub parts_are : PartsAre (λ i. rows_in (h i)) rows (earlier (fault_up_to p k) fault) wanted parts

  -- behind the first k blocks, with so many rows: their least fault, and the sums of what is numbered below it
  pub record AreSums (k : ℕ) (rows : ℕ) (fault : Option Fault) (sums : List Sum) : Type 0 where
    pub fault_is : fault ≡ fault_up_to p k
    pub sums_are : SumsAre k rows fault wanted sums
