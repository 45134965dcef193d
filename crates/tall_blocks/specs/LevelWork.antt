-- The passes of a plan in order, what stands in no pass, and what is kept of the carries of scans.
use Rattle.std.specs.Prelude.{◌≡◌, ℕ, zero, suc, ◌<◌, ◌⊎◌, ◌==◌, ◌&&◌, Bool, true, false, Option, None, Some, List, [], ◌∷◌}
use Rattle.std.specs.List.{filter}
use Rattle.tall_value.specs.Cells.{Seen}
use Rattle.tall_semantics.specs.Spaces.{store_of}
use Rattle.tall_semantics.specs.Faults.{Fault, earlier}
use Rattle.tall_semantics.specs.Shapes.{level}
use Rattle.tall_semantics.specs.Talls.{Tall}
use Rattle.tall_semantics.specs.Deferred.{Vertex}
use Rattle.tall_semantics.specs.ShapesInOrder.{shape_at}
use Rattle.tall_semantics.specs.Passes.{Pass}
use Rattle.tall_semantics.specs.Plans.{store_at}
use Rattle.tall_blocks.specs.Blocks.{Block}
use Rattle.tall_blocks.specs.Pieces.{carry_in, store_blocks}

-- ---- the order of passes

-- of a lower level, or of the same over an earlier datastore
abbrev pub IsBeforePass : Pass → Pass → Type 0
IsBeforePass p q = (p.level < q.level) ⊎ ((p.level ≡ q.level) × (p.store < q.store))

abbrev pub AllPasses : (Pass → Type 0) → List Pass → Type 0
AllPasses P [] = Unit {0}
AllPasses P (p ∷ ps) = P p × AllPasses P ps

abbrev pub AreInOrder : List Pass → Type 0
AreInOrder [] = Unit {0}
AreInOrder (p ∷ ps) = AllPasses (IsBeforePass p) ps × AreInOrder ps

-- ---- what stands in no pass: computed from what is known, after the passes of its level

abbrev pub is_no_store : Option ℕ → Bool
is_no_store None = true
is_no_store (Some s) = false

abbrev pub is_rest : List Vertex → (level : ℕ) → ℕ → Bool
is_rest vs k i = is_no_store (store_at vs i) && level (shape_at vs i) == k

abbrev pub rest_of : List Vertex → (needed : List ℕ) → (level : ℕ) → List ℕ
rest_of vs needed k = filter (is_rest vs k) needed

-- ---- the passes of a level together

-- the earliest of the faults of the first n datastores
abbrev pub earliest : (ℕ → Option Fault) → (n : ℕ) → Option Fault
earliest found zero = None
earliest found (suc n) = earlier (earliest found n) (found n)

-- ---- carries

-- what is kept of a scan's carries: for each block the one that the definition gives, and none where it gives none
abbrev pub HasCarries : (kept : (place block : ℕ) → Option Seen) → List Vertex → (ℕ → Tall) → (blocks : (store : ℕ) → List Block) → ℕ → Type 0
HasCarries kept vs f blocks i = (s n : ℕ) → store_of (f i).shape.space ≡ Some s → kept i n ≡ carry_in vs f (store_blocks vs f s (blocks s)) i n
