-- Scans over a datastore's rows in the order of levels. The passes of a scan's chain go through its operand for its carries
-- (specs/ScanCarries.antt), and those of its own level, which is one more, compute it from them. What holds after all passes
-- of the levels up to k, beside what specs/Levels.antt says of values and of the candidate.
use Rattle.std.specs.Prelude.{◌≡◌, ℕ, ◌<◌, ◌≤◌, ◌*◌, Bool, true, ◌&&◌, Option, Some, List, slice_get}
use Rattle.tall_semantics.specs.Faults.{Fault}
use Rattle.tall_semantics.specs.Spaces.{has_rows}
use Rattle.tall_semantics.specs.Talls.{Tall}
use Rattle.tall_semantics.specs.Deferred.{Vertex, IsAmong}
use Rattle.tall_semantics.specs.Least.{IsBelow}
use Rattle.tall_semantics.specs.Levels.{Nodes}
use Rattle.tall_semantics.specs.Plans.{is_scan_at}

-- which expressions are scans over a datastore's rows, and at which level their carries come
pub record Scans : Type 0 where
  pub is_scan : ℕ → Bool
  pub carried_at : ℕ → ℕ

-- after the passes of the levels up to k: each needed scan whose carries come at these levels, and that is numbered below
-- the candidate, has them
abbrev pub AfterScans : Nodes → Scans → (Needed HasCarries : ℕ → Type 0) → ℕ → Option Fault → Type 0
AfterScans ns scans Needed HasCarries k c = (i : ℕ) → Needed i → scans.is_scan i ≡ true → scans.carried_at i ≤ k → IsBelow c (ns.number i) → HasCarries i

-- what the passes of level k give, from the scans numbered below the candidate of the lower levels: no carries are
-- forgotten, and those of scans numbered below the least fault p of this level's work are there
pub record PassedScans (ns : Nodes) (scans : Scans) (Needed HasCarries HasCarries' : ℕ → Type 0) (k : ℕ) (c p : Option Fault) : Type 0 where
  pub kept : (i : ℕ) → HasCarries i → HasCarries' i
  pub more : (i : ℕ) → Needed i → scans.is_scan i ≡ true → scans.carried_at i ≡ k → IsBelow c (ns.number i) → IsBelow p (ns.number i) → HasCarries' i

-- ---- the scans of a list

-- the carries come at the level that `carried` tells
abbrev pub scans_by : List Vertex → (ℕ → Tall) → (carried : ℕ → ℕ) → Scans
scans_by vs f carried = record { is_scan = λ i. is_scan_at (slice_get vs i) && has_rows (f i).shape.space; carried_at = carried }

abbrev pub chains_in : (ℕ → Tall) → ℕ → ℕ
chains_in f i = (f i).shape.chain

-- by ranks: with what the passes of that level compute
abbrev pub chain_ranks_in : (ℕ → Tall) → ℕ → ℕ
chain_ranks_in f i = 2 * (f i).shape.chain

-- the carries come after the operand and before the scan
pub record AreScans (vs : List Vertex) (scans : Scans) (levels : ℕ → ℕ) : Type 0 where
  pub before : (i : ℕ) → scans.is_scan i ≡ true → scans.carried_at i < levels i
  pub operands : (i a : ℕ) (v : Vertex) → scans.is_scan i ≡ true → slice_get vs i ≡ Some v → IsAmong v.args a → levels a ≤ scans.carried_at i
