-- A pass block by block: the least fault so far, the carries of scans, and what a block's work may leave out. All is said of
-- the outcomes over each block, and goes from a block to the next by a function of what there was before and of the block.
use Rattle.std.specs.Prelude.{◌≡◌, ℕ, Bool, true, false, not, ◌&&◌, ◌||◌, nat_lt, Option, None, Some, List, [], ◌∷◌, map, slice_get}
use Rattle.std.specs.List.{filter}
use Rattle.tall_value.specs.declared.functions.Scan.{Scan}
use Rattle.tall_value.specs.Cells.{Seen}
use Rattle.tall_value.specs.Classes.{kind_of}
use Rattle.tall_semantics.specs.Operations.{scan, Made, operation}
use Rattle.tall_semantics.specs.Spaces.{store_of}
use Rattle.tall_semantics.specs.Faults.{Fault, earlier, least_fault}
use Rattle.tall_semantics.specs.Outcomes.{Outcome, cells_in}
use Rattle.tall_semantics.specs.Talls.{Tall}
use Rattle.tall_semantics.specs.Deferred.{Vertex, IsAmong, own_in, fault_in}
use Rattle.tall_semantics.specs.Least.{IsBelow}
use Rattle.tall_semantics.specs.Numbered.{number_at}
use Rattle.tall_semantics.specs.Plans.{is_store, is_scan_at}
use Rattle.tall_blocks.specs.Blocks.{Block}
use Rattle.tall_blocks.specs.Carries.{carry_for}
use Rattle.tall_blocks.specs.ValuesOver.{value_over, no_cells, block_outcomes}

-- ---- the outcomes over each block

-- of what a pass computes block by block
abbrev pub pass_blocks : List Vertex → (ℕ → Tall) → (cut : ℕ → Bool) → List Block → List (ℕ → Outcome)
pass_blocks vs f cut bs = block_outcomes vs f cut no_cells bs

-- of all that has rows of the datastore, in whatever pass it is computed
abbrev pub has_rows_of : (store : ℕ) → (ℕ → Tall) → ℕ → Bool
has_rows_of store f i = is_store store (store_of (f i).shape.space)

abbrev pub store_blocks : List Vertex → (ℕ → Tall) → (store : ℕ) → List Block → List (ℕ → Outcome)
store_blocks vs f store bs = pass_blocks vs f (has_rows_of store f) bs

-- ---- faults

-- the least own fault that is seen over a block, among the work
abbrev pub seen_in : List Vertex → (ℕ → Tall) → (work : List ℕ) → (ℕ → Outcome) → Option Fault
seen_in vs f work h = least_fault (map (own_in vs (value_over f h)) work)

-- the least fault found before, and those of further blocks
abbrev pub fault_from : List Vertex → (ℕ → Tall) → (work : List ℕ) → (found : Option Fault) → List (ℕ → Outcome) → Option Fault
fault_from vs f work d [] = d
fault_from vs f work d (h ∷ hs) = fault_from vs f work (earlier d (seen_in vs f work h)) hs

-- a block's work may leave out what is not numbered below the least fault d of the blocks before
pub record IsLookedAt (vs : List Vertex) (work : List ℕ) (d : Option Fault) (looked : List ℕ) : Type 0 where
  pub of_work : (i : ℕ) → IsAmong looked i → IsAmong work i
  pub below : (i : ℕ) → IsAmong work i → IsBelow d (number_at (slice_get vs i)) → IsAmong looked i

-- ---- carries

-- the cells of the value at a place, block by block
abbrev pub cells_by_block : List (ℕ → Outcome) → (place : ℕ) → List (List Seen)
cells_by_block hs a = map (λ (h : ℕ → Outcome). cells_in (h a)) hs

abbrev pub carry_of : (ℕ → Tall) → List (ℕ → Outcome) → Made → List ℕ → (block : ℕ) → Option Seen
carry_of f hs (operation (scan s)) (a ∷ []) n = carry_for s (kind_of (f a).shape.class) (cells_by_block hs a) n
carry_of f hs made args n = None

abbrev pub carry_at : (ℕ → Tall) → List (ℕ → Outcome) → Option Vertex → (block : ℕ) → Option Seen
carry_at f hs None n = None
carry_at f hs (Some v) n = carry_of f hs v.made v.args n

-- the carry of the scan at a place for a block: what is kept from the pass of the scan's chain on
abbrev pub carry_in : List Vertex → (ℕ → Tall) → List (ℕ → Outcome) → (place block : ℕ) → Option Seen
carry_in vs f hs i n = carry_at f hs (slice_get vs i) n

-- ---- where a carry is missing, its scan and all that isn't numbered below it are left out

abbrev pub is_missing : Option Seen → Bool
is_missing None = true
is_missing (Some c) = false

abbrev pub lacks_carry : List Vertex → (carry : ℕ → Option Seen) → ℕ → Bool
lacks_carry vs carry i = is_scan_at (slice_get vs i) && is_missing (carry i)

-- the number is below those of all scans among these that lack their carry
abbrev pub is_below_missing : List Vertex → (carry : ℕ → Option Seen) → (work : List ℕ) → (number : ℕ) → Bool
is_below_missing vs carry [] n = true
is_below_missing vs carry (j ∷ js) n = (not (lacks_carry vs carry j) || nat_lt n (number_at (slice_get vs j))) && is_below_missing vs carry js n

abbrev pub looked_at : List Vertex → (carry : ℕ → Option Seen) → (work : List ℕ) → List ℕ
looked_at vs carry work = filter (λ i. is_below_missing vs carry work (number_at (slice_get vs i))) work

-- the operands of the scans among the work have no fault: they stand at lower levels
abbrev pub AreScansFree : List Vertex → (ℕ → Tall) → (work : List ℕ) → Type 0
AreScansFree vs f work = (i a : ℕ) (v : Vertex) (s : Scan) → IsAmong work i → slice_get vs i ≡ Some v → v.made ≡ operation (scan s) → v.args ≡ a ∷ [] → fault_in f a ≡ None
