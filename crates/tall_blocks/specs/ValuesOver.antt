-- Values over some rows: those of one block, of several, or of all. A value keeps its shape, which doesn't hang on the rows;
-- its outcome is that of its operation over its operands' outcomes over these rows, where a scan goes on behind the cells
-- that its operand has so far.
use Rattle.std.specs.Prelude.{◌≡◌, ℕ, zero, suc, if◌then◌else◌, Bool, true, false, Option, None, Some, List, [], ◌∷◌, ◌++◌, map, slice_get}
use Rattle.tall_value.specs.Cells.{Seen}
use Rattle.tall_value.specs.Classes.{kind_of}
use Rattle.tall_semantics.specs.Operations.{Op, scan, Made, stored, operation}
use Rattle.tall_semantics.specs.Faults.{At, least_fault}
use Rattle.tall_semantics.specs.Outcomes.{Outcome, rows, fault_of, rows_in, cells_in, row_by_row}
use Rattle.tall_semantics.specs.Talls.{Tall, Columns, outcomes, own_outcome, unless}
use Rattle.tall_semantics.specs.Deferred.{Vertex}
use Rattle.tall_blocks.specs.Carries.{Rows, scanned_behind}
use Rattle.tall_blocks.specs.Blocks.{Block, block_columns}

-- the operation over operands that have no fault
abbrev pub own_over : (before : List Seen) → At → Op → List Tall → Outcome
own_over before at (scan s) (x ∷ []) = row_by_row at (scanned_behind s (kind_of x.shape.class) before (rows_in x.outcome))
own_over before at op xs = own_outcome at op xs

abbrev pub outcome_over : Columns → (before : List Seen) → At → Made → List Tall → Outcome
outcome_over columns before at (stored s v c) xs = columns s v
outcome_over columns before at (operation op) xs = unless (least_fault (map fault_of (outcomes xs))) (own_over before at op xs)

-- the value with its outcome over some rows
abbrev pub value_over : (ℕ → Tall) → (ℕ → Outcome) → ℕ → Tall
value_over f h i = record { shape = (f i).shape; outcome = h i }

-- h tells the outcomes over the rows that `columns` has; f are the values over all rows
pub record IsOver (columns : Columns) (so_far : ℕ → List Seen) (vs : List Vertex) (f : ℕ → Tall) (cut : ℕ → Bool) (h : ℕ → Outcome) : Type 0 where
  pub made : (i : ℕ) (v : Vertex) → slice_get vs i ≡ Some v → cut i ≡ true → h i ≡ outcome_over columns (so_far i) v.at v.made (map (value_over f h) v.args)
  pub known : (i : ℕ) → cut i ≡ false → h i ≡ (f i).outcome

-- x has the rows of y, and then those of z
abbrev pub AreParts : Outcome → Outcome → Outcome → Type 0
AreParts x y z = (rs : Rows) × (ss : Rows) × (x ≡ rows (rs ++ ss)) × (y ≡ rows rs) × (z ≡ rows ss)

-- ---- the cells that a scan's operand has so far, by the place of the scan; no other value asks for them

-- before the first block
abbrev pub no_cells : ℕ → List Seen
no_cells i = []

abbrev pub more_cells : (ℕ → Outcome) → Made → List ℕ → (before : List Seen) → List Seen
more_cells h (operation (scan s)) (a ∷ []) before = before ++ cells_in (h a)
more_cells h made args before = before

abbrev pub more_cells_at : (ℕ → Outcome) → Option Vertex → (before : List Seen) → List Seen
more_cells_at h None before = before
more_cells_at h (Some v) before = more_cells h v.made v.args before

-- behind a block, over which the outcomes are h
abbrev pub next_cells : List Vertex → (ℕ → Outcome) → (so_far : ℕ → List Seen) → ℕ → List Seen
next_cells vs h so_far i = more_cells_at h (slice_get vs i) (so_far i)

-- ---- the outcomes over some rows, computed from the operands on

abbrev pub outcome_at : Columns → (so_far : ℕ → List Seen) → (ℕ → Tall) → (ℕ → Bool) → (ℕ → Outcome) → Option Vertex → ℕ → Outcome
outcome_at columns so_far f cut h None i = (f i).outcome
outcome_at columns so_far f cut h (Some v) i = if cut i then outcome_over columns (so_far i) v.at v.made (map (value_over f h) v.args) else (f i).outcome

-- in so many steps
abbrev pub outcomes_in : Columns → (so_far : ℕ → List Seen) → List Vertex → (ℕ → Tall) → (ℕ → Bool) → ℕ → ℕ → Outcome
outcomes_in columns so_far vs f cut zero i = (f i).outcome
outcomes_in columns so_far vs f cut (suc n) i = outcome_at columns so_far f cut (outcomes_in columns so_far vs f cut n) (slice_get vs i) i

-- an operand stands before what is made of it, so its place bounds the steps
abbrev pub outcomes_over : Columns → (so_far : ℕ → List Seen) → List Vertex → (ℕ → Tall) → (ℕ → Bool) → ℕ → Outcome
outcomes_over columns so_far vs f cut i = outcomes_in columns so_far vs f cut (suc i) i

-- over each block, in order
abbrev pub block_outcomes : List Vertex → (ℕ → Tall) → (ℕ → Bool) → (so_far : ℕ → List Seen) → List Block → List (ℕ → Outcome)
block_outcomes vs f cut so_far [] = []
block_outcomes vs f cut so_far (b ∷ bs) =
    let h : ℕ → Outcome = outcomes_over (block_columns b) so_far vs f cut in h ∷ block_outcomes vs f cut (next_cells vs h so_far) bs

-- the rows of one value in each block, one block after the other
abbrev pub rows_of_blocks : List (ℕ → Outcome) → ℕ → Rows
rows_of_blocks [] i = []
rows_of_blocks (h ∷ hs) i = rows_in (h i) ++ rows_of_blocks hs i
