-- The work on a block of a pass: what is told of the block and of what is known before it, and what the work gives.
use Rattle.std.specs.Prelude.{◌≡◌, ◌≤◌, ◌<◌, ◌+◌, ◌^◌, ℕ, Bool, true, false, Option, None, Some, List, [], ◌∷◌, length, map, slice_get}
use Rattle.std.specs.HashMap.{HashMap}
use Rattle.std.specs.List.{slice_range}
use Rattle.tall_value.specs.declared.class.Class.{Class}
use Rattle.tall_value.specs.declared.functions.Scan.{Scan}
use Rattle.tall_value.specs.Cells.{Seen}
use Rattle.tall_value.specs.Classes.{kind_of}
use Rattle.tall_value.specs.Columns.{numbered}
use Rattle.tall_dense.specs.Columns.{SeenColumn, class_of_cell}
use Rattle.tall_semantics.specs.Faults.{At, Fault}
use Rattle.tall_semantics.specs.Operations.{scan, stored, operation}
use Rattle.tall_semantics.specs.Outcomes.{Outcome, rows, scalar, fault_of, rows_in, cells_in, row_by_row}
use Rattle.tall_semantics.specs.Spaces.{is_single}
use Rattle.tall_semantics.specs.Talls.{Tall, Columns}
use Rattle.tall_semantics.specs.Deferred.{Vertex, IsAmong, own_in}
use Rattle.tall_semantics.specs.Least.{IsBelow, IsLeast}
use Rattle.tall_semantics.specs.Numbered.{number_at}
use Rattle.tall_semantics.specs.ShapesInOrder.{shape_at}
use Rattle.tall_blocks.specs.Carries.{AllCells, IsInClass, scanned_behind}
use Rattle.tall_blocks.specs.Cut.{AreAligned, AreCut, IsCutWork}
use Rattle.tall_blocks.specs.ValuesOver.{IsOver, value_over}
use Rattle.tall_block.specs.OfBlocks.{AreShown, IsThere, column_at, variable_at}

-- ---- what is told of a block

abbrev pub AreAbove : ℕ → List ℕ → Type 0
AreAbove n [] = Unit {0}
AreAbove n (i ∷ is) = (n < i) × AreAbove n is

-- each place is below those behind it
abbrev pub IsAscending : List ℕ → Type 0
IsAscending [] = Unit {0}
IsAscending (i ∷ is) = AreAbove i is × IsAscending is

-- the value at a place is a scalar that is known, and has its class
pub record IsKnown (vs : List Vertex) (scalars : ℕ → Option Seen) (f : ℕ → Tall) (a : ℕ) : Type 0 where
  pub cell : Seen
  pub known : scalars a ≡ Some cell
  pub is : (f a).outcome ≡ scalar cell
  pub class : class_of_cell cell ≡ (shape_at vs a).class
  pub single : is_single (shape_at vs a).space ≡ true

-- over the block the value at i is the scan of that at a from the carry c
pub record GoesOn (vs : List Vertex) (h : ℕ → Outcome) (i a : ℕ) (at : At) (s : Scan) (c : Seen) : Type 0 where
  pub class : class_of_cell c ≡ (shape_at vs i).class
  pub scanned : fault_of (h a) ≡ None → AllCells (IsInClass (kind_of (shape_at vs a).class)) (cells_in (h a)) → h i ≡ row_by_row at (scanned_behind s (kind_of (shape_at vs a).class) (c ∷ []) (rows_in (h a)))

-- h are the outcomes over a block with the columns of `table`, whose rows have the numbers from `first` on, in a pass over the
-- values f. The pass computes by blocks what is cut: `work` are places of this, each with its operands that are cut, in
-- ascending order. What it does not compute by blocks is known; of scans the carries for this block are
pub record IsBlock (vs : List Vertex) (table : List (List ℕ × SeenColumn)) (scalars carries : ℕ → Option Seen) (first : ℕ) (work : List ℕ) (columns : Columns) (so_far : ℕ → List Seen) (f : ℕ → Tall) (cut : ℕ → Bool) (h : ℕ → Outcome) : Type 0 where
  pub over : IsOver columns so_far vs f cut h
  pub can : AreCut f cut vs
  pub aligned : AreAligned vs cut h
  pub cut_work : IsCutWork vs cut (IsAmong work)
  pub ascending : IsAscending work
  pub with_rows : (i : ℕ) → IsAmong work i → is_single (shape_at vs i).space ≡ false
  pub variables : (i s x : ℕ) (v : Vertex) (k : Class) → slice_get vs i ≡ Some v → cut i ≡ true → v.made ≡ stored s x k
      → (c : SeenColumn) × (variable_at table x k ≡ Some c) × (columns s x ≡ rows (numbered first c.cells)) × (first + length c.cells ≤ 2 ^ 40)
  pub scalars_known : (i a : ℕ) (v : Vertex) → IsAmong work i → slice_get vs i ≡ Some v → IsAmong v.args a → cut a ≡ false → IsKnown vs scalars f a
  pub scans : (i a : ℕ) (v : Vertex) (s : Scan) (c : Seen) → IsAmong work i → slice_get vs i ≡ Some v → v.made ≡ operation (scan s) → v.args ≡ a ∷ [] → carries i ≡ Some c → GoesOn vs h i a v.at s c

-- ---- what the work gives

module _ {S : Type 0} where
  -- with each column of a node those of its operands that are cut are there
  abbrev pub AreClosed : List Vertex → (cut : ℕ → Bool) → List (List ℕ × SeenColumn) → HashMap ℕ SeenColumn S → Type 0
  AreClosed vs cut table made = (i a : ℕ) (v : Vertex) (c : SeenColumn) → column_at vs table made i ≡ Some c → slice_get vs i ≡ Some v → IsAmong v.args a → cut a ≡ true → IsThere vs table made a

  -- among the places that are looked at, `least` is the least own fault that is seen over the block, and what is numbered
  -- below it has its column; each column of what is cut shows its outcome
  pub record AreBlockValues (vs : List Vertex) (table : List (List ℕ × SeenColumn)) (made : HashMap ℕ SeenColumn S) (f : ℕ → Tall) (cut : ℕ → Bool) (h : ℕ → Outcome) (looked : List ℕ) (least : Option Fault) : Type 0 where
    pub shown : AreShown vs cut table made h
    pub closed : AreClosed vs cut table made
    pub there : (i : ℕ) → IsAmong looked i → IsBelow least (number_at (slice_get vs i)) → IsThere vs table made i
    pub seen : IsLeast (own_in vs (value_over f h)) (IsAmong looked) least

-- the numbers of the rows from a place to before another
abbrev pub numbers_between : Outcome → (from to : ℕ) → List ℕ
numbers_between x from to = map (λ (r : ℕ × Seen). r.0) (slice_range (rows_in x) from to)
