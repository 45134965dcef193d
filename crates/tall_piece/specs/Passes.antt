-- One pass over a datastore in blocks, for any columns of the files and any solution of the graph's equations: what it stands
-- on, and what is known of its first n blocks. The words and laws are those of crates/tall_blocks; here they stand together,
-- so that a block's work, the joining of blocks and the end of a pass each speak of one record.
use Rattle.std.specs.Prelude.{◌≡◌, ◌↔◌, ◌⊎◌, ◌+◌, ℕ, Bool, true, Option, None, List, [], ◌∷◌, map, take}
use Rattle.tall_value.specs.Cells.{Seen}
use Rattle.tall_semantics.specs.Faults.{Fault}
use Rattle.tall_semantics.specs.Outcomes.{Outcome, rows_in}
use Rattle.tall_semantics.specs.Talls.{Tall, Columns}
use Rattle.tall_semantics.specs.Deferred.{Vertex, IsAmong, own_in}
use Rattle.tall_semantics.specs.Least.{IsLeast}
use Rattle.tall_semantics.specs.Levels.{UpTo}
use Rattle.tall_semantics.specs.Numbered.{AreNumbered, IsGather, nodes_by}
use Rattle.tall_semantics.specs.RowsOfSpaces.{AreColumns}
use Rattle.tall_semantics.specs.ScanLevels.{AreScans, scans_by}
use Rattle.tall_blocks.specs.Blocks.{AreAscending, AreBlocksOf, AreTables, Block}
use Rattle.tall_blocks.specs.Carries.{Rows}
use Rattle.tall_blocks.specs.PassWork.{AreScalarsLower, IsCutFor, IsDueOf, IsEndOf}
use Rattle.tall_blocks.specs.Pieces.{carry_in, fault_from, looked_at, pass_blocks}
use Rattle.tall_blocks.specs.ValuesOver.{rows_of_blocks, value_over}
use Rattle.tall_piece.specs.declared.wanted.Wanted.{Wanted}
use Rattle.tall_piece.specs.declared.wanted.Way.{Way}
use Rattle.tall_piece.specs.declared.wanted.Way.TheVariants as way
use Rattle.tall_piece.specs.Wants.{IsOfWay}

abbrev pub IsEndWay : Way → Type 0
IsEndWay (way.End e a b) = Unit {0}
IsEndWay (way.Carries s a) = ⊥
IsEndWay way.Rows = ⊥

-- what a node that is wanted is to the pass of level k below the candidate c
abbrev pub IsWantedOf : (store : ℕ) → List Vertex → (f : ℕ → Tall) → (levels carried : ℕ → ℕ) → (needed : List ℕ) → (k : ℕ) → (c : Option Fault) → (cut : ℕ → Bool) → (i : ℕ) → Way → Type 0
IsWantedOf store vs f levels carried needed k c cut i (way.End e a b) = IsEndOf store vs f levels needed k c i
IsWantedOf store vs f levels carried needed k c cut i (way.Carries s a) = IsDueOf store vs f carried needed k c i
IsWantedOf store vs f levels carried needed k c cut i way.Rows = cut i ≡ true

-- each is of its way, and work of the pass
abbrev pub AreWanted : (store : ℕ) → List Vertex → (f : ℕ → Tall) → (levels carried : ℕ → ℕ) → (needed : List ℕ) → (k : ℕ) → (c : Option Fault) → (cut : ℕ → Bool) → List Wanted → Type 0
AreWanted store vs f levels carried needed k c cut [] = Unit {0}
AreWanted store vs f levels carried needed k c cut (w ∷ ws) = (IsOfWay vs w.node w.way × IsWantedOf store vs f levels carried needed k c cut w.node w.way) × AreWanted store vs f levels carried needed k c cut ws

-- it is wanted at the end
abbrev pub IsEndWanted : List Wanted → ℕ → Type 0
IsEndWanted [] i = ⊥
IsEndWanted (w ∷ ws) i = ((w.node ≡ i) × IsEndWay w.way) ⊎ IsEndWanted ws i

-- a pass that computes the places of `all` block by block, for the nodes that are wanted
pub record PassOver (vs : List Vertex) (store : ℕ) (all : List ℕ) (wanted : List Wanted) : Type 0 where
  -- the stored columns with the numbers of each datastore's rows, and the values
  pub columns : Columns
  pub of_stores : ℕ → List ℕ
  pub f : ℕ → Tall
  -- the gather; the pass is of the level behind `before`, whose least fault is the candidate
  pub levels : ℕ → ℕ
  pub carried : ℕ → ℕ
  pub roots : List ℕ
  pub needed : List ℕ
  pub before : ℕ
  pub candidate : Option Fault
  pub cut : ℕ → Bool
  pub blocks : List Block
  pub gather : IsGather columns vs f levels roots needed
  pub least : IsLeast (own_in vs f) (UpTo (nodes_by vs f levels) (IsAmong needed) before) candidate
  pub cuts : IsCutFor store vs f levels carried needed (before + 1) candidate cut
  pub listed : (i : ℕ) → IsAmong all i ↔ (cut i ≡ true)
  pub ways : AreWanted store vs f levels carried needed (before + 1) candidate cut wanted
  pub ends : (i : ℕ) → IsEndOf store vs f levels needed (before + 1) candidate i → IsEndWanted wanted i
  pub numbered : AreNumbered vs
  pub readings : AreColumns columns of_stores vs
  pub scalars : AreScalarsLower vs f levels
  pub scans : AreScans vs (scans_by vs f carried) levels
  pub of_blocks : AreBlocksOf columns vs cut blocks
  pub tables : AreTables vs cut blocks
  pub ascending : AreAscending blocks

module _ {vs : List Vertex} {store : ℕ} {all : List ℕ} {wanted : List Wanted} (p : PassOver vs store all wanted) where
  -- the outcomes over each block
  abbrev pub outcomes : List (ℕ → Outcome)
  outcomes = pass_blocks vs p.f p.cut p.blocks

  -- what a block's work goes on from, and what it looks at
  abbrev pub carry_of : (block : ℕ) → ℕ → Option Seen
  carry_of n i = carry_in vs p.f outcomes i n

  abbrev pub looked : (block : ℕ) → List ℕ
  looked n = looked_at vs (carry_of n) all

  -- c is the least fault that the work on the block n sees, whose outcomes are h
  abbrev pub IsSeen : (block : ℕ) → (h : ℕ → Outcome) → Option Fault → Type 0
  IsSeen n h c = IsLeast (own_in vs (value_over p.f h)) (IsAmong (looked n)) c

  -- the least fault of the first n blocks, and the rows of the value at a place in them
  abbrev pub fault_up_to : ℕ → Option Fault
  fault_up_to n = fault_from vs p.f all None (take n outcomes)

  abbrev pub rows_up_to : ℕ → ℕ → Rows
  rows_up_to n i = rows_of_blocks (take n outcomes) i

  -- block by block
  abbrev pub blocks_up_to : ℕ → ℕ → List Rows
  blocks_up_to n i = take n (map (λ (h : ℕ → Outcome). rows_in (h i)) outcomes)
