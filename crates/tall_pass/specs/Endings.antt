-- What the sums of a pass come to behind its last block, node by node, and what is put of it.
use Rattle.std.specs.Prelude.{◌≡◌, ◌<◌, ◌^◌, ◌⊎◌, ℕ, Option, None, Some, List, [], ◌∷◌, length, map, slice_get}
use Rattle.tall_value.specs.declared.class.Class.{Class}
use Rattle.tall_value.specs.Cells.{Seen}
use Rattle.tall_dense.specs.Columns.{SeenColumn, class_of_cell}
use Rattle.tall_semantics.specs.Faults.{Fault, fault_seen}
use Rattle.tall_semantics.specs.Outcomes.{rows, fault}
use Rattle.tall_semantics.specs.Spaces.{store_of}
use Rattle.tall_semantics.specs.Talls.{Tall}
use Rattle.tall_semantics.specs.Deferred.{Vertex}
use Rattle.tall_semantics.specs.Numbered.{number_at}
use Rattle.tall_semantics.specs.ShapesInOrder.{shape_at}
use Rattle.tall_blocks.specs.Carries.{Rows, flat}
use Rattle.tall_fuse.specs.Results.{Found}
use Rattle.tall_fuse.specs.Kept.{carry, found}
use Rattle.tall_fuse.specs.declared.known.Known.{Known}
use Rattle.tall_part.specs.Operations.{outcome_of_rows}
use Rattle.tall_part.specs.declared.results.EndColumn.{EndColumn}
use Rattle.tall_part.specs.declared.results.EndFault.{EndFault}
use Rattle.tall_part.specs.declared.results.EndFault.TheVariants as fault_of_end
use Rattle.tall_piece.specs.declared.parts.Sum.{Sum}
use Rattle.tall_piece.specs.declared.wanted.Wanted.{Wanted}
use Rattle.tall_piece.specs.declared.wanted.Way.{Way}
use Rattle.tall_piece.specs.declared.wanted.Way.TheVariants as way
use Rattle.tall_piece.specs.Carried.{AreAllCarries, AreCarries}
use Rattle.tall_piece.specs.Passes.{IsEndWay}
use Rattle.tall_piece.specs.Pieces.{SumsFit}
use Rattle.tall_piece.specs.Wants.{FitsSum, IsOfWay, IsSumOfBlocks, class_at}
use Rattle.tall_pass.specs.declared.endings.Ended.{Ended}
use Rattle.tall_pass.specs.declared.endings.Ending.{Ending}
use Rattle.tall_pass.specs.declared.endings.Ending.TheVariants as ending
use Rattle.tall_pass.specs.PassPlans.{IsBelowAt}
use Rattle.tall_pass.specs.Fitting.{IsFit}
use Rattle.tall_pass.specs.Told.{Shows}
use Rattle.tall_pass.specs.Finished.{IsCarriesWay, IsOfStore, IsResultWay}

-- ---- what a sum comes to

abbrev pub found_at_end : EndColumn → Found
found_at_end c = record { column = c.column; rows = c.rows.items }

abbrev pub fault_at_end : Ending → Option Fault
fault_at_end (ending.Found c) = None
fault_at_end (ending.Carries column) = None
fault_at_end (ending.Failed f) = Some (fault_seen f)
fault_at_end ending.Nothing = None

-- the fault of an end; want of memory is none
abbrev pub IsEndingOf : EndFault → Ending → Type 0
IsEndingOf (fault_of_end.Data f) e = e ≡ ending.Failed f
IsEndingOf fault_of_end.Memory e = ⊥

-- whatever the shelf tells: a result of the node's shape, carries of its class, or a fault of its number
abbrev pub FitsEnding : List Vertex → Wanted → Ending → Type 0
FitsEnding vs w (ending.Found c) = IsResultWay w.way × (IsOfStore vs w.node w.way → IsFit (shape_at vs w.node) (found_at_end c))
FitsEnding vs w (ending.Carries column) = IsCarriesWay w.way × (column.class ≡ class_at vs w.node)
FitsEnding vs w (ending.Failed f) = IsEndWay w.way × (f.number ≡ number_at (slice_get vs w.node))
FitsEnding vs w ending.Nothing = ⊥

-- of a node that is not numbered below the bound nothing
abbrev pub FitsBelow : List Vertex → (bound : Option Fault) → Wanted → Ending → Type 0
FitsBelow vs bound w ending.Nothing = IsBelowAt vs bound w.node → ⊥
FitsBelow vs bound w g = IsBelowAt vs bound w.node × FitsEnding vs w g

-- it shows the node's value, or all carries of a scan, which `given` tells by blocks
abbrev pub ShowsEnding : Tall → (given : ℕ → Option Seen) → Ending → Type 0
ShowsEnding x given (ending.Found c) = Shows x (found_at_end c)
ShowsEnding x given (ending.Carries column) = AreAllCarries given column.cells
ShowsEnding x given (ending.Failed f) = x.outcome ≡ fault (fault_seen f)
ShowsEnding x given ending.Nothing = Unit {0}

-- the rows of the blocks tell the node's value, or that the carries of so many blocks are all
abbrev pub AreTold : List Vertex → (given : ℕ → Option Seen) → (blocks : ℕ → List Rows) → (i : ℕ) → Way → Tall → Type 0
AreTold vs given blocks i (way.End e a b) x = (x.shape ≡ shape_at vs i) × ((w : IsOfWay vs i (way.End e a b)) → x.outcome ≡ outcome_of_rows w.0.at e w.1 (class_at vs a) (class_at vs b) (flat (blocks a)) (flat (blocks b)))
AreTold vs given blocks i (way.Carries s a) x = (cells : List Seen) → AreCarries given (length (blocks a)) cells → AreAllCarries given cells
AreTold vs given blocks i way.Rows x = ((s : ℕ) × (store_of x.shape.space ≡ Some s)) × (x.outcome ≡ rows (flat (blocks i)))

-- where the sum is that of these blocks, and they tell the value, it shows it
abbrev pub TellsEnding : List Vertex → Wanted → Sum → Ending → Type 0
TellsEnding vs w s e = (x : Tall) (given : ℕ → Option Seen) (blocks : ℕ → List Rows) → AreTold vs given blocks w.node w.way x → IsSumOfBlocks vs given blocks w s → ShowsEnding x given e

-- ---- all sums

-- the sums are of some rows, fewer than 2^40
abbrev pub AreSomeSums : List Vertex → List Wanted → List Sum → Type 0
AreSomeSums vs ws ss = (n : ℕ) × SumsFit vs n ws ss × (n < 2 ^ 40)

abbrev pub IsSomeSum : List Vertex → Wanted → Sum → Type 0
IsSomeSum vs w s = (n : ℕ) × FitsSum vs n w s × (n < 2 ^ 40)

-- what the sum of each node that is wanted comes to, in their order
abbrev pub AreEndings : List Vertex → (bound : Option Fault) → List Wanted → List Sum → List Ended → Type 0
AreEndings vs bound [] ss es = es ≡ []
AreEndings vs bound (w ∷ ws) [] es = ⊥
AreEndings vs bound (w ∷ ws) (s ∷ ss) [] = ⊥
AreEndings vs bound (w ∷ ws) (s ∷ ss) (e ∷ es) = ((e.node ≡ w.node) × FitsBelow vs bound w e.ending × TellsEnding vs w s e.ending) × AreEndings vs bound ws ss es

abbrev pub faults_at_end : List Ended → List (Option Fault)
faults_at_end es = map (λ (e : Ended). fault_at_end e.ending) es

-- the nodes stand in a list of so many vertices
abbrev pub AreThereAtEnd : (vertices : ℕ) → List Ended → Type 0
AreThereAtEnd n [] = Unit {0}
AreThereAtEnd n (e ∷ es) = (e.node < n) × AreThereAtEnd n es

-- ---- what is put of it

-- one look-up behind some steps: what is there was there or is of More, what was there still has something, and so has each of More
pub record Gains {A : Type 0} (More : A → Type 0) (old new : Option A) : Type 0 where
  pub sound : (x : A) → new ≡ Some x → (old ≡ Some x) ⊎ More x
  pub kept : (x : A) → old ≡ Some x → (y : A) × (new ≡ Some y)
  pub more : (x : A) → More x → (y : A) × (new ≡ Some y)

abbrev pub IsResultOf : Ending → Found → Type 0
IsResultOf (ending.Found c) r = found_at_end c ≡ r
IsResultOf (ending.Carries column) r = ⊥
IsResultOf (ending.Failed f) r = ⊥
IsResultOf ending.Nothing r = ⊥

abbrev pub IsCellOf : Ending → (block : ℕ) → Seen → Type 0
IsCellOf (ending.Found c) b x = ⊥
IsCellOf (ending.Carries column) b x = slice_get column.cells b ≡ Some x
IsCellOf (ending.Failed f) b x = ⊥
IsCellOf ending.Nothing b x = ⊥

-- the cells have the class of their column
abbrev pub IsOfClass : (cells : List Seen) → (blocks : ℕ) → Class → Type 0
IsOfClass cells n class = (b : ℕ) (c : Seen) → b < n → slice_get cells b ≡ Some c → class_of_cell c ≡ class

abbrev pub HasClass : Ending → Type 0
HasClass (ending.Found c) = Unit {0}
HasClass (ending.Carries column) = IsOfClass column.cells (length column.cells) column.class
HasClass (ending.Failed f) = Unit {0}
HasClass ending.Nothing = Unit {0}

-- what a node gives that is numbered below the bound
abbrev pub IsResultHere : List Vertex → (bound : Option Fault) → Ended → (i : ℕ) → Found → Type 0
IsResultHere vs bound e i r = (e.node ≡ i) × IsBelowAt vs bound i × IsResultOf e.ending r

abbrev pub IsCellHere : List Vertex → (bound : Option Fault) → Ended → (i block : ℕ) → Seen → Type 0
IsCellHere vs bound e i b c = (e.node ≡ i) × IsBelowAt vs bound i × IsCellOf e.ending b c

-- what some node of the list gives
abbrev pub IsResultIn : List Vertex → (bound : Option Fault) → List Ended → (i : ℕ) → Found → Type 0
IsResultIn vs bound [] i r = ⊥
IsResultIn vs bound (e ∷ es) i r = IsResultHere vs bound e i r ⊎ IsResultIn vs bound es i r

abbrev pub IsCellIn : List Vertex → (bound : Option Fault) → List Ended → (i block : ℕ) → Seen → Type 0
IsCellIn vs bound [] i b c = ⊥
IsCellIn vs bound (e ∷ es) i b c = IsCellHere vs bound e i b c ⊎ IsCellIn vs bound es i b c

abbrev pub HaveClass : List Vertex → (bound : Option Fault) → List Ended → Type 0
HaveClass vs bound [] = Unit {0}
HaveClass vs bound (e ∷ es) = (IsBelowAt vs bound e.node → HasClass e.ending) × HaveClass vs bound es

-- of one node, whatever it is numbered
pub record PutsOne (e : Ended) (old new : Known) : Type 0 where
  pub results : (i : ℕ) → Gains (λ (r : Found). (e.node ≡ i) × IsResultOf e.ending r) (found old i) (found new i)
  pub carries : (i b : ℕ) → Gains (λ (c : Seen). (e.node ≡ i) × IsCellOf e.ending b c) (carry old i b) (carry new i b)
  pub class : HasClass e.ending

-- where it is numbered below the bound
pub record PutsBelow (vs : List Vertex) (bound : Option Fault) (e : Ended) (old new : Known) : Type 0 where
  pub results : (i : ℕ) → Gains (IsResultHere vs bound e i) (found old i) (found new i)
  pub carries : (i b : ℕ) → Gains (IsCellHere vs bound e i b) (carry old i b) (carry new i b)
  pub class : IsBelowAt vs bound e.node → HasClass e.ending

-- of all nodes of the list
pub record PutsAll (vs : List Vertex) (bound : Option Fault) (es : List Ended) (old new : Known) : Type 0 where
  pub results : (i : ℕ) → Gains (IsResultIn vs bound es i) (found old i) (found new i)
  pub carries : (i b : ℕ) → Gains (IsCellIn vs bound es i b) (carry old i b) (carry new i b)
  pub classes : HaveClass vs bound es

-- of the first blocks of a scan's carries
pub record PutsCells (node blocks : ℕ) (column : SeenColumn) (old new : Known) : Type 0 where
  pub results : (i : ℕ) → found new i ≡ found old i
  pub carries : (i b : ℕ) → Gains (λ (c : Seen). (node ≡ i) × (b < blocks) × (slice_get column.cells b ≡ Some c)) (carry old i b) (carry new i b)
  pub class : IsOfClass column.cells blocks column.class
