-- What the answer of a pass says where the shelf tells its files: the defined results, and the least fault of the work.
use Rattle.std.specs.Prelude.{◌≡◌, ◌-◌, ◌*◌, ◌⊎◌, ℕ, Bool, true, false, Option, None, Some, Ok, Err, List, [], ◌∷◌, slice_get, option_map, ⊤}
use Rattle.tall_outside.specs.Shelf.{Files}
use Rattle.tall_value.specs.Cells.{Seen}
use Rattle.tall_semantics.specs.Faults.{Fault, fault_seen}
use Rattle.tall_semantics.specs.Outcomes.{Outcome, rows, scalar, fault, cells_in}
use Rattle.tall_semantics.specs.RowsOfSpaces.{numbers_in}
use Rattle.tall_semantics.specs.Spaces.{store_of}
use Rattle.tall_semantics.specs.Talls.{Columns, Tall}
use Rattle.tall_semantics.specs.Deferred.{Vertex, IsAmong, IsMeaning, own_in}
use Rattle.tall_semantics.specs.Least.{IsLeast}
use Rattle.tall_semantics.specs.Levels.{UpTo}
use Rattle.tall_semantics.specs.Numbered.{nodes_by}
use Rattle.tall_semantics.specs.Plans.{needed_of}
use Rattle.tall_semantics.specs.Ranks.{ranks_in}
use Rattle.tall_blocks.specs.Blocks.{Block}
use Rattle.tall_blocks.specs.PassWork.{IsEndOf, IsWorkOf}
use Rattle.tall_blocks.specs.Pieces.{carry_in, store_blocks}
use Rattle.tall_store.specs.Blocks as store
use Rattle.tall_store.specs.Stored.{first_fault}
use Rattle.tall_store.specs.Stores.{SeenStore}
use Rattle.tall_stored.specs.StoredColumns.{AreStored, Store}
use Rattle.tall_stored_blocks.specs.StoredBlocks.{blocks_of}
use Rattle.tall_fuse.specs.Results.{Found}
use Rattle.tall_fuse.specs.Kept.{carry, found}
use Rattle.tall_fuse.specs.declared.known.Known.{Known}
use Rattle.tall_plan.specs.declared.passes.Pass.{Pass}
use Rattle.tall_pass.specs.declared.faults.PassFault.TheVariants.{Reading, Read, TooLarge, Changed, Memory}
use Rattle.tall_pass.specs.Answered.{Answer}
use Rattle.tall_pass.specs.Counts.{AreCounted}
use Rattle.tall_pass.specs.Fitting.{has_numbers}
use Rattle.tall_pass.specs.PassPlans.{IsCarried, IsPassBelow, IsResult, IsScanned}

-- ---- blocks

-- the blocks in which each pass goes over a datastore's files: carries are kept by the places of these
unfoldable pub pass_blocks : SeenStore → Files → List Block
pass_blocks d files = blocks_of d (store.all_blocks d files)

-- ---- what is known is what is defined

-- the column has the cells of the outcome, which is no fault
abbrev pub IsOutcome : Outcome → List Seen → Type 0
IsOutcome (rows rs) cs = cs ≡ cells_in (rows rs)
IsOutcome (scalar c) cs = cs ≡ c ∷ []
IsOutcome (fault x) cs = ⊥

abbrev pub AreNumbersOf : (numbered : Bool) → Outcome → List ℕ → Type 0
AreNumbersOf true x ns = ns ≡ numbers_in x
AreNumbersOf false x ns = ns ≡ []

pub record Shows (x : Tall) (r : Found) : Type 0 where
  pub cells : IsOutcome x.outcome r.column.cells
  pub numbers : AreNumbersOf (has_numbers x.shape.space) x.outcome r.rows

-- the carry of the scan at a place for a block of its datastore
abbrev pub carry_behind : List Vertex → (ℕ → Tall) → Files → (place : ℕ) → Option Store → (i block : ℕ) → Option Seen
carry_behind vs f files s None i n = None
carry_behind vs f files s (Some d) i n = carry_in vs f (store_blocks vs f s (pass_blocks d.store files)) i n

abbrev pub carry_over : List Vertex → (ℕ → Tall) → Files → List Store → Option ℕ → (i block : ℕ) → Option Seen
carry_over vs f files stores None i n = None
carry_over vs f files stores (Some s) i n = carry_behind vs f files s (slice_get stores s) i n

abbrev pub defined_carry : List Vertex → (ℕ → Tall) → Files → List Store → (i block : ℕ) → Option Seen
defined_carry vs f files stores i n = carry_over vs f files stores (store_of (f i).shape.space) i n

pub record AreRight (vs : List Vertex) (f : ℕ → Tall) (files : Files) (stores : List Store) (k : Known) : Type 0 where
  pub results : (i : ℕ) (r : Found) → found k i ≡ Some r → Shows (f i) r
  pub carries : (i b : ℕ) (c : Seen) → carry k i b ≡ Some c → defined_carry vs f files stores i b ≡ Some c

-- ---- what a pass is given

-- the datastore of the pass stands in the list, the columns are those of the files, the candidate is the least own fault of
-- what is needed below the pass's rank, what is known is what is defined, and the carries of earlier scans are there
pub record IsGiven (files : Files) (stores : List Store) (d : Store) (columns : Columns) (vs : List Vertex) (f : ℕ → Tall) (roots : List ℕ) (c : Option Fault) (pass : Pass) (store : SeenStore) (known : Known) (counts : List (Option ℕ)) : Type 0 where
  pub there : slice_get stores pass.store ≡ Some d
  pub same : d.store ≡ store
  pub stored : AreStored files stores vs columns
  pub meaning : IsMeaning columns vs f
  pub planned : IsPassBelow vs roots c pass
  pub candidate : IsLeast (own_in vs f) (UpTo (nodes_by vs f (ranks_in vs f)) (IsAmong (needed_of vs roots)) (2 * pass.level - 1)) c
  pub right : AreRight vs f files stores known
  pub carried : (i b : ℕ) → IsScanned vs roots c pass i → carry known i b ≡ defined_carry vs f files stores i b
  pub counted : AreCounted files store counts

-- ---- what it answers

-- the work of the pass below the candidate, but for the scans that it goes over for their carries alone
abbrev pub IsOwnWork : List Vertex → (ℕ → Tall) → (roots : List ℕ) → (c : Option Fault) → Pass → ℕ → Type 0
IsOwnWork vs f roots c pass i =
    IsWorkOf pass.store vs f (ranks_in vs f) (needed_of vs roots) (2 * pass.level) c i
    ⊎ IsEndOf pass.store vs f (ranks_in vs f) (needed_of vs roots) (2 * pass.level) c i

pub record IsDone (files : Files) (stores : List Store) (vs : List Vertex) (f : ℕ → Tall) (roots : List ℕ) (c : Option Fault) (pass : Pass) (store : SeenStore) (p : Option Fault) (known : Known) : Type 0 where
  pub whole : first_fault store files ≡ None
  pub fault : IsLeast (own_in vs f) (IsOwnWork vs f roots c pass) p
  pub results : (i : ℕ) (r : Found) → IsResult vs pass p i → found known i ≡ Some r → Shows (f i) r
  pub carries : (i b : ℕ) → IsCarried vs pass p i → carry known i b ≡ defined_carry vs f files stores i b

-- want of memory, a failing shelf and a file that is too large say nothing
abbrev pub Tells : Files → List Store → List Vertex → (ℕ → Tall) → (roots : List ℕ) → (c : Option Fault) → Pass → SeenStore → Answer → Known → Type 0
Tells files stores vs f roots c pass store (Ok p) known = IsDone files stores vs f roots c pass store (option_map fault_seen p) known
Tells files stores vs f roots c pass store (Err (Reading g)) known = first_fault store files ≡ Some g
Tells files stores vs f roots c pass store (Err (Read file)) known = ⊤
Tells files stores vs f roots c pass store (Err (TooLarge file)) known = ⊤
Tells files stores vs f roots c pass store (Err (Changed file first now)) known = ⊥
Tells files stores vs f roots c pass store (Err Memory) known = ⊤
