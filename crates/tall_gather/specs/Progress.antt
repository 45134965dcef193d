-- How far a gather has come, whatever the shelf tells: by ranks, what is needed is known below the candidate.
use Rattle.std.specs.Prelude.{◌≡◌, ◌<◌, ◌≤◌, ◌+◌, ◌*◌, ◌⊎◌, ℕ, true, if◌then◌else◌, Option, None, Some, List, length, slice_get}
use Rattle.tall_value.specs.declared.class.Class.{Class}
use Rattle.tall_semantics.specs.Operations.{stored}
use Rattle.tall_semantics.specs.Faults.{Fault}
use Rattle.tall_semantics.specs.Shapes.{level}
use Rattle.tall_semantics.specs.ShapesInOrder.{shape_at}
use Rattle.tall_semantics.specs.Deferred.{Vertex, AreThere, IsAmong}
use Rattle.tall_semantics.specs.Plans.{collected, is_scan_at, needed_of, store_at, work_of}
use Rattle.tall_blocks.specs.LevelWork.{is_no_store}
use Rattle.tall_store.specs.Stores.{SeenStore}
use Rattle.tall_fuse.specs.Results.{Found}
use Rattle.tall_fuse.specs.Kept.{carry, found}
use Rattle.tall_fuse.specs.declared.known.Known.{Known}
use Rattle.tall_plan.specs.declared.passes.Pass.{Pass}
use Rattle.tall_pass.specs.PassPlans.{FitsStore, IsBelowAt, IsSmall}
use Rattle.tall_pass.specs.Fitting.{AreFit}

-- ---- ranks, told by shapes

-- the passes of a level come before what of it stands in no pass
abbrev pub rank_of : List Vertex → ℕ → ℕ
rank_of vs i = if is_no_store (store_at vs i) then 2 * level (shape_at vs i) + 1 else 2 * level (shape_at vs i)

-- ---- what is known

-- a result that lasts from a level to the next: of a value without a datastore's rows, or of a root
abbrev pub Lasts : List Vertex → (roots : List ℕ) → ℕ → Type 0
Lasts vs roots i = IsSmall vs i ⊎ IsAmong roots i

abbrev pub IsKnown : Known → ℕ → Type 0
IsKnown known i = (r : Found) × (found known i ≡ Some r)

-- what is needed of the ranks up to r, below the candidate, is known
abbrev pub AreKnown : List Vertex → (roots : List ℕ) → (r : ℕ) → Option Fault → Known → Type 0
AreKnown vs roots r c known = (i : ℕ) → IsAmong (needed_of vs roots) i → rank_of vs i ≤ r → IsBelowAt vs c i → Lasts vs roots i → IsKnown known i

-- ---- datastores

-- each variable is of a datastore of the list, at a place of its selection, of the variable's class
abbrev pub FitStores : List Vertex → List SeenStore → Type 0
FitStores vs seen = (i : ℕ) (v : Vertex) (s variable : ℕ) (class : Class) → slice_get vs i ≡ Some v → v.made ≡ stored s variable class
    → (d : SeenStore) × (slice_get seen s ≡ Some d) × FitsStore vs s d

-- there are counts for the files of each datastore
pub record HaveCounts (counts : List (List (Option ℕ))) (seen : List SeenStore) : Type 0 where
  pub stores : length counts ≡ length seen
  pub files : (s : ℕ) (d : SeenStore) → slice_get seen s ≡ Some d → (ns : List (Option ℕ)) × (slice_get counts s ≡ Some ns) × (length ns ≡ length d.files)

-- ---- one pass

-- a pass of the plan of the roots
pub record IsPlannedPass (vs : List Vertex) (roots : List ℕ) (pass : Pass) : Type 0 where
  pub there : AreThere vs roots
  pub level : 0 < pass.level
  pub work : pass.work.items ≡ work_of vs (needed_of vs roots) pass.store pass.level
  pub collect : pass.collect.items ≡ collected vs roots pass.store pass.level

-- what is known behind a pass that answered p, of work below the candidate c
pub record IsPassed (vs : List Vertex) (roots : List ℕ) (pass : Pass) (c p : Option Fault) (old new : Known) : Type 0 where
  pub fit : AreFit vs new
  pub stay : (i : ℕ) → IsKnown old i → IsKnown new i
  pub added : (i : ℕ) → IsAmong pass.work.items i → rank_of vs i ≡ 2 * pass.level → IsBelowAt vs c i → IsBelowAt vs p i → Lasts vs roots i → IsKnown new i

-- ---- the passes of a level

-- it is work of one of the level's passes among the first n
abbrev pub InPasses : (k : ℕ) → List Pass → (n : ℕ) → ℕ → Type 0
InPasses k ps n i = (j : ℕ) × (p : Pass) × (j < n) × (slice_get ps j ≡ Some p) × (p.level ≡ k) × IsAmong p.work.items i

-- the passes are those of the plan of the roots: each needed value that passes compute is work of one of its level, and a
-- scan also of one of the level of its chain
pub record AreAllPasses (vs : List Vertex) (roots : List ℕ) (ps : List Pass) : Type 0 where
  pub there : AreThere vs roots
  pub planned : (j : ℕ) (p : Pass) → slice_get ps j ≡ Some p → IsPlannedPass vs roots p
  pub computed : (i s : ℕ) → IsAmong (needed_of vs roots) i → store_at vs i ≡ Some s → InPasses (level (shape_at vs i)) ps (length ps) i
  pub scanned : (i s : ℕ) → IsAmong (needed_of vs roots) i → store_at vs i ≡ Some s → is_scan_at (slice_get vs i) ≡ true → InPasses (shape_at vs i).chain ps (length ps) i

-- what is known behind the first n passes, of which those of the level answered faults whose least is q
pub record LevelPassed (vs : List Vertex) (roots : List ℕ) (k : ℕ) (ps : List Pass) (n : ℕ) (c q : Option Fault) (old new : Known) : Type 0 where
  pub fit : AreFit vs new
  pub stay : (i : ℕ) → IsKnown old i → IsKnown new i
  pub added : (i : ℕ) → InPasses k ps n i → rank_of vs i ≡ 2 * k → IsBelowAt vs c i → IsBelowAt vs q i → Lasts vs roots i → IsKnown new i

-- how far a gather has come: all that is known fits, and what is needed of the ranks up to r is known below the candidate
pub record IsAfter (vs : List Vertex) (roots : List ℕ) (r : ℕ) (c : Option Fault) (known : Known) : Type 0 where
  pub fit : AreFit vs known
  pub ranks : AreKnown vs roots r c known

-- nothing is known
pub record IsUnknown (known : Known) : Type 0 where
  pub results : (i : ℕ) → found known i ≡ None
  pub carries : (i b : ℕ) → carry known i b ≡ None
