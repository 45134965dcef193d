-- What a pass is asked for: the pass of a plan, or what of it is numbered below a fault; and which of its work has a result.
use Rattle.std.specs.Prelude.{◌≡◌, ◌<◌, ◌⊎◌, ℕ, Bool, true, Option, None, Some, List, length, slice_get}
use Rattle.std.specs.List.{filter}
use Rattle.tall_value.specs.declared.class.Class.{Class}
use Rattle.tall_semantics.specs.Operations.{stored}
use Rattle.tall_semantics.specs.Faults.{Fault}
use Rattle.tall_semantics.specs.Spaces.{store_of}
use Rattle.tall_semantics.specs.Shapes.{level}
use Rattle.tall_semantics.specs.ShapesInOrder.{shape_at}
use Rattle.tall_semantics.specs.Deferred.{Vertex, IsAmong, AreThere}
use Rattle.tall_semantics.specs.Least.{IsBelow}
use Rattle.tall_semantics.specs.Numbered.{number_at}
use Rattle.tall_semantics.specs.Plans.{collected, is_scan_at, needed_of, work_of}
use Rattle.tall_blocks.specs.PassWork.{is_below}
use Rattle.tall_store.specs.Stores.{SeenStore}
use Rattle.tall_stored.specs.StoredColumns.{variable_class}
use Rattle.tall_plan.specs.declared.passes.Pass.{Pass}

-- ---- the work

abbrev pub is_below_at : List Vertex → Option Fault → ℕ → Bool
is_below_at vs c i = is_below c (number_at (slice_get vs i))

abbrev pub IsBelowAt : List Vertex → Option Fault → ℕ → Type 0
IsBelowAt vs c i = IsBelow c (number_at (slice_get vs i))

-- a pass of the plan of these roots, with only its nodes numbered below the candidate c
pub record IsPassBelow (vs : List Vertex) (roots : List ℕ) (c : Option Fault) (pass : Pass) : Type 0 where
  pub there : AreThere vs roots
  pub level : 0 < pass.level
  pub work : pass.work.items ≡ filter (is_below_at vs c) (work_of vs (needed_of vs roots) pass.store pass.level)
  pub collect : pass.collect.items ≡ filter (is_below_at vs c) (collected vs roots pass.store pass.level)

-- the variables of the graph that are of the datastore are its own
abbrev pub FitsStore : List Vertex → (place : ℕ) → SeenStore → Type 0
FitsStore vs place store = (i : ℕ) (v : Vertex) (variable : ℕ) (class : Class) → slice_get vs i ≡ Some v → v.made ≡ stored place variable class
    → (variable < length store.selected) × (class ≡ variable_class store variable)

-- ---- results

-- a value without a datastore's rows
abbrev pub IsSmall : List Vertex → ℕ → Type 0
IsSmall vs i = store_of (shape_at vs i).space ≡ None

-- the work numbered below p that has a result: what has no datastore's rows, and the roots whose columns are kept
abbrev pub IsResult : List Vertex → Pass → (p : Option Fault) → ℕ → Type 0
IsResult vs pass p i = ((IsAmong pass.work.items i × IsSmall vs i) ⊎ IsAmong pass.collect.items i) × IsBelowAt vs p i

-- the scans numbered below p whose carries come with this pass
abbrev pub IsCarried : List Vertex → Pass → (p : Option Fault) → ℕ → Type 0
IsCarried vs pass p i = IsAmong pass.work.items i × (is_scan_at (slice_get vs i) ≡ true) × ((shape_at vs i).chain ≡ pass.level) × IsBelowAt vs p i

-- ---- what is needed of lower levels

-- needed for the roots, of a lower level, numbered below the candidate, and without a datastore's rows
abbrev pub IsLower : List Vertex → (roots : List ℕ) → (c : Option Fault) → (k : ℕ) → ℕ → Type 0
IsLower vs roots c k i = IsAmong (needed_of vs roots) i × (level (shape_at vs i) < k) × IsBelowAt vs c i × IsSmall vs i

-- a needed scan over the datastore's rows, numbered below the candidate, whose carries come with a lower level
abbrev pub IsScanned : List Vertex → (roots : List ℕ) → (c : Option Fault) → Pass → ℕ → Type 0
IsScanned vs roots c pass i =
    IsAmong (needed_of vs roots) i × (is_scan_at (slice_get vs i) ≡ true) × (store_of (shape_at vs i).space ≡ Some pass.store)
    × ((shape_at vs i).chain < pass.level) × IsBelowAt vs c i
