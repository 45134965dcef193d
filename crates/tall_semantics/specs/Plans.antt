-- What a plan is: which values are needed for the roots, and what each pass over a datastore computes and keeps. Levels and
-- datastores follow from shapes, so a plan is the same whatever the columns are.
use Rattle.std.specs.Prelude.{◌≡◌, ℕ, zero, suc, max, Bool, true, false, ◌&&◌, ◌||◌, ◌==◌, ◌⊎◌, if◌then◌else◌, Option, None, Some, List, [], ◌∷◌, ◌++◌, length, map, slice_get}
use Rattle.std.specs.List.{filter, list_any}
use Rattle.tall_semantics.specs.Operations.{scan, Made, stored, operation}
use Rattle.tall_semantics.specs.Spaces.{store_of}
use Rattle.tall_semantics.specs.Shapes.{Shape, level, greatest_level}
use Rattle.tall_semantics.specs.Deferred.{Vertex, IsAmong}
use Rattle.tall_semantics.specs.ShapesInOrder.{shape_at}
use Rattle.tall_semantics.specs.Passes.{Pass, passes_up_to}

-- ---- what is needed

abbrev pub is_among : ℕ → List ℕ → Bool
is_among a xs = list_any (λ x. x == a) xs

abbrev pub args_of : Option Vertex → List ℕ
args_of None = []
args_of (Some v) = v.args

-- the needed places below n, ascending: a marked place is needed, and then its operands are marked
unfoldable pub needed_below : List Vertex → (n : ℕ) → (marked : List ℕ) → List ℕ
needed_below vs zero marked = []
needed_below vs (suc n) marked =
    if is_among n marked then needed_below vs n (args_of (slice_get vs n) ++ marked) ++ n ∷ [] else needed_below vs n marked

-- the places of all that the roots depend on, the roots too
abbrev pub needed_of : List Vertex → (roots : List ℕ) → List ℕ
needed_of vs roots = needed_below vs (length vs) roots

-- ---- which pass computes a value

abbrev pub or_else : Option ℕ → Option ℕ → Option ℕ
or_else None other = other
or_else (Some s) other = Some s

abbrev pub first_store : List Shape → Option ℕ
first_store [] = None
first_store (x ∷ xs) = or_else (store_of x.space) (first_store xs)

-- the datastore that a pass goes over to compute the value: that of its rows or of an operand's
abbrev pub store_at : List Vertex → ℕ → Option ℕ
store_at vs i = first_store (shape_at vs i ∷ map (shape_at vs) (args_of (slice_get vs i)))

abbrev pub is_store : (store : ℕ) → Option ℕ → Bool
is_store store None = false
is_store store (Some s) = s == store

abbrev pub is_scan : Made → Bool
is_scan (operation (scan s)) = true
is_scan made = false

abbrev pub is_scan_at : Option Vertex → Bool
is_scan_at None = false
is_scan_at (Some v) = is_scan v.made

-- a value is computed in the pass of its level; a scan is also gone through in the pass of its chain, which is one level
-- less, for what each block goes on from
abbrev pub is_of_level : List Vertex → (level : ℕ) → ℕ → Bool
is_of_level vs k i = level (shape_at vs i) == k || (is_scan_at (slice_get vs i) && (shape_at vs i).chain == k)

abbrev pub is_work : List Vertex → (store level : ℕ) → ℕ → Bool
is_work vs s k i = is_store s (store_at vs i) && is_of_level vs k i

abbrev pub work_of : List Vertex → (needed : List ℕ) → (store level : ℕ) → List ℕ
work_of vs needed s k = filter (is_work vs s k) needed

-- the roots whose columns the pass keeps: those with its datastore's rows, at their level
abbrev pub collected : List Vertex → (roots : List ℕ) → (store level : ℕ) → List ℕ
collected vs roots s k = filter (λ r. is_among r roots && (is_store s (store_of (shape_at vs r).space) && level (shape_at vs r) == k)) (needed_of vs roots)

-- ---- the plan

abbrev pub above_store : Made → ℕ
above_store (stored s v c) = suc s
above_store (operation op) = 0

-- a number above those of all datastores of the list
abbrev pub stores_in : List Vertex → ℕ
stores_in [] = 0
stores_in (v ∷ vs) = max (above_store v.made) (stores_in vs)

abbrev pub plan_of : List Vertex → (roots : List ℕ) → List Pass
plan_of vs roots = passes_up_to (work_of vs (needed_of vs roots)) (stores_in vs) (greatest_level (map (shape_at vs) roots))

abbrev pub IsPass : List Pass → Pass → Type 0
IsPass [] p = ⊥
IsPass (q ∷ qs) p = (q ≡ p) ⊎ IsPass qs p

-- the value stands in the work of the plan's pass of this level over the datastore
abbrev pub IsPlanned : List Vertex → (roots : List ℕ) → (store level : ℕ) → ℕ → Type 0
IsPlanned vs roots s k i = (p : Pass) × IsPass (plan_of vs roots) p × (p.store ≡ s) × (p.level ≡ k) × IsAmong p.work i

-- the rows of the value or of one of its operands are the datastore's
abbrev pub HasRowsOf : List Vertex → (store : ℕ) → ℕ → Type 0
HasRowsOf vs s i = (store_of (shape_at vs i).space ≡ Some s) ⊎ ((a : ℕ) × IsAmong (args_of (slice_get vs i)) a × (store_of (shape_at vs a).space ≡ Some s))
