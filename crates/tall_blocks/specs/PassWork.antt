-- The pass over a datastore at one level: its work, and which values it computes block by block. Its work are the level's
-- values with rows of the datastore, and those without such rows that are made of operands with them: reductions, ends,
-- distinct values and groups, which the pass has at its end. It also goes over the operands of scans whose carries are due.
-- Rows aren't kept, so a pass computes again what all these need of the lower levels; it may compute more.
use Rattle.std.specs.Prelude.{◌≡◌, ◌<◌, ℕ, ◌↔◌, Bool, true, not, ◌&&◌, nat_lt, Option, None, Some, List, slice_get}
use Rattle.tall_semantics.specs.Faults.{Fault}
use Rattle.tall_semantics.specs.Spaces.{is_single, has_rows, store_of}
use Rattle.tall_semantics.specs.Talls.{Tall}
use Rattle.tall_semantics.specs.Deferred.{Vertex, IsAmong}
use Rattle.tall_semantics.specs.Least.{IsBelow}
use Rattle.tall_semantics.specs.Levels.{UpTo, IsWork}
use Rattle.tall_semantics.specs.Numbered.{nodes_by, number_at}
use Rattle.tall_semantics.specs.Plans.{is_among, is_store, is_scan_at, needed_of}

-- ---- the work of level k below the candidate c

-- with rows of the datastore
abbrev pub IsWorkOf : (store : ℕ) → List Vertex → (ℕ → Tall) → (levels : ℕ → ℕ) → (needed : List ℕ) → (k : ℕ) → (c : Option Fault) → ℕ → Type 0
IsWorkOf store vs f levels needed k c i = IsWork (nodes_by vs f levels) (IsAmong needed) k c i × (store_of (f i).shape.space ≡ Some store)

-- it has no datastore's rows, but an operand that has this one's
abbrev pub IsEndOver : (store : ℕ) → List Vertex → (ℕ → Tall) → ℕ → Type 0
IsEndOver store vs f i = (store_of (f i).shape.space ≡ None) × ((v : Vertex) × (a : ℕ) × (slice_get vs i ≡ Some v) × IsAmong v.args a × (store_of (f a).shape.space ≡ Some store))

abbrev pub IsEndOf : (store : ℕ) → List Vertex → (ℕ → Tall) → (levels : ℕ → ℕ) → (needed : List ℕ) → (k : ℕ) → (c : Option Fault) → ℕ → Type 0
IsEndOf store vs f levels needed k c i = IsWork (nodes_by vs f levels) (IsAmong needed) k c i × IsEndOver store vs f i

-- a scan whose carries come with this level; `carried` tells the level
abbrev pub IsDueOf : (store : ℕ) → List Vertex → (ℕ → Tall) → (carried : ℕ → ℕ) → (needed : List ℕ) → (k : ℕ) → (c : Option Fault) → ℕ → Type 0
IsDueOf store vs f carried needed k c i = IsAmong needed i × (is_scan_at (slice_get vs i) ≡ true) × (store_of (f i).shape.space ≡ Some store) × (carried i ≡ k) × IsBelow c (number_at (slice_get vs i))

-- ---- what is computed block by block

-- what is cut lies within the needed values up to the level, and below the candidate; it has the work with rows, and the
-- operands with rows of all other work and of the scans that are due; and with a value its operands that have the rows
pub record IsCutFor (store : ℕ) (vs : List Vertex) (f : ℕ → Tall) (levels carried : ℕ → ℕ) (needed : List ℕ) (k : ℕ) (c : Option Fault) (cut : ℕ → Bool) : Type 0 where
  pub within : (i : ℕ) → cut i ≡ true → (store_of (f i).shape.space ≡ Some store) × UpTo (nodes_by vs f levels) (IsAmong needed) k i × IsBelow c (number_at (slice_get vs i))
  pub work : (i : ℕ) → IsWorkOf store vs f levels needed k c i → cut i ≡ true
  pub ends : (i a : ℕ) (v : Vertex) → IsEndOf store vs f levels needed k c i → slice_get vs i ≡ Some v → IsAmong v.args a → store_of (f a).shape.space ≡ Some store → cut a ≡ true
  pub scans : (i a : ℕ) (v : Vertex) → IsDueOf store vs f carried needed k c i → slice_get vs i ≡ Some v → IsAmong v.args a → store_of (f a).shape.space ≡ Some store → cut a ≡ true
  pub closed : (i a : ℕ) (v : Vertex) → slice_get vs i ≡ Some v → cut i ≡ true → IsAmong v.args a → store_of (f a).shape.space ≡ Some store → cut a ≡ true

-- what a pass asks for: places within the needed values up to the level and below the candidate, with the work with rows of
-- the datastore, and the operands with rows of all other work and of the scans that are due
pub record AreAsked (store : ℕ) (vs : List Vertex) (f : ℕ → Tall) (levels carried : ℕ → ℕ) (needed : List ℕ) (k : ℕ) (c : Option Fault) (asked : List ℕ) : Type 0 where
  pub within : (i : ℕ) → IsAmong asked i → UpTo (nodes_by vs f levels) (IsAmong needed) k i × IsBelow c (number_at (slice_get vs i))
  pub work : (i : ℕ) → IsWorkOf store vs f levels needed k c i → IsAmong asked i
  pub ends : (i a : ℕ) (v : Vertex) → IsEndOf store vs f levels needed k c i → slice_get vs i ≡ Some v → IsAmong v.args a → store_of (f a).shape.space ≡ Some store → IsAmong asked a
  pub scans : (i a : ℕ) (v : Vertex) → IsDueOf store vs f carried needed k c i → slice_get vs i ≡ Some v → IsAmong v.args a → store_of (f a).shape.space ≡ Some store → IsAmong asked a

-- with all that this is made of and that has the datastore's rows: the least that may be cut
abbrev pub cut_under : (store : ℕ) → List Vertex → (ℕ → Tall) → (asked : List ℕ) → ℕ → Bool
cut_under store vs f asked i = is_store store (store_of (f i).shape.space) && is_among i (needed_of vs asked)

-- all that may be cut
abbrev pub IsCutAt : (store : ℕ) → List Vertex → (ℕ → Tall) → (levels : ℕ → ℕ) → (needed : List ℕ) → (k : ℕ) → (c : Option Fault) → (ℕ → Bool) → Type 0
IsCutAt store vs f levels needed k c cut = (i : ℕ) → (cut i ≡ true) ↔ ((store_of (f i).shape.space ≡ Some store) × UpTo (nodes_by vs f levels) (IsAmong needed) k i × IsBelow c (number_at (slice_get vs i)))

-- a scalar that a value with rows is made of has a lower level, and so is known before the value's pass
abbrev pub AreScalarsLower : List Vertex → (ℕ → Tall) → (levels : ℕ → ℕ) → Type 0
AreScalarsLower vs f levels = (i a : ℕ) (v : Vertex) → slice_get vs i ≡ Some v → IsAmong v.args a → is_single (f a).shape.space ≡ true → has_rows (f i).shape.space ≡ true → levels a < levels i

-- ---- as tests

abbrev pub is_below : Option Fault → ℕ → Bool
is_below (Some x) n = nat_lt n x.number
is_below None n = true

abbrev pub cut_at : (store : ℕ) → List Vertex → (ℕ → Tall) → (levels : ℕ → ℕ) → (needed : List ℕ) → (k : ℕ) → (c : Option Fault) → ℕ → Bool
cut_at store vs f levels needed k c i = is_store store (store_of (f i).shape.space) && (is_among i needed && (not (nat_lt k (levels i)) && is_below c (number_at (slice_get vs i))))
