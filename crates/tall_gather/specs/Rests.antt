-- What stands in no pass: what becomes of one of its values.
use Rattle.std.specs.Prelude.{◌≡◌, ◌<◌, ◌⊎◌, ◌&&◌, ℕ, true, false, Option, None, Some, List, length, slice_get}
use Rattle.tall_value.specs.declared.faults.Fault as value
use Rattle.tall_semantics.specs.Faults.{Fault, fault_seen}
use Rattle.tall_semantics.specs.Talls.{Columns, Tall}
use Rattle.tall_semantics.specs.Deferred.{Vertex, IsAmong, IsMeaning, own_in}
use Rattle.tall_semantics.specs.Numbered.{number_at}
use Rattle.tall_semantics.specs.Plans.{store_at}
use Rattle.tall_semantics.specs.RowsOfSpaces.{AreColumns}
use Rattle.tall_blocks.specs.LevelWork.{is_rest}
use Rattle.tall_fuse.specs.Results.{Found}
use Rattle.tall_fuse.specs.Kept.{carry, found}
use Rattle.tall_fuse.specs.declared.known.Known.{Known}
use Rattle.tall_pass.specs.Fitting.{AreFit}
use Rattle.tall_pass.specs.PassPlans.{is_below_at}
use Rattle.tall_pass.specs.Told.{Shows}
use Rattle.tall_gather.specs.Progress.{IsKnown}

-- neither it nor an operand has a datastore's rows
pub record IsRestAt (vs : List Vertex) (i : ℕ) : Type 0 where
  pub there : i < length vs
  pub no_store : store_at vs i ≡ None

-- f solves the equations of the list, over columns that are no scalars, of which those of one datastore have its rows
pub record IsComputed (columns : Columns) (vs : List Vertex) (f : ℕ → Tall) : Type 0 where
  pub meaning : IsMeaning columns vs f
  pub of_stores : ℕ → List ℕ
  pub stored : AreColumns columns of_stores vs

-- all that is known is what f has
abbrev pub AreShown : (ℕ → Tall) → Known → Type 0
AreShown f known = (i : ℕ) (r : Found) → found known i ≡ Some r → Shows (f i) r

-- an operand isn't known
abbrev pub LacksOperand : List Vertex → Known → ℕ → Type 0
LacksOperand vs known i = (v : Vertex) × (a : ℕ) × (slice_get vs i ≡ Some v) × IsAmong v.args a × (found known a ≡ None)

-- the value was added, or an operand isn't known and nothing was, or there is a fault with the expression's number
abbrev pub IsPutOr : List Vertex → ℕ → Option value.Fault → (old new : Known) → Type 0
IsPutOr vs i None old new = IsKnown new i ⊎ LacksOperand vs old i
IsPutOr vs i (Some x) old new = x.number ≡ number_at (slice_get vs i)

pub record IsPut (vs : List Vertex) (i : ℕ) (x : Option value.Fault) (old new : Known) : Type 0 where
  pub fit : AreFit vs new
  pub stay : (j : ℕ) → IsKnown old j → IsKnown new j
  pub others : (j : ℕ) (r : Found) → found new j ≡ Some r → (found old j ≡ Some r) ⊎ (j ≡ i)
  pub carries : (j b : ℕ) → carry new j b ≡ carry old j b
  pub put : IsPutOr vs i x old new

-- where f is known: what is there is f's value, and the fault is its own
abbrev pub TellsPut : List Vertex → (ℕ → Tall) → ℕ → Option value.Fault → Known → Type 0
TellsPut vs f i None new = AreShown f new
TellsPut vs f i (Some x) new = AreShown f new × (own_in vs f i ≡ Some (fault_seen x))

-- one node of a level: it was left out, since it isn't such a value of the level below the candidate, or looked at
abbrev pub StepsRest : List Vertex → (k : ℕ) → (c : Option Fault) → ℕ → Option value.Fault → (old new : Known) → Type 0
StepsRest vs k c i x old new =
    (((is_rest vs k i && is_below_at vs c i) ≡ false) × (x ≡ None) × (new ≡ old))
    ⊎ (((is_rest vs k i && is_below_at vs c i) ≡ true) × IsPut vs i x old new)
