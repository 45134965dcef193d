-- States in which what is named is there: the place of a datastore is that of one that was made, a tall value reads such
-- datastores alone, and a reading fault is one of such a datastore, at a row. No other state comes up in a run, so what the
-- definitions say of a datastore that isn't there, and of a reading fault without a row, is never looked at.
use Rattle.std.specs.Prelude.{◌≡◌, ℕ, ◌<◌, true, List, [], ◌∷◌, length, Option, None}
use Rattle.std.specs.List.{All}
use Rattle.std.specs.Option.{is_some}
use Rattle.tall_semantics.specs.Faults.{Cause, computed, reading, Fault}
use Rattle.tall_semantics.specs.Operations.{Tree, reads}
use Rattle.tall_semantics.specs.Outcomes.{Outcome, rows, scalar, fault, fault_of}
use Rattle.tall_semantics.specs.Talls.{Tall}
use Rattle.tall_local.specs.Arguments.{Argument, given, colon, function}
use Rattle.tall_local.specs.Expressions.{Valued, gives, stops}
use Rattle.tall_local.specs.Values.{datastore, tall_table, deferred, in_memory}
use Rattle.tall_script.specs.ScriptValues.{TallValue}
use Rattle.tall_script.specs.States.{State}

abbrev pub IsReadingOf : (stores : ℕ) → Cause → (store : ℕ) → (row : Option ℕ) → Type 0
IsReadingOf stores (computed kind) store row = Unit {0}
IsReadingOf stores (reading kind file) store row = (store < stores) × (is_some row ≡ true)

abbrev pub FaultStands : (stores : ℕ) → Fault → Type 0
FaultStands stores f = IsReadingOf stores f.cause f.store f.row

abbrev pub OutcomeStands : (stores : ℕ) → Outcome → Type 0
OutcomeStands stores (rows rs) = Unit {0}
OutcomeStands stores (scalar c) = Unit {0}
OutcomeStands stores (fault f) = FaultStands stores f

-- each datastore that is read is there
abbrev pub ReadsStand : (stores : ℕ) → Tree → Type 0
ReadsStand stores t = (store : ℕ) → reads store t ≡ true → store < stores

abbrev pub TallStands : (stores : ℕ) → Tall → Type 0
TallStands stores x = OutcomeStands stores x.outcome × ReadsStand stores x.shape.tree

abbrev pub TallsStand : (stores : ℕ) → List (List ℕ × Tall) → Type 0
TallsStand stores [] = Unit {0}
TallsStand stores (entry ∷ t) = TallStands stores entry.1 × TallsStand stores t

abbrev pub Stands : (stores : ℕ) → TallValue → Type 0
Stands stores (datastore place) = place < stores
Stands stores (tall_table t) = TallsStand stores t
Stands stores (deferred x) = TallStands stores x
Stands stores (in_memory v) = Unit {0}

abbrev pub NamesStand : (stores : ℕ) → List (List ℕ × TallValue) → Type 0
NamesStand stores [] = Unit {0}
NamesStand stores (entry ∷ names) = Stands stores entry.1 × NamesStand stores names

abbrev pub IsWellFormed : State Tall → Type 0
IsWellFormed s = NamesStand (length s.stores) s.names

-- ---- values inside a statement

-- an expression leaves such a state, and gives a value whose datastores it has
abbrev pub GivesStanding : Valued TallValue (State Tall) → Type 0
GivesStanding (gives v s) = IsWellFormed s × Stands (length s.stores) v
GivesStanding (stops stop s) = IsWellFormed s

abbrev pub ArgumentsStand : (stores : ℕ) → List (Argument TallValue) → Type 0
ArgumentsStand stores [] = Unit {0}
ArgumentsStand stores (given v ∷ args) = Stands stores v × ArgumentsStand stores args
ArgumentsStand stores (colon ∷ args) = ArgumentsStand stores args
ArgumentsStand stores (function name ∷ args) = ArgumentsStand stores args

-- and so do arguments, of which a gather, `tall` or mapreduce may be called
abbrev pub GiveStanding : Valued (List (Argument TallValue)) (State Tall) → Type 0
GiveStanding (gives args s) = IsWellFormed s × ArgumentsStand (length s.stores) args
GiveStanding (stops stop s) = IsWellFormed s

-- ---- values that a gather gives

abbrev pub HasNoFault : Tall → Type 0
HasNoFault x = fault_of x.outcome ≡ None

abbrev pub HaveNoFault : List Tall → Type 0
HaveNoFault xs = All HasNoFault xs
