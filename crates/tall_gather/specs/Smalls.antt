-- What the code makes of a value that stands in no pass.
use Rattle.std.specs.Prelude.{◌≡◌, ℕ, Bool, true, false, Some, Result, Ok, Err, List, slice_get, ⊤}
use Rattle.tall_semantics.specs.Faults.{fault_seen}
use Rattle.tall_semantics.specs.Outcomes.{Outcome, fault}
use Rattle.tall_semantics.specs.Talls.{Columns, Tall}
use Rattle.tall_semantics.specs.ShapesInOrder.{shape_at}
use Rattle.tall_semantics.specs.Deferred.{Vertex, own_in}
use Rattle.tall_semantics.specs.Numbered.{number_at}
use Rattle.tall_semantics.specs.Spaces.{Space, is_single}
use Rattle.tall_fuse.specs.Results.{Found}
use Rattle.tall_fuse.specs.declared.known.Known.{Known}
use Rattle.tall_part.specs.declared.operation.EndOperation.{EndOperation}
use Rattle.tall_part.specs.declared.operation.EndOperation.TheVariants as end
use Rattle.tall_part.specs.declared.results.EndColumn.{EndColumn}
use Rattle.tall_part.specs.declared.results.EndFault.{EndFault}
use Rattle.tall_part.specs.declared.results.EndFault.TheVariants as fault_of_end
use Rattle.tall_gather.specs.declared.operands.Operand.{Operand}
use Rattle.tall_gather.specs.declared.small.Small.{Small}
use Rattle.tall_gather.specs.declared.small.Small.TheVariants.{Made, Failed, Unknown, Memory}
use Rattle.tall_pass.specs.Fitting.{IsFit, has_numbers}
use Rattle.tall_pass.specs.Told.{AreNumbersOf, IsOutcome, Shows}
use Rattle.tall_gather.specs.Rests.{IsComputed, LacksOperand}

abbrev pub small_found : EndColumn → Found
small_found v = record { column = v.column; rows = v.rows.items }

-- what is known of an operand
abbrev pub found_in : Operand → Found
found_in x = record { column = x.column.now; rows = x.numbers.now }

-- ---- an answer for a node whose operands are known

-- whatever the shelf tells
abbrev pub FitsAnswer : List Vertex → ℕ → Result EndColumn EndFault → Type 0
FitsAnswer vs i (Ok v) = IsFit (shape_at vs i) (small_found v)
FitsAnswer vs i (Err (fault_of_end.Data x)) = x.number ≡ number_at (slice_get vs i)
FitsAnswer vs i (Err fault_of_end.Memory) = ⊤

-- where its outcome is told
abbrev pub TellsAnswer : (numbered : Bool) → Outcome → Result EndColumn EndFault → Type 0
TellsAnswer numbered x (Ok v) = IsOutcome x v.column.cells × AreNumbersOf numbered x v.rows.items
TellsAnswer numbered x (Err (fault_of_end.Data f)) = x ≡ fault (fault_seen f)
TellsAnswer numbered x (Err fault_of_end.Memory) = ⊤

-- of the value that f has there
abbrev pub TellsValue : Tall → Result EndColumn EndFault → Type 0
TellsValue x result = TellsAnswer (has_numbers x.shape.space) x.outcome result

-- for all values f that the operand a, of which this is known, and both operands show
abbrev pub TellsOfOne : List Vertex → (i a : ℕ) → Found → Result EndColumn EndFault → Type 0
TellsOfOne vs i a x result = (columns : Columns) (f : ℕ → Tall) → IsComputed columns vs f → Shows (f a) x → TellsValue (f i) result

abbrev pub TellsOfTwo : List Vertex → (i a b : ℕ) → (x y : Found) → Result EndColumn EndFault → Type 0
TellsOfTwo vs i a b x y result = (columns : Columns) (f : ℕ → Tall) → IsComputed columns vs f → Shows (f a) x → Shows (f b) y → TellsValue (f i) result

-- the space of what the operation gives: that of a scalar, or one whose rows have numbers
abbrev pub IsEndSpace : EndOperation → Space → Type 0
IsEndSpace (end.Reduce r) s = is_single s ≡ true
IsEndSpace e s = (is_single s ≡ false) × (has_numbers s ≡ true)

-- ---- what becomes of a node

abbrev pub BecomesSmall : Result EndColumn EndFault → Small → Type 0
BecomesSmall (Ok v) result = result ≡ Made v
BecomesSmall (Err (fault_of_end.Data f)) result = result ≡ Failed f
BecomesSmall (Err fault_of_end.Memory) result = result ≡ Memory

-- whatever the shelf tells
abbrev pub FitsSmall : List Vertex → ℕ → Known → Small → Type 0
FitsSmall vs i known (Made v) = IsFit (shape_at vs i) (small_found v)
FitsSmall vs i known (Failed x) = x.number ≡ number_at (slice_get vs i)
FitsSmall vs i known Unknown = LacksOperand vs known i
FitsSmall vs i known Memory = ⊤

-- where the values f are told
abbrev pub TellsSmall : List Vertex → (ℕ → Tall) → ℕ → Small → Type 0
TellsSmall vs f i (Made v) = Shows (f i) (small_found v)
TellsSmall vs f i (Failed x) = own_in vs f i ≡ Some (fault_seen x)
TellsSmall vs f i Unknown = ⊤
TellsSmall vs f i Memory = ⊤
