-- What the fault of a call of a map or a reduce function names, and what a call comes to.
use Rattle.std.specs.Prelude.{ℕ, ◌≡◌, List, Option, None, Some, Result, Ok, Err}
use Rattle.tall_value.specs.declared.faults.FaultKind.TheVariants as cell
use Rattle.tall_local.specs.Calls.{CallResult}
use Rattle.tall_local.specs.Pairs.{Pair}
use Rattle.tall_local.specs.Refusals.{Refusal, undefined, mixed_class, bad_class, bad_size, bad_argument, bad_index, failed, no_value_left, no_progress, too_many_turns, bad_key, bad_value, too_many_rows, Stop, stop_at}
use Rattle.tall_fun.specs.declared.faults.FunKind.{FunKind}
use Rattle.tall_fun.specs.declared.faults.FunKind.TheVariants as kind
use Rattle.tall_fun.specs.declared.faults.FunFault.{FunFault}
use Rattle.tall_fun.specs.declared.faults.FunFault.TheVariants as fault

-- the refusal of a kind; a row is of data alone
abbrev pub refusal_at : Option ℕ → FunKind → Refusal
refusal_at row (kind.Undefined name) = undefined name
refusal_at row kind.MixedClass = mixed_class
refusal_at row kind.BadClass = bad_class
refusal_at row kind.BadSize = bad_size
refusal_at row kind.BadArgument = bad_argument
refusal_at row kind.BadIndex = bad_index
refusal_at row kind.Inexact = failed row cell.Inexact
refusal_at row kind.NotWhole = failed row cell.NotWhole
refusal_at row kind.NanLogical = failed row cell.NanLogical
refusal_at row kind.NoRows = failed row cell.NoRows
refusal_at row kind.EndOfValues = no_value_left
refusal_at row kind.NoProgress = no_progress
refusal_at row kind.TooManyTurns = too_many_turns
refusal_at row kind.KeyClass = bad_key
refusal_at row kind.ValueClass = bad_value
refusal_at row kind.TooManyRows = too_many_rows

abbrev pub row_of : Refusal → Option ℕ
row_of (failed row kind) = row
row_of refusal = None

-- the line, the row if any and the kind of what stops, or want of memory, where nothing does
abbrev pub Names : Option Stop → FunFault → Type 0
Names stop (fault.At line row kind) = (stop ≡ Some (stop_at line (refusal_at row kind))) × (row ≡ row_of (refusal_at row kind))
Names stop fault.Memory = stop ≡ None

-- what a call leaves in its store and what it answers, to what the definitions give: the pairs up to the end or up to the first fault,
-- with its line, its row and its kind; want of memory may come at any time
abbrev pub CallsTo : {A : Type 0} → CallResult → List Pair → Result A FunFault → Type 0
CallsTo want pairs (Ok u) = want ≡ record { pairs = pairs; stop = None }
CallsTo want pairs (Err (fault.At line row kind)) =
    (want ≡ record { pairs = pairs; stop = Some (stop_at line (refusal_at row kind)) }) × (row ≡ row_of (refusal_at row kind))
CallsTo want pairs (Err fault.Memory) = Unit {0}
