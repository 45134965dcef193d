-- What mapreduce in a script gives, apart from the environment.
use Rattle.std.specs.Prelude.{◌≡◌, ℕ, true, List, [], ◌∷◌, Option, None, Some, option_map, slice_get, Result, Ok, Err, IfOk, IfErr, ⊤}
use Rattle.tall_value.specs.Names.{are_distinct}
use Rattle.tall_outside.specs.declared.shelf.Shelf as shelf
use Rattle.tall_outside.specs.Shelf.{Files}
use Rattle.tall_outside.specs.ShelfCounts.{IsLater, shelf_counts}
use Rattle.tall_semantics.specs.Talls.{Tall}
use Rattle.tall_local.specs.Arguments.{Argument, function, given}
use Rattle.tall_local.specs.Memory.{Memory}
use Rattle.tall_local.specs.Refusals as refusal
use Rattle.tall_local.specs.Refusals.{Stop, bad_argument, bad_class}
use Rattle.tall_local.specs.Values.{datastore, in_memory}
use Rattle.tall_script.specs.ScriptValues.{TallValue}
use Rattle.tall_script.specs.States.{Openings, Store}
use Rattle.tall_deferred.specs.declared.values.ScriptValue.{ScriptValue}
use Rattle.tall_deferred.specs.Values.{IsInMemory, value_at}
use Rattle.tall_environment.specs.declared.failures.Failure.{Failure}
use Rattle.tall_environment.specs.declared.failures.Failure.TheVariants as failure
use Rattle.tall_environment.specs.declared.failures.Refusal.{Refusal}
use Rattle.tall_environment.specs.Failures.{Blames, refusal_seen, stop_of}
use Rattle.tall_environment.specs.Moves.{OpensMore, OpensWithin}
use Rattle.tall_script_calls.specs.declared.reducing.Reduced.{Reduced}

-- ---- arguments

-- the name of a function, and no more
abbrev pub last_name : List (Argument TallValue) → Option (List ℕ)
last_name (function r ∷ []) = Some r
last_name args = None

-- the names of two functions, and no more
abbrev pub both_names : List (Argument TallValue) → Option (List ℕ × List ℕ)
both_names (function m ∷ args) = option_map (λ r. (m, r)) (last_name args)
both_names args = None

-- what stands before the names
abbrev pub reduced_by : Argument TallValue → Option (List ℕ × List ℕ) → Result (ℕ × List ℕ × List ℕ) refusal.Refusal
reduced_by (given (datastore place)) (Some names) = Ok (place, names.0, names.1)
reduced_by (given v) (Some names) = Err bad_class
reduced_by a names = Err bad_argument

-- arguments in code, or their refusal
abbrev pub Accepts : Result (ℕ × List ℕ × List ℕ) refusal.Refusal → Result Reduced Refusal → Type 0
Accepts want (Ok a) = want ≡ Ok (a.place, a.map.now, a.reduce.now)
Accepts want (Err e) = want ≡ Err (refusal_seen e)

-- ---- answers

-- the failure to read a file of this name, or want of memory
abbrev pub IsRead : List ℕ → Failure → Type 0
IsRead name (failure.Refused line e) = ⊥
IsRead name (failure.Read file) = file ≡ name
IsRead name (failure.TooLarge file) = ⊥
IsRead name (failure.Changed file first now) = ⊥
IsRead name failure.Memory = ⊤

-- a file of this name that is too large, or want of memory
abbrev pub IsTooLarge : List ℕ → Failure → Type 0
IsTooLarge name (failure.Refused line e) = ⊥
IsTooLarge name (failure.Read file) = ⊥
IsTooLarge name (failure.TooLarge file) = file ≡ name
IsTooLarge name (failure.Changed file first now) = ⊥
IsTooLarge name failure.Memory = ⊤

-- the stop that a failure names is what is wanted
abbrev pub StopsWith : Result Memory Stop → Failure → Type 0
StopsWith want e = (stop : Stop) → stop_of e ≡ Some stop → want ≡ Err stop

abbrev pub TellsValue : Result Memory Stop → Result ScriptValue Failure → Type 0
TellsValue want (Ok v) = (m : Memory) × (want ≡ Ok m) × ((f : ℕ → Tall) → value_at f v ≡ in_memory m)
TellsValue want (Err e) = StopsWith want e

abbrev pub files_of : Option Store → List (List ℕ)
files_of (Some d) = d.store.files
files_of None = []

abbrev pub files_at : List Store → (place : ℕ) → List (List ℕ)
files_at stores place = files_of (slice_get stores place)

-- each file once
abbrev pub opened_once : Store → List Openings
opened_once d = record { files = d.store.files; times = 1 } ∷ []

-- a table of the datastore's data was wanted, between two moments of the shelf
pub record Reduces {S : Type 0} (s : shelf.Ghosts S) (d : Store) (want : Files → Result Memory Stop) (before now : S) (r : Result ScriptValue Failure) : Type 0 where
  pub held : s.held now ≡ s.held before
  pub counts : IsLater (shelf_counts s before) (shelf_counts s now)
  pub grows : OpensMore (s.opened before) (s.opened now)
  pub within : are_distinct d.store.files ≡ true → OpensWithin (opened_once d) (s.opened before) (s.opened now)
  pub kept : IfOk r IsInMemory
  pub tells : (files : Files) → s.held before ≡ Some files → TellsValue (want files) r
  pub blames : IfErr r (λ e. Blames s e before now)
