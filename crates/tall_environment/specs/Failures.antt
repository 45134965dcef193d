-- What a failure names, and what it blames.
use Rattle.std.specs.Prelude.{◌≡◌, ◌≢◌, ◌<◌, ◌^◌, ℕ, List, Option, None, Some, Result, Ok, Err, ⊤}
use Rattle.tall_outside.specs.declared.shelf.Shelf as shelf
use Rattle.tall_outside.specs.Count.{Rose}
use Rattle.tall_outside.specs.Shelf.{Files, openings_of}
use Rattle.tall_store.specs.FileEnds.{IsTooLong}
use Rattle.tall_local.specs.Refusals as refusal
use Rattle.tall_local.specs.Refusals.{Stop, stop_at}
use Rattle.tall_environment.specs.declared.failures.Refusal.{Refusal}
use Rattle.tall_environment.specs.declared.failures.Refusal.TheVariants as r
use Rattle.tall_environment.specs.declared.failures.Failure.{Failure}
use Rattle.tall_environment.specs.declared.failures.Failure.TheVariants as failure

abbrev pub refusal_seen : Refusal → refusal.Refusal
refusal_seen (r.Undefined name) = refusal.undefined name
refusal_seen r.MixedClass = refusal.mixed_class
refusal_seen r.BadClass = refusal.bad_class
refusal_seen r.Incompatible = refusal.incompatible
refusal_seen r.BadSize = refusal.bad_size
refusal_seen r.BadArgument = refusal.bad_argument
refusal_seen r.BadIndex = refusal.bad_index
refusal_seen (r.Data row kind) = refusal.failed row kind
refusal_seen (r.NoFile name) = refusal.no_file name
refusal_seen (r.NoHeader name) = refusal.no_header name
refusal_seen (r.HeaderDiffers name) = refusal.header_differs name
refusal_seen r.TooManyRows = refusal.too_many_rows
refusal_seen (r.TooManyFields row) = refusal.too_many_fields row
refusal_seen (r.BadField row variable) = refusal.bad_field row variable
refusal_seen (r.BadText row variable) = refusal.bad_text row variable
refusal_seen (r.FieldNotWhole row variable) = refusal.field_not_whole row variable
refusal_seen (r.FieldInexact row variable) = refusal.field_inexact row variable
refusal_seen r.NoValueLeft = refusal.no_value_left
refusal_seen r.NoProgress = refusal.no_progress
refusal_seen r.TooManyTurns = refusal.too_many_turns
refusal_seen r.BadKey = refusal.bad_key
refusal_seen r.BadValue = refusal.bad_value

-- none where memory was wanting or the outside failed
abbrev pub stop_of : Failure → Option Stop
stop_of (failure.Refused line e) = Some (stop_at line (refusal_seen e))
stop_of (failure.Read name) = None
stop_of (failure.TooLarge name) = None
stop_of (failure.Changed name first now) = None
stop_of failure.Memory = None

-- a failure on a line where this is wanted
abbrev pub Refuses : {D : Type 0} → (line : ℕ) → Result D refusal.Refusal → Failure → Type 0
Refuses line want e = (stop : Stop) → stop_of e ≡ Some stop → (named : refusal.Refusal) × (want ≡ Err named) × (stop_at line named ≡ stop)

-- an answer to what is wanted on a line
abbrev pub AnswersAt : {V D : Type 0} → (V → D) → (line : ℕ) → Result D refusal.Refusal → Result V Failure → Type 0
AnswersAt view line want (Ok v) = want ≡ Ok (view v)
AnswersAt view line want (Err e) = Refuses line want e

-- ---- causes

-- a name was opened since, where the shelf tells
abbrev pub IsOpened : {S : Type 0} → shelf.Ghosts S → List ℕ → (before now : S) → Type 0
IsOpened s name before now = (names all : List (List ℕ)) → s.opened before ≡ Some names → s.opened now ≡ Some all → openings_of name names < openings_of name all

-- of a refusal: a file that isn't there was missed
abbrev pub IsBlamed : {S : Type 0} → shelf.Ghosts S → Refusal → (before now : S) → Type 0
IsBlamed s (r.NoFile name) before now = Rose (s.misses before) (s.misses now)
IsBlamed s e before now = ⊤

-- why a failure came between two moments of the shelf
abbrev pub Blames : {S : Type 0} → shelf.Ghosts S → Failure → (before now : S) → Type 0
Blames s (failure.Refused line e) before now = IsBlamed s e before now
Blames s (failure.Read name) before now = Rose (s.faults before) (s.faults now) × IsOpened s name before now
Blames s (failure.TooLarge name) before now = (2 ^ 50 < s.came now) × IsOpened s name before now
    × ((files : Files) → s.held before ≡ Some files → IsTooLong files name)
Blames s (failure.Changed name first last) before now = (first ≢ last) × IsOpened s name before now
    × ((files : Files) → s.held before ≡ Some files → ⊥)
Blames s failure.Memory before now = ⊤

-- a failure that blames nothing
abbrev pub IsWithin : Refusal → Type 0
IsWithin (r.NoFile name) = ⊥
IsWithin e = ⊤

abbrev pub IsInside : Failure → Type 0
IsInside (failure.Refused line e) = IsWithin e
IsInside (failure.Read name) = ⊥
IsInside (failure.TooLarge name) = ⊥
IsInside (failure.Changed name first last) = ⊥
IsInside failure.Memory = ⊤
