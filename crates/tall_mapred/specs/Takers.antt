-- What a taker has taken, by its fields, and how the map phase ends behind a walk.
use Rattle.std.specs.Prelude.{◌≡◌, ◌⊎◌, ◌<◌, ◌≤◌, ◌+◌, ◌∷◌, ◌++◌, [], ℕ, List, Option, Some, Result, Ok, Err, IfOk, Vec, length, ⊤}
use Rattle.std.specs.Borrow.{Bor}
use Rattle.std.specs.List.{AllZip}
use Rattle.tall_grammar.specs.Views.{routine_of}
use Rattle.tall_local.specs.Pairs.{Pair}
use Rattle.tall_store.specs.declared.file_rows.FileBlock.{FileBlock}
use Rattle.tall_walk.specs.Events.{Event, blocks_in}
use Rattle.tall_walk.specs.declared.ends.WalkEnd.{WalkEnd}
use Rattle.tall_walk.specs.declared.ends.WalkEnd.TheVariants as end
use Rattle.tall_mapred.specs.declared.calls.CallPiece.{CallPiece}
use Rattle.tall_mapred.specs.declared.faults.MapFault.{MapFault}
use Rattle.tall_mapred.specs.declared.faults.MapFault.TheVariants.{Reading, Read, TooLarge, Memory}
use Rattle.tall_mapred.specs.declared.given.MapGiven as given
use Rattle.tall_mapred.specs.declared.given.Shared.{Shared}
use Rattle.tall_mapred.specs.declared.taker.MapTaker.{MapTaker}
use Rattle.tall_mapred.specs.Phases.{AreWaiting, EndsMap, Given, HasMapped, HasTaken, OfGiven}
use Rattle.tall_mapred.specs.Pieces.{IsBlockPiece}

abbrev pub shared_given : Shared → Given
shared_given s = record { store = s.store.now; function = routine_of s.function.now }

-- a call, by what it asks for and what it gives, that makes the map calls for the blocks of a window
pub record MakesPieces {Y E : Type 0} (g : Given) (asks : Bor (List FileBlock) → Type 0) (gives : Bor (List FileBlock) → Result (Vec CallPiece Y) E → Type 0) : Type 0 where
  pub may : (blocks : Bor (List FileBlock)) → AreWaiting (length g.store.files) blocks.now → length blocks.now ≤ 128 → asks blocks
  pub does : (blocks : Bor (List FileBlock)) (r : Result (Vec CallPiece Y) E) → AreWaiting (length g.store.files) blocks.now → length blocks.now ≤ 128 → gives blocks r
      → IfOk r (λ v. AllZip (IsBlockPiece g.store g.function) blocks.now v.items)

-- with what is given, and with such a call: these events were taken, and the window has room for so many blocks
pub record Taking {Y E : Type 0} (o : Option Given) (asks : Bor (List FileBlock) → Type 0) (gives : Bor (List FileBlock) → Result (Vec CallPiece Y) E → Type 0) (most room : ℕ) (pairs : List Pair) (window : List FileBlock) (events : List Event) : Type 0 where
  pub given : Given
  pub is : o ≡ Some given
  pub makes : MakesPieces given asks gives
  pub fits : length window + room ≤ most
  pub some : 0 < most
  pub few : most ≤ 128
  pub taken : HasTaken given pairs window (blocks_in events)

abbrev pub Takes : {C K Y E : Type 0} (asks : C → Bor (List FileBlock) → Type 0) (gives : C → Bor (List FileBlock) → Result (Vec CallPiece Y) E → Type 0) (k : given.Ghosts K) (room : ℕ) → MapTaker C K → List Event → Type 0
Takes asks gives k room t events = Taking k.given (asks t.call.now) (gives t.call.now) t.most room t.pairs t.window.items events

-- the map phase ends with this fault, whatever follows the events
abbrev pub EndsTaken : Option Given → List Event → MapFault → Type 0
EndsTaken o events fault = OfGiven o (λ g. EndsMap g (blocks_in events) fault)

-- the same, where the last event is told apart
abbrev pub Stops : Option Given → MapFault → List Event → Event → Type 0
Stops o fault before event = EndsTaken o (before ++ event ∷ []) fault

-- ---- behind the walk

-- what the taker has to have taken
abbrev pub NeedsTaken : {E : Type 0} → (List Event → Type 0) → WalkEnd E → Type 0
NeedsTaken P end.Whole = (events : List Event) × P events
NeedsTaken P (end.Reading g) = (events : List Event) × P events
NeedsTaken P (end.Stopped e) = ⊤
NeedsTaken P (end.Read file) = ⊤
NeedsTaken P (end.TooLarge file) = ⊤
NeedsTaken P end.Memory = ⊤

-- the calls for all blocks were made
abbrev pub MapsTaken : Option Given → List Event → List Pair → Type 0
MapsTaken o events pairs = OfGiven o (λ g. HasMapped g pairs (blocks_in events))

-- the pairs of all that was taken, or a fault in it
abbrev pub EndsWhole : (P : List Event → Type 0) → Option Given → Result (List Pair) MapFault → Type 0
EndsWhole P o (Ok pairs) = (events : List Event) → P events → MapsTaken o events pairs
EndsWhole P o (Err e) = (events : List Event) → P events → EndsTaken o events e

-- a fault of a file, or one in what was taken before
abbrev pub EndsReading : (P : List Event → Type 0) → Option Given → MapFault → Result (List Pair) MapFault → Type 0
EndsReading P o g (Ok pairs) = ⊥
EndsReading P o g (Err e) = (events : List Event) → P events → EndsTaken o events e ⊎ ((e ≡ g) × (pairs : List Pair) × MapsTaken o events pairs)

-- what comes of the walk's end and of what was taken
abbrev pub EndsWalk : (P : List Event → Type 0) → Option Given → WalkEnd MapFault → Result (List Pair) MapFault → Type 0
EndsWalk P o end.Whole r = EndsWhole P o r
EndsWalk P o (end.Reading g) r = EndsReading P o (Reading g) r
EndsWalk P o (end.Stopped e) r = r ≡ Err e
EndsWalk P o (end.Read file) r = r ≡ Err (Read file)
EndsWalk P o (end.TooLarge file) r = r ≡ Err (TooLarge file)
EndsWalk P o end.Memory r = r ≡ Err Memory
