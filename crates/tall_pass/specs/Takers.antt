-- What a taker has taken, by its fields.
use Rattle.std.specs.Prelude.{◌≡◌, ◌<◌, ◌^◌, ℕ, IfOk, List, Result, Some, Vec, length, map}
use denote.Ref.{Bor}
use Rattle.tall_store.specs.declared.file_rows.FileBlock.{FileBlock}
use Rattle.tall_piece.specs.declared.pieces.Piece.{Piece}
use Rattle.tall_walk.specs.Events.{Event, block_of}
use Rattle.tall_pass.specs.declared.given.PassGiven as given
use Rattle.tall_pass.specs.declared.given.Shared.{Shared}
use Rattle.tall_pass.specs.declared.taker.Taker.{Taker}
use Rattle.tall_pass.specs.Taken.{ArePieces, AreWaiting, HasTaken, Inputs, inputs}

abbrev pub shared_inputs : Shared → Inputs
shared_inputs s = inputs s.store.now s.graph.now s.known.now s.all.now s.wanted.now

abbrev pub inputs_of : {C K : Type 0} → Taker C K → Inputs
inputs_of t = shared_inputs t.shared

-- a call, by what it asks for and what it gives, that makes the pieces of any blocks that wait, the first of which has the number
pub record MakesPieces {Y E : Type 0} (w : Inputs) (asks : Bor (List FileBlock) → (first : ℕ) → Type 0) (gives : Bor (List FileBlock) → (first : ℕ) → Result (Vec Piece Y) E → Type 0) : Type 0 where
  pub may : (blocks : Bor (List FileBlock)) (first : ℕ) → AreWaiting (length w.store.files) blocks.now → first < 2 ^ 40 → asks blocks first
  pub does : (blocks : Bor (List FileBlock)) (first : ℕ) (r : Result (Vec Piece Y) E) → AreWaiting (length w.store.files) blocks.now → first < 2 ^ 40 → gives blocks first r
      → IfOk r (λ v. ArePieces w first (map block_of blocks.now) v.items)

-- it works with what is given, its call makes the pieces of blocks, and it has taken these events
abbrev pub Takes : {C K Y E : Type 0} (asks : C → Bor (List FileBlock) → (first : ℕ) → Type 0) (gives : C → Bor (List FileBlock) → (first : ℕ) → Result (Vec Piece Y) E → Type 0) (k : given.Ghosts K)
    → Taker C K → List Event → Type 0
Takes asks gives k t events =
    (k.inputs ≡ Some (inputs_of t)) × MakesPieces (inputs_of t) (asks t.call.now) (gives t.call.now) × HasTaken (inputs_of t) k.counts t.joined t.window.items t.counts events
