-- What the walk of a pass says: its sums and the numbers of records, or why it ended.
use Rattle.std.specs.Prelude.{◌≡◌, ◌<◌, ◌^◌, ◌⊎◌, ℕ, List, length, Option, None, Some, Result, Ok, Err, option_map, ⊤}
use Rattle.tall_outside.specs.Shelf.{Files}
use Rattle.tall_semantics.specs.Faults.{fault_seen}
use Rattle.tall_store.specs.Blocks.{Block, all_blocks}
use Rattle.tall_store.specs.Stored.{first_fault}
use Rattle.tall_piece.specs.declared.sums.Sums.{Sums}
use Rattle.tall_piece.specs.Passes.{PassOver}
use Rattle.tall_piece.specs.Pieces.{AreSums, SumsFit}
use Rattle.tall_walk.specs.Events.{Event, blocks_in, first_in}
use Rattle.tall_walk.specs.declared.ends.WalkEnd.{WalkEnd}
use Rattle.tall_walk.specs.declared.ends.WalkEnd.TheVariants as end
use Rattle.tall_pass.specs.declared.faults.PassFault.{PassFault}
use Rattle.tall_pass.specs.declared.faults.PassFault.TheVariants.{Reading, Read, TooLarge, Changed, Memory}
use Rattle.tall_pass.specs.declared.walking.Walked.{Walked}
use Rattle.tall_pass.specs.Answered.{Answer}
use Rattle.tall_pass.specs.Counts.{AreCounted}
use Rattle.tall_pass.specs.Taken.{AreEnded, AreGiven, EndsBlocks, Inputs}

-- the sums before the first block
pub record AreNone (w : Inputs) (s : Sums) : Type 0 where
  pub rows : s.rows ≡ 0
  pub fit : SumsFit w.vertices 0 w.wanted s.sums.items
  pub sums : (store : ℕ) (p : PassOver w.vertices store w.all w.wanted) → AreSums p 0 s.rows (option_map fault_seen s.fault) s.sums.items

-- those of some blocks
pub record AreSome (w : Inputs) (s : Sums) : Type 0 where
  pub fit : SumsFit w.vertices s.rows w.wanted s.sums.items
  pub few : s.rows < 2 ^ 40

-- those of these blocks, where these are blocks of a pass
abbrev pub AreSumsOf : Inputs → List Block → Sums → Type 0
AreSumsOf w blocks s = (store : ℕ) (p : PassOver w.vertices store w.all w.wanted) → AreGiven w p blocks
    → AreSums p (length blocks) s.rows (option_map fault_seen s.fault) s.sums.items

-- ---- behind the walk

-- what the taker has to have taken
abbrev pub NeedsTaken : {E : Type 0} → (List Event → Type 0) → WalkEnd E → Type 0
NeedsTaken P end.Whole = (events : List Event) × P events
NeedsTaken P (end.Reading g) = (events : List Event) × P events
NeedsTaken P (end.Stopped e) = ⊤
NeedsTaken P (end.Read file) = ⊤
NeedsTaken P (end.TooLarge file) = ⊤
NeedsTaken P end.Memory = ⊤

-- all that was taken is joined
pub record JoinsAll (w : Inputs) (first : List (Option ℕ)) (events : List Event) (r : Walked) : Type 0 where
  pub none : first_in w.store events ≡ None
  pub some : AreSome w r.sums
  pub sums : AreSumsOf w (blocks_in events) r.sums
  pub ended : AreEnded first events r.counts

abbrev pub EndsWhole : (P : List Event → Type 0) → Inputs → List (Option ℕ) → Result Walked PassFault → Type 0
EndsWhole P w first (Ok r) = (events : List Event) → P events → JoinsAll w first events r
EndsWhole P w first (Err e) = (events : List Event) → P events → EndsBlocks w.store (blocks_in events) e

-- a fault of a file, or that of a block that waited
abbrev pub EndsReading : (P : List Event → Type 0) → Inputs → PassFault → Result Walked PassFault → Type 0
EndsReading P w g (Ok r) = ⊥
EndsReading P w g (Err e) = (events : List Event) → P events → EndsBlocks w.store (blocks_in events) e ⊎ ((e ≡ g) × (first_in w.store events ≡ None))

-- what comes of the walk's end and of what was taken
abbrev pub EndsWalk : (P : List Event → Type 0) → Inputs → List (Option ℕ) → WalkEnd PassFault → Result Walked PassFault → Type 0
EndsWalk P w first end.Whole r = EndsWhole P w first r
EndsWalk P w first (end.Reading g) r = EndsReading P w (Reading g) r
EndsWalk P w first (end.Stopped e) r = r ≡ Err e
EndsWalk P w first (end.Read file) r = r ≡ Err (Read file)
EndsWalk P w first (end.TooLarge file) r = r ≡ Err (TooLarge file)
EndsWalk P w first end.Memory r = r ≡ Err Memory

-- ---- the answer

-- as that of a pass, which may still end for want of memory
abbrev pub answer_of : Result Walked PassFault → Answer
answer_of (Ok r) = Ok None
answer_of (Err e) = Err e

-- where the shelf tells its files: the sums are those of all blocks, or the fault is the datastore's first
abbrev pub WalkTells : Inputs → Files → List (Option ℕ) → Result Walked PassFault → Type 0
WalkTells w files first (Ok r) = (first_fault w.store files ≡ None) × AreSumsOf w (all_blocks w.store files) r.sums × (AreCounted files w.store first → AreCounted files w.store r.counts)
WalkTells w files first (Err (Reading g)) = first_fault w.store files ≡ Some g
WalkTells w files first (Err (Read file)) = ⊤
WalkTells w files first (Err (TooLarge file)) = ⊤
WalkTells w files first (Err (Changed file before now)) = AreCounted files w.store first → ⊥
WalkTells w files first (Err Memory) = ⊤
