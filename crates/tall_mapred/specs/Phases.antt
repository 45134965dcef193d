-- The phases of mapreduce as calls on empty stores, and how far they have come.
use Rattle.std.specs.Prelude.{◌≡◌, ◌<◌, ◌≤◌, ◌^◌, ℕ, List, [], ◌∷◌, ◌++◌, length, slice_get, Option, Some, None, Result, Ok, Err, map, ⊤}
use Rattle.tall_grammar.specs.Trees.{SeenFunction}
use Rattle.tall_kv.specs.ByKey.{Group}
use Rattle.tall_local.specs.Calls.{CallResult, call_reduce}
use Rattle.tall_local.specs.Pairs.{Pair}
use Rattle.tall_local.specs.Refusals.{Stop, stop_at}
use Rattle.tall_outside.specs.Shelf.{Files}
use Rattle.tall_store.specs.Blocks.{Block, block_table, block_tables}
use Rattle.tall_store.specs.Stores.{SeenStore}
use Rattle.tall_store.specs.declared.file_rows.FileBlock.{FileBlock}
use Rattle.tall_script.specs.MapReduce.{map_phase}
use Rattle.tall_script.specs.MapReduceLaws.{joined_results, mapped_block}
use Rattle.tall_script.specs.ReadingFaults.{stop_of_reading}
use Rattle.tall_script.specs.States.{Store}
use Rattle.tall_walk.specs.Events.{block_of}
use Rattle.tall_fun.specs.Faults.{refusal_at, row_of}
use Rattle.tall_mapred.specs.declared.faults.MapFault.{MapFault}
use Rattle.tall_mapred.specs.declared.faults.MapFault.TheVariants.{At, Reading, Read, TooLarge, Memory}
use Rattle.tall_mapred.specs.Pieces.{IsOfPhase}

abbrev pub Wants : Type 0
Wants = List (Result CallResult Stop)

-- the call for each block, or its reading fault
abbrev pub map_wants : Store → SeenFunction → List Block → Wants
map_wants d f blocks = map (mapped_block d f) (map (block_table d.store) blocks)

-- the call for each key with its values
abbrev pub reduce_want : SeenFunction → Group → Result CallResult Stop
reduce_want f g = Ok (call_reduce f g.key g.values.cells [])

-- ---- ends

-- a phase ends with this fault; a failing shelf and want of memory say nothing of it
abbrev pub EndsWith : {A : Type 0} → Store → Result A Stop → MapFault → Type 0
EndsWith d want (At line row kind) = (want ≡ Err (stop_at line (refusal_at row kind))) × (row ≡ row_of (refusal_at row kind))
EndsWith d want (Reading g) = want ≡ Err (stop_of_reading d g)
EndsWith d want (Read file) = ⊤
EndsWith d want (TooLarge file) = ⊤
EndsWith d want Memory = ⊤

-- the call that is wanted next ends the phase over a store, whatever is left
abbrev pub Ends : Store → (want : Result CallResult Stop) → List Pair → MapFault → Type 0
Ends d want old fault = (rest : Wants) → EndsWith d (joined_results (want ∷ rest) old) fault

-- it was appended, so that what is left goes on from the new store; or it ends the phase
abbrev pub Appends : {A : Type 0} → Store → (want : Result CallResult Stop) → List Pair → List Pair → Result A MapFault → Type 0
Appends d want old new (Ok done) = (rest : Wants) → joined_results (want ∷ rest) old ≡ joined_results rest new
Appends d want old new (Err fault) = Ends d want old fault

-- so were several calls, or one of them ends the phase
abbrev pub AppendsAll : {A : Type 0} → Store → Wants → List Pair → List Pair → Result A MapFault → Type 0
AppendsAll d wants old new (Ok done) = (rest : Wants) → joined_results (wants ++ rest) old ≡ joined_results rest new
AppendsAll d wants old new (Err fault) = (rest : Wants) → EndsWith d (joined_results (wants ++ rest) old) fault

-- ---- the map phase

-- the datastore and the function
pub record Given : Type 0 where
  pub store : SeenStore
  pub function : SeenFunction

-- where they are given
abbrev pub OfGiven : Option Given → (Given → Type 0) → Type 0
OfGiven None P = ⊥
OfGiven (Some g) P = P g

-- how many files the datastore has, where it is given
abbrev pub files_given : Option Given → ℕ
files_given None = 0
files_given (Some g) = length g.store.files

-- a block of one of so many files, whose rows are numbered from 1 to 2^40
abbrev pub IsWaiting : (files : ℕ) → FileBlock → Type 0
IsWaiting files b = (b.file < files) × (1 ≤ b.row) × (b.row ≤ 2 ^ 40)

abbrev pub AreWaiting : (files : ℕ) → List FileBlock → Type 0
AreWaiting files blocks = (i : ℕ) (b : FileBlock) → slice_get blocks i ≡ Some b → IsWaiting files b

-- the calls for these blocks were made, and their pairs appended
abbrev pub HasMapped : Given → List Pair → List Block → Type 0
HasMapped g pairs blocks = (d : Store) → d.store ≡ g.store → (rest : Wants) → joined_results (map_wants d g.function blocks ++ rest) [] ≡ joined_results rest pairs

-- the calls for some of the blocks were made, and their pairs appended; the rest of the blocks waits
pub record HasTaken (g : Given) (pairs : List Pair) (waiting : List FileBlock) (blocks : List Block) : Type 0 where
  pub front : List Block
  pub cut : blocks ≡ front ++ map block_of waiting
  pub mapped : HasMapped g pairs front
  pub waits : AreWaiting (length g.store.files) waiting

-- the phase ends with this fault, whatever follows these blocks
abbrev pub EndsMap : Given → List Block → MapFault → Type 0
EndsMap g blocks fault = IsOfPhase g.store fault × ((d : Store) → d.store ≡ g.store → (rest : Wants) → EndsWith d (joined_results (map_wants d g.function blocks ++ rest) []) fault)

-- the pairs of all blocks, or the first fault, where the shelf tells
abbrev pub Maps : Files → Store → SeenFunction → Result (List Pair) MapFault → Type 0
Maps files d f (Ok pairs) = map_phase d f (block_tables d.store files) [] ≡ Ok pairs
Maps files d f (Err (At line row kind)) = EndsWith d (map_phase d f (block_tables d.store files) []) (At line row kind)
Maps files d f (Err (Reading g)) = EndsWith d (map_phase d f (block_tables d.store files) []) (Reading g)
Maps files d f (Err (Read file)) = ⊤
Maps files d f (Err (TooLarge file)) = ⊤
Maps files d f (Err Memory) = ⊤

-- ---- the reduce phase

abbrev pub reduce_wants : SeenFunction → List Group → Wants
reduce_wants f groups = map (reduce_want f) groups

-- the calls for all groups were made
abbrev pub Reduces : Store → SeenFunction → List Group → Result (List Pair) MapFault → Type 0
Reduces d f groups (Ok out) = joined_results (reduce_wants f groups) [] ≡ Ok out
Reduces d f groups (Err fault) = EndsWith d (joined_results (reduce_wants f groups) []) fault
