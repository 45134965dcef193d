-- What a walk over the files of a datastore says: docs/LANGUAGE.md, "Datastores" and "Reading faults".
use Rattle.std.specs.Prelude.{Result, Ok, Err, ◌+◌, ◌≡◌, ◌<◌, ◌≤◌, ◌^◌, ℕ, List, [], ◌∷◌, ◌++◌, length, map, take, drop, IfSome, Option, None, Some, ⊤}
use Rattle.std.specs.List.{flat_map}
use Rattle.std.specs.Option.{option_or}
use Rattle.tall_outside.specs.Count.{Rose}
use Rattle.tall_outside.specs.OpenedNames.{Adds, OpensOnce}
use Rattle.tall_outside.specs.Shelf.{Files}
use Rattle.tall_outside.specs.ShelfCounts.{Counts}
use Rattle.tall_value.specs.declared.faults.ReadingKind.TheVariants.{NoFile}
use Rattle.tall_store.specs.declared.faults.ReadingFault.{ReadingFault}
use Rattle.tall_store.specs.Blocks.{all_blocks, block_table, block_tables, first_met_from, first_refused, in_blocks, walked_blocks, walked_tables}
use Rattle.tall_store.specs.FileEnds.{IsTooLong, name_of_file}
use Rattle.tall_store.specs.Stored.{file_faults_from, first_fault}
use Rattle.tall_store.specs.Stores.{SeenStore}
use Rattle.tall_store.specs.Walk.{walk_from}
use Rattle.tall_store.specs.declared.file_end.FileEnd.TheVariants as end
use Rattle.tall_walk.specs.declared.ends.FileOutcome.{FileOutcome}
use Rattle.tall_walk.specs.declared.ends.FileOutcome.TheVariants as outcome
use Rattle.tall_walk.specs.declared.ends.WalkEnd.{WalkEnd}
use Rattle.tall_walk.specs.declared.ends.WalkEnd.TheVariants.{Whole, Reading, Stopped, Read, TooLarge, Memory}
use Rattle.tall_walk.specs.Events.{AreTables, Event, IsWalk, Tables, all_events, blocks_in, cut_of, events_from, first_in}
use Rattle.tall_walk.specs.OneFile.{IsOfFile}

-- ---- from file to file

-- so far, and from a place in the list and a row on: together they are all of the datastore
pub record GoesFrom (store : SeenStore) (files : Files) (file row : ℕ) (so_far : List Event) : Type 0 where
  pub events : all_events store files ≡ so_far ++ events_from store files file row (drop file store.files)
  pub blocks : all_blocks store files ≡ blocks_in so_far ++ flat_map (walked_blocks (in_blocks store.size)) (walk_from store files file row (drop file store.files))
  pub own : file_faults_from store files 0 1 store.files ≡ file_faults_from store files file row (drop file store.files)
  pub first : first_fault store files ≡ option_or (first_in store so_far) (first_met_from (cut_of store) store files file row (drop file store.files))
  pub tables : block_tables store files ≡ map (block_table store) (blocks_in so_far) ++ flat_map (walked_tables store) (walk_from store files file row (drop file store.files))
  pub refused : first_refused (block_tables store files) ≡ first_fault store files

-- the files below a place were walked over
pub record WalkedTo (P : List Event → Type 0) (store : SeenStore) (held : Option Files) (file row : ℕ) : Type 0 where
  pub events : List Event
  pub taken : P events
  pub walks : IsWalk 0 1 1 events file row row
  pub goes : IfSome held (λ files. GoesFrom store files file row events)

-- ---- ends

-- all files were walked over: where the shelf tells, all that comes of them was taken, no file has a fault of its own, and
-- the first fault of the datastore is that of the first block with one
pub record WalksAll (P : List Event → Type 0) (store : SeenStore) (held : Option Files) : Type 0 where
  pub events : List Event
  pub row : ℕ
  pub taken : P events
  pub walks : IsWalk 0 1 1 events (length store.files) row row
  pub few : row ≤ 2 ^ 40
  pub told : IfSome held (λ files. (events ≡ all_events store files) × (blocks_in events ≡ all_blocks store files) × (file_faults_from store files 0 1 store.files ≡ []) × (first_fault store files ≡ first_in store events))
  pub tables : IfSome held (λ files. AreTables store files (map (block_table store) (blocks_in events)))

-- a fault of a file itself: where the shelf tells, all that comes before it was taken, and it is the first of the datastore
-- but for faults in what was taken
pub record MeetsFault (P : List Event → Type 0) (store : SeenStore) (held : Option Files) (g : ReadingFault) : Type 0 where
  pub events : List Event
  pub first : ℕ
  pub row : ℕ
  pub taken : P events
  pub walks : IsWalk 0 1 1 events g.file first row
  pub own : IsOfFile g.file first g
  pub told : IfSome held (λ files. (more : List Event) × (all_events store files ≡ events ++ more) × (first_fault store files ≡ option_or (first_in store events) (Some g)))
  pub tables : IfSome held (λ files. AreTables store files (map (block_table store) (blocks_in events) ++ Err g ∷ []))

-- the taker stopped: where the shelf tells, all that comes before was taken, and the first fault in this and in the block at
-- which it stopped, if there is one, is the first of the datastore
pub record StopsAt (P : List Event → Event → Type 0) (store : SeenStore) (held : Option Files) (opened : ℕ) : Type 0 where
  pub events : List Event
  pub event : Event
  pub file : ℕ
  pub first : ℕ
  pub row : ℕ
  pub stopped : P events event
  pub walks : IsWalk 0 1 1 events file first row
  pub next : (k m n : ℕ) × IsWalk file first row (event ∷ []) k m n
  pub below : file < opened
  pub told : IfSome held (λ files. (more : List Event) × (all_events store files ≡ events ++ event ∷ more)
      × ((g : ReadingFault) → first_in store (events ++ event ∷ []) ≡ Some g → first_fault store files ≡ Some g))
  pub tables : IfSome held (λ files. (rest : Tables) × AreTables store files (map (block_table store) (blocks_in (events ++ event ∷ [])) ++ rest))

-- what an end says, where so many files were opened
abbrev pub TellsEnd : {E : Type 0} → (List Event → Type 0) → (E → List Event → Event → Type 0) → SeenStore → Option Files → (opened : ℕ) → WalkEnd E → Type 0
TellsEnd P Q store held opened Whole = WalksAll P store held × (opened ≡ length store.files)
TellsEnd P Q store held opened (Reading g) = MeetsFault P store held g × (g.file < opened)
TellsEnd P Q store held opened (Stopped e) = StopsAt (Q e) store held opened
TellsEnd P Q store held opened (Read file) = file < opened
TellsEnd P Q store held opened (TooLarge file) = file < opened
TellsEnd P Q store held opened Memory = ⊤

-- the first files of the list were opened, each once and in order, and no other; the one that the end names among them
pub record Walked {E : Type 0} (P : List Event → Type 0) (Q : E → List Event → Event → Type 0) (store : SeenStore) (held : Option Files) (before now : Option (List (List ℕ))) (how : WalkEnd E) : Type 0 where
  pub opened : ℕ
  pub within : opened ≤ length store.files
  pub opens : Adds (take opened store.files) before now
  pub tells : TellsEnd P Q store held opened how

-- the counts that an end blames have risen
abbrev pub IsExplained : {E : Type 0} → WalkEnd E → (before after : Counts) → Type 0
IsExplained Whole before after = ⊤
IsExplained (Reading g) before after = g.kind ≡ NoFile → Rose before.misses after.misses
IsExplained (Stopped e) before after = ⊤
IsExplained (Read file) before after = Rose before.faults after.faults
IsExplained (TooLarge file) before after = 2 ^ 50 < after.came
IsExplained Memory before after = ⊤

-- a file is too large only where it is there, and longer than one opening may be
abbrev pub IsLonger : {E : Type 0} → SeenStore → Option Files → WalkEnd E → Type 0
IsLonger store held Whole = ⊤
IsLonger store held (Reading g) = ⊤
IsLonger store held (Stopped e) = ⊤
IsLonger store held (Read file) = ⊤
IsLonger store held (TooLarge file) = IfSome held (λ files. IsTooLong files (name_of_file store file))
IsLonger store held Memory = ⊤

-- ---- one file more

-- how a walk goes on behind a file, with the number of its records, or how it ends
abbrev pub EndsAs : {E : Type 0} → (file : ℕ) → FileOutcome E → Result ℕ (WalkEnd E) → Type 0
EndsAs file (outcome.Ended (end.Whole n)) result = result ≡ Ok n
EndsAs file (outcome.Ended (end.Reading g)) result = result ≡ Err (Reading g)
EndsAs file (outcome.Ended end.Failed) result = result ≡ Err (Read file)
EndsAs file (outcome.Ended end.TooLarge) result = result ≡ Err (TooLarge file)
EndsAs file (outcome.Ended end.Memory) result = result ≡ Err Memory
EndsAs file (outcome.Stopped e) result = result ≡ Err (Stopped e)

-- what an end at the next file says
abbrev pub EndsNext : {E : Type 0} → (List Event → Type 0) → (E → List Event → Event → Type 0) → SeenStore → Option Files → (file : ℕ) → WalkEnd E → Type 0
EndsNext P Q store held next Whole = ⊥
EndsNext P Q store held next (Reading g) = MeetsFault P store held g × (g.file ≡ next)
EndsNext P Q store held next (Stopped e) = StopsAt (Q e) store held (next + 1)
EndsNext P Q store held next (Read file) = file ≡ next
EndsNext P Q store held next (TooLarge file) = file ≡ next
EndsNext P Q store held next Memory = ⊤

-- the file was opened once; for want of memory it may not have been opened
abbrev pub OpensNext : {E : Type 0} → List ℕ → (before now : Option (List (List ℕ))) → Result ℕ (WalkEnd E) → Type 0
OpensNext name before now (Ok row) = Adds (name ∷ []) before now
OpensNext name before now (Err Whole) = Adds (name ∷ []) before now
OpensNext name before now (Err (Reading g)) = Adds (name ∷ []) before now
OpensNext name before now (Err (Stopped e)) = Adds (name ∷ []) before now
OpensNext name before now (Err (Read file)) = Adds (name ∷ []) before now
OpensNext name before now (Err (TooLarge file)) = Adds (name ∷ []) before now
OpensNext name before now (Err Memory) = OpensOnce name before now
