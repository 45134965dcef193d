-- What mapreduce answers.
use Rattle.std.specs.Prelude.{◌≡◌, ◌<◌, ◌≤◌, ◌^◌, ℕ, List, [], ◌∷◌, Option, Result, Ok, Err, length, take, codes, ⊤}
use Rattle.tall_column.specs.Columns.{SeenColumn}
use Rattle.tall_local.specs.Memory.{table}
use Rattle.tall_local.specs.Memory as memory
use Rattle.tall_local.specs.Pairs.{Pair}
use Rattle.tall_local.specs.Refusals.{Stop, stop_at}
use Rattle.tall_outside.specs.Count.{Rose}
use Rattle.tall_outside.specs.OpenedNames.{Adds}
use Rattle.tall_outside.specs.Shelf.{Files}
use Rattle.tall_outside.specs.ShelfCounts.{Counts}
use Rattle.tall_value.specs.declared.faults.ReadingKind.TheVariants.{NoFile}
use Rattle.tall_store.specs.FileEnds.{IsTooLong, name_of_file}
use Rattle.tall_store.specs.Stores.{SeenStore}
use Rattle.tall_script.specs.ReadingFaults.{stop_of_reading}
use Rattle.tall_script.specs.States.{Store}
use Rattle.tall_walk.specs.Placed.{IsColumn}
use Rattle.tall_fun.specs.Faults.{refusal_at, row_of}
use Rattle.tall_mapred.specs.declared.faults.MapFault.{MapFault}
use Rattle.tall_mapred.specs.declared.faults.MapFault.TheVariants.{At, Reading, Read, TooLarge, Memory}

abbrev pub Answer : Type 0
Answer = Result (List (List ℕ × SeenColumn)) MapFault

-- ---- where the shelf tells its files

-- the table or the first fault; a failing shelf, a file that is too large and want of memory say nothing
abbrev pub Tells : Store → Result memory.Memory Stop → Answer → Type 0
Tells d want (Ok t) = want ≡ Ok (table t)
Tells d want (Err (At line row kind)) = (want ≡ Err (stop_at line (refusal_at row kind))) × (row ≡ row_of (refusal_at row kind))
Tells d want (Err (Reading g)) = want ≡ Err (stop_of_reading d g)
Tells d want (Err (Read file)) = ⊤
Tells d want (Err (TooLarge file)) = ⊤
Tells d want (Err Memory) = ⊤

-- ---- whatever the shelf tells

-- two columns, Key and Value, of one height below 2^40
pub record IsPairTable (t : List (List ℕ × SeenColumn)) : Type 0 where
  pub key : SeenColumn
  pub value : SeenColumn
  pub columns : t ≡ (codes "Key", key) ∷ (codes "Value", value) ∷ []
  pub height : length key.cells < 2 ^ 40
  pub same : length value.cells ≡ length key.cells

-- the file that the answer names is among the first n
abbrev pub NamesOne : Answer → (n : ℕ) → Type 0
NamesOne (Err (Read file)) n = file < n
NamesOne (Err (TooLarge file)) n = file < n
NamesOne answer n = ⊤

-- the first files of the list were opened, each once and in order, and no other
pub record OpensFiles (files : List (List ℕ)) (answer : Answer) (before now : Option (List (List ℕ))) : Type 0 where
  pub opened : ℕ
  pub within : opened ≤ length files
  pub opens : Adds (take opened files) before now
  pub named : NamesOne answer opened

-- the counts that an answer blames have risen
abbrev pub IsExplained : Answer → (before after : Counts) → Type 0
IsExplained (Ok t) before after = ⊤
IsExplained (Err (At line row kind)) before after = ⊤
IsExplained (Err (Reading g)) before after = g.kind ≡ NoFile → Rose before.misses after.misses
IsExplained (Err (Read file)) before after = Rose before.faults after.faults
IsExplained (Err (TooLarge file)) before after = 2 ^ 50 < after.came
IsExplained (Err Memory) before after = ⊤

-- a file that is too large is there, and longer than one opening may be
abbrev pub IsLonger : SeenStore → Files → Answer → Type 0
IsLonger store files (Err (TooLarge file)) = IsTooLong files (name_of_file store file)
IsLonger store files answer = ⊤

-- a reading fault is in a file of the datastore, and that of a field names a variable of it
abbrev pub IsPlaced : SeenStore → Answer → Type 0
IsPlaced store (Err (Reading g)) = (g.file < length store.files) × IsColumn g.kind (length store.names) g.column
IsPlaced store answer = ⊤

-- ---- of the map phase

-- with no table yet
abbrev pub answer_of : Result (List Pair) MapFault → Answer
answer_of (Ok pairs) = Ok []
answer_of (Err fault) = Err fault
