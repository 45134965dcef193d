-- What the answer of a pass says whatever the shelf tells: what is known behind it, what it opened and what it blames.
use Rattle.std.specs.Prelude.{◌≡◌, ◌≢◌, ◌<◌, ◌≤◌, ◌^◌, ◌⊎◌, ℕ, Option, Some, Result, Ok, Err, List, length, take, ⊤}
use Rattle.tall_outside.specs.Count.{Rose}
use Rattle.tall_outside.specs.OpenedNames.{Adds}
use Rattle.tall_outside.specs.Shelf.{Files}
use Rattle.tall_outside.specs.ShelfCounts.{Counts}
use Rattle.tall_value.specs.declared.faults.Fault as value
use Rattle.tall_value.specs.declared.faults.ReadingKind.TheVariants as kind
use Rattle.tall_value.specs.Cells.{Seen}
use Rattle.tall_dense.specs.Columns.{class_of_cell}
use Rattle.tall_semantics.specs.Deferred.{Vertex}
use Rattle.tall_semantics.specs.Faults.{Fault}
use Rattle.tall_semantics.specs.ShapesInOrder.{shape_at}
use Rattle.tall_store.specs.FileEnds.{IsTooLong, name_of_file}
use Rattle.tall_store.specs.Stores.{SeenStore}
use Rattle.tall_walk.specs.Placed.{IsColumn}
use Rattle.tall_fuse.specs.Results.{Found}
use Rattle.tall_fuse.specs.Kept.{carry, found}
use Rattle.tall_fuse.specs.declared.known.Known.{Known}
use Rattle.tall_plan.specs.declared.passes.Pass.{Pass}
use Rattle.tall_pass.specs.declared.faults.PassFault.{PassFault}
use Rattle.tall_pass.specs.declared.faults.PassFault.TheVariants.{Reading, Read, TooLarge, Changed, Memory}
use Rattle.tall_pass.specs.Counts.{count_at}
use Rattle.tall_pass.specs.PassPlans.{IsCarried, IsResult}
use Rattle.tall_pass.specs.Fitting.{IsFit}

abbrev pub Answer : Type 0
Answer = Result (Option value.Fault) PassFault

-- ---- what is known

pub record IsUnchanged (old new : Known) : Type 0 where
  pub results : (i : ℕ) → found new i ≡ found old i
  pub carries : (i b : ℕ) → carry new i b ≡ carry old i b

-- the results of the work numbered below p were added, and the carries that came with it; all else is as it was
pub record Adding (vs : List Vertex) (pass : Pass) (p : Option Fault) (old new : Known) : Type 0 where
  pub added : (i : ℕ) → IsResult vs pass p i → (r : Found) × (found new i ≡ Some r)
  pub results : (i : ℕ) (r : Found) → found new i ≡ Some r → (found old i ≡ Some r) ⊎ (IsResult vs pass p i × IsFit (shape_at vs i) r)
  pub stay : (i : ℕ) (r : Found) → found old i ≡ Some r → (found new i ≡ Some r) ⊎ IsResult vs pass p i
  pub carries : (i b : ℕ) (c : Seen) → carry new i b ≡ Some c → (carry old i b ≡ Some c) ⊎ (IsCarried vs pass p i × (class_of_cell c ≡ (shape_at vs i).class))
  pub carries_stay : (i b : ℕ) (c : Seen) → carry old i b ≡ Some c → (carry new i b ≡ Some c) ⊎ IsCarried vs pass p i

-- ---- openings

-- the file that an answer names is among the first n
abbrev pub IsNamedBelow : ℕ → Answer → Type 0
IsNamedBelow n (Ok p) = ⊤
IsNamedBelow n (Err (Reading g)) = g.file < n
IsNamedBelow n (Err (Read file)) = file < n
IsNamedBelow n (Err (TooLarge file)) = file < n
IsNamedBelow n (Err (Changed file first now)) = file < n
IsNamedBelow n (Err Memory) = ⊤

-- the first files of the list were opened, each once and in order, and no other; the one that the answer names among them
abbrev pub OpensFiles : List (List ℕ) → Answer → (before now : Option (List (List ℕ))) → Type 0
OpensFiles files answer before now = (n : ℕ) × (n ≤ length files) × Adds (take n files) before now × IsNamedBelow n answer

-- ---- causes

-- the counts that an answer blames have risen
abbrev pub IsExplained : Answer → (before after : Counts) → Type 0
IsExplained (Ok p) before after = ⊤
IsExplained (Err (Reading g)) before after = g.kind ≡ kind.NoFile → Rose before.misses after.misses
IsExplained (Err (Read file)) before after = Rose before.faults after.faults
IsExplained (Err (TooLarge file)) before after = 2 ^ 50 < after.came
IsExplained (Err (Changed file first now)) before after = ⊤
IsExplained (Err Memory) before after = ⊤

-- a file is too large only where it is there, and longer than one opening may be
abbrev pub IsLonger : SeenStore → Files → Answer → Type 0
IsLonger store files (Err (TooLarge file)) = IsTooLong files (name_of_file store file)
IsLonger store files answer = ⊤

-- a file has changed only where it was counted before, with another number
abbrev pub IsChange : List (Option ℕ) → Answer → Type 0
IsChange counts (Err (Changed file first now)) = (count_at counts file ≡ Some first) × (first ≢ now)
IsChange counts answer = ⊤

-- ---- where reading faults stand

-- the fault of a field names a variable of the datastore
abbrev pub IsPlaced : SeenStore → Answer → Type 0
IsPlaced store (Err (Reading g)) = IsColumn g.kind (length store.names) g.column
IsPlaced store answer = ⊤
