-- What the calls of a gather do to the shelf, and what an answer blames.
use Rattle.std.specs.Prelude.{◌≡◌, ◌≢◌, ◌<◌, ◌≤◌, ◌^◌, ◌+◌, ◌==◌, if◌then◌else◌, ◌⊎◌, ℕ, zero, suc, Option, None, Some, Result, Ok, Err, List, [], ◌∷◌, length, slice_get, ⊤}
use Rattle.tall_outside.specs.declared.shelf.Shelf as shelf
use Rattle.tall_outside.specs.Count.{Rose}
use Rattle.tall_outside.specs.Shelf.{Files, openings_of}
use Rattle.tall_outside.specs.ShelfCounts.{Counts, IsLater, shelf_counts}
use Rattle.tall_value.specs.declared.faults.ReadingKind.TheVariants.{NoFile}
use Rattle.tall_store.specs.declared.faults.ReadingFault.{ReadingFault}
use Rattle.tall_store.specs.FileEnds.{IsTooLong, name_of_file}
use Rattle.tall_store.specs.Stores.{SeenStore}
use Rattle.tall_plan.specs.declared.passes.Pass.{Pass}
use Rattle.tall_walk.specs.Placed.{IsColumn}
use Rattle.tall_gather.specs.declared.candidate.Candidate.{Candidate}
use Rattle.tall_gather.specs.declared.candidate.Candidate.TheVariants as candidate
use Rattle.tall_gather.specs.declared.faults.GatherFault.{GatherFault}
use Rattle.tall_gather.specs.declared.faults.GatherFault.TheVariants.{Data, Reading, Read, TooLarge, Changed, Memory}

-- ---- openings

-- a name was opened no more often than the bound says, where the names that were opened are told
abbrev pub OpensAtMost : (bound : List ℕ → ℕ) → (before now : Option (List (List ℕ))) → Type 0
OpensAtMost bound before now = (names : List (List ℕ)) → before ≡ Some names
    → (all : List (List ℕ)) × (now ≡ Some all) × ((name : List ℕ) → (openings_of name names ≤ openings_of name all) × (openings_of name all ≤ openings_of name names + bound name))

-- the shelf holds what it held, and no count fell
pub record Went {S : Type 0} (s : shelf.Ghosts S) (bound : List ℕ → ℕ) (before now : S) : Type 0 where
  pub held : s.held now ≡ s.held before
  pub later : IsLater (shelf_counts s before) (shelf_counts s now)
  pub opens : OpensAtMost bound (s.opened before) (s.opened now)

abbrev pub files_of : Option SeenStore → List (List ℕ)
files_of None = []
files_of (Some d) = d.files

-- a pass over the datastore may open each of its files once
abbrev pub pass_openings : List SeenStore → (store : ℕ) → List ℕ → ℕ
pass_openings list store name = openings_of name (files_of (slice_get list store))

-- those of a level may open the files of their datastores once each
abbrev pub level_openings : List SeenStore → (k : ℕ) → List Pass → List ℕ → ℕ
level_openings list k [] name = 0
level_openings list k (p ∷ ps) name = (if p.level == k then pass_openings list p.store name else 0) + level_openings list k ps name

-- and those of the levels from 1 to n
abbrev pub levels_openings : List SeenStore → (n : ℕ) → List Pass → List ℕ → ℕ
levels_openings list zero ps name = 0
levels_openings list (suc n) ps name = levels_openings list n ps name + level_openings list (n + 1) ps name

-- ---- causes

-- the file is one of the datastore's, and was opened since
abbrev pub IsOpened : {S : Type 0} → shelf.Ghosts S → List SeenStore → (store file : ℕ) → (before now : S) → Type 0
IsOpened s list store file before now = (d : SeenStore) × (slice_get list store ≡ Some d) × (file < length d.files)
    × ((names all : List (List ℕ)) → s.opened before ≡ Some names → s.opened now ≡ Some all → openings_of (name_of_file d file) names < openings_of (name_of_file d file) all)

abbrev pub IsLongFile : Files → Option SeenStore → (file : ℕ) → Type 0
IsLongFile files None file = ⊤
IsLongFile files (Some d) file = IsTooLong files (name_of_file d file)

-- a reading fault names a file of its datastore, and a variable where it is a field's; that a file isn't there is counted
pub record IsReadingOf (list : List SeenStore) (store : ℕ) (g : ReadingFault) (before after : Counts) : Type 0 where
  pub found : SeenStore
  pub there : slice_get list store ≡ Some found
  pub file : g.file < length found.files
  pub column : IsColumn g.kind (length found.names) g.column
  pub missed : g.kind ≡ NoFile → Rose before.misses after.misses

abbrev pub IsBlamed : List SeenStore → Option Candidate → (before after : Counts) → Type 0
IsBlamed list None before after = ⊤
IsBlamed list (Some (candidate.Data f)) before after = ⊤
IsBlamed list (Some (candidate.Reading r)) before after = IsReadingOf list r.store r.fault before after

-- what an answer that breaks off blames
abbrev pub IsCaused : {S : Type 0} → shelf.Ghosts S → List SeenStore → GatherFault → (before now : S) → Type 0
IsCaused s list (Data f) before now = ⊤
IsCaused s list (Reading store g) before now = IsReadingOf list store g (shelf_counts s before) (shelf_counts s now)
IsCaused s list (Read store file) before now = Rose (s.faults before) (s.faults now) × IsOpened s list store file before now
IsCaused s list (TooLarge store file) before now = (2 ^ 50 < s.came now) × IsOpened s list store file before now
    × ((files : Files) → s.held before ≡ Some files → IsLongFile files (slice_get list store) file)
IsCaused s list (Changed store file first last) before now = (first ≢ last) × IsOpened s list store file before now
IsCaused s list Memory before now = ⊤

abbrev pub IsAnswered : {S : Type 0} → shelf.Ghosts S → List SeenStore → Result (Option Candidate) GatherFault → (before now : S) → Type 0
IsAnswered s list (Ok p) before now = IsBlamed list p (shelf_counts s before) (shelf_counts s now)
IsAnswered s list (Err e) before now = IsCaused s list e before now

-- the candidate from before, or one that is blamed on what was done
abbrev pub IsAnsweredOr : {S : Type 0} → shelf.Ghosts S → List SeenStore → Option Candidate → Result (Option Candidate) GatherFault → (before now : S) → Type 0
IsAnsweredOr s list c (Ok p) before now = (p ≡ c) ⊎ IsBlamed list p (shelf_counts s before) (shelf_counts s now)
IsAnsweredOr s list c (Err e) before now = IsCaused s list e before now
