-- What a failure of a gather names, and what it blames.
use Rattle.std.specs.Prelude.{◌≡◌, ◌<◌, ℕ, List, length, slice_get, Some, ⊤}
use Rattle.tall_store.specs.FileEnds.{name_of_file}
use Rattle.tall_store.specs.Stores.{SeenStore}
use Rattle.tall_store.specs.declared.faults.ReadingFault.{ReadingFault}
use Rattle.tall_walk.specs.Placed.{IsColumn}
use Rattle.tall_gather.specs.declared.faults.GatherFault.{GatherFault}
use Rattle.tall_gather.specs.declared.faults.GatherFault.TheVariants as fault
use Rattle.tall_environment.specs.declared.failures.Failure.{Failure}
use Rattle.tall_environment.specs.declared.failures.Failure.TheVariants as failure
use Rattle.tall_environment.specs.Failures.{IsInside}
use Rattle.tall_script_calls.specs.ReadingFailures.{IsOfReading}

-- ---- faults of datastores that are there

-- the datastore is there, and has the file
abbrev pub HasFile : List SeenStore → (store file : ℕ) → Type 0
HasFile list store file = (d : SeenStore) × (slice_get list store ≡ Some d) × (file < length d.files)

-- the datastore is there, and has the file and the variable of a reading fault
abbrev pub HasReading : List SeenStore → (store : ℕ) → ReadingFault → Type 0
HasReading list store g = (d : SeenStore) × (slice_get list store ≡ Some d) × (g.file < length d.files) × IsColumn g.kind (length d.names) g.column

-- what a fault names is there
abbrev pub IsNamed : List SeenStore → GatherFault → Type 0
IsNamed list (fault.Data x) = ⊤
IsNamed list (fault.Reading store g) = HasReading list store g
IsNamed list (fault.Read store file) = HasFile list store file
IsNamed list (fault.TooLarge store file) = HasFile list store file
IsNamed list (fault.Changed store file first last) = HasFile list store file
IsNamed list fault.Memory = ⊤

-- it may come where the files are told
abbrev pub MayBeTold : GatherFault → Type 0
MayBeTold (fault.Data x) = ⊤
MayBeTold (fault.Reading store g) = ⊤
MayBeTold (fault.Read store file) = ⊤
MayBeTold (fault.TooLarge store file) = ⊤
MayBeTold (fault.Changed store file first last) = ⊥
MayBeTold fault.Memory = ⊤

-- ---- failures

-- the name is that of the file
abbrev pub IsNameOf : List SeenStore → (store file : ℕ) → List ℕ → Type 0
IsNameOf list store file name = (d : SeenStore) → slice_get list store ≡ Some d → name ≡ name_of_file d file

abbrev pub IsRead : List SeenStore → (store file : ℕ) → Failure → Type 0
IsRead list store file (failure.Refused line e) = ⊥
IsRead list store file (failure.Read name) = IsNameOf list store file name
IsRead list store file (failure.TooLarge name) = ⊥
IsRead list store file (failure.Changed name first last) = ⊥
IsRead list store file failure.Memory = ⊤

abbrev pub IsTooLarge : List SeenStore → (store file : ℕ) → Failure → Type 0
IsTooLarge list store file (failure.Refused line e) = ⊥
IsTooLarge list store file (failure.Read name) = ⊥
IsTooLarge list store file (failure.TooLarge name) = IsNameOf list store file name
IsTooLarge list store file (failure.Changed name first last) = ⊥
IsTooLarge list store file failure.Memory = ⊤

abbrev pub IsChanged : List SeenStore → (store file m n : ℕ) → Failure → Type 0
IsChanged list store file m n (failure.Refused line e) = ⊥
IsChanged list store file m n (failure.Read name) = ⊥
IsChanged list store file m n (failure.TooLarge name) = ⊥
IsChanged list store file m n (failure.Changed name first last) = IsNameOf list store file name × (first ≡ m) × (last ≡ n)
IsChanged list store file m n failure.Memory = ⊤

-- the failure is that of the fault, or want of memory
abbrev pub IsFailureOf : List SeenStore → GatherFault → Failure → Type 0
IsFailureOf list (fault.Data x) e = IsInside e
IsFailureOf list (fault.Reading store g) e = IsOfReading g.kind e
IsFailureOf list (fault.Read store file) e = IsRead list store file e
IsFailureOf list (fault.TooLarge store file) e = IsTooLarge list store file e
IsFailureOf list (fault.Changed store file m n) e = IsChanged list store file m n e
IsFailureOf list fault.Memory e = IsInside e
