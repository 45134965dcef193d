-- What a failure of a datastore's reading blames: a file that isn't there, and nothing else.
use Rattle.std.specs.Prelude.{◌≡◌, ⊤}
use Rattle.tall_value.specs.declared.faults.ReadingKind.{ReadingKind}
use Rattle.tall_value.specs.declared.faults.ReadingKind.TheVariants.{NoFile}
use Rattle.tall_environment.specs.declared.failures.Refusal.{Refusal}
use Rattle.tall_environment.specs.declared.failures.Refusal.TheVariants as r
use Rattle.tall_environment.specs.declared.failures.Failure.{Failure}
use Rattle.tall_environment.specs.declared.failures.Failure.TheVariants as failure

abbrev pub IsOfKind : ReadingKind → Refusal → Type 0
IsOfKind kind (r.NoFile name) = kind ≡ NoFile
IsOfKind kind e = ⊤

-- the failure is that of a reading fault of the kind, or want of memory
abbrev pub IsOfReading : ReadingKind → Failure → Type 0
IsOfReading kind (failure.Refused line e) = IsOfKind kind e
IsOfReading kind (failure.Read name) = ⊥
IsOfReading kind (failure.TooLarge name) = ⊥
IsOfReading kind (failure.Changed name first last) = ⊥
IsOfReading kind failure.Memory = ⊤
