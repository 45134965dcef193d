-- What a call of `tabularTextDatastore` fails with, and which openings it allows.
use Rattle.std.specs.Prelude.{ℕ, if◌then◌else◌, List, [], ◌∷◌, Option, None, Some}
use Rattle.tall_store.specs.Opening.{first_name}
use Rattle.tall_store.specs.Options.{SeenOptions, is_accepted}
use Rattle.tall_sources.specs.declared.opening.OpenFault.{OpenFault}
use Rattle.tall_sources.specs.declared.opening.OpenFault.TheVariants as fault
use Rattle.tall_environment.specs.declared.failures.Failure.{Failure}
use Rattle.tall_environment.specs.declared.failures.Failure.TheVariants as failure
use Rattle.tall_environment.specs.declared.failures.Refusal.TheVariants as refusal

-- the failure of an opening, on the line of its call
abbrev pub failing : (line : ℕ) → OpenFault → Failure
failing line fault.BadArgument = failure.Refused line refusal.BadArgument
failing line (fault.NoFile name) = failure.Refused line (refusal.NoFile name)
failing line (fault.NoHeader name) = failure.Refused line (refusal.NoHeader name)
failing line (fault.Failed name) = failure.Read name
failing line (fault.TooLarge name) = failure.TooLarge name
failing line fault.Memory = failure.Memory

-- the openings of a call, as an environment is told them
abbrev pub allowed_by : SeenOptions → List (List (List ℕ) × ℕ)
allowed_by o = if is_accepted o then (first_name o.files ∷ [], 1) ∷ [] else []

abbrev pub allowed_first : Option SeenOptions → List (List (List ℕ) × ℕ)
allowed_first None = []
allowed_first (Some o) = allowed_by o
