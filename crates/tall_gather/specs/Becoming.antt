-- What becomes of a pass's answer in a gather.
use Rattle.std.specs.Prelude.{◌≡◌, ℕ, Option, None, Some, Result, Ok, Err, List}
use Rattle.tall_semantics.specs.Deferred.{Vertex}
use Rattle.tall_pass.specs.declared.faults.PassFault.TheVariants as pass
use Rattle.tall_pass.specs.Answered.{Answer}
use Rattle.tall_gather.specs.declared.candidate.Candidate.{Candidate}
use Rattle.tall_gather.specs.declared.candidate.Candidate.TheVariants as candidate
use Rattle.tall_gather.specs.declared.candidate.StoreReading.{StoreReading}
use Rattle.tall_gather.specs.declared.faults.GatherFault.{GatherFault}
use Rattle.tall_gather.specs.declared.faults.GatherFault.TheVariants.{Read, TooLarge, Changed, Memory}
use Rattle.tall_gather.specs.Candidates.{IsCall}

abbrev pub Becomes : List Vertex → (store : ℕ) → Answer → Result (Option Candidate) GatherFault → Type 0
Becomes vs store (Ok None) result = result ≡ Ok None
Becomes vs store (Ok (Some f)) result = result ≡ Ok (Some (candidate.Data f))
Becomes vs store (Err (pass.Reading g)) result = (r : StoreReading) × (result ≡ Ok (Some (candidate.Reading r))) × (r.store ≡ store) × (r.fault ≡ g) × IsCall vs store (record { number = r.number; line = r.line })
Becomes vs store (Err (pass.Read file)) result = result ≡ Err (Read store file)
Becomes vs store (Err (pass.TooLarge file)) result = result ≡ Err (TooLarge store file)
Becomes vs store (Err (pass.Changed file first now)) result = result ≡ Err (Changed store file first now)
Becomes vs store (Err pass.Memory) result = result ≡ Err Memory
