-- Candidates as faults of the definitions, and the calls of datastores.
use Rattle.std.specs.Prelude.{◌≡◌, ◌==◌, ℕ, Bool, false, Option, None, Some, List, option_map, slice_get, ⊤}
use Rattle.tall_semantics.specs.Faults.{At, Fault, fault_seen, reading}
use Rattle.tall_semantics.specs.Operations.{Made, stored, operation}
use Rattle.tall_semantics.specs.Deferred.{Vertex}
use Rattle.tall_semantics.specs.Reach.{IsOfStore}
use Rattle.tall_gather.specs.declared.candidate.StoreReading.{StoreReading}
use Rattle.tall_gather.specs.declared.candidate.Candidate.{Candidate}
use Rattle.tall_gather.specs.declared.candidate.Candidate.TheVariants.{Data, Reading}

abbrev pub reading_seen : StoreReading → Fault
reading_seen r = record { number = r.number; row = Some r.fault.row; column = r.fault.column; store = r.store; cause = reading r.fault.kind r.fault.file; line = r.line }

abbrev pub candidate_seen : Candidate → Fault
candidate_seen (Data f) = fault_seen f
candidate_seen (Reading r) = reading_seen r

abbrev pub seen : Option Candidate → Option Fault
seen c = option_map candidate_seen c

-- ---- calls

abbrev pub is_of_store : Made → (store : ℕ) → Bool
is_of_store (stored s v c) store = s == store
is_of_store (operation op) store = false

-- the graph has a variable of the datastore
abbrev pub HasVariable : List Vertex → (store : ℕ) → Type 0
HasVariable vs store = (i : ℕ) × (v : Vertex) × (slice_get vs i ≡ Some v) × IsOfStore store v.made

-- the expression is the datastore's call
abbrev pub IsCall : List Vertex → (store : ℕ) → At → Type 0
IsCall vs store at = (i : ℕ) × (v : Vertex) × (slice_get vs i ≡ Some v) × IsOfStore store v.made × (v.at ≡ at)

-- no fault, or one of an operation
abbrev pub IsOfData : Option Candidate → Type 0
IsOfData None = ⊤
IsOfData (Some (Data f)) = ⊤
IsOfData (Some (Reading r)) = ⊥
