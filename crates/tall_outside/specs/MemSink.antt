-- What a sink in memory took, and which calls it lets fail.
use Rattle.std.specs.Prelude.{◌≡◌, ℕ, Bool, true, false, List, [], Result, Ok, Err, nat_eq}
use Rattle.std.specs.List.{list_any}
use Rattle.tall_outside.specs.Count.{raised}
use Rattle.tall_outside.specs.declared.sink.WriteFault.{WriteFault}
use Rattle.tall_outside.specs.declared.sink.WriteFault.TheVariants as w
use Rattle.tall_outside.specs.declared.mem_sink.MemSink.{MemSink}

-- what a sink in memory took, and how often it failed
pub record State : Type 0 where
  pub written : List ℕ
  pub faults : ℕ

-- how often it was called, and which calls it lets fail
pub record Plan : Type 0 where
  pub writes : ℕ
  pub failing : List ℕ

abbrev pub state_of : MemSink → State
state_of s = record { written = s.bytes.items; faults = s.faults }

abbrev pub plan_of : MemSink → Plan
plan_of s = record { writes = s.writes; failing = s.failing.items }

-- before any call
abbrev pub empty : State
empty = record { written = []; faults = 0 }

abbrev pub no_plan : Plan
no_plan = record { writes = 0; failing = [] }

abbrev pub fails_next : Plan → Bool
fails_next plan = list_any (λ call. nat_eq call (raised plan.writes)) plan.failing

-- a call of `write` fails exactly where that was planned; memory is wanting only where it wasn't
abbrev pub FailsIf : Bool → Result ℕ WriteFault → Type 0
FailsIf planned (Ok n) = planned ≡ false
FailsIf planned (Err w.Failed) = planned ≡ true
FailsIf planned (Err w.Memory) = planned ≡ false
