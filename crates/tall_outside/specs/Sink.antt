-- What an answer of a sink says of its count of refusals.
use Rattle.std.specs.Prelude.{◌≡◌, ℕ, ◌<◌, ◌≤◌, List, length, Result, Ok, Err, ⊤}
use Rattle.tall_outside.specs.Count.{Rose}
use Rattle.tall_outside.specs.declared.sink.WriteFault.{WriteFault}
use Rattle.tall_outside.specs.declared.sink.WriteFault.TheVariants as w

-- the answer comes only where the count rose: a refusal, or nothing taken of a piece that isn't empty
abbrev pub WriteRose : Result ℕ WriteFault → List ℕ → ℕ → ℕ → Type 0
WriteRose (Ok n) piece before now = n ≡ 0 → 0 < length piece → Rose before now
WriteRose (Err w.Failed) piece before now = Rose before now
WriteRose (Err w.Memory) piece before now = ⊤

-- the answer leaves the count as it was: some bytes were taken, there were none, or memory was wanting
abbrev pub WriteKept : Result ℕ WriteFault → List ℕ → ℕ → ℕ → Type 0
WriteKept (Ok n) piece before now = (0 < n → now ≡ before) × (length piece ≡ 0 → now ≡ before)
WriteKept (Err w.Failed) piece before now = ⊤
WriteKept (Err w.Memory) piece before now = now ≡ before

-- the count of refusals never falls, rises with each, and else stays
pub record WriteCounts (result : Result ℕ WriteFault) (piece : List ℕ) (before now : ℕ) : Type 0 where
  pub later : before ≤ now
  pub rose : WriteRose result piece before now
  pub kept : WriteKept result piece before now

-- the outside did not refuse
abbrev pub IsCalm : Result ℕ WriteFault → Type 0
IsCalm (Ok n) = ⊤
IsCalm (Err w.Failed) = ⊥
IsCalm (Err w.Memory) = ⊤
