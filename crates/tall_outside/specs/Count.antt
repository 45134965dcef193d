-- Counts that rise and never fall, and that stay at the last value of u64.
use Rattle.std.specs.Prelude.{◌≡◌, ℕ, ◌+◌, ◌-◌, ◌^◌, ◌≤◌, min, Bool}
use Rattle.std.specs.Bool.{OnTrue, OnFalse}

-- one more than a count, which stays where it stands at the last value of u64
abbrev pub raised : ℕ → ℕ
raised n = min (n + 1) (2 ^ 64 - 1)

-- a count rose; one that stands at the last value of u64 is taken as risen
abbrev pub Rose : ℕ → ℕ → Type 0
Rose before now = raised before ≤ now

-- a count never falls, rises where the test says so, and else stays
pub record RisesIf (test : Bool) (before now : ℕ) : Type 0 where
  pub later : before ≤ now
  pub rose : OnTrue test (Rose before now)
  pub kept : OnFalse test (now ≡ before)
