-- The least fault among those of several expressions, each told by its place.
use Rattle.std.specs.Prelude.{◌≡◌, ℕ, ◌<◌, false, Option, None, Some}
use Rattle.tall_semantics.specs.Faults.{Fault, precedes}

-- the fault is there, and y doesn't precede it
abbrev pub AtMost : Option Fault → Fault → Type 0
AtMost (Some x) y = precedes y x ≡ false
AtMost None y = ⊥

-- the least of the faults that expressions with P have: one of theirs, and none of theirs precedes it
pub record IsLeast (own : ℕ → Option Fault) (P : ℕ → Type 0) (c : Option Fault) : Type 0 where
  pub one : (x : Fault) → c ≡ Some x → (i : ℕ) × P i × (own i ≡ Some x)
  pub least : (i : ℕ) (y : Fault) → P i → own i ≡ Some y → AtMost c y

-- the number is below the fault's, if there is one
abbrev pub IsBelow : Option Fault → ℕ → Type 0
IsBelow (Some x) n = n < x.number
IsBelow None n = Unit {0}
