-- The bytes that a feed still gives, and what is known of the file under it.
use Rattle.std.specs.Prelude.{◌≡◌, ◌+◌, ◌-◌, ◌^◌, ◌≤◌, ℕ, min, Bool, true, false, List, Option, None, Some, length, ⊤}
use Rattle.std.specs.Coded.{Unit-prop, le_prop}
use Rattle.std.proofs.Math.Nat.{ℕ_set}

-- a number as a count has it, which stops at the last value of u64
abbrev pub counted : ℕ → ℕ
counted n = min n (2 ^ 64 - 1)

-- what came and what is left make the file, where its size is known; then what is left is known too
abbrev pub Inside : Option ℕ → ℕ → Option (List ℕ) → Type 0
Inside None came left = ⊤
Inside (Some size) came None = ⊥
Inside (Some size) came (Some xs) = counted (came + length xs) ≡ counted size

pub Inside-prop : (size : Option ℕ) (came : ℕ) (left : Option (List ℕ)) → IsProp (Inside size came left)
Inside-prop None came left = Unit-prop
Inside-prop (Some size) came None = λ a _. absurd a
Inside-prop (Some size) came (Some xs) = ℕ_set _ _

-- a feed that came to the end has given all of the file, where its size is known
abbrev pub HasCome : Bool → Option ℕ → ℕ → Type 0
HasCome false size came = ⊤
HasCome true None came = ⊤
HasCome true (Some size) came = counted size ≤ came

pub HasCome-prop : (at_end : Bool) (size : Option ℕ) (came : ℕ) → IsProp (HasCome at_end size came)
HasCome-prop false size came = Unit-prop
HasCome-prop true None came = Unit-prop
HasCome-prop true (Some size) came = le_prop
