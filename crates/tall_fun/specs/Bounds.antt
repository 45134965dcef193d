-- What the bounds of a `for` come to.
use Rattle.std.specs.Prelude.{ℤ, ◌≤◌, ◌^◌, unsigned_abs, Option, None, Some, Result, Ok, Err}
use Rattle.tall_local.specs.Refusals.{Refusal, bad_class, bad_index}
use Rattle.tall_fun.specs.declared.bounds.Bound.{Bound}
use Rattle.tall_fun.specs.declared.bounds.Bound.TheVariants as bound

-- a double, if it is one
abbrev pub bound_seen : Bound → Option (Option ℤ)
bound_seen (bound.Number n) = Some (Some n)
bound_seen bound.Nan = Some None
bound_seen bound.Other = None

-- the magnitude of a double
abbrev pub IsSmallBound : Bound → Type 0
IsSmallBound (bound.Number n) = unsigned_abs n ≤ 2 ^ 53
IsSmallBound bound.Nan = Unit {0}
IsSmallBound bound.Other = Unit {0}

-- both are numbers, else the class comes first
abbrev pub ranged : Option (Option ℤ) → Option (Option ℤ) → Result (ℤ × ℤ) Refusal
ranged (Some (Some a)) (Some (Some b)) = Ok (a, b)
ranged (Some None) (Some b) = Err bad_index
ranged (Some (Some a)) (Some None) = Err bad_index
ranged (Some a) None = Err bad_class
ranged None b = Err bad_class
