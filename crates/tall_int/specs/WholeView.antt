-- What a clause sees of a double, and back: a number of magnitude at most 2^53 is itself, and 2^61 is NaN.
use Rattle.std.specs.Prelude.{ℤ, pos, ◌≡◌, ◌^◌, ◌≤◌, ◌⊎◌, nat_le, unsigned_abs, if◌then◌else◌, Option, None, Some}
use Rattle.std.proofs.Common.{ap, sym, ◌∙◌, inl, inr}
use Rattle.std.proofs.lemmas.Bool.{cond-true, le-leb}
use Rattle.tall_int.specs.declared.wholes.Whole.TheInside.{Inside}

abbrev pub number_of : ℤ → Option ℤ
number_of n = if nat_le (unsigned_abs n) (2 ^ 53) then Some n else None

abbrev pub kept : Option ℤ → ℤ
kept (Some n) = n
kept None = pos 2305843009213693952

-- a number of magnitude at most 2^53, or what stands for NaN
abbrev pub IsKept : ℤ → Type 0
IsKept n = (unsigned_abs n ≤ 2 ^ 53) ⊎ (n ≡ pos 2305843009213693952)

kept_trip : (n : ℤ) → IsKept n → kept (number_of n) ≡ n
kept_trip n (inl h) = ap kept (cond-true (nat_le (unsigned_abs n) (2 ^ 53)) _ _ (le-leb _ _ h))
kept_trip n (inr e) = ap (λ (z : ℤ). kept (number_of z)) e ∙ sym e

pub round_trip : (a : Inside) → IsKept a.number → record { number = kept (number_of a.number) } ≡ a
round_trip a h = ap (λ (n : ℤ). record { number = n }) (kept_trip a.number h)
