-- Doubles of the language: NaN, or a whole number of magnitude at most 2^53. None is NaN. A result that is no such
-- number is refused: Inexact above 2^53 or over zero, NotWhole where a quotient isn't whole.
use Rattle.std.specs.Prelude.{ℤ, pos, neg_ℤ, ◌+ℤ◌, ◌-ℤ◌, ◌*ℤ◌, ◌%◌, ◌^◌, ◌==◌, nat_le, unsigned_abs, int_div, if◌then◌else◌}
use Rattle.std.specs.Prelude.{Option, None, Some, Result, Ok, Err}
use Rattle.tall_int.specs.Arithmetic.{remainder}
use Rattle.tall_int.specs.declared.faults.WholeFault.{WholeFault}
use Rattle.tall_int.specs.declared.faults.WholeFault.TheVariants.{Inexact, NotWhole}

-- n, if its magnitude is at most 2^53
abbrev pub exact : ℤ → Result (Option ℤ) WholeFault
exact n = if nat_le (unsigned_abs n) (2 ^ 53) then Ok (Some n) else Err Inexact

-- NaN where an operand is NaN, else what the operator gives of two numbers
abbrev pub of_numbers : (ℤ → ℤ → Result (Option ℤ) WholeFault) → Option ℤ → Option ℤ → Result (Option ℤ) WholeFault
of_numbers op (Some a) (Some b) = op a b
of_numbers op (Some a) None = Ok None
of_numbers op None y = Ok None

abbrev pub whole_add : Option ℤ → Option ℤ → Result (Option ℤ) WholeFault
whole_add = of_numbers (λ a b. exact (a +ℤ b))

abbrev pub whole_sub : Option ℤ → Option ℤ → Result (Option ℤ) WholeFault
whole_sub = of_numbers (λ a b. exact (a -ℤ b))

abbrev pub whole_mul : Option ℤ → Option ℤ → Result (Option ℤ) WholeFault
whole_mul = of_numbers (λ a b. exact (a *ℤ b))

-- a over b: over zero NaN for 0 and else refused, and refused where the quotient isn't whole
abbrev pub shared : ℤ → ℤ → Result (Option ℤ) WholeFault
shared a b =
    if unsigned_abs b == 0 then (if unsigned_abs a == 0 then Ok None else Err Inexact)
    else (if unsigned_abs a % unsigned_abs b == 0 then Ok (Some (int_div a b)) else Err NotWhole)

abbrev pub whole_div : Option ℤ → Option ℤ → Result (Option ℤ) WholeFault
whole_div = of_numbers shared

abbrev pub whole_modulo : Option ℤ → Option ℤ → Option ℤ
whole_modulo (Some a) (Some b) = Some (remainder a b)
whole_modulo (Some a) None = None
whole_modulo None y = None

abbrev pub whole_neg : Option ℤ → Option ℤ
whole_neg (Some a) = Some (neg_ℤ a)
whole_neg None = None

abbrev pub whole_abs : Option ℤ → Option ℤ
whole_abs (Some a) = Some (pos (unsigned_abs a))
whole_abs None = None
