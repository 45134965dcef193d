-- Magnitudes of decimals by their digits and the place of the point, counted up to a limit above every class.
use Rattle.std.specs.Prelude.{ℕ, ◌+◌, ◌-◌, ◌*◌, ◌^◌, ◌==◌, min, Bool, true, false, if◌then◌else◌, nat_le, nat_lt, List, take, drop, length, slice_index, Option, Some, None}
use Rattle.std.specs.List.{list_all}
use Rattle.tall_num.specs.Spelling.{digits_value}

-- above every number of every class, and above every count of digits
abbrev pub capped : ℕ → ℕ
capped n = min (10 ^ 20) n

-- how many digits stand before the point, where `whole` of them do as it is written and the exponent moves it; None
-- where zeros stand between the point and the first digit
abbrev pub point_of : Bool → ℕ → ℕ → Option ℕ
point_of true exponent whole = if nat_lt whole exponent then None else Some (whole - exponent)
point_of false exponent whole = Some (whole + exponent)

-- the number before the point, with zeros after the last digit where the point stands further
abbrev pub size_before : List ℕ → ℕ → ℕ
size_before digits point = digits_value (take point digits) * 10 ^ (point - length digits)

-- the first digit after the point is 5 or more
abbrev pub rounds_up : List ℕ → ℕ → Bool
rounds_up digits point = nat_le 53 (slice_index digits point)

-- the digits after the point are all zeros
abbrev pub is_zero_from : List ℕ → ℕ → Bool
is_zero_from digits point = list_all (λ b. b == 48) (drop point digits)
