-- Worked values of the definitions, each by computing.
use Rattle.std.specs.Prelude.{◌≡◌, pos, negsuc, ◌^◌, [], ◌∷◌, refl, None, Some}
use Rattle.std.specs.Int.{int_max, int_min}
use Rattle.tall_clamp.specs.Clamps.{after, apply, row_clamp}
use Rattle.tall_clamp.specs.Outcomes.{exact_sum, numbers, picked}
use Rattle.tall_clamp.specs.declared.bounds.Bounds.{Bounds}

-- int8: 100, 100 and -100
abbrev three_rows : Bounds
three_rows = after (after (row_clamp (negsuc 127) (pos 127) (pos 100)) (row_clamp (negsuc 127) (pos 127) (pos 100))) (row_clamp (negsuc 127) (pos 127) (negsuc 99))

pub rows_from_zero : apply three_rows (pos 0) ≡ pos 27
rows_from_zero = refl

pub rows_from_the_least : apply three_rows (negsuc 127) ≡ negsuc 27
rows_from_the_least = refl

pub rows_joined_another_way : after (row_clamp (negsuc 127) (pos 127) (pos 100)) (after (row_clamp (negsuc 127) (pos 127) (pos 100)) (row_clamp (negsuc 127) (pos 127) (negsuc 99))) ≡ three_rows
rows_joined_another_way = refl

-- doubles: a NaN wins over a total that is out of range, which is none
pub sum_of_doubles : exact_sum (Some (pos 3) ∷ Some (negsuc 4) ∷ []) ≡ Some (Some (negsuc 1))
sum_of_doubles = refl

pub sum_with_nan : exact_sum (Some (pos (2 ^ 53)) ∷ Some (pos 1) ∷ None ∷ []) ≡ Some None
sum_with_nan = refl

pub sum_out_of_range : exact_sum (Some (pos (2 ^ 53)) ∷ Some (pos 1) ∷ []) ≡ None
sum_out_of_range = refl

-- the total alone counts, not the sums on the way
pub sum_back_in_range : exact_sum (Some (pos (2 ^ 53)) ∷ Some (pos 1) ∷ Some (negsuc 0) ∷ []) ≡ Some (Some (pos (2 ^ 53)))
sum_back_in_range = refl

pub sum_of_no_rows : exact_sum [] ≡ Some (Some (pos 0))
sum_of_no_rows = refl

pub least_passes_nan : picked int_min (numbers (None ∷ Some (pos 3) ∷ Some (negsuc 4) ∷ [])) ≡ Some (negsuc 4)
least_passes_nan = refl

pub greatest_of_nan_alone : picked int_max (numbers (None ∷ None ∷ [])) ≡ None
greatest_of_nan_alone = refl
