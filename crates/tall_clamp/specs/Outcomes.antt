-- What the reductions of a column are. A term is none for NaN. MathWorks, sum, min, max, any, all, nnz.
use Rattle.std.specs.Prelude.{◌^◌, ℤ, pos, ◌+ℤ◌, List, [], ◌∷◌, Option, None, Some, Bool, nat_le, is_none, unsigned_abs, if◌then◌else◌}
use Rattle.std.specs.List.{fold, filter_map, list_any}

-- whether a NaN is met
abbrev pub has_nan : List (Option ℤ) → Bool
has_nan terms = list_any is_none terms

-- the numbers, in order
abbrev pub numbers : List (Option ℤ) → List ℤ
numbers terms = filter_map (λ t. t) terms

-- the exact total of numbers
abbrev pub total : List ℤ → ℤ
total ns = fold (λ a n. a +ℤ n) (pos 0) ns

-- a number as a double: none where its magnitude is above 2^53
abbrev pub as_double : ℤ → Option (Option ℤ)
as_double n = if nat_le (unsigned_abs n) (2 ^ 53) then Some (Some n) else None

-- the sum of doubles: NaN where a NaN is met, else the exact total, and none where that is above 2^53 in magnitude
abbrev pub exact_sum : List (Option ℤ) → Option (Option ℤ)
exact_sum terms = if has_nan terms then Some None else as_double (total (numbers terms))

-- the number that is picked among all, as the least; none where there is none
abbrev pub picked : (ℤ → ℤ → ℤ) → List ℤ → Option ℤ
picked pick [] = None
picked pick (n ∷ ns) = Some (fold pick n ns)
