-- Worked carries of scans over blocks.
use Rattle.std.specs.Prelude.{◌≡◌, refl, ℤ, pos, negsuc, None, Some, List, [], ◌∷◌, map}
use Rattle.tall_value.specs.declared.class.IntKind.TheVariants.{Int8}
use Rattle.tall_value.specs.declared.class.Kind.TheVariants.{Integer, Logical, Double}
use Rattle.tall_value.specs.declared.functions.Scan.TheVariants.{CumSum, CumMin, CumMax}
use Rattle.tall_value.specs.Cells.{Seen, whole}
use Rattle.tall_semantics.specs.Samples.{integers, doubles, number, nan}
use Rattle.tall_semantics.specs.ScanCarries.{carries_of}

-- a block for each row
abbrev alone : List Seen → List (List Seen)
alone cs = map (λ c. c ∷ []) cs

sums : carries_of CumSum Double (doubles (Some (pos 3) ∷ Some (pos 5) ∷ []) ∷ doubles (Some (pos 1) ∷ []) ∷ doubles (Some (pos 4) ∷ []) ∷ [])
    ≡ Some (number (pos 0)) ∷ Some (number (pos 8)) ∷ Some (number (pos 9)) ∷ []
sums = refl

-- a sum in the class is held at its ends at each row
clamped_sums : carries_of CumSum (Integer Int8) (integers Int8 (pos 100 ∷ pos 100 ∷ []) ∷ integers Int8 (negsuc 99 ∷ []) ∷ [] ∷ [])
    ≡ Some (whole Int8 (pos 0)) ∷ Some (whole Int8 (pos 127)) ∷ Some (whole Int8 (pos 27)) ∷ []
clamped_sums = refl

-- from the first sum above 2^53 on there are no carries, though a later sum is within it again
missing_from_one_on : carries_of CumSum Double (alone (doubles (Some (pos 9007199254740992) ∷ Some (pos 1) ∷ Some (negsuc 4) ∷ Some (pos 7) ∷ [])))
    ≡ Some (number (pos 0)) ∷ Some (number (pos 9007199254740992)) ∷ None ∷ None ∷ []
missing_from_one_on = refl

-- within a block a sum may leave the range: the scan fails there, but the carry behind it is known
within_a_block : carries_of CumSum Double (doubles (Some (pos 9007199254740992) ∷ Some (pos 1) ∷ Some (negsuc 4) ∷ []) ∷ doubles (Some (pos 7) ∷ []) ∷ [])
    ≡ Some (number (pos 0)) ∷ Some (number (pos 9007199254740988)) ∷ []
within_a_block = refl

-- with a NaN no sum is out of range
sums_with_nan : carries_of CumSum Double (alone (doubles (None ∷ Some (pos 9007199254740992) ∷ Some (pos 1) ∷ Some (pos 1) ∷ [])))
    ≡ Some (number (pos 0)) ∷ Some nan ∷ Some nan ∷ Some nan ∷ []
sums_with_nan = refl

-- the least so far passes NaN over, and is NaN before any number; in an integer class it begins with the greatest number
least_so_far : carries_of CumMin Double (alone (doubles (None ∷ Some (pos 5) ∷ Some (pos 3) ∷ Some (pos 4) ∷ []))) ≡ Some nan ∷ Some nan ∷ Some (number (pos 5)) ∷ Some (number (pos 3)) ∷ []
least_so_far = refl

least_in_a_class : carries_of CumMin (Integer Int8) (alone (integers Int8 (pos 5 ∷ pos 3 ∷ []))) ≡ Some (whole Int8 (pos 127)) ∷ Some (whole Int8 (pos 5)) ∷ []
least_in_a_class = refl

greatest_in_a_class : carries_of CumMax (Integer Int8) (alone (integers Int8 (pos 5 ∷ pos 3 ∷ pos 7 ∷ []))) ≡ Some (whole Int8 (negsuc 127)) ∷ Some (whole Int8 (pos 5)) ∷ Some (whole Int8 (pos 5)) ∷ []
greatest_in_a_class = refl
