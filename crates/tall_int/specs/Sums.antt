-- Sums of columns of one integer class. MathWorks, sum with 'native': the sum stays in the class. That it is the left
-- fold from the first row on, kept in the class after each row, is the project's own rule (docs/LANGUAGE.md).
use Rattle.std.specs.Prelude.{ℤ, ◌+ℤ◌, List, [], ◌∷◌}
use Rattle.tall_int.specs.Numbers.{nearest}

-- the sum of the rows from `start` on, kept from `low` to `high` at each row
abbrev pub clamped_sum : ℤ → ℤ → ℤ → List ℤ → ℤ
clamped_sum low high start [] = start
clamped_sum low high start (x ∷ xs) = clamped_sum low high (nearest low high (start +ℤ x)) xs
