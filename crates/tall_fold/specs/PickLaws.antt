-- Laws of choices and of terms: the lesser and the greater of two numbers of a range are numbers of it; the
-- total of one cell is its number.
use Rattle.std.proofs.Common.{◌≡◌, ℤ, Bool, true, false, Option, None, Some, [], ◌∷◌, refl, ap, arith}
use Rattle.std.proofs.lemmas.Int.{ints, clamps}
use Rattle.std.specs.Int.{int_max, int_min}
use Rattle.tall_int.specs.Numbers.{nearest}
use Rattle.tall_value.specs.Cells.{amount, double, logical}
use Rattle.tall_fold.specs.Forms.{total_unless_nan}

pub min_kept : (l h x y : ℤ) → nearest l h x ≡ x → nearest l h y ≡ y → nearest l h (int_min x y) ≡ int_min x y
min_kept l h x y p q = omega (arith, ints, clamps)

pub max_kept : (l h x y : ℤ) → nearest l h x ≡ x → nearest l h y ≡ y → nearest l h (int_max x y) ≡ int_max x y
max_kept l h x y p q = omega (arith, ints, clamps)

pub logical_alone : (b : Bool) → total_unless_nan (logical b ∷ []) ≡ amount (logical b)
logical_alone true = refl
logical_alone false = refl

pub double_alone : (d : Option ℤ) → total_unless_nan (double d ∷ []) ≡ amount (double d)
double_alone None = refl
double_alone (Some n) = ap Some (omega (arith, ints))
