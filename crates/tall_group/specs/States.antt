-- What is kept of the data of a group, as numbers or none for NaN. A text counts as a number, since it isn't missing.
use Rattle.std.specs.Prelude.{◌≡◌, ℤ, ℕ, pos, negsuc, ◌≤ℤ◌, ◌==◌, unsigned_abs, Bool, true, false, not, Option, None, Some, Result, Ok, Err, List, [], ◌∷◌, length, is_none}
use Rattle.std.specs.List.{filter}
use Rattle.tall_int.specs.Doubles.{exact}
use Rattle.tall_int.specs.Numbers.{nearest}
use Rattle.tall_int.specs.Sums.{clamped_sum}
use Rattle.tall_clamp.specs.Clamps.{Sums}
use Rattle.tall_clamp.specs.Outcomes.{numbers, picked}
use Rattle.tall_clamp.specs.declared.bounds.Bounds.{Bounds}
use Rattle.tall_value.specs.declared.class.Kind.{Kind}
use Rattle.tall_value.specs.declared.class.Kind.TheVariants.{Integer, Logical, Double, Text}
use Rattle.tall_value.specs.Cells.{Seen, whole, logical, double, text, amount}
use Rattle.tall_value.specs.Classes.{least, greatest}
use Rattle.tall_value.specs.Reductions.{total}
use Rattle.tall_group.specs.Numbers.{key_cell}
use Rattle.tall_group.specs.declared.numbers.Number.TheVariants.{Whole, Nan}

-- the datum of a cell
abbrev pub datum : Seen → Option ℤ
datum (text t) = Some (pos 0)
datum (whole k n) = amount (whole k n)
datum (logical b) = amount (logical b)
datum (double d) = amount (double d)

-- the least and the greatest number of the data of a kind
abbrev pub low_of : Kind → ℤ
low_of (Integer k) = least k
low_of Double = negsuc 9007199254740991
low_of a = negsuc 18446744073709551615

abbrev pub high_of : Kind → ℤ
high_of (Integer k) = greatest k
high_of Double = pos 9007199254740992
high_of a = pos 18446744073709551616

-- ends within 2^64, around 0
abbrev pub IsRange : ℤ → ℤ → Type 0
IsRange low high = (negsuc 18446744073709551615 ≤ℤ low) × (low ≤ℤ pos 0) × (pos 0 ≤ℤ high) × (high ≤ℤ pos 18446744073709551616)

abbrev pub IsWithin : ℤ → ℤ → Option ℤ → Type 0
IsWithin low high (Some n) = (low ≤ℤ n) × (n ≤ℤ high)
IsWithin low high None = Unit {0}

-- ---- states of data, each with the number of rows

abbrev pub IsTotalOf : List (Option ℤ) → ℤ × ℕ → Type 0
IsTotalOf ds s = (s.0 ≡ total (numbers ds)) × (s.1 ≡ length ds)

-- from each number of the class on, the sum that stays in the class
abbrev pub IsNativeOf : ℤ → ℤ → List (Option ℤ) → Bounds × ℕ → Type 0
IsNativeOf low high ds s = Sums low high (numbers ds) s.0 × (s.1 ≡ length ds)

abbrev pub IsBestOf : (ℤ → ℤ → ℤ) → ℤ → ℤ → List (Option ℤ) → Option ℤ × ℕ → Type 0
IsBestOf pick low high ds s = (s.0 ≡ picked pick (numbers ds)) × (s.1 ≡ length ds) × IsWithin low high s.0

abbrev pub IsTallyOf : (Option ℤ → Bool) → List (Option ℤ) → ℕ × ℕ → Type 0
IsTallyOf test ds s = (s.0 ≡ length (filter test ds)) × (s.1 ≡ length ds)

abbrev pub never : Option ℤ → Bool
never d = false

abbrev pub is_missing : Option ℤ → Bool
is_missing d = is_none d

abbrev pub is_number_but_zero : Option ℤ → Bool
is_number_but_zero (Some n) = not (unsigned_abs n == 0)
is_number_but_zero None = false

-- ---- what they give

-- a double, or none above 2^53
abbrev pub double_or_none : ℤ → Option Seen
double_or_none n = elim (exact n) [ Ok d ↦ Some (double d) | Err e ↦ None ]

abbrev pub total_given : Kind → List (Option ℤ) → Option Seen
total_given a ds = double_or_none (total (numbers ds))

-- the cell of a kind to which a sum from 0 comes
abbrev pub native_cell : Kind → ℤ → Seen
native_cell (Integer k) n = whole k (nearest (least k) (greatest k) n)
native_cell a n = double None

-- the class of a sum that stays in the class: that of integers, and else double
abbrev pub native_kind : Kind → Kind
native_kind (Integer k) = Integer k
native_kind a = Double

abbrev pub native_given : Kind → List (Option ℤ) → Option Seen
native_given (Integer k) ds = Some (whole k (clamped_sum (least k) (greatest k) (pos 0) (numbers ds)))
native_given a ds = Some (double None)

-- a number of a kind; data of other kinds than integers and doubles have no least number
abbrev pub number_of_kind : Kind → ℤ → Seen
number_of_kind (Integer k) n = whole k n
number_of_kind Double n = double (Some n)
number_of_kind a n = key_cell a (Whole n)

-- of no numbers NaN, which a column of integers doesn't have
abbrev pub best_cell : Kind → Option ℤ → Seen
best_cell a (Some n) = number_of_kind a n
best_cell a None = key_cell a Nan

abbrev pub best_given : (ℤ → ℤ → ℤ) → Kind → List (Option ℤ) → Option Seen
best_given pick a ds = Some (best_cell a (picked pick (numbers ds)))

abbrev pub tally_given : (Option ℤ → Bool) → Kind → List (Option ℤ) → Option Seen
tally_given test a ds = double_or_none (pos (length (filter test ds)))
