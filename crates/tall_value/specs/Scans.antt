-- Functions that give each row the fold of the rows up to it. MathWorks, cumsum, cummin, cummax. That a sum of integers is
-- kept in the class at each row is the project's own rule (docs/LANGUAGE.md).
use Rattle.std.specs.Prelude.{ℤ, ℕ, pos, ◌+ℤ◌, Option, None, Some, Result, Ok, Err, List, [], ◌∷◌}
use Rattle.tall_int.specs.Numbers.{nearest}
use Rattle.tall_int.specs.Doubles.{whole_add}
use Rattle.tall_value.specs.declared.class.IntKind.{IntKind}
use Rattle.tall_value.specs.declared.class.Kind.{Kind}
use Rattle.tall_value.specs.declared.class.Kind.TheVariants.{Integer}
use Rattle.tall_value.specs.declared.faults.CellFault.{CellFault}
use Rattle.tall_value.specs.declared.functions.Scan.{Scan}
use Rattle.tall_value.specs.declared.functions.Scan.TheVariants.{CumSum, CumMin, CumMax}
use Rattle.tall_value.specs.Classes.{least, greatest}
use Rattle.tall_value.specs.Cells.{Seen, whole, double, amount}
use Rattle.tall_value.specs.CellOperators.{double_cell}
use Rattle.tall_value.specs.Elementwise.{at_row}
use Rattle.tall_value.specs.Reductions.{lesser, greater}

-- integers: the sum goes to the nearest number of the class at each row
abbrev pub added : IntKind → ℤ → Option ℤ → ℤ
added k sum (Some n) = nearest (least k) (greatest k) (sum +ℤ n)
added k sum None = sum

abbrev pub integer_sums : IntKind → ℤ → List (ℕ × Seen) → List (ℕ × Seen)
integer_sums k sum [] = []
integer_sums k sum (r ∷ rows) =
    let next = added k sum (amount r.1) in (r.0, whole k next) ∷ integer_sums k next rows

-- doubles: NaN from the first NaN on; the first sum that is out of range before any NaN is the fault
abbrev pub double_sums : Option ℤ → List (ℕ × Seen) → Result (List (ℕ × Seen)) (ℕ × CellFault)
double_sums sum [] = Ok []
double_sums sum (r ∷ rows) =
    let next = whole_add sum (amount r.1) in at_row r.0 (double_cell next) (double_sums (elim next [ Ok d ↦ d | Err e ↦ None ]) rows)

abbrev pub sums : Kind → List (ℕ × Seen) → Result (List (ℕ × Seen)) (ℕ × CellFault)
sums (Integer k) rows = Ok (integer_sums k (pos 0) rows)
sums a rows = double_sums (Some (pos 0)) rows

-- the best cell up to a row, which passes NaN over: NaN while there is no other
abbrev pub better : (Seen → Seen → Seen) → Seen → Seen → Seen
better f (double None) c = c
better f best (double None) = best
better f best c = f best c

abbrev pub bests : (Seen → Seen → Seen) → Seen → List (ℕ × Seen) → List (ℕ × Seen)
bests f best [] = []
bests f best (r ∷ rows) = let next = better f best r.1 in (r.0, next) ∷ bests f next rows

-- the scan of a column of a kind
abbrev pub scanned : Scan → Kind → List (ℕ × Seen) → Result (List (ℕ × Seen)) (ℕ × CellFault)
scanned CumSum a rows = sums a rows
scanned CumMin a rows = Ok (bests lesser (double None) rows)
scanned CumMax a rows = Ok (bests greater (double None) rows)
