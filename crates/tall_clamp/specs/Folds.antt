-- Folds of columns. A fold is seen with its number of rows: a pair.
use Rattle.std.specs.Prelude.{ℕ, ◌+◌, ◌*◌, ◌^◌, ℤ, pos, negsuc, ◌+ℤ◌, ◌≤ℤ◌, List, Option, None, Some}
use Rattle.std.specs.List.{fold}
use Rattle.tall_clamp.specs.declared.bounds.Bounds.{Bounds}

-- the fold of a list of rows, from `start` on
abbrev pub of_rows : {S V : Type 0} → (S → S → S) → (V → S) → S → List V → S
of_rows joined one start rows = fold (λ s v. joined s (one v)) start rows

-- two folds over consecutive rows: the operator on what they hold, and the rows of both
abbrev pub joined_by : {A : Type 0} → (A → A → A) → A × ℕ → A × ℕ → A × ℕ
joined_by op a b = (op a.0 b.0, a.1 + b.1)

-- one row
abbrev pub one_row : {V A : Type 0} → (V → A) → V → A × ℕ
one_row f v = (f v, 1)

-- a sum, none where one of the two is none (NaN)
abbrev pub added : Option ℤ → Option ℤ → Option ℤ
added (Some a) (Some b) = Some (a +ℤ b)
added (Some a) None = None
added None b = None

-- one of two numbers, where none is no number
abbrev pub of_both : (ℤ → ℤ → ℤ) → Option ℤ → Option ℤ → Option ℤ
of_both pick (Some a) (Some b) = Some (pick a b)
of_both pick (Some a) None = Some a
of_both pick None b = b

-- a term: none, or a number within 2^64
abbrev pub IsTerm : Option ℤ → Type 0
IsTerm (Some n) = (negsuc 18446744073709551615 ≤ℤ n) × (n ≤ℤ pos 18446744073709551616)
IsTerm None = Unit {0}

-- a sum of so many terms
abbrev pub IsTotal : Option ℤ → ℕ → Type 0
IsTotal (Some t) rows = (pos 0 ≤ℤ (t +ℤ pos (rows * 2 ^ 64))) × (t ≤ℤ pos (rows * 2 ^ 64))
IsTotal None rows = Unit {0}

-- a clamp function of so many rows: its ends are in order and within 2^120, its shift is a sum of so many numbers, and
-- the ends of no row, moved by the shift, are further out than its own
pub record IsSum (c : Bounds) (rows : ℕ) : Type 0 where
  pub least : negsuc 1329227995784915872903807060280344575 ≤ℤ c.low
  pub ordered : c.low ≤ℤ c.high
  pub greatest : c.high ≤ℤ pos 1329227995784915872903807060280344576
  pub below : pos 0 ≤ℤ (c.shift +ℤ pos (rows * 2 ^ 64))
  pub above : c.shift ≤ℤ pos (rows * 2 ^ 64)
  pub low_outside : c.shift ≤ℤ (c.low +ℤ pos 1329227995784915872903807060280344576)
  pub high_outside : c.high ≤ℤ (c.shift +ℤ pos 1329227995784915872903807060280344576)
  pub low_near : c.low ≤ℤ pos (rows * 2 ^ 64 + 2 ^ 64)
  pub high_near : pos 0 ≤ℤ (c.high +ℤ pos (rows * 2 ^ 64 + 2 ^ 64))

-- no row: nothing is added, and the ends are wider than those of each class
abbrev pub no_clamp : Bounds
no_clamp =
    record {
      shift = pos 0;
      low = negsuc 1329227995784915872903807060280344575;
      high = pos 1329227995784915872903807060280344576;
    }
