-- Operators over the rows of columns: the class beside a scalar, and what a loop over the values answers.
use Rattle.std.specs.Prelude.{ℕ, ◌≡◌, Bool, true, false, if◌then◌else◌, List, Option, None, Some, Result, Ok, Err}
use Rattle.tall_value.specs.declared.class.Class.{Class}
use Rattle.tall_value.specs.declared.faults.CellFault.{CellFault}
use Rattle.tall_value.specs.declared.faults.ClassFault.{ClassFault}
use Rattle.tall_value.specs.declared.operators.Binary.{Binary}
use Rattle.tall_value.specs.declared.operators.Unary.{Unary}
use Rattle.tall_value.specs.declared.operators.Unary.TheVariants.{Neg, Plus, Abs}
use Rattle.tall_value.specs.Cells.{Seen}
use Rattle.tall_value.specs.ClassTables.{binary_class}
use Rattle.tall_value.specs.Columns.{numbered}
use Rattle.tall_dense.specs.Dense.{shown}
use Rattle.tall_dense.specs.declared.values.Values.{Values}
use Rattle.tall_dense.specs.declared.faults.OpFault.{OpFault}
use Rattle.tall_dense.specs.declared.faults.OpFault.TheVariants.{At, Memory}

-- the class of an operator's result, or why it is refused, where one operand is a scalar and the other a column
abbrev pub scalar_class : Binary → Bool → Class → Class → Result Class ClassFault
scalar_class op scalar_left scalar column =
    if scalar_left then binary_class op scalar true column false else binary_class op column false scalar true

-- an answer to the outcome of all rows, numbered from 0, where an operator may have no loop of its own, and then
-- nothing is answered; want of memory answers any
abbrev pub AnswersIfMade : Result (List (ℕ × Seen)) (ℕ × CellFault) → Result (Option Values) OpFault → Type 0
AnswersIfMade rows (Ok None) = Unit {0}
AnswersIfMade rows (Ok (Some values)) = rows ≡ Ok (numbered 0 (shown values).cells)
AnswersIfMade rows (Err (At row fault)) = rows ≡ Err (row, fault)
AnswersIfMade rows (Err Memory) = Unit {0}

-- an operator of a scalar and a cell
abbrev pub with_scalar : (Seen → Seen → Result Seen CellFault) → Bool → Seen → Seen → Result Seen CellFault
with_scalar op scalar_left scalar c = if scalar_left then op scalar c else op c scalar

-- an operator of one operand that is no sign: a conversion, `~` or `isnan`
abbrev pub IsConversion : Unary → Type 0
IsConversion Neg = ⊥
IsConversion Plus = ⊥
IsConversion Abs = ⊥
IsConversion op = Unit {0}
