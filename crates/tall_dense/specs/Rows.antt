-- What an operator over rows answers: all cells, or the first row without one.
use Rattle.std.specs.Prelude.{ℕ, ◌≡◌, List, Result, Ok, Err}
use Rattle.tall_value.specs.declared.faults.CellFault.{CellFault}
use Rattle.tall_value.specs.Cells.{Seen}
use Rattle.tall_value.specs.Columns.{numbered}
use Rattle.tall_dense.specs.declared.faults.OpFault.{OpFault}
use Rattle.tall_dense.specs.declared.faults.OpFault.TheVariants.{At, Memory}

-- an answer to the outcome of all rows, numbered from 0, where `cells` are those of what it holds; want of memory
-- answers any
abbrev pub Answers : {A : Type 0} → Result (List (ℕ × Seen)) (ℕ × CellFault) → (A → List Seen) → Result A OpFault → Type 0
Answers rows cells (Ok a) = rows ≡ Ok (numbered 0 (cells a))
Answers rows cells (Err (At row fault)) = rows ≡ Err (row, fault)
Answers rows cells (Err Memory) = Unit {0}
