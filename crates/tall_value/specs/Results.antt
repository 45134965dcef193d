-- What a clause sees of the answer of an operator on cells.
use Rattle.std.specs.Prelude.{Result, Ok, Err}
use Rattle.tall_value.specs.declared.cell.Cell.{Cell}
use Rattle.tall_value.specs.declared.faults.CellFault.{CellFault}
use Rattle.tall_value.specs.Cells.{Seen, seen}

abbrev pub result_seen : Result Cell CellFault → Result Seen CellFault
result_seen (Ok c) = Ok (seen c)
result_seen (Err e) = Err e

-- of an operator on values of one class, by what is seen of them
abbrev pub shown_result : {A : Type 0} → (A → Seen) → Result A CellFault → Result Seen CellFault
shown_result shown (Ok a) = Ok (shown a)
shown_result shown (Err fault) = Err fault
