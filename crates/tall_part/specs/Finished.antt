-- What parts come to, by what is kept.
use Rattle.std.specs.Prelude.{◌≡◌, ◌+◌, ℕ, zero, suc, None, Result, Ok, Err, List, [], ◌∷◌, length}
use Rattle.tall_clamp.specs.declared.faults.FinishFault.{FinishFault}
use Rattle.tall_clamp.specs.declared.faults.FinishFault.TheVariants as finish
use Rattle.tall_value.specs.declared.class.Class.{Class}
use Rattle.tall_value.specs.declared.faults.FaultKind.{FaultKind}
use Rattle.tall_value.specs.declared.faults.FaultKind.TheVariants.{Inexact, NoRows}
use Rattle.tall_value.specs.Cells.{Seen}
use Rattle.tall_dense.specs.Columns.{SeenColumn}
use Rattle.tall_part.specs.declared.results.EndColumn.{EndColumn}
use Rattle.tall_part.specs.declared.results.EndFault.{EndFault}
use Rattle.tall_part.specs.declared.results.EndFault.TheVariants as fault_of_end

-- so many numbers from one on
abbrev pub numbers_from : (first count : ℕ) → List ℕ
numbers_from n zero = []
numbers_from n (suc k) = n ∷ numbers_from (n + 1) k

-- a column of these cells, whose rows are numbered from 1
pub record IsColumnOf (class : Class) (cs : List Seen) (c : EndColumn) : Type 0 where
  pub class_is : c.column.class ≡ class
  pub cells : c.column.cells ≡ cs
  pub rows : c.rows.items ≡ numbers_from 1 (length cs)

abbrev pub AreNumbered : List EndColumn → Type 0
AreNumbered [] = Unit {0}
AreNumbered (c ∷ cs) = (c.rows.items ≡ numbers_from 1 (length c.column.cells)) × AreNumbered cs

-- ---- faults

abbrev pub IsMemory : EndFault → Type 0
IsMemory (fault_of_end.Data f) = ⊥
IsMemory fault_of_end.Memory = Unit {0}

-- the fault of the expression of a number and a line
abbrev pub end_fault : (number line : ℕ) → FinishFault → EndFault
end_fault number line finish.Inexact = fault_of_end.Data (record { number = number; line = line; row = None; kind = Inexact })
end_fault number line finish.NoRows = fault_of_end.Data (record { number = number; line = line; row = None; kind = NoRows })
end_fault number line finish.Memory = fault_of_end.Memory

-- the fault is that of what was found; want of memory may come behind it
abbrev pub FaultOfColumns : (number line : ℕ) → Result SeenColumn FinishFault → EndFault → Type 0
FaultOfColumns number line (Ok column) e = IsMemory e
FaultOfColumns number line (Err f) e = e ≡ end_fault number line f

-- the fault is that of the columns of a summary
abbrev pub IsFaultOfSummary : {A : Type 0} (number line : ℕ) → Result A FaultKind → EndFault → Type 0
IsFaultOfSummary number line x (fault_of_end.Data f) = (x ≡ Err f.kind) × (f ≡ record { number = number; line = line; row = None; kind = f.kind })
IsFaultOfSummary number line x fault_of_end.Memory = Unit {0}
