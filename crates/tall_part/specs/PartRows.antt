-- Worked values of operations over all rows: the rows 3, 7 and 9 with 1, NaN and 1; and of carries that are lost.
use Rattle.std.specs.Prelude.{◌≡◌, refl, ℕ, pos, negsuc, true, false, None, Some, Ok, Err, List, [], ◌∷◌, map}
use Rattle.tall_value.specs.declared.class.Class.TheVariants as class
use Rattle.tall_value.specs.declared.class.Kind.TheVariants.{Double}
use Rattle.tall_value.specs.declared.faults.ClassFault.TheVariants.{BadClass}
use Rattle.tall_value.specs.declared.faults.FaultKind.TheVariants.{Inexact, NoRows}
use Rattle.tall_value.specs.declared.functions.Method.TheVariants as method
use Rattle.tall_value.specs.declared.functions.Reduction.TheVariants as reduction
use Rattle.tall_value.specs.declared.functions.Scan.TheVariants.{CumSum}
use Rattle.tall_value.specs.Cells.{Seen}
use Rattle.tall_semantics.specs.Faults.{At, fault_at}
use Rattle.tall_semantics.specs.Outcomes.{Outcome, rows, scalar, fault}
use Rattle.tall_semantics.specs.Samples.{number, nan}
use Rattle.tall_blocks.specs.Carries.{Rows, carry_for}
use Rattle.tall_part.specs.declared.operation.EndOperation.{EndOperation}
use Rattle.tall_part.specs.declared.operation.EndOperation.TheVariants as end
use Rattle.tall_part.specs.Operations.{outcome_of_rows}
use Rattle.tall_part.specs.Parts.{kept_from, kept_to}
use Rattle.tall_part.specs.Results.{class_of_column}
use Rattle.tall_part.specs.NextCarries.{lost_behind}

abbrev place : At
place = record { number = 4; line = 2 }

abbrev some_rows : Rows
some_rows = (3, number (pos 1)) ∷ (7, nan) ∷ (9, number (pos 1)) ∷ []

abbrev over_them : EndOperation → (n : ℕ) → Outcome
over_them e n = outcome_of_rows place e n class.Double class.Double some_rows some_rows

-- head and tail keep the numbers of the rows
ends : map (λ e. over_them e 0) (end.Head 2 ∷ end.Tail 1 ∷ end.Head 5 ∷ end.Tail 0 ∷ [])
    ≡ rows ((3, number (pos 1)) ∷ (7, nan) ∷ []) ∷ rows ((9, number (pos 1)) ∷ []) ∷ rows some_rows ∷ rows [] ∷ []
ends = refl

reductions : map (λ r. over_them (end.Reduce r) 0) (reduction.Numel ∷ reduction.Max ∷ reduction.Sum false true ∷ reduction.Sum false false ∷ []) ≡ scalar (number (pos 3)) ∷ scalar (number (pos 1)) ∷ scalar (number (pos 2)) ∷ scalar nan ∷ []
reductions = refl

-- distinct cells and groups are numbered from 1
others : over_them end.Distinct 0 ≡ rows ((1, number (pos 1)) ∷ (2, nan) ∷ [])
others = refl

counts : map (over_them (end.Group method.Count)) (0 ∷ 1 ∷ []) ≡ rows ((1, number (pos 1)) ∷ (2, nan) ∷ []) ∷ rows ((1, number (pos 2)) ∷ (2, number (pos 1)) ∷ []) ∷ []
counts = refl

-- a fault has the number and the line, and no row
no_rows : outcome_of_rows place (end.Reduce reduction.Min) 0 class.Double class.Double [] [] ≡ fault (fault_at place None NoRows)
no_rows = refl

abbrev large : Rows
large = (1, number (pos 9007199254740992)) ∷ (2, number (pos 1)) ∷ []

inexact : map (λ n. outcome_of_rows place (end.Group method.Sum) n class.Double class.Double ((1, nan) ∷ (2, nan) ∷ []) large) (0 ∷ 1 ∷ 2 ∷ [])
    ≡ fault (fault_at place None Inexact) ∷ fault (fault_at place None Inexact) ∷ fault (fault_at place None Inexact) ∷ []
inexact = refl

-- of a block of three rows
kept_starts : map (λ e. kept_from e 3) (end.Head 2 ∷ end.Tail 2 ∷ end.Head 5 ∷ end.Tail 5 ∷ end.Distinct ∷ []) ≡ 0 ∷ 1 ∷ 0 ∷ 0 ∷ 0 ∷ []
kept_starts = refl

kept_ends : map (λ e. kept_to e 3) (end.Head 2 ∷ end.Tail 2 ∷ end.Head 5 ∷ end.Tail 5 ∷ end.Distinct ∷ []) ≡ 2 ∷ 3 ∷ 3 ∷ 3 ∷ 0 ∷ []
kept_ends = refl

classes : map (λ n. class_of_column (end.Group method.Min) n class.Text class.Int8) (0 ∷ 1 ∷ 2 ∷ []) ≡ Ok class.Text ∷ Ok class.Double ∷ Ok class.Int8 ∷ []
classes = refl

other_classes : map (λ e. class_of_column e 0 class.Text class.Text) (end.Head 1 ∷ end.Distinct ∷ end.Reduce reduction.Numel ∷ end.Reduce reduction.Min ∷ []) ≡ Ok class.Text ∷ Ok class.Text ∷ Ok class.Double ∷ Err BadClass ∷ []
other_classes = refl

-- ---- the sum is out of range behind the first block, and within it behind the second

abbrev blocks : List (List Seen)
blocks = (number (pos 9007199254740992) ∷ number (pos 1) ∷ []) ∷ (number (negsuc 0) ∷ []) ∷ (number (pos 5) ∷ []) ∷ []

lost : map (lost_behind CumSum Double []) ([] ∷ ((number (pos 9007199254740992) ∷ number (pos 1) ∷ []) ∷ []) ∷ ((number (pos 9007199254740992) ∷ number (pos 1) ∷ []) ∷ (number (negsuc 0) ∷ []) ∷ []) ∷ []) ≡ false ∷ false ∷ true ∷ []
lost = refl

carries : map (carry_for CumSum Double blocks) (0 ∷ 1 ∷ 2 ∷ []) ≡ Some (number (pos 0)) ∷ None ∷ None ∷ []
carries = refl
