-- Tall values: what an operation over tall values gives. `tall` is what all else speaks of; the outcome is that of the
-- operation, but for a fault of an operand, of which the least goes first.
use Rattle.std.specs.Prelude.{ℕ, ◌||◌, if◌then◌else◌, Option, None, Some, Result, Ok, Err, List, [], ◌∷◌, map}
use Rattle.tall_value.specs.declared.class.Class.{Class}
use Rattle.tall_value.specs.declared.operators.Binary.TheVariants.{Mul, Div}
use Rattle.tall_value.specs.Classes.{kind_of}
use Rattle.tall_value.specs.Filters.{kept}
use Rattle.tall_value.specs.Reductions.{reduced}
use Rattle.tall_value.specs.Scans.{scanned}
use Rattle.tall_value.specs.Ends.{first_rows, last_rows}
use Rattle.tall_value.specs.Distinct.{distinct_rows}
use Rattle.tall_semantics.specs.Operations.{Op, constant, unary, binary, filter, reduce, scan, head, tail, distinct, group, Made, stored, operation}
use Rattle.tall_semantics.specs.Faults.{At, Fault, least_fault}
use Rattle.tall_semantics.specs.Outcomes.{Outcome, rows, scalar, fault, fault_of, rows_in, cells_in, row_by_row, alone, elementwise_one, elementwise_two, grouped}
use Rattle.tall_semantics.specs.Spaces.{is_single}
use Rattle.tall_semantics.specs.Shapes.{Shape, ShapeRefusal, bad_argument, shape, stored_shape}

pub record Tall : Type 0 where
  pub shape : Shape
  pub outcome : Outcome

abbrev pub shapes : List Tall → List Shape
shapes xs = map (λ (x : Tall). x.shape) xs

abbrev pub outcomes : List Tall → List Outcome
outcomes xs = map (λ (x : Tall). x.outcome) xs

-- the operation over operands that have no fault; the last line is of numbers of operands that are refused
abbrev pub own_outcome : At → Op → List Tall → Outcome
own_outcome at (constant c) [] = scalar c
own_outcome at (binary op) (x ∷ y ∷ []) = elementwise_two at op x.outcome y.outcome
own_outcome at (unary op) (x ∷ []) = elementwise_one at op x.outcome
own_outcome at filter (x ∷ m ∷ []) = rows (kept (rows_in x.outcome) (cells_in m.outcome))
own_outcome at (reduce r) (x ∷ []) = alone at (reduced r (kind_of x.shape.class) (cells_in x.outcome))
own_outcome at (scan s) (x ∷ []) = row_by_row at (scanned s (kind_of x.shape.class) (rows_in x.outcome))
own_outcome at (head k) (x ∷ []) = rows (first_rows k (rows_in x.outcome))
own_outcome at (tail k) (x ∷ []) = rows (last_rows k (rows_in x.outcome))
own_outcome at distinct (x ∷ []) = rows (distinct_rows (cells_in x.outcome))
own_outcome at (group m part) (g ∷ []) = grouped at m part (kind_of g.shape.class) (rows_in g.outcome) (rows_in g.outcome)
own_outcome at (group m part) (g ∷ v ∷ []) = grouped at m part (kind_of v.shape.class) (rows_in g.outcome) (rows_in v.outcome)
own_outcome at op xs = rows []

abbrev pub unless : Option Fault → Outcome → Outcome
unless (Some f) x = fault f
unless None x = x

-- the least fault among the operands' goes first
abbrev pub outcome : At → Op → List Tall → Outcome
outcome at op xs = unless (least_fault (map fault_of (outcomes xs))) (own_outcome at op xs)

abbrev pub with_shape : Outcome → Result Shape ShapeRefusal → Result Tall ShapeRefusal
with_shape x (Ok s) = Ok (record { shape = s; outcome = x })
with_shape x (Err e) = Err e

-- the operation of the expression `at` over tall values
unfoldable pub tall : At → Op → List Tall → Result Tall ShapeRefusal
tall at op xs = with_shape (outcome at op xs) (shape op (shapes xs))

-- `*` needs a scalar on at least one side and `/` one on its right, which is looked at before the classes
abbrev pub times : At → Tall → Tall → Result Tall ShapeRefusal
times at x y = if is_single x.shape.space || is_single y.shape.space then tall at (binary Mul) (x ∷ y ∷ []) else Err bad_argument

abbrev pub over : At → Tall → Tall → Result Tall ShapeRefusal
over at x y = if is_single y.shape.space then tall at (binary Div) (x ∷ y ∷ []) else Err bad_argument

-- ---- stored columns

-- of a datastore's variable: its rows, or the datastore's first reading fault
abbrev pub Columns : Type 0
Columns = (store variable : ℕ) → Outcome

abbrev pub stored_tall : (store variable : ℕ) → Class → Outcome → Tall
stored_tall s v c x = record { shape = stored_shape s v c; outcome = x }

abbrev pub made_tall : Columns → At → Made → List Tall → Result Tall ShapeRefusal
made_tall columns at (stored s v c) [] = Ok (stored_tall s v c (columns s v))
made_tall columns at (stored s v c) (x ∷ xs) = Err bad_argument
made_tall columns at (operation op) xs = tall at op xs
