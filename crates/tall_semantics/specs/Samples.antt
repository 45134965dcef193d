-- Words for worked values: columns of one datastore, numbers and expressions.
use Rattle.std.specs.Prelude.{ℕ, ℤ, Option, None, Some, Result, Ok, Err, List, [], map}
use Rattle.tall_value.specs.declared.class.Class.{Class}
use Rattle.tall_value.specs.declared.class.Class.TheVariants as class
use Rattle.tall_value.specs.declared.class.IntKind.{IntKind}
use Rattle.tall_value.specs.Cells.{Seen, whole, double}
use Rattle.tall_value.specs.Classes.{class_of}
use Rattle.tall_value.specs.declared.class.Kind.TheVariants.{Integer}
use Rattle.tall_value.specs.Columns.{numbered}
use Rattle.tall_semantics.specs.Operations.{Op, constant}
use Rattle.tall_semantics.specs.Faults.{At}
use Rattle.tall_semantics.specs.Outcomes.{Outcome, rows}
use Rattle.tall_semantics.specs.Shapes.{Shape, ShapeRefusal}
use Rattle.tall_semantics.specs.Talls.{Tall, tall, stored_tall}

-- the expression with this number, on a line
abbrev pub at : ℕ → ℕ → At
at number line = record { number = number; line = line }

-- variable v of datastore 0, with rows from 1
abbrev pub column_of : (v : ℕ) → Class → List Seen → Tall
column_of v c cs = stored_tall 0 v c (rows (numbered 1 cs))

abbrev pub integers : IntKind → List ℤ → List Seen
integers k ns = map (whole k) ns

abbrev pub doubles : List (Option ℤ) → List Seen
doubles ds = map double ds

abbrev pub number : ℤ → Seen
number n = double (Some n)

abbrev pub nan : Seen
nan = double None

abbrev pub integer_column : (v : ℕ) → IntKind → List ℤ → Tall
integer_column v k ns = column_of v (class_of (Integer k)) (integers k ns)

abbrev pub double_column : (v : ℕ) → List (Option ℤ) → Tall
double_column v ds = column_of v class.Double (doubles ds)

-- an accepted value, for rows with several operations; what is refused is no column of any datastore
abbrev pub accepted : Result Tall ShapeRefusal → Tall
accepted (Ok x) = x
accepted (Err e) = stored_tall 999 0 class.Text (rows [])

abbrev pub outcome_of : Result Tall ShapeRefusal → Result Outcome ShapeRefusal
outcome_of (Ok x) = Ok x.outcome
outcome_of (Err e) = Err e

abbrev pub shape_of : Result Tall ShapeRefusal → Result Shape ShapeRefusal
shape_of (Ok x) = Ok x.shape
shape_of (Err e) = Err e

abbrev pub class_in : Result Tall ShapeRefusal → Result Class ShapeRefusal
class_in (Ok x) = Ok x.shape.class
class_in (Err e) = Err e

-- the operation of expression 4, on line 3
abbrev pub of_line : Op → List Tall → Result Tall ShapeRefusal
of_line op xs = tall (at 4 3) op xs

abbrev pub gives : List Seen → Result Outcome ShapeRefusal
gives cs = Ok (rows (numbered 1 cs))

-- a scalar of the script
abbrev pub scalar_of : Seen → Tall
scalar_of c = accepted (tall (at 3 3) (constant c) [])
