-- A tall value and its other operand, in the order of an operator.
use Rattle.std.specs.Prelude.{Bool, true, false, List, [], ◌∷◌, Result}
use Rattle.tall_value.specs.declared.class.Class.{Class}
use Rattle.tall_value.specs.declared.faults.ClassFault.{ClassFault}
use Rattle.tall_value.specs.declared.operators.Binary.{Binary}
use Rattle.tall_value.specs.ClassTables.{binary_class}
use Rattle.tall_semantics.specs.Talls.{Tall}
use Rattle.tall_script.specs.ScriptValues.{is_tall_scalar}

-- y stands before x where the flag is set
abbrev pub pair_of : {A : Type 0} → (swapped : Bool) → A → A → List A
pair_of false x y = x ∷ y ∷ []
pair_of true x y = y ∷ x ∷ []

-- the class of an operator over a value of a class and a column in memory
abbrev pub classes_beside : Binary → (swapped : Bool) → Class → (scalar : Bool) → (column : Class) → Result Class ClassFault
classes_beside op false class scalar column = binary_class op class scalar column false
classes_beside op true class scalar column = binary_class op column false class scalar

abbrev pub beside_class : Binary → (swapped : Bool) → Tall → (column : Class) → Result Class ClassFault
beside_class op swapped x column = classes_beside op swapped x.shape.class (is_tall_scalar x) column
