-- Arguments of a number, and what a clause sees of a call's application.
use Rattle.std.specs.Prelude.{Bool, true, false, List, [], ◌∷◌, Option, None, Some, option_map}
use Rattle.tall_value.specs.Cells.{seen, whole}
use Rattle.tall_value.specs.Classes.{greatest, least}
use Rattle.tall_local.specs.Applications as definition
use Rattle.tall_local.specs.Memory.{Memory, scalar_in}
use Rattle.tall_local.specs.Functions.{integer_classes}
use Rattle.tall_local.specs.declared.functions.ValueFunction.TheVariants as function
use Rattle.tall_memory.specs.declared.applications.Application.{Application}
use Rattle.tall_memory.specs.declared.applications.Application.TheVariants as application
use Rattle.tall_memory.specs.declared.applications.Operation.{Operation}
use Rattle.tall_memory.specs.declared.applications.Operation.TheVariants as operation
use Rattle.tall_local.specs.declared.functions.SumOption.{SumOption}
use Rattle.tall_value.specs.declared.functions.Reduction.{Reduction}
use Rattle.tall_memory.specs.Values.{ref_seen}

-- so many arguments, and no more
abbrev pub only : {V : Type 0} → List V → Option V
only (v ∷ []) = Some v
only vs = None

abbrev pub both : {V : Type 0} → List V → Option (V × V)
both (v ∷ w ∷ []) = Some (v, w)
both vs = None

abbrev pub three : {V : Type 0} → List V → Option (V × V × V)
three (v ∷ w ∷ x ∷ []) = Some (v, w, x)
three vs = None

abbrev pub four : {V : Type 0} → List V → Option (V × V × V × V)
four (v ∷ w ∷ x ∷ y ∷ []) = Some (v, w, x, y)
four vs = None

abbrev pub operation_seen : Operation → definition.Operation
operation_seen (operation.Reduce r) = definition.reduce r
operation_seen operation.Height = definition.height
operation_seen (operation.Scan s) = definition.scan s
operation_seen (operation.Head k) = definition.head k
operation_seen (operation.Tail k) = definition.tail k
operation_seen operation.Distinct = definition.distinct
operation_seen (operation.Groups key m value) = definition.groups key.now m value.now
operation_seen (operation.Unary op) = definition.unary op

abbrev pub application_seen : Application → definition.Application Memory
application_seen (application.Constant c) = definition.constant (seen c)
application_seen (application.ToOne op v) = definition.to_one (operation_seen op) (ref_seen v.now)
application_seen (application.ToTwo op v w) = definition.to_two op (ref_seen v.now) (ref_seen w.now)

-- `head` and `tail` by their arguments, `intmax` and `intmin` of a class
abbrev pub ends_of : (last : Bool) → List Memory → Option (definition.Application Memory)
ends_of false vs = definition.application scalar_in function.Head vs
ends_of true vs = definition.application scalar_in function.Tail vs

abbrev pub limit : (greatest_one : Bool) → Memory → Option (definition.Application Memory)
limit true c = option_map (λ k. definition.constant (whole k (greatest k))) (definition.choice_of integer_classes (scalar_in c))
limit false c = option_map (λ k. definition.constant (whole k (least k))) (definition.choice_of integer_classes (scalar_in c))

-- two options of `sum`
abbrev pub sum_with_two : Option SumOption → Option SumOption → Option Reduction
sum_with_two (Some a) (Some b) = definition.sum_with (a ∷ b ∷ [])
sum_with_two a b = None
