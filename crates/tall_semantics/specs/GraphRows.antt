-- Worked shapes of a list of vertices, and what may be added to it.
use Rattle.std.specs.Prelude.{◌≡◌, refl, false, true, Err, [], ◌∷◌, map}
use Rattle.tall_value.specs.declared.class.Class.TheVariants as class
use Rattle.tall_value.specs.declared.functions.Method.TheVariants as method
use Rattle.tall_value.specs.declared.functions.Reduction.TheVariants.{Min}
use Rattle.tall_value.specs.declared.operators.Binary.TheVariants.{Add}
use Rattle.tall_value.specs.declared.operators.Unary.TheVariants.{Neg}
use Rattle.tall_semantics.specs.Operations.{binary, unary, filter, reduce, head, group, keys, values, stored, operation}
use Rattle.tall_semantics.specs.Shapes.{Shape, incompatible, bad_class, bad_argument, level}
use Rattle.tall_semantics.specs.ShapesInOrder.{made_shape, shapes_from, shapes_of, shape_at}
use Rattle.tall_semantics.specs.Additions.{may_add, may_follow}
use Rattle.tall_semantics.specs.GraphSamples.{vertex, grouped, running}
use Rattle.tall_semantics.specs.Samples.{at}

-- ---- shapes

classes_in_order : map (λ (s : Shape). s.class) (shapes_of grouped) ≡
    class.Double ∷ class.Double ∷ class.Double ∷ class.Logical ∷ class.Double ∷ class.Double ∷ class.Double ∷ class.Double ∷ class.Double ∷ []
unfolding shapes_from
classes_in_order = refl

-- the variables, the constant, the mask, the filters, the groups; the other datastore, max(x), x - m, cumsum(x - m), its sum
chains_in_order : map (λ (s : Shape). s.chain) (shapes_of running) ≡ 0 ∷ 0 ∷ 0 ∷ 0 ∷ 0 ∷ 0 ∷ 1 ∷ 1 ∷ 1 ∷ 0 ∷ 1 ∷ 1 ∷ 2 ∷ 3 ∷ []
unfolding shapes_from
chains_in_order = refl

levels_in_order : map level (shapes_of running) ≡ 1 ∷ 1 ∷ 0 ∷ 1 ∷ 1 ∷ 1 ∷ 1 ∷ 1 ∷ 1 ∷ 1 ∷ 1 ∷ 2 ∷ 3 ∷ 3 ∷ []
unfolding shapes_from
levels_in_order = refl

-- both filters have one space
one_space : (shape_at running 4).space ≡ (shape_at running 5).space
unfolding shapes_from
one_space = refl

-- all rows beside some, rows of two datastores
all_beside_some : made_shape (operation (binary Add)) (map (shape_at running) (0 ∷ 4 ∷ [])) ≡ Err incompatible
unfolding shapes_from
all_beside_some = refl

two_datastores : made_shape (operation (binary Add)) (map (shape_at running) (0 ∷ 9 ∷ [])) ≡ Err incompatible
unfolding shapes_from
two_datastores = refl

-- a mask that isn't logical, the head of a scalar, a group of one key with a method
mask_of_numbers : made_shape (operation filter) (map (shape_at running) (0 ∷ 1 ∷ [])) ≡ Err bad_class
unfolding shapes_from
mask_of_numbers = refl

head_of_a_scalar : made_shape (operation (head 8)) (map (shape_at running) (10 ∷ [])) ≡ Err bad_argument
unfolding shapes_from
head_of_a_scalar = refl

group_without_data : made_shape (operation (group method.Sum keys)) (map (shape_at running) (4 ∷ [])) ≡ Err bad_argument
unfolding shapes_from
group_without_data = refl

-- ---- what may be added

-- two filters of one number, three columns of one `groupsummary`, a constant beside its operator, a datastore beside its
-- copy by a property statement
numbers_that_may_be : may_follow [] running ≡ true
numbers_that_may_be = refl

-- another method, other operands, another line: they are no columns of one `groupsummary`
another_method : may_add grouped (vertex 14 (operation (group method.Min values)) (4 ∷ 5 ∷ [])) ≡ false
another_method = refl

other_operands : may_add grouped (vertex 14 (operation (group method.Sum values)) (5 ∷ 4 ∷ [])) ≡ false
other_operands = refl

another_line : may_add grouped (record { at = at 14 4; made = operation (group method.Sum values); args = 4 ∷ 5 ∷ [] }) ≡ false
another_line = refl

-- two that can fail
two_reductions : may_add running (vertex 17 (operation (reduce Min)) (0 ∷ [])) ≡ false
two_reductions = refl

operator_beside_a_group : may_add grouped (vertex 14 (operation (unary Neg)) (4 ∷ [])) ≡ false
operator_beside_a_group = refl

-- one of the two never fails
head_beside_a_reduction : may_add running (vertex 17 (operation (head 8)) (0 ∷ [])) ≡ true
head_beside_a_reduction = refl

-- an operand with a greater number, an operand that isn't there
lesser_number : may_add grouped (vertex 9 (operation (unary Neg)) (4 ∷ [])) ≡ false
lesser_number = refl

operand_not_there : may_add grouped (vertex 30 (operation (unary Neg)) (9 ∷ [])) ≡ false
operand_not_there = refl

-- a variable of a datastore with another number or another line than the others
another_call : may_add running (vertex 30 (stored 0 2 class.Int8) []) ≡ false
another_call = refl

another_line_of_a_call : may_add running (record { at = at 3 2; made = stored 0 2 class.Int8; args = [] }) ≡ false
another_line_of_a_call = refl

one_more_variable : may_add running (vertex 3 (stored 0 2 class.Int8) []) ≡ true
one_more_variable = refl
