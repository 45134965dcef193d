-- A store or an iterator as an argument of an index or of a function of values, by computation. The number of the arguments
-- and `:` are looked at before it, and the form of the other arguments after it.
use Rattle.std.specs.Prelude.{◌≡◌, refl, pos, [], ◌∷◌, Some, Ok, Err, codes}
use Rattle.tall_value.specs.declared.class.Class.TheVariants as class
use Rattle.tall_value.specs.declared.class.IntKind.TheVariants.{Int8}
use Rattle.tall_value.specs.declared.functions.Reduction.TheVariants.{Max}
use Rattle.tall_value.specs.Cells.{whole, double, text}
use Rattle.tall_local.specs.declared.functions.ValueFunction.TheVariants.{Sum, Reduction, Head, GroupSummary, IntMax, Idivide}
use Rattle.tall_local.specs.Arguments.{given, colon}
use Rattle.tall_local.specs.Locals.{Held, value, store, iterator, held_index, held_function}
use Rattle.tall_local.specs.Memory.{scalar, column, table}
use Rattle.tall_local.specs.MemoryIndexing.{memory_index}
use Rattle.tall_local.specs.MemoryFunctions.{memory_application}
use Rattle.tall_local.specs.Refusals.{bad_class, bad_argument}

-- a column of one row, and a table of it
abbrev x : Held
x = value (column (record { class = class.Int8; cells = whole Int8 (pos 5) ∷ [] }))

abbrev data' : Held
data' = value (table ((codes "x", record { class = class.Int8; cells = whole Int8 (pos 5) ∷ [] }) ∷ []))

abbrev one : Held
one = value (scalar (double (Some (pos 1))))

-- ---- indexes

-- x(1), which is accepted
cell_of_a_row : held_index x (given one ∷ []) ≡ Ok (value (scalar (whole Int8 (pos 5))))
unfolding held_index memory_index
cell_of_a_row = refl

-- data(store, 1)
store_in_an_index_of_no_form : held_index data' (given store ∷ given one ∷ []) ≡ Err bad_class
unfolding held_index
store_in_an_index_of_no_form = refl

-- x(store, store)
two_stores_in_an_index : held_index x (given store ∷ given store ∷ []) ≡ Err bad_class
unfolding held_index
two_stores_in_an_index = refl

-- data(:, store)
store_behind_a_colon : held_index data' (colon ∷ given store ∷ []) ≡ Err bad_class
unfolding held_index
store_behind_a_colon = refl

-- data(iterator, :)
iterator_in_an_index_of_a_table : held_index data' (given iterator ∷ colon ∷ []) ≡ Err bad_class
unfolding held_index
iterator_in_an_index_of_a_table = refl

-- store(:)
index_of_a_store : held_index store (colon ∷ []) ≡ Err bad_class
unfolding held_index
index_of_a_store = refl

-- data(1, 1), whose form is refused
index_of_no_form : held_index data' (given one ∷ given one ∷ []) ≡ Err bad_argument
unfolding held_index memory_index
index_of_no_form = refl

-- ---- functions

-- intmax(store)
store_as_a_class_name : held_function IntMax (given store ∷ []) ≡ Err bad_class
unfolding held_function
store_as_a_class_name = refl

-- sum(x, store)
store_as_an_option : held_function Sum (given x ∷ given store ∷ []) ≡ Err bad_class
unfolding held_function
store_as_an_option = refl

-- sum(x, 1, store): the form of another option comes later
store_beside_a_refused_option : held_function Sum (given x ∷ given one ∷ given store ∷ []) ≡ Err bad_class
unfolding held_function
store_beside_a_refused_option = refl

-- sum(x, 1, store, store)
too_many_options : held_function Sum (given x ∷ given one ∷ given store ∷ given store ∷ []) ≡ Err bad_argument
unfolding held_function
too_many_options = refl

-- head(data, store)
store_as_a_number_of_rows : held_function Head (given data' ∷ given store ∷ []) ≡ Err bad_class
unfolding held_function
store_as_a_number_of_rows = refl

-- idivide(store, 2, 'up')
store_beside_a_refused_rounding : held_function Idivide (given store ∷ given one ∷ given (value (scalar (text (codes "up")))) ∷ []) ≡ Err bad_class
unfolding held_function
store_beside_a_refused_rounding = refl

-- groupsummary(store, 'g', 'sum')
groups_of_three_arguments : held_function GroupSummary (given store ∷ given (value (scalar (text (codes "g")))) ∷ given (value (scalar (text (codes "sum")))) ∷ []) ≡ Err bad_argument
unfolding held_function
groups_of_three_arguments = refl

-- max(store, 1)
one_argument_too_many : held_function (Reduction Max) (given store ∷ given one ∷ []) ≡ Err bad_argument
unfolding held_function
one_argument_too_many = refl

-- max(:), and idivide(store, :)
colon_of_a_function : held_function (Reduction Max) (colon ∷ []) ≡ Err bad_argument
unfolding held_function
colon_of_a_function = refl

colon_beside_a_store : held_function Idivide (given store ∷ colon ∷ []) ≡ Err bad_argument
unfolding held_function
colon_beside_a_store = refl

-- max(iterator)
iterator_of_a_function : held_function (Reduction Max) (given iterator ∷ []) ≡ Err bad_class
unfolding held_function
iterator_of_a_function = refl

-- max(x)
greatest_of_a_column : held_function (Reduction Max) (given x ∷ []) ≡ Ok (value (scalar (whole Int8 (pos 5))))
unfolding held_function memory_application
greatest_of_a_column = refl
