-- Worked equality of spaces and trees.
use Rattle.std.specs.Prelude.{◌≡◌, refl, ℕ, pos, negsuc, true, false, None, Some, List, [], ◌∷◌}
use Rattle.tall_value.specs.declared.class.Class.TheVariants as class
use Rattle.tall_value.specs.declared.functions.Method.TheVariants as method
use Rattle.tall_value.specs.declared.operators.Binary.TheVariants.{Gt, Ge}
use Rattle.tall_value.specs.Cells.{double}
use Rattle.tall_semantics.specs.Operations.{Tree, column, leaf, two, constant, binary}
use Rattle.tall_semantics.specs.Spaces.{Space, single, rows_of, filtered, first, last, groups, has_rows}
use Rattle.tall_semantics.specs.Spaces as spaces
use Rattle.tall_semantics.specs.Outcomes.{rows}
use Rattle.tall_semantics.specs.Talls.{Columns, tall}
use Rattle.tall_semantics.specs.RowsOfSpaces.{row_numbers}
use Rattle.tall_semantics.specs.Samples.{number}
use Rattle.tall_value.specs.Columns.{numbered}
use Rattle.tall_semantics.specs.Equality.{same_tree, same_space}

abbrev x : Tree
x = column 0 0 class.Double

abbrev zero_leaf : Tree
zero_leaf = leaf (constant (double (Some (pos 0))))

abbrev above_zero : Tree
above_zero = two (binary Gt) x zero_leaf

equal_trees : same_tree above_zero (two (binary Gt) (column 0 0 class.Double) zero_leaf) ≡ true
equal_trees = refl

another_operator : same_tree above_zero (two (binary Ge) x zero_leaf) ≡ false
another_operator = refl

operands_swapped : same_tree above_zero (two (binary Gt) zero_leaf x) ≡ false
operands_swapped = refl

another_constant : same_tree zero_leaf (leaf (constant (double (Some (pos 1))))) ≡ false
another_constant = refl

-- NaN is one constant
equal_nans : same_tree (leaf (constant (double None))) (leaf (constant (double None))) ≡ true
equal_nans = refl

equal_masks : same_space (filtered (rows_of 0) above_zero) (filtered (rows_of 0) above_zero) ≡ true
equal_masks = refl

all_rows_and_some : same_space (filtered (rows_of 0) above_zero) (rows_of 0) ≡ false
all_rows_and_some = refl

another_datastore : same_space (rows_of 0) (rows_of 1) ≡ false
another_datastore = refl

another_number_of_rows : same_space (first 8 (rows_of 0)) (first 7 (rows_of 0)) ≡ false
another_number_of_rows = refl

first_and_last : same_space (first 8 (rows_of 0)) (last 8 (rows_of 0)) ≡ false
first_and_last = refl

distinct_of_equal_values : same_space (spaces.distinct x) (spaces.distinct x) ≡ true
distinct_of_equal_values = refl

another_method : same_space (groups method.Sum x (Some x)) (groups method.Min x (Some x)) ≡ false
another_method = refl

with_and_without_method : same_space (groups method.Count x None) (groups method.Sum x (Some x)) ≡ false
with_and_without_method = refl

-- a datastore's rows, filtered or not
rows_of_a_filter : has_rows (filtered (filtered (rows_of 0) above_zero) above_zero) ≡ true
rows_of_a_filter = refl

rows_of_a_head : has_rows (filtered (first 8 (rows_of 0)) above_zero) ≡ false
rows_of_a_head = refl

-- ---- rows of spaces, over the stored column 1, -2, 3

abbrev stored_column : Columns
stored_column s v = rows (numbered 1 (number (pos 1) ∷ number (negsuc 1) ∷ number (pos 3) ∷ []))

abbrev numbers_of : Space → List ℕ
numbers_of s = row_numbers stored_column (λ store. 1 ∷ 2 ∷ 3 ∷ []) s

kept_numbers : numbers_of (filtered (rows_of 0) above_zero) ≡ 1 ∷ 3 ∷ []
unfolding tall
kept_numbers = refl

last_of_kept : numbers_of (last 1 (filtered (rows_of 0) above_zero)) ≡ 3 ∷ []
unfolding tall
last_of_kept = refl

-- distinct values and groups are numbered from 1
numbers_of_distinct : numbers_of (spaces.distinct above_zero) ≡ 1 ∷ 2 ∷ []
unfolding tall
numbers_of_distinct = refl

numbers_of_groups : numbers_of (groups method.Count x None) ≡ 1 ∷ 2 ∷ 3 ∷ []
unfolding tall
numbers_of_groups = refl
