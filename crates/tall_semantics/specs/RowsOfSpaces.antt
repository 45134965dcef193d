-- The rows of a space: the numbers of the rows that each value of the space has, where it has no fault. They follow from
-- the space alone, and from the numbers of the datastores' rows.
use Rattle.std.specs.Prelude.{◌≡◌, ℕ, ◌-◌, true, false, None, Some, List, [], ◌∷◌, length, map, take, drop, slice_get}
use Rattle.tall_value.specs.declared.class.Class.{Class}
use Rattle.tall_value.specs.Cells.{Seen}
use Rattle.tall_value.specs.Columns.{numbered}
use Rattle.tall_value.specs.Distinct as values
use Rattle.tall_value.specs.Filters as filters
use Rattle.tall_value.specs.Groups.{group_keys}
use Rattle.tall_semantics.specs.Operations.{Tree, column, leaf, one, two, stored}
use Rattle.tall_semantics.specs.Spaces.{Space, single, rows_of, filtered, first, last, distinct, groups, is_single}
use Rattle.tall_semantics.specs.Faults.{At}
use Rattle.tall_semantics.specs.Outcomes.{Outcome, rows, scalar, fault, fault_of, rows_in, cells_in}
use Rattle.tall_semantics.specs.Shapes.{Shape}
use Rattle.tall_semantics.specs.Talls.{Tall, Columns, tall, stored_tall}
use Rattle.tall_semantics.specs.Deferred.{Vertex}
use Rattle.tall_semantics.specs.InOrder.{or_blank}
use Rattle.tall_semantics.specs.ClassesOfCells.{HaveClass}

-- an expression that no script has, for values without a fault, where it doesn't matter which it is
abbrev pub nowhere : At
nowhere = record { number = 0; line = 0 }

-- the value that a tree tells
abbrev pub tree_tall : Columns → Tree → Tall
tree_tall columns (column s v c) = stored_tall s v c (columns s v)
tree_tall columns (leaf op) = or_blank (tall nowhere op [])
tree_tall columns (one op x) = or_blank (tall nowhere op (tree_tall columns x ∷ []))
tree_tall columns (two op x y) = or_blank (tall nowhere op (tree_tall columns x ∷ tree_tall columns y ∷ []))

abbrev pub numbers_in : Outcome → List ℕ
numbers_in x = map (λ (r : ℕ × Seen). r.0) (rows_in x)

-- `of_stores` tells the numbers of each datastore's rows
abbrev pub row_numbers : Columns → (of_stores : ℕ → List ℕ) → Space → List ℕ
row_numbers columns of_stores single = 1 ∷ []
row_numbers columns of_stores (rows_of s) = of_stores s
row_numbers columns of_stores (filtered s mask) = filters.kept (row_numbers columns of_stores s) (cells_in (tree_tall columns mask).outcome)
row_numbers columns of_stores (first k s) = take k (row_numbers columns of_stores s)
row_numbers columns of_stores (last k s) = let ns = row_numbers columns of_stores s in drop (length ns - k) ns
row_numbers columns of_stores (distinct x) = numbers_in (rows (values.distinct_rows (cells_in (tree_tall columns x).outcome)))
row_numbers columns of_stores (groups m key of_data) = numbers_in (rows (numbered 1 (group_keys (cells_in (tree_tall columns key).outcome))))

-- the stored columns are no scalars, those of one datastore have its rows, and each has cells of its class
pub record AreColumns (columns : Columns) (of_stores : ℕ → List ℕ) (vs : List Vertex) : Type 0 where
  pub no_scalar : (i : ℕ) (v : Vertex) (s a : ℕ) (c : Class) (x : Seen) → slice_get vs i ≡ Some v → v.made ≡ stored s a c → columns s a ≡ scalar x → ⊥
  pub same_rows : (i : ℕ) (v : Vertex) (s a : ℕ) (c : Class) → slice_get vs i ≡ Some v → v.made ≡ stored s a c → fault_of (columns s a) ≡ None → numbers_in (columns s a) ≡ of_stores s
  pub classes : (i : ℕ) (v : Vertex) (s a : ℕ) (c : Class) → slice_get vs i ≡ Some v → v.made ≡ stored s a c → HaveClass c (columns s a)

-- a value is a scalar exactly where its space says so
abbrev pub Fits : Shape → Outcome → Type 0
Fits s (rows rs) = is_single s.space ≡ false
Fits s (scalar c) = is_single s.space ≡ true
Fits s (fault f) = Unit {0}
