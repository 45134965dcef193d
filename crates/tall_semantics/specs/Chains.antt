-- Paths from a value to what it depends on, with the number of operations on them that need all rows of a datastore before
-- they have a result. A value's chain is the greatest such number (src/graphs.rt), so it is the number of passes that must
-- be done before a pass that computes the value.
use Rattle.std.specs.Prelude.{◌≡◌, ℕ, ◌+◌, Bool, true, false, ◌&&◌, if◌then◌else◌, Some, List, slice_get}
use Rattle.tall_semantics.specs.Operations.{reduce, scan, head, tail, distinct, group, Made, operation}
use Rattle.tall_semantics.specs.Spaces.{has_rows}
use Rattle.tall_semantics.specs.Deferred.{Vertex, IsAmong}
use Rattle.tall_semantics.specs.ShapesInOrder.{shape_at}

abbrev pub needs_all_rows : Made → Bool
needs_all_rows (operation (reduce r)) = true
needs_all_rows (operation (scan s)) = true
needs_all_rows (operation (head k)) = true
needs_all_rows (operation (tail k)) = true
needs_all_rows (operation distinct) = true
needs_all_rows (operation (group m part)) = true
needs_all_rows made = false

-- one where the operation needs all rows and the operand's rows are a datastore's
abbrev pub passes_between : List Vertex → Made → (operand : ℕ) → ℕ
passes_between vs made a = if needs_all_rows made && has_rows (shape_at vs a).space then 1 else 0

-- a path from the value down, with so many of these operations
pub data Path (vs : List Vertex) : ℕ → ℕ → Type 0 where
  ends : (i : ℕ) → Path vs i 0
  goes : (i a n : ℕ) (v : Vertex) → slice_get vs i ≡ Some v → IsAmong v.args a → Path vs a n → Path vs i (passes_between vs v.made a + n)
