-- The order in which a level is computed: first what its passes compute, then what stands in no pass. With these ranks in
-- place of levels the step from one to the next serves for both (specs/Levels.antt). Nothing has rank 0.
use Rattle.std.specs.Prelude.{ℕ, ◌+◌, ◌*◌, Bool, false, ◌||◌, if◌then◌else◌, Option, None, Some, List, [], ◌∷◌, slice_get}
use Rattle.tall_semantics.specs.Spaces.{has_rows}
use Rattle.tall_semantics.specs.Shapes.{Shape, level}
use Rattle.tall_semantics.specs.Talls.{Tall}
use Rattle.tall_semantics.specs.Deferred.{Vertex}

abbrev pub any_rows : (ℕ → Tall) → List ℕ → Bool
any_rows f [] = false
any_rows f (a ∷ args) = has_rows (f a).shape.space || any_rows f args

-- a pass computes what has a datastore's rows, and what has an operand that has them
abbrev pub is_in_pass : (ℕ → Tall) → Vertex → ℕ → Bool
is_in_pass f v i = has_rows (f i).shape.space || any_rows f v.args

abbrev pub rank : Bool → Shape → ℕ
rank in_pass x = if in_pass then 2 * level x else 2 * level x + 1

abbrev pub rank_at : (ℕ → Tall) → Option Vertex → ℕ → ℕ
rank_at f None i = 0
rank_at f (Some v) i = rank (is_in_pass f v i) (f i).shape

abbrev pub ranks_in : List Vertex → (ℕ → Tall) → ℕ → ℕ
ranks_in vs f i = rank_at f (slice_get vs i) i
