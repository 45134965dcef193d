-- How often a gather may open the files of a datastore.
use Rattle.std.specs.Prelude.{ℕ, Bool, false, ◌||◌, if◌then◌else◌, List, [], ◌∷◌}
use Rattle.tall_semantics.specs.Operations.{reads}
use Rattle.tall_semantics.specs.Shapes.{Shape, greatest_level}

-- the datastore is read for one of the arguments
abbrev pub any_reads : (store : ℕ) → List Shape → Bool
any_reads store [] = false
any_reads store (x ∷ xs) = reads store x.tree || any_reads store xs

-- the greatest count among all arguments, also for a datastore that only an argument of a smaller count reaches. A table
-- counts with each of its columns.
abbrev pub share : (store : ℕ) → List Shape → ℕ
share store xs = if any_reads store xs then greatest_level xs else 0
