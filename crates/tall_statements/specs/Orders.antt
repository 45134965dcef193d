-- The numbers of a statement's expressions.
use Rattle.std.specs.Prelude.{ℕ, ◌<◌}
use Rattle.tall_grammar.specs.Trees.{Body, assigned, gathered, property, bare}
use Rattle.tall_evaluate.specs.Orders.{AreInOrder, ArgsAreInOrder, first_number, last_number, own_number}
use Rattle.tall_deferred.specs.Turns.{IsLater}

-- the expressions come in the order of their numbers, behind the one with the number `after`
abbrev pub IsInOrder : (after : ℕ) → Body → Type 0
IsInOrder after (assigned name e) = (after < first_number e) × AreInOrder IsLater e
IsInOrder after (gathered names args) = ArgsAreInOrder IsLater after args
IsInOrder after (property name p e) = (after < first_number e) × AreInOrder IsLater e
IsInOrder after (bare e) = (after < first_number e) × AreInOrder IsLater e

-- the number of the last expression, or of the one before the statement where it has none
abbrev pub last_of : (after : ℕ) → Body → ℕ
last_of after (assigned name e) = own_number e
last_of after (gathered names args) = last_number after args
last_of after (property name p e) = own_number e
last_of after (bare e) = own_number e
