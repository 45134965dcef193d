-- What becomes of a call of a map or a reduce function, in words over whole calls.
use Rattle.std.specs.Prelude.{◌≡◌, ◌≤◌, ◌<◌, ◌++◌, true, List, [], ◌∷◌}
use Rattle.tall_local.specs.Calls.{Ran, ends, breaks, turn_limit}
use Rattle.tall_local.specs.Locals.{Locals}
use Rattle.tall_local.specs.Pairs.{Pair, same_class}

-- the state in which statements end or break off
abbrev pub state_of_run : Ran → Locals
state_of_run (ends s) = s
state_of_run (breaks stop s) = s

-- all have the classes of one pair's key and value
abbrev pub HaveClasses : Pair → List Pair → Type 0
HaveClasses p [] = Unit {0}
HaveClasses p (q ∷ qs) = (same_class p.key q.key ≡ true) × (same_class p.value q.value ≡ true) × HaveClasses p qs

-- all keys have one class, and all values
abbrev pub HaveOneClass : List Pair → Type 0
HaveOneClass [] = Unit {0}
HaveOneClass (p ∷ ps) = HaveClasses p ps

-- statements begin turns, fewer in all than the limit, take values of the iterator, and add pairs, whose keys have one class
-- and whose values have one class
pub record Proceeds (s t : Locals) : Type 0 where
  pub turns : s.turns ≤ t.turns
  pub within : s.turns < turn_limit → t.turns < turn_limit
  pub given : s.given ≤ t.given
  pub more : List Pair
  pub pairs : t.pairs ≡ s.pairs ++ more
  pub classes : HaveOneClass s.pairs → HaveOneClass t.pairs
