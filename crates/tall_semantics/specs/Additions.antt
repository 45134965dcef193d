-- What a vertex needs, so that a list with it keeps what is said of its numbers (specs/Numbered.antt): it is asked for
-- where a vertex is added. The tests beside it decide it, so that worked lists compute.
use Rattle.std.specs.Prelude.{◌≡◌, ℕ, ◌≤◌, Bool, true, false, not, ◌&&◌, ◌||◌, ◌==◌, nat_lt, bytes_eq, Some, List, [], ◌∷◌, ◌++◌, length, slice_get}
use Rattle.tall_semantics.specs.Operations.{group, Made, stored, operation}
use Rattle.tall_semantics.specs.Equality.{method_place}
use Rattle.tall_semantics.specs.Faults.{At}
use Rattle.tall_semantics.specs.Deferred.{Vertex, AllBelow, IsAmong}
use Rattle.tall_semantics.specs.Numbered.{never_fails, OfOneStore, MayShare, number_at}

pub record MayAdd (vs : List Vertex) (v : Vertex) : Type 0 where
  -- its operands are there, and have no greater numbers
  pub below : AllBelow (length vs) v.args
  pub lower : (a : ℕ) (w : Vertex) → IsAmong v.args a → slice_get vs a ≡ Some w → w.at.number ≤ v.at.number
  -- a variable has the number and the line of its datastore's other variables
  pub calls : (j : ℕ) (w : Vertex) → slice_get vs j ≡ Some w → OfOneStore v.made w.made → v.at ≡ w.at
  -- with each vertex of its number it may share it
  pub shared : (j : ℕ) (w : Vertex) → slice_get vs j ≡ Some w → v.at.number ≡ w.at.number → MayShare v w

-- ---- as tests

abbrev pub are_stored : Made → Made → Bool
are_stored (stored s v c) (stored t w d) = true
are_stored made other = false

abbrev pub of_one_store : Made → Made → Bool
of_one_store (stored s v c) (stored t w d) = s == t
of_one_store made other = false

abbrev pub of_one_method : Made → Made → Bool
of_one_method (operation (group m p)) (operation (group n q)) = method_place m == method_place n
of_one_method made other = false

abbrev pub may_share : Vertex → Vertex → Bool
may_share v w =
    are_stored v.made w.made
    || ((of_one_method v.made w.made && (bytes_eq v.args w.args && v.at.line == w.at.line))
    || (never_fails v.made || never_fails w.made))

abbrev pub same_at : At → At → Bool
same_at x y = x.number == y.number && x.line == y.line

abbrev pub may_stand_beside : Vertex → Vertex → Bool
may_stand_beside v w =
    (not (of_one_store v.made w.made) || same_at v.at w.at) && (not (v.at.number == w.at.number) || may_share v w)

abbrev pub may_stand_beside_all : Vertex → List Vertex → Bool
may_stand_beside_all v [] = true
may_stand_beside_all v (w ∷ ws) = may_stand_beside v w && may_stand_beside_all v ws

abbrev pub are_lower : List Vertex → (number : ℕ) → List ℕ → Bool
are_lower vs number [] = true
are_lower vs number (a ∷ args) = (nat_lt a (length vs) && not (nat_lt number (number_at (slice_get vs a)))) && are_lower vs number args

abbrev pub may_add : List Vertex → Vertex → Bool
may_add vs v = are_lower vs v.at.number v.args && may_stand_beside_all v vs

-- each vertex may be added to those before it
abbrev pub may_follow : List Vertex → List Vertex → Bool
may_follow vs [] = true
may_follow vs (w ∷ ws) = may_add vs w && may_follow (vs ++ w ∷ []) ws
