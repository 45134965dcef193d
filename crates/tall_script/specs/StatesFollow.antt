-- What becomes of a script's state: in words over statements and runs.
use Rattle.std.specs.Prelude.{◌≡◌, List, ◌++◌}
use Rattle.tall_semantics.specs.Talls.{Tall}
use Rattle.tall_script.specs.States.{Openings, State, Store}
use Rattle.tall_script.specs.Statements.{Done, shows, fails}

-- the state that a statement leaves, or in which it fails
abbrev pub done_state : Done → State Tall
done_state (shows text s) = s
done_state (fails stop s) = s

-- the datastores of a state are those of an earlier one and then more, and so are the openings that it counts
pub record Follows (s t : State Tall) : Type 0 where
  pub more_stores : List Store
  pub stores : t.stores ≡ s.stores ++ more_stores
  pub more_openings : List Openings
  pub opened : t.opened ≡ s.opened ++ more_openings
