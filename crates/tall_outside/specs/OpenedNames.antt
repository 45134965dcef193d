-- Which names were opened between two moments, where a shelf tells the names that it was called with.
use Rattle.std.specs.Prelude.{◌≡◌, ◌⊎◌, ◌++◌, ◌∷◌, [], ℕ, List, Option, None, Some, ⊤}

-- these came after those that were told before
abbrev pub Adds : List (List ℕ) → Option (List (List ℕ)) → Option (List (List ℕ)) → Type 0
Adds more None now = ⊤
Adds more (Some names) None = ⊥
Adds more (Some names) (Some all) = all ≡ names ++ more

-- a name was opened once, or not at all
abbrev pub OpensOnce : List ℕ → Option (List (List ℕ)) → Option (List (List ℕ)) → Type 0
OpensOnce name before now = Adds [] before now ⊎ Adds (name ∷ []) before now

-- a name was opened twice at most
abbrev pub OpensTwice : List ℕ → Option (List (List ℕ)) → Option (List (List ℕ)) → Type 0
OpensTwice name before now = Adds [] before now ⊎ Adds (name ∷ []) before now ⊎ Adds (name ∷ name ∷ []) before now
