-- Names, each as the bytes of its text.
use Rattle.std.specs.Prelude.{ℕ, ◌&&◌, not, Bool, true, List, [], ◌∷◌}
use Rattle.std.specs.Set.{is_member}
use Rattle.std.specs.Str.{bytes_eq}

-- one of the names is this one
abbrev pub has_name : List (List ℕ) → List ℕ → Bool
has_name names name = is_member bytes_eq names name

-- no name stands twice
abbrev pub are_distinct : List (List ℕ) → Bool
are_distinct [] = true
are_distinct (name ∷ names) = not (has_name names name) && are_distinct names
