-- The names of the columns of a summary of groups.
use Rattle.std.specs.Prelude.{ℕ, codes, Option, None, Some, List, [], ◌∷◌, ◌++◌}
use Rattle.tall_column.specs.Columns.{SeenColumn}

-- the key's, the count's, and where there are values theirs
abbrev pub names_with : List ℕ → Option (List ℕ) → List (List ℕ)
names_with key (Some name) = key ∷ codes "GroupCount" ∷ name ∷ []
names_with key None = key ∷ codes "GroupCount" ∷ []

-- a table with the values behind its columns, where they have a name
abbrev pub with_values : List (List ℕ × SeenColumn) → Option (List ℕ) → SeenColumn → List (List ℕ × SeenColumn)
with_values t (Some name) values = t ++ (name, values) ∷ []
with_values t None values = t
