-- Files with their names, as definitions see them.
use Rattle.std.specs.Prelude.{ℕ, List, map, String, Vec}
use Rattle.std.specs.String.{string_bytes}

abbrev pub files_seen : {Y Z : Type 0} → List (String Y × Vec ℕ Z) → List (List ℕ × List ℕ)
files_seen files = map (λ file. (string_bytes file.0, file.1.items)) files
