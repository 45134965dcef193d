-- The names of functions that were read, in a set.
use Rattle.std.specs.Prelude.{ℕ, ◌≡◌, List, map, String, string_bytes}
use Rattle.std.specs.BTreeSet.{BTreeSet}
use Rattle.std.specs.List.{list_any}
use Rattle.tall_grammar.specs.Lexemes.{is_text}

-- the texts of a set
abbrev pub texts_of : {Y : Type 0} → BTreeSet (String Y) → List (List ℕ)
texts_of set = map string_bytes set.keys

-- a set has these names and no others
abbrev pub Holds : {Y : Type 0} → BTreeSet (String Y) → List (List ℕ) → Type 0
Holds set names = (text : List ℕ) → list_any (is_text text) (texts_of set) ≡ list_any (is_text text) names
