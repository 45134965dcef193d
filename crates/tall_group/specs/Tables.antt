-- How the keys are kept: each with its place, in the order in which they first came.
use Rattle.std.specs.Prelude.{◌≡◌, ℕ, ◌<◌, List, [], ◌∷◌, length, get_or, map, string_bytes}
use Rattle.tall_value.specs.declared.class.Class.{Class}
use Rattle.tall_value.specs.declared.class.Kind.{Kind}
use Rattle.tall_value.specs.declared.class.Kind.TheVariants.{Integer, Logical, Double, Text}
use Rattle.tall_value.specs.Cells.{Seen, text}
use Rattle.tall_value.specs.Classes.{kind_of}
use Rattle.tall_dense.specs.Columns.{SeenColumn}
use Rattle.tall_group.specs.Numbers.{key_cell, number_of}
use Rattle.tall_group.specs.declared.numbers.Number.{Number}
use Rattle.tall_group.specs.declared.keys.Keys.{Keys}
use Rattle.tall_group.specs.declared.keys.Keys.TheVariants.{Numbers, Texts}

-- each key's place is its index
abbrev pub ArePlaces : {K : Type 0} → List (K × ℕ) → Type 0
ArePlaces {K} entries = (i : ℕ) (d : K × ℕ) → i < length entries → (get_or entries i d).1 ≡ i

-- a kind whose cells stand for numbers
abbrev pub IsNumeric : Kind → Type 0
IsNumeric Text = ⊥
IsNumeric k = Unit {0}

-- each number is that of its cell
abbrev pub AreExact : Kind → List (Number × ℕ) → Type 0
AreExact kind [] = Unit {0}
AreExact kind (e ∷ es) = (number_of (key_cell kind e.0) ≡ e.0) × AreExact kind es

abbrev pub number_cells : Kind → List (Number × ℕ) → List Seen
number_cells kind es = map (λ e. key_cell kind e.0) es

abbrev pub keys_shown : Kind → Keys → List Seen
keys_shown kind (Numbers m) = number_cells kind m.entries
keys_shown kind (Texts m) = map (λ e. text (string_bytes e.0)) m.entries

-- what is true of the keys of a kind
abbrev pub IsTable : Kind → Keys → Type 0
IsTable kind (Numbers m) = IsNumeric kind × AreExact kind m.entries × ArePlaces m.entries
IsTable kind (Texts m) = (kind ≡ Text) × ArePlaces m.entries

-- the keys as a column
abbrev pub table_shown : Class → Keys → SeenColumn
table_shown class keys = record { class = class; cells = keys_shown (kind_of class) keys }
