-- The values of each key.
use Rattle.std.specs.Prelude.{ℕ, zero, suc, Bool, true, false, List, [], ◌∷◌, ◌++◌, map}
use Rattle.tall_value.specs.declared.class.Class.{Class}
use Rattle.tall_value.specs.declared.class.Class.TheVariants.{Double}
use Rattle.std.specs.Ordering.{is_eq}
use Rattle.tall_value.specs.Cells.{Seen}
use Rattle.tall_value.specs.CellOrder.{cell_order}
use Rattle.tall_column.specs.Columns.{SeenColumn, class_of_cell, with_cell}
use Rattle.tall_local.specs.Pairs.{Pair, distinct_keys, values_of}

-- a key with the column of its values
pub record Group : Type 0 where
  pub key : Seen
  pub values : SeenColumn

-- keys beside their columns
abbrev pub groups_beside : List Seen → List SeenColumn → List Group
groups_beside (key ∷ keys) (column ∷ columns) = record { key = key; values = column } ∷ groups_beside keys columns
groups_beside keys columns = []

-- the class of a store's values; without a pair it has none, and no column either
abbrev pub class_of_values : List Pair → Class
class_of_values [] = Double
class_of_values (p ∷ ps) = class_of_cell p.value

-- the values of a key as a column of a class
abbrev pub values_column : Class → List Pair → Seen → SeenColumn
values_column class ps key = record { class = class; cells = values_of key ps }

-- the keys in the order of their first adding, each with its values in order
abbrev pub groups_of : List Pair → List Group
groups_of ps = map (λ key. record { key = key; values = values_column (class_of_values ps) ps key }) (distinct_keys ps)

-- a cell that is this key: neither is before the other
abbrev pub is_this_key : Seen → Seen → Bool
is_this_key c key = is_eq (cell_order key c)

-- one more value at the end of the column at a place
abbrev pub value_put : List SeenColumn → ℕ → Seen → List SeenColumn
value_put [] place c = []
value_put (column ∷ columns) zero c = with_cell column c ∷ columns
value_put (column ∷ columns) (suc place) c = column ∷ value_put columns place c

-- a new key gets a column of its own
abbrev pub with_value_at : Class → List SeenColumn → (place : ℕ) (new : Bool) → Seen → List SeenColumn
with_value_at class columns place true c = columns ++ record { class = class; cells = c ∷ [] } ∷ []
with_value_at class columns place false c = value_put columns place c
