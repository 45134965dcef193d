-- Spaces: which rows a value has. Two values of one space have the same rows; a space is told by what it was made from.
use Rattle.std.specs.Prelude.{ℕ, Bool, true, false, Option, None, Some}
use Rattle.tall_value.specs.declared.functions.Method.{Method}
use Rattle.tall_semantics.specs.Operations.{Tree}

pub data Space : Type 0 where
  -- a scalar, which meets each row
  single : Space
  -- all rows of a datastore
  rows_of : (store : ℕ) → Space
  -- the rows of a space that a mask keeps
  filtered : Space → (mask : Tree) → Space
  -- the first and the last k rows of a space
  first : (k : ℕ) → Space → Space
  last : (k : ℕ) → Space → Space
  -- the rows of `unique` of a value
  distinct : Tree → Space
  -- the rows of `groupsummary` by a key, with a method and its data
  groups : Method → (key : Tree) → (of_data : Option Tree) → Space

abbrev pub is_single : Space → Bool
is_single single = true
is_single s = false

-- the space has a datastore's rows: all of them, or those that masks keep
abbrev pub has_rows : Space → Bool
has_rows (rows_of store) = true
has_rows (filtered s mask) = has_rows s
has_rows s = false

-- the datastore whose rows the space has
abbrev pub store_of : Space → Option ℕ
store_of (rows_of store) = Some store
store_of (filtered s mask) = store_of s
store_of s = None
