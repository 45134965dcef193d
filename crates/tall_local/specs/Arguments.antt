-- Arguments of calls and of indexes.
use Rattle.std.specs.Prelude.{ℕ, List, [], ◌∷◌, Option, None, Some}

-- what stands between the parentheses of a call or an index: a value, `:`, or `@` with the name of a function
pub data Argument (V : Type 0) : Type 0 where
  given : V → Argument V
  colon : Argument V
  function : (name : List ℕ) → Argument V

-- an argument that is a value
abbrev pub value_given : {V : Type 0} → Argument V → Option V
value_given (given v) = Some v
value_given colon = None
value_given (function name) = None

-- the two forms of an index: x(i), and T(i, :) of a table
pub data Index (V : Type 0) : Type 0 where
  rows_at : V → Index V
  all_variables_at : V → Index V

-- arguments of another form are no index
abbrev pub index_of : {V : Type 0} → List (Argument V) → Option (Index V)
index_of (given i ∷ []) = Some (rows_at i)
index_of (given i ∷ colon ∷ []) = Some (all_variables_at i)
index_of args = None

-- the same form, of another value
abbrev pub index_by : {V W : Type 0} → (V → W) → Index V → Index W
index_by f (rows_at i) = rows_at (f i)
index_by f (all_variables_at i) = all_variables_at (f i)
