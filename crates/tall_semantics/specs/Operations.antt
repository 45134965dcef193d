-- Operations on deferred values with their options, and trees of what a value was computed from, as plain data.
use Rattle.std.specs.Prelude.{ℕ, Bool, false, ◌||◌, ◌==◌}
use Rattle.tall_value.specs.declared.class.Class.{Class}
use Rattle.tall_value.specs.declared.functions.Method.{Method}
use Rattle.tall_value.specs.declared.functions.Reduction.{Reduction}
use Rattle.tall_value.specs.declared.functions.Scan.{Scan}
use Rattle.tall_value.specs.declared.operators.Binary.{Binary}
use Rattle.tall_value.specs.declared.operators.Unary.{Unary}
use Rattle.tall_value.specs.Cells.{Seen}

-- the columns that `groupsummary` makes
pub data Part : Type 0 where
  keys : Part
  counts : Part
  values : Part

-- a scalar in memory, the operators, an index by a logical column, and the functions of columns. `group` with no method
-- has one operand, the key, and no part `values`; with a method it has two, the key and the data.
pub data Op : Type 0 where
  constant : Seen → Op
  binary : Binary → Op
  unary : Unary → Op
  filter : Op
  reduce : Reduction → Op
  scan : Scan → Op
  head : (k : ℕ) → Op
  tail : (k : ℕ) → Op
  distinct : Op
  group : Method → Part → Op

-- what makes a value: a datastore's variable is read, else an operation
pub data Made : Type 0 where
  stored : (store variable : ℕ) → Class → Made
  operation : Op → Made

-- what a value was computed from; no operation has more than two operands
pub data Tree : Type 0 where
  column : (store variable : ℕ) → Class → Tree
  leaf : Op → Tree
  one : Op → Tree → Tree
  two : Op → Tree → Tree → Tree

-- the datastore is read for the value
abbrev pub reads : ℕ → Tree → Bool
reads store (column s variable class) = s == store
reads store (leaf op) = false
reads store (one op x) = reads store x
reads store (two op x y) = reads store x || reads store y
