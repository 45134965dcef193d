-- Values in memory: a cell, a column, a table, a list of texts. A column of one row stays a column.
use Rattle.std.specs.Prelude.{ℕ, Bool, true, false, List, Option, None, Some}
use Rattle.tall_value.specs.declared.class.Kind.{Kind}
use Rattle.tall_value.specs.Classes.{kind_of}
use Rattle.tall_value.specs.Cells.{Seen, text}
use Rattle.tall_column.specs.Columns.{SeenColumn}

pub data Memory : Type 0 where
  scalar : Seen → Memory
  column : SeenColumn → Memory
  table : List (List ℕ × SeenColumn) → Memory
  texts : List (List ℕ) → Memory

abbrev pub kind_of_column : SeenColumn → Kind
kind_of_column x = kind_of x.class

-- a table, a column and a list are no scalars
abbrev pub is_scalar : Memory → Bool
is_scalar (scalar c) = true
is_scalar v = false

abbrev pub scalar_in : Memory → Option Seen
scalar_in (scalar c) = Some c
scalar_in v = None

-- the bytes of a text: the one place that says which cells are texts that options and lists take
abbrev pub text_in : Seen → Option (List ℕ)
text_in (text t) = Some t
text_in c = None
