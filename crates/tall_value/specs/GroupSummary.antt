-- `groupsummary` as one operation: from the rows of the key and of the data, which are columns of one table, all columns
-- together or the one fault of them all, which has no row. MathWorks, groupsummary. The groups are numbered from 1,
-- ascending by key, and all NaN keys together are one group, last.
use Rattle.std.specs.Prelude.{ℕ, Result, Ok, Err, List, [], ◌∷◌, map}
use Rattle.tall_value.specs.declared.class.Kind.{Kind}
use Rattle.tall_value.specs.declared.faults.FaultKind.{FaultKind}
use Rattle.tall_value.specs.declared.functions.Method.{Method}
use Rattle.tall_value.specs.declared.functions.Method.TheVariants.{Count}
use Rattle.tall_value.specs.Cells.{Seen}
use Rattle.tall_value.specs.Columns.{numbered, cells}
use Rattle.tall_value.specs.Elementwise.{in_front}
use Rattle.tall_value.specs.Groups.{group_keys, group_counts, group_values}

-- the values of the method, in a column of their own; no column where there is no method
abbrev pub value_columns : Method → Kind → List Seen → List Seen → Result (List (List Seen)) FaultKind
value_columns Count a keys data' = Ok []
value_columns m a keys data' = elim (group_values m a keys data') [ Ok values ↦ Ok (values ∷ []) | Err e ↦ Err e ]

-- the key, `GroupCount`, and with a method its values
abbrev pub summary_columns : Method → Kind → List Seen → List Seen → Result (List (List Seen)) FaultKind
summary_columns m a keys data' = in_front (group_keys keys) (in_front (group_counts keys) (value_columns m a keys data'))

-- a row for each group
abbrev pub of_groups : Result (List (List Seen)) FaultKind → Result (List (List (ℕ × Seen))) FaultKind
of_groups (Ok columns) = Ok (map (numbered 1) columns)
of_groups (Err e) = Err e

-- the columns that the method makes of a key and of data of a kind; with no method the data aren't looked at
abbrev pub summary : Method → Kind → List (ℕ × Seen) → List (ℕ × Seen) → Result (List (List (ℕ × Seen))) FaultKind
summary m a keys data' = of_groups (summary_columns m a (cells keys) (cells data'))
