-- The table that the groups of rows give.
use Rattle.std.specs.Prelude.{◌≡◌, ℕ, pos, codes, Option, None, Some, Result, Ok, Err, List, [], ◌∷◌, length, get_or, map, option_map, IfSome}
use Rattle.std.specs.Int.{int_max, int_min}
use Rattle.tall_clamp.specs.declared.faults.FinishFault.{FinishFault}
use Rattle.tall_clamp.specs.declared.faults.FinishFault.TheVariants as finish
use Rattle.tall_value.specs.declared.class.Class.{Class}
use Rattle.tall_value.specs.declared.class.Class.TheVariants as class
use Rattle.tall_value.specs.declared.class.Kind.{Kind}
use Rattle.tall_value.specs.declared.class.Kind.TheVariants.{Double}
use Rattle.tall_value.specs.declared.faults.FaultKind.{FaultKind}
use Rattle.tall_value.specs.declared.faults.FaultKind.TheVariants.{Inexact}
use Rattle.tall_value.specs.declared.functions.Method.{Method}
use Rattle.tall_value.specs.declared.functions.Method.TheVariants as method
use Rattle.tall_value.specs.Cells.{Seen, double}
use Rattle.tall_value.specs.Classes.{class_of}
use Rattle.tall_value.specs.Groups.{group_counts, group_data, group_keys}
use Rattle.tall_dense.specs.Columns.{SeenColumn}
use Rattle.tall_group.specs.Places.{Data}
use Rattle.tall_group.specs.States.{best_given, datum, is_missing, is_number_but_zero, native_given, native_kind, never, tally_given, total_given}
use Rattle.tall_group.specs.declared.group_columns.GroupColumns.{GroupColumns}

abbrev pub if_some : {A : Type 0} → Option A → List A
if_some (Some a) = a ∷ []
if_some None = []

-- the columns in their order
abbrev pub all_columns : GroupColumns → List SeenColumn
all_columns g = g.key ∷ g.count ∷ if_some g.value

-- the columns of a table
abbrev pub columns_in : List (List ℕ × SeenColumn) → List SeenColumn
columns_in t = map (λ e. e.1) t

-- the names of the columns in a table: counting alone has no values
abbrev pub column_names : Method → List (List ℕ)
column_names method.Count = codes "key" ∷ codes "count" ∷ []
column_names m = codes "key" ∷ codes "count" ∷ codes "value" ∷ []

abbrev pub value_named : Option SeenColumn → List (List ℕ × SeenColumn)
value_named (Some column) = (codes "value", column) ∷ []
value_named None = []

-- the columns under their names
abbrev pub named_columns : GroupColumns → List (List ℕ × SeenColumn)
named_columns g = (codes "key", g.key) ∷ (codes "count", g.count) ∷ value_named g.value

-- all columns have as many rows as the keys
abbrev pub AreEven : GroupColumns → Type 0
AreEven g = (length g.count.cells ≡ length g.key.cells) × IfSome g.value (λ c. length c.cells ≡ length g.key.cells)

-- an answer to the columns of a summary: their cells, or that a sum of doubles is inexact; want of memory answers any
abbrev pub Summarises : {A : Type 0} → (A → List SeenColumn) → Result (List (List Seen)) FaultKind → Result A FinishFault → Type 0
Summarises columns found (Ok a) = found ≡ Ok (map (λ c. c.cells) (columns a))
Summarises columns found (Err finish.Inexact) = found ≡ Err Inexact
Summarises columns found (Err finish.NoRows) = ⊥
Summarises columns found (Err finish.Memory) = Unit {0}

-- the cells of the columns
abbrev pub cells_of : GroupColumns → List (List Seen)
cells_of g = map (λ c. c.cells) (all_columns g)

-- what a method gives of the data of a kind
abbrev pub given_by : Method → Kind → Data → Option Seen
given_by method.Count = tally_given never
given_by method.Sum = total_given
given_by method.SumNative = native_given
given_by method.Min = best_given int_min
given_by method.Max = best_given int_max
given_by method.Nnz = tally_given is_number_but_zero
given_by method.Nummissing = tally_given is_missing

-- the kind of what it gives
abbrev pub kind_given_by : Method → Kind → Kind
kind_given_by method.SumNative a = native_kind a
kind_given_by method.Min a = a
kind_given_by method.Max a = a
kind_given_by m a = Double

-- all cells; none where one isn't there
abbrev pub some_in_front : Option Seen → Option (List Seen) → Option (List Seen)
some_in_front (Some c) (Some cs) = Some (c ∷ cs)
some_in_front (Some c) None = None
some_in_front None cs = None

abbrev pub all_some : List (Option Seen) → Option (List Seen)
all_some [] = Some []
all_some (c ∷ cs) = some_in_front c (all_some cs)

-- the cells of the columns from what is given of each group's data
abbrev pub columns_given : (Data → Option Seen) → List Seen → List Seen → Option (List (List Seen))
columns_given gives ks vs =
    option_map (λ xs. group_keys ks ∷ group_counts ks ∷ xs ∷ []) (all_some (map (λ key. gives (map datum (group_data key ks vs))) (group_keys ks)))

-- the same by method
abbrev pub columns_by : Method → Kind → List Seen → List Seen → Option (List (List Seen))
columns_by method.Count a ks vs = Some (group_keys ks ∷ group_counts ks ∷ [])
columns_by m a ks vs = columns_given (given_by m a) ks vs

-- their classes
abbrev pub classes_by : Method → Class → Kind → List Class
classes_by method.Count key a = key ∷ class.Double ∷ []
classes_by m key a = key ∷ class.Double ∷ class_of (kind_given_by m a) ∷ []

-- the double of the rows of a state at a place
abbrev pub count_at : {S : Type 0} → (S → ℕ) → S → List S → ℕ → Seen
count_at rows nothing states p = double (Some (pos (rows (get_or states p nothing))))

-- columns, or that a sum is inexact
abbrev pub or_inexact : {A : Type 0} → Option A → Result A FaultKind
or_inexact (Some a) = Ok a
or_inexact None = Err Inexact
