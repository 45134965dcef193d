-- The rows of a table by a key, and what a method gives of each group's data, in row order. MathWorks, groupsummary; the
-- method 'sumnative' is the project's own.
-- Groups are ascending by key; all NaN keys together are one group, last. Data that are NaN are passed over, and
-- 'nummissing' counts them.
use Rattle.std.specs.Prelude.{Bool, if◌then◌else◌, Option, None, Some, Result, Ok, Err, List, [], ◌∷◌, ◌++◌, map}
use Rattle.std.specs.List.{filter, list_any}
use Rattle.std.specs.Ordering.{is_eq}
use Rattle.tall_value.specs.declared.class.Kind.{Kind}
use Rattle.tall_value.specs.declared.faults.FaultKind.{FaultKind}
use Rattle.tall_value.specs.declared.functions.Method.{Method}
use Rattle.tall_value.specs.declared.functions.Method.TheVariants.{Count, Sum, SumNative, Min, Max, Nnz, Nummissing}
use Rattle.tall_value.specs.Cells.{Seen, double, is_nan}
use Rattle.tall_value.specs.CellOrder.{cell_order}
use Rattle.tall_value.specs.Reductions.{present, exact_total, native_total, lesser, greater, folded, count, is_nonzero}
use Rattle.tall_value.specs.Distinct.{ascending}
use Rattle.tall_value.specs.Elementwise.{in_front}

-- the keys of the groups
abbrev pub group_keys : List Seen → List Seen
group_keys keys = ascending (present keys) ++ (if list_any is_nan keys then double None ∷ [] else [])

-- NaN equals NaN here
abbrev pub is_of_group : Seen → Seen → Bool
is_of_group key c = is_eq (cell_order key c)

-- the data of the rows with the key, in order. The keys and the data are columns of one table, so equally many; of
-- unequal lengths nothing is meant here
abbrev pub group_data : Seen → List Seen → List Seen → List Seen
group_data key [] data' = []
group_data key (k ∷ keys) [] = []
group_data key (k ∷ keys) (d ∷ data') = if is_of_group key k then d ∷ group_data key keys data' else group_data key keys data'

-- the column `GroupCount`: the rows of each group
abbrev pub group_counts : List Seen → List Seen
group_counts keys = map (λ key. count (filter (is_of_group key) keys)) (group_keys keys)

abbrev pub or_nan : Option Seen → Seen
or_nan (Some c) = c
or_nan None = double None

-- what the method gives of the data of one group, of a kind
abbrev pub group_value : Method → Kind → List Seen → Result Seen FaultKind
group_value Count a cs = Ok (count cs)
group_value Sum a cs = exact_total (present cs)
group_value SumNative a cs = native_total a (present cs)
group_value Min a cs = Ok (or_nan (folded lesser (present cs)))
group_value Max a cs = Ok (or_nan (folded greater (present cs)))
group_value Nnz a cs = Ok (count (filter is_nonzero (present cs)))
group_value Nummissing a cs = Ok (count (filter is_nan cs))

-- all values, or the first fault
abbrev pub with_value : Result Seen FaultKind → Result (List Seen) FaultKind → Result (List Seen) FaultKind
with_value (Ok c) rest = in_front c rest
with_value (Err e) rest = Err e

abbrev pub all_values : List (Result Seen FaultKind) → Result (List Seen) FaultKind
all_values [] = Ok []
all_values (r ∷ rs) = with_value r (all_values rs)

-- the column of the method: a fault of one group is the fault of the whole call
abbrev pub group_values : Method → Kind → List Seen → List Seen → Result (List Seen) FaultKind
group_values m a keys data' = all_values (map (λ key. group_value m a (group_data key keys data')) (group_keys keys))
