-- The faults of map and reduce functions are those of their list.
use Rattle.std.proofs.Common.{◌≡◌, ℕ, zero, suc, List, [], ◌∷◌, ◌++◌, Bool, true, false, refl}
use Rattle.std.specs.Prelude.{ℤ, pos, ◌+ℤ◌, ◌==◌, ◌+◌, if◌then◌else◌, length, slice_get, Option, None, Some, Result, Ok, Err}
use Rattle.tall_value.specs.declared.class.Kind.{Kind}
use Rattle.tall_value.specs.declared.faults.CellFault.{CellFault}
use Rattle.tall_value.specs.declared.faults.ClassFault.{ClassFault}
use Rattle.tall_value.specs.declared.faults.ClassFault.TheVariants.{MixedClass, BadClass}
use Rattle.tall_value.specs.declared.faults.FaultKind.{FaultKind}
use Rattle.tall_value.specs.declared.class.Class.{Class}
use Rattle.tall_value.specs.declared.functions.Method.{Method}
use Rattle.tall_value.specs.declared.functions.Method.TheVariants as method
use Rattle.tall_value.specs.declared.operators.Binary.{Binary}
use Rattle.tall_value.specs.declared.operators.Unary.{Unary}
use Rattle.tall_value.specs.declared.class.Kind.TheVariants.{Logical}
use Rattle.tall_value.specs.Cells.{Seen, whole, logical, double, text, seen_kind}
use Rattle.tall_value.specs.CellOperators.{unary_cell, binary_cell, truth}
use Rattle.tall_value.specs.ClassTables.{unary_kind, binary_kind, of_number}
use Rattle.tall_value.specs.Columns.{numbered}
use Rattle.tall_value.specs.Elementwise.{unary_rows, binary_rows, scalar_rows}
use Rattle.tall_value.specs.GroupSummary.{summary_columns}
use Rattle.tall_value.specs.Index.{cell_at}
use Rattle.tall_value.specs.Reductions.{reduced}
use Rattle.tall_value.specs.Scans.{scanned}
use Rattle.tall_value.specs.SummaryNames.{summary_names}
use Rattle.tall_value.specs.FunctionClasses.{summary_classes, reduction_kind, scan_kind}
use Rattle.tall_column.specs.Columns.{SeenColumn, rows_kept}
use Rattle.tall_column.specs.Tables.{column_named, height_of}
use Rattle.tall_grammar.specs.declared.expressions.Infix.{Infix}
use Rattle.tall_value.specs.Names.{are_distinct}
use Rattle.tall_grammar.specs.Refusals.{line_of}
use Rattle.tall_grammar.specs.Trees.{Tree, Step, assign_step, add_step, if_step, while_step, for_step, Steps, no_steps, and_step, Arms, no_arms, and_arm, SeenFunction}
use Rattle.tall_local.specs.declared.functions.LocalFunction.{LocalFunction}
use Rattle.tall_local.specs.declared.functions.LocalFunction.TheVariants.{OfValues, HasNext, GetNext, Elsewhere}
use Rattle.tall_local.specs.declared.functions.ValueFunction.{ValueFunction}
use Rattle.tall_local.specs.Names.{each_named}
use Rattle.tall_local.specs.Applications.{Operation, reduce, height, scan, head, tail, distinct, groups, unary, Application, constant, to_one, to_two, application, takes}
use Rattle.tall_local.specs.Arguments.{Argument, value_given, Index, rows_at, all_variables_at, index_of}
use Rattle.tall_local.specs.Calls.{Ran, ends, breaks, and_run, or_break, turn_limit, truth_of, bounds_of, turns_between, assigned, pairs_with, takes_from_iterator, begin_turn, end_turn, where_holds, while_turns, for_turns, local_value, with_local, run_step, run_steps, run_arms, result_of, parameters, call_of}
use Rattle.tall_local.specs.Constants.{constant_named}
use Rattle.tall_local.specs.Expressions.{Valued, gives, stops, answered}
use Rattle.tall_local.specs.FunctionFaults.{is_of_functions, IsOfFunctions, OnRefused, OnStopped}
use Rattle.tall_local.specs.Lists.{all_of}
use Rattle.tall_local.specs.Locals.{Held, store, iterator, no_value, Locals, set_local, read_local, with_memory, is_held_scalar, held_binary, held_infix, held_index, held_values, held_function, held_call, is_only_iterator, next_value, argument_by, memory_of, memories_of, function_language}
use Rattle.tall_local.specs.Locals as held
use Rattle.tall_local.specs.Memory.{Memory, scalar, column, table, texts, scalar_in, kind_of_column}
use Rattle.tall_local.specs.MemoryFunctions.{memory_reduce, memory_height, memory_scan, memory_rows, memory_distinct, variable_named, memory_summary, memory_groups, memory_operation, memory_application, total_result, summary_result, with_classes, if_distinct}
use Rattle.tall_local.specs.MemoryIndexing.{is_logical, memory_masked, memory_column_index, memory_table_index, memory_index, memory_member, indexed_cell}
use Rattle.tall_local.specs.MemoryOperators.{with_kind, scalar_result, column_result, memory_unary, if_equal_lengths, memory_binary, memory_prefix, binary_of, unary_of, scalars_fit}
use Rattle.tall_local.specs.Pairs.{Pair, judged, misfit, added}
use Rattle.tall_local.specs.Refusals.{Refusal, undefined, bad_class, bad_size, bad_argument, and_then, or_refuse, refused_cell}
use Rattle.tall_local.proofs.StopsKept.{value_stops}

abbrev Is : Refusal → Type 0
Is e = is_of_functions e ≡ true

abbrev Well : {A : Type 0} → Result A Refusal → Type 0
Well r = OnRefused Is r

-- ---- parts

after : {A B : Type 0} (r : Result A Refusal) (f : A → Result B Refusal) → Well r → ((a : A) → Well (f a)) → Well (and_then r f)
after (Ok a) f h k = k a
after (Err e) f h k = h

present : {A : Type 0} (e : Refusal) (o : Option A) → Is e → Well (or_refuse e o)
present e (Some a) h = tt
present e None h = h

either : {A : Type 0} (b : Bool) (q r : Result A Refusal) → Well q → Well r → Well (if b then q else r)
either true q r h k = h
either false q r h k = k

of_kind : {A : Type 0} (r : Result Kind ClassFault) (f : Kind → Result A Refusal) → ((k : Kind) → Well (f k)) → Well (with_kind r f)
of_kind (Ok k) f h = h k
of_kind (Err MixedClass) f h = refl
of_kind (Err BadClass) f h = refl

of_classes : {A : Type 0} (r : Result (List Class) ClassFault) (f : List Class → Result A Refusal) → ((cs : List Class) → Well (f cs)) → Well (with_classes r f)
of_classes (Ok cs) f h = h cs
of_classes (Err MixedClass) f h = refl
of_classes (Err BadClass) f h = refl

a_cell : (r : Result Seen CellFault) → Well (scalar_result r)
a_cell (Ok c) = tt
a_cell (Err e) = refl

a_column : (k : Kind) (r : Result (List (ℕ × Seen)) (ℕ × CellFault)) → Well (column_result k r)
a_column k (Ok rows) = tt
a_column k (Err e) = refl

a_total : (r : Result Seen FaultKind) → Well (total_result r)
a_total (Ok c) = tt
a_total (Err e) = refl

-- of the class of a result, and then of its cells
cell_of : (r : Result Kind ClassFault) (s : Result Seen CellFault) → Well (with_kind r (λ k. scalar_result s))
cell_of r s = of_kind r (λ k. scalar_result s) (λ k. a_cell s)

column_of : (r : Result Kind ClassFault) (s : Result (List (ℕ × Seen)) (ℕ × CellFault)) → Well (with_kind r (λ k. column_result k s))
column_of r s = of_kind r (λ k. column_result k s) (λ k. a_column k s)

total_of : (r : Result Kind ClassFault) (s : Result Seen FaultKind) → Well (with_kind r (λ k. total_result s))
total_of r s = of_kind r (λ k. total_result s) (λ k. a_total s)

-- ---- operators

pub unary_faults : (op : Unary) (v : Memory) → Well (memory_unary op v)
unfolding memory_unary
unary_faults op (scalar c) = cell_of (unary_kind op (seen_kind c)) (unary_cell op c)
unary_faults op (column x) = column_of (unary_kind op (kind_of_column x)) (unary_rows op (numbered 1 x.cells))
unary_faults op (table t) = refl
unary_faults op (texts ts) = refl

pub binary_faults : (op : Binary) (v w : Memory) → Well (memory_binary op v w)
unfolding memory_binary
binary_faults op (scalar c) (scalar d) = cell_of (binary_kind op (seen_kind c) true (seen_kind d) true) (binary_cell op c d)
binary_faults op (scalar c) (column y) = column_of (binary_kind op (seen_kind c) true (kind_of_column y) false) (scalar_rows op true c (numbered 1 y.cells))
binary_faults op (scalar c) (table t) = refl
binary_faults op (scalar c) (texts ts) = refl
binary_faults op (column x) (scalar d) = column_of (binary_kind op (kind_of_column x) false (seen_kind d) true) (scalar_rows op false d (numbered 1 x.cells))
binary_faults op (column x) (column y) =
    let rows = binary_rows op (numbered 1 x.cells) (numbered 1 y.cells) in
    of_kind (binary_kind op (kind_of_column x) false (kind_of_column y) false) (λ k. if_equal_lengths x y (column_result k rows))
    (λ k. either (length x.cells == length y.cells) (column_result k rows) (Err bad_size) (a_column k rows) refl)
binary_faults op (column x) (table t) = refl
binary_faults op (column x) (texts ts) = refl
binary_faults op (table t) w = refl
binary_faults op (texts ts) w = refl

prefixed : (op : _) (v : Memory) → Well (memory_prefix op v)
unfolding memory_prefix
prefixed op v = unary_faults (unary_of op) v

-- ---- indexes

at_cell : (c : Option Seen) → Well (indexed_cell c)
at_cell (Some c) = tt
at_cell None = refl

column_indexed : (x : SeenColumn) (i : Memory) → Well (memory_column_index x i)
column_indexed x (column mask) =
    either (is_logical mask.class) (memory_masked x mask) (Err bad_argument)
    (either (length x.cells == length mask.cells) (Ok (column (rows_kept x mask))) (Err bad_size) tt refl) refl
column_indexed x (scalar (double k)) = at_cell (cell_at k x.cells)
column_indexed x (scalar (whole k n)) = refl
column_indexed x (scalar (logical b)) = refl
column_indexed x (scalar (text t)) = refl
column_indexed x (table t) = refl
column_indexed x (texts ts) = refl

table_indexed : (t : List (List ℕ × SeenColumn)) (i : Memory) → Well (memory_table_index t i)
table_indexed t (column mask) =
    let rows : Result Memory Refusal = Ok (table (each_named (λ x. rows_kept x mask) t)) in
    either (is_logical mask.class) (if height_of t == length mask.cells then rows else Err bad_size) (Err bad_argument)
    (either (height_of t == length mask.cells) rows (Err bad_size) tt refl) refl
table_indexed t (scalar c) = refl
table_indexed t (table u) = refl
table_indexed t (texts ts) = refl

indexed : (v : Memory) (i : Option (Index Memory)) → Well (memory_index v i)
unfolding memory_index
indexed (column x) (Some (rows_at i)) = column_indexed x i
indexed (column x) (Some (all_variables_at i)) = refl
indexed (column x) None = refl
indexed (table t) (Some (rows_at i)) = refl
indexed (table t) (Some (all_variables_at i)) = table_indexed t i
indexed (table t) None = refl
indexed (scalar c) i = refl
indexed (texts ts) i = refl

a_member : (v : Memory) (name : List ℕ) → Well (memory_member v name)
unfolding memory_member
a_member (table t) name = there (column_named name t) where
  there : (o : Option SeenColumn) → Well (elim o [ Some x ↦ Ok (column x) | None ↦ Err (undefined name) ])
  there (Some x) = tt
  there None = refl
a_member (scalar c) name = refl
a_member (column x) name = refl
a_member (texts ts) name = refl

-- ---- functions of values

a_reduction : (r : _) (v : Memory) → Well (memory_reduce r v)
a_reduction r (scalar c) = total_of (reduction_kind r (seen_kind c)) (reduced r (seen_kind c) (c ∷ []))
a_reduction r (column x) = total_of (reduction_kind r (kind_of_column x)) (reduced r (kind_of_column x) x.cells)
a_reduction r (table t) = refl
a_reduction r (texts ts) = refl

some_rows : (f : List Seen → List Seen) (v : Memory) → Well (memory_rows f v)
some_rows f (scalar c) = refl
some_rows f (column x) = tt
some_rows f (table t) = tt
some_rows f (texts ts) = refl

summarised : (names : List (List ℕ)) (cs : List Class) (r : Result (List (List Seen)) FaultKind) → Well (summary_result names cs r)
summarised names cs (Ok columns) = tt
summarised names cs (Err kind) = refl

a_summary : (m : Method) (names : List (List ℕ)) (g v : SeenColumn) → Well (memory_summary m names g v)
a_summary m names g v =
    let columns = summary_columns m (kind_of_column v) g.cells v.cells in
    of_classes (summary_classes m g.class v.class) (λ cs. if_distinct names (summary_result names cs columns))
    (λ cs. either (are_distinct names) (summary_result names cs columns) (Err bad_argument) (summarised names cs columns) refl)

a_variable : (t : List (List ℕ × SeenColumn)) (name : List ℕ) → Well (variable_named t name)
a_variable t name = present (undefined name) (column_named name t) refl

of_data : (t : List (List ℕ × SeenColumn)) (key value : List ℕ) (m : Method) (names : List (List ℕ))
    → Well (and_then (variable_named t key) (λ g. and_then (variable_named t value) (memory_summary m names g)))
of_data t key value m names = after (variable_named t key) _ (a_variable t key) (λ g. after (variable_named t value) _ (a_variable t value) (λ v. a_summary m names g v))

grouped : (v : Memory) (key : List ℕ) (m : Method) (value : List ℕ) → Well (memory_groups v key m value)
grouped (table t) key method.Count value = after (variable_named t key) _ (a_variable t key) (λ g. a_summary method.Count (summary_names method.Count key value) g g)
grouped (table t) key method.Sum value = of_data t key value method.Sum (summary_names method.Sum key value)
grouped (table t) key method.SumNative value = of_data t key value method.SumNative (summary_names method.SumNative key value)
grouped (table t) key method.Min value = of_data t key value method.Min (summary_names method.Min key value)
grouped (table t) key method.Max value = of_data t key value method.Max (summary_names method.Max key value)
grouped (table t) key method.Nnz value = of_data t key value method.Nnz (summary_names method.Nnz key value)
grouped (table t) key method.Nummissing value = of_data t key value method.Nummissing (summary_names method.Nummissing key value)
grouped (scalar c) key m value = refl
grouped (column x) key m value = refl
grouped (texts ts) key m value = refl

a_height : (v : Memory) → Well (memory_height v)
a_height (table t) = tt
a_height (scalar c) = refl
a_height (column x) = refl
a_height (texts ts) = refl

a_scan : (s : _) (v : Memory) → Well (memory_scan s v)
a_scan s (scalar c) = refl
a_scan s (column x) = column_of (scan_kind s (kind_of_column x)) (scanned s (kind_of_column x) (numbered 1 x.cells))
a_scan s (table t) = refl
a_scan s (texts ts) = refl

all_distinct : (v : Memory) → Well (memory_distinct v)
all_distinct (scalar c) = refl
all_distinct (column x) = tt
all_distinct (table t) = refl
all_distinct (texts ts) = refl

an_operation : (o : Operation) (v : Memory) → Well (memory_operation o v)
an_operation (reduce r) v = a_reduction r v
an_operation height v = a_height v
an_operation (scan s) v = a_scan s v
an_operation (head k) v = some_rows _ v
an_operation (tail k) v = some_rows _ v
an_operation distinct v = all_distinct v
an_operation (groups key m value) v = grouped v key m value
an_operation (unary op) v = unary_faults op v

applied : (a : Application Memory) → Well (memory_application a)
unfolding memory_application
applied (constant c) = tt
applied (to_one o v) = an_operation o v
applied (to_two op v w) = binary_faults op v w

-- ---- in functions

kept_in_memory : (r : Result Memory Refusal) → Well r → Well (held.held r)
kept_in_memory (Ok v) h = tt
kept_in_memory (Err e) h = h

with_a_memory : (h : Held) (f : Memory → Result Memory Refusal) → ((v : Memory) → Well (f v)) → Well (with_memory h f)
with_a_memory (held.value v) f k = kept_in_memory (f v) (k v)
with_a_memory store f k = refl
with_a_memory iterator f k = refl
with_a_memory no_value f k = refl

two_held : (op : Infix) (v w : Held) → Well (held_binary op v w)
two_held op (held.value v) (held.value w) = kept_in_memory _ (binary_faults (binary_of op) v w)
two_held op (held.value v) store = refl
two_held op (held.value v) iterator = refl
two_held op (held.value v) no_value = refl
two_held op store w = refl
two_held op iterator w = refl
two_held op no_value w = refl

an_infix : (op : Infix) (v w : Held) → Well (held_infix op v w)
unfolding held_infix
an_infix op v w = either (scalars_fit op (is_held_scalar v) (is_held_scalar w)) (held_binary op v w) (Err bad_argument) (two_held op v w) refl

an_index : (h : Held) (args : List (Argument Held)) → Well (held_index h args)
unfolding held_index
an_index h args =
    with_a_memory h _ (λ v. after (or_refuse bad_class (all_of (argument_by memory_of) args)) _ (present bad_class (all_of (argument_by memory_of) args) refl) (λ given. indexed v (index_of given)))

of_values : (f : ValueFunction) (hs : List Held) → Well (held_values f hs)
of_values f hs =
    either (takes f (length hs)) (and_then (or_refuse bad_class (memories_of hs)) (λ vs. and_then (or_refuse bad_argument (application scalar_in f vs)) memory_application)) (Err bad_argument)
    (after (or_refuse bad_class (memories_of hs)) _ (present bad_class (memories_of hs) refl)
    (λ vs. after (or_refuse bad_argument (application scalar_in f vs)) memory_application (present bad_argument (application scalar_in f vs) refl) (λ a. applied a))) refl

a_function : (f : ValueFunction) (args : List (Argument Held)) → Well (held_function f args)
unfolding held_function
a_function f args =
    kept_in_memory _ (after (or_refuse bad_argument (all_of value_given args)) _ (present bad_argument (all_of value_given args) refl) (λ hs. of_values f hs))

a_constant : (name : List ℕ) (c : Option Seen) → Well (elim c [ Some d ↦ Ok (held.value (scalar d)) | None ↦ Err (undefined name) ])
a_constant name (Some c) = tt
a_constant name None = refl

a_name : (name : List ℕ) (h : Option Held) → Well (read_local name h)
a_name name (Some (held.value v)) = tt
a_name name (Some store) = tt
a_name name (Some iterator) = tt
a_name name (Some no_value) = refl
a_name name None = a_constant name (constant_named name)

an_answer : (line : ℕ) (s : Locals) (r : Result Held Refusal) → Well r → OnStopped Is (answered line s r)
an_answer line s (Ok v) h = tt
an_answer line s (Err e) h = h

choice : {V : Type 0} (b : Bool) (v w : Valued V Locals) → OnStopped Is v → OnStopped Is w → OnStopped Is (if b then v else w)
choice true v w h k = h
choice false v w h k = k

a_next : (line : ℕ) (c : Option Seen) (s : Locals) → OnStopped Is (next_value line c s)
a_next line (Some c) s = tt
a_next line None s = refl

a_call : (key_values : List Seen) (line : ℕ) (f : LocalFunction) (args : List (Argument Held)) (s : Locals) → OnStopped Is (held_call key_values line f args s)
unfolding held_call
a_call key_values line (OfValues f) args s = an_answer line s (held_function f args) (a_function f args)
a_call key_values line HasNext args s = choice (is_only_iterator args) _ _ tt refl
a_call key_values line GetNext args s = choice (is_only_iterator args) _ _ (a_next line (slice_get key_values s.given) s) refl
a_call key_values line Elsewhere args s = refl

pub expression_faults : (key_values : List Seen) (e : Tree) (s : Locals) → OnStopped Is (local_value key_values e s)
expression_faults key_values e s =
    value_stops (function_language key_values) Is (λ x. refl) (λ x. refl) (λ t x. a_name x _) (λ n l op h. with_a_memory h _ (prefixed op)) (λ n l op v w. an_infix op v w)
    (λ h x. with_a_memory h _ (λ v. a_member v x)) (λ n l h args. an_index h args) (λ n l f args t. a_call key_values l f args t) e s

-- ---- statements

abbrev Runs : Ran → Type 0
Runs r = IsOfFunctions (result_of r).stop

then_runs : (r : Ran) (f : Locals → Ran) → Runs r → ((s : Locals) → Runs (f s)) → Runs (and_run r f)
then_runs (ends s) f h k = k s
then_runs (breaks stop s) f h k = h

or_breaks : {A : Type 0} (line : ℕ) (s : Locals) (r : Result A Refusal) (f : A → Ran) → Well r → ((a : A) → Runs (f a)) → Runs (or_break line s r f)
or_breaks line s (Ok a) f h k = k a
or_breaks line s (Err e) f h k = h

chosen : (b : Bool) (q r : Ran) → Runs q → Runs r → Runs (elim b [ true ↦ q | false ↦ r ])
chosen true q r h k = h
chosen false q r h k = k

of_cell : (r : Result Bool CellFault) → Well (elim r [ Ok b ↦ Ok b | Err e ↦ Err (refused_cell None e) ])
of_cell (Ok b) = tt
of_cell (Err e) = refl

a_truth : (h : Held) → Well (truth_of h)
a_truth (held.value (scalar c)) =
    of_kind (of_number (seen_kind c) Logical) (λ k. elim (truth c) [ Ok b ↦ Ok b | Err e ↦ Err (refused_cell None e) ]) (λ k. of_cell (truth c))
a_truth (held.value (column x)) = of_kind {A = Bool} (of_number (kind_of_column x) Logical) (λ k. Err bad_size) (λ k. refl)
a_truth (held.value (table t)) = refl
a_truth (held.value (texts ts)) = refl
a_truth store = refl
a_truth iterator = refl
a_truth no_value = refl

assigns : (line : ℕ) (name : List ℕ) (h : Held) (s : Locals) → Runs (assigned line name h s)
assigns line name (held.value v) s = tt
assigns line name store s = refl
assigns line name iterator s = refl
assigns line name no_value s = refl

-- ---- adding

abbrev IsNone : Option Refusal → Type 0
IsNone None = Unit {0}
IsNone (Some e) = Is e

judgement : (k v r : Bool) → IsNone (judged k v r)
judgement true true true = tt
judgement true true false = refl
judgement true false r = refl
judgement false v r = refl

one_pair : (ps : List Pair) (p : Pair) (m : Option Refusal) → IsNone m → Well (elim m [ None ↦ Ok (ps ++ p ∷ []) | Some refusal ↦ Err refusal ])
one_pair ps p None h = tt
one_pair ps p (Some e) h = h

adds : (line : ℕ) (ps : List Pair) (k v : Memory) → Well (added line ps k v)
adds line ps (scalar c) (scalar d) = let p : Pair = record { key = c; value = d; line = line } in one_pair ps p (misfit ps p) (judgement _ _ _)
adds line ps (scalar c) (column x) = refl
adds line ps (scalar c) (table t) = refl
adds line ps (scalar c) (texts ts) = refl
adds line ps (column x) v = refl
adds line ps (table t) v = refl
adds line ps (texts ts) v = refl

adds_values : (line : ℕ) (ps : List Pair) (k v : Held) → Well (pairs_with line ps store k v)
adds_values line ps (held.value k) (held.value v) = adds line ps k v
adds_values line ps (held.value k) store = refl
adds_values line ps (held.value k) iterator = refl
adds_values line ps (held.value k) no_value = refl
adds_values line ps store v = refl
adds_values line ps iterator v = refl
adds_values line ps no_value v = refl

adds_to : (line : ℕ) (ps : List Pair) (x k v : Held) → Well (pairs_with line ps x k v)
adds_to line ps store k v = adds_values line ps k v
adds_to line ps (held.value x) k v = refl
adds_to line ps iterator k v = refl
adds_to line ps no_value k v = refl

-- ---- bounds

last_bound : (a : Option ℤ) (y : Held) → Well (bounds_of (held.value (scalar (double a))) y)
last_bound (Some a) (held.value (scalar (double (Some b)))) = tt
last_bound (Some a) (held.value (scalar (double None))) = refl
last_bound (Some a) (held.value (scalar (whole k n))) = refl
last_bound (Some a) (held.value (scalar (logical b))) = refl
last_bound (Some a) (held.value (scalar (text t))) = refl
last_bound (Some a) (held.value (column x)) = refl
last_bound (Some a) (held.value (table t)) = refl
last_bound (Some a) (held.value (texts ts)) = refl
last_bound (Some a) store = refl
last_bound (Some a) iterator = refl
last_bound (Some a) no_value = refl
last_bound None (held.value (scalar (double b))) = refl
last_bound None (held.value (scalar (whole k n))) = refl
last_bound None (held.value (scalar (logical b))) = refl
last_bound None (held.value (scalar (text t))) = refl
last_bound None (held.value (column x)) = refl
last_bound None (held.value (table t)) = refl
last_bound None (held.value (texts ts)) = refl
last_bound None store = refl
last_bound None iterator = refl
last_bound None no_value = refl

two_bounds : (x y : Held) → Well (bounds_of x y)
two_bounds (held.value (scalar (double a))) y = last_bound a y
two_bounds (held.value (scalar (whole k n))) y = refl
two_bounds (held.value (scalar (logical b))) y = refl
two_bounds (held.value (scalar (text t))) y = refl
two_bounds (held.value (column x)) y = refl
two_bounds (held.value (table t)) y = refl
two_bounds (held.value (texts ts)) y = refl
two_bounds store y = refl
two_bounds iterator y = refl
two_bounds no_value y = refl

-- ---- loops

begins : (line : ℕ) (s : Locals) (f : Locals → Ran) → ((t : Locals) → Runs (f t)) → Runs (begin_turn line s f)
begins line s f k = chosen (s.turns + 1 == turn_limit) _ _ refl (k _)

an_end : (line : ℕ) (waits : Bool) (given : ℕ) (s : Locals) (f : Locals → Ran) → Runs (f s) → Runs (end_turn line waits given s f)
an_end line true given s f k = chosen (s.given == given) _ _ refl k
an_end line false given s f k = k

holds_so : (line : ℕ) (v : Valued Held Locals) (f : Locals → Ran) → OnStopped Is v → ((t : Locals) → Runs (f t)) → Runs (where_holds line v f)
holds_so line (stops stop s) f h k = h
holds_so line (gives x t) f h k = or_breaks line t (truth_of x) _ (a_truth x) (λ b. chosen b _ _ (k t) tt)

whiles : (n line : ℕ) (condition : Tree) (test : Locals → Valued Held Locals) (body : Locals → Ran) → ((t : Locals) → OnStopped Is (test t))
    → ((t : Locals) → Runs (body t)) → (s : Locals) → Runs (while_turns n line condition test body s)
whiles zero line condition test body h k s = refl
whiles (suc n) line condition test body h k s =
    holds_so line (test s) _ (h s) (λ t. begins line t _ (λ u. then_runs (body u) _ (k u) (λ v.
    an_end line (takes_from_iterator condition u) u.given v (while_turns n line condition test body) (whiles n line condition test body h k v))))

fors : (n line : ℕ) (name : List ℕ) (k : ℤ) (body : Locals → Ran) → ((t : Locals) → Runs (body t)) → (s : Locals) → Runs (for_turns n line name k body s)
fors zero line name k body h s = tt
fors (suc n) line name k body h s = begins line s _ (λ t. then_runs (body (set_local name (scalar (double (Some k))) t)) _ (h _) (λ u. fors n line name (k +ℤ pos 1) body h u))

-- ---- statements

module _ (key_values : List Seen) where
  with_valued : (v : Valued Held Locals) (f : Held → Locals → Ran) → OnStopped Is v → ((h : Held) (t : Locals) → Runs (f h t))
      → Runs (elim v [ gives h t ↦ f h t | stops stop t ↦ breaks stop t ])
  with_valued (gives h t) f i k = k h t
  with_valued (stops stop t) f i k = i

  with_a_local : (e : Tree) (s : Locals) (f : Held → Locals → Ran) → ((h : Held) (t : Locals) → Runs (f h t)) → Runs (with_local key_values e s f)
  with_a_local e s f k = with_valued (local_value key_values e s) f (expression_faults key_values e s) k

  mutual
    step_runs : (b : Step) (s : Locals) → Runs (run_step key_values b s)
    step_runs (assign_step line name e) s = with_a_local e s _ (λ h t. assigns line name h t)
    step_runs (add_step line x key v) s =
        with_a_local x s _ (λ a t. with_a_local key t _ (λ b u. with_a_local v u _ (λ c w. or_breaks line w (pairs_with line w.pairs a b c) _ (adds_to line w.pairs a b c) (λ ps. tt))))
    step_runs (if_step line arms rest) s = arms_run arms (λ t. run_steps key_values rest t) (λ t. steps_run rest t) s
    step_runs (while_step line e b) s = whiles turn_limit line e (local_value key_values e) (λ t. run_steps key_values b t) (λ t. expression_faults key_values e t) (λ t. steps_run b t) s
    step_runs (for_step line name a z b) s =
        with_a_local a s _ (λ x t. with_a_local z t _ (λ y u. or_breaks line u (bounds_of x y) _ (two_bounds x y)
        (λ bounds. fors (turns_between bounds.0 bounds.1) line name bounds.0 (λ w. run_steps key_values b w) (λ w. steps_run b w) u)))

    steps_run : (bs : Steps) (s : Locals) → Runs (run_steps key_values bs s)
    steps_run no_steps s = tt
    steps_run (and_step b bs) s = then_runs (run_step key_values b s) _ (step_runs b s) (λ t. steps_run bs t)

    arms_run : (arms : Arms) (rest : Locals → Ran) → ((t : Locals) → Runs (rest t)) → (s : Locals) → Runs (run_arms key_values arms rest s)
    arms_run no_arms rest h s = h s
    arms_run (and_arm e b arms) rest h s =
        with_a_local e s _ (λ x t. or_breaks (line_of e) t (truth_of x) _ (a_truth x) (λ holds. chosen holds _ _ (steps_run b t) (arms_run arms rest h t)))

pub call_faults : (f : SeenFunction) (arguments : List Held) (key_values : List Seen) (pairs : List Pair) → IsOfFunctions (call_of f arguments key_values pairs).stop
call_faults f arguments key_values pairs = steps_run key_values f.body (record { names = parameters f.params arguments []; given = 0; turns = 0; pairs = pairs })
