-- What is made of values in memory can be held in columns and tables.
use Rattle.std.proofs.Common.{◌≡◌, ℕ, zero, suc, List, [], ◌∷◌, Bool, true, false, refl, ap, sym, ◌∙◌, subst, arith}
use Rattle.std.proofs.lemmas.List.{length-map}
use Rattle.std.proofs.lemmas.List.Elements.{All-nil, All-head, All-tail, All-cons, All-take, All-drop}
use Rattle.std.specs.Prelude.{if◌then◌else◌, ◌==◌, ◌+◌, ◌-◌, length, map, take, drop, Option, None, Some, Result, Ok, Err}
use Rattle.std.specs.List.{All}
use Rattle.std.specs.Str.{bytes_eq}
use Rattle.tall_value.specs.declared.class.Class.{Class}
use Rattle.tall_value.specs.declared.class.Kind.{Kind}
use Rattle.tall_value.specs.declared.class.Kind.TheVariants.{Double}
use Rattle.tall_value.specs.declared.faults.CellFault.{CellFault}
use Rattle.tall_value.specs.declared.faults.ClassFault.{ClassFault}
use Rattle.tall_value.specs.declared.faults.FaultKind.{FaultKind}
use Rattle.tall_value.specs.declared.functions.Method.{Method}
use Rattle.tall_value.specs.declared.functions.Method.TheVariants as method
use Rattle.tall_value.specs.declared.functions.Scan.{Scan}
use Rattle.tall_value.specs.declared.operators.Binary.{Binary}
use Rattle.tall_value.specs.declared.operators.Unary.{Unary}
use Rattle.tall_value.specs.Cells.{Seen, seen_kind, whole, logical, double, text}
use Rattle.tall_value.specs.Classes.{class_of, kind_of}
use Rattle.tall_value.specs.ClassTables.{unary_kind, binary_kind}
use Rattle.tall_value.specs.Columns.{HasKind, RowHasKind, cells, numbered}
use Rattle.tall_value.specs.Elementwise.{in_front, unary_rows, binary_rows, scalar_rows}
use Rattle.tall_value.specs.Ends.{first_rows, last_rows}
use Rattle.tall_value.specs.Filters.{is_true, kept}
use Rattle.tall_value.specs.FunctionClasses.{method_kind, scan_kind, reduction_kind, class_results, summary_kinds, summary_classes}
use Rattle.tall_value.specs.GroupKinds.{HaveKinds}
use Rattle.tall_value.specs.Groups.{group_keys, group_counts, group_data, group_value, group_values, all_values, with_value}
use Rattle.tall_value.specs.GroupSummary.{summary_columns}
use Rattle.tall_value.specs.Reductions.{reduced}
use Rattle.tall_value.specs.Scans.{scanned}
use Rattle.tall_value.specs.Index.{cell_at}
use Rattle.tall_value.specs.CellOperators.{unary_cell, binary_cell}
use Rattle.tall_value.specs.SummaryNames.{summary_names}
use Rattle.tall_local.proofs.TableNames.{distinct_each, distinct_paired}
use Rattle.tall_value.proofs.KindLaws.{kind_again, same_ok}
use Rattle.tall_value.proofs.FunctionLaws.{unary_rows_kind, binary_rows_kind, scalar_left_kind, scalar_right_kind, scanned_kind, distinct_kind}
use Rattle.tall_value.proofs.GroupLaws.{summary_kind}
use Rattle.tall_column.specs.Columns.{SeenColumn, rows_kept}
use Rattle.tall_column.specs.Tables.{column_named, height_of, HasHeight, IsTable}
use Rattle.tall_value.specs.Names.{are_distinct}
use Rattle.tall_local.specs.Applications.{Operation, reduce, height, scan, head, tail, distinct, groups, unary, Application, constant, to_one, to_two}
use Rattle.tall_local.specs.Arguments.{Index, rows_at, all_variables_at}
use Rattle.tall_local.specs.Memory.{Memory, scalar, column, table, texts, kind_of_column}
use Rattle.tall_local.specs.MemoryFunctions.{total_result, memory_reduce, memory_height, memory_scan, with_cells, memory_rows, memory_distinct, variable_named, paired, if_distinct, columns_of, summary_result, with_classes, memory_summary, memory_groups, memory_operation, memory_application}
use Rattle.tall_local.specs.MemoryIndexing.{is_logical, indexed_cell, memory_masked, memory_column_index, memory_table_index, memory_index, memory_member}
use Rattle.tall_local.specs.MemoryLaws.{HasItsClass, HaveTheirClasses, CanBeHeld, OnGiven, OperandsCanBeHeld, IsTableOf}
use Rattle.tall_local.specs.MemoryOperators.{with_kind, scalar_result, column_result, memory_unary, if_equal_lengths, memory_binary}
use Rattle.tall_local.specs.Names.{each_named}
use Rattle.tall_local.specs.Refusals.{Refusal, undefined, bad_argument, bad_size, and_then, or_refuse}

abbrev pub Given : Result Memory Refusal → Type 0
Given r = OnGiven CanBeHeld r

abbrev kind_ok : Kind → Result Kind ClassFault
kind_ok k = Ok k

abbrev rows_ok : List (ℕ × Seen) → Result (List (ℕ × Seen)) (ℕ × CellFault)
rows_ok rs = Ok rs

-- ---- parts

of_kind : (r : Result Kind ClassFault) (f : Kind → Result Memory Refusal) → ((k : Kind) → r ≡ kind_ok k → Given (f k)) → Given (with_kind r f)
of_kind (Ok k) f h = h k refl
of_kind (Err e) f h = tt

a_cell : (r : Result Seen CellFault) → Given (scalar_result r)
a_cell (Ok c) = tt
a_cell (Err e) = tt

cells_of : (k : Kind) (rs : List (ℕ × Seen)) → All (RowHasKind k) rs → All (HasKind k) (cells rs)
cells_of k [] h = All-nil (HasKind k)
cells_of k (r ∷ rs) h = All-cons (HasKind k) r.1 (cells rs) (All-head (RowHasKind k) r rs h) (cells_of k rs (All-tail (RowHasKind k) r rs h))

rows_of : (k : Kind) (n : ℕ) (cs : List Seen) → All (HasKind k) cs → All (RowHasKind k) (numbered n cs)
rows_of k n [] h = All-nil (RowHasKind k)
rows_of k n (c ∷ cs) h = All-cons (RowHasKind k) (n, c) (numbered (n + 1) cs) (All-head (HasKind k) c cs h) (rows_of k (n + 1) cs (All-tail (HasKind k) c cs h))

of_class : (k : Kind) (cs : List Seen) → All (HasKind k) cs → All (HasKind (kind_of (class_of k))) cs
of_class k cs h = subst (λ j. All (HasKind j) cs) (sym (kind_again k)) h

a_column : (k : Kind) (r : Result (List (ℕ × Seen)) (ℕ × CellFault)) → ((outs : List (ℕ × Seen)) → r ≡ rows_ok outs → All (RowHasKind k) outs) → Given (column_result k r)
a_column k (Ok outs) h = of_class k (cells outs) (cells_of k outs (h outs refl))
a_column k (Err e) h = tt

either : (b : Bool) (q r : Result Memory Refusal) → Given q → Given r → Given (if b then q else r)
either true q r h k = h
either false q r h k = k

-- where the test holds; else it is refused
where_so : (b : Bool) (q r : Result Memory Refusal) → (b ≡ true → Given q) → Given r → Given (if b then q else r)
where_so true q r h k = h refl
where_so false q r h k = k

-- ---- operators

pub unary_held : (op : Unary) (v : Memory) → CanBeHeld v → Given (memory_unary op v)
unfolding memory_unary
unary_held op (scalar c) h = of_kind (unary_kind op (seen_kind c)) (λ k. scalar_result (unary_cell op c)) (λ k e. a_cell (unary_cell op c))
unary_held op (column x) h =
    let rows = unary_rows op (numbered 1 x.cells) in
    of_kind (unary_kind op (kind_of_column x)) (λ k. column_result k rows) (λ k e. a_column k rows (λ outs z. unary_rows_kind op (kind_of_column x) k (numbered 1 x.cells) outs (rows_of (kind_of_column x) 1 x.cells h) e z))
unary_held op (table t) h = tt
unary_held op (texts ts) h = tt

pub binary_held : (op : Binary) (v w : Memory) → CanBeHeld v → CanBeHeld w → Given (memory_binary op v w)
unfolding memory_binary
binary_held op (scalar c) (scalar d) h k = of_kind (binary_kind op (seen_kind c) true (seen_kind d) true) (λ j. scalar_result (binary_cell op c d)) (λ j e. a_cell (binary_cell op c d))
binary_held op (scalar c) (column y) h k =
    let rows = scalar_rows op true c (numbered 1 y.cells) in
    of_kind (binary_kind op (seen_kind c) true (kind_of_column y) false) (λ j. column_result j rows)
    (λ j e. a_column j rows (λ outs z. scalar_left_kind op c (kind_of_column y) j (numbered 1 y.cells) outs (rows_of (kind_of_column y) 1 y.cells k) e z))
binary_held op (scalar c) (table t) h k = tt
binary_held op (scalar c) (texts ts) h k = tt
binary_held op (column x) (scalar d) h k =
    let rows = scalar_rows op false d (numbered 1 x.cells) in
    of_kind (binary_kind op (kind_of_column x) false (seen_kind d) true) (λ j. column_result j rows)
    (λ j e. a_column j rows (λ outs z. scalar_right_kind op d (kind_of_column x) j (numbered 1 x.cells) outs (rows_of (kind_of_column x) 1 x.cells h) e z))
binary_held op (column x) (column y) h k =
    let rows = binary_rows op (numbered 1 x.cells) (numbered 1 y.cells) in
    of_kind (binary_kind op (kind_of_column x) false (kind_of_column y) false) (λ j. if_equal_lengths x y (column_result j rows))
    (λ j e. either (length x.cells == length y.cells) (column_result j rows) (Err bad_size)
    (a_column j rows (λ outs z. binary_rows_kind op (kind_of_column x) (kind_of_column y) j (numbered 1 x.cells) (numbered 1 y.cells) outs
    (rows_of (kind_of_column x) 1 x.cells h) (rows_of (kind_of_column y) 1 y.cells k) e z)) tt)
binary_held op (column x) (table t) h k = tt
binary_held op (column x) (texts ts) h k = tt
binary_held op (table t) w h k = tt
binary_held op (texts ts) w h k = tt

-- ---- some of the rows

of_kept : (k : Kind) (cs mask : List Seen) → All (HasKind k) cs → All (HasKind k) (kept cs mask)
of_kept k [] mask h = All-nil (HasKind k)
of_kept k (c ∷ cs) [] h = All-nil (HasKind k)
of_kept k (c ∷ cs) (m ∷ mask) h = by_test (is_true m) (of_kept k cs mask (All-tail (HasKind k) c cs h)) where
  by_test : (b : Bool) → All (HasKind k) (kept cs mask) → All (HasKind k) (if b then c ∷ kept cs mask else kept cs mask)
  by_test true rest = All-cons (HasKind k) c (kept cs mask) (All-head (HasKind k) c cs h) rest
  by_test false rest = rest

-- of lists of one length as many rows are kept
even_kept : (cs ds mask : List Seen) → length cs ≡ length ds → length (kept cs mask) ≡ length (kept ds mask)
even_kept [] [] mask e = refl
even_kept [] (d ∷ ds) mask e = absurd (omega (arith, e))
even_kept (c ∷ cs) [] mask e = absurd (omega (arith, e))
even_kept (c ∷ cs) (d ∷ ds) [] e = refl
even_kept (c ∷ cs) (d ∷ ds) (m ∷ mask) e = by_test (is_true m) (even_kept cs ds mask (omega (arith, e))) where
  by_test : (b : Bool) → length (kept cs mask) ≡ length (kept ds mask)
      → length (if b then c ∷ kept cs mask else kept cs mask) ≡ length (if b then d ∷ kept ds mask else kept ds mask)
  by_test true rest = ap suc rest
  by_test false rest = rest

-- what does as much with columns of one length, and keeps their kinds
pub record TakesRows (f : List Seen → List Seen) : Type 0 where
  pub kinds : (k : Kind) (cs : List Seen) → All (HasKind k) cs → All (HasKind k) (f cs)
  pub even : (cs ds : List Seen) → length cs ≡ length ds → length (f cs) ≡ length (f ds)

takes_first : (n : ℕ) → TakesRows (first_rows n)
takes_first n = record { kinds = λ k cs h. All-take (HasKind k) n cs h; even = evenly n } where
  evenly : (m : ℕ) (cs ds : List Seen) → length cs ≡ length ds → length (take m cs) ≡ length (take m ds)
  evenly m [] [] e = refl
  evenly m [] (d ∷ ds) e = absurd (omega (arith, e))
  evenly m (c ∷ cs) [] e = absurd (omega (arith, e))
  evenly zero (c ∷ cs) (d ∷ ds) e = refl
  evenly (suc m) (c ∷ cs) (d ∷ ds) e = ap suc (evenly m cs ds (omega (arith, e)))

even_drop : (m : ℕ) (cs ds : List Seen) → length cs ≡ length ds → length (drop m cs) ≡ length (drop m ds)
even_drop m [] [] e = refl
even_drop m [] (d ∷ ds) e = absurd (omega (arith, e))
even_drop m (c ∷ cs) [] e = absurd (omega (arith, e))
even_drop zero (c ∷ cs) (d ∷ ds) e = e
even_drop (suc m) (c ∷ cs) (d ∷ ds) e = even_drop m cs ds (omega (arith, e))

takes_last : (n : ℕ) → TakesRows (last_rows n)
takes_last n = record {
  kinds = λ k cs h. All-drop (HasKind k) (length cs - n) cs h;
  even = λ cs ds e. even_drop (length cs - n) cs ds e ∙ ap (λ m. length (drop (m - n) ds)) e;
}

takes_kept : (mask : List Seen) → TakesRows (λ cs. kept cs mask)
takes_kept mask = record { kinds = λ k cs h. of_kept k cs mask h; even = λ cs ds e. even_kept cs ds mask e }

module _ (f : List Seen → List Seen) (takes : TakesRows f) where
  each_classes : (t : List (List ℕ × SeenColumn)) → HaveTheirClasses t → HaveTheirClasses (each_named (with_cells f) t)
  each_classes [] h = tt
  each_classes (entry ∷ t) h = (takes.kinds (kind_of entry.1.class) entry.1.cells h.0, each_classes t h.1)

  each_height : (cs : List Seen) (t : List (List ℕ × SeenColumn)) → HasHeight (length cs) t → HasHeight (length (f cs)) (each_named (with_cells f) t)
  each_height cs [] h = tt
  each_height cs (entry ∷ t) h = (takes.even entry.1.cells cs h.0, each_height cs t h.1)

  some_of_table : (t : List (List ℕ × SeenColumn)) → CanBeHeld (table t) → CanBeHeld (table (each_named (with_cells f) t))
  some_of_table [] h = h
  some_of_table (entry ∷ t) h =
      (each_classes (entry ∷ t) h.0, record { distinct = distinct_each (with_cells f) (entry ∷ t) h.1.distinct; one_height = each_height entry.1.cells (entry ∷ t) h.1.one_height })

  some_rows : (v : Memory) → CanBeHeld v → Given (memory_rows f v)
  some_rows (scalar c) h = tt
  some_rows (column x) h = takes.kinds (kind_of x.class) x.cells h
  some_rows (table t) h = some_of_table t h
  some_rows (texts ts) h = tt

-- ---- indexes

at_cell : (c : Option Seen) → Given (indexed_cell c)
at_cell (Some c) = tt
at_cell None = tt

column_indexed : (x : SeenColumn) (i : Memory) → HasItsClass x → Given (memory_column_index x i)
column_indexed x (column mask) h =
    either (is_logical mask.class) (memory_masked x mask) (Err bad_argument)
    (either (length x.cells == length mask.cells) (Ok (column (rows_kept x mask))) (Err bad_size) (of_kept (kind_of x.class) x.cells mask.cells h) tt) tt
column_indexed x (scalar (double k)) h = at_cell (cell_at k x.cells)
column_indexed x (scalar (whole k n)) h = tt
column_indexed x (scalar (logical b)) h = tt
column_indexed x (scalar (text t)) h = tt
column_indexed x (table t) h = tt
column_indexed x (texts ts) h = tt

table_indexed : (t : List (List ℕ × SeenColumn)) (i : Memory) → CanBeHeld (table t) → Given (memory_table_index t i)
table_indexed t (column mask) h =
    let rows : Result Memory Refusal = Ok (table (each_named (λ x. rows_kept x mask) t)) in
    either (is_logical mask.class) (if height_of t == length mask.cells then rows else Err bad_size) (Err bad_argument)
    (either (height_of t == length mask.cells) rows (Err bad_size) (some_of_table (λ cs. kept cs mask.cells) (takes_kept mask.cells) t h) tt) tt
table_indexed t (scalar c) h = tt
table_indexed t (table u) h = tt
table_indexed t (texts ts) h = tt

pub index_held : (v : Memory) (i : Option (Index Memory)) → CanBeHeld v → Given (memory_index v i)
unfolding memory_index
index_held (column x) (Some (rows_at i)) h = column_indexed x i h
index_held (column x) (Some (all_variables_at i)) h = tt
index_held (column x) None h = tt
index_held (table t) (Some (rows_at i)) h = tt
index_held (table t) (Some (all_variables_at i)) h = table_indexed t i h
index_held (table t) None h = tt
index_held (scalar c) i h = tt
index_held (texts ts) i h = tt

IsColumn : Option SeenColumn → Type 0
IsColumn None = Unit {0}
IsColumn (Some x) = HasItsClass x

column_in : (name : List ℕ) (t : List (List ℕ × SeenColumn)) → HaveTheirClasses t → IsColumn (column_named name t)
unfolding IsColumn
column_in name [] h = tt
column_in name (entry ∷ t) h = by_test (bytes_eq entry.0 name) (column_in name t h.1) where
  by_test : (b : Bool) → IsColumn (column_named name t) → IsColumn (if b then Some entry.1 else column_named name t)
  by_test true rest = h.0
  by_test false rest = rest

pub member_held : (v : Memory) (name : List ℕ) → CanBeHeld v → Given (memory_member v name)
unfolding memory_member IsColumn
member_held (table t) name h = there (column_named name t) (column_in name t h.0) where
  there : (o : Option SeenColumn) → IsColumn o → Given (elim o [ Some x ↦ Ok (column x) | None ↦ Err (undefined name) ])
  there (Some x) i = i
  there None i = tt
member_held (scalar c) name h = tt
member_held (column x) name h = tt
member_held (texts ts) name h = tt

-- ---- groups

-- the column of a name has the height of the table
high_column : (n : ℕ) (name : List ℕ) (t : List (List ℕ × SeenColumn)) (x : SeenColumn) → HasHeight n t → column_named name t ≡ Some x → length x.cells ≡ n
high_column n name [] x h e = absurd cc
high_column n name (entry ∷ t) x h e = by_test (bytes_eq entry.0 name) (λ z. high_column n name t x h.1 z) e where
  by_test : (b : Bool) → (column_named name t ≡ Some x → length x.cells ≡ n) → (if b then Some entry.1 else column_named name t) ≡ Some x → length x.cells ≡ n
  by_test true rest z = let s : entry.1 ≡ x = cc in ap (λ (y : SeenColumn). length y.cells) (sym s) ∙ h.0
  by_test false rest z = rest z

abbrev AllHigh : ℕ → List (List Seen) → Type 0
AllHigh n [] = Unit {0}
AllHigh n (c ∷ cs) = (length c ≡ n) × AllHigh n cs

abbrev cells_ok : List Seen → Result (List Seen) FaultKind
cells_ok cs = Ok cs

abbrev columns_ok : List (List Seen) → Result (List (List Seen)) FaultKind
columns_ok cs = Ok cs

as_many : (rs : List (Result Seen FaultKind)) (vs : List Seen) → all_values rs ≡ cells_ok vs → length vs ≡ length rs
as_many [] vs e = ap (λ (us : List Seen). length us) (sym (same_ok [] vs e))
as_many (r ∷ rs) vs e = front r (all_values rs) (λ us z. as_many rs us z) e where
  front : (q : Result Seen FaultKind) (rest : Result (List Seen) FaultKind) → ((us : List Seen) → rest ≡ cells_ok us → length us ≡ length rs)
      → with_value q rest ≡ cells_ok vs → length vs ≡ suc (length rs)
  front (Ok c) (Ok us) k z = ap (λ (ws : List Seen). length ws) (sym (same_ok (c ∷ us) vs z)) ∙ ap suc (k us refl)
  front (Ok c) (Err f) k z = absurd cc
  front (Err f) rest k z = absurd cc

counts_high : (keys : List Seen) → length (group_counts keys) ≡ length (group_keys keys)
counts_high keys = length-map (group_keys keys) _

with_values : (n : ℕ) (first second : List Seen) (r : Result (List Seen) FaultKind) (columns : List (List Seen)) → length first ≡ n → length second ≡ n
    → ((vs : List Seen) → r ≡ cells_ok vs → length vs ≡ n)
    → in_front first (in_front second (elim r [ Ok values ↦ columns_ok (values ∷ []) | Err e ↦ Err e ])) ≡ columns_ok columns → AllHigh n columns
with_values n first second (Ok vs) columns p q k e = subst (AllHigh n) (same_ok (first ∷ second ∷ vs ∷ []) columns e) (p, (q, (k vs refl, tt)))
with_values n first second (Err f) columns p q k e = absurd cc

values_high : (m : Method) (a : Kind) (keys data' vs : List Seen) → group_values m a keys data' ≡ cells_ok vs → length vs ≡ length (group_keys keys)
values_high m a keys data' vs e = as_many (map (λ key. group_value m a (group_data key keys data')) (group_keys keys)) vs e ∙ length-map (group_keys keys) _

summary_high : (m : Method) (a : Kind) (keys data' : List Seen) (columns : List (List Seen)) → summary_columns m a keys data' ≡ columns_ok columns
    → AllHigh (length (group_keys keys)) columns
summary_high method.Count a keys data' columns e = subst (AllHigh (length (group_keys keys))) (same_ok (group_keys keys ∷ group_counts keys ∷ []) columns e) (refl, (counts_high keys, tt))
summary_high method.Sum a keys data' columns e = with_values (length (group_keys keys)) (group_keys keys) (group_counts keys) (group_values method.Sum a keys data') columns refl (counts_high keys) (λ vs z. values_high method.Sum a keys data' vs z) e
summary_high method.SumNative a keys data' columns e = with_values (length (group_keys keys)) (group_keys keys) (group_counts keys) (group_values method.SumNative a keys data') columns refl (counts_high keys) (λ vs z. values_high method.SumNative a keys data' vs z) e
summary_high method.Min a keys data' columns e = with_values (length (group_keys keys)) (group_keys keys) (group_counts keys) (group_values method.Min a keys data') columns refl (counts_high keys) (λ vs z. values_high method.Min a keys data' vs z) e
summary_high method.Max a keys data' columns e = with_values (length (group_keys keys)) (group_keys keys) (group_counts keys) (group_values method.Max a keys data') columns refl (counts_high keys) (λ vs z. values_high method.Max a keys data' vs z) e
summary_high method.Nnz a keys data' columns e = with_values (length (group_keys keys)) (group_keys keys) (group_counts keys) (group_values method.Nnz a keys data') columns refl (counts_high keys) (λ vs z. values_high method.Nnz a keys data' vs z) e
summary_high method.Nummissing a keys data' columns e = with_values (length (group_keys keys)) (group_keys keys) (group_counts keys) (group_values method.Nummissing a keys data') columns refl (counts_high keys) (λ vs z. values_high method.Nummissing a keys data' vs z) e

paired_classes : (names : List (List ℕ)) (kinds : List Kind) (columns : List (List Seen)) → HaveKinds kinds columns → HaveTheirClasses (paired names (columns_of (map class_of kinds) columns))
paired_classes [] kinds columns h = tt
paired_classes (name ∷ names) [] columns h = tt
paired_classes (name ∷ names) (k ∷ kinds) [] h = tt
paired_classes (name ∷ names) (k ∷ kinds) (c ∷ columns) h = (of_class k c h.0, paired_classes names kinds columns h.1)

paired_height : (n : ℕ) (names : List (List ℕ)) (classes : List Class) (columns : List (List Seen)) → AllHigh n columns → HasHeight n (paired names (columns_of classes columns))
paired_height n [] classes columns h = tt
paired_height n (name ∷ names) [] columns h = tt
paired_height n (name ∷ names) (k ∷ classes) [] h = tt
paired_height n (name ∷ names) (k ∷ classes) (c ∷ columns) h = (h.0, paired_height n names classes columns h.1)

own_height : (n : ℕ) (t : List (List ℕ × SeenColumn)) → HasHeight n t → HasHeight (height_of t) t
own_height n [] h = tt
own_height n (entry ∷ t) h = subst (λ m. HasHeight m (entry ∷ t)) (sym h.0) h

abbrev kinds_ok : List Kind → Result (List Kind) ClassFault
kinds_ok ks = Ok ks

summarised : (names : List (List ℕ)) (kinds : List Kind) (n : ℕ) (r : Result (List (List Seen)) FaultKind) → are_distinct names ≡ true
    → ((columns : List (List Seen)) → r ≡ columns_ok columns → HaveKinds kinds columns × AllHigh n columns) → Given (summary_result names (map class_of kinds) r)
summarised names kinds n (Err e) apart k = tt
summarised names kinds n (Ok columns) apart k =
    let w = k columns refl in
    let made = columns_of (map class_of kinds) columns in (
      paired_classes names kinds columns w.0,
      record { distinct = distinct_paired names made apart; one_height = own_height n (paired names made) (paired_height n names (map class_of kinds) columns w.1) },
    )

of_classes : (r : Result (List Kind) ClassFault) (f : List Class → Result Memory Refusal) → ((kinds : List Kind) → r ≡ kinds_ok kinds → Given (f (map class_of kinds))) → Given (with_classes (class_results r) f)
of_classes (Ok kinds) f h = h kinds refl
of_classes (Err e) f h = tt

a_summary : (m : Method) (names : List (List ℕ)) (g v : SeenColumn) → length g.cells ≡ length v.cells → HasItsClass g → HasItsClass v → Given (memory_summary m names g v)
a_summary m names g v e p q =
    let columns = summary_columns m (kind_of_column v) g.cells v.cells in
    of_classes (summary_kinds m (kind_of g.class) (kind_of v.class)) (λ classes. if_distinct names (summary_result names classes columns))
    (λ kinds z. where_so (are_distinct names) (summary_result names (map class_of kinds) columns) (Err bad_argument)
    (λ apart. summarised names kinds (length (group_keys g.cells)) columns apart
    (λ made y. (summary_kind m (kind_of g.class) (kind_of v.class) kinds g.cells v.cells made e p q z y, summary_high m (kind_of_column v) g.cells v.cells made y))) tt)

-- of variables of a table, which have its height
abbrev IsVariable : List (List ℕ × SeenColumn) → SeenColumn → Type 0
IsVariable t x = HasItsClass x × (length x.cells ≡ height_of t)

a_variable : (t : List (List ℕ × SeenColumn)) (name : List ℕ) → CanBeHeld (table t) → OnGiven (IsVariable t) (variable_named t name)
unfolding IsColumn
a_variable t name h = there (column_named name t) refl (column_in name t h.0) where
  there : (o : Option SeenColumn) → column_named name t ≡ o → IsColumn o → OnGiven (IsVariable t) (or_refuse (undefined name) o)
  there None e i = tt
  there (Some x) e i = (i, high_column (height_of t) name t x h.1.one_height e)

then_given : {A : Type 0} (Is : A → Type 0) (r : Result A Refusal) (f : A → Result Memory Refusal) → OnGiven Is r → ((a : A) → Is a → Given (f a)) → Given (and_then r f)
then_given Is (Ok a) f h k = k a h
then_given Is (Err e) f h k = tt

of_data : (t : List (List ℕ × SeenColumn)) (key value : List ℕ) (m : Method) (names : List (List ℕ)) → CanBeHeld (table t)
    → Given (and_then (variable_named t key) (λ g. and_then (variable_named t value) (memory_summary m names g)))
of_data t key value m names h =
    then_given (IsVariable t) (variable_named t key) _ (a_variable t key h) (λ g p.
    then_given (IsVariable t) (variable_named t value) _ (a_variable t value h) (λ v q. a_summary m names g v (p.1 ∙ sym q.1) p.0 q.0))

grouped : (v : Memory) (key : List ℕ) (m : Method) (value : List ℕ) → CanBeHeld v → Given (memory_groups v key m value)
grouped (table t) key method.Count value h = then_given (IsVariable t) (variable_named t key) _ (a_variable t key h) (λ g p. a_summary method.Count (summary_names method.Count key value) g g refl p.0 p.0)
grouped (table t) key method.Sum value h = of_data t key value method.Sum (summary_names method.Sum key value) h
grouped (table t) key method.SumNative value h = of_data t key value method.SumNative (summary_names method.SumNative key value) h
grouped (table t) key method.Min value h = of_data t key value method.Min (summary_names method.Min key value) h
grouped (table t) key method.Max value h = of_data t key value method.Max (summary_names method.Max key value) h
grouped (table t) key method.Nnz value h = of_data t key value method.Nnz (summary_names method.Nnz key value) h
grouped (table t) key method.Nummissing value h = of_data t key value method.Nummissing (summary_names method.Nummissing key value) h
grouped (scalar c) key m value h = tt
grouped (column x) key m value h = tt
grouped (texts ts) key m value h = tt

-- ---- all functions

a_total : (r : Result Seen FaultKind) → Given (total_result r)
a_total (Ok c) = tt
a_total (Err e) = tt

a_reduction : (r : _) (v : Memory) → Given (memory_reduce r v)
a_reduction r (scalar c) =
    let c' = reduced r (seen_kind c) (c ∷ []) in of_kind (reduction_kind r (seen_kind c)) (λ k. total_result c') (λ k e. a_total c')
a_reduction r (column x) =
    let c = reduced r (kind_of_column x) x.cells in of_kind (reduction_kind r (kind_of_column x)) (λ k. total_result c) (λ k e. a_total c)
a_reduction r (table t) = tt
a_reduction r (texts ts) = tt

a_height : (v : Memory) → Given (memory_height v)
a_height (table t) = tt
a_height (scalar c) = tt
a_height (column x) = tt
a_height (texts ts) = tt

a_scan : (s : Scan) (v : Memory) → CanBeHeld v → Given (memory_scan s v)
a_scan s (scalar c) h = tt
a_scan s (column x) h =
    let rows = scanned s (kind_of_column x) (numbered 1 x.cells) in
    of_kind (scan_kind s (kind_of_column x)) (λ k. column_result k rows) (λ k e. a_column k rows (λ outs z. scanned_kind s (kind_of_column x) k (numbered 1 x.cells) outs (rows_of (kind_of_column x) 1 x.cells h) e z))
a_scan s (table t) h = tt
a_scan s (texts ts) h = tt

all_distinct : (v : Memory) → CanBeHeld v → Given (memory_distinct v)
all_distinct (scalar c) h = tt
all_distinct (column x) h = distinct_kind (kind_of x.class) x.cells h
all_distinct (table t) h = tt
all_distinct (texts ts) h = tt

pub operation_held : (o : Operation) (v : Memory) → CanBeHeld v → Given (memory_operation o v)
operation_held (reduce r) v h = a_reduction r v
operation_held height v h = a_height v
operation_held (scan s) v h = a_scan s v h
operation_held (head k) v h = some_rows (first_rows k) (takes_first k) v h
operation_held (tail k) v h = some_rows (last_rows k) (takes_last k) v h
operation_held distinct v h = all_distinct v h
operation_held (groups key m value) v h = grouped v key m value h
operation_held (unary op) v h = unary_held op v h

pub application_held : (a : Application Memory) → OperandsCanBeHeld a → Given (memory_application a)
unfolding memory_application
application_held (constant c) h = tt
application_held (to_one o v) h = operation_held o v h
application_held (to_two op v w) h = binary_held op v w h.0 h.1

-- ---- the table of `groupsummary`

table_of : (names : List (List ℕ)) (kinds : List Kind) (columns : List (List Seen)) → length names ≡ length kinds → HaveKinds kinds columns
    → IsTableOf names (map class_of kinds) (table (paired names (columns_of (map class_of kinds) columns)))
table_of [] [] [] e h = (refl, refl)
table_of [] [] (c ∷ columns) e h = absurd h
table_of [] (k ∷ kinds) columns e h = absurd (omega (arith, e))
table_of (name ∷ names) [] columns e h = absurd (omega (arith, e))
table_of (name ∷ names) (k ∷ kinds) [] e h = absurd h
table_of (name ∷ names) (k ∷ kinds) (c ∷ columns) e h =
    let rest = table_of names kinds columns (omega (arith, e)) h.1 in (ap (λ ns. name ∷ ns) rest.0, ap (λ cs. class_of k ∷ cs) rest.1)

with_three : (key : Kind) (r : Result Kind ClassFault) (ks : List Kind) → (elim r [ Ok k ↦ kinds_ok (key ∷ Double ∷ k ∷ []) | Err e ↦ Err e ]) ≡ kinds_ok ks → 3 ≡ length ks
with_three key (Ok k) ks h = ap (λ (js : List Kind). length js) (same_ok (key ∷ Double ∷ k ∷ []) ks h)
with_three key (Err e) ks h = absurd cc

as_many_names : (m : Method) (key data' : Kind) (name value : List ℕ) (kinds : List Kind) → summary_kinds m key data' ≡ kinds_ok kinds
    → length (summary_names m name value) ≡ length kinds
as_many_names method.Count key data' name value kinds e = ap (λ (js : List Kind). length js) (same_ok (key ∷ Double ∷ []) kinds e)
as_many_names method.Sum key data' name value kinds e = with_three key (method_kind method.Sum data') kinds e
as_many_names method.SumNative key data' name value kinds e = with_three key (method_kind method.SumNative data') kinds e
as_many_names method.Min key data' name value kinds e = with_three key (method_kind method.Min data') kinds e
as_many_names method.Max key data' name value kinds e = with_three key (method_kind method.Max data') kinds e
as_many_names method.Nnz key data' name value kinds e = with_three key (method_kind method.Nnz data') kinds e
as_many_names method.Nummissing key data' name value kinds e = with_three key (method_kind method.Nummissing data') kinds e

abbrev memory_ok : Memory → Result Memory Refusal
memory_ok v = Ok v

abbrev classes_ok : List Class → Result (List Class) ClassFault
classes_ok cs = Ok cs

summary_is : (names : List (List ℕ)) (kinds : List Kind) (w : Memory) (b : Bool) (r : Result (List (List Seen)) FaultKind) → length names ≡ length kinds
    → ((columns : List (List Seen)) → r ≡ columns_ok columns → HaveKinds kinds columns)
    → (if b then summary_result names (map class_of kinds) r else Err bad_argument) ≡ memory_ok w → IsTableOf names (map class_of kinds) w
summary_is names kinds w true (Ok columns) e k h = subst (IsTableOf names (map class_of kinds)) (same_ok _ w h) (table_of names kinds columns e (k columns refl))
summary_is names kinds w true (Err f) e k h = absurd cc
summary_is names kinds w false r e k h = absurd cc

of_kinds : (m : Method) (name value : List ℕ) (g v : SeenColumn) (classes : List Class) (w : Memory) (r : Result (List Kind) ClassFault) → length g.cells ≡ length v.cells
    → HasItsClass g → HasItsClass v → summary_kinds m (kind_of g.class) (kind_of v.class) ≡ r → class_results r ≡ classes_ok classes
    → with_classes (class_results r) (λ cs. if_distinct (summary_names m name value) (summary_result (summary_names m name value) cs (summary_columns m (kind_of_column v) g.cells v.cells))) ≡ memory_ok w
    → IsTableOf (summary_names m name value) classes w
of_kinds m name value g v classes w (Ok kinds) e p q is cs h =
    subst (λ ks. IsTableOf (summary_names m name value) ks w) (same_ok (map class_of kinds) classes cs)
    (summary_is (summary_names m name value) kinds w (are_distinct (summary_names m name value)) (summary_columns m (kind_of_column v) g.cells v.cells)
    (as_many_names m (kind_of g.class) (kind_of v.class) name value kinds is)
    (λ columns z. summary_kind m (kind_of g.class) (kind_of v.class) kinds g.cells v.cells columns e p q is z) h)
of_kinds m name value g v classes w (Err f) e p q is cs h = absurd cc

pub summary_table : (m : Method) (key value : List ℕ) (g v : SeenColumn) (classes : List Class) (w : Memory) → length g.cells ≡ length v.cells → HasItsClass g → HasItsClass v
    → summary_classes m g.class v.class ≡ classes_ok classes → memory_summary m (summary_names m key value) g v ≡ memory_ok w → IsTableOf (summary_names m key value) classes w
summary_table m key value g v classes w e p q cs h = of_kinds m key value g v classes w (summary_kinds m (kind_of g.class) (kind_of v.class)) e p q refl cs h
