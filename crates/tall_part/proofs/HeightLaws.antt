-- How many rows results have: a scalar one, the others no more than there were.
use Rattle.std.specs.Prelude.{◌≡◌, ◌+◌, ◌-◌, ◌≤◌, ℕ, zero, suc, Bool, true, false, ◌||◌, if◌then◌else◌, IfOk, None, Some, Result, Ok, Err, List, [], ◌∷◌, length, map, slice_get}
use Rattle.std.proofs.Common.{ap, sym, subst, ◌∙◌, refl, arith, length-append}
use Rattle.std.specs.List.{filter, list_any}
use Rattle.std.specs.declared.cmp.Ordering.{Ordering}
use Rattle.std.specs.declared.cmp.Ordering.TheVariants.{Less, Equal, Greater}
use Rattle.std.proofs.lemmas.List.{length-drop, length-map, length-take}
use Rattle.std.proofs.lemmas.List.Filters.{length-filter_both}
use Rattle.tall_clamp.specs.declared.faults.FinishFault.{FinishFault}
use Rattle.tall_value.specs.declared.class.Class.{Class}
use Rattle.tall_value.specs.declared.class.Kind.{Kind}
use Rattle.tall_value.specs.declared.faults.FaultKind.{FaultKind}
use Rattle.tall_value.specs.declared.functions.Method.{Method}
use Rattle.tall_value.specs.declared.functions.Method.TheVariants as method
use Rattle.tall_value.specs.declared.functions.Reduction.{Reduction}
use Rattle.tall_value.specs.Cells.{Seen, double, is_nan}
use Rattle.tall_value.specs.CellOrder.{cell_order}
use Rattle.tall_value.specs.Classes.{kind_of}
use Rattle.tall_value.specs.Columns.{cells}
use Rattle.tall_value.specs.Distinct.{ascending, by_order, distinct, insert}
use Rattle.tall_value.specs.Elementwise.{in_front}
use Rattle.tall_value.specs.Groups.{all_values, group_counts, group_data, group_keys, group_value, group_values}
use Rattle.tall_value.specs.GroupSummary.{summary_columns, value_columns}
use Rattle.tall_value.specs.Reductions.{is_present, present, reduced}
use Rattle.tall_dense.specs.Columns.{SeenColumn}
use Rattle.tall_fold.specs.FirstAndLast.{SeenEnds, column_of, ends_of}
use Rattle.tall_fold.specs.Summaries.{Finishes, SeenSummary}
use Rattle.tall_group.specs.Folds.{IsGroupFoldOf, class_of_data, method_of_groups}
use Rattle.tall_group.specs.UniqueFolds.{IsUniqueOf, class_of_unique}
use Rattle.tall_group.specs.declared.fold.GroupFold.{GroupFold}
use Rattle.tall_group.specs.declared.unique.UniqueFold.{UniqueFold}
use Rattle.tall_blocks.specs.Carries.{Rows}
use Rattle.tall_part.specs.declared.operation.EndOperation.{EndOperation}
use Rattle.tall_part.specs.declared.operation.EndOperation.TheVariants as end
use Rattle.tall_part.specs.declared.part.EndPart.TheVariants as part
use Rattle.tall_part.specs.declared.results.EndColumn.{EndColumn}
use Rattle.tall_part.specs.declared.results.EndFault.{EndFault}
use Rattle.tall_part.specs.Operations.{column_count}
use Rattle.tall_part.specs.Parts.{IsPart, numbers}
use Rattle.tall_part.specs.Results.{AreHigh, IsHigh}
use Rattle.tall_part.specs.Finished.{AreNumbered, IsColumnOf, numbers_from}
use Rattle.tall_part.proofs.FinishLaws.{Tells, first_got, same_column}
use Rattle.tall_part.proofs.GroupFinishLaws.{numbers_got}
use Rattle.tall_part.proofs.JoinLaws.{long_cells}

-- ---- distinct cells and keys

ordered_short : (o : Ordering) (xs ys zs : List Seen) (n : ℕ) → length xs ≤ n → length ys ≤ n → length zs ≤ n → length (by_order o xs ys zs) ≤ n
ordered_short Less xs ys zs n e f g = e
ordered_short Equal xs ys zs n e f g = f
ordered_short Greater xs ys zs n e f g = g

insert_short : (c : Seen) (cs : List Seen) → length (insert c cs) ≤ suc (length cs)
insert_short c [] = omega arith
insert_short c (d ∷ cs) =
    let rest = insert_short c cs in
    ordered_short (cell_order c d) (c ∷ d ∷ cs) (d ∷ cs) (d ∷ insert c cs) (suc (suc (length cs))) (omega arith) (omega arith) (omega (arith, rest))

ascending_short : (cs : List Seen) → length (ascending cs) ≤ length cs
ascending_short [] = omega arith
ascending_short (c ∷ cs) =
    let e = insert_short c (ascending cs) in
    let f = ascending_short cs in
    omega (arith, e, f)

all_counted : (cs : List Seen) → length (filter is_nan cs) + length (present cs) ≡ length cs
all_counted cs = length-filter_both is_nan is_present (λ c. refl) cs

distinct_short : (cs : List Seen) → length (distinct cs) ≤ length cs
distinct_short cs =
    let e = length-append (ascending (present cs)) (filter is_nan cs) in
    let f = ascending_short (present cs) in
    let g = all_counted cs in
    omega (arith, e, f, g)

abbrev nan_key : Bool → List Seen
nan_key b = if b then double None ∷ [] else []

nan_short : (b l : Bool) (c : Seen) (ys : List Seen) → length (nan_key l) ≤ length ys → length (nan_key (b || l)) ≤ length (if b then c ∷ ys else ys)
nan_short true l c ys h = omega arith
nan_short false l c ys h = h

nans_short : (cs : List Seen) → length (nan_key (list_any is_nan cs)) ≤ length (filter is_nan cs)
nans_short [] = omega arith
nans_short (c ∷ cs) = nan_short (is_nan c) (list_any is_nan cs) c (filter is_nan cs) (nans_short cs)

keys_short : (ks : List Seen) → length (group_keys ks) ≤ length ks
keys_short ks =
    let e = length-append (ascending (present ks)) (nan_key (list_any is_nan ks)) in
    let f = ascending_short (present ks) in
    let g = all_counted ks in
    let h = nans_short ks in
    omega (arith, e, f, g, h)

-- ---- columns of groups

abbrev AllShort : ℕ → List (List Seen) → Type 0
AllShort n [] = Unit {0}
AllShort n (c ∷ cs) = (length c ≤ n) × AllShort n cs

abbrev ok_list : {A : Type 0} → List A → Result (List A) FaultKind
ok_list cs = Ok cs

inside : {A : Type 0} (xs ys : List A) → ok_list xs ≡ ok_list ys → xs ≡ ys
inside xs ys h = ap (λ r. elim r [ Ok zs ↦ zs | Err e ↦ xs ]) h

front_short : (n : ℕ) (c : List Seen) (r : Result (List (List Seen)) FaultKind) (cols : List (List Seen)) → length c ≤ n → ((ds : List (List Seen)) → r ≡ ok_list ds → AllShort n ds) → in_front c r ≡ ok_list cols → AllShort n cols
front_short n c (Ok ds) cols h rest e = subst (AllShort n) (inside (c ∷ ds) cols e) (h, rest ds refl)
front_short n c (Err x) cols h rest e = absurd cc

value_front : (r : Result Seen FaultKind) (rest : Result (List Seen) FaultKind) (n : ℕ) (vs : List Seen) → ((ws : List Seen) → rest ≡ ok_list ws → length ws ≡ n) → elim r [ Ok c ↦ in_front c rest | Err e ↦ Err e ] ≡ ok_list vs → length vs ≡ suc n
value_front (Ok c) (Ok ws) n vs h e = sym (ap length (inside (c ∷ ws) vs e)) ∙ ap suc (h ws refl)
value_front (Ok c) (Err x) n vs h e = absurd cc
value_front (Err x) rest n vs h e = absurd cc

as_many : (rs : List (Result Seen FaultKind)) (vs : List Seen) → all_values rs ≡ ok_list vs → length vs ≡ length rs
as_many [] vs e = sym (ap length (inside [] vs e))
as_many (r ∷ rs) vs e = with_first r rs vs (λ ws h. as_many rs ws h) e where
  with_first : (x : Result Seen FaultKind) (xs : List (Result Seen FaultKind)) (ys : List Seen) → ((ws : List Seen) → all_values xs ≡ ok_list ws → length ws ≡ length xs) → all_values (x ∷ xs) ≡ ok_list ys → length ys ≡ suc (length xs)
  with_first (Ok c) xs ys go h = value_front (Ok c) (all_values xs) (length xs) ys go h
  with_first (Err x) xs ys go h = absurd cc

values_short : (n : ℕ) (r : Result (List Seen) FaultKind) (cols : List (List Seen)) → ((vs : List Seen) → r ≡ ok_list vs → length vs ≤ n) → elim r [ Ok values ↦ Ok (values ∷ []) | Err e ↦ Err e ] ≡ ok_list cols → AllShort n cols
values_short n (Ok vs) cols h e = subst (AllShort n) (inside (vs ∷ []) cols e) (h vs refl, tt)
values_short n (Err x) cols h e = absurd cc

method_short : (m : Method) (a : Kind) (ks ds vs : List Seen) → group_values m a ks ds ≡ ok_list vs → length vs ≤ length ks
method_short m a ks ds vs e =
    let f = as_many (map (λ key. group_value m a (group_data key ks ds)) (group_keys ks)) vs e in
    let g = length-map (group_keys ks) (λ key. group_value m a (group_data key ks ds)) in
    let h = keys_short ks in
    omega (arith, f, g, h)

value_columns_short : (m : Method) (a : Kind) (ks ds : List Seen) (cols : List (List Seen)) → value_columns m a ks ds ≡ ok_list cols → AllShort (length ks) cols
value_columns_short method.Count a ks ds cols e = subst (AllShort (length ks)) (inside [] cols e) tt
value_columns_short method.Sum a ks ds cols e = values_short (length ks) (group_values method.Sum a ks ds) cols (λ vs h. method_short method.Sum a ks ds vs h) e
value_columns_short method.SumNative a ks ds cols e = values_short (length ks) (group_values method.SumNative a ks ds) cols (λ vs h. method_short method.SumNative a ks ds vs h) e
value_columns_short method.Min a ks ds cols e = values_short (length ks) (group_values method.Min a ks ds) cols (λ vs h. method_short method.Min a ks ds vs h) e
value_columns_short method.Max a ks ds cols e = values_short (length ks) (group_values method.Max a ks ds) cols (λ vs h. method_short method.Max a ks ds vs h) e
value_columns_short method.Nnz a ks ds cols e = values_short (length ks) (group_values method.Nnz a ks ds) cols (λ vs h. method_short method.Nnz a ks ds vs h) e
value_columns_short method.Nummissing a ks ds cols e = values_short (length ks) (group_values method.Nummissing a ks ds) cols (λ vs h. method_short method.Nummissing a ks ds vs h) e

counts_short : (ks : List Seen) → length (group_counts ks) ≤ length ks
counts_short ks =
    let e : length (group_counts ks) ≡ length (group_keys ks) = length-map (group_keys ks) _ in
    let f = keys_short ks in
    omega (arith, e, f)

columns_short : (m : Method) (a : Kind) (ks ds : List Seen) (cols : List (List Seen)) → summary_columns m a ks ds ≡ ok_list cols → AllShort (length ks) cols
columns_short m a ks ds cols e =
    front_short (length ks) (group_keys ks) (in_front (group_counts ks) (value_columns m a ks ds)) cols (keys_short ks)
    (λ rest h. front_short (length ks) (group_counts ks) (value_columns m a ks ds) rest (counts_short ks) (λ values g. value_columns_short m a ks ds values g) h) e

short_got : (n : ℕ) (xs : List EndColumn) (m : ℕ) (c : EndColumn) → AllShort n (map (λ (x : EndColumn). x.column.cells) xs) → slice_get xs m ≡ Some c → length c.column.cells ≤ n
short_got n [] m c h e = absurd cc
short_got n (x ∷ xs) zero c h e = subst (λ (y : EndColumn). length y.column.cells ≤ n) (same_column x c e) h.0
short_got n (x ∷ xs) (suc m) c h e = short_got n xs m c h.1 e

-- ---- results

many_numbers : (n k : ℕ) → length (numbers_from n k) ≡ k
many_numbers n zero = refl
many_numbers n (suc k) = ap suc (many_numbers (n + 1) k)

one_high : (op : EndOperation) (most : ℕ) (xs : List EndColumn) (c : EndColumn) → column_count op ≡ 1 → xs ≡ c ∷ [] → IsHigh op most (length c.column.cells) (length c.rows.items) → AreHigh op most xs
one_high op most xs c one e h =
    λ n d l got. subst (λ (x : EndColumn). IsHigh op most (length x.column.cells) (length x.rows.items)) (same_column c d (sym (first_got xs c n e (omega (arith, l, one))) ∙ got)) h

scalar_high : (x : Result Seen FaultKind) (r : Reduction) (a : Class) (c : EndColumn) (found : Result SeenColumn FinishFault) → found ≡ Ok c.column → Finishes x r a found → c.rows.items ≡ [] → (length c.column.cells ≡ 1) × (length c.rows.items ≡ 0)
scalar_high x r a c found e h none =
    let w : Finishes x r a (Ok c.column) = subst (λ (f : Result SeenColumn FinishFault). Finishes x r a f) e h in
    (ap length w.2, ap length none)

pub scalar_heights : {V : Type 0} (items : V → List EndColumn) (r : Result V EndFault) (op : EndOperation) (a b : Class) (n : ℕ) (s : SeenSummary) (found : Result SeenColumn FinishFault) → IsPart op a b n (part.Summary s) → Tells s found
    → IfOk r (λ v. (c : EndColumn) × (items v ≡ c ∷ []) × (found ≡ Ok c.column) × (c.rows.items ≡ [])) → IfOk r (λ v. AreHigh op n (items v))
scalar_heights items (Err e) op a b n s found p h w = tt
scalar_heights items (Ok v) (end.Reduce r) a b n s found p h w =
    one_high (end.Reduce r) n (items v) w.0 refl w.1 (scalar_high (reduced r (kind_of a) (cells p.0)) r a w.0 found w.2 (h r a (cells p.0) p.2) w.3)
scalar_heights items (Ok v) (end.Head k) a b n s found p h w = absurd p.2
scalar_heights items (Ok v) (end.Tail k) a b n s found p h w = absurd p.2
scalar_heights items (Ok v) end.Distinct a b n s found p h w = absurd p.2
scalar_heights items (Ok v) (end.Group m) a b n s found p h w = absurd p.2

ends_short : (last : Bool) (k : ℕ) (rs : Rows) → length (ends_of last k rs) ≤ length rs
ends_short false k rs = (let e = length-take k rs in omega (arith, e))
ends_short true k rs = (let e = length-drop (length rs - k) rs in omega (arith, e))

rows_high : (last : Bool) (k : ℕ) (a : Class) (rs : Rows) (n : ℕ) (e : SeenEnds) (c : EndColumn) → e ≡ record { last = last; most = k; class = a; rows = ends_of last k rs } → length rs ≤ n
    → c.column ≡ column_of e.class e.rows → c.rows.items ≡ numbers e.rows → (length c.rows.items ≡ length c.column.cells) × (length c.column.cells ≤ n)
rows_high last k a rs n e c h le f g =
    let many : length c.column.cells ≡ length e.rows = ap (λ (x : SeenColumn). length x.cells) f ∙ length-map e.rows (λ (r : ℕ × Seen). r.1) in
    let nums : length c.rows.items ≡ length e.rows = ap length g ∙ length-map e.rows (λ (r : ℕ × Seen). r.0) in
    let kept : length e.rows ≡ length (ends_of last k rs) = ap (λ (s : SeenEnds). length s.rows) h in
    let short = ends_short last k rs in
    (nums ∙ sym many, omega (arith, many, kept, short, le))

pub rows_heights : {V : Type 0} (items : V → List EndColumn) (r : Result V EndFault) (op : EndOperation) (a b : Class) (n : ℕ) (e : SeenEnds) → IsPart op a b n (part.Rows e)
    → IfOk r (λ v. (c : EndColumn) × (items v ≡ c ∷ []) × (c.column ≡ column_of e.class e.rows) × (c.rows.items ≡ numbers e.rows)) → IfOk r (λ v. AreHigh op n (items v))
rows_heights items (Err x) op a b n e p w = tt
rows_heights items (Ok v) (end.Head k) a b n e p w = one_high (end.Head k) n (items v) w.0 refl w.1 (rows_high false k a p.0 n e w.0 p.2 p.3 w.2 w.3)
rows_heights items (Ok v) (end.Tail k) a b n e p w = one_high (end.Tail k) n (items v) w.0 refl w.1 (rows_high true k a p.0 n e w.0 p.2 p.3 w.2 w.3)
rows_heights items (Ok v) (end.Reduce f) a b n e p w = absurd p.2
rows_heights items (Ok v) end.Distinct a b n e p w = absurd p.2
rows_heights items (Ok v) (end.Group m) a b n e p w = absurd p.2

pub distinct_heights : {V : Type 0} (items : V → List EndColumn) (r : Result V EndFault) (op : EndOperation) (a b : Class) (n : ℕ) (u : UniqueFold) → IsPart op a b n (part.Distinct u)
    → ((cs : List Seen) → IsUniqueOf u cs → IfOk r (λ v. (c : EndColumn) × (items v ≡ c ∷ []) × IsColumnOf (class_of_unique u) (distinct cs) c)) → IfOk r (λ v. AreHigh op n (items v))
distinct_heights items (Err x) op a b n u p h = tt
distinct_heights items (Ok v) end.Distinct a b n u p h =
    let w = h (cells p.0) p.2.1 in
    let many : length w.0.column.cells ≡ length (distinct (cells p.0)) = ap length w.2.cells in
    let nums : length w.0.rows.items ≡ length (distinct (cells p.0)) = ap length w.2.rows ∙ many_numbers 1 (length (distinct (cells p.0))) in
    let short = distinct_short (cells p.0) in
    let long = long_cells p.0 in
    let le = p.3 in
    one_high end.Distinct n (items v) w.0 refl w.1 (nums ∙ sym many, omega (arith, many, short, long, le))
distinct_heights items (Ok v) (end.Reduce f) a b n u p h = absurd p.2
distinct_heights items (Ok v) (end.Head k) a b n u p h = absurd p.2
distinct_heights items (Ok v) (end.Tail k) a b n u p h = absurd p.2
distinct_heights items (Ok v) (end.Group m) a b n u p h = absurd p.2

pub group_heights : {V : Type 0} (items : V → List EndColumn) (r : Result V EndFault) (op : EndOperation) (a b : Class) (n : ℕ) (g : GroupFold) → IsPart op a b n (part.Groups g)
    → ((ks vs : List Seen) → IsGroupFoldOf g ks vs → IfOk r (λ v. (summary_columns (method_of_groups g) (kind_of (class_of_data g)) ks vs ≡ Ok (map (λ (c : EndColumn). c.column.cells) (items v))) × AreNumbered (items v))) → IfOk r (λ v. AreHigh op n (items v))
group_heights items (Err x) op a b n g p h = tt
group_heights items (Ok v) (end.Group m) a b n g p h =
    λ i c l got.
    let w = h (cells p.0) (cells p.1) p.2.3 in
    let short = short_got (length (cells p.0)) (items v) i c (columns_short (method_of_groups g) (kind_of (class_of_data g)) (cells p.0) (cells p.1) (map (λ (x : EndColumn). x.column.cells) (items v)) w.0) got in
    let nums : length c.rows.items ≡ length c.column.cells = ap length (numbers_got (items v) i c w.1 got) ∙ many_numbers 1 (length c.column.cells) in
    let long = long_cells p.0 in
    let le = p.3 in
    (nums, omega (arith, short, long, le))
group_heights items (Ok v) (end.Reduce f) a b n g p h = absurd p.2
group_heights items (Ok v) (end.Head k) a b n g p h = absurd p.2
group_heights items (Ok v) (end.Tail k) a b n g p h = absurd p.2
group_heights items (Ok v) end.Distinct a b n g p h = absurd p.2
