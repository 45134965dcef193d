-- The columns that groups give, in a table.
use Rattle.std.specs.Prelude.{◌≡◌, refl, ℕ, Option, None, Some, Result, Ok, Err, IfSome, List, [], ◌∷◌, codes, length, map}
use Rattle.std.proofs.Common.{ap, sym, subst, ◌∙◌, arith}
use Rattle.std.proofs.lemmas.List.{length-map}
use Rattle.tall_value.specs.declared.class.Class.{Class}
use Rattle.tall_value.specs.declared.class.Class.TheVariants as class
use Rattle.tall_value.specs.declared.class.Kind.{Kind}
use Rattle.tall_value.specs.declared.class.Kind.TheVariants.{Double}
use Rattle.tall_value.specs.declared.faults.ClassFault.{ClassFault}
use Rattle.tall_value.specs.declared.faults.FaultKind.{FaultKind}
use Rattle.tall_value.specs.declared.functions.Method.{Method}
use Rattle.tall_value.specs.declared.functions.Method.TheVariants.{Count, Sum, SumNative, Min, Max, Nnz, Nummissing}
use Rattle.tall_value.specs.Cells.{Seen}
use Rattle.tall_value.specs.Classes.{class_of, kind_of}
use Rattle.tall_value.specs.Elementwise.{in_front}
use Rattle.tall_value.specs.FunctionClasses.{class_results, method_kind, summary_classes}
use Rattle.tall_value.specs.Groups.{all_values, group_counts, group_data, group_keys, group_value, group_values, with_value}
use Rattle.tall_value.specs.GroupSummary.{summary_columns, value_columns}
use Rattle.tall_dense.specs.Columns.{SeenColumn}
use Rattle.tall_group.specs.Summaries.{AreEven, all_columns, cells_of, column_names, columns_in, if_some, named_columns, value_named}
use Rattle.tall_group.specs.declared.group_columns.GroupColumns.{GroupColumns}

abbrev columns_ok : List (List Seen) → Result (List (List Seen)) FaultKind
columns_ok cs = Ok cs

abbrev cells_ok : List Seen → Result (List Seen) FaultKind
cells_ok cs = Ok cs

abbrev classes_ok : List Class → Result (List Class) ClassFault
classes_ok cs = Ok cs

-- ---- their rows

values_long : {A : Type 0} (f : A → Result Seen FaultKind) (keys : List A) (xs : List Seen) → all_values (map f keys) ≡ cells_ok xs → length xs ≡ length keys
values_long f [] xs h = (let e : [] ≡ xs = cc in ap length (sym e))
values_long f (k ∷ keys) xs h = by (f k) (all_values (map f keys)) h (λ ys e. values_long f keys ys e)
  where
    by : (r : Result Seen FaultKind) (rest : Result (List Seen) FaultKind) → with_value r rest ≡ cells_ok xs → ((ys : List Seen) → rest ≡ cells_ok ys → length ys ≡ length keys) → length xs ≡ length (k ∷ keys)
    by (Ok c) (Ok ys) e go = (let s : c ∷ ys ≡ xs = cc in let l = go ys refl in let t : length (c ∷ ys) ≡ length xs = ap length s in omega (arith, l, t))
    by (Ok c) (Err f) e go = absurd cc
    by (Err f) rest e go = absurd cc

abbrev of_values : Result (List Seen) FaultKind → Result (List (List Seen)) FaultKind
of_values r = elim r [ Ok values ↦ columns_ok (values ∷ []) | Err e ↦ Err e ]

no_value : (o : Option SeenColumn) (n : ℕ) → [] ≡ map (λ (c : SeenColumn). c.cells) (if_some o) → IfSome o (λ c. length c.cells ≡ n)
no_value None n h = tt
no_value (Some c) n h = absurd cc

one_value : (r : Result (List Seen) FaultKind) (o : Option SeenColumn) (n : ℕ) → of_values r ≡ columns_ok (map (λ (c : SeenColumn). c.cells) (if_some o)) → ((xs : List Seen) → r ≡ cells_ok xs → length xs ≡ n) → IfSome o (λ c. length c.cells ≡ n)
one_value r None n h long = tt
one_value (Ok xs) (Some c) n h long = (let e : xs ≡ c.cells = cc in ap length (sym e) ∙ long xs refl)
one_value (Err f) (Some c) n h long = absurd cc

value_long : (m : Method) (a : Kind) (ks vs : List Seen) (o : Option SeenColumn) → value_columns m a ks vs ≡ columns_ok (map (λ (c : SeenColumn). c.cells) (if_some o)) → IfSome o (λ c. length c.cells ≡ length (group_keys ks))
value_long Count a ks vs o h = no_value o (length (group_keys ks)) (let e : [] ≡ map (λ (c : SeenColumn). c.cells) (if_some o) = cc in e)
value_long Sum a ks vs o h = one_value (group_values Sum a ks vs) o (length (group_keys ks)) h (λ xs e. values_long (λ key. group_value Sum a (group_data key ks vs)) (group_keys ks) xs e)
value_long SumNative a ks vs o h = one_value (group_values SumNative a ks vs) o (length (group_keys ks)) h (λ xs e. values_long (λ key. group_value SumNative a (group_data key ks vs)) (group_keys ks) xs e)
value_long Min a ks vs o h = one_value (group_values Min a ks vs) o (length (group_keys ks)) h (λ xs e. values_long (λ key. group_value Min a (group_data key ks vs)) (group_keys ks) xs e)
value_long Max a ks vs o h = one_value (group_values Max a ks vs) o (length (group_keys ks)) h (λ xs e. values_long (λ key. group_value Max a (group_data key ks vs)) (group_keys ks) xs e)
value_long Nnz a ks vs o h = one_value (group_values Nnz a ks vs) o (length (group_keys ks)) h (λ xs e. values_long (λ key. group_value Nnz a (group_data key ks vs)) (group_keys ks) xs e)
value_long Nummissing a ks vs o h = one_value (group_values Nummissing a ks vs) o (length (group_keys ks)) h (λ xs e. values_long (λ key. group_value Nummissing a (group_data key ks vs)) (group_keys ks) xs e)

parts_long : (ks cs k c : List Seen) (r : Result (List (List Seen)) FaultKind) (o : Option SeenColumn) → in_front ks (in_front cs r) ≡ columns_ok (k ∷ c ∷ map (λ (c : SeenColumn). c.cells) (if_some o))
    → length cs ≡ length ks → (r ≡ columns_ok (map (λ (c : SeenColumn). c.cells) (if_some o)) → IfSome o (λ c. length c.cells ≡ length ks)) → (length c ≡ length k) × IfSome o (λ v. length v.cells ≡ length k)
parts_long ks cs k c (Ok us) o h l long =
    let e : ks ≡ k = cc in
    let f : cs ≡ c = cc in
    let g : us ≡ map (λ (c : SeenColumn). c.cells) (if_some o) = cc in
    (ap length (sym f) ∙ (l ∙ ap length e), subst (λ js. IfSome o (λ v. length v.cells ≡ length js)) e (long (ap columns_ok g)))
parts_long ks cs k c (Err f) o h l long = absurd cc

pub columns_even : (m : Method) (a : Kind) (ks vs : List Seen) (g : GroupColumns) → summary_columns m a ks vs ≡ Ok (cells_of g) → AreEven g
columns_even m a ks vs g h =
    parts_long (group_keys ks) (group_counts ks) g.key.cells g.count.cells (value_columns m a ks vs) g.value h (length-map (group_keys ks) _) (value_long m a ks vs g.value)

-- ---- their names

abbrev classes_with : Class → Class → Option SeenColumn → Result (List Class) ClassFault
classes_with key count o = classes_ok (key ∷ count ∷ map (λ (c : SeenColumn). c.class) (if_some o))

with_value_names : (key : Kind) (r : Result Kind ClassFault) (k c : Class) (o : Option SeenColumn) → class_results (elim r [ Ok j ↦ Ok (key ∷ Double ∷ j ∷ []) | Err e ↦ Err e ]) ≡ classes_with k c o → (v : SeenColumn) × (o ≡ Some v)
with_value_names key (Ok j) k c None h = absurd cc
with_value_names key (Ok j) k c (Some v) h = (v, refl)
with_value_names key (Err e) k c o h = absurd cc

abbrev names_with : Option SeenColumn → List (List ℕ)
names_with o = codes "key" ∷ codes "count" ∷ map (λ (e : List ℕ × SeenColumn). e.0) (value_named o)

no_value_names : (ks : List Class) (k c : Class) (o : Option SeenColumn) → length ks ≡ 2 → classes_ok ks ≡ classes_with k c o → names_with o ≡ column_names Count
no_value_names ks k c None l h = refl
no_value_names ks k c (Some v) l h = absurd (let e : ks ≡ k ∷ c ∷ v.class ∷ [] = cc in let f : length ks ≡ 3 = ap length e in omega (arith, f, l))

value_names : (o : Option SeenColumn) → (v : SeenColumn) × (o ≡ Some v) → names_with o ≡ codes "key" ∷ codes "count" ∷ codes "value" ∷ []
value_names o v = ap names_with v.1

pub columns_named : (m : Method) (key data' : Class) (g : GroupColumns) → summary_classes m key data' ≡ Ok (map (λ c. c.class) (all_columns g)) → map (λ e. e.0) (named_columns g) ≡ column_names m
columns_named Count key data' g h = no_value_names (class_of (kind_of key) ∷ class.Double ∷ []) g.key.class g.count.class g.value refl h
columns_named Sum key data' g h = value_names g.value (with_value_names (kind_of key) (method_kind Sum (kind_of data')) g.key.class g.count.class g.value h)
columns_named SumNative key data' g h = value_names g.value (with_value_names (kind_of key) (method_kind SumNative (kind_of data')) g.key.class g.count.class g.value h)
columns_named Min key data' g h = value_names g.value (with_value_names (kind_of key) (method_kind Min (kind_of data')) g.key.class g.count.class g.value h)
columns_named Max key data' g h = value_names g.value (with_value_names (kind_of key) (method_kind Max (kind_of data')) g.key.class g.count.class g.value h)
columns_named Nnz key data' g h = value_names g.value (with_value_names (kind_of key) (method_kind Nnz (kind_of data')) g.key.class g.count.class g.value h)
columns_named Nummissing key data' g h = value_names g.value (with_value_names (kind_of key) (method_kind Nummissing (kind_of data')) g.key.class g.count.class g.value h)

-- ---- the columns of the table

columns_by_value : (k c : SeenColumn) (o : Option SeenColumn) → map (λ (e : List ℕ × SeenColumn). e.1) (value_named o) ≡ if_some o
columns_by_value k c (Some v) = refl
columns_by_value k c None = refl

pub named_are : (g : GroupColumns) → columns_in (named_columns g) ≡ all_columns g
named_are g = ap (λ cs. g.key ∷ g.count ∷ cs) (columns_by_value g.key g.count g.value)
