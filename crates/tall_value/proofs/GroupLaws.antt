-- The columns of `groupsummary` have the kinds that the table of its classes says.
use Rattle.std.specs.Prelude.{◌≡◌, refl, Bool, true, false, if◌then◌else◌, None, Some, Result, Ok, Err, List, [], ◌∷◌, length, map}
use Rattle.std.proofs.Common.{ap, sym, subst, ◌∙◌, arith}
use Rattle.std.specs.List.{All, filter, list_any}
use Rattle.std.specs.Ordering.{is_eq}
use Rattle.std.proofs.lemmas.Cmp.{tied_itself}
use Rattle.std.proofs.lemmas.List.Elements.{All-nil, All-head, All-tail, All-cons, All-append, All-filter, All-same}
use Rattle.tall_value.specs.declared.class.IntKind.{IntKind}
use Rattle.tall_value.specs.declared.class.Kind.{Kind}
use Rattle.tall_value.specs.declared.class.Kind.TheVariants.{Integer, Logical, Double, Text}
use Rattle.tall_value.specs.declared.faults.ClassFault.{ClassFault}
use Rattle.tall_value.specs.declared.faults.FaultKind.{FaultKind}
use Rattle.tall_value.specs.declared.functions.Method.{Method}
use Rattle.tall_value.specs.declared.functions.Method.TheVariants.{Count, Sum, SumNative, Min, Max, Nnz, Nummissing}
use Rattle.tall_value.specs.Cells.{Seen, whole, logical, double, text, is_nan}
use Rattle.tall_value.specs.Columns.{HasKind}
use Rattle.tall_value.specs.Reductions.{is_present, present, lesser, greater, folded, count}
use Rattle.tall_value.specs.Distinct.{ascending}
use Rattle.tall_value.specs.Elementwise.{in_front}
use Rattle.tall_value.specs.FunctionClasses.{ordered_kind, method_kind, summary_kinds}
use Rattle.tall_value.specs.GroupKinds.{HaveKinds}
use Rattle.tall_value.specs.Groups.{group_keys, is_of_group, group_data, group_counts, or_nan, group_value, with_value, all_values, group_values}
use Rattle.tall_value.specs.GroupSummary.{summary_columns}
use Rattle.tall_value.proofs.KindLaws.{same_ok, number_ok}
use Rattle.tall_value.proofs.OrderLaws.{cells_total}
use Rattle.tall_value.proofs.FunctionLaws.{given, ordered_ok, exact_kind, native_kind, lesser_kind, greater_kind, fold_kind, ascending_all}

all_more : (P Q : Seen → Type 0) → ((c : Seen) → P c → Q c) → (cs : List Seen) → All P cs → All Q cs
all_more P Q f [] all = All-nil Q
all_more P Q f (c ∷ cs) all = All-cons Q c cs (f c (All-head P c cs all)) (all_more P Q f cs (All-tail P c cs all))

-- ---- each group has a row

abbrev NotEmpty : List Seen → Type 0
NotEmpty [] = ⊥
NotEmpty (c ∷ cs) = Unit {0}

HasRows : (keys data' : List Seen) → Seen → Type 0
HasRows keys data' key = NotEmpty (group_data key keys data')

taken : (b : Bool) (d : Seen) (ds : List Seen) → b ≡ true → NotEmpty (if b then d ∷ ds else ds)
taken true d ds h = tt
taken false d ds h = absurd cc

kept : (b : Bool) (d : Seen) (ds : List Seen) → NotEmpty ds → NotEmpty (if b then d ∷ ds else ds)
kept true d ds h = tt
kept false d ds h = h

of_itself : (c : Seen) → is_of_group c c ≡ true
of_itself c = ap is_eq (tied_itself cells_total c)

own_rows : (keys data' : List Seen) → length keys ≡ length data' → All (HasRows keys data') keys
unfolding HasRows
own_rows [] data' e = All-nil (HasRows [] data')
own_rows (k ∷ keys) [] e = absurd (omega (arith, e))
own_rows (k ∷ keys) (d ∷ data') e =
    All-cons (HasRows (k ∷ keys) (d ∷ data')) k keys (taken (is_of_group k k) d (group_data k keys data') (of_itself k))
    (all_more (HasRows keys data') (HasRows (k ∷ keys) (d ∷ data')) (λ key h. kept (is_of_group key k) d (group_data key keys data') h) keys (own_rows keys data' (omega (arith, e))))

-- what holds of each cell holds of each key, where NaN has it once a cell is NaN
nan_part : (P : Seen → Type 0) (b : Bool) → (b ≡ true → P (double None)) → All P (if b then double None ∷ [] else [])
nan_part P true h = All-cons P (double None) [] (h refl) (All-nil P)
nan_part P false h = All-nil P

nan_has : (P : Seen → Type 0) (cs : List Seen) → All P cs → list_any is_nan cs ≡ true → P (double None)
nan_has P [] all h = absurd cc
nan_has P (double None ∷ cs) all h = All-head P (double None) cs all
nan_has P (double (Some n) ∷ cs) all h = nan_has P cs (All-tail P (double (Some n)) cs all) h
nan_has P (whole k n ∷ cs) all h = nan_has P cs (All-tail P (whole k n) cs all) h
nan_has P (logical b ∷ cs) all h = nan_has P cs (All-tail P (logical b) cs all) h
nan_has P (text t ∷ cs) all h = nan_has P cs (All-tail P (text t) cs all) h

keys_all : (P : Seen → Type 0) (cs : List Seen) → All P cs → All P (group_keys cs)
keys_all P cs all =
    All-append P (ascending (present cs)) (if list_any is_nan cs then double None ∷ [] else [])
    (ascending_all P (present cs) (All-filter is_present P cs all))
    (nan_part P (list_any is_nan cs) (nan_has P cs all))

-- ---- the data of a group

data_kind : (P : Seen → Type 0) (key : Seen) (keys data' : List Seen) → All P data' → All P (group_data key keys data')
data_kind P key [] data' all = All-nil P
data_kind P key (k ∷ keys) [] all = All-nil P
data_kind P key (k ∷ keys) (d ∷ data') all = by_test (is_of_group key k) (data_kind P key keys data' (All-tail P d data' all))
  where
    by_test : (b : Bool) → All P (group_data key keys data') → All P (if b then d ∷ group_data key keys data' else group_data key keys data')
    by_test true rest = All-cons P d (group_data key keys data') (All-head P d data' all) rest
    by_test false rest = rest

-- integers aren't NaN
integer_there : (i : IntKind) (f : Seen → Seen → Seen) (cs : List Seen) → NotEmpty cs → All (HasKind (Integer i)) cs → (c : Seen) × (ds : List Seen) × (present cs ≡ c ∷ ds)
integer_there i f [] h all = absurd h
integer_there i f (whole k n ∷ cs) h all = (whole k n, present cs, refl)
integer_there i f (logical b ∷ cs) h all = absurd (let e : Logical ≡ Integer i = All-head (HasKind (Integer i)) (logical b) cs all in cc)
integer_there i f (double d ∷ cs) h all = absurd (let e : Double ≡ Integer i = All-head (HasKind (Integer i)) (double d) cs all in cc)
integer_there i f (text t ∷ cs) h all = absurd (let e : Text ≡ Integer i = All-head (HasKind (Integer i)) (text t) cs all in cc)

abbrev Keeps : (Seen → Seen → Seen) → Kind → Type 0
Keeps f k = (c d : Seen) → HasKind k c → HasKind k d → HasKind k (f c d)

folded_all : (f : Seen → Seen → Seen) (k : Kind) → Keeps f k → (cs : List Seen) → All (HasKind k) cs → (c : Seen) → folded f cs ≡ Some c → HasKind k c
folded_all f k keeps [] all c e = absurd cc
folded_all f k keeps (d ∷ ds) all c e =
    subst (HasKind k) (ap or_nan e) (fold_kind f k keeps d ds (All-head (HasKind k) d ds all) (All-tail (HasKind k) d ds all))

best_double : (f : Seen → Seen → Seen) → Keeps f Double → (cs : List Seen) → All (HasKind Double) cs → HasKind Double (or_nan (folded f cs))
best_double f keeps [] all = refl
best_double f keeps (d ∷ ds) all = fold_kind f Double keeps d ds (All-head (HasKind Double) d ds all) (All-tail (HasKind Double) d ds all)

best_integer : (i : IntKind) (f : Seen → Seen → Seen) → Keeps f (Integer i) → (cs : List Seen) → NotEmpty cs → All (HasKind (Integer i)) cs → HasKind (Integer i) (or_nan (folded f (present cs)))
best_integer i f keeps cs there all =
    let w = integer_there i f cs there all in
    let p : All (HasKind (Integer i)) (w.0 ∷ w.1) = All-same (HasKind (Integer i)) (w.0 ∷ w.1) (present cs) (sym w.2) (All-filter is_present (HasKind (Integer i)) cs all) in
    subst (λ ds. HasKind (Integer i) (or_nan (folded f ds))) (sym w.2)
    (fold_kind f (Integer i) keeps w.0 w.1 (All-head (HasKind (Integer i)) w.0 w.1 p) (All-tail (HasKind (Integer i)) w.0 w.1 p))

best_kind : (f : Seen → Seen → Seen) (a j : Kind) → Keeps f a → (cs : List Seen) → NotEmpty cs → All (HasKind a) cs → ordered_kind a ≡ Ok j → HasKind j (or_nan (folded f (present cs)))
best_kind f (Integer i) j keeps cs there all h = best_integer i f keeps cs there all ∙ ordered_ok (Integer i) j h
best_kind f Logical j keeps cs there all h = absurd cc
best_kind f Double j keeps cs there all h = best_double f keeps (present cs) (All-filter is_present (HasKind Double) cs all) ∙ ordered_ok Double j h
best_kind f Text j keeps cs there all h = absurd cc

value_kind : (m : Method) (a j : Kind) (cs : List Seen) (c : Seen) → NotEmpty cs → All (HasKind a) cs → method_kind m a ≡ Ok j → group_value m a cs ≡ Ok c → HasKind j c
value_kind Count a j cs c there all h e = given (count cs) c e ∙ same_ok Double j h
value_kind Sum a j cs c there all h e = exact_kind (present cs) c e ∙ number_ok a Double j h
value_kind SumNative a j cs c there all h e = native_kind a j (present cs) c h e
value_kind Min a j cs c there all h e = given (or_nan (folded lesser (present cs))) c e ∙ best_kind lesser a j (lesser_kind a) cs there all h
value_kind Max a j cs c there all h e = given (or_nan (folded greater (present cs))) c e ∙ best_kind greater a j (greater_kind a) cs there all h
value_kind Nnz a j cs c there all h e = given (double _) c e ∙ number_ok a Double j h
value_kind Nummissing a j cs c there all h e = given (double _) c e ∙ same_ok Double j h

-- ---- the columns

counts_kind : (f : Seen → List Seen) (keys : List Seen) → All (HasKind Double) (map (λ key. count (f key)) keys)
counts_kind f [] = All-nil (HasKind Double)
counts_kind f (k ∷ keys) = All-cons (HasKind Double) (count (f k)) (map (λ key. count (f key)) keys) refl (counts_kind f keys)

abbrev cells_ok : List Seen → Result (List Seen) FaultKind
cells_ok cs = Ok cs

front_kind : (j : Kind) (r : Result Seen FaultKind) (rest : Result (List Seen) FaultKind) (vs : List Seen) → ((c : Seen) → r ≡ Ok c → HasKind j c) → ((us : List Seen) → rest ≡ cells_ok us → All (HasKind j) us) → with_value r rest ≡ cells_ok vs → All (HasKind j) vs
front_kind j (Ok c) (Ok us) vs p q e = All-same (HasKind j) vs (c ∷ us) (sym (same_ok (c ∷ us) vs e)) (All-cons (HasKind j) c us (p c refl) (q us refl))
front_kind j (Ok c) (Err f) vs p q e = absurd cc
front_kind j (Err f) rest vs p q e = absurd cc

values_kind : (P : Seen → Type 0) (j : Kind) (f : Seen → Result Seen FaultKind) → ((key c : Seen) → P key → f key ≡ Ok c → HasKind j c) → (keys vs : List Seen) → All P keys → all_values (map f keys) ≡ cells_ok vs → All (HasKind j) vs
values_kind P j f h [] vs all e = All-same (HasKind j) vs [] (sym (same_ok [] vs e)) (All-nil (HasKind j))
values_kind P j f h (k ∷ keys) vs all e =
    front_kind j (f k) (all_values (map f keys)) vs (λ c q. h k c (All-head P k keys all) q) (λ us q. values_kind P j f h keys us (All-tail P k keys all) q) e

group_values_kind : (m : Method) (a j : Kind) (keys data' vs : List Seen) → length keys ≡ length data' → All (HasKind a) data' → method_kind m a ≡ Ok j → group_values m a keys data' ≡ cells_ok vs → All (HasKind j) vs
unfolding HasRows
group_values_kind m a j keys data' vs e all h g =
    values_kind (HasRows keys data') j (λ key. group_value m a (group_data key keys data'))
    (λ key c there q. value_kind m a j (group_data key keys data') c there (data_kind (HasKind a) key keys data' all) h q)
    (group_keys keys) vs (keys_all (HasRows keys data') keys (own_rows keys data' e)) g

abbrev columns_ok : List (List Seen) → Result (List (List Seen)) FaultKind
columns_ok cs = Ok cs

abbrev kinds_ok : List Kind → Result (List Kind) ClassFault
kinds_ok ks = Ok ks

of_parts : (key : Kind) (kinds ks : List Kind) (first second : List Seen) (rest : Result (List (List Seen)) FaultKind) (columns : List (List Seen)) → key ∷ Double ∷ kinds ≡ ks → All (HasKind key) first → All (HasKind Double) second → ((us : List (List Seen)) → rest ≡ columns_ok us → HaveKinds kinds us) → in_front first (in_front second rest) ≡ columns_ok columns → HaveKinds ks columns
of_parts key kinds ks first second (Ok us) columns k p q h e = subst (λ x. HaveKinds x columns) k (subst (HaveKinds (key ∷ Double ∷ kinds)) (same_ok (first ∷ second ∷ us) columns e) (p, (q, h us refl)))
of_parts key kinds ks first second (Err f) columns k p q h e = absurd cc

one_column : (j : Kind) (r : Result (List Seen) FaultKind) (us : List (List Seen)) → ((vs : List Seen) → r ≡ cells_ok vs → All (HasKind j) vs) → (elim r [ Ok values ↦ columns_ok (values ∷ []) | Err e ↦ Err e ]) ≡ columns_ok us → HaveKinds (j ∷ []) us
one_column j (Ok vs) us h e = subst (HaveKinds (j ∷ [])) (same_ok (vs ∷ []) us e) (h vs refl, tt)
one_column j (Err f) us h e = absurd cc

with_method : (key : Kind) (r : Result Kind ClassFault) (ks : List Kind) → (elim r [ Ok k ↦ kinds_ok (key ∷ Double ∷ k ∷ []) | Err e ↦ Err e ]) ≡ kinds_ok ks → (j : Kind) × (r ≡ Ok j) × (key ∷ Double ∷ j ∷ [] ≡ ks)
with_method key (Ok k) ks h = (k, refl, same_ok (key ∷ Double ∷ k ∷ []) ks h)
with_method key (Err e) ks h = absurd cc

abbrev Summarises : Method → Type 0
Summarises m = (key a : Kind) (kinds : List Kind) (keys data' : List Seen) (columns : List (List Seen)) → length keys ≡ length data' → All (HasKind key) keys → All (HasKind a) data' → summary_kinds m key a ≡ kinds_ok kinds → summary_columns m a keys data' ≡ columns_ok columns → HaveKinds kinds columns

key_column : (key : Kind) (keys : List Seen) → All (HasKind key) keys → All (HasKind key) (group_keys keys)
key_column key keys all = keys_all (HasKind key) keys all

count_column : (keys : List Seen) → All (HasKind Double) (group_counts keys)
count_column keys = counts_kind (λ key. filter (is_of_group key) keys) (group_keys keys)

-- with a method, for which both tables read so
of_method : (m : Method) (key a : Kind) (kinds : List Kind) (keys data' : List Seen) (columns : List (List Seen)) → length keys ≡ length data' → All (HasKind key) keys → All (HasKind a) data'
    → (elim (method_kind m a) [ Ok k ↦ kinds_ok (key ∷ Double ∷ k ∷ []) | Err e ↦ Err e ]) ≡ kinds_ok kinds
    → in_front (group_keys keys) (in_front (group_counts keys) (elim (group_values m a keys data') [ Ok values ↦ columns_ok (values ∷ []) | Err e ↦ Err e ])) ≡ columns_ok columns → HaveKinds kinds columns
of_method m key a kinds keys data' columns e p q h g =
    let w = with_method key (method_kind m a) kinds h in
    of_parts key (w.0 ∷ []) kinds (group_keys keys) (group_counts keys) (elim (group_values m a keys data') [ Ok values ↦ columns_ok (values ∷ []) | Err e ↦ Err e ]) columns w.2 (key_column key keys p) (count_column keys)
    (λ us z. one_column w.0 (group_values m a keys data') us (λ vs y. group_values_kind m a w.0 keys data' vs e q w.1 y) z) g

pub summary_kind : (m : Method) → Summarises m
summary_kind Count key a kinds keys data' columns e p q h g =
    of_parts key [] kinds (group_keys keys) (group_counts keys) (columns_ok []) columns (same_ok (key ∷ Double ∷ []) kinds h) (key_column key keys p) (count_column keys)
    (λ us z. subst (HaveKinds []) (same_ok [] us z) tt) g
summary_kind Sum key a kinds keys data' columns e p q h g = of_method Sum key a kinds keys data' columns e p q h g
summary_kind SumNative key a kinds keys data' columns e p q h g = of_method SumNative key a kinds keys data' columns e p q h g
summary_kind Min key a kinds keys data' columns e p q h g = of_method Min key a kinds keys data' columns e p q h g
summary_kind Max key a kinds keys data' columns e p q h g = of_method Max key a kinds keys data' columns e p q h g
summary_kind Nnz key a kinds keys data' columns e p q h g = of_method Nnz key a kinds keys data' columns e p q h g
summary_kind Nummissing key a kinds keys data' columns e p q h g = of_method Nummissing key a kinds keys data' columns e p q h g
