-- What the functions of columns give has the kind that the table of their classes says.
use Rattle.std.specs.Prelude.{◌≡◌, ℕ, ℤ, pos, Bool, true, false, if◌then◌else◌, Option, None, Some, Result, Ok, Err, List, [], ◌∷◌, refl}
use Rattle.std.proofs.Common.{ap, sym, subst, ◌∙◌}
use Rattle.std.specs.List.{All, filter, filter_map, list_any}
use Rattle.std.specs.Ordering.{is_lt}
use Rattle.std.proofs.lemmas.List.Elements.{All-nil, All-head, All-tail, All-cons, All-append, All-filter}
use Rattle.tall_value.specs.declared.class.IntKind.{IntKind}
use Rattle.tall_value.specs.declared.class.Kind.{Kind}
use Rattle.tall_value.specs.declared.class.Kind.TheVariants.{Integer, Logical, Double, Text}
use Rattle.tall_value.specs.declared.faults.CellFault.{CellFault}
use Rattle.tall_value.specs.declared.faults.FaultKind.{FaultKind}
use Rattle.tall_value.specs.declared.functions.Reduction.{Reduction}
use Rattle.tall_value.specs.declared.functions.Reduction.TheVariants as reduction
use Rattle.tall_value.specs.declared.functions.Scan.{Scan}
use Rattle.tall_value.specs.declared.functions.Scan.TheVariants.{CumSum, CumMin, CumMax}
use Rattle.tall_value.specs.Cells.{Seen, whole, logical, double, text, seen_kind, amount, is_nan}
use Rattle.tall_value.specs.CellOrder.{cell_order}
use Rattle.tall_value.specs.CellOperators.{to_double, double_cell, unary_cell, binary_cell}
use Rattle.tall_value.specs.Columns.{HasKind, RowHasKind}
use Rattle.tall_value.specs.ClassTables.{unary_kind, binary_kind}
use Rattle.tall_value.specs.declared.operators.Binary.{Binary}
use Rattle.tall_value.specs.declared.operators.Unary.{Unary}
use Rattle.tall_value.specs.Elementwise.{at_row, each_row, each_pair, unary_rows, binary_rows, beside, scalar_rows}
use Rattle.tall_value.specs.Distinct.{by_order, insert, ascending, distinct}
use Rattle.std.specs.declared.cmp.Ordering.{Ordering}
use Rattle.std.specs.declared.cmp.Ordering.TheVariants.{Less, Equal, Greater}
use Rattle.tall_value.specs.Reductions.{or_fault, is_present, present, exact_total, native_total, lesser, greater, fold, folded, or_no_rows, total, reduced}
use Rattle.tall_value.specs.Scans.{added, integer_sums, double_sums, better, bests, scanned}
use Rattle.tall_value.specs.FunctionClasses.{ordered_kind, logical_kind, reduction_kind, scan_kind}
use Rattle.tall_int.specs.Doubles.{whole_add}
use Rattle.tall_value.proofs.KindLaws.{same_ok, double_kind, number_ok, to_double_kind, unary_law, binary_law}

pub given : (d c : Seen) → ◌≡◌ {A = Result Seen FaultKind} (Ok d) (Ok c) → seen_kind c ≡ seen_kind d
given d c e = sym (ap seen_kind (same_ok d c e))

pub ordered_ok : (k j : Kind) → ordered_kind k ≡ Ok j → k ≡ j
ordered_ok (Integer i) j h = same_ok (Integer i) j h
ordered_ok Logical j h = absurd cc
ordered_ok Double j h = same_ok Double j h
ordered_ok Text j h = absurd cc

logical_ok : (k j : Kind) → logical_kind k ≡ Ok j → Logical ≡ j
logical_ok (Integer i) j h = absurd cc
logical_ok Logical j h = same_ok Logical j h
logical_ok Double j h = absurd cc
logical_ok Text j h = absurd cc

-- ---- sums

pub exact_of : (r : Result Seen CellFault) (c : Seen) → or_fault r ≡ Ok c → r ≡ Ok c
exact_of (Ok d) c e = ap (λ (x : Seen). Ok x) (same_ok d c e)
exact_of (Err f) c e = absurd cc

pub exact_kind : (cs : List Seen) (c : Seen) → exact_total cs ≡ Ok c → HasKind Double c
exact_kind cs c e =
    let d = (if list_any is_nan cs then None else Some (total (filter_map amount cs)))
    in to_double_kind d c (exact_of (to_double d) c e)

pub native_kind : (k j : Kind) (cs : List Seen) (c : Seen) → ordered_kind k ≡ Ok j → native_total k cs ≡ Ok c → HasKind j c
native_kind (Integer i) j cs c h e = given (whole i _) c e ∙ same_ok (Integer i) j h
native_kind Logical j cs c h e = absurd cc
native_kind Double j cs c h e = exact_kind cs c e ∙ same_ok Double j h
native_kind Text j cs c h e = absurd cc

-- ---- the least and the greatest

one_of : (b : Bool) (k : Kind) (c d : Seen) → HasKind k c → HasKind k d → HasKind k (if b then d else c)
one_of true k c d p q = q
one_of false k c d p q = p

pub lesser_kind : (k : Kind) (c d : Seen) → HasKind k c → HasKind k d → HasKind k (lesser c d)
lesser_kind k c d p q = one_of (is_lt (cell_order d c)) k c d p q

pub greater_kind : (k : Kind) (c d : Seen) → HasKind k c → HasKind k d → HasKind k (greater c d)
greater_kind k c d p q = one_of (is_lt (cell_order c d)) k c d p q

pub fold_kind : (f : Seen → Seen → Seen) (k : Kind) → ((c d : Seen) → HasKind k c → HasKind k d → HasKind k (f c d)) → (c : Seen) (ds : List Seen) → HasKind k c → All (HasKind k) ds → HasKind k (fold f c ds)
fold_kind f k keeps c [] p all = p
fold_kind f k keeps c (d ∷ ds) p all = fold_kind f k keeps (f c d) ds (keeps c d p (All-head (HasKind k) d ds all)) (All-tail (HasKind k) d ds all)

folded_kind : (f : Seen → Seen → Seen) (k : Kind) → ((c d : Seen) → HasKind k c → HasKind k d → HasKind k (f c d)) → (cs : List Seen) (c : Seen) → All (HasKind k) cs → or_no_rows (folded f cs) ≡ Ok c → HasKind k c
folded_kind f k keeps [] c all e = absurd cc
folded_kind f k keeps (d ∷ ds) c all e = given (fold f d ds) c e ∙ fold_kind f k keeps d ds (All-head (HasKind k) d ds all) (All-tail (HasKind k) d ds all)

pub reduced_kind : (r : Reduction) (k j : Kind) (cs : List Seen) (c : Seen) → All (HasKind k) cs → reduction_kind r k ≡ Ok j → reduced r k cs ≡ Ok c → HasKind j c
reduced_kind (reduction.Sum false false) k j cs c all h e = exact_kind cs c e ∙ number_ok k Double j h
reduced_kind (reduction.Sum false true) k j cs c all h e = exact_kind (present cs) c e ∙ number_ok k Double j h
reduced_kind (reduction.Sum true false) k j cs c all h e = native_kind k j cs c h e
reduced_kind (reduction.Sum true true) k j cs c all h e = native_kind k j (present cs) c h e
reduced_kind reduction.Min k j cs c all h e = folded_kind lesser k (lesser_kind k) (present cs) c (All-filter is_present (HasKind k) cs all) e ∙ ordered_ok k j h
reduced_kind reduction.Max k j cs c all h e = folded_kind greater k (greater_kind k) (present cs) c (All-filter is_present (HasKind k) cs all) e ∙ ordered_ok k j h
reduced_kind reduction.Any k j cs c all h e = given (logical _) c e ∙ logical_ok k j h
reduced_kind reduction.All k j cs c all h e = given (logical _) c e ∙ logical_ok k j h
reduced_kind reduction.Nnz k j cs c all h e = given (double _) c e ∙ number_ok k Double j h
reduced_kind reduction.Numel k j cs c all h e = given (double _) c e ∙ same_ok Double j h
reduced_kind reduction.Height k j cs c all h e = given (double _) c e ∙ same_ok Double j h

-- ---- scans

same_rows : (P : (ℕ × Seen) → Type 0) (xs ys : List (ℕ × Seen)) → ◌≡◌ {A = Result (List (ℕ × Seen)) (ℕ × CellFault)} (Ok xs) (Ok ys) → All P xs → All P ys
same_rows P xs ys e all = subst (All P) (same_ok xs ys e) all

integer_sums_kind : (i : IntKind) (n : ℤ) (rows : List (ℕ × Seen)) → All (RowHasKind (Integer i)) (integer_sums i n rows)
integer_sums_kind i n [] = All-nil (RowHasKind (Integer i))
integer_sums_kind i n (r ∷ rows) = All-cons (RowHasKind (Integer i)) _ _ refl (integer_sums_kind i (added i n (amount r.1)) rows)

at_row_kind : (k : Kind) (row : ℕ) (d : Result Seen CellFault) (rest : Result (List (ℕ × Seen)) (ℕ × CellFault)) (outs : List (ℕ × Seen)) → ((c : Seen) → d ≡ Ok c → HasKind k c) → ((os : List (ℕ × Seen)) → rest ≡ Ok os → All (RowHasKind k) os) → at_row row d rest ≡ Ok outs → All (RowHasKind k) outs
at_row_kind k row (Ok c) (Ok os) outs p q e = same_rows (RowHasKind k) ((row, c) ∷ os) outs e (All-cons (RowHasKind k) (row, c) os (p c refl) (q os refl))
at_row_kind k row (Ok c) (Err f) outs p q e = absurd cc
at_row_kind k row (Err f) rest outs p q e = absurd cc

double_sums_kind : (sum : Option ℤ) (rows outs : List (ℕ × Seen)) → double_sums sum rows ≡ Ok outs → All (RowHasKind Double) outs
double_sums_kind sum [] outs e = same_rows (RowHasKind Double) [] outs e (All-nil (RowHasKind Double))
double_sums_kind sum (r ∷ rows) outs e =
    at_row_kind Double r.0 (double_cell (whole_add sum (amount r.1))) _ outs
    (λ c d. double_kind (whole_add sum (amount r.1)) c d)
    (λ os d. double_sums_kind (elim (whole_add sum (amount r.1)) [ Ok d' ↦ d' | Err e' ↦ None ]) rows os d)
    e

better_kind : (f : Seen → Seen → Seen) (k : Kind) → ((c d : Seen) → HasKind k c → HasKind k d → HasKind k (f c d)) → (best c : Seen) → HasKind k best → HasKind k c → HasKind k (better f best c)
better_kind f k keeps (double None) c p q = q
better_kind f k keeps (whole i m) (whole l n) p q = keeps (whole i m) (whole l n) p q
better_kind f k keeps (whole i m) (logical b) p q = keeps (whole i m) (logical b) p q
better_kind f k keeps (whole i m) (double None) p q = p
better_kind f k keeps (whole i m) (double (Some n)) p q = keeps (whole i m) (double (Some n)) p q
better_kind f k keeps (whole i m) (text u) p q = keeps (whole i m) (text u) p q
better_kind f k keeps (logical a) (whole l n) p q = keeps (logical a) (whole l n) p q
better_kind f k keeps (logical a) (logical b) p q = keeps (logical a) (logical b) p q
better_kind f k keeps (logical a) (double None) p q = p
better_kind f k keeps (logical a) (double (Some n)) p q = keeps (logical a) (double (Some n)) p q
better_kind f k keeps (logical a) (text u) p q = keeps (logical a) (text u) p q
better_kind f k keeps (double (Some m)) (whole l n) p q = keeps (double (Some m)) (whole l n) p q
better_kind f k keeps (double (Some m)) (logical b) p q = keeps (double (Some m)) (logical b) p q
better_kind f k keeps (double (Some m)) (double None) p q = p
better_kind f k keeps (double (Some m)) (double (Some n)) p q = keeps (double (Some m)) (double (Some n)) p q
better_kind f k keeps (double (Some m)) (text u) p q = keeps (double (Some m)) (text u) p q
better_kind f k keeps (text t) (whole l n) p q = keeps (text t) (whole l n) p q
better_kind f k keeps (text t) (logical b) p q = keeps (text t) (logical b) p q
better_kind f k keeps (text t) (double None) p q = p
better_kind f k keeps (text t) (double (Some n)) p q = keeps (text t) (double (Some n)) p q
better_kind f k keeps (text t) (text u) p q = keeps (text t) (text u) p q

bests_kind : (f : Seen → Seen → Seen) (k : Kind) → ((c d : Seen) → HasKind k c → HasKind k d → HasKind k (f c d)) → (best : Seen) (rows : List (ℕ × Seen)) → HasKind k best → All (RowHasKind k) rows → All (RowHasKind k) (bests f best rows)
bests_kind f k keeps best [] p all = All-nil (RowHasKind k)
bests_kind f k keeps best (r ∷ rows) p all =
    let next = better_kind f k keeps best r.1 p (All-head (RowHasKind k) r rows all)
    in All-cons (RowHasKind k) _ _ next (bests_kind f k keeps (better f best r.1) rows next (All-tail (RowHasKind k) r rows all))

-- before the first row there is no best cell
first_best : (f : Seen → Seen → Seen) (k : Kind) → ((c d : Seen) → HasKind k c → HasKind k d → HasKind k (f c d)) → (rows : List (ℕ × Seen)) → All (RowHasKind k) rows → All (RowHasKind k) (bests f (double None) rows)
first_best f k keeps [] all = All-nil (RowHasKind k)
first_best f k keeps (r ∷ rows) all =
    All-cons (RowHasKind k) _ _ (All-head (RowHasKind k) r rows all) (bests_kind f k keeps r.1 rows (All-head (RowHasKind k) r rows all) (All-tail (RowHasKind k) r rows all))

scan_bests : (f : Seen → Seen → Seen) (k j : Kind) (rows outs : List (ℕ × Seen)) → ((c d : Seen) → HasKind k c → HasKind k d → HasKind k (f c d)) → All (RowHasKind k) rows → ordered_kind k ≡ Ok j → ◌≡◌ {A = Result (List (ℕ × Seen)) (ℕ × CellFault)} (Ok (bests f (double None) rows)) (Ok outs) → All (RowHasKind j) outs
scan_bests f k j rows outs keeps all h e = subst (λ (i : Kind). All (RowHasKind i) outs) (ordered_ok k j h) (same_rows (RowHasKind k) _ outs e (first_best f k keeps rows all))

sums_kind : (k j : Kind) (rows outs : List (ℕ × Seen)) → scan_kind CumSum k ≡ Ok j → scanned CumSum k rows ≡ Ok outs → All (RowHasKind j) outs
sums_kind (Integer i) j rows outs h e = subst (λ (l : Kind). All (RowHasKind l) outs) (same_ok (Integer i) j h) (same_rows (RowHasKind (Integer i)) _ outs e (integer_sums_kind i (pos 0) rows))
sums_kind Logical j rows outs h e = subst (λ (l : Kind). All (RowHasKind l) outs) (same_ok Double j h) (double_sums_kind (Some (pos 0)) rows outs e)
sums_kind Double j rows outs h e = subst (λ (l : Kind). All (RowHasKind l) outs) (same_ok Double j h) (double_sums_kind (Some (pos 0)) rows outs e)
sums_kind Text j rows outs h e = absurd cc

pub scanned_kind : (s : Scan) (k j : Kind) (rows outs : List (ℕ × Seen)) → All (RowHasKind k) rows → scan_kind s k ≡ Ok j → scanned s k rows ≡ Ok outs → All (RowHasKind j) outs
scanned_kind CumSum k j rows outs all h e = sums_kind k j rows outs h e
scanned_kind CumMin k j rows outs all h e = scan_bests lesser k j rows outs (lesser_kind k) all h e
scanned_kind CumMax k j rows outs all h e = scan_bests greater k j rows outs (greater_kind k) all h e

-- ---- row by row

each_row_kind : (f : Seen → Result Seen CellFault) (k j : Kind) (rows outs : List (ℕ × Seen)) → ((x c : Seen) → HasKind k x → f x ≡ Ok c → HasKind j c) → All (RowHasKind k) rows → each_row f rows ≡ Ok outs → All (RowHasKind j) outs
each_row_kind f k j [] outs p all e = same_rows (RowHasKind j) [] outs e (All-nil (RowHasKind j))
each_row_kind f k j (r ∷ rows) outs p all e =
    at_row_kind j r.0 (f r.1) (each_row f rows) outs
    (λ c d. p r.1 c (All-head (RowHasKind k) r rows all) d)
    (λ os d. each_row_kind f k j rows os p (All-tail (RowHasKind k) r rows all) d)
    e

each_pair_kind : (f : Seen → Seen → Result Seen CellFault) (k l j : Kind) (rows others outs : List (ℕ × Seen)) → ((x y c : Seen) → HasKind k x → HasKind l y → f x y ≡ Ok c → HasKind j c) → All (RowHasKind k) rows → All (RowHasKind l) others → each_pair f rows others ≡ Ok outs → All (RowHasKind j) outs
each_pair_kind f k l j [] others outs p a b e = same_rows (RowHasKind j) [] outs e (All-nil (RowHasKind j))
each_pair_kind f k l j (r ∷ rows) [] outs p a b e = same_rows (RowHasKind j) [] outs e (All-nil (RowHasKind j))
each_pair_kind f k l j (r ∷ rows) (s ∷ others) outs p a b e =
    at_row_kind j r.0 (f r.1 s.1) (each_pair f rows others) outs
    (λ c d. p r.1 s.1 c (All-head (RowHasKind k) r rows a) (All-head (RowHasKind l) s others b) d)
    (λ os d. each_pair_kind f k l j rows others os p (All-tail (RowHasKind k) r rows a) (All-tail (RowHasKind l) s others b) d)
    e

pub unary_rows_kind : (op : Unary) (k j : Kind) (rows outs : List (ℕ × Seen)) → All (RowHasKind k) rows → unary_kind op k ≡ Ok j → unary_rows op rows ≡ Ok outs → All (RowHasKind j) outs
unary_rows_kind op k j rows outs all h e =
    each_row_kind (unary_cell op) k j rows outs (λ x c p d. unary_law op x c j (ap (unary_kind op) p ∙ h) d) all e

two_kinds : (op : Binary) (s t : Bool) (k l j : Kind) (x y c : Seen) → HasKind k x → HasKind l y → binary_kind op k s l t ≡ Ok j → binary_cell op x y ≡ Ok c → HasKind j c
two_kinds op s t k l j x y c p q h e =
    binary_law op x y c s t j
    (ap (λ (a : Kind). binary_kind op a s (seen_kind y) t) p ∙ ap (λ (b : Kind). binary_kind op k s b t) q ∙ h)
    e

pub binary_rows_kind : (op : Binary) (k l j : Kind) (rows others outs : List (ℕ × Seen)) → All (RowHasKind k) rows → All (RowHasKind l) others → binary_kind op k false l false ≡ Ok j → binary_rows op rows others ≡ Ok outs → All (RowHasKind j) outs
binary_rows_kind op k l j rows others outs a b h e =
    each_pair_kind (binary_cell op) k l j rows others outs (λ x y c p q d. two_kinds op false false k l j x y c p q h d) a b e

pub scalar_left_kind : (op : Binary) (x : Seen) (k j : Kind) (rows outs : List (ℕ × Seen)) → All (RowHasKind k) rows → binary_kind op (seen_kind x) true k false ≡ Ok j → scalar_rows op true x rows ≡ Ok outs → All (RowHasKind j) outs
scalar_left_kind op x k j rows outs all h e =
    each_row_kind (beside op true x) k j rows outs (λ y c q d. two_kinds op true false (seen_kind x) k j x y c refl q h d) all e

pub scalar_right_kind : (op : Binary) (x : Seen) (k j : Kind) (rows outs : List (ℕ × Seen)) → All (RowHasKind k) rows → binary_kind op k false (seen_kind x) true ≡ Ok j → scalar_rows op false x rows ≡ Ok outs → All (RowHasKind j) outs
scalar_right_kind op x k j rows outs all h e =
    each_row_kind (beside op false x) k j rows outs (λ y c q d. two_kinds op false true k (seen_kind x) j y x c q refl h d) all e

-- ---- distinct values

by_order_all : (P : Seen → Type 0) (o : Ordering) (a b c : List Seen) → All P a → All P b → All P c → All P (by_order o a b c)
by_order_all P Less a b c p q r = p
by_order_all P Equal a b c p q r = q
by_order_all P Greater a b c p q r = r

insert_all : (P : Seen → Type 0) (c : Seen) (ds : List Seen) → P c → All P ds → All P (insert c ds)
insert_all P c [] p all = All-cons P c [] p (All-nil P)
insert_all P c (d ∷ ds) p all =
    by_order_all P (cell_order c d) (c ∷ d ∷ ds) (d ∷ ds) (d ∷ insert c ds)
    (All-cons P c (d ∷ ds) p all)
    all
    (All-cons P d (insert c ds) (All-head P d ds all) (insert_all P c ds p (All-tail P d ds all)))

pub ascending_all : (P : Seen → Type 0) (cs : List Seen) → All P cs → All P (ascending cs)
ascending_all P [] all = All-nil P
ascending_all P (c ∷ cs) all = insert_all P c (ascending cs) (All-head P c cs all) (ascending_all P cs (All-tail P c cs all))

pub distinct_kind : (k : Kind) (cs : List Seen) → All (HasKind k) cs → All (HasKind k) (distinct cs)
distinct_kind k cs all =
    All-append (HasKind k) (ascending (present cs)) (filter is_nan cs)
    (ascending_all (HasKind k) (present cs) (All-filter is_present (HasKind k) cs all))
    (All-filter is_nan (HasKind k) cs all)
