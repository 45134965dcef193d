-- The fold of a carry's rows, and scans from it on.
use Rattle.std.specs.Prelude.{Option, Some, None, Result, Ok, Err, IfOk, option_map}
use Rattle.std.proofs.Common.{ℕ, ◌≡◌, ◌+◌, ℤ, pos, ◌+ℤ◌, Bool, false, List, [], ◌∷◌, ◌++◌, map, refl, sym, ◌∙◌, ap, subst, arith}
use Rattle.std.specs.List.{All, filter_map}
use Rattle.std.specs.Int.{int_max, int_min}
use Rattle.std.proofs.lemmas.Int.{ints, clamps}
use Rattle.std.proofs.lemmas.List.Elements.{All-cons, All-head, All-nil, All-tail, filter_map-append}
use Rattle.tall_int.specs.Numbers.{nearest}
use Rattle.tall_int.specs.Sums.{clamped_sum}
use Rattle.tall_value.specs.declared.class.IntKind.{IntKind}
use Rattle.tall_value.specs.declared.class.Kind.{Kind}
use Rattle.tall_value.specs.declared.class.Kind.TheVariants.{Integer, Logical, Double, Text}
use Rattle.tall_value.specs.declared.faults.CellFault.{CellFault}
use Rattle.tall_value.specs.declared.faults.CellFault.TheVariants.{Inexact}
use Rattle.tall_value.specs.declared.functions.Scan.{Scan}
use Rattle.tall_value.specs.declared.functions.Scan.TheVariants.{CumSum, CumMin, CumMax}
use Rattle.tall_value.specs.Cells.{Seen, amount, double, whole}
use Rattle.tall_value.specs.CellOperators.{to_double}
use Rattle.tall_value.specs.Classes.{greatest, kind_of, least}
use Rattle.tall_value.specs.Columns.{numbered}
use Rattle.tall_value.specs.Elementwise.{at_row, in_front}
use Rattle.tall_value.specs.declared.class.Class.{Class}
use Rattle.tall_value.specs.ClassTables.{class_result}
use Rattle.tall_value.specs.FunctionClasses.{scan_kind}
use Rattle.tall_value.proofs.KindLaws.{kind_again, same_ok}
use Rattle.tall_fold.proofs.CarryLemmas.{class_is}
use Rattle.tall_dense.specs.Columns.{SeenColumn}
use Rattle.tall_dense.specs.Rows.{Answers}
use Rattle.tall_dense.specs.declared.faults.OpFault.{OpFault}
use Rattle.tall_dense.specs.declared.faults.OpFault.TheVariants.{At, Memory}
use Rattle.tall_value.proofs.SumLaws.{clamped_append}
use Rattle.tall_clamp.specs.Clamps.{apply, Sums}
use Rattle.tall_clamp.specs.Folds.{of_both}
use Rattle.tall_clamp.specs.FoldLaws.{int_max-assoc, int_min-assoc}
use Rattle.tall_clamp.specs.Outcomes.{picked}
use Rattle.tall_clamp.specs.declared.bounds.Bounds.{Bounds}
use Rattle.tall_fold.specs.Forms.{Form, exact_total, clamp_function, least_number, greatest_number, some_true, each_true, how_many, form_of, omits, total_unless_nan}
use Rattle.tall_value.specs.Reductions.{used, or_cell}
use Rattle.tall_fold.specs.Summaries.{low_of, high_of, number_cell}
use Rattle.tall_fold.specs.Carries.{InClass, IsCarry, IsFoldOf, IsMemory, IsScanFrom, next_best, next_sum, no_least, no_greatest, result_kind, running, scan_cell, scan_fold, scan_rows, SeenCarry}
use Rattle.tall_fold.specs.declared.kept.Kept.{Kept}
use Rattle.tall_fold.specs.declared.kept.Kept.TheVariants.{Total}
use Rattle.tall_fold.proofs.FinishLemmas.{sum_is_number, sum_of_clamp}
use Rattle.tall_fold.proofs.JoinLemmas.{ends_ordered, picked-append}

-- ---- the fold by its form

abbrev pub scan_by : Form → Kind → List Seen → Result Seen CellFault
scan_by exact_total a cs = to_double (total_unless_nan cs)
scan_by clamp_function a cs = Ok (number_cell a (clamped_sum (low_of a) (high_of a) (pos 0) (filter_map amount cs)))
scan_by least_number a cs = Ok (or_cell (no_least a) (option_map (number_cell a) (picked int_min (filter_map amount cs))))
scan_by greatest_number a cs = Ok (or_cell (no_greatest a) (option_map (number_cell a) (picked int_max (filter_map amount cs))))
scan_by some_true a cs = Err Inexact
scan_by each_true a cs = Err Inexact
scan_by how_many a cs = Err Inexact

scan_cell_is : (op : Scan) (a : Kind) (cs : List Seen) → scan_cell op a cs ≡ scan_by (form_of (scan_fold op a) a) a cs
scan_cell_is CumSum (Integer k) cs = refl
scan_cell_is CumSum Logical cs = refl
scan_cell_is CumSum Double cs = refl
scan_cell_is CumSum Text cs = refl
scan_cell_is CumMin a cs = refl
scan_cell_is CumMax a cs = refl

pub scan_cell_by : (f : Form) (op : Scan) (a : Kind) (cs : List Seen) → f ≡ form_of (scan_fold op a) a → scan_cell op a cs ≡ scan_by f a cs
scan_cell_by f op a cs h = scan_cell_is op a cs ∙ ap (λ (g : Form). scan_by g a cs) (sym h)

omits_none : (op : Scan) (a : Kind) → omits (scan_fold op a) ≡ false
omits_none CumSum (Integer k) = refl
omits_none CumSum Logical = refl
omits_none CumSum Double = refl
omits_none CumSum Text = refl
omits_none CumMin a = refl
omits_none CumMax a = refl

pub all_used : (op : Scan) (a : Kind) (cs : List Seen) → used (omits (scan_fold op a)) cs ≡ cs
all_used op a cs = ap (λ (b : Bool). used b cs) (omits_none op a)

-- ---- integers

pub integer_sum_is : (op : Scan) (k : IntKind) (cs : List Seen) (s : Bounds) (n : ℤ) → clamp_function ≡ form_of (scan_fold op (Integer k)) (Integer k)
    → Sums (least k) (greatest k) (filter_map amount cs) s → n ≡ apply s (pos 0) → scan_cell op (Integer k) cs ≡ Ok (whole k (nearest (least k) (greatest k) n))
integer_sum_is op k cs s n f h e =
    let sum = sum_of_clamp (Integer k) (filter_map amount cs) s n h e in
    scan_cell_by clamp_function op (Integer k) cs f
    ∙ ap (λ (m : ℤ). Ok (whole k m)) (sym (sum_is_number (Integer k) (filter_map amount cs)) ∙ ap (nearest (least k) (greatest k)) (sym sum))

-- ---- scans as running folds

module _ {V : Type 0} (op : Scan) (a : Kind) (next : Seen → Seen → Seen) (f : V → Seen)
    (step : (cs : List Seen) (c : Seen) (v : V) → InClass (f v) → scan_cell op a cs ≡ Ok c → scan_cell op a (cs ++ f v ∷ []) ≡ Ok (next c (f v))) where
  pub scan_is_running : (cs : List Seen) (c : Seen) (n : ℕ) (vs : List V) → All InClass (map f vs) → scan_cell op a cs ≡ Ok c
      → scan_rows op a cs (numbered n (map f vs)) ≡ Ok (numbered n (running next c (map f vs)))
  scan_is_running cs c n [] are h = refl
  scan_is_running cs c n (v ∷ vs) are h =
      let here = step cs c v (All-head InClass (f v) (map f vs) are) h in
      ap (λ (r : Result Seen CellFault). at_row n r (scan_rows op a (cs ++ f v ∷ []) (numbered (n + 1) (map f vs)))) here
      ∙ ap (λ (rest : Result (List (ℕ × Seen)) (ℕ × CellFault)). in_front (n, next c (f v)) rest)
      (scan_is_running (cs ++ f v ∷ []) (next c (f v)) (n + 1) vs (All-tail InClass (f v) (map f vs) are) here)

  pub scanned_if : {T E : Type 0} (r : Result T E) (items : T → List V) (start : V) (rows : List V) → IfOk r (λ t. map f (items t) ≡ running next (f start) (map f rows)) → IfOk r (λ t. All InClass (map f rows))
      → IfOk r (λ t. (cs : List Seen) → scan_cell op a cs ≡ Ok (f start) → scan_rows op a cs (numbered 0 (map f rows)) ≡ Ok (numbered 0 (map f (items t))))
  scanned_if (Ok t) items start rows p q = λ cs h. scan_is_running cs (f start) 0 rows q h ∙ ap (λ (l : List Seen). Ok (numbered 0 l)) (sym p)
  scanned_if (Err e) items start rows p q = tt

sum_step : (k : IntKind) (cs : List Seen) (c : Seen) (n : ℤ) → scan_cell CumSum (Integer k) cs ≡ Ok c → scan_cell CumSum (Integer k) (cs ++ whole k n ∷ []) ≡ Ok (next_sum c (whole k n))
sum_step k cs c n h =
    let sum = clamped_sum (least k) (greatest k) (pos 0) (filter_map amount cs) in
    ap (λ (l : List ℤ). Ok (whole k (clamped_sum (least k) (greatest k) (pos 0) l))) (filter_map-append amount cs (whole k n ∷ []))
    ∙ ap (λ (m : ℤ). Ok (whole k m)) (clamped_append (least k) (greatest k) (pos 0) (filter_map amount cs) (n ∷ []))
    ∙ ap (λ (d : Seen). Ok (next_sum d (whole k n))) (same_ok (whole k sum) c h)

-- what a first number makes of the other end of the class
first_least : (k : IntKind) (n : ℤ) (s : Option ℤ) → nearest (least k) (greatest k) n ≡ n
    → or_cell (whole k (greatest k)) (option_map (number_cell (Integer k)) (of_both int_min s (Some n))) ≡ next_best int_min (or_cell (whole k (greatest k)) (option_map (number_cell (Integer k)) s)) (whole k n)
first_least k n None h = (let o = ends_ordered (Integer k) in ap (whole k) (omega (arith, ints, clamps, h, o)))
first_least k n (Some m) h = refl

first_greatest : (k : IntKind) (n : ℤ) (s : Option ℤ) → nearest (least k) (greatest k) n ≡ n
    → or_cell (whole k (least k)) (option_map (number_cell (Integer k)) (of_both int_max s (Some n))) ≡ next_best int_max (or_cell (whole k (least k)) (option_map (number_cell (Integer k)) s)) (whole k n)
first_greatest k n None h = (let o = ends_ordered (Integer k) in ap (whole k) (omega (arith, ints, clamps, h, o)))
first_greatest k n (Some m) h = refl

min_step : (k : IntKind) (cs : List Seen) (c : Seen) (n : ℤ) → nearest (least k) (greatest k) n ≡ n → scan_cell CumMin (Integer k) cs ≡ Ok c
    → scan_cell CumMin (Integer k) (cs ++ whole k n ∷ []) ≡ Ok (next_best int_min c (whole k n))
min_step k cs c n within h =
    ap (λ (l : List ℤ). Ok (or_cell (whole k (greatest k)) (option_map (number_cell (Integer k)) (picked int_min l)))) (filter_map-append amount cs (whole k n ∷ []))
    ∙ ap (λ (s : Option ℤ). Ok (or_cell (whole k (greatest k)) (option_map (number_cell (Integer k)) s))) (sym (picked-append int_min int_min-assoc (filter_map amount cs) (n ∷ [])))
    ∙ ap Ok (first_least k n (picked int_min (filter_map amount cs)) within)
    ∙ ap (λ (d : Seen). Ok (next_best int_min d (whole k n))) (same_ok _ c h)

max_step : (k : IntKind) (cs : List Seen) (c : Seen) (n : ℤ) → nearest (least k) (greatest k) n ≡ n → scan_cell CumMax (Integer k) cs ≡ Ok c
    → scan_cell CumMax (Integer k) (cs ++ whole k n ∷ []) ≡ Ok (next_best int_max c (whole k n))
max_step k cs c n within h =
    ap (λ (l : List ℤ). Ok (or_cell (whole k (least k)) (option_map (number_cell (Integer k)) (picked int_max l)))) (filter_map-append amount cs (whole k n ∷ []))
    ∙ ap (λ (s : Option ℤ). Ok (or_cell (whole k (least k)) (option_map (number_cell (Integer k)) s))) (sym (picked-append int_max int_max-assoc (filter_map amount cs) (n ∷ [])))
    ∙ ap Ok (first_greatest k n (picked int_max (filter_map amount cs)) within)
    ∙ ap (λ (d : Seen). Ok (next_best int_max d (whole k n))) (same_ok _ c h)

module _ {V T E : Type 0} (k : IntKind) (number : V → ℤ) (r : Result T E) (items : T → List V) (start : V) (rows : List V) (within : IfOk r (λ t. All InClass (map (λ v. whole k (number v)) rows))) where
  pub sums_if : IfOk r (λ t. map (λ v. whole k (number v)) (items t) ≡ running next_sum (whole k (number start)) (map (λ v. whole k (number v)) rows))
      → IfOk r (λ t. (cs : List Seen) → scan_cell CumSum (Integer k) cs ≡ Ok (whole k (number start)) → scan_rows CumSum (Integer k) cs (numbered 0 (map (λ v. whole k (number v)) rows)) ≡ Ok (numbered 0 (map (λ v. whole k (number v)) (items t))))
  sums_if p = scanned_if CumSum (Integer k) next_sum (λ v. whole k (number v)) (λ cs c v i h. sum_step k cs c (number v) h) r items start rows p within

  pub least_if : IfOk r (λ t. map (λ v. whole k (number v)) (items t) ≡ running (next_best int_min) (whole k (number start)) (map (λ v. whole k (number v)) rows))
      → IfOk r (λ t. (cs : List Seen) → scan_cell CumMin (Integer k) cs ≡ Ok (whole k (number start)) → scan_rows CumMin (Integer k) cs (numbered 0 (map (λ v. whole k (number v)) rows)) ≡ Ok (numbered 0 (map (λ v. whole k (number v)) (items t))))
  least_if p = scanned_if CumMin (Integer k) (next_best int_min) (λ v. whole k (number v)) (λ cs c v i h. min_step k cs c (number v) i h) r items start rows p within

  pub greatest_if : IfOk r (λ t. map (λ v. whole k (number v)) (items t) ≡ running (next_best int_max) (whole k (number start)) (map (λ v. whole k (number v)) rows))
      → IfOk r (λ t. (cs : List Seen) → scan_cell CumMax (Integer k) cs ≡ Ok (whole k (number start)) → scan_rows CumMax (Integer k) cs (numbered 0 (map (λ v. whole k (number v)) rows)) ≡ Ok (numbered 0 (map (λ v. whole k (number v)) (items t))))
  greatest_if p = scanned_if CumMax (Integer k) (next_best int_max) (λ v. whole k (number v)) (λ cs c v i h. max_step k cs c (number v) i h) r items start rows p within

-- ---- doubles

double_best : (s : Option ℤ) → or_cell (double None) (option_map (number_cell Double) s) ≡ double s
double_best None = refl
double_best (Some n) = refl

one_number : (pick : ℤ → ℤ → ℤ) (d : Option ℤ) → d ≡ picked pick (filter_map amount (double d ∷ []))
one_number pick None = refl
one_number pick (Some n) = refl

doubles_best : (pick : ℤ → ℤ → ℤ) → ((x y z : ℤ) → pick (pick x y) z ≡ pick x (pick y z)) → (cs : List Seen) (d : Option ℤ)
    → or_cell (double None) (option_map (number_cell Double) (picked pick (filter_map amount (cs ++ double d ∷ []))))
    ≡ next_best pick (or_cell (double None) (option_map (number_cell Double) (picked pick (filter_map amount cs)))) (double d)
doubles_best pick assoc cs d =
    double_best (picked pick (filter_map amount (cs ++ double d ∷ [])))
    ∙ ap (λ (l : List ℤ). double (picked pick l)) (filter_map-append amount cs (double d ∷ []))
    ∙ ap double (sym (picked-append pick assoc (filter_map amount cs) (filter_map amount (double d ∷ []))))
    ∙ ap (λ (x : Option ℤ). double (of_both pick (picked pick (filter_map amount cs)) x)) (sym (one_number pick d))
    ∙ ap (λ (c : Seen). next_best pick c (double d)) (sym (double_best (picked pick (filter_map amount cs))))

any_in_class : (ds : List (Option ℤ)) → All InClass (map (λ d. double d) ds)
any_in_class [] = All-nil InClass
any_in_class (d ∷ ds) = All-cons InClass (double d) (map (λ d. double d) ds) tt (any_in_class ds)

pub least_doubles : (cs : List Seen) (start : Option ℤ) (rows : List (Option ℤ)) (out : List Seen) → scan_cell CumMin Double cs ≡ Ok (double start) → out ≡ running (next_best int_min) (double start) (map (λ d. double d) rows)
    → scan_rows CumMin Double cs (numbered 0 (map (λ d. double d) rows)) ≡ Ok (numbered 0 out)
least_doubles cs start rows out h e =
    scan_is_running CumMin Double (next_best int_min) (λ d. double d)
    (λ xs c d i is. ap Ok (doubles_best int_min int_min-assoc xs d) ∙ ap (λ (x : Seen). Ok (next_best int_min x (double d))) (same_ok _ c is))
    cs (double start) 0 rows (any_in_class rows) h
    ∙ ap (λ (l : List Seen). Ok (numbered 0 l)) (sym e)

pub greatest_doubles : (cs : List Seen) (start : Option ℤ) (rows : List (Option ℤ)) (out : List Seen) → scan_cell CumMax Double cs ≡ Ok (double start) → out ≡ running (next_best int_max) (double start) (map (λ d. double d) rows)
    → scan_rows CumMax Double cs (numbered 0 (map (λ d. double d) rows)) ≡ Ok (numbered 0 out)
greatest_doubles cs start rows out h e =
    scan_is_running CumMax Double (next_best int_max) (λ d. double d)
    (λ xs c d i is. ap Ok (doubles_best int_max int_max-assoc xs d) ∙ ap (λ (x : Seen). Ok (next_best int_max x (double d))) (same_ok _ c is))
    cs (double start) 0 rows (any_in_class rows) h
    ∙ ap (λ (l : List Seen). Ok (numbered 0 l)) (sym e)

-- ---- answers

pub integers_answer : (op : Scan) (k : IntKind) (kept : Kept) (low high n m : ℤ) (cells out : List Seen) (column : SeenColumn) → least k ≡ low → greatest k ≡ high
    → ((p : Scan) (j : IntKind) (cs : List Seen) → IsFoldOf p (Integer j) cs kept → scan_cell p (Integer j) cs ≡ Ok (whole j (nearest (least j) (greatest j) n))) → m ≡ nearest low high n
    → ((cs : List Seen) → scan_cell op (Integer k) cs ≡ Ok (whole k m) → scan_rows op (Integer k) cs (numbered 0 cells) ≡ Ok (numbered 0 out)) → column.cells ≡ out
    → IsScanFrom op (Integer k) kept cells (Ok column)
integers_answer op k kept low high n m cells out column p q fold e go same =
    record {
      rows = λ cs is. go cs (fold op k cs is ∙ ap (λ (x : ℤ). Ok (whole k x)) (sym (e ∙ ap (λ (l : ℤ). nearest l high n) (sym p) ∙ ap (λ (h : ℤ). nearest (least k) h n) (sym q))))
          ∙ ap (λ (l : List Seen). Ok (numbered 0 l)) (sym same);
    }

pub total_is_kept : (cs : List Seen) (k : Kept) (s : Option ℤ × ℕ) → k ≡ Total s → IsFoldOf CumSum Double cs k → s.0 ≡ total_unless_nan cs
total_is_kept cs k s e is = (subst (IsFoldOf CumSum Double cs) e is).comes

pub totals_answer : (k : Kept) (s : Option ℤ × ℕ) (cells out : List Seen) (column : SeenColumn) → k ≡ Total s
    → ((cs : List Seen) → s.0 ≡ total_unless_nan cs → scan_rows CumSum Double cs (numbered 0 cells) ≡ Ok (numbered 0 out)) → column.cells ≡ out
    → IsScanFrom CumSum Double k cells (Ok column)
totals_answer k s cells out column e go same =
    record { rows = λ cs is. go cs (total_is_kept cs k s e is) ∙ ap (λ (l : List Seen). Ok (numbered 0 l)) (sym same) }

fault_answers : {A B : Type 0} (r : Result (List (ℕ × Seen)) (ℕ × CellFault)) (f : A → List Seen) (g : B → List Seen) (e : OpFault) → Answers {A = A} r f (Err e) → Answers {A = B} r g (Err e)
fault_answers r f g (At row x) h = h
fault_answers r f g Memory h = h

pub totals_refused : {A : Type 0} (k : Kept) (s : Option ℤ × ℕ) (cells : List Seen) (f : A → List Seen) (e : OpFault) → k ≡ Total s
    → ((cs : List Seen) → s.0 ≡ total_unless_nan cs → Answers {A = A} (scan_rows CumSum Double cs (numbered 0 cells)) f (Err e))
    → IsScanFrom CumSum Double k cells (Err e)
totals_refused k s cells f e is go =
    record { rows = λ cs fold. fault_answers (scan_rows CumSum Double cs (numbered 0 cells)) f (λ (c : SeenColumn). c.cells) e (go cs (total_is_kept cs k s is fold)) }

pub least_answers : (k : Kept) (start : Option ℤ) (rows : List (Option ℤ)) (r : Result SeenColumn OpFault)
    → ((p : Scan) (cs : List Seen) (c : Seen) → IsFoldOf p Double cs k → scan_cell p Double cs ≡ Ok c → c ≡ double start)
    → IfOk r (λ c. c.cells ≡ running (next_best int_min) (double start) (map (λ d. double d) rows)) → IsMemory r → IsScanFrom CumMin Double k (map (λ d. double d) rows) r
least_answers k start rows (Ok column) is e m =
    record { rows = λ cs fold. least_doubles cs start rows column.cells (ap Ok (is CumMin cs _ fold refl)) e }
least_answers k start rows (Err Memory) is e m = record { rows = λ cs fold. tt }
least_answers k start rows (Err (At row x)) is e m = absurd m

pub greatest_answers : (k : Kept) (start : Option ℤ) (rows : List (Option ℤ)) (r : Result SeenColumn OpFault)
    → ((p : Scan) (cs : List Seen) (c : Seen) → IsFoldOf p Double cs k → scan_cell p Double cs ≡ Ok c → c ≡ double start)
    → IfOk r (λ c. c.cells ≡ running (next_best int_max) (double start) (map (λ d. double d) rows)) → IsMemory r → IsScanFrom CumMax Double k (map (λ d. double d) rows) r
greatest_answers k start rows (Ok column) is e m =
    record { rows = λ cs fold. greatest_doubles cs start rows column.cells (ap Ok (is CumMax cs _ fold refl)) e }
greatest_answers k start rows (Err Memory) is e m = record { rows = λ cs fold. tt }
greatest_answers k start rows (Err (At row x)) is e m = absurd m

pub scan_answers : (op : Scan) (b : Kind) (class given : Class) (c : SeenCarry) (k : Kept) (column lent : SeenColumn) (r : Result SeenColumn OpFault) → lent ≡ column → given ≡ column.class → class_result (scan_kind op (kind_of given)) ≡ Ok class
    → ((p : Scan) (l : Class) (cs : List Seen) → IsCarry p l cs c → IsFoldOf p (kind_of l) cs k) → IsScanFrom op (result_kind (kind_of lent.class)) k lent.cells r
    → (cs : List Seen) → IsCarry op class cs c → Answers (scan_rows op (kind_of class) cs (numbered 0 column.cells)) (λ (x : SeenColumn). x.cells) r
scan_answers op b class given c k column lent r same here takes fold is cs h =
    let kinds : result_kind (kind_of lent.class) ≡ kind_of class =
    ap (λ (x : SeenColumn). result_kind (kind_of x.class)) same ∙ ap (λ (x : Class). result_kind (kind_of x)) (sym here)
    ∙ sym (kind_again (result_kind (kind_of given))) ∙ ap kind_of (sym (class_is op (kind_of given) class takes)) in
    (subst (λ (x : Kind). IsScanFrom op x k column.cells r) kinds (subst (λ (x : SeenColumn). IsScanFrom op (result_kind (kind_of lent.class)) k x.cells r) same is)).rows cs (fold op class cs h)
