-- The folds up to each row are the scan of the whole column, and those of two parts are those of both.
use Rattle.std.specs.Prelude.{Option, Some, None, Result, Ok, Err, IsOk, option_map, nat_le, unsigned_abs}
use Rattle.std.proofs.Common.{ℕ, ◌≡◌, ◌+◌, ◌^◌, ℤ, pos, ◌+ℤ◌, Bool, true, false, if◌then◌else◌, List, [], ◌∷◌, ◌++◌, refl, sym, ◌∙◌, ap, subst, append_assoc}
use Rattle.std.specs.List.{All, filter_map}
use Rattle.std.specs.Int.{int_max, int_min}
use Rattle.std.proofs.lemmas.List.{append-nil}
use Rattle.std.proofs.lemmas.List.Elements.{All-cons, All-head, All-nil, All-tail, filter_map-append}
use Rattle.tall_int.specs.Doubles.{exact, whole_add}
use Rattle.tall_int.specs.Sums.{clamped_sum}
use Rattle.tall_int.specs.declared.faults.WholeFault.{WholeFault}
use Rattle.tall_int.specs.declared.faults.WholeFault.TheVariants as whole_fault
use Rattle.tall_value.specs.declared.class.IntKind.{IntKind}
use Rattle.tall_value.specs.declared.class.Kind.{Kind}
use Rattle.tall_value.specs.declared.class.Kind.TheVariants.{Integer, Logical, Double, Text}
use Rattle.tall_value.specs.declared.faults.CellFault.{CellFault}
use Rattle.tall_value.specs.declared.functions.Scan.{Scan}
use Rattle.tall_value.specs.declared.functions.Scan.TheVariants.{CumSum, CumMin, CumMax}
use Rattle.tall_value.specs.Cells.{Seen, amount, double, logical, text, whole}
use Rattle.tall_value.specs.CellOperators.{double_cell, to_double}
use Rattle.tall_value.specs.Classes.{greatest, least}
use Rattle.tall_value.specs.Columns.{RowHasKind, cells}
use Rattle.tall_value.specs.Elementwise.{at_row, in_front}
use Rattle.tall_value.specs.FunctionClasses.{scan_kind}
use Rattle.tall_value.specs.Reductions.{greater, lesser, or_cell}
use Rattle.tall_value.specs.Scans.{added as added_in, bests, better, double_sums, integer_sums, scanned}
use Rattle.tall_clamp.specs.Folds.{added, of_both}
use Rattle.tall_clamp.specs.FoldLaws.{int_max-assoc, int_min-assoc}
use Rattle.tall_clamp.specs.Outcomes.{picked}
use Rattle.tall_fold.specs.Carries.{followed, no_greatest, no_least, result_kind, scan_cell, scan_rows}
use Rattle.tall_fold.specs.Forms.{total_unless_nan}
use Rattle.tall_fold.specs.PickLaws.{double_alone, logical_alone}
use Rattle.tall_fold.specs.Summaries.{number_cell}
use Rattle.tall_fold.proofs.FinishLemmas.{greater_is, lesser_is}
use Rattle.tall_fold.proofs.JoinLemmas.{picked-append}
use Rattle.tall_fold.proofs.RunningLemmas.{total_here}
use Rattle.tall_value.proofs.SumLaws.{clamped_append}

abbrev Rows : Type 0
Rows = List (ℕ × Seen)

abbrev RowsOrFault : Type 0
RowsOrFault = Result (List (ℕ × Seen)) (ℕ × CellFault)

-- ---- two parts

nothing_first : (r : RowsOrFault) → followed (Ok []) r ≡ r
nothing_first (Ok ss) = refl
nothing_first (Err e) = refl

at_row_first : (n : ℕ) (c : Result Seen CellFault) (s t : RowsOrFault) → at_row n c (followed s t) ≡ followed (at_row n c s) t
at_row_first n (Err e) s t = refl
at_row_first n (Ok c) (Err e) t = refl
at_row_first n (Ok c) (Ok rs) (Ok ss) = refl
at_row_first n (Ok c) (Ok rs) (Err e) = refl

pub parts_are : (op : Scan) (a : Kind) (before : List Seen) (rows more : Rows)
    → scan_rows op a before (rows ++ more) ≡ followed (scan_rows op a before rows) (scan_rows op a (before ++ cells rows) more)
parts_are op a before [] more =
    ap (λ (l : List Seen). scan_rows op a l more) (sym (append-nil before)) ∙ sym (nothing_first (scan_rows op a (before ++ []) more))
parts_are op a before (r ∷ rows) more =
    ap (at_row r.0 (scan_cell op a (before ++ r.1 ∷ [])))
    (parts_are op a (before ++ r.1 ∷ []) rows more
    ∙ ap (λ (l : List Seen). followed (scan_rows op a (before ++ r.1 ∷ []) rows) (scan_rows op a l more)) (append_assoc before (r.1 ∷ []) (cells rows)))
    ∙ at_row_first r.0 (scan_cell op a (before ++ r.1 ∷ [])) (scan_rows op a (before ++ r.1 ∷ []) rows) (scan_rows op a (before ++ r.1 ∷ cells rows) more)

-- ---- sums in an integer class

abbrev just : Option ℤ → List ℤ
just (Some n) = n ∷ []
just None = []

one_amount : (c : Seen) → filter_map amount (c ∷ []) ≡ just (amount c)
one_amount (whole k n) = refl
one_amount (logical b) = refl
one_amount (double None) = refl
one_amount (double (Some n)) = refl
one_amount (text t) = refl

abbrev sum_of : IntKind → List Seen → ℤ
sum_of k cs = clamped_sum (least k) (greatest k) (pos 0) (filter_map amount cs)

sum_just : (k : IntKind) (s : ℤ) (o : Option ℤ) → clamped_sum (least k) (greatest k) s (just o) ≡ added_in k s o
sum_just k s (Some n) = refl
sum_just k s None = refl

sum_more : (k : IntKind) (before : List Seen) (c : Seen) → sum_of k (before ++ c ∷ []) ≡ added_in k (sum_of k before) (amount c)
sum_more k before c =
    ap (clamped_sum (least k) (greatest k) (pos 0)) (filter_map-append amount before (c ∷ []) ∙ ap (λ (l : List ℤ). filter_map amount before ++ l) (one_amount c))
    ∙ clamped_append (least k) (greatest k) (pos 0) (filter_map amount before) (just (amount c))
    ∙ sum_just k (sum_of k before) (amount c)

integer_rows : (k : IntKind) (before : List Seen) (rows : Rows) → scan_rows CumSum (Integer k) before rows ≡ Ok (integer_sums k (sum_of k before) rows)
integer_rows k before [] = refl
integer_rows k before (r ∷ rows) =
    ap (λ (n : ℤ). at_row r.0 (Ok (whole k n)) (scan_rows CumSum (Integer k) (before ++ r.1 ∷ []) rows)) (sum_more k before r.1)
    ∙ ap (in_front (r.0, whole k (added_in k (sum_of k before) (amount r.1))))
    (integer_rows k (before ++ r.1 ∷ []) rows ∙ ap (λ (n : ℤ). Ok (integer_sums k n rows)) (sum_more k before r.1))

-- ---- exact sums

-- what whole numbers add up to, where the sum is a double
exact_cases : (b : Bool) (n : ℤ) (row : ℕ) (rest : RowsOrFault) (rows : Rows) → (b ≡ true → rest ≡ double_sums (Some n) rows)
    → at_row row (double_cell (if b then Ok (Some n) else Err whole_fault.Inexact)) rest
    ≡ at_row row (double_cell (if b then Ok (Some n) else Err whole_fault.Inexact)) (double_sums (elim (if b then Ok (Some n) else Err whole_fault.Inexact) [ Ok d ↦ d | Err e ↦ None ]) rows)
exact_cases true n row rest rows h = ap (at_row row (Ok (double (Some n)))) (h refl)
exact_cases false n row rest rows h = refl

in_range : (n : ℤ) → nat_le (unsigned_abs n) (2 ^ 53) ≡ true → to_double (Some n) ≡ Ok (double (Some n))
in_range n h = ap (λ (b : Bool). double_cell (if b then Ok (Some n) else Err whole_fault.Inexact)) h

-- one row; the rows behind it go on from each total that is a double
double_row : (before : List Seen) (t o : Option ℤ) (r : ℕ × Seen) (rows : Rows)
    → ((d : Option ℤ) → d ≡ total_unless_nan (before ++ r.1 ∷ []) → to_double d ≡ Ok (double d) → scan_rows CumSum Double (before ++ r.1 ∷ []) rows ≡ double_sums d rows)
    → added t o ≡ total_unless_nan (before ++ r.1 ∷ [])
    → at_row r.0 (to_double (added t o)) (scan_rows CumSum Double (before ++ r.1 ∷ []) rows)
    ≡ at_row r.0 (double_cell (whole_add t o)) (double_sums (elim (whole_add t o) [ Ok d ↦ d | Err e ↦ None ]) rows)
double_row before None o r rows go here = ap (in_front (r.0, double None)) (go None here refl)
double_row before (Some x) None r rows go here = ap (in_front (r.0, double None)) (go None here refl)
double_row before (Some x) (Some y) r rows go here =
    exact_cases (nat_le (unsigned_abs (x +ℤ y)) (2 ^ 53)) (x +ℤ y) r.0 (scan_rows CumSum Double (before ++ r.1 ∷ []) rows) rows
    (λ h. go (Some (x +ℤ y)) here (in_range (x +ℤ y) h))

double_rows : (before : List Seen) (t : Option ℤ) (rows : Rows) → All (λ (r : ℕ × Seen). total_unless_nan (r.1 ∷ []) ≡ amount r.1) rows → t ≡ total_unless_nan before → to_double t ≡ Ok (double t)
    → scan_rows CumSum Double before rows ≡ double_sums t rows
double_rows before t [] are is range = refl
double_rows before t (r ∷ rows) are is range =
    let here = total_here before r.1 t (added t (amount r.1)) (All-head (λ (r : ℕ × Seen). total_unless_nan (r.1 ∷ []) ≡ amount r.1) r rows are) is refl in
    ap (λ (x : Option ℤ). at_row r.0 (to_double x) (scan_rows CumSum Double (before ++ r.1 ∷ []) rows)) (sym here)
    ∙ double_row before t (amount r.1) r rows (λ d. double_rows (before ++ r.1 ∷ []) d rows (All-tail (λ (r : ℕ × Seen). total_unless_nan (r.1 ∷ []) ≡ amount r.1) r rows are)) here

-- ---- the least and the greatest so far

abbrev best_of : Kind → Option ℤ → Seen
best_of a (Some m) = number_cell a m
best_of a None = double None

-- only integers and doubles are compared
pub data IsCompared : Kind → Seen → Type 0 where
  an_integer : (k : IntKind) (n : ℤ) → IsCompared (Integer k) (whole k n)
  a_double : (d : Option ℤ) → IsCompared Double (double d)

module _ (pick : ℤ → ℤ → ℤ) (choose : Seen → Seen → Seen) (is : (a : Kind) (x y : ℤ) → choose (number_cell a x) (number_cell a y) ≡ number_cell a (pick x y)) where
  better_is : (a : Kind) (c : Seen) (s : Option ℤ) → IsCompared a c → better choose (best_of a s) c ≡ best_of a (of_both pick s (amount c))
  better_is _ _ None (an_integer k n) = refl
  better_is _ _ (Some m) (an_integer k n) = is (Integer k) m n
  better_is _ _ None (a_double None) = refl
  better_is _ _ None (a_double (Some n)) = refl
  better_is _ _ (Some m) (a_double None) = refl
  better_is _ _ (Some m) (a_double (Some n)) = is Double m n

-- a row has a number, or is a NaN, where there is no best one the start for a double
or_best : (a : Kind) (c : Seen) (start : Kind → Seen) (pick : ℤ → ℤ → ℤ) (s : Option ℤ) → (start Double ≡ double None) → IsCompared a c
    → or_cell (start a) (option_map (number_cell a) (of_both pick s (amount c))) ≡ best_of a (of_both pick s (amount c))
or_best _ _ start pick None h (an_integer k n) = refl
or_best _ _ start pick (Some m) h (an_integer k n) = refl
or_best _ _ start pick None h (a_double None) = h
or_best _ _ start pick None h (a_double (Some n)) = refl
or_best _ _ start pick (Some m) h (a_double None) = refl
or_best _ _ start pick (Some m) h (a_double (Some n)) = refl

picked_just : (pick : ℤ → ℤ → ℤ) (o : Option ℤ) → picked pick (just o) ≡ o
picked_just pick (Some n) = refl
picked_just pick None = refl

picked_with : (pick : ℤ → ℤ → ℤ) → ((x y z : ℤ) → pick (pick x y) z ≡ pick x (pick y z)) → (before : List Seen) (c : Seen)
    → picked pick (filter_map amount (before ++ c ∷ [])) ≡ of_both pick (picked pick (filter_map amount before)) (amount c)
picked_with pick assoc before c =
    ap (picked pick) (filter_map-append amount before (c ∷ []) ∙ ap (λ (l : List ℤ). filter_map amount before ++ l) (one_amount c))
    ∙ sym (picked-append pick assoc (filter_map amount before) (just (amount c)))
    ∙ ap (of_both pick (picked pick (filter_map amount before))) (picked_just pick (amount c))

module _ (op : Scan) (a : Kind) (pick : ℤ → ℤ → ℤ) (choose : Seen → Seen → Seen) (start : Kind → Seen) (assoc : (x y z : ℤ) → pick (pick x y) z ≡ pick x (pick y z))
    (is : (b : Kind) (x y : ℤ) → choose (number_cell b x) (number_cell b y) ≡ number_cell b (pick x y)) (starts : start Double ≡ double None)
    (cell : (cs : List Seen) → scan_cell op a cs ≡ Ok (or_cell (start a) (option_map (number_cell a) (picked pick (filter_map amount cs))))) where
  best_rows : (before : List Seen) (rows : Rows) → All (λ (r : ℕ × Seen). IsCompared a r.1) rows
      → scan_rows op a before rows ≡ Ok (bests choose (best_of a (picked pick (filter_map amount before))) rows)
  best_rows before [] are = refl
  best_rows before (r ∷ rows) are =
      let here = All-head (λ (r : ℕ × Seen). IsCompared a r.1) r rows are in
      let s = picked pick (filter_map amount before) in
      let next : best_of a (of_both pick s (amount r.1)) ≡ better choose (best_of a s) r.1 = sym (better_is pick choose is a r.1 s here) in
      ap (λ (x : Result Seen CellFault). at_row r.0 x (scan_rows op a (before ++ r.1 ∷ []) rows))
      (cell (before ++ r.1 ∷ []) ∙ ap (λ (x : Option ℤ). Ok (or_cell (start a) (option_map (number_cell a) x))) (picked_with pick assoc before r.1) ∙ ap Ok (or_best a r.1 start pick s starts here ∙ next))
      ∙ ap (in_front (r.0, better choose (best_of a s) r.1))
      (best_rows (before ++ r.1 ∷ []) rows (All-tail (λ (r : ℕ × Seen). IsCompared a r.1) r rows are)
      ∙ ap (λ (x : Option ℤ). Ok (bests choose (best_of a x) rows)) (picked_with pick assoc before r.1)
      ∙ ap (λ (c : Seen). Ok (bests choose c rows)) next)

-- ---- the scan of a column

integers_compared : (k : IntKind) (c : Seen) → RowHasKind (Integer k) (0, c) → IsCompared (Integer k) c
integers_compared k (whole j n) h = subst (λ (i : IntKind). IsCompared (Integer i) (whole j n)) (let e : Integer j ≡ Integer k = h in cc) (an_integer j n)
integers_compared k (logical b) h = absurd (let e : Logical ≡ Integer k = h in cc)
integers_compared k (double d) h = absurd (let e : Double ≡ Integer k = h in cc)
integers_compared k (text t) h = absurd (let e : Text ≡ Integer k = h in cc)

doubles_compared : (c : Seen) → RowHasKind Double (0, c) → IsCompared Double c
doubles_compared (double d) h = a_double d
doubles_compared (whole j n) h = absurd (let e : Integer j ≡ Double = h in cc)
doubles_compared (logical b) h = absurd (let e : Logical ≡ Double = h in cc)
doubles_compared (text t) h = absurd (let e : Text ≡ Double = h in cc)

doubles_alone : (c : Seen) → RowHasKind Double (0, c) → total_unless_nan (c ∷ []) ≡ amount c
doubles_alone (double d) h = double_alone d
doubles_alone (whole j n) h = absurd (let e : Integer j ≡ Double = h in cc)
doubles_alone (logical b) h = absurd (let e : Logical ≡ Double = h in cc)
doubles_alone (text t) h = absurd (let e : Text ≡ Double = h in cc)

logicals_alone : (c : Seen) → RowHasKind Logical (0, c) → total_unless_nan (c ∷ []) ≡ amount c
logicals_alone (logical b) h = logical_alone b
logicals_alone (whole j n) h = absurd (let e : Integer j ≡ Logical = h in cc)
logicals_alone (double d) h = absurd (let e : Double ≡ Logical = h in cc)
logicals_alone (text t) h = absurd (let e : Text ≡ Logical = h in cc)

module _ (P Q : ℕ × Seen → Type 0) (h : (r : ℕ × Seen) → P r → Q r) where
  each_row_has : (rows : Rows) → All P rows → All Q rows
  each_row_has [] are = All-nil Q
  each_row_has (r ∷ rows) are = All-cons Q r rows (h r (All-head P r rows are)) (each_row_has rows (All-tail P r rows are))

ok_not : false ≡ true → ⊥
ok_not h = absurd cc

pub whole_is : (op : Scan) (a : Kind) (rows : Rows) → IsOk (scan_kind op a) → All (RowHasKind a) rows → scan_rows op (result_kind a) [] rows ≡ scanned op a rows
whole_is CumSum (Integer k) rows takes are = integer_rows k [] rows
whole_is CumSum Logical rows takes are = double_rows [] (Some (pos 0)) rows (each_row_has (RowHasKind Logical) _ (λ r h. logicals_alone r.1 h) rows are) refl refl
whole_is CumSum Double rows takes are = double_rows [] (Some (pos 0)) rows (each_row_has (RowHasKind Double) _ (λ r h. doubles_alone r.1 h) rows are) refl refl
whole_is CumSum Text rows takes are = absurd (ok_not takes)
whole_is CumMin (Integer k) rows takes are =
    best_rows CumMin (Integer k) int_min lesser no_least int_min-assoc lesser_is refl (λ cs. refl) [] rows (each_row_has (RowHasKind (Integer k)) _ (λ r h. integers_compared k r.1 h) rows are)
whole_is CumMin Logical rows takes are = absurd (ok_not takes)
whole_is CumMin Double rows takes are =
    best_rows CumMin Double int_min lesser no_least int_min-assoc lesser_is refl (λ cs. refl) [] rows (each_row_has (RowHasKind Double) _ (λ r h. doubles_compared r.1 h) rows are)
whole_is CumMin Text rows takes are = absurd (ok_not takes)
whole_is CumMax (Integer k) rows takes are =
    best_rows CumMax (Integer k) int_max greater no_greatest int_max-assoc greater_is refl (λ cs. refl) [] rows (each_row_has (RowHasKind (Integer k)) _ (λ r h. integers_compared k r.1 h) rows are)
whole_is CumMax Logical rows takes are = absurd (ok_not takes)
whole_is CumMax Double rows takes are =
    best_rows CumMax Double int_max greater no_greatest int_max-assoc greater_is refl (λ cs. refl) [] rows (each_row_has (RowHasKind Double) _ (λ r h. doubles_compared r.1 h) rows are)
whole_is CumMax Text rows takes are = absurd (ok_not takes)
