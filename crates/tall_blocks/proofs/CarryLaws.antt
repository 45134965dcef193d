-- Scans behind some cells: from none on they are the definition's; the fold of the cells before, where there is one, stands
-- for all of them; and where there is none the scan has failed before.
use Rattle.std.specs.Prelude.{◌≡◌, refl, ℤ, ℕ, pos, ◌+ℤ◌, ◌⊎◌, ◌^◌, nat_le, unsigned_abs, if◌then◌else◌, ◌||◌, Bool, true, false, Option, None, Some, Result, Ok, Err, List, [], ◌∷◌, ◌++◌, map, slice_get}
use Rattle.std.proofs.Common.{ap, sym, subst, ◌∙◌, arith, inl, inr}
use Rattle.std.specs.List.{All, cons_option, filter_map}
use Rattle.std.specs.Ordering.{is_lt}
use Rattle.std.proofs.lemmas.Int.{ints}
use Rattle.std.proofs.lemmas.List.{append-nil}
use Rattle.std.proofs.lemmas.List.Elements.{All-head, All-tail, filter-append, filter_map-append}
use Rattle.tall_int.specs.Doubles.{whole_add}
use Rattle.tall_int.specs.Sums.{clamped_sum}
use Rattle.tall_int.specs.declared.faults.WholeFault.{WholeFault}
use Rattle.tall_int.specs.declared.faults.WholeFault.TheVariants as whole_fault
use Rattle.tall_value.specs.declared.class.IntKind.{IntKind}
use Rattle.tall_value.specs.declared.class.Kind.{Kind}
use Rattle.tall_value.specs.declared.class.Kind.TheVariants.{Integer, Logical, Double, Text}
use Rattle.tall_value.specs.declared.faults.CellFault.{CellFault}
use Rattle.tall_value.specs.declared.functions.Scan.{Scan}
use Rattle.tall_value.specs.declared.functions.Scan.TheVariants.{CumSum, CumMin, CumMax}
use Rattle.tall_value.specs.Cells.{Seen, whole, logical, double, text, seen_kind, amount}
use Rattle.tall_value.specs.CellOperators.{double_cell, to_double}
use Rattle.tall_value.specs.CellOrder.{cell_order}
use Rattle.tall_value.specs.Classes.{least, greatest}
use Rattle.tall_value.specs.Columns.{cells}
use Rattle.tall_value.specs.Elementwise.{at_row, in_front}
use Rattle.tall_value.specs.Groups.{or_nan}
use Rattle.tall_value.specs.Reductions.{or_fault, present, is_present, lesser, greater, fold, folded, or_cell}
use Rattle.tall_value.specs.Scans.{added, integer_sums, double_sums, better, bests, scanned}
use Rattle.tall_value.specs.declared.class.Class.{Class}
use Rattle.tall_value.specs.Classes.{kind_of}
use Rattle.tall_value.specs.ClassTables.{class_result}
use Rattle.tall_value.specs.FunctionClasses.{scan_kind, scan_class}
use Rattle.tall_value.proofs.KindLaws.{kind_again}
use Rattle.tall_semantics.specs.ScanCarries.{fold_of}
use Rattle.tall_semantics.specs.Operations.{scan, operation}
use Rattle.tall_semantics.specs.Spaces.{Space}
use Rattle.tall_semantics.specs.Outcomes.{cells_in}
use Rattle.tall_semantics.specs.Shapes.{ShapeRefusal, allowed, placed, place_of}
use Rattle.tall_semantics.specs.Talls.{Tall, Columns, shapes}
use Rattle.tall_semantics.specs.Deferred.{Vertex, IsMeaning, IsOrdered, IsAmong}
use Rattle.tall_semantics.specs.RowsOfSpaces.{AreColumns}
use Rattle.tall_semantics.specs.ClassesOfCells.{HasClass}
use Rattle.tall_semantics.proofs.ClassLaws.{value_class}
use Rattle.tall_semantics.proofs.MeaningLaws.{made_value, tall_shape}
use Rattle.tall_semantics.proofs.OriginLaws.{get_before, below_among}
use Rattle.tall_semantics.proofs.ShapeLaws.{place_ok, shaped_is, column_is}
use Rattle.tall_blocks.specs.Carries.{Rows, or_inexact, scanned_behind, AllCells, HasScanKind}
use Rattle.tall_blocks.specs.Folds.{exact_sum, value_of, best_joined}
use Rattle.tall_blocks.proofs.Choices.{true_or_false}
use Rattle.tall_value.proofs.SumLaws.{clamped_append}
use Rattle.tall_blocks.proofs.FoldLaws.{value_joined, folded_append, greater_assoc, lesser_assoc}

abbrev class_ok : Class → Result Class ShapeRefusal
class_ok c = Ok c

-- ---- cells

pub all_both : (P : Seen → Type 0) (cs ds : List Seen) → AllCells P cs → AllCells P ds → AllCells P (cs ++ ds)
all_both P [] ds h g = g
all_both P (c ∷ cs) ds h g = (h.0, all_both P cs ds h.1 g)

abbrev pub IsNumber : Seen → Type 0
IsNumber (text t) = ⊥
IsNumber c = Unit {0}

-- ---- sums of doubles

abbrev pub sum_in : Bool × ℤ → Option ℤ
sum_in s = if s.0 then None else Some s.1

abbrev pub sum_of : List Seen → Option ℤ
sum_of cs = sum_in (value_of exact_sum cs)

abbrev pub plus : Option ℤ → Option ℤ → Option ℤ
plus (Some a) (Some b) = Some (a +ℤ b)
plus (Some a) None = None
plus None y = None

abbrev pub of_sum : Option ℤ → Option Seen
of_sum x = elim (or_fault (to_double x)) [ Ok c ↦ Some c | Err e ↦ None ]

plus_in : (a b : Bool) (m n : ℤ) → sum_in (a || b, m +ℤ n) ≡ plus (sum_in (a, m)) (sum_in (b, n))
plus_in true true m n = refl
plus_in true false m n = refl
plus_in false true m n = refl
plus_in false false m n = refl

pub sums_add : (cs ds : List Seen) → sum_of (cs ++ ds) ≡ plus (sum_of cs) (sum_of ds)
sums_add cs ds =
    let s : Bool × ℤ = value_of exact_sum cs in
    let t : Bool × ℤ = value_of exact_sum ds in
    ap sum_in (value_joined exact_sum cs ds) ∙ plus_in s.0 t.0 s.1 t.1

with_nothing : (n : ℤ) → n +ℤ pos 0 ≡ n
with_nothing n = omega (arith, ints)

pub sum_of_one : (c : Seen) → IsNumber c → sum_of (c ∷ []) ≡ amount c
sum_of_one (whole k n) h = ap Some (with_nothing n)
sum_of_one (logical true) h = refl
sum_of_one (logical false) h = refl
sum_of_one (double None) h = refl
sum_of_one (double (Some n)) h = ap Some (with_nothing n)
sum_of_one (text t) h = absurd h

sum_more : (cs : List Seen) (c : Seen) → IsNumber c → sum_of (cs ++ c ∷ []) ≡ plus (sum_of cs) (amount c)
sum_more cs c h = sums_add cs (c ∷ []) ∙ ap (plus (sum_of cs)) (sum_of_one c h)

abbrev pub of_test : Bool → ℤ → Result (Option ℤ) WholeFault
of_test t m = if t then Ok (Some m) else Err whole_fault.Inexact

abbrev rest_of : Result (Option ℤ) WholeFault → Option ℤ
rest_of next = elim next [ Ok d ↦ d | Err e ↦ None ]

abbrev pub to_fold : Result Seen CellFault → Option Seen
to_fold r = elim (or_fault r) [ Ok c ↦ Some c | Err e ↦ None ]

test_row : (t : Bool) (n : ℕ) (m : ℤ) (rs : Rows) → at_row n (or_inexact (to_fold (double_cell (of_test t m)))) (double_sums (Some m) rs) ≡ at_row n (double_cell (of_test t m)) (double_sums (rest_of (of_test t m)) rs)
test_row true n m rs = refl
test_row false n m rs = refl

sum_row : (n : ℕ) (s x : Option ℤ) (rs : Rows) → at_row n (or_inexact (of_sum (plus s x))) (double_sums (plus s x) rs) ≡ at_row n (double_cell (whole_add s x)) (double_sums (rest_of (whole_add s x)) rs)
sum_row n (Some a) (Some b) rs = test_row (nat_le (unsigned_abs (a +ℤ b)) (2 ^ 53)) n (a +ℤ b) rs
sum_row n (Some a) None rs = refl
sum_row n None y rs = refl

sums_behind : (a : Kind) → ((cs : List Seen) → fold_of CumSum a cs ≡ of_sum (sum_of cs)) → (before : List Seen) (rs : Rows) → AllCells IsNumber (cells rs) → scanned_behind CumSum a before rs ≡ double_sums (sum_of before) rs
sums_behind a same before [] h = refl
sums_behind a same before (r ∷ rs) h =
    let next : List Seen = before ++ r.1 ∷ [] in
    let e : sum_of next ≡ plus (sum_of before) (amount r.1) = sum_more before r.1 h.0 in
    ap (at_row r.0 (or_inexact (fold_of CumSum a next))) (sums_behind a same next rs h.1)
    ∙ (ap (λ o. at_row r.0 (or_inexact o) (double_sums (sum_of next) rs)) (same next)
    ∙ (ap (λ s. at_row r.0 (or_inexact (of_sum s)) (double_sums s rs)) e ∙ sum_row r.0 (sum_of before) (amount r.1) rs))

-- ---- sums in an integer class

abbrev pub class_total : IntKind → List Seen → ℤ
class_total k cs = clamped_sum (least k) (greatest k) (pos 0) (filter_map amount cs)

one_added : (k : IntKind) (s : ℤ) (o : Option ℤ) → clamped_sum (least k) (greatest k) s (cons_option o []) ≡ added k s o
one_added k s None = refl
one_added k s (Some n) = refl

total_more : (k : IntKind) (cs : List Seen) (c : Seen) → class_total k (cs ++ c ∷ []) ≡ added k (class_total k cs) (amount c)
total_more k cs c =
    ap (clamped_sum (least k) (greatest k) (pos 0)) (filter_map-append amount cs (c ∷ []))
    ∙ (clamped_append (least k) (greatest k) (pos 0) (filter_map amount cs) (filter_map amount (c ∷ [])) ∙ one_added k (class_total k cs) (amount c))

integers_behind : (k : IntKind) (before : List Seen) (rs : Rows) → scanned_behind CumSum (Integer k) before rs ≡ Ok (integer_sums k (class_total k before) rs)
integers_behind k before [] = refl
integers_behind k before (r ∷ rs) =
    let next : List Seen = before ++ r.1 ∷ [] in
    ap (in_front (r.0, whole k (class_total k next))) (integers_behind k next rs)
    ∙ ap (λ s. Ok ((r.0, whole k s) ∷ integer_sums k s rs)) (total_more k before r.1)

-- ---- the least and the greatest so far

present_or_not : (c : Seen) (cs : List Seen) (b : Bool) → is_present c ≡ b → present (c ∷ cs) ≡ (if b then c ∷ present cs else present cs)
present_or_not c cs b e = ap (λ t. if t then c ∷ present cs else present cs) e

module _ (f : Seen → Seen → Seen) (assoc : (c d e : Seen) → f (f c d) e ≡ f c (f d e)) (chooses : (c d : Seen) → (f c d ≡ c) ⊎ (f c d ≡ d)) where
  abbrev pub best_of : List Seen → Seen
  best_of cs = or_nan (folded f (present cs))

  chosen : (P : Seen → Type 0) (c d : Seen) → P c → P d → P (f c d)
  chosen P c d p q = elim (chooses c d) [ inl e ↦ subst P (sym e) p | inr e ↦ subst P (sym e) q ]

  fold_present : (c : Seen) (cs : List Seen) → is_present c ≡ true → is_present (fold f c (present cs)) ≡ true
  fold_present c [] h = h
  fold_present c (d ∷ cs) h = elim (true_or_false (is_present d)) [
    | inl y ↦ subst (λ ds. is_present (fold f c ds) ≡ true) (sym (present_or_not d cs true y)) (fold_present (f c d) cs (chosen (λ x. is_present x ≡ true) c d h y))
    | inr n ↦ subst (λ ds. is_present (fold f c ds) ≡ true) (sym (present_or_not d cs false n)) (fold_present c cs h)
  ]

  folded_present : (cs : List Seen) (b : Seen) → folded f (present cs) ≡ Some b → is_present b ≡ true
  folded_present [] b e = absurd (cc)
  folded_present (d ∷ cs) b e = elim (true_or_false (is_present d)) [
    | inl y ↦ subst (λ x. is_present x ≡ true) (inside_some (fold f d (present cs)) b (sym (ap (folded f) (present_or_not d cs true y)) ∙ e)) (fold_present d cs y)
    | inr n ↦ folded_present cs b (sym (ap (folded f) (present_or_not d cs false n)) ∙ e)
  ]
    where
      inside_some : (x y : Seen) → ◌≡◌ {A = Option Seen} (Some x) (Some y) → x ≡ y
      inside_some x y h = ap (λ o. elim o [ Some z ↦ z | None ↦ x ]) h

  -- of two numbers the better is what f chooses
  better_two : (b c : Seen) → is_present b ≡ true → is_present c ≡ true → better f b c ≡ f b c
  better_two (whole j m) (whole k n) h g = refl
  better_two (whole j m) (logical y) h g = refl
  better_two (whole j m) (double None) h g = absurd (cc)
  better_two (whole j m) (double (Some n)) h g = refl
  better_two (whole j m) (text t) h g = refl
  better_two (logical x) (whole k n) h g = refl
  better_two (logical x) (logical y) h g = refl
  better_two (logical x) (double None) h g = absurd (cc)
  better_two (logical x) (double (Some n)) h g = refl
  better_two (logical x) (text t) h g = refl
  better_two (double None) c h g = absurd (cc)
  better_two (double (Some m)) (whole k n) h g = refl
  better_two (double (Some m)) (logical y) h g = refl
  better_two (double (Some m)) (double None) h g = absurd (cc)
  better_two (double (Some m)) (double (Some n)) h g = refl
  better_two (double (Some m)) (text t) h g = refl
  better_two (text s) (whole k n) h g = refl
  better_two (text s) (logical y) h g = refl
  better_two (text s) (double None) h g = absurd (cc)
  better_two (text s) (double (Some n)) h g = refl
  better_two (text s) (text t) h g = refl

  better_nan : (b : Seen) → better f b (double None) ≡ b
  better_nan (whole j m) = refl
  better_nan (logical x) = refl
  better_nan (double None) = refl
  better_nan (double (Some m)) = refl
  better_nan (text s) = refl

  nan_is : (c : Seen) → is_present c ≡ false → c ≡ double None
  nan_is (whole j m) h = absurd (cc)
  nan_is (logical x) h = absurd (cc)
  nan_is (double None) h = refl
  nan_is (double (Some m)) h = absurd (cc)
  nan_is (text s) h = absurd (cc)

  better_best : (o : Option Seen) (c : Seen) → ((b : Seen) → o ≡ Some b → is_present b ≡ true) → is_present c ≡ true → better f (or_nan o) c ≡ or_nan (best_joined f o (Some c))
  better_best None c h y = refl
  better_best (Some b) c h y = better_two b c (h b refl) y

  best_more : (cs : List Seen) (c : Seen) → better f (best_of cs) c ≡ best_of (cs ++ c ∷ [])
  best_more cs c = elim (true_or_false (is_present c)) [
    | inl y ↦
        better_best (folded f (present cs)) c (folded_present cs) y
        ∙ sym (ap (λ xs. or_nan (folded f xs)) (filter-append is_present cs (c ∷ []) ∙ ap (λ xs. present cs ++ xs) (present_or_not c [] true y)) ∙ ap or_nan (folded_append f assoc (present cs) (c ∷ [])))
    | inr n ↦
        ap (better f (best_of cs)) (nan_is c n)
        ∙ (better_nan (best_of cs)
        ∙ sym (ap (λ xs. or_nan (folded f xs)) (filter-append is_present cs (c ∷ []) ∙ (ap (λ xs. present cs ++ xs) (present_or_not c [] false n) ∙ append-nil (present cs)))))
  ]

  bests_behind : (s : Scan) (a : Kind) → ((before : List Seen) (c : Seen) → AllCells (HasScanKind a) (before ++ c ∷ []) → fold_of s a (before ++ c ∷ []) ≡ Some (best_of (before ++ c ∷ [])))
      → (before : List Seen) (rs : Rows) → AllCells (HasScanKind a) before → AllCells (HasScanKind a) (cells rs) → scanned_behind s a before rs ≡ Ok (bests f (best_of before) rs)
  bests_behind s a same before [] h g = refl
  bests_behind s a same before (r ∷ rs) h g =
      let next : List Seen = before ++ r.1 ∷ [] in
      let all : AllCells (HasScanKind a) next = all_both (HasScanKind a) before (r.1 ∷ []) h (g.0, tt) in
      ap (at_row r.0 (or_inexact (fold_of s a next))) (bests_behind s a same next rs all g.1)
      ∙ (ap (λ o. at_row r.0 (or_inexact o) (Ok (bests f (best_of next) rs))) (same before r.1 all)
      ∙ ap (λ b. Ok ((r.0, b) ∷ bests f b rs)) (sym (best_more before r.1)))

  -- cells of an integer class are no NaN
  present_all : (k : IntKind) (cs : List Seen) → AllCells (HasScanKind (Integer k)) cs → present cs ≡ cs
  present_all k [] h = refl
  present_all k (c ∷ cs) h = present_or_not c cs true (integer_present c h.0) ∙ ap (λ xs. c ∷ xs) (present_all k cs h.1)
    where
      integer_present : (c : Seen) → seen_kind c ≡ Integer k → is_present c ≡ true
      integer_present (whole j m) e = refl
      integer_present (logical x) e = absurd (cc)
      integer_present (double d) e = absurd (cc)
      integer_present (text s) e = absurd (cc)

  some_joined : (x : Seen) (o : Option Seen) (c : Seen) → Some (or_cell x (best_joined f o (Some c))) ≡ Some (or_nan (best_joined f o (Some c)))
  some_joined x None c = refl
  some_joined x (Some b) c = refl

  integer_best : (k : IntKind) (x : Seen) (before : List Seen) (c : Seen) → AllCells (HasScanKind (Integer k)) (before ++ c ∷ []) → Some (or_cell x (folded f (before ++ c ∷ []))) ≡ Some (best_of (before ++ c ∷ []))
  integer_best k x before c all =
      ap (λ o. Some (or_cell x o)) (folded_append f assoc before (c ∷ []))
      ∙ (some_joined x (folded f before) c ∙ (ap (λ o. Some (or_nan o)) (sym (folded_append f assoc before (c ∷ []))) ∙ ap (λ xs. Some (or_nan (folded f xs))) (sym (present_all k (before ++ c ∷ []) all))))

  -- the best so far stands for the cells that it is of
  pub best_stands : (before cs : List Seen) → best_of (best_of before ∷ cs) ≡ best_of (before ++ cs)
  best_stands before cs =
      stands (folded f (present before)) (folded_present before)
      ∙ sym (ap (λ xs. or_nan (folded f xs)) (filter-append is_present before cs) ∙ ap or_nan (folded_append f assoc (present before) (present cs)))
    where
      stands : (o : Option Seen) → ((b : Seen) → o ≡ Some b → is_present b ≡ true) → or_nan (folded f (present (or_nan o ∷ cs))) ≡ or_nan (best_joined f o (folded f (present cs)))
      stands None h = ap or_nan (none_front (folded f (present cs)))
        where
          none_front : (o : Option Seen) → o ≡ best_joined f None o
          none_front None = refl
          none_front (Some b) = refl
      stands (Some b) h = ap (λ xs. or_nan (folded f xs)) (present_or_not b cs true (h b refl)) ∙ ap or_nan (folded_append f assoc (b ∷ []) (present cs))

  -- in an integer class so does the end of the class before all cells of the class
  fold_within : (P : Seen → Type 0) (c : Seen) (cs : List Seen) → P c → AllCells P cs → P (fold f c cs)
  fold_within P c [] h g = h
  fold_within P c (d ∷ cs) h g = fold_within P (f c d) cs (chosen P c d h g.0) g.1

  pub end_stands : (P : Seen → Type 0) (x : Seen) → ((c : Seen) → P c → f x c ≡ c) → (before cs : List Seen) → AllCells P cs → Some (or_cell x (folded f (or_cell x (folded f before) ∷ cs))) ≡ Some (or_cell x (folded f (before ++ cs)))
  end_stands P x least_one [] [] all = refl
  end_stands P x least_one [] (d ∷ cs) all =
      ap (λ o. Some (or_cell x o)) (folded_append f assoc (x ∷ []) (d ∷ cs)) ∙ ap Some (least_one (fold f d cs) (fold_within P d cs all.0 all.1))
  end_stands P x least_one (b ∷ before) cs all =
      ap (λ o. Some (or_cell x o)) (folded_append f assoc (fold f b before ∷ []) cs ∙ sym (folded_append f assoc (b ∷ before) cs))

-- ---- the two that are chosen

picks : (b : Bool) (x y : Seen) → ((if b then y else x) ≡ x) ⊎ ((if b then y else x) ≡ y)
picks true x y = inr refl
picks false x y = inl refl

pub lesser_chooses : (c d : Seen) → (lesser c d ≡ c) ⊎ (lesser c d ≡ d)
lesser_chooses c d = picks (is_lt (cell_order d c)) c d

pub greater_chooses : (c d : Seen) → (greater c d ≡ c) ⊎ (greater c d ≡ d)
greater_chooses c d = picks (is_lt (cell_order c d)) c d

-- ---- from the start on

numbers_of : (a : Kind) → ((c : Seen) → HasScanKind a c → IsNumber c) → (cs : List Seen) → AllCells (HasScanKind a) cs → AllCells IsNumber cs
numbers_of a one [] h = tt
numbers_of a one (c ∷ cs) h = (one c h.0, numbers_of a one cs h.1)

logical_number : (c : Seen) → seen_kind c ≡ Logical → IsNumber c
logical_number (text t) e = absurd (cc)
logical_number (whole k n) e = tt
logical_number (logical b) e = tt
logical_number (double d) e = tt

double_number : (c : Seen) → seen_kind c ≡ Double → IsNumber c
double_number (text t) e = absurd (cc)
double_number (whole k n) e = tt
double_number (logical b) e = tt
double_number (double d) e = tt

text_begins : (s : Scan) (rs : Rows) → AllCells (HasScanKind Text) (cells rs) → scanned_behind s Text [] rs ≡ scanned s Text rs
text_begins CumSum [] h = refl
text_begins CumMin [] h = refl
text_begins CumMax [] h = refl
text_begins s (r ∷ rs) h = absurd h.0

pub scan_begins : (s : Scan) (a : Kind) (rs : Rows) → AllCells (HasScanKind a) (cells rs) → scanned_behind s a [] rs ≡ scanned s a rs
scan_begins CumSum (Integer k) rs h = integers_behind k [] rs
scan_begins CumSum Logical rs h = sums_behind Logical (λ cs. refl) [] rs (numbers_of Logical logical_number (cells rs) h)
scan_begins CumSum Double rs h = sums_behind Double (λ cs. refl) [] rs (numbers_of Double double_number (cells rs) h)
scan_begins s Text rs h = text_begins s rs h
scan_begins CumMin (Integer k) rs h = bests_behind lesser lesser_assoc lesser_chooses CumMin (Integer k) (integer_best lesser lesser_assoc lesser_chooses k (whole k (greatest k))) [] rs tt h
scan_begins CumMin Logical rs h = bests_behind lesser lesser_assoc lesser_chooses CumMin Logical (λ before c all. refl) [] rs tt h
scan_begins CumMin Double rs h = bests_behind lesser lesser_assoc lesser_chooses CumMin Double (λ before c all. refl) [] rs tt h
scan_begins CumMax (Integer k) rs h = bests_behind greater greater_assoc greater_chooses CumMax (Integer k) (integer_best greater greater_assoc greater_chooses k (whole k (least k))) [] rs tt h
scan_begins CumMax Logical rs h = bests_behind greater greater_assoc greater_chooses CumMax Logical (λ before c all. refl) [] rs tt h
scan_begins CumMax Double rs h = bests_behind greater greater_assoc greater_chooses CumMax Double (λ before c all. refl) [] rs tt h

-- ---- the cells that scans go over

scan_cell : (s : Scan) (a : Class) (c : Class) → allowed (scan_class s a) ≡ class_ok c → (d : Seen) → HasClass a d → HasScanKind (kind_of a) d
scan_cell s a c h d is = by_kind s (kind_of a) c h d (sym (kind_again (seen_kind d)) ∙ ap kind_of is)
  where
    refused_kind : (s : Scan) (c : Class) → allowed (class_result (scan_kind s Text)) ≡ class_ok c → ⊥
    refused_kind CumSum c h = absurd (cc)
    refused_kind CumMin c h = absurd (cc)
    refused_kind CumMax c h = absurd (cc)

    by_kind : (s : Scan) (k : Kind) (c : Class) → allowed (class_result (scan_kind s k)) ≡ class_ok c → (d : Seen) → seen_kind d ≡ k → HasScanKind k d
    by_kind s (Integer k) c h d e = e
    by_kind s Logical c h d e = e
    by_kind s Double c h d e = e
    by_kind s Text c h d e = absurd (refused_kind s c h)

scan_cells : (P Q : Seen → Type 0) → ((d : Seen) → P d → Q d) → (cs : List Seen) → All P cs → AllCells Q cs
scan_cells P Q one [] h = tt
scan_cells P Q one (c ∷ cs) h = (one c (All-head P c cs h), scan_cells P Q one cs (All-tail P c cs h))

placed_class : (c : Result Class ShapeRefusal) (s : Result Space ShapeRefusal) (p : Class × Space) → placed c s ≡ place_ok p → c ≡ class_ok p.0
placed_class (Ok c) (Ok s) p h = ap (λ r. elim r [ Ok q ↦ class_ok q.0 | Err e ↦ class_ok c ]) h
placed_class (Ok c) (Err e) p h = absurd (cc)
placed_class (Err e) s p h = absurd (cc)

pub scans_take : (columns : Columns) (of_stores : ℕ → List ℕ) (vs : List Vertex) (f : ℕ → Tall) → IsMeaning columns vs f → IsOrdered vs → AreColumns columns of_stores vs
    → (i a : ℕ) (v : Vertex) (s : Scan) → slice_get vs i ≡ Some v → v.made ≡ operation (scan s) → v.args ≡ a ∷ [] → AllCells (HasScanKind (kind_of (f a).shape.class)) (cells_in (f a).outcome)
scans_take columns of_stores vs f meaning ordered readings i a v s e q r =
    let among : IsAmong v.args a = subst (λ xs. IsAmong xs a) (sym r) (inl refl) in
    let b = get_before vs i a v e (below_among i v.args a (ordered i v e) among) in
    let shaped = tall_shape v.at (scan s) (map f v.args) (f i) (made_value columns vs f meaning i v (scan s) e q) in
    let w = shaped_is (scan s) (shapes (map f v.args)) (place_of (scan s) (shapes (map f v.args))) (f i).shape shaped in
    let p : place_of (scan s) ((f a).shape ∷ []) ≡ place_ok w.0 = subst (λ xs. place_of (scan s) (shapes (map f xs)) ≡ place_ok w.0) r w.1 in
    let k = placed_class _ (Ok (f a).shape.space) w.0 (column_is (f a).shape _ w.0 p) in
    scan_cells (HasClass (f a).shape.class) (HasScanKind (kind_of (f a).shape.class)) (scan_cell s (f a).shape.class w.0.0 k) (cells_in (f a).outcome) (value_class columns of_stores vs f meaning ordered readings a b.0 b.1)
