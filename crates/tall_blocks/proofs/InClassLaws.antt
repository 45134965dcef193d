-- Over a block each cell of a value has the class of its shape, and a number of an integer class is within the class.
use Rattle.std.specs.Prelude.{◌≡◌, refl, ℤ, ℕ, zero, suc, pos, ◌+ℤ◌, ◌≤ℤ◌, ◌<◌, ◌⊎◌, Bool, true, false, if◌then◌else◌, Option, None, Some, Result, Ok, Err, List, [], ◌∷◌, ◌++◌, map, take, slice_get}
use Rattle.std.specs.List.{All, filter_map, list_any}
use Rattle.std.proofs.Common.{ap, sym, subst, ◌∙◌, arith, inl, inr}
use Rattle.std.proofs.lemmas.List.{map-append}
use Rattle.std.proofs.lemmas.List.Elements.{All-nil, All-cons, All-head, All-tail, All-append}
use Rattle.tall_int.specs.Numbers.{nearest}
use Rattle.tall_int.specs.Sums.{clamped_sum}
use Rattle.tall_value.specs.declared.class.Class.{Class}
use Rattle.tall_value.specs.declared.class.IntKind.{IntKind}
use Rattle.tall_value.specs.declared.class.Kind.{Kind}
use Rattle.tall_value.specs.declared.class.Kind.TheVariants.{Integer, Logical, Double, Text}
use Rattle.tall_value.specs.declared.faults.CellFault.{CellFault}
use Rattle.tall_value.specs.declared.faults.FaultKind.{FaultKind}
use Rattle.tall_value.specs.declared.operators.Binary.{Binary}
use Rattle.tall_value.specs.declared.operators.Unary.{Unary}
use Rattle.tall_value.specs.declared.functions.Scan.{Scan}
use Rattle.tall_value.specs.declared.functions.Scan.TheVariants.{CumSum, CumMin, CumMax}
use Rattle.tall_value.specs.Cells.{Seen, seen_kind, whole, logical, double, text, amount, is_nan}
use Rattle.tall_value.specs.CellOperators.{unary_cell, binary_cell, to_double, double_cell}
use Rattle.tall_value.specs.Classes.{kind_of, least, greatest}
use Rattle.tall_value.specs.Columns.{HasKind, cells}
use Rattle.tall_value.specs.Elementwise.{at_row, each_row, each_pair, unary_rows, binary_rows, scalar_rows, beside}
use Rattle.tall_value.specs.Filters.{kept, is_true}
use Rattle.tall_value.specs.FunctionClasses.{scan_kind}
use Rattle.tall_value.specs.Groups.{or_nan}
use Rattle.tall_value.specs.Reductions.{or_fault, present, is_present, lesser, greater, fold, folded, or_cell, exact_total, total}
use Rattle.tall_semantics.specs.ClassesOfCells.{HasClass, HaveClass}
use Rattle.tall_semantics.specs.Faults.{At, Fault}
use Rattle.tall_semantics.specs.Operations.{Op, constant, unary, binary, filter as filtering, reduce, scan, head, tail, distinct, group, Made, stored, operation}
use Rattle.tall_semantics.specs.Outcomes.{Outcome, rows, scalar, fault, fault_of, rows_in, cells_in, row_by_row, alone, elementwise_one, elementwise_two}
use Rattle.tall_semantics.specs.ScanCarries.{fold_of}
use Rattle.tall_semantics.specs.Talls.{unless}
use Rattle.tall_blocks.specs.Carries.{Rows, or_inexact, scanned_behind, AllCells, HasScanKind, IsInClass}
use Rattle.tall_blocks.proofs.CarryLaws.{lesser_chooses, greater_chooses}
use Rattle.tall_blocks.proofs.CarryPlaceLaws.{carry_class}
use Rattle.tall_blocks.proofs.RangeLaws.{InRange, GivesInRange, ends, nearest_in_range, ends_in_range, to_double_in, unary_in_range, binary_in_range}

-- ---- what an outcome's cells are

abbrev pub AreInRange : Outcome → Type 0
AreInRange x = All InRange (cells_in x)

-- it is no scalar
abbrev pub IsNoScalar : Outcome → Type 0
IsNoScalar (rows rs) = Unit {0}
IsNoScalar (scalar c) = ⊥
IsNoScalar (fault f) = Unit {0}

abbrev RowsInRange : Result Rows (ℕ × CellFault) → Type 0
RowsInRange (Ok rs) = All InRange (cells rs)
RowsInRange (Err e) = Unit {0}

front_in : (n : ℕ) (r : Result Seen CellFault) (rest : Result Rows (ℕ × CellFault)) → GivesInRange r → RowsInRange rest → RowsInRange (at_row n r rest)
front_in n (Ok c) (Ok rs) h k = All-cons InRange c (cells rs) h k
front_in n (Ok c) (Err e) h k = tt
front_in n (Err e) rest h k = tt

each_in : (f : Seen → Result Seen CellFault) → ((c : Seen) → GivesInRange (f c)) → (rs : Rows) → RowsInRange (each_row f rs)
each_in f one [] = All-nil InRange
each_in f one (r ∷ rs) = front_in r.0 (f r.1) (each_row f rs) (one r.1) (each_in f one rs)

pairs_in : (f : Seen → Seen → Result Seen CellFault) → ((c d : Seen) → GivesInRange (f c d)) → (rs ss : Rows) → RowsInRange (each_pair f rs ss)
pairs_in f one [] ss = All-nil InRange
pairs_in f one (r ∷ rs) [] = All-nil InRange
pairs_in f one (r ∷ rs) (s ∷ ss) = front_in r.0 (f r.1 s.1) (each_pair f rs ss) (one r.1 s.1) (pairs_in f one rs ss)

beside_in : (op : Binary) (left : Bool) (c d : Seen) → GivesInRange (beside op left c d)
beside_in op true c d = binary_in_range op c d
beside_in op false c d = binary_in_range op d c

by_rows_in : (at : At) (r : Result Rows (ℕ × CellFault)) → RowsInRange r → AreInRange (row_by_row at r) × IsNoScalar (row_by_row at r)
by_rows_in at (Ok rs) h = (h, tt)
by_rows_in at (Err e) h = (All-nil InRange, tt)

alone_in : (at : At) (r : Result Seen CellFault) → GivesInRange r → AreInRange (alone at (or_fault r))
alone_in at (Ok c) h = All-cons InRange c [] h (All-nil InRange)
alone_in at (Err e) h = All-nil InRange

-- ---- operation by operation

pub one_in : (at : At) (op : Unary) (x : Outcome) → IsNoScalar x → AreInRange (elementwise_one at op x) × IsNoScalar (elementwise_one at op x)
one_in at op (rows rs) h = by_rows_in at (unary_rows op rs) (each_in (unary_cell op) (unary_in_range op) rs)
one_in at op (scalar c) h = absurd h
one_in at op (fault f) h = (All-nil InRange, tt)

abbrev pub OneIsNoScalar : Outcome → Outcome → Type 0
OneIsNoScalar (scalar c) (scalar d) = ⊥
OneIsNoScalar x y = Unit {0}

pub two_in : (at : At) (op : Binary) (x y : Outcome) → OneIsNoScalar x y → AreInRange (elementwise_two at op x y) × IsNoScalar (elementwise_two at op x y)
two_in at op (rows rs) (rows ss) h = by_rows_in at (binary_rows op rs ss) (pairs_in (binary_cell op) (binary_in_range op) rs ss)
two_in at op (rows rs) (scalar d) h = by_rows_in at (scalar_rows op false d rs) (each_in (beside op false d) (beside_in op false d) rs)
two_in at op (scalar c) (rows ss) h = by_rows_in at (scalar_rows op true c ss) (each_in (beside op true c) (beside_in op true c) ss)
two_in at op (scalar c) (scalar d) h = absurd h
two_in at op (fault f) y h = (All-nil InRange, tt)
two_in at op (rows rs) (fault f) h = (All-nil InRange, tt)
two_in at op (scalar c) (fault f) h = (All-nil InRange, tt)

pub kept_all : (P : Seen → Type 0) (rs : Rows) (mask : List Seen) → All P (cells rs) → All P (cells (kept rs mask))
kept_all P [] mask all = All-nil P
kept_all P (r ∷ rs) [] all = All-nil P
kept_all P (r ∷ rs) (m ∷ mask) all = by_test (is_true m) (kept_all P rs mask (All-tail P r.1 (cells rs) all)) where
  by_test : (b : Bool) → All P (cells (kept rs mask)) → All P (cells (if b then r ∷ kept rs mask else kept rs mask))
  by_test true rest = All-cons P r.1 (cells (kept rs mask)) (All-head P r.1 (cells rs) all) rest
  by_test false rest = rest

-- ---- folds of scans

abbrev MayBe : (Seen → Type 0) → Option Seen → Type 0
MayBe P None = Unit {0}
MayBe P (Some c) = P c

module _ (f : Seen → Seen → Seen) (chooses : (c d : Seen) → (f c d ≡ c) ⊎ (f c d ≡ d)) where
  chosen_in : (c d : Seen) → InRange c → InRange d → InRange (f c d)
  chosen_in c d p q = elim (chooses c d) [ inl e ↦ subst InRange (sym e) p | inr e ↦ subst InRange (sym e) q ]

  fold_in : (c : Seen) (cs : List Seen) → InRange c → All InRange cs → InRange (fold f c cs)
  fold_in c [] p all = p
  fold_in c (d ∷ cs) p all = fold_in (f c d) cs (chosen_in c d p (All-head InRange d cs all)) (All-tail InRange d cs all)

  folded_in : (cs : List Seen) → All InRange cs → MayBe InRange (folded f cs)
  folded_in [] all = tt
  folded_in (c ∷ cs) all = fold_in c cs (All-head InRange c cs all) (All-tail InRange c cs all)

present_in : (cs : List Seen) → All InRange cs → All InRange (present cs)
present_in [] all = All-nil InRange
present_in (c ∷ cs) all = by_test (is_present c) (present_in cs (All-tail InRange c cs all)) where
  by_test : (b : Bool) → All InRange (present cs) → All InRange (if b then c ∷ present cs else present cs)
  by_test true rest = All-cons InRange c (present cs) (All-head InRange c cs all) rest
  by_test false rest = rest

or_cell_in : (c : Seen) (o : Option Seen) → InRange c → MayBe InRange o → InRange (or_cell c o)
or_cell_in c None h k = h
or_cell_in c (Some d) h k = k

or_nan_in : (o : Option Seen) → MayBe InRange o → InRange (or_nan o)
or_nan_in None k = tt
or_nan_in (Some c) k = k

sum_in : (k : IntKind) (n : ℤ) (ns : List ℤ) → InRange (whole k n) → InRange (whole k (clamped_sum (least k) (greatest k) n ns))
sum_in k n [] h = h
sum_in k n (m ∷ ns) h = sum_in k (nearest (least k) (greatest k) (n +ℤ m)) ns (nearest_in_range k (n +ℤ m))

total_in : (r : Result Seen CellFault) → GivesInRange r → MayBe InRange (elim (or_fault r) as (λ x. Option Seen) [ Ok c ↦ Some c | Err e ↦ None ])
total_in (Ok c) h = h
total_in (Err e) h = tt

fold_in_range : (s : Scan) (a : Kind) (cs : List Seen) → All InRange cs → MayBe InRange (fold_of s a cs)
fold_in_range CumSum (Integer k) cs all = sum_in k (pos 0) (filter_map amount cs) (ends k)
fold_in_range CumSum Logical cs all = total_in (to_double (if list_any is_nan cs then None else Some (total (filter_map amount cs)))) (to_double_in (if list_any is_nan cs then None else Some (total (filter_map amount cs))))
fold_in_range CumSum Double cs all = total_in (to_double (if list_any is_nan cs then None else Some (total (filter_map amount cs)))) (to_double_in (if list_any is_nan cs then None else Some (total (filter_map amount cs))))
fold_in_range CumSum Text cs all = total_in (to_double (if list_any is_nan cs then None else Some (total (filter_map amount cs)))) (to_double_in (if list_any is_nan cs then None else Some (total (filter_map amount cs))))
fold_in_range CumMin (Integer k) cs all = or_cell_in (whole k (greatest k)) (folded lesser cs) (ends_in_range k).1 (folded_in lesser lesser_chooses cs all)
fold_in_range CumMin Logical cs all = or_nan_in (folded lesser (present cs)) (folded_in lesser lesser_chooses (present cs) (present_in cs all))
fold_in_range CumMin Double cs all = or_nan_in (folded lesser (present cs)) (folded_in lesser lesser_chooses (present cs) (present_in cs all))
fold_in_range CumMin Text cs all = or_nan_in (folded lesser (present cs)) (folded_in lesser lesser_chooses (present cs) (present_in cs all))
fold_in_range CumMax (Integer k) cs all = or_cell_in (whole k (least k)) (folded greater cs) (ends_in_range k).0 (folded_in greater greater_chooses cs all)
fold_in_range CumMax Logical cs all = or_nan_in (folded greater (present cs)) (folded_in greater greater_chooses (present cs) (present_in cs all))
fold_in_range CumMax Double cs all = or_nan_in (folded greater (present cs)) (folded_in greater greater_chooses (present cs) (present_in cs all))
fold_in_range CumMax Text cs all = or_nan_in (folded greater (present cs)) (folded_in greater greater_chooses (present cs) (present_in cs all))

-- ---- scans

inexact_in : (o : Option Seen) → MayBe InRange o → GivesInRange (or_inexact o)
inexact_in None h = tt
inexact_in (Some c) h = h

scanned_in : (s : Scan) (a : Kind) (before : List Seen) (rs : Rows) → All InRange before → All InRange (cells rs) → RowsInRange (scanned_behind s a before rs)
scanned_in s a before [] h k = All-nil InRange
scanned_in s a before (r ∷ rs) h k =
    let more : All InRange (before ++ r.1 ∷ []) = All-append InRange before (r.1 ∷ []) h (All-cons InRange r.1 [] (All-head InRange r.1 (cells rs) k) (All-nil InRange)) in
    front_in r.0 (or_inexact (fold_of s a (before ++ r.1 ∷ []))) (scanned_behind s a (before ++ r.1 ∷ []) rs)
    (inexact_in (fold_of s a (before ++ r.1 ∷ [])) (fold_in_range s a (before ++ r.1 ∷ []) more)) (scanned_in s a (before ++ r.1 ∷ []) rs more (All-tail InRange r.1 (cells rs) k))

-- their kinds
abbrev RowsAreOf : Kind → Result Rows (ℕ × CellFault) → Type 0
RowsAreOf j (Ok rs) = All (HasKind j) (cells rs)
RowsAreOf j (Err e) = Unit {0}

front_of : (j : Kind) (n : ℕ) (o : Option Seen) (rest : Result Rows (ℕ × CellFault)) → ((c : Seen) → o ≡ Some c → seen_kind c ≡ j) → RowsAreOf j rest → RowsAreOf j (at_row n (or_inexact o) rest)
front_of j n (Some c) (Ok rs) h k = All-cons (HasKind j) c (cells rs) (h c refl) k
front_of j n (Some c) (Err e) h k = tt
front_of j n None rest h k = tt

as_all_cells : (P : Seen → Type 0) (cs : List Seen) → All P cs → AllCells P cs
as_all_cells P [] all = tt
as_all_cells P (c ∷ cs) all = (All-head P c cs all, as_all_cells P cs (All-tail P c cs all))

pub scanned_of : (s : Scan) (a j : Kind) (before : List Seen) (rs : Rows) → scan_kind s a ≡ Ok j → All (HasScanKind a) before → All (HasScanKind a) (cells rs) → RowsAreOf j (scanned_behind s a before rs)
scanned_of s a j before [] e h k = All-nil (HasKind j)
scanned_of s a j before (r ∷ rs) e h k =
    let more : All (HasScanKind a) (before ++ r.1 ∷ []) = All-append (HasScanKind a) before (r.1 ∷ []) h (All-cons (HasScanKind a) r.1 [] (All-head (HasScanKind a) r.1 (cells rs) k) (All-nil (HasScanKind a))) in
    front_of j r.0 (fold_of s a (before ++ r.1 ∷ [])) (scanned_behind s a (before ++ r.1 ∷ []) rs)
    (λ c z. carry_class s a j (before ++ r.1 ∷ []) c e (as_all_cells (HasScanKind a) (before ++ r.1 ∷ []) more) z) (scanned_of s a j (before ++ r.1 ∷ []) rs e more (All-tail (HasScanKind a) r.1 (cells rs) k))

pub scan_in : (at : At) (s : Scan) (a : Kind) (before : List Seen) (rs : Rows) → All InRange before → All InRange (cells rs)
    → AreInRange (row_by_row at (scanned_behind s a before rs)) × IsNoScalar (row_by_row at (scanned_behind s a before rs))
scan_in at s a before rs h k = by_rows_in at (scanned_behind s a before rs) (scanned_in s a before rs h k)

pub scan_of : (at : At) (j : Kind) (r : Result Rows (ℕ × CellFault)) → RowsAreOf j r → All (HasKind j) (cells_in (row_by_row at r))
scan_of at j (Ok rs) h = h
scan_of at j (Err e) h = All-nil (HasKind j)

-- ---- a class, by kind and range

one_class : (a : Kind) (c : Seen) → HasKind a c → InRange c → IsInClass a c
one_class (Integer k) (whole j n) e h = (let z = inside j k e in (z, subst (λ i. least i ≤ℤ n) z h.0, subst (λ i. n ≤ℤ greatest i) z h.1)) where
  inside : (j k : IntKind) → Integer j ≡ Integer k → j ≡ k
  inside j k e = ap (λ a. elim a [ Integer i ↦ i | Logical ↦ j | Double ↦ j | Text ↦ j ]) e
one_class (Integer k) (logical b) e h = absurd cc
one_class (Integer k) (double d) e h = absurd cc
one_class (Integer k) (text t) e h = absurd cc
one_class Logical c e h = tt
one_class Double c e h = tt
one_class Text c e h = tt

pub all_class : (a : Kind) (cs : List Seen) → All (HasKind a) cs → All InRange cs → AllCells (IsInClass a) cs
all_class a [] h k = tt
all_class a (c ∷ cs) h k = (one_class a c (All-head (HasKind a) c cs h) (All-head InRange c cs k), all_class a cs (All-tail (HasKind a) c cs h) (All-tail InRange c cs k))
