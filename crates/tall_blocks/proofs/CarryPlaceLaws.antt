-- The fold of some cells stands for them as one cell; where it is out of range the scan has failed; and the carry of a block
-- is the fold of the cells of the blocks before.
use Rattle.std.specs.Prelude.{◌≡◌, refl, ℤ, ℕ, zero, suc, pos, ◌<◌, ◌≤◌, ◌+ℤ◌, ◌≤ℤ◌, ◌⊎◌, ◌^◌, nat_le, unsigned_abs, if◌then◌else◌, Bool, true, false, Option, None, Some, Result, Ok, Err, List, [], ◌∷◌, ◌++◌, get_or, length, map, take}
use Rattle.std.proofs.Common.{ap, sym, subst, ◌∙◌, arith, inl, inr}
use Rattle.std.specs.List.{filter_map}
use Rattle.std.specs.Ordering.{is_lt, int_cmp}
use Rattle.std.specs.declared.cmp.Ordering.TheVariants.{Less}
use Rattle.std.specs.Cmp.{int_cmp_is}
use Rattle.std.proofs.lemmas.Int.{ints, clamps, by_lt_z}
use Rattle.std.proofs.lemmas.List.{append_assoc, append-nil, length-map, map-append}
use Rattle.std.proofs.lemmas.List.Elements.{filter_map-append}
use Rattle.tall_int.specs.Numbers.{nearest}
use Rattle.tall_int.specs.Sums.{clamped_sum}
use Rattle.tall_value.specs.declared.class.IntKind.{IntKind}
use Rattle.tall_value.specs.declared.class.IntKind.TheVariants.{Int8, Int16, Int32, Int64, Uint8, Uint16, Uint32, Uint64}
use Rattle.tall_value.specs.declared.class.Kind.{Kind}
use Rattle.tall_value.specs.declared.class.Kind.TheVariants.{Integer, Logical, Double, Text}
use Rattle.tall_value.specs.declared.faults.CellFault.{CellFault}
use Rattle.tall_value.specs.declared.faults.CellFault.TheVariants.{Inexact}
use Rattle.tall_value.specs.declared.functions.Scan.{Scan}
use Rattle.tall_value.specs.declared.functions.Scan.TheVariants.{CumSum, CumMin, CumMax}
use Rattle.tall_value.specs.declared.faults.ClassFault.{ClassFault}
use Rattle.tall_value.specs.FunctionClasses.{scan_kind}
use Rattle.tall_value.specs.Groups.{or_nan}
use Rattle.tall_value.specs.Cells.{Seen, whole, logical, double, text, seen_kind, amount}
use Rattle.tall_value.specs.CellOperators.{double_cell}
use Rattle.tall_value.specs.Classes.{least, greatest}
use Rattle.tall_value.specs.Columns.{cells}
use Rattle.tall_value.specs.Elementwise.{at_row}
use Rattle.tall_value.specs.Reductions.{present, is_present, lesser, greater, fold, folded, or_cell}
use Rattle.tall_semantics.specs.ScanCarries.{fold_of, while_there, carries_behind}
use Rattle.tall_blocks.specs.Carries.{Rows, RowsOrFault, flat, rows_joined, or_inexact, scanned_behind, carry_for, AllCells, HasScanKind, IsInClass}
use Rattle.tall_blocks.proofs.CarryLaws.{all_both, of_sum, of_test, to_fold, sum_of, plus, sums_add, sum_of_one, class_total, best_stands, end_stands, lesser_chooses, greater_chooses}
use Rattle.tall_blocks.proofs.RowLaws.{scan_then}
use Rattle.tall_value.proofs.SumLaws.{clamped_append}
use Rattle.tall_blocks.proofs.FoldLaws.{greater_assoc, lesser_assoc}

abbrev some_cell : Seen → Option Seen
some_cell c = Some c

cell_inside : (c d : Seen) → some_cell c ≡ some_cell d → c ≡ d
cell_inside c d h = ap (λ o. elim o [ Some e ↦ e | None ↦ c ]) h

-- ---- sums in an integer class

zero_within : (k : IntKind) → (least k ≤ℤ pos 0) × (pos 0 ≤ℤ greatest k)
zero_within Int8 = (omega (arith, ints), omega (arith, ints))
zero_within Int16 = (omega (arith, ints), omega (arith, ints))
zero_within Int32 = (omega (arith, ints), omega (arith, ints))
zero_within Int64 = (omega (arith, ints), omega (arith, ints))
zero_within Uint8 = (omega (arith, ints), omega (arith, ints))
zero_within Uint16 = (omega (arith, ints), omega (arith, ints))
zero_within Uint32 = (omega (arith, ints), omega (arith, ints))
zero_within Uint64 = (omega (arith, ints), omega (arith, ints))

nearest_within : (low high n : ℤ) → low ≤ℤ high → (low ≤ℤ nearest low high n) × (nearest low high n ≤ℤ high)
nearest_within low high n h = (omega (arith, ints, clamps, h), omega (arith, ints, clamps, h))

sum_within : (low high s : ℤ) (xs : List ℤ) → low ≤ℤ s → s ≤ℤ high → (low ≤ℤ clamped_sum low high s xs) × (clamped_sum low high s xs ≤ℤ high)
sum_within low high s [] l g = (l, g)
sum_within low high s (x ∷ xs) l g =
    let w = nearest_within low high (s +ℤ x) (omega (arith, ints, l, g)) in
    sum_within low high (nearest low high (s +ℤ x)) xs w.0 w.1

stays_within : (low high s : ℤ) → low ≤ℤ s → s ≤ℤ high → nearest low high (pos 0 +ℤ s) ≡ s
stays_within low high s l g = omega (arith, ints, clamps, l, g)

total_stands : (k : IntKind) (before cs : List Seen) → class_total k (whole k (class_total k before) ∷ cs) ≡ class_total k (before ++ cs)
total_stands k before cs =
    let z = zero_within k in
    let w = sum_within (least k) (greatest k) (pos 0) (filter_map amount before) z.0 z.1 in
    ap (λ s. clamped_sum (least k) (greatest k) s (filter_map amount cs)) (stays_within (least k) (greatest k) (class_total k before) w.0 w.1)
    ∙ sym (ap (clamped_sum (least k) (greatest k) (pos 0)) (filter_map-append amount before cs) ∙ clamped_append (least k) (greatest k) (pos 0) (filter_map amount before) (filter_map amount cs))

-- ---- sums of doubles

cell_of_test : (t : Bool) (n : ℤ) (c : Seen) → to_fold (double_cell (of_test t n)) ≡ some_cell c → double (Some n) ≡ c
cell_of_test true n c e = cell_inside (double (Some n)) c e
cell_of_test false n c e = absurd (cc)

cell_of_sum : (x : Option ℤ) (c : Seen) → of_sum x ≡ some_cell c → double x ≡ c
cell_of_sum None c e = cell_inside (double None) c e
cell_of_sum (Some n) c e = cell_of_test (nat_le (unsigned_abs n) (2 ^ 53)) n c e

one_sum : (x : Option ℤ) → sum_of (double x ∷ []) ≡ x
one_sum None = sum_of_one (double None) tt
one_sum (Some n) = sum_of_one (double (Some n)) tt

sum_stands : (before cs : List Seen) (c : Seen) → of_sum (sum_of before) ≡ some_cell c → of_sum (sum_of (c ∷ cs)) ≡ of_sum (sum_of (before ++ cs))
sum_stands before cs c e =
    subst (λ d. of_sum (sum_of (d ∷ cs)) ≡ of_sum (sum_of (before ++ cs))) (cell_of_sum (sum_of before) c e)
    (ap of_sum (sums_add (double (sum_of before) ∷ []) cs ∙ (ap (λ x. plus x (sum_of cs)) (one_sum (sum_of before)) ∙ sym (sums_add before cs))))

-- ---- the ends of an integer class

abbrev order_of : ℤ → ℤ → Bool
order_of m n = is_lt (int_cmp m n)

last_of_class : (k j : IntKind) (n : ℤ) (t : Bool) → order_of n (greatest k) ≡ t → j ≡ k → n ≤ℤ greatest k → (if t then whole j n else whole k (greatest k)) ≡ whole j n
last_of_class k j n true e q h = refl
last_of_class k j n false e q h = ap (λ i. whole i (greatest k)) (sym q) ∙ ap (whole j) (same n (greatest k) e h)
  where
    same : (n g : ℤ) → order_of n g ≡ false → n ≤ℤ g → g ≡ n
    same n g e h = by_lt_z n g (λ l. absurd (let q : true ≡ order_of n g = ap is_lt (int_cmp_is n g Less l) in cc)) (λ l. omega (arith, ints, l, h))

first_of_class : (k j : IntKind) (n : ℤ) (t : Bool) → order_of (least k) n ≡ t → j ≡ k → least k ≤ℤ n → (if t then whole j n else whole k (least k)) ≡ whole j n
first_of_class k j n true e q h = refl
first_of_class k j n false e q h = ap (λ i. whole i (least k)) (sym q) ∙ ap (whole j) (same (least k) n e h)
  where
    same : (g n : ℤ) → order_of g n ≡ false → g ≤ℤ n → g ≡ n
    same g n e h = by_lt_z g n (λ l. absurd (let q : true ≡ order_of g n = ap is_lt (int_cmp_is g n Less l) in cc)) (λ l. omega (arith, ints, l, h))

least_one : (k : IntKind) (c : Seen) → IsInClass (Integer k) c → lesser (whole k (greatest k)) c ≡ c
least_one k (whole j n) h = last_of_class k j n (order_of n (greatest k)) refl h.0 h.2
least_one k (logical b) h = absurd h
least_one k (double d) h = absurd h
least_one k (text t) h = absurd h

greatest_one : (k : IntKind) (c : Seen) → IsInClass (Integer k) c → greater (whole k (least k)) c ≡ c
greatest_one k (whole j n) h = first_of_class k j n (order_of (least k) n) refl h.0 h.1
greatest_one k (logical b) h = absurd h
greatest_one k (double d) h = absurd h
greatest_one k (text t) h = absurd h

-- ---- a carry stands for the cells before

pub carry_stands : (s : Scan) (a : Kind) (before cs : List Seen) (c : Seen) → fold_of s a before ≡ Some c → AllCells (IsInClass a) cs → fold_of s a (c ∷ cs) ≡ fold_of s a (before ++ cs)
carry_stands CumSum (Integer k) before cs c e h =
    subst (λ d. fold_of CumSum (Integer k) (d ∷ cs) ≡ fold_of CumSum (Integer k) (before ++ cs)) (cell_inside (whole k (class_total k before)) c e)
    (ap (λ n. some_cell (whole k n)) (total_stands k before cs))
carry_stands CumSum Logical before cs c e h = sum_stands before cs c e
carry_stands CumSum Double before cs c e h = sum_stands before cs c e
carry_stands CumSum Text before cs c e h = sum_stands before cs c e
carry_stands CumMin (Integer k) before cs c e h =
    subst (λ d. fold_of CumMin (Integer k) (d ∷ cs) ≡ fold_of CumMin (Integer k) (before ++ cs)) (cell_inside _ c e)
    (end_stands lesser lesser_assoc lesser_chooses (IsInClass (Integer k)) (whole k (greatest k)) (least_one k) before cs h)
carry_stands CumMin Logical before cs c e h = subst (λ d. fold_of CumMin Logical (d ∷ cs) ≡ fold_of CumMin Logical (before ++ cs)) (cell_inside _ c e) (ap some_cell (best_stands lesser lesser_assoc lesser_chooses before cs))
carry_stands CumMin Double before cs c e h = subst (λ d. fold_of CumMin Double (d ∷ cs) ≡ fold_of CumMin Double (before ++ cs)) (cell_inside _ c e) (ap some_cell (best_stands lesser lesser_assoc lesser_chooses before cs))
carry_stands CumMin Text before cs c e h = subst (λ d. fold_of CumMin Text (d ∷ cs) ≡ fold_of CumMin Text (before ++ cs)) (cell_inside _ c e) (ap some_cell (best_stands lesser lesser_assoc lesser_chooses before cs))
carry_stands CumMax (Integer k) before cs c e h =
    subst (λ d. fold_of CumMax (Integer k) (d ∷ cs) ≡ fold_of CumMax (Integer k) (before ++ cs)) (cell_inside _ c e)
    (end_stands greater greater_assoc greater_chooses (IsInClass (Integer k)) (whole k (least k)) (greatest_one k) before cs h)
carry_stands CumMax Logical before cs c e h = subst (λ d. fold_of CumMax Logical (d ∷ cs) ≡ fold_of CumMax Logical (before ++ cs)) (cell_inside _ c e) (ap some_cell (best_stands greater greater_assoc greater_chooses before cs))
carry_stands CumMax Double before cs c e h = subst (λ d. fold_of CumMax Double (d ∷ cs) ≡ fold_of CumMax Double (before ++ cs)) (cell_inside _ c e) (ap some_cell (best_stands greater greater_assoc greater_chooses before cs))
carry_stands CumMax Text before cs c e h = subst (λ d. fold_of CumMax Text (d ∷ cs) ≡ fold_of CumMax Text (before ++ cs)) (cell_inside _ c e) (ap some_cell (best_stands greater greater_assoc greater_chooses before cs))

-- ---- a carry has its scan's class

kind_inside : (j k : Kind) → ◌≡◌ {A = Result Kind ClassFault} (Ok j) (Ok k) → j ≡ k
kind_inside j k h = ap (λ r. elim r [ Ok i ↦ i | Err e ↦ j ]) h

present_cells : (P : Seen → Type 0) (cs : List Seen) → AllCells P cs → AllCells P (present cs)
present_cells P [] h = tt
present_cells P (c ∷ cs) h = by_test (is_present c) (present cs) h.0 (present_cells P cs h.1)
  where
    by_test : (b : Bool) (ds : List Seen) → P c → AllCells P ds → AllCells P (if b then c ∷ ds else ds)
    by_test true ds p g = (p, g)
    by_test false ds p g = g

folded_or : (P : Seen → Type 0) (f : Seen → Seen → Seen) → ((c d : Seen) → P c → P d → P (f c d)) → (x : Seen) → P x → (cs : List Seen) → AllCells P cs → P (or_cell x (folded f cs))
folded_or P f keeps x p [] h = p
folded_or P f keeps x p (c ∷ cs) h = go c cs h.0 h.1
  where
    go : (c : Seen) (cs : List Seen) → P c → AllCells P cs → P (fold f c cs)
    go c [] q g = q
    go c (d ∷ cs) q g = go (f c d) cs (keeps c d q g.0) g.1

or_nan_is : (o : Option Seen) → or_nan o ≡ or_cell (double None) o
or_nan_is None = refl
or_nan_is (Some c) = refl

chosen_kind : (f : Seen → Seen → Seen) → ((c d : Seen) → (f c d ≡ c) ⊎ (f c d ≡ d)) → (k : Kind) (c d : Seen) → seen_kind c ≡ k → seen_kind d ≡ k → seen_kind (f c d) ≡ k
chosen_kind f chooses k c d p q = elim (chooses c d) [ inl e ↦ ap seen_kind e ∙ p | inr e ↦ ap seen_kind e ∙ q ]

class_of_best : (f : Seen → Seen → Seen) → ((c d : Seen) → (f c d ≡ c) ⊎ (f c d ≡ d)) → (k : IntKind) (n : ℤ) (cs : List Seen) (c : Seen) → AllCells (HasScanKind (Integer k)) cs → some_cell (or_cell (whole k n) (folded f cs)) ≡ some_cell c → seen_kind c ≡ Integer k
class_of_best f chooses k n cs c h e =
    ap seen_kind (sym (cell_inside (or_cell (whole k n) (folded f cs)) c e)) ∙ folded_or (λ d. seen_kind d ≡ Integer k) f (chosen_kind f chooses (Integer k)) (whole k n) refl cs h

class_of_double : (f : Seen → Seen → Seen) → ((c d : Seen) → (f c d ≡ c) ⊎ (f c d ≡ d)) → (cs : List Seen) (c : Seen) → AllCells (HasScanKind Double) cs → some_cell (or_nan (folded f (present cs))) ≡ some_cell c → seen_kind c ≡ Double
class_of_double f chooses cs c h e =
    ap seen_kind (sym (cell_inside (or_nan (folded f (present cs))) c e))
    ∙ (ap seen_kind (or_nan_is (folded f (present cs)))
    ∙ folded_or (λ d. seen_kind d ≡ Double) f (chosen_kind f chooses Double) (double None) refl (present cs) (present_cells (λ d. seen_kind d ≡ Double) cs h))

pub carry_class : (s : Scan) (a k : Kind) (cs : List Seen) (c : Seen) → scan_kind s a ≡ Ok k → AllCells (HasScanKind a) cs → fold_of s a cs ≡ Some c → seen_kind c ≡ k
carry_class CumSum (Integer j) k cs c e h q = ap seen_kind (sym (cell_inside (whole j (class_total j cs)) c q)) ∙ kind_inside (Integer j) k e
carry_class CumSum Logical k cs c e h q = ap seen_kind (sym (cell_of_sum (sum_of cs) c q)) ∙ kind_inside Double k e
carry_class CumSum Double k cs c e h q = ap seen_kind (sym (cell_of_sum (sum_of cs) c q)) ∙ kind_inside Double k e
carry_class CumSum Text k cs c e h q = absurd (cc)
carry_class CumMin (Integer j) k cs c e h q = class_of_best lesser lesser_chooses j (greatest j) cs c h q ∙ kind_inside (Integer j) k e
carry_class CumMin Logical k cs c e h q = absurd (cc)
carry_class CumMin Double k cs c e h q = class_of_double lesser lesser_chooses cs c h q ∙ kind_inside Double k e
carry_class CumMin Text k cs c e h q = absurd (cc)
carry_class CumMax (Integer j) k cs c e h q = class_of_best greater greater_chooses j (least j) cs c h q ∙ kind_inside (Integer j) k e
carry_class CumMax Logical k cs c e h q = absurd (cc)
carry_class CumMax Double k cs c e h q = class_of_double greater greater_chooses cs c h q ∙ kind_inside Double k e
carry_class CumMax Text k cs c e h q = absurd (cc)

-- the rows behind are scanned alike, also behind some more cells
from_behind : (s : Scan) (a : Kind) (before : List Seen) (c : Seen) → fold_of s a before ≡ Some c → (cs : List Seen) (rs : Rows) → AllCells (IsInClass a) cs → AllCells (IsInClass a) (cells rs)
    → scanned_behind s a (c ∷ cs) rs ≡ scanned_behind s a (before ++ cs) rs
from_behind s a before c e cs [] h g = refl
from_behind s a before c e cs (r ∷ rs) h g =
    let more : List Seen = cs ++ r.1 ∷ [] in
    let all : AllCells (IsInClass a) more = all_both (IsInClass a) cs (r.1 ∷ []) h (g.0, tt) in
    ap (λ o. at_row r.0 (or_inexact o) (scanned_behind s a (c ∷ more) rs)) (carry_stands s a before more c e all)
    ∙ (ap (at_row r.0 (or_inexact (fold_of s a (before ++ more)))) (from_behind s a before c e more rs all g.1)
    ∙ ap (λ ds. at_row r.0 (or_inexact (fold_of s a ds)) (scanned_behind s a ds rs)) (sym (append_assoc before cs (r.1 ∷ []))))

pub from_carry : (s : Scan) (a : Kind) (before : List Seen) (rs : Rows) (c : Seen) → fold_of s a before ≡ Some c → AllCells (IsInClass a) (cells rs) → scanned_behind s a (c ∷ []) rs ≡ scanned_behind s a before rs
from_carry s a before rs c e h = from_behind s a before c e [] rs tt h ∙ ap (λ ds. scanned_behind s a ds rs) (append-nil before)

-- ---- a fold that is out of range

none_or_cell : (o : Option Seen) → (o ≡ None → ⊥) → (c : Seen) × (o ≡ Some c)
none_or_cell None h = absurd (h refl)
none_or_cell (Some c) h = (c, refl)

err_row : (n : ℕ) (o : Option Seen) (rest : RowsOrFault) → o ≡ None → at_row n (or_inexact o) rest ≡ Err (n, Inexact)
err_row n None rest e = refl
err_row n (Some c) rest e = absurd (cc)

err_behind : (n : ℕ) (o : Option Seen) (e : ℕ × CellFault) → (f : ℕ × CellFault) × (at_row n (or_inexact o) (Err e) ≡ Err f)
err_behind n None e = ((n, Inexact), refl)
err_behind n (Some c) e = (e, refl)

fails_at : (s : Scan) (a : Kind) (before : List Seen) (r : ℕ × Seen) (rs : Rows) (o : Option Seen) → fold_of s a (before ++ r.1 ∷ []) ≡ o
    → ((fold_of s a (before ++ r.1 ∷ []) ≡ None → ⊥) → (e : ℕ × CellFault) × (scanned_behind s a (before ++ r.1 ∷ []) rs ≡ Err e)) → (e : ℕ × CellFault) × (scanned_behind s a before (r ∷ rs) ≡ Err e)
fails_at s a before r rs None q go = ((r.0, Inexact), err_row r.0 (fold_of s a (before ++ r.1 ∷ [])) (scanned_behind s a (before ++ r.1 ∷ []) rs) q)
fails_at s a before r rs (Some c) q go =
    let w = go (λ n. absurd (cc)) in
    let x = err_behind r.0 (fold_of s a (before ++ r.1 ∷ [])) w.0 in
    (x.0, ap (at_row r.0 (or_inexact (fold_of s a (before ++ r.1 ∷ [])))) w.1 ∙ x.1)

pub failed_behind : (s : Scan) (a : Kind) (before : List Seen) (rs : Rows) → fold_of s a (before ++ cells rs) ≡ None → (fold_of s a before ≡ None → ⊥) → (e : ℕ × CellFault) × (scanned_behind s a before rs ≡ Err e)
failed_behind s a before [] none there = absurd (there (ap (fold_of s a) (sym (append-nil before)) ∙ none))
failed_behind s a before (r ∷ rs) none there = fails_at s a before r rs (fold_of s a (before ++ r.1 ∷ [])) refl
    (λ t. failed_behind s a (before ++ r.1 ∷ []) rs (ap (fold_of s a) (append_assoc before (r.1 ∷ []) (cells rs)) ∙ none) t)

start_there : (s : Scan) (a : Kind) → fold_of s a [] ≡ None → ⊥
start_there CumSum (Integer k) e = absurd (cc)
start_there CumSum Logical e = absurd (cc)
start_there CumSum Double e = absurd (cc)
start_there CumSum Text e = absurd (cc)
start_there CumMin (Integer k) e = absurd (cc)
start_there CumMin Logical e = absurd (cc)
start_there CumMin Double e = absurd (cc)
start_there CumMin Text e = absurd (cc)
start_there CumMax (Integer k) e = absurd (cc)
start_there CumMax Logical e = absurd (cc)
start_there CumMax Double e = absurd (cc)
start_there CumMax Text e = absurd (cc)

pub fold_failed : (s : Scan) (a : Kind) (rs : Rows) → fold_of s a (cells rs) ≡ None → (e : ℕ × CellFault) × (scanned_behind s a [] rs ≡ Err e)
fold_failed s a rs none = failed_behind s a [] rs none (start_there s a)

-- ---- by blocks

abbrev entry : List (Option Seen) → ℕ → Option Seen
entry os n = get_or os n None

none_there : (os : List (Option Seen)) (n : ℕ) → entry (map (λ o. None) os) n ≡ None
none_there [] zero = refl
none_there [] (suc n) = refl
none_there (o ∷ os) zero = refl
none_there (o ∷ os) (suc n) = none_there os n

none_behind : (os : List (Option Seen)) (n : ℕ) → entry (while_there None os) n ≡ None
none_behind os zero = refl
none_behind os (suc n) = none_there os n

there_next : (s : Scan) (a : Kind) (before b : List Seen) (bs : List (List Seen)) (n : ℕ) (c : Seen) (o : Option Seen) → fold_of s a before ≡ o
    → ((m : ℕ) → entry (carries_behind s a (before ++ b) bs) m ≡ some_cell c → fold_of s a ((before ++ b) ++ flat (take m bs)) ≡ some_cell c)
    → entry (while_there o (carries_behind s a (before ++ b) bs)) n ≡ some_cell c → fold_of s a (before ++ flat (take n (b ∷ bs))) ≡ some_cell c
there_next s a before b bs n c None q go e = absurd (let z = none_behind (carries_behind s a (before ++ b) bs) n in cc)
there_next s a before b bs zero c (Some d) q go e = ap (fold_of s a) (append-nil before) ∙ (q ∙ e)
there_next s a before b bs (suc m) c (Some d) q go e = ap (fold_of s a) (sym (append_assoc before b (flat (take m bs)))) ∙ go m e

there_at : (s : Scan) (a : Kind) (before : List Seen) (bs : List (List Seen)) (n : ℕ) (c : Seen) → entry (carries_behind s a before bs) n ≡ some_cell c → fold_of s a (before ++ flat (take n bs)) ≡ some_cell c
there_at s a before [] zero c e = absurd (cc)
there_at s a before [] (suc n) c e = absurd (cc)
there_at s a before (b ∷ bs) n c e = there_next s a before b bs n c (fold_of s a before) refl (λ m g. there_at s a (before ++ b) bs m c g) e

pub carry_there : (s : Scan) (a : Kind) (blocks : List (List Seen)) (n : ℕ) (c : Seen) → carry_for s a blocks n ≡ Some c → fold_of s a (flat (take n blocks)) ≡ Some c
carry_there s a blocks n c e = there_at s a [] blocks n c e

abbrev Missing : Scan → Kind → List Seen → List (List Seen) → ℕ → Type 0
Missing s a before bs n = (m : ℕ) × (m ≤ n) × (fold_of s a (before ++ flat (take m bs)) ≡ None)

missing_next : (s : Scan) (a : Kind) (before b : List Seen) (bs : List (List Seen)) (n : ℕ) (o : Option Seen) → fold_of s a before ≡ o
    → ((m : ℕ) → m < length bs → entry (carries_behind s a (before ++ b) bs) m ≡ None → Missing s a (before ++ b) bs m)
    → n < length (b ∷ bs) → entry (while_there o (carries_behind s a (before ++ b) bs)) n ≡ None → Missing s a before (b ∷ bs) n
missing_next s a before b bs n None q go l e = (0, omega (arith), ap (fold_of s a) (append-nil before) ∙ q)
missing_next s a before b bs zero (Some d) q go l e = absurd (cc)
missing_next s a before b bs (suc m) (Some d) q go l e =
    let w = go m (omega (arith, l)) e in
    (suc w.0, (let h : w.0 ≤ m = w.1 in omega (arith, h)), ap (fold_of s a) (sym (append_assoc before b (flat (take w.0 bs)))) ∙ w.2)

missing_at : (s : Scan) (a : Kind) (before : List Seen) (bs : List (List Seen)) (n : ℕ) → n < length bs → entry (carries_behind s a before bs) n ≡ None → Missing s a before bs n
missing_at s a before [] n l e = absurd (omega (arith, l))
missing_at s a before (b ∷ bs) n l e = missing_next s a before b bs n (fold_of s a before) refl (λ m k g. missing_at s a (before ++ b) bs m k g) l e

pub carry_missing : (s : Scan) (a : Kind) (blocks : List (List Seen)) (n : ℕ) → n < length blocks → carry_for s a blocks n ≡ None → (m : ℕ) × (m ≤ n) × (fold_of s a (flat (take m blocks)) ≡ None)
carry_missing s a blocks n l e = missing_at s a [] blocks n l e

-- ---- the scan over the blocks before

cells_flat : (blocks : List Rows) (m : ℕ) → cells (flat (take m blocks)) ≡ flat (take m (map cells blocks))
cells_flat blocks zero = refl
cells_flat [] (suc m) = refl
cells_flat (b ∷ blocks) (suc m) = map-append (λ (r : ℕ × Seen). r.1) b (flat (take m blocks)) ∙ ap (λ cs. cells b ++ cs) (cells_flat blocks m)

more_blocks : (blocks : List Rows) (m n : ℕ) → m ≤ n → (rest : Rows) × (flat (take n blocks) ≡ flat (take m blocks) ++ rest)
more_blocks blocks zero n l = (flat (take n blocks), refl)
more_blocks blocks (suc m) zero l = absurd (omega (arith, l))
more_blocks [] (suc m) (suc n) l = ([], refl)
more_blocks (b ∷ blocks) (suc m) (suc n) l = (let w = more_blocks blocks m n (omega (arith, l)) in (w.0, ap (λ rs. b ++ rs) w.1 ∙ sym (append_assoc b (flat (take m blocks)) w.0)))

pub scan_failed : (s : Scan) (a : Kind) (blocks : List Rows) (n : ℕ) → n < length blocks → carry_for s a (map cells blocks) n ≡ None → (e : ℕ × CellFault) × (scanned_behind s a [] (flat (take n blocks)) ≡ Err e)
scan_failed s a blocks n l e =
    let w = carry_missing s a (map cells blocks) n (let k = length-map blocks cells in omega (arith, l, k)) e in
    let f = fold_failed s a (flat (take w.0 blocks)) (ap (fold_of s a) (cells_flat blocks w.0) ∙ w.2) in
    let rest = more_blocks blocks w.0 n w.1 in (
      f.0,
      ap (scanned_behind s a []) rest.1
          ∙ (scan_then s a [] (flat (take w.0 blocks)) rest.0 ∙ ap (λ x. rows_joined x (scanned_behind s a ([] ++ cells (flat (take w.0 blocks))) rest.0)) f.1),
    )
