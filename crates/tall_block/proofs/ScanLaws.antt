-- A scan from a carry, by the loops of tall_fold, is that of the definitions.
use Rattle.std.specs.Prelude.{◌≡◌, refl, ℕ, ℤ, ◌+◌, nat_le, unsigned_abs, ◌^◌, if◌then◌else◌, Bool, true, false, Option, None, Some, option_map, IsOk, Result, Ok, Err, List, [], ◌∷◌, ◌++◌, length, map}
use Rattle.std.specs.List.{All, filter_map, list_any}
use Rattle.std.specs.Int.{int_max, int_min}
use Rattle.std.proofs.Common.{ap, sym, subst, ◌∙◌}
use Rattle.std.proofs.lemmas.List.Elements.{All-cons, All-nil}
use Rattle.tall_int.specs.declared.faults.WholeFault.{WholeFault}
use Rattle.tall_int.specs.declared.faults.WholeFault.TheVariants as whole_fault
use Rattle.tall_value.specs.declared.class.Class.{Class}
use Rattle.tall_value.specs.declared.class.IntKind.{IntKind}
use Rattle.tall_value.specs.declared.class.Kind.{Kind}
use Rattle.tall_value.specs.declared.class.Kind.TheVariants.{Integer, Logical, Double, Text}
use Rattle.tall_value.specs.declared.faults.CellFault.{CellFault}
use Rattle.tall_value.specs.declared.faults.ClassFault.{ClassFault}
use Rattle.tall_value.specs.declared.functions.Scan.{Scan}
use Rattle.tall_value.specs.declared.functions.Scan.TheVariants.{CumSum, CumMin, CumMax}
use Rattle.tall_value.specs.Cells.{Seen, amount, double, logical, text, whole, is_nan, seen_kind}
use Rattle.tall_value.specs.CellOperators.{double_cell, to_double}
use Rattle.tall_value.specs.Classes.{class_of, kind_of, least, greatest}
use Rattle.tall_value.specs.ClassTables.{class_result}
use Rattle.tall_value.specs.Columns.{HasKind, cells, numbered}
use Rattle.tall_value.specs.Elementwise.{at_row}
use Rattle.tall_value.specs.FunctionClasses.{scan_class, scan_kind}
use Rattle.tall_value.specs.Groups.{or_nan}
use Rattle.tall_value.specs.Reductions.{or_fault, present, lesser, greater, folded, total, or_cell}
use Rattle.tall_value.proofs.KindLaws.{kind_again}
use Rattle.tall_dense.specs.Columns.{SeenColumn, class_of_cell}
use Rattle.tall_dense.specs.Rows.{Answers}
use Rattle.tall_dense.specs.declared.faults.OpFault.{OpFault}
use Rattle.tall_clamp.specs.Outcomes.{picked}
use Rattle.tall_fold.specs.Carries.{result_kind, scan_cell, scan_rows}
use Rattle.tall_fold.specs.Summaries.{number_cell}
use Rattle.tall_fold.proofs.FinishLemmas.{doubles_present, folded_is, greater_is, lesser_is}
use Rattle.tall_semantics.specs.Faults.{At}
use Rattle.tall_semantics.specs.Operations.{scan}
use Rattle.tall_semantics.specs.Outcomes.{Outcome, rows, scalar, fault, rows_in, row_by_row}
use Rattle.tall_semantics.specs.ScanCarries.{fold_of}
use Rattle.tall_semantics.specs.Shapes.{Shape, allowed, placed}
use Rattle.tall_semantics.specs.ShapesInOrder.{IsMade, shape_at}
use Rattle.tall_semantics.specs.Deferred.{Vertex}
use Rattle.tall_semantics.proofs.ShapeLaws.{column_is}
use Rattle.tall_blocks.specs.Carries.{Rows, RowsOrFault, AllCells, IsInClass, or_inexact, scanned_behind}
use Rattle.tall_blocks.proofs.CarryLaws.{all_both}
use Rattle.tall_blocks.proofs.RowPlaceLaws.{scan_counted}
use Rattle.tall_block.specs.OfBlocks.{IsOperation}
use Rattle.tall_block.specs.ScanCells.{IsScanned}
use Rattle.tall_block.specs.Shown.{Shows, Tells}
use Rattle.tall_block.proofs.Operators.{IsLong, cells_long, from_none, scan_long, told}
use Rattle.tall_block.proofs.OperandLaws.{accepted_place, class_ok, class_taken}

-- ---- cells of a class

pub all_more : (P : Seen → Type 0) (cs : List Seen) (c : Seen) → AllCells P cs → P c → AllCells P (cs ++ c ∷ [])
all_more P cs c h p = all_both P cs (c ∷ []) h (p, tt)

pub all_in : (P : Seen → Type 0) {V : Type 0} (f : V → Seen) → ((x : V) → P (f x)) → (vs : List V) → AllCells P (map f vs)
all_in P f h [] = tt
all_in P f h (v ∷ vs) = (h v, all_in P f h vs)

all_weaker : (P Q : Seen → Type 0) → ((c : Seen) → P c → Q c) → (cs : List Seen) → AllCells P cs → AllCells Q cs
all_weaker P Q w [] h = tt
all_weaker P Q w (c ∷ cs) h = (w c h.0, all_weaker P Q w cs h.1)

in_class : (a : Kind) (c : Seen) → IsScanned a c → IsInClass a c
in_class (Integer k) c h = h
in_class Logical c h = tt
in_class Double c h = tt
in_class Text c h = tt

pub within_class : (a : Kind) (cs : List Seen) → AllCells (IsScanned a) cs → AllCells (IsInClass a) cs
within_class a cs h = all_weaker (IsScanned a) (IsInClass a) (in_class a) cs h

-- ---- the fold of cells, by both definitions

abbrev integer_cell : IntKind → ℤ → Seen
integer_cell k n = number_cell (Integer k) n

-- a cell of an integer class
abbrev IsWhole : IntKind → Seen → Type 0
IsWhole k c = seen_kind c ≡ Integer k

integers_are : (k : IntKind) (cs : List Seen) → AllCells (IsWhole k) cs → cs ≡ map (integer_cell k) (filter_map amount cs)
integers_are k [] h = refl
integers_are k (whole j n ∷ cs) h = (let e : Integer j ≡ Integer k = h.0 in ap (λ (i : Kind). number_cell i n ∷ cs) e ∙ ap (λ xs. whole k n ∷ xs) (integers_are k cs h.1))
integers_are k (logical b ∷ cs) h = absurd (let e : Logical ≡ Integer k = h.0 in cc)
integers_are k (double d ∷ cs) h = absurd (let e : Double ≡ Integer k = h.0 in cc)
integers_are k (text t ∷ cs) h = absurd (let e : Text ≡ Integer k = h.0 in cc)

doubles_are : (cs : List Seen) → AllCells (λ c. seen_kind c ≡ Double) cs → All (HasKind Double) cs
doubles_are [] h = All-nil (HasKind Double)
doubles_are (c ∷ cs) h = All-cons (HasKind Double) c cs h.0 (doubles_are cs h.1)

-- a sum that is refused is out of range
abbrev tested : Bool → ℤ → Result (Option ℤ) WholeFault
tested t n = if t then Ok (Some n) else Err whole_fault.Inexact

sum_tested : (t : Bool) (n : ℤ) → double_cell (tested t n) ≡ or_inexact (elim (or_fault (double_cell (tested t n))) [ Ok c ↦ Some c | Err e ↦ None ])
sum_tested true n = refl
sum_tested false n = refl

sum_is : (x : Option ℤ) → to_double x ≡ or_inexact (elim (or_fault (to_double x)) [ Ok c ↦ Some c | Err e ↦ None ])
sum_is None = refl
sum_is (Some n) = sum_tested (nat_le (unsigned_abs n) (2 ^ 53)) n

abbrev total_of : List Seen → Option ℤ
total_of cs = if list_any is_nan cs then None else Some (total (filter_map amount cs))

double_best : (o : Option ℤ) → or_cell (double None) (option_map (number_cell Double) o) ≡ or_nan (option_map (number_cell Double) o)
double_best None = refl
double_best (Some n) = refl

abbrev seen_ok : Seen → Result Seen CellFault
seen_ok c = Ok c

-- the cells as the numbers that they are
abbrev AreOf : Kind → List Seen → Type 0
AreOf a cs = AllCells (λ c. seen_kind c ≡ a) cs

integer_fold : (k : IntKind) (choose : Seen → Seen → Seen) (pick : ℤ → ℤ → ℤ) → ((x y : ℤ) → choose (integer_cell k x) (integer_cell k y) ≡ integer_cell k (pick x y)) → (start : Seen) (cs : List Seen) → AreOf (Integer k) cs
    → seen_ok (or_cell start (option_map (integer_cell k) (picked pick (filter_map amount cs)))) ≡ seen_ok (or_cell start (folded choose cs))
integer_fold k choose pick is start cs h =
    ap (λ (o : Option Seen). seen_ok (or_cell start o)) (sym (folded_is (Integer k) choose pick is (filter_map amount cs)) ∙ ap (folded choose) (sym (integers_are k cs h)))

double_fold : (choose : Seen → Seen → Seen) (pick : ℤ → ℤ → ℤ) → ((x y : ℤ) → choose (number_cell Double x) (number_cell Double y) ≡ number_cell Double (pick x y)) → (cs : List Seen) → AreOf Double cs
    → seen_ok (or_cell (double None) (option_map (number_cell Double) (picked pick (filter_map amount cs)))) ≡ seen_ok (or_nan (folded choose (present cs)))
double_fold choose pick is cs h =
    ap seen_ok (double_best (picked pick (filter_map amount cs))
    ∙ ap or_nan (sym (folded_is Double choose pick is (filter_map amount cs)) ∙ ap (folded choose) (sym (doubles_present cs (doubles_are cs h)))))

-- a kind whose cells are compared is known of each
abbrev KindsKnown : Scan → Kind → List Seen → Type 0
KindsKnown CumSum a cs = Unit {0}
KindsKnown CumMin a cs = AreOf a cs
KindsKnown CumMax a cs = AreOf a cs

no_ok : false ≡ true → ⊥
no_ok h = absurd (cc)

cell_is : (s : Scan) (a : Kind) (cs : List Seen) → IsOk (scan_kind s a) → KindsKnown s a cs → scan_cell s (result_kind a) cs ≡ or_inexact (fold_of s a cs)
cell_is CumSum (Integer k) cs takes h = refl
cell_is CumSum Logical cs takes h = sum_is (total_of cs)
cell_is CumSum Double cs takes h = sum_is (total_of cs)
cell_is CumSum Text cs takes h = absurd (no_ok takes)
cell_is CumMin (Integer k) cs takes h = integer_fold k lesser int_min (lesser_is (Integer k)) (whole k (greatest k)) cs h
cell_is CumMin Logical cs takes h = absurd (no_ok takes)
cell_is CumMin Double cs takes h = double_fold lesser int_min (lesser_is Double) cs h
cell_is CumMin Text cs takes h = absurd (no_ok takes)
cell_is CumMax (Integer k) cs takes h = integer_fold k greater int_max (greater_is (Integer k)) (whole k (least k)) cs h
cell_is CumMax Logical cs takes h = absurd (no_ok takes)
cell_is CumMax Double cs takes h = double_fold greater int_max (greater_is Double) cs h
cell_is CumMax Text cs takes h = absurd (no_ok takes)

known_more : (s : Scan) (a : Kind) (before : List Seen) (c : Seen) (rs : Rows) → KindsKnown s a before → KindsKnown s a (c ∷ cells rs) → KindsKnown s a (before ++ c ∷ []) × KindsKnown s a (cells rs)
known_more CumSum a before c rs h g = (tt, tt)
known_more CumMin a before c rs h g = (all_more (λ d. seen_kind d ≡ a) before c h g.0, g.1)
known_more CumMax a before c rs h g = (all_more (λ d. seen_kind d ≡ a) before c h g.0, g.1)

scan_is : (s : Scan) (a : Kind) → IsOk (scan_kind s a) → (before : List Seen) (rs : Rows) → KindsKnown s a before → KindsKnown s a (cells rs) → scan_rows s (result_kind a) before rs ≡ scanned_behind s a before rs
scan_is s a takes before [] h g = refl
scan_is s a takes before (r ∷ rs) h g =
    let next : List Seen = before ++ r.1 ∷ [] in
    let k = known_more s a before r.1 rs h g in
    ap (λ (x : Result Seen CellFault). at_row r.0 x (scan_rows s (result_kind a) next rs)) (cell_is s a next takes k.0)
    ∙ ap (at_row r.0 (or_inexact (fold_of s a next))) (scan_is s a takes next rs k.0 k.1)

-- ---- classes

abbrev kind_ok : Kind → Result Kind ClassFault
kind_ok k = Ok k

taken_kind : (r : Result Kind ClassFault) (k : Class) → class_result r ≡ class_ok k → (j : Kind) × (r ≡ kind_ok j) × (class_of j ≡ k)
taken_kind (Ok j) k h = (j, refl, ap (λ (r : Result Class ClassFault). elim r [ Ok z ↦ z | Err e ↦ class_of j ]) h)
taken_kind (Err e) k h = absurd (cc)

inside_kind : (j k : Kind) → kind_ok j ≡ kind_ok k → j ≡ k
inside_kind j k h = ap (λ (r : Result Kind ClassFault). elim r [ Ok z ↦ z | Err e ↦ j ]) h

-- the kind of the result is one that the scan takes, with itself as the result
kind_once : (s : Scan) (a j : Kind) → scan_kind s a ≡ kind_ok j → (scan_kind s j ≡ kind_ok j) × (j ≡ result_kind a)
kind_once CumSum (Integer k) j h = (let e = inside_kind (Integer k) j h in (subst (λ i. scan_kind CumSum i ≡ kind_ok i) e refl, sym e))
kind_once CumSum Logical j h = (let e = inside_kind Double j h in (subst (λ i. scan_kind CumSum i ≡ kind_ok i) e refl, sym e))
kind_once CumSum Double j h = (let e = inside_kind Double j h in (subst (λ i. scan_kind CumSum i ≡ kind_ok i) e refl, sym e))
kind_once CumSum Text j h = absurd (cc)
kind_once CumMin (Integer k) j h = (let e = inside_kind (Integer k) j h in (subst (λ i. scan_kind CumMin i ≡ kind_ok i) e refl, sym e))
kind_once CumMin Logical j h = absurd (cc)
kind_once CumMin Double j h = (let e = inside_kind Double j h in (subst (λ i. scan_kind CumMin i ≡ kind_ok i) e refl, sym e))
kind_once CumMin Text j h = absurd (cc)
kind_once CumMax (Integer k) j h = (let e = inside_kind (Integer k) j h in (subst (λ i. scan_kind CumMax i ≡ kind_ok i) e refl, sym e))
kind_once CumMax Logical j h = absurd (cc)
kind_once CumMax Double j h = (let e = inside_kind Double j h in (subst (λ i. scan_kind CumMax i ≡ kind_ok i) e refl, sym e))
kind_once CumMax Text j h = absurd (cc)

kind_takes : (s : Scan) (a j : Kind) → scan_kind s a ≡ kind_ok j → IsOk (scan_kind s a)
kind_takes s a j h = subst (λ (r : Result Kind ClassFault). IsOk r) (sym h) refl

pub class_again : (s : Scan) (a k : Class) → scan_class s a ≡ class_ok k → (scan_class s k ≡ class_ok k) × (kind_of k ≡ result_kind (kind_of a))
class_again s a k h =
    let w = taken_kind (scan_kind s (kind_of a)) k h in
    let t = kind_once s (kind_of a) w.0 w.1 in
    let e : kind_of k ≡ w.0 = ap kind_of (sym w.2) ∙ kind_again w.0 in
    (ap class_result (ap (scan_kind s) e ∙ t.0) ∙ ap class_ok w.2, e ∙ t.1)

pub class_takes : (s : Scan) (a k : Class) → scan_class s a ≡ class_ok k → IsOk (scan_class s a)
class_takes s a k h = subst (λ (r : Result Class ClassFault). IsOk r) (sym h) refl

pub same_class : (r : Result Class ClassFault) (k l : Class) → r ≡ class_ok k → r ≡ class_ok l → k ≡ l
same_class r k l h g = ap (λ (x : Result Class ClassFault). elim x [ Ok z ↦ z | Err e ↦ k ]) (sym h ∙ g)

pub scan_taken : (vs : List Vertex) → IsMade vs → (i a : ℕ) (s : Scan) → IsOperation vs i (scan s) (a ∷ []) → scan_class s (shape_at vs a).class ≡ class_ok (shape_at vs i).class
scan_taken vs made i a s e =
    let w = accepted_place vs made i (scan s) (a ∷ []) e in
    let x : Shape = shape_at vs a in
    class_taken (scan_class s x.class) (Ok x.space) w.0 (column_is x (placed (allowed (scan_class s x.class)) (Ok x.space)) w.0 w.1) ∙ ap class_ok w.2

-- ---- the scan of a block's column

whole_kind : (k : IntKind) (c : Seen) → IsInClass (Integer k) c → seen_kind c ≡ Integer k
whole_kind k (whole j n) h = ap Integer h.0
whole_kind k (logical b) h = absurd h
whole_kind k (double d) h = absurd h
whole_kind k (text t) h = absurd h

known_cells : (s : Scan) (a : Kind) (cs : List Seen) → IsOk (scan_kind s a) → AllCells (IsScanned a) cs → KindsKnown s a cs
known_cells CumSum a cs takes h = tt
known_cells CumMin (Integer k) cs takes h = all_weaker (IsScanned (Integer k)) (λ c. seen_kind c ≡ Integer k) (whole_kind k) cs h
known_cells CumMin Logical cs takes h = absurd (no_ok takes)
known_cells CumMin Double cs takes h = h
known_cells CumMin Text cs takes h = absurd (no_ok takes)
known_cells CumMax (Integer k) cs takes h = all_weaker (IsScanned (Integer k)) (λ c. seen_kind c ≡ Integer k) (whole_kind k) cs h
known_cells CumMax Logical cs takes h = absurd (no_ok takes)
known_cells CumMax Double cs takes h = h
known_cells CumMax Text cs takes h = absurd (no_ok takes)

-- a carry has the kind of the result, which for what is compared is that of the column
known_carry : (s : Scan) (a : Kind) (c : Seen) → IsOk (scan_kind s a) → seen_kind c ≡ result_kind a → KindsKnown s a (c ∷ [])
known_carry CumSum a c takes h = tt
known_carry CumMin (Integer k) c takes h = (h, tt)
known_carry CumMin Logical c takes h = absurd (no_ok takes)
known_carry CumMin Double c takes h = (h, tt)
known_carry CumMin Text c takes h = absurd (no_ok takes)
known_carry CumMax (Integer k) c takes h = (h, tt)
known_carry CumMax Logical c takes h = absurd (no_ok takes)
known_carry CumMax Double c takes h = (h, tt)
known_carry CumMax Text c takes h = absurd (no_ok takes)

counted_cells : (n : ℕ) (cs : List Seen) → cells (numbered n cs) ≡ cs
counted_cells n [] = refl
counted_cells n (c ∷ cs) = ap (λ ds. c ∷ ds) (counted_cells (n + 1) cs)

kind_of_cell : (c : Seen) → kind_of (class_of_cell c) ≡ seen_kind c
kind_of_cell c = kind_again (seen_kind c)

pub scan_told : (s : Scan) (x : SeenColumn) (c : Seen) (result : Result SeenColumn OpFault) → scan_class s x.class ≡ class_ok (class_of_cell c) → AllCells (IsScanned (kind_of x.class)) x.cells
    → Answers (scan_rows s (kind_of (class_of_cell c)) (c ∷ []) (numbered 0 x.cells)) (λ (d : SeenColumn). d.cells) result
    → (at : At) (y : Outcome) → Shows y x.cells → Tells at (rows_in y) (row_by_row at (scanned_behind s (kind_of x.class) (c ∷ []) (rows_in y))) result
scan_told s x c result taken are answers at (scalar d) shows = absurd shows
scan_told s x c result taken are answers at (fault f) shows = absurd shows
scan_told s x c result taken are answers at (rows rs) shows =
    let a : Kind = kind_of x.class in
    let w = taken_kind (scan_kind s a) (class_of_cell c) taken in
    let takes : IsOk (scan_kind s a) = kind_takes s a w.0 w.1 in
    let result_is : kind_of (class_of_cell c) ≡ result_kind a = (class_again s x.class (class_of_cell c) taken).1 in
    let z : RowsOrFault = scanned_behind s a (c ∷ []) (numbered 0 (cells rs)) in
    let cells_known = subst (KindsKnown s a) (sym (counted_cells 0 x.cells)) (known_cells s a x.cells takes are) in
    let is : scan_rows s (kind_of (class_of_cell c)) (c ∷ []) (numbered 0 x.cells) ≡ z =
    ap (λ (k : Kind). scan_rows s k (c ∷ []) (numbered 0 x.cells)) result_is
    ∙ (scan_is s a takes (c ∷ []) (numbered 0 x.cells) (known_carry s a c takes (sym (kind_of_cell c) ∙ result_is)) cells_known ∙ ap (λ cs. scanned_behind s a (c ∷ []) (numbered 0 cs)) (sym shows)) in
    told at rs (scanned_behind s a (c ∷ []) rs) z (scan_counted s a (c ∷ []) rs) (subst (λ n. IsLong n n z) (cells_long rs) (scan_long s a (c ∷ []) 0 (length (cells rs)) (cells rs) (from_none (length (cells rs))))) result
    (subst (λ (r : RowsOrFault). Answers r (λ (d : SeenColumn). d.cells) result) is answers)
