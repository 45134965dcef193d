-- Each cell of a value has the class of its shape.
use Rattle.std.specs.Prelude.{◌≡◌, refl, ℕ, zero, suc, ◌<◌, ◌+◌, ◌-◌, Bool, true, false, if◌then◌else◌, None, Some, Result, Ok, Err, List, [], ◌∷◌, length, map, take, drop, get_or, slice_get}
use Rattle.std.proofs.Common.{ap, sym, subst, ◌∙◌, arith, inl, inr}
use Rattle.std.specs.List.{All}
use Rattle.std.proofs.lemmas.List.{take-map, drop-map, length-map}
use Rattle.std.proofs.lemmas.List.Elements.{All-nil, All-head, All-tail, All-cons, All-take, All-drop}
use Rattle.tall_value.specs.declared.class.Class.{Class}
use Rattle.tall_value.specs.declared.class.Class.TheVariants as class
use Rattle.tall_value.specs.declared.class.Kind.{Kind}
use Rattle.tall_value.specs.declared.class.Kind.TheVariants.{Double}
use Rattle.tall_value.specs.declared.faults.CellFault.{CellFault}
use Rattle.tall_value.specs.declared.faults.ClassFault.{ClassFault}
use Rattle.tall_value.specs.declared.faults.ClassFault.TheVariants.{MixedClass, BadClass}
use Rattle.tall_value.specs.declared.faults.FaultKind.{FaultKind}
use Rattle.tall_value.specs.declared.functions.Method.{Method}
use Rattle.tall_value.specs.declared.functions.Method.TheVariants.{Count, Sum, SumNative, Min, Max, Nnz, Nummissing}
use Rattle.tall_value.specs.declared.operators.Binary.{Binary}
use Rattle.tall_value.specs.declared.operators.Unary.{Unary}
use Rattle.tall_value.specs.Cells.{Seen, seen_kind}
use Rattle.tall_value.specs.CellOperators.{unary_cell, binary_cell}
use Rattle.tall_value.specs.Classes.{class_of, kind_of}
use Rattle.tall_value.specs.ClassTables.{unary_kind, binary_kind, class_result}
use Rattle.tall_value.specs.Columns.{HasKind, RowHasKind, cells, numbered}
use Rattle.tall_value.specs.Distinct.{distinct}
use Rattle.tall_value.specs.Elementwise.{unary_rows, binary_rows, scalar_rows}
use Rattle.tall_value.specs.Filters.{is_true, kept}
use Rattle.tall_value.specs.FunctionClasses.{logical_kind, reduction_kind, scan_kind, class_results, summary_kinds}
use Rattle.tall_value.specs.GroupKinds.{HaveKinds}
use Rattle.tall_value.specs.GroupSummary.{of_groups, summary_columns}
use Rattle.tall_value.specs.Reductions.{or_fault, reduced}
use Rattle.tall_value.specs.Scans.{scanned}
use Rattle.tall_value.proofs.KindLaws.{kind_again, unary_law, binary_law}
use Rattle.tall_value.proofs.FunctionLaws.{exact_of, reduced_kind, scanned_kind, unary_rows_kind, binary_rows_kind, scalar_left_kind, scalar_right_kind, distinct_kind}
use Rattle.tall_value.proofs.GroupLaws.{summary_kind}
use Rattle.tall_semantics.specs.Operations.{Op, constant, unary, binary, filter, reduce, scan, head, tail, group, Part, keys, counts, Made, stored, operation}
use Rattle.tall_semantics.specs.Operations as operations
use Rattle.tall_semantics.specs.Spaces.{Space, single, is_single}
use Rattle.tall_semantics.specs.Spaces as spaces
use Rattle.tall_semantics.specs.Equality.{part_place}
use Rattle.tall_semantics.specs.Faults.{At}
use Rattle.tall_semantics.specs.Outcomes.{Outcome, rows, scalar, fault, fault_of, rows_in, cells_in, row_by_row, alone, elementwise_one, elementwise_two, part_of_group}
use Rattle.tall_semantics.specs.Shapes.{Shape, ShapeRefusal, allowed, placed, common, masked_class, masked, on_column, part_class, group_class, counted, summarised, summary, place_of}
use Rattle.tall_semantics.specs.Talls.{Tall, Columns, shapes, own_outcome}
use Rattle.tall_semantics.specs.Deferred.{Vertex, IsMeaning, IsOrdered, IsAmong, fault_in}
use Rattle.tall_semantics.specs.RowsOfSpaces.{AreColumns, row_numbers}
use Rattle.tall_semantics.specs.ClassesOfCells.{HasClass, HaveClass}
use Rattle.tall_semantics.proofs.OriginLaws.{get_before, below_among}
use Rattle.tall_semantics.proofs.MeaningLaws.{stored_value, made_value, tall_shape, none_at, own_value}
use Rattle.tall_semantics.proofs.ShapeLaws.{place_ok, refused, shaped_is, column_is, group_spaces}
use Rattle.tall_semantics.proofs.FitLaws.{FitsTo, AllFit, from_space}
use Rattle.tall_semantics.proofs.SpaceLaws.{value_fits, value_numbers}

-- ---- what a class says

class_again : (k : Class) → class_of (kind_of k) ≡ k
class_again class.Int8 = refl
class_again class.Int16 = refl
class_again class.Int32 = refl
class_again class.Int64 = refl
class_again class.Uint8 = refl
class_again class.Uint16 = refl
class_again class.Uint32 = refl
class_again class.Uint64 = refl
class_again class.Logical = refl
class_again class.Double = refl
class_again class.Text = refl

abbrev pub class_ok : Class → Result Class ShapeRefusal
class_ok k = Ok k

abbrev pub kind_ok : Kind → Result Kind ClassFault
kind_ok k = Ok k

pub placed_class : (c : Result Class ShapeRefusal) (s : Result Space ShapeRefusal) (p : Class × Space) → placed c s ≡ place_ok p → c ≡ class_ok p.0
placed_class (Ok c) (Ok s) p h = ap (λ r. elim r [ Ok q ↦ class_ok q.0 | Err e ↦ class_ok c ]) h
placed_class (Ok c) (Err e) p h = absurd (cc)
placed_class (Err e) s p h = absurd (cc)

class_inside : (c k : Class) → class_ok c ≡ class_ok k → c ≡ k
class_inside c k h = ap (λ r. elim r [ Ok d ↦ d | Err e ↦ c ]) h

-- the kind that a table of classes gave
pub allowed_kind : (r : Result Kind ClassFault) (k : Class) → allowed (class_result r) ≡ class_ok k → r ≡ kind_ok (kind_of k)
allowed_kind (Ok j) k h = ap kind_ok (sym (kind_again j) ∙ ap kind_of (class_inside (class_of j) k h))
allowed_kind (Err MixedClass) k h = absurd (cc)
allowed_kind (Err BadClass) k h = absurd (cc)

pub masked_kind : (c k : Class) (r : Result Kind ClassFault) → allowed (masked_class c r) ≡ class_ok k → c ≡ k
masked_kind c k (Ok j) h = class_inside c k h
masked_kind c k (Err MixedClass) h = absurd (cc)
masked_kind c k (Err BadClass) h = absurd (cc)

-- ---- outcomes whose cells have a kind

abbrev pub AreOf : Kind → Outcome → Type 0
AreOf k x = All (HasKind k) (cells_in x)

cells_of : (k : Kind) (rs : List (ℕ × Seen)) → All (RowHasKind k) rs → All (HasKind k) (cells rs)
cells_of k [] all = All-nil (HasKind k)
cells_of k (r ∷ rs) all = All-cons (HasKind k) r.1 (cells rs) (All-head (RowHasKind k) r rs all) (cells_of k rs (All-tail (RowHasKind k) r rs all))

rows_of : (k : Kind) (rs : List (ℕ × Seen)) → All (HasKind k) (cells rs) → All (RowHasKind k) rs
rows_of k [] all = All-nil (RowHasKind k)
rows_of k (r ∷ rs) all = All-cons (RowHasKind k) r rs (All-head (HasKind k) r.1 (cells rs) all) (rows_of k rs (All-tail (HasKind k) r.1 (cells rs) all))

abbrev rows_ok : List (ℕ × Seen) → Result (List (ℕ × Seen)) (ℕ × CellFault)
rows_ok rs = Ok rs

abbrev cell_ok : Seen → Result Seen FaultKind
cell_ok c = Ok c

of_rows : (at : At) (j : Kind) (r : Result (List (ℕ × Seen)) (ℕ × CellFault)) → ((outs : List (ℕ × Seen)) → r ≡ rows_ok outs → All (RowHasKind j) outs) → AreOf j (row_by_row at r)
of_rows at j (Ok outs) h = cells_of j outs (h outs refl)
of_rows at j (Err e) h = All-nil (HasKind j)

of_alone : (at : At) (j : Kind) (r : Result Seen FaultKind) → ((c : Seen) → r ≡ cell_ok c → HasKind j c) → AreOf j (alone at r)
of_alone at j (Ok c) h = All-cons (HasKind j) c [] (h c refl) (All-nil (HasKind j))
of_alone at j (Err e) h = All-nil (HasKind j)

of_scalar : (k : Kind) (c : Seen) → AreOf k (scalar c) → HasKind k c
of_scalar k c all = All-head (HasKind k) c [] all

-- ---- operators

pub of_one : (at : At) (op : Unary) (k j : Kind) (x : Outcome) → AreOf k x → unary_kind op k ≡ kind_ok j → AreOf j (elementwise_one at op x)
of_one at op k j (rows rs) all h = of_rows at j (unary_rows op rs) (λ outs e. unary_rows_kind op k j rs outs (rows_of k rs all) h e)
of_one at op k j (scalar c) all h =
    of_alone at j (or_fault (unary_cell op c)) (λ d e. unary_law op c d j (ap (unary_kind op) (of_scalar k c all) ∙ h) (exact_of (unary_cell op c) d e))
of_one at op k j (fault f) all h = All-nil (HasKind j)

flagged : (op : Binary) (k l j : Kind) (s t u w : Bool) → s ≡ u → t ≡ w → binary_kind op k s l t ≡ kind_ok j → binary_kind op k u l w ≡ kind_ok j
flagged op k l j s t u w e g h = ap (λ b. binary_kind op k b l w) (sym e) ∙ (ap (λ b. binary_kind op k s l b) (sym g) ∙ h)

pub of_two : (at : At) (op : Binary) (s t : Bool) (k l j : Kind) (x y : Outcome) → FitsTo s x → FitsTo t y → AreOf k x → AreOf l y → binary_kind op k s l t ≡ kind_ok j → AreOf j (elementwise_two at op x y)
of_two at op s t k l j (rows rs) (rows ss) e g p q h =
    of_rows at j (binary_rows op rs ss) (λ outs z. binary_rows_kind op k l j rs ss outs (rows_of k rs p) (rows_of l ss q) (flagged op k l j s t false false e g h) z)
of_two at op s t k l j (rows rs) (scalar d) e g p q h =
    let n : binary_kind op k false (seen_kind d) true ≡ kind_ok j = ap (λ i. binary_kind op k false i true) (of_scalar l d q) ∙ flagged op k l j s t false true e g h in
    of_rows at j (scalar_rows op false d rs) (λ outs z. scalar_right_kind op d k j rs outs (rows_of k rs p) n z)
of_two at op s t k l j (scalar c) (rows ss) e g p q h =
    let n : binary_kind op (seen_kind c) true l false ≡ kind_ok j = ap (λ i. binary_kind op i true l false) (of_scalar k c p) ∙ flagged op k l j s t true false e g h in
    of_rows at j (scalar_rows op true c ss) (λ outs z. scalar_left_kind op c l j ss outs (rows_of l ss q) n z)
of_two at op s t k l j (scalar c) (scalar d) e g p q h =
    let n : binary_kind op (seen_kind c) s (seen_kind d) t ≡ kind_ok j = ap (λ i. binary_kind op i s (seen_kind d) t) (of_scalar k c p) ∙ (ap (λ i. binary_kind op k s i t) (of_scalar l d q) ∙ h) in
    of_alone at j (or_fault (binary_cell op c d)) (λ z w. binary_law op c d z s t j n (exact_of (binary_cell op c d) z w))
of_two at op s t k l j (fault f) y e g p q h = All-nil (HasKind j)
of_two at op s t k l j (rows rs) (fault f) e g p q h = All-nil (HasKind j)
of_two at op s t k l j (scalar c) (fault f) e g p q h = All-nil (HasKind j)

-- ---- rows that are kept

of_kept : (k : Kind) (rs : List (ℕ × Seen)) (mask : List Seen) → All (HasKind k) (cells rs) → All (HasKind k) (cells (kept rs mask))
of_kept k [] mask all = All-nil (HasKind k)
of_kept k (r ∷ rs) [] all = All-nil (HasKind k)
of_kept k (r ∷ rs) (m ∷ mask) all = by_test (is_true m) (of_kept k rs mask (All-tail (HasKind k) r.1 (cells rs) all))
  where
    by_test : (b : Bool) → All (HasKind k) (cells (kept rs mask)) → All (HasKind k) (cells (if b then r ∷ kept rs mask else kept rs mask))
    by_test true rest = All-cons (HasKind k) r.1 (cells (kept rs mask)) (All-head (HasKind k) r.1 (cells rs) all) rest
    by_test false rest = rest

cells_numbered : (n : ℕ) (cs : List Seen) → cells (numbered n cs) ≡ cs
cells_numbered n [] = refl
cells_numbered n (c ∷ cs) = ap (λ ds. c ∷ ds) (cells_numbered (n + 1) cs)

-- ---- groups

column_at : (kinds : List Kind) (columns : List (List Seen)) (n : ℕ) → HaveKinds kinds columns → All (HasKind (get_or kinds n Double)) (cells (get_or (map (numbered 1) columns) n []))
column_at [] [] n h = All-nil (HasKind Double)
column_at [] (c ∷ columns) n h = absurd h
column_at (k ∷ kinds) [] n h = absurd h
column_at (k ∷ kinds) (c ∷ columns) zero h = subst (All (HasKind k)) (sym (cells_numbered 1 c)) h.0
column_at (k ∷ kinds) (c ∷ columns) (suc n) h = column_at kinds columns n h.1

kind_at : (kinds : List Kind) (n : ℕ) → kind_of (get_or (map class_of kinds) n class.Double) ≡ get_or kinds n Double
kind_at [] n = refl
kind_at (k ∷ kinds) zero = kind_again k
kind_at (k ∷ kinds) (suc n) = kind_at kinds n

abbrev kinds_ok : List Kind → Result (List Kind) ClassFault
kinds_ok ks = Ok ks

part_kind : (part : Part) (r : Result (List Kind) ClassFault) (k : Class) → allowed (part_class part (class_results r)) ≡ class_ok k → (kinds : List Kind) × (r ≡ kinds_ok kinds) × (get_or kinds (part_place part) Double ≡ kind_of k)
part_kind part (Ok kinds) k h = (kinds, refl, sym (kind_at kinds (part_place part)) ∙ ap kind_of (class_inside (get_or (map class_of kinds) (part_place part) class.Double) k h))
part_kind part (Err MixedClass) k h = absurd (cc)
part_kind part (Err BadClass) k h = absurd (cc)

abbrev columns_ok : List (List Seen) → Result (List (List Seen)) FaultKind
columns_ok cs = Ok cs

of_part : (at : At) (part : Part) (j : Kind) (kinds : List Kind) (r : Result (List (List Seen)) FaultKind) → ((columns : List (List Seen)) → r ≡ columns_ok columns → HaveKinds kinds columns) → get_or kinds (part_place part) Double ≡ j → AreOf j (part_of_group at part (of_groups r))
of_part at part j kinds (Ok columns) h e = subst (λ k. All (HasKind k) (cells (get_or (map (numbered 1) columns) (part_place part) []))) e (column_at kinds columns (part_place part) (h columns refl))
of_part at part j kinds (Err f) h e = All-nil (HasKind j)

of_group : (at : At) (m : Method) (part : Part) (key data' k : Class) (ks ds : List (ℕ × Seen)) → length (cells ks) ≡ length (cells ds) → All (HasKind (kind_of key)) (cells ks) → All (HasKind (kind_of data')) (cells ds)
    → group_class m part key data' ≡ class_ok k → AreOf (kind_of k) (part_of_group at part (of_groups (summary_columns m (kind_of data') (cells ks) (cells ds))))
of_group at m part key data' k ks ds e p q h =
    let w = part_kind part (summary_kinds m (kind_of key) (kind_of data')) k h in
    of_part at part (kind_of k) w.0 (summary_columns m (kind_of data') (cells ks) (cells ds)) (λ columns z. summary_kind m (kind_of key) (kind_of data') w.0 (cells ks) (cells ds) columns e p q w.1 z) w.2

counted_class : (m : Method) (part : Part) (g : Shape) (p : Class × Space) → counted m part g ≡ place_ok p → group_class m part g.class g.class ≡ class_ok p.0
counted_class Count keys g p h = placed_class (group_class Count keys g.class g.class) (Ok (spaces.groups Count g.tree None)) p h
counted_class Count counts g p h = placed_class (group_class Count counts g.class g.class) (Ok (spaces.groups Count g.tree None)) p h
counted_class m part g p h = absurd (refused p h)

summary_class : (m : Method) (part : Part) (g v : Shape) (p : Class × Space) → summary m part g v ≡ place_ok p → group_class m part g.class v.class ≡ class_ok p.0
summary_class Count part g v p h = absurd (refused p h)
summary_class Sum part g v p h = placed_class (group_class Sum part g.class v.class) (summarised Sum g v) p h
summary_class SumNative part g v p h = placed_class (group_class SumNative part g.class v.class) (summarised SumNative g v) p h
summary_class Min part g v p h = placed_class (group_class Min part g.class v.class) (summarised Min g v) p h
summary_class Max part g v p h = placed_class (group_class Max part g.class v.class) (summarised Max g v) p h
summary_class Nnz part g v p h = placed_class (group_class Nnz part g.class v.class) (summarised Nnz g v) p h
summary_class Nummissing part g v p h = placed_class (group_class Nummissing part g.class v.class) (summarised Nummissing g v) p h

-- ---- operation by operation

abbrev Classed : Tall → Type 0
Classed x = AreOf (kind_of x.shape.class) x.outcome

abbrev AllClassed : List Tall → Type 0
AllClassed [] = Unit {0}
AllClassed (x ∷ xs) = Classed x × AllClassed xs

-- two operands of one space have equally many rows
abbrev AreEven : List Tall → Type 0
AreEven [] = Unit {0}
AreEven (x ∷ []) = Unit {0}
AreEven (x ∷ y ∷ xs) = x.shape.space ≡ y.shape.space → length (rows_in x.outcome) ≡ length (rows_in y.outcome)

pub as_class : (k j : Class) (x : Outcome) → k ≡ j → AreOf (kind_of k) x → AreOf (kind_of j) x
as_class k j x e h = subst (λ (c : Class). AreOf (kind_of c) x) e h

class_at : (c : Class) (s : Space) (p : Class × Space) → place_ok (c, s) ≡ place_ok p → c ≡ p.0
class_at c s p h = ap (λ r. elim r [ Ok q ↦ q.0 | Err e ↦ c ]) h

own_class : (at : At) (op : Op) (xs : List Tall) (p : Class × Space) → place_of op (shapes xs) ≡ place_ok p → AllFit xs → AllClassed xs → AreEven xs → AreOf (kind_of p.0) (own_outcome at op xs)
own_class at (constant c) [] p h f a e = as_class (class_of (seen_kind c)) p.0 (scalar c) (class_at _ single p h) (All-cons (HasKind (kind_of (class_of (seen_kind c)))) c [] (sym (kind_again (seen_kind c))) (All-nil (HasKind (kind_of (class_of (seen_kind c))))))
own_class at (constant c) (x ∷ xs) p h f a e = absurd (refused p h)
own_class at (binary op) [] p h f a e = absurd (refused p h)
own_class at (binary op) (x ∷ []) p h f a e = absurd (refused p h)
own_class at (binary op) (x ∷ y ∷ []) p h f a e =
    of_two at op (is_single x.shape.space) (is_single y.shape.space) (kind_of x.shape.class) (kind_of y.shape.class) (kind_of p.0) x.outcome y.outcome (from_space x.shape x.outcome f.0) (from_space y.shape y.outcome f.1.0) a.0 a.1.0
    (allowed_kind _ p.0 (placed_class _ (common x.shape.space y.shape.space) p h))
own_class at (binary op) (x ∷ y ∷ z ∷ xs) p h f a e = absurd (refused p h)
own_class at (unary op) [] p h f a e = absurd (refused p h)
own_class at (unary op) (x ∷ []) p h f a e = of_one at op (kind_of x.shape.class) (kind_of p.0) x.outcome a.0 (allowed_kind _ p.0 (placed_class _ (Ok x.shape.space) p h))
own_class at (unary op) (x ∷ y ∷ xs) p h f a e = absurd (refused p h)
own_class at filter [] p h f a e = absurd (refused p h)
own_class at filter (x ∷ []) p h f a e = absurd (refused p h)
own_class at filter (x ∷ m ∷ []) p h f a e =
    let q = placed_class _ (masked x.shape.space m.shape.space m.shape.tree) p (column_is m.shape _ p (column_is x.shape _ p h)) in
    as_class x.shape.class p.0 (rows (kept (rows_in x.outcome) (cells_in m.outcome))) (masked_kind x.shape.class p.0 (logical_kind (kind_of m.shape.class)) q) (of_kept (kind_of x.shape.class) (rows_in x.outcome) (cells_in m.outcome) a.0)
own_class at filter (x ∷ m ∷ z ∷ xs) p h f a e = absurd (refused p h)
own_class at (reduce r) [] p h f a e = absurd (refused p h)
own_class at (reduce r) (x ∷ []) p h f a e =
    let j : reduction_kind r (kind_of x.shape.class) ≡ kind_ok (kind_of p.0) = allowed_kind _ p.0 (placed_class _ (Ok single) p h) in
    of_alone at (kind_of p.0) (reduced r (kind_of x.shape.class) (cells_in x.outcome)) (λ c z. reduced_kind r (kind_of x.shape.class) (kind_of p.0) (cells_in x.outcome) c a.0 j z)
own_class at (reduce r) (x ∷ y ∷ xs) p h f a e = absurd (refused p h)
own_class at (scan s) [] p h f a e = absurd (refused p h)
own_class at (scan s) (x ∷ []) p h f a e =
    let j : scan_kind s (kind_of x.shape.class) ≡ kind_ok (kind_of p.0) = allowed_kind _ p.0 (placed_class _ (Ok x.shape.space) p (column_is x.shape _ p h)) in
    of_rows at (kind_of p.0) (scanned s (kind_of x.shape.class) (rows_in x.outcome)) (λ outs z. scanned_kind s (kind_of x.shape.class) (kind_of p.0) (rows_in x.outcome) outs (rows_of (kind_of x.shape.class) (rows_in x.outcome) a.0) j z)
own_class at (scan s) (x ∷ y ∷ xs) p h f a e = absurd (refused p h)
own_class at (head k) [] p h f a e = absurd (refused p h)
own_class at (head k) (x ∷ []) p h f a e =
    as_class x.shape.class p.0 (rows (take k (rows_in x.outcome))) (class_at x.shape.class _ p (column_is x.shape _ p h))
    (subst (All (HasKind (kind_of x.shape.class))) (take-map (λ (r : ℕ × Seen). r.1) k (rows_in x.outcome)) (All-take (HasKind (kind_of x.shape.class)) k (cells_in x.outcome) a.0))
own_class at (head k) (x ∷ y ∷ xs) p h f a e = absurd (refused p h)
own_class at (tail k) [] p h f a e = absurd (refused p h)
own_class at (tail k) (x ∷ []) p h f a e =
    let n = length (rows_in x.outcome) - k in
    as_class x.shape.class p.0 (rows (drop n (rows_in x.outcome))) (class_at x.shape.class _ p (column_is x.shape _ p h))
    (subst (All (HasKind (kind_of x.shape.class))) (drop-map (λ (r : ℕ × Seen). r.1) n (rows_in x.outcome)) (All-drop (HasKind (kind_of x.shape.class)) n (cells_in x.outcome) a.0))
own_class at (tail k) (x ∷ y ∷ xs) p h f a e = absurd (refused p h)
own_class at operations.distinct [] p h f a e = absurd (refused p h)
own_class at operations.distinct (x ∷ []) p h f a e =
    let cs = distinct (cells_in x.outcome) in
    as_class x.shape.class p.0 (rows (numbered 1 cs)) (class_at x.shape.class _ p (column_is x.shape _ p h))
    (subst (All (HasKind (kind_of x.shape.class))) (sym (cells_numbered 1 cs)) (distinct_kind (kind_of x.shape.class) (cells_in x.outcome) a.0))
own_class at operations.distinct (x ∷ y ∷ xs) p h f a e = absurd (refused p h)
own_class at (group m part) [] p h f a e = absurd (refused p h)
own_class at (group m part) (g ∷ []) p h f a e =
    of_group at m part g.shape.class g.shape.class p.0 (rows_in g.outcome) (rows_in g.outcome) refl a.0 a.0 (counted_class m part g.shape p (column_is g.shape (counted m part g.shape) p h))
own_class at (group m part) (g ∷ v ∷ []) p h f a e =
    let q = column_is v.shape (summary m part g.shape v.shape) p (column_is g.shape (on_column v.shape (summary m part g.shape v.shape)) p h) in
    of_group at m part g.shape.class v.shape.class p.0 (rows_in g.outcome) (rows_in v.outcome) (as_many (e (group_spaces m part g.shape v.shape p q))) a.0 a.1.0 (summary_class m part g.shape v.shape p q)
  where
    as_many : length (rows_in g.outcome) ≡ length (rows_in v.outcome) → length (cells_in g.outcome) ≡ length (cells_in v.outcome)
    as_many n = length-map (rows_in g.outcome) (λ (r : ℕ × Seen). r.1) ∙ (n ∙ sym (length-map (rows_in v.outcome) (λ (r : ℕ × Seen). r.1)))
own_class at (group m part) (g ∷ v ∷ z ∷ xs) p h f a e = absurd (refused p h)

-- ---- vertices

pub to_class : (k : Class) (cs : List Seen) → All (HasKind (kind_of k)) cs → All (HasClass k) cs
to_class k [] all = All-nil (HasClass k)
to_class k (c ∷ cs) all = All-cons (HasClass k) c cs (ap class_of (All-head (HasKind (kind_of k)) c cs all) ∙ class_again k) (to_class k cs (All-tail (HasKind (kind_of k)) c cs all))

pub from_class : (k : Class) (cs : List Seen) → All (HasClass k) cs → All (HasKind (kind_of k)) cs
from_class k [] all = All-nil (HasKind (kind_of k))
from_class k (c ∷ cs) all = All-cons (HasKind (kind_of k)) c cs (sym (kind_again (seen_kind c)) ∙ ap kind_of (All-head (HasClass k) c cs all)) (from_class k cs (All-tail (HasClass k) c cs all))

module _ (columns : Columns) (of_stores : ℕ → List ℕ) (vs : List Vertex) (f : ℕ → Tall) (meaning : IsMeaning columns vs f) (ordered : IsOrdered vs) (stores : AreColumns columns of_stores vs) where
  as_many_rows : (a b : ℕ) (v w : Vertex) → slice_get vs a ≡ Some v → slice_get vs b ≡ Some w → fault_in f a ≡ None → fault_in f b ≡ None → (f a).shape.space ≡ (f b).shape.space → length (rows_in (f a).outcome) ≡ length (rows_in (f b).outcome)
  as_many_rows a b v w e g n m s =
      sym (length-map (rows_in (f a).outcome) (λ (r : ℕ × Seen). r.0))
      ∙ (ap (λ (ns : List ℕ). length ns) (value_numbers columns of_stores vs f meaning ordered stores a v e n ∙ (ap (row_numbers columns of_stores) s ∙ sym (value_numbers columns of_stores vs f meaning ordered stores b w g m)))
      ∙ length-map (rows_in (f b).outcome) (λ (r : ℕ × Seen). r.0))

  -- an operand without a fault, with its vertex
  Operand : ℕ → Type 0
  Operand a = (w : Vertex) × (slice_get vs a ≡ Some w) × (fault_in f a ≡ None)

  even_args : (args : List ℕ) → ((a : ℕ) → IsAmong args a → Operand a) → AreEven (map f args)
  unfolding Operand
  even_args [] h = tt
  even_args (a ∷ []) h = tt
  even_args (a ∷ b ∷ args) h = (let p = h a (inl refl) in let q = h b (inr (inl refl)) in as_many_rows a b p.0 q.0 p.1 q.1 p.2 q.2)

  fit_args : (args : List ℕ) → ((a : ℕ) → IsAmong args a → Operand a) → AllFit (map f args)
  unfolding Operand
  fit_args [] h = tt
  fit_args (a ∷ args) h = (let p = h a (inl refl) in (value_fits columns of_stores vs f meaning ordered stores a p.0 p.1 p.2, fit_args args (λ b r. h b (inr r))))

  classed_args : (args : List ℕ) → ((a : ℕ) → IsAmong args a → Classed (f a)) → AllClassed (map f args)
  classed_args [] h = tt
  classed_args (a ∷ args) h = (h a (inl refl), classed_args args (λ b r. h b (inr r)))

  classed_made : (i : ℕ) (v : Vertex) (m : Made) → slice_get vs i ≡ Some v → v.made ≡ m → fault_in f i ≡ None → ((a : ℕ) → IsAmong v.args a → Operand a) → ((a : ℕ) → IsAmong v.args a → Classed (f a)) → Classed (f i)
  classed_made i v (stored s b c) e q n there h =
      subst Classed (stored_value columns vs f meaning i v s b c e q) (from_class c (cells_in (columns s b)) (stores.classes i v s b c e q))
  classed_made i v (operation op) e q n there h =
      let w = shaped_is op (shapes (map f v.args)) (place_of op (shapes (map f v.args))) (f i).shape (tall_shape v.at op (map f v.args) (f i) (made_value columns vs f meaning i v op e q)) in
      let o : (f i).outcome ≡ own_outcome v.at op (map f v.args) = own_value columns vs f meaning i v op e q n in
      let k : w.0.0 ≡ (f i).shape.class = ap (λ (t : Shape). t.class) w.2 in
      as_class w.0.0 (f i).shape.class (f i).outcome k
      (subst (AreOf (kind_of w.0.0)) (sym o) (own_class v.at op (map f v.args) w.0 w.1 (fit_args v.args there) (classed_args v.args h) (even_args v.args there)))

  operand : (i : ℕ) (v : Vertex) → slice_get vs i ≡ Some v → fault_in f i ≡ None → (a : ℕ) → IsAmong v.args a → Operand a
  unfolding Operand
  operand i v e n a r = (let w = get_before vs i a v e (below_among i v.args a (ordered i v e) r) in (w.0, w.1, none_at columns vs f meaning i a v e r n))

  classed_below : (n i : ℕ) (v : Vertex) → i < n → slice_get vs i ≡ Some v → fault_in f i ≡ None → Classed (f i)
  unfolding Operand
  classed_below zero i v l e h = absurd (omega (arith, l))
  classed_below (suc n) i v l e h =
      classed_made i v v.made e refl h (operand i v e h) (λ a r.
      let m : a < i = below_among i v.args a (ordered i v e) r in
      let w = operand i v e h a r in
      classed_below n a w.0 (omega (arith, l, m)) w.1 w.2)

  of_fault : (k : Class) (x : Outcome) → ((fault_of x ≡ None) → AreOf (kind_of k) x) → HaveClass k x
  of_fault k (rows rs) h = to_class k (cells rs) (h refl)
  of_fault k (scalar c) h = to_class k (c ∷ []) (h refl)
  of_fault k (fault g) h = All-nil (HasClass k)

  classed : (i : ℕ) (v : Vertex) → slice_get vs i ≡ Some v → HaveClass (f i).shape.class (f i).outcome
  classed i v e = of_fault (f i).shape.class (f i).outcome (λ n. classed_below (suc i) i v (omega (arith)) e n)

pub value_class : (columns : Columns) (of_stores : ℕ → List ℕ) (vs : List Vertex) (f : ℕ → Tall) → IsMeaning columns vs f → IsOrdered vs → AreColumns columns of_stores vs → (i : ℕ) (v : Vertex) → slice_get vs i ≡ Some v → HaveClass (f i).shape.class (f i).outcome
value_class columns of_stores vs f meaning ordered stores i v e = classed columns of_stores vs f meaning ordered stores i v e
