-- Over a block no value that is computed from its rows has more rows than the block.
use Rattle.std.specs.Prelude.{◌≡◌, refl, ℕ, zero, suc, ◌<◌, ◌≤◌, if◌then◌else◌, Bool, true, false, Option, None, Some, Result, Ok, Err, List, [], ◌∷◌, length, map, slice_get}
use Rattle.std.proofs.Common.{ap, sym, subst, ◌∙◌, arith, inl, inr}
use Rattle.tall_value.specs.declared.class.Class.{Class}
use Rattle.tall_value.specs.declared.class.Kind.{Kind}
use Rattle.tall_value.specs.declared.faults.CellFault.{CellFault}
use Rattle.tall_value.specs.declared.faults.FaultKind.{FaultKind}
use Rattle.tall_value.specs.declared.functions.Scan.{Scan}
use Rattle.tall_value.specs.declared.operators.Binary.{Binary}
use Rattle.tall_value.specs.declared.operators.Unary.{Unary}
use Rattle.tall_value.specs.Cells.{Seen}
use Rattle.tall_value.specs.CellOperators.{binary_cell, unary_cell}
use Rattle.tall_value.specs.Classes.{kind_of}
use Rattle.tall_value.specs.Columns.{cells, numbered}
use Rattle.tall_value.specs.Elementwise.{beside, each_pair, each_row}
use Rattle.tall_value.specs.Filters.{is_true}
use Rattle.tall_value.specs.Filters as filters
use Rattle.tall_value.specs.Reductions.{or_fault}
use Rattle.tall_semantics.specs.Operations.{Op, unary, binary, filter, scan, reduce, head, tail, distinct, group, constant, Made, stored, operation}
use Rattle.tall_semantics.specs.Faults.{At, Fault, least_fault}
use Rattle.tall_semantics.specs.Outcomes.{Outcome, rows, scalar, fault, fault_of, rows_in, cells_in, row_by_row, alone, elementwise_one, elementwise_two}
use Rattle.tall_semantics.specs.Talls.{Tall, Columns, outcomes, unless}
use Rattle.tall_semantics.specs.Deferred.{Vertex, IsOrdered, AllBelow}
use Rattle.tall_blocks.specs.Carries.{Rows, RowsOrFault, scanned_behind}
use Rattle.tall_blocks.specs.Cut.{AreCut, CanBeCut}
use Rattle.tall_blocks.specs.RowPlaces.{renumbered, with_numbers}
use Rattle.tall_blocks.specs.ValuesOver.{IsOver, own_over, outcome_over, value_over}
use Rattle.tall_blocks.proofs.RowPlaceLaws.{each_counted, pair_counted, scan_counted}

-- ---- operations row by row

few_renumbered : (rs others : Rows) → length (renumbered rs others) ≤ length rs
few_renumbered [] others = omega (arith)
few_renumbered (r ∷ rs) [] = omega (arith)
few_renumbered (r ∷ rs) (o ∷ others) = (let l = few_renumbered rs others in omega (arith, l))

few_numbered : (at : At) (rs : Rows) (r : RowsOrFault) → length (rows_in (row_by_row at (with_numbers rs r))) ≤ length rs
few_numbered at rs (Ok others) = few_renumbered rs others
few_numbered at rs (Err e) = omega (arith)

few_each : (at : At) (g : Seen → Result Seen CellFault) (rs : Rows) → length (rows_in (row_by_row at (each_row g rs))) ≤ length rs
few_each at g rs = subst (λ x. length (rows_in (row_by_row at x)) ≤ length rs) (sym (each_counted g rs)) (few_numbered at rs (each_row g (numbered 0 (cells rs))))

few_pairs : (at : At) (g : Seen → Seen → Result Seen CellFault) (rs ss : Rows) → length (rows_in (row_by_row at (each_pair g rs ss))) ≤ length rs
few_pairs at g rs ss = subst (λ x. length (rows_in (row_by_row at x)) ≤ length rs) (sym (pair_counted g rs ss)) (few_numbered at rs (each_pair g (numbered 0 (cells rs)) (numbered 0 (cells ss))))

few_scanned : (at : At) (s : Scan) (a : Kind) (before : List Seen) (rs : Rows) → length (rows_in (row_by_row at (scanned_behind s a before rs))) ≤ length rs
few_scanned at s a before rs = subst (λ x. length (rows_in (row_by_row at x)) ≤ length rs) (sym (scan_counted s a before rs)) (few_numbered at rs (scanned_behind s a before (numbered 0 (cells rs))))

few_kept : (rs : Rows) (mask : List Seen) → length (filters.kept rs mask) ≤ length rs
few_kept [] mask = omega (arith)
few_kept (r ∷ rs) [] = omega (arith)
few_kept (r ∷ rs) (m ∷ mask) = by_mark (is_true m) (few_kept rs mask)
  where
    by_mark : (b : Bool) → length (filters.kept rs mask) ≤ length rs → length (if b then r ∷ filters.kept rs mask else filters.kept rs mask) ≤ suc (length rs)
    by_mark true l = omega (arith, l)
    by_mark false l = omega (arith, l)

few_alone : (at : At) (r : Result Seen FaultKind) → length (rows_in (alone at r)) ≤ 1
few_alone at (Ok c) = omega (arith)
few_alone at (Err e) = omega (arith)

few_one : (at : At) (op : Unary) (x : Outcome) → length (rows_in (elementwise_one at op x)) ≤ length (rows_in x)
few_one at op (rows rs) = few_each at (unary_cell op) rs
few_one at op (scalar c) = few_alone at (or_fault (unary_cell op c))
few_one at op (fault f) = omega (arith)

few_two : (at : At) (op : Binary) (m : ℕ) (x y : Outcome) → length (rows_in x) ≤ m → length (rows_in y) ≤ m → length (rows_in (elementwise_two at op x y)) ≤ m
few_two at op m (rows rs) (rows ss) l k = (let q = few_pairs at (binary_cell op) rs ss in omega (arith, q, l))
few_two at op m (rows rs) (scalar d) l k = (let q = few_each at (beside op false d) rs in omega (arith, q, l))
few_two at op m (rows rs) (fault f) l k = omega (arith)
few_two at op m (scalar c) (rows ss) l k = (let q = few_each at (beside op true c) ss in omega (arith, q, k))
few_two at op m (scalar c) (scalar d) l k = (let q = few_alone at (or_fault (binary_cell op c d)) in omega (arith, q, l))
few_two at op m (scalar c) (fault f) l k = omega (arith)
few_two at op m (fault f) y l k = omega (arith)

few_left : (at : At) (op : Binary) (m : ℕ) (x y : Outcome) (d : Seen) → y ≡ scalar d → length (rows_in x) ≤ m → length (rows_in (elementwise_two at op x y)) ≤ m
few_left at op m x y d e l = subst (λ z. length (rows_in (elementwise_two at op x z)) ≤ m) (sym e) (of_left x l)
  where
    of_left : (x : Outcome) → length (rows_in x) ≤ m → length (rows_in (elementwise_two at op x (scalar d))) ≤ m
    of_left (rows rs) l = (let q = few_each at (beside op false d) rs in omega (arith, q, l))
    of_left (scalar c) l = (let q = few_alone at (or_fault (binary_cell op c d)) in omega (arith, q, l))
    of_left (fault f) l = omega (arith)

few_right : (at : At) (op : Binary) (m : ℕ) (x y : Outcome) (c : Seen) → x ≡ scalar c → length (rows_in y) ≤ m → length (rows_in (elementwise_two at op x y)) ≤ m
few_right at op m x y c e l = subst (λ z. length (rows_in (elementwise_two at op z y)) ≤ m) (sym e) (of_right y l)
  where
    of_right : (y : Outcome) → length (rows_in y) ≤ m → length (rows_in (elementwise_two at op (scalar c) y)) ≤ m
    of_right (rows ss) l = (let q = few_each at (beside op true c) ss in omega (arith, q, l))
    of_right (scalar d) l = (let q = few_alone at (or_fault (binary_cell op c d)) in omega (arith, q, l))
    of_right (fault f) l = omega (arith)

few_unless : (m : ℕ) (c : Option Fault) (x : Outcome) → length (rows_in x) ≤ m → length (rows_in (unless c x)) ≤ m
few_unless m None x l = l
few_unless m (Some f) x l = omega (arith)

-- ---- over a block whose stored columns have at most m rows

module _ {columns : Columns} {so_far : ℕ → List Seen} {vs : List Vertex} {f : ℕ → Tall} {cut : ℕ → Bool} {h : ℕ → Outcome} (over : IsOver columns so_far vs f cut h) (can : AreCut f cut vs) (ordered : IsOrdered vs) (m : ℕ)
    (few : (i : ℕ) (v : Vertex) (s x : ℕ) (k : Class) → slice_get vs i ≡ Some v → cut i ≡ true → v.made ≡ stored s x k → length (rows_in (columns s x)) ≤ m) where
  abbrev Few : ℕ → Type 0
  Few a = length (rows_in (h a)) ≤ m

  abbrev Under : ℕ → Type 0
  Under n = (a : ℕ) → a < n → cut a ≡ true → Few a

  few_op : (at : At) (before : List Seen) (op : Op) (args : List ℕ) (n : ℕ) → AllBelow n args → CanBeCut f cut (operation op) args → Under n → length (rows_in (own_over before at op (map (value_over f h) args))) ≤ m
  few_op at before (unary op) [] n below is go = absurd is
  few_op at before (unary op) (a ∷ []) n below is go = (let q = few_one at op (h a) in let l = go a below.0 is in omega (arith, q, l))
  few_op at before (unary op) (a ∷ b ∷ args) n below is go = absurd is
  few_op at before (binary op) [] n below is go = absurd is
  few_op at before (binary op) (a ∷ []) n below is go = absurd is
  few_op at before (binary op) (a ∷ b ∷ []) n below is go = elim is [
    | inl both ↦ few_two at op m (h a) (h b) (go a below.0 both.0) (go b below.1.0 both.1)
    | inr rest ↦ elim rest [
      | inl left ↦ few_left at op m (h a) (h b) left.1.1.0 (over.known b left.1.0 ∙ left.1.1.1) (go a below.0 left.0)
      | inr right ↦ few_right at op m (h a) (h b) right.0.1.0 (over.known a right.0.0 ∙ right.0.1.1) (go b below.1.0 right.1)
    ]
  ]
  few_op at before (binary op) (a ∷ b ∷ d ∷ args) n below is go = absurd is
  few_op at before filter [] n below is go = absurd is
  few_op at before filter (a ∷ []) n below is go = absurd is
  few_op at before filter (a ∷ b ∷ []) n below is go = (let q = few_kept (rows_in (h a)) (cells_in (h b)) in let l = go a below.0 is.0 in omega (arith, q, l))
  few_op at before filter (a ∷ b ∷ d ∷ args) n below is go = absurd is
  few_op at before (scan s) [] n below is go = absurd is
  few_op at before (scan s) (a ∷ []) n below is go = (let q = few_scanned at s (kind_of (f a).shape.class) before (rows_in (h a)) in let l = go a below.0 is in omega (arith, q, l))
  few_op at before (scan s) (a ∷ b ∷ args) n below is go = absurd is
  few_op at before (constant c) args n below is go = absurd is
  few_op at before (reduce r) args n below is go = absurd is
  few_op at before (head k) args n below is go = absurd is
  few_op at before (tail k) args n below is go = absurd is
  few_op at before distinct args n below is go = absurd is
  few_op at before (group g part) args n below is go = absurd is

  few_made : (i : ℕ) (v : Vertex) (made : Made) → slice_get vs i ≡ Some v → cut i ≡ true → v.made ≡ made → Under i → Few i
  few_made i v (stored s x k) e c q go = subst (λ y. length (rows_in y) ≤ m) (sym (over.made i v e c ∙ ap (λ w. outcome_over columns (so_far i) v.at w (map (value_over f h) v.args)) q)) (few i v s x k e c q)
  few_made i v (operation op) e c q go =
      subst (λ y. length (rows_in y) ≤ m) (sym (over.made i v e c ∙ ap (λ w. outcome_over columns (so_far i) v.at w (map (value_over f h) v.args)) q))
      (few_unless m (least_fault (map fault_of (outcomes (map (value_over f h) v.args)))) (own_over (so_far i) v.at op (map (value_over f h) v.args))
      (few_op v.at (so_far i) op v.args i (ordered i v e) (subst (λ w. CanBeCut f cut w v.args) q (can i v e c)) go))

  few_under : ((i : ℕ) → cut i ≡ true → (v : Vertex) × (slice_get vs i ≡ Some v)) → (n : ℕ) → Under n
  few_under there zero a l c = absurd (omega (arith, l))
  few_under there (suc n) a l c =
      let v = there a c in
      few_made a v.0 v.0.made v.1 c refl (λ b k d. few_under there n b (omega (arith, l, k)) d)

  pub few_rows : ((i : ℕ) → cut i ≡ true → (v : Vertex) × (slice_get vs i ≡ Some v)) → (i : ℕ) → cut i ≡ true → Few i
  few_rows there i c = few_under there (suc i) i (omega (arith)) c
