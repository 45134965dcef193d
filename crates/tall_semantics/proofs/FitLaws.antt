-- A value is a scalar exactly where its space says so.
use Rattle.std.specs.Prelude.{◌≡◌, refl, ℕ, Bool, true, false, ◌&&◌, if◌then◌else◌, Result, Ok, Err, List, [], ◌∷◌}
use Rattle.std.proofs.Common.{ap, sym, subst, ◌∙◌}
use Rattle.tall_value.specs.declared.class.Class.{Class}
use Rattle.tall_value.specs.declared.faults.CellFault.{CellFault}
use Rattle.tall_value.specs.declared.faults.FaultKind.{FaultKind}
use Rattle.tall_value.specs.declared.operators.Binary.{Binary}
use Rattle.tall_value.specs.declared.operators.Unary.{Unary}
use Rattle.tall_value.specs.Cells.{Seen}
use Rattle.tall_value.specs.CellOperators.{unary_cell, binary_cell}
use Rattle.tall_value.specs.Elementwise.{unary_rows, binary_rows, scalar_rows}
use Rattle.tall_value.specs.GroupSummary.{summary}
use Rattle.tall_value.specs.Reductions.{reduced, or_fault}
use Rattle.tall_value.specs.Scans.{scanned}
use Rattle.tall_value.specs.Classes.{kind_of}
use Rattle.tall_semantics.specs.Operations.{Op, constant, unary, binary, filter, reduce, scan, head, tail, distinct, group, Part}
use Rattle.tall_semantics.specs.Spaces.{Space, single, filtered, first, last, groups, is_single}
use Rattle.tall_semantics.specs.Spaces as spaces
use Rattle.tall_semantics.specs.Equality.{same_space}
use Rattle.tall_semantics.specs.Faults.{At}
use Rattle.tall_semantics.specs.Outcomes.{Outcome, rows, scalar, fault, rows_in, cells_in, row_by_row, alone, elementwise_one, elementwise_two, part_of_group, grouped}
use Rattle.tall_semantics.specs.Shapes.{Shape, ShapeRefusal, bad_argument, common, masked, on_column, place_of}
use Rattle.tall_semantics.specs.Talls.{Tall, shapes, own_outcome}
use Rattle.tall_semantics.specs.RowsOfSpaces.{Fits}
use Rattle.tall_semantics.proofs.ShapeLaws.{space_ok, place_ok, refused, inside, tested, column_is, placed_is, groups_of}

-- ---- what an accepted space says

abbrev Says : Space → Bool → Type 0
Says s b = is_single s ≡ b

-- the outcome is a scalar where b holds, rows where not
abbrev pub FitsTo : Bool → Outcome → Type 0
FitsTo b (rows rs) = b ≡ false
FitsTo b (scalar c) = b ≡ true
FitsTo b (fault f) = Unit {0}

fits_rows : (at : At) (r : Result (List (ℕ × Seen)) (ℕ × CellFault)) → FitsTo false (row_by_row at r)
fits_rows at (Ok rs) = refl
fits_rows at (Err e) = tt

fits_alone : (at : At) (r : Result Seen FaultKind) → FitsTo true (alone at r)
fits_alone at (Ok c) = refl
fits_alone at (Err k) = tt

fits_part : (at : At) (part : Part) (r : Result (List (List (ℕ × Seen))) FaultKind) → FitsTo false (part_of_group at part r)
fits_part at part (Ok columns) = refl
fits_part at part (Err k) = tt

pub to_space : (s : Shape) (b : Bool) (x : Outcome) → is_single s.space ≡ b → FitsTo b x → Fits s x
to_space s b (rows rs) e h = e ∙ h
to_space s b (scalar c) e h = e ∙ h
to_space s b (fault f) e h = tt

pub from_space : (s : Shape) (x : Outcome) → Fits s x → FitsTo (is_single s.space) x
from_space s (rows rs) h = h
from_space s (scalar c) h = h
from_space s (fault f) h = tt

fits_one : (at : At) (op : Unary) (b : Bool) (x : Outcome) → FitsTo b x → FitsTo b (elementwise_one at op x)
fits_one at op b (rows rs) h = subst (λ d. FitsTo d (row_by_row at (unary_rows op rs))) (sym h) (fits_rows at (unary_rows op rs))
fits_one at op b (scalar c) h = subst (λ d. FitsTo d (alone at (or_fault (unary_cell op c)))) (sym h) (fits_alone at (or_fault (unary_cell op c)))
fits_one at op b (fault f) h = tt

false_left : (b d : Bool) → b ≡ false → (b && d) ≡ false
false_left true d h = absurd (cc)
false_left false d h = refl

false_right : (b d : Bool) → d ≡ false → (b && d) ≡ false
false_right true d h = h
false_right false d h = refl

both_true : (b d : Bool) → b ≡ true → d ≡ true → (b && d) ≡ true
both_true true d g h = h
both_true false d g h = absurd (cc)

fits_two : (at : At) (op : Binary) (b d : Bool) (x y : Outcome) → FitsTo b x → FitsTo d y → FitsTo (b && d) (elementwise_two at op x y)
fits_two at op b d (rows rs) (rows ss) g h = subst (λ e. FitsTo e (row_by_row at (binary_rows op rs ss))) (sym (false_left b d g)) (fits_rows at (binary_rows op rs ss))
fits_two at op b d (rows rs) (scalar c) g h = subst (λ e. FitsTo e (row_by_row at (scalar_rows op false c rs))) (sym (false_left b d g)) (fits_rows at (scalar_rows op false c rs))
fits_two at op b d (scalar c) (rows ss) g h = subst (λ e. FitsTo e (row_by_row at (scalar_rows op true c ss))) (sym (false_right b d h)) (fits_rows at (scalar_rows op true c ss))
fits_two at op b d (scalar c) (scalar k) g h = subst (λ e. FitsTo e (alone at (or_fault (binary_cell op c k)))) (sym (both_true b d g h)) (fits_alone at (or_fault (binary_cell op c k)))
fits_two at op b d (fault f) y g h = tt
fits_two at op b d (rows rs) (fault f) g h = tt
fits_two at op b d (scalar c) (fault f) g h = tt

common_single : (s t u : Space) → common s t ≡ space_ok u → is_single u ≡ (is_single s && is_single t)
common_single single t u h = ap is_single (sym (inside t u h))
common_single s single u h = ap is_single (sym (inside s u h))
common_single s t u h = ap is_single (sym (tested (same_space s t) s u h).1)

column_says : (x : Shape) (r : Result (Class × Space) ShapeRefusal) (p : Class × Space) → on_column x r ≡ place_ok p → is_single x.space ≡ false
column_says x r p h = says (is_single x.space) r p h
  where
    says : (b : Bool) (r : Result (Class × Space) ShapeRefusal) (p : Class × Space) → (if b then Err bad_argument else r) ≡ place_ok p → b ≡ false
    says true r p h = absurd (cc)
    says false r p h = refl

-- ---- operation by operation

abbrev pub AllFit : List Tall → Type 0
AllFit [] = Unit {0}
AllFit (x ∷ xs) = Fits x.shape x.outcome × AllFit xs

pub space_of : (c : Class) (s : Space) (p : Class × Space) → place_ok (c, s) ≡ place_ok p → s ≡ p.1
space_of c s p h = ap (λ r. elim r [ Ok q ↦ q.1 | Err e ↦ s ]) h

abbrev pub FitsIn : Space → Outcome → Type 0
FitsIn s x = FitsTo (is_single s) x

by_space : (s u : Space) (x : Outcome) → s ≡ u → FitsIn s x → FitsIn u x
by_space s u x e h = subst (λ v. FitsIn v x) e h

by_column : (b : Bool) (x : Outcome) → b ≡ false → FitsTo false x → FitsTo b x
by_column b x e h = subst (λ d. FitsTo d x) (sym e) h

pub fits_own : (at : At) (op : Op) (xs : List Tall) (p : Class × Space) → place_of op (shapes xs) ≡ place_ok p → AllFit xs → FitsIn p.1 (own_outcome at op xs)
fits_own at (constant c) [] p h a = by_space single p.1 (scalar c) (space_of _ single p h) refl
fits_own at (constant c) (x ∷ xs) p h a = absurd (refused p h)
fits_own at (binary op) [] p h a = absurd (refused p h)
fits_own at (binary op) (x ∷ []) p h a = absurd (refused p h)
fits_own at (binary op) (x ∷ y ∷ []) p h a =
    let e : is_single p.1 ≡ (is_single x.shape.space && is_single y.shape.space) = common_single x.shape.space y.shape.space p.1 (placed_is _ (common x.shape.space y.shape.space) p h) in
    subst (λ d. FitsTo d (elementwise_two at op x.outcome y.outcome)) (sym e) (fits_two at op (is_single x.shape.space) (is_single y.shape.space) x.outcome y.outcome (from_space x.shape x.outcome a.0) (from_space y.shape y.outcome a.1.0))
fits_own at (binary op) (x ∷ y ∷ z ∷ xs) p h a = absurd (refused p h)
fits_own at (unary op) [] p h a = absurd (refused p h)
fits_own at (unary op) (x ∷ []) p h a =
    by_space x.shape.space p.1 (elementwise_one at op x.outcome) (inside x.shape.space p.1 (placed_is _ (space_ok x.shape.space) p h)) (fits_one at op (is_single x.shape.space) x.outcome (from_space x.shape x.outcome a.0))
fits_own at (unary op) (x ∷ y ∷ xs) p h a = absurd (refused p h)
fits_own at filter [] p h a = absurd (refused p h)
fits_own at filter (x ∷ []) p h a = absurd (refused p h)
fits_own at filter (x ∷ m ∷ []) p h a =
    let q = placed_is _ (masked x.shape.space m.shape.space m.shape.tree) p (column_is m.shape _ p (column_is x.shape _ p h)) in
    ap is_single (sym (tested (same_space x.shape.space m.shape.space) (filtered x.shape.space m.shape.tree) p.1 q).1)
fits_own at filter (x ∷ m ∷ z ∷ xs) p h a = absurd (refused p h)
fits_own at (reduce r) [] p h a = absurd (refused p h)
fits_own at (reduce r) (x ∷ []) p h a =
    by_space single p.1 (alone at (reduced r (kind_of x.shape.class) (cells_in x.outcome))) (inside single p.1 (placed_is _ (space_ok single) p h)) (fits_alone at (reduced r (kind_of x.shape.class) (cells_in x.outcome)))
fits_own at (reduce r) (x ∷ y ∷ xs) p h a = absurd (refused p h)
fits_own at (scan s) [] p h a = absurd (refused p h)
fits_own at (scan s) (x ∷ []) p h a =
    let q : x.shape.space ≡ p.1 = inside x.shape.space p.1 (placed_is _ (space_ok x.shape.space) p (column_is x.shape _ p h)) in
    by_column (is_single p.1) (row_by_row at (scanned s (kind_of x.shape.class) (rows_in x.outcome))) (ap is_single (sym q) ∙ column_says x.shape _ p h) (fits_rows at (scanned s (kind_of x.shape.class) (rows_in x.outcome)))
fits_own at (scan s) (x ∷ y ∷ xs) p h a = absurd (refused p h)
fits_own at (head k) [] p h a = absurd (refused p h)
fits_own at (head k) (x ∷ []) p h a = ap is_single (sym (space_of _ (first k x.shape.space) p (column_is x.shape _ p h)))
fits_own at (head k) (x ∷ y ∷ xs) p h a = absurd (refused p h)
fits_own at (tail k) [] p h a = absurd (refused p h)
fits_own at (tail k) (x ∷ []) p h a = ap is_single (sym (space_of _ (last k x.shape.space) p (column_is x.shape _ p h)))
fits_own at (tail k) (x ∷ y ∷ xs) p h a = absurd (refused p h)
fits_own at distinct [] p h a = absurd (refused p h)
fits_own at distinct (x ∷ []) p h a = ap is_single (sym (space_of _ (spaces.distinct x.shape.tree) p (column_is x.shape _ p h)))
fits_own at distinct (x ∷ y ∷ xs) p h a = absurd (refused p h)
fits_own at (group m part) [] p h a = absurd (refused p h)
fits_own at (group m part) (g ∷ []) p h a =
    let w = groups_of m part g.shape [] p h in
    by_column (is_single p.1) (grouped at m part (kind_of g.shape.class) (rows_in g.outcome) (rows_in g.outcome)) (ap is_single (sym w.2)) (fits_part at part (summary m (kind_of g.shape.class) (rows_in g.outcome) (rows_in g.outcome)))
fits_own at (group m part) (g ∷ v ∷ []) p h a =
    let w = groups_of m part g.shape (v.shape ∷ []) p h in
    by_column (is_single p.1) (grouped at m part (kind_of v.shape.class) (rows_in g.outcome) (rows_in v.outcome)) (ap is_single (sym w.2)) (fits_part at part (summary m (kind_of v.shape.class) (rows_in g.outcome) (rows_in v.outcome)))
fits_own at (group m part) (g ∷ v ∷ z ∷ xs) p h a = absurd (refused p h)
