-- The own fault of an operation: its number, and which operations have none.
use Rattle.std.specs.Prelude.{◌≡◌, refl, ℕ, true, false, Option, None, Some, Result, Ok, Err, List, [], ◌∷◌, map}
use Rattle.std.proofs.Common.{ap, sym}
use Rattle.tall_value.specs.declared.faults.CellFault.{CellFault}
use Rattle.tall_value.specs.declared.faults.FaultKind.{FaultKind}
use Rattle.tall_value.specs.declared.functions.Method.{Method}
use Rattle.tall_value.specs.declared.operators.Binary.{Binary}
use Rattle.tall_value.specs.declared.operators.Unary.{Unary}
use Rattle.tall_value.specs.Cells.{Seen}
use Rattle.tall_value.specs.CellOperators.{unary_cell, binary_cell}
use Rattle.tall_value.specs.Elementwise.{unary_rows, binary_rows, scalar_rows}
use Rattle.tall_value.specs.GroupSummary.{summary}
use Rattle.tall_value.specs.Reductions.{reduced, or_fault}
use Rattle.tall_value.specs.Scans.{scanned}
use Rattle.tall_value.specs.Classes.{kind_of}
use Rattle.tall_semantics.specs.Operations.{Op, constant, unary, binary, filter, reduce, scan, head, tail, distinct, group, Part, operation}
use Rattle.tall_semantics.specs.Faults.{At, Fault, earlier, least_fault, fault_at}
use Rattle.tall_semantics.specs.Outcomes.{Outcome, rows, scalar, fault, fault_of, rows_in, cells_in, row_by_row, alone, elementwise_one, elementwise_two, part_of_group}
use Rattle.tall_semantics.specs.Talls.{Tall, outcomes, own_outcome}
use Rattle.tall_semantics.specs.Numbered.{never_fails}

pub none_of_two : (c d : Option Fault) → earlier c d ≡ None → (c ≡ None) × (d ≡ None)
none_of_two None d h = (refl, h)
none_of_two (Some f) None h = absurd (cc)
none_of_two (Some f) (Some g) h = absurd (cc)

-- ---- numbers

abbrev pub HasNumber : At → Option Fault → Type 0
HasNumber at c = (x : Fault) → c ≡ Some x → x.number ≡ at.number

number_of : (at : At) (row : Option ℕ) (kind : FaultKind) → HasNumber at (Some (fault_at at row kind))
number_of at row kind x h = sym (ap (λ o. elim o [ Some y ↦ y.number | None ↦ at.number ]) h)

pub none_has : (at : At) → HasNumber at None
none_has at x h = absurd (cc)

pub rows_number : (at : At) (r : Result (List (ℕ × Seen)) (ℕ × CellFault)) → HasNumber at (fault_of (row_by_row at r))
rows_number at (Ok rs) = none_has at
rows_number at (Err e) = number_of at _ _

alone_number : (at : At) (r : Result Seen FaultKind) → HasNumber at (fault_of (alone at r))
alone_number at (Ok c) = none_has at
alone_number at (Err kind) = number_of at _ _

part_number : (at : At) (part : Part) (r : Result (List (List (ℕ × Seen))) FaultKind) → HasNumber at (fault_of (part_of_group at part r))
part_number at part (Ok columns) = none_has at
part_number at part (Err kind) = number_of at _ _

one_number : (at : At) (op : Unary) (x : Outcome) → fault_of x ≡ None → HasNumber at (fault_of (elementwise_one at op x))
one_number at op (rows rs) n = rows_number at (unary_rows op rs)
one_number at op (scalar c) n = alone_number at (or_fault (unary_cell op c))
one_number at op (fault f) n = absurd (cc)

two_number : (at : At) (op : Binary) (x y : Outcome) → fault_of x ≡ None → fault_of y ≡ None → HasNumber at (fault_of (elementwise_two at op x y))
two_number at op (rows rs) (rows ss) m n = rows_number at (binary_rows op rs ss)
two_number at op (rows rs) (scalar d) m n = rows_number at (scalar_rows op false d rs)
two_number at op (scalar c) (rows ss) m n = rows_number at (scalar_rows op true c ss)
two_number at op (scalar c) (scalar d) m n = alone_number at (or_fault (binary_cell op c d))
two_number at op (fault f) y m n = absurd (cc)
two_number at op (rows rs) (fault f) m n = absurd (cc)
two_number at op (scalar c) (fault f) m n = absurd (cc)

abbrev NoFault : List Tall → Type 0
NoFault xs = least_fault (map fault_of (outcomes xs)) ≡ None

first_none : (x : Tall) (xs : List Tall) → NoFault (x ∷ xs) → (fault_of x.outcome ≡ None) × NoFault xs
first_none x xs h = none_of_two (fault_of x.outcome) (least_fault (map fault_of (outcomes xs))) h

pub own_number : (at : At) (op : Op) (xs : List Tall) → NoFault xs → HasNumber at (fault_of (own_outcome at op xs))
own_number at (constant c) [] n = none_has at
own_number at (constant c) (x ∷ xs) n = none_has at
own_number at (binary op) [] n = none_has at
own_number at (binary op) (x ∷ []) n = none_has at
own_number at (binary op) (x ∷ y ∷ []) n =
    let p = first_none x (y ∷ []) n in
    two_number at op x.outcome y.outcome p.0 (first_none y [] p.1).0
own_number at (binary op) (x ∷ y ∷ z ∷ xs) n = none_has at
own_number at (unary op) [] n = none_has at
own_number at (unary op) (x ∷ []) n = one_number at op x.outcome (first_none x [] n).0
own_number at (unary op) (x ∷ y ∷ xs) n = none_has at
own_number at filter [] n = none_has at
own_number at filter (x ∷ []) n = none_has at
own_number at filter (x ∷ m ∷ []) n = none_has at
own_number at filter (x ∷ m ∷ z ∷ xs) n = none_has at
own_number at (reduce r) [] n = none_has at
own_number at (reduce r) (x ∷ []) n = alone_number at (reduced r (kind_of x.shape.class) (cells_in x.outcome))
own_number at (reduce r) (x ∷ y ∷ xs) n = none_has at
own_number at (scan s) [] n = none_has at
own_number at (scan s) (x ∷ []) n = rows_number at (scanned s (kind_of x.shape.class) (rows_in x.outcome))
own_number at (scan s) (x ∷ y ∷ xs) n = none_has at
own_number at (head k) [] n = none_has at
own_number at (head k) (x ∷ []) n = none_has at
own_number at (head k) (x ∷ y ∷ xs) n = none_has at
own_number at (tail k) [] n = none_has at
own_number at (tail k) (x ∷ []) n = none_has at
own_number at (tail k) (x ∷ y ∷ xs) n = none_has at
own_number at distinct [] n = none_has at
own_number at distinct (x ∷ []) n = none_has at
own_number at distinct (x ∷ y ∷ xs) n = none_has at
own_number at (group m part) [] n = none_has at
own_number at (group m part) (g ∷ []) n = part_number at part (summary m (kind_of g.shape.class) (rows_in g.outcome) (rows_in g.outcome))
own_number at (group m part) (g ∷ v ∷ []) n = part_number at part (summary m (kind_of v.shape.class) (rows_in g.outcome) (rows_in v.outcome))
own_number at (group m part) (g ∷ v ∷ z ∷ xs) n = none_has at

-- ---- operations without a fault of their own

pub no_own : (at : At) (op : Op) (xs : List Tall) → never_fails (operation op) ≡ true → fault_of (own_outcome at op xs) ≡ None
no_own at (constant c) [] h = refl
no_own at (constant c) (x ∷ xs) h = refl
no_own at (binary op) xs h = absurd (cc)
no_own at (unary op) xs h = absurd (cc)
no_own at filter [] h = refl
no_own at filter (x ∷ []) h = refl
no_own at filter (x ∷ m ∷ []) h = refl
no_own at filter (x ∷ m ∷ z ∷ xs) h = refl
no_own at (reduce r) xs h = absurd (cc)
no_own at (scan s) xs h = absurd (cc)
no_own at (head k) [] h = refl
no_own at (head k) (x ∷ []) h = refl
no_own at (head k) (x ∷ y ∷ xs) h = refl
no_own at (tail k) [] h = refl
no_own at (tail k) (x ∷ []) h = refl
no_own at (tail k) (x ∷ y ∷ xs) h = refl
no_own at distinct [] h = refl
no_own at distinct (x ∷ []) h = refl
no_own at distinct (x ∷ y ∷ xs) h = refl
no_own at (group m part) xs h = absurd (cc)

-- ---- the columns of one `groupsummary` have one fault

same_part : (at : At) (p q : Part) (r : Result (List (List (ℕ × Seen))) FaultKind) → fault_of (part_of_group at p r) ≡ fault_of (part_of_group at q r)
same_part at p q (Ok columns) = refl
same_part at p q (Err kind) = refl

pub same_group : (at : At) (m : Method) (p q : Part) (xs : List Tall) → fault_of (own_outcome at (group m p) xs) ≡ fault_of (own_outcome at (group m q) xs)
same_group at m p q [] = refl
same_group at m p q (g ∷ []) = same_part at p q (summary m (kind_of g.shape.class) (rows_in g.outcome) (rows_in g.outcome))
same_group at m p q (g ∷ v ∷ []) = same_part at p q (summary m (kind_of v.shape.class) (rows_in g.outcome) (rows_in v.outcome))
same_group at m p q (g ∷ v ∷ z ∷ xs) = refl

-- ---- without a fault it doesn't matter which expression it is

pub same_rows : (at other : At) (r : Result (List (ℕ × Seen)) (ℕ × CellFault)) → fault_of (row_by_row at r) ≡ None → row_by_row at r ≡ row_by_row other r
same_rows at other (Ok rs) h = refl
same_rows at other (Err e) h = absurd (cc)

same_alone : (at other : At) (r : Result Seen FaultKind) → fault_of (alone at r) ≡ None → alone at r ≡ alone other r
same_alone at other (Ok c) h = refl
same_alone at other (Err kind) h = absurd (cc)

same_group_part : (at other : At) (part : Part) (r : Result (List (List (ℕ × Seen))) FaultKind) → fault_of (part_of_group at part r) ≡ None → part_of_group at part r ≡ part_of_group other part r
same_group_part at other part (Ok columns) h = refl
same_group_part at other part (Err kind) h = absurd (cc)

same_one : (at other : At) (op : Unary) (x : Outcome) → fault_of (elementwise_one at op x) ≡ None → elementwise_one at op x ≡ elementwise_one other op x
same_one at other op (rows rs) h = same_rows at other (unary_rows op rs) h
same_one at other op (scalar c) h = same_alone at other (or_fault (unary_cell op c)) h
same_one at other op (fault f) h = refl

same_two : (at other : At) (op : Binary) (x y : Outcome) → fault_of (elementwise_two at op x y) ≡ None → elementwise_two at op x y ≡ elementwise_two other op x y
same_two at other op (rows rs) (rows ss) h = same_rows at other (binary_rows op rs ss) h
same_two at other op (rows rs) (scalar d) h = same_rows at other (scalar_rows op false d rs) h
same_two at other op (scalar c) (rows ss) h = same_rows at other (scalar_rows op true c ss) h
same_two at other op (scalar c) (scalar d) h = same_alone at other (or_fault (binary_cell op c d)) h
same_two at other op (fault f) y h = refl
same_two at other op (rows rs) (fault f) h = refl
same_two at other op (scalar c) (fault f) h = refl

pub same_own : (at other : At) (op : Op) (xs : List Tall) → fault_of (own_outcome at op xs) ≡ None → own_outcome at op xs ≡ own_outcome other op xs
same_own at other (constant c) [] h = refl
same_own at other (constant c) (x ∷ xs) h = refl
same_own at other (binary op) [] h = refl
same_own at other (binary op) (x ∷ []) h = refl
same_own at other (binary op) (x ∷ y ∷ []) h = same_two at other op x.outcome y.outcome h
same_own at other (binary op) (x ∷ y ∷ z ∷ xs) h = refl
same_own at other (unary op) [] h = refl
same_own at other (unary op) (x ∷ []) h = same_one at other op x.outcome h
same_own at other (unary op) (x ∷ y ∷ xs) h = refl
same_own at other filter [] h = refl
same_own at other filter (x ∷ []) h = refl
same_own at other filter (x ∷ m ∷ []) h = refl
same_own at other filter (x ∷ m ∷ z ∷ xs) h = refl
same_own at other (reduce r) [] h = refl
same_own at other (reduce r) (x ∷ []) h = same_alone at other (reduced r (kind_of x.shape.class) (cells_in x.outcome)) h
same_own at other (reduce r) (x ∷ y ∷ xs) h = refl
same_own at other (scan s) [] h = refl
same_own at other (scan s) (x ∷ []) h = same_rows at other (scanned s (kind_of x.shape.class) (rows_in x.outcome)) h
same_own at other (scan s) (x ∷ y ∷ xs) h = refl
same_own at other (head k) [] h = refl
same_own at other (head k) (x ∷ []) h = refl
same_own at other (head k) (x ∷ y ∷ xs) h = refl
same_own at other (tail k) [] h = refl
same_own at other (tail k) (x ∷ []) h = refl
same_own at other (tail k) (x ∷ y ∷ xs) h = refl
same_own at other distinct [] h = refl
same_own at other distinct (x ∷ []) h = refl
same_own at other distinct (x ∷ y ∷ xs) h = refl
same_own at other (group m part) [] h = refl
same_own at other (group m part) (g ∷ []) h = same_group_part at other part (summary m (kind_of g.shape.class) (rows_in g.outcome) (rows_in g.outcome)) h
same_own at other (group m part) (g ∷ v ∷ []) h = same_group_part at other part (summary m (kind_of v.shape.class) (rows_in g.outcome) (rows_in v.outcome)) h
same_own at other (group m part) (g ∷ v ∷ z ∷ xs) h = refl
