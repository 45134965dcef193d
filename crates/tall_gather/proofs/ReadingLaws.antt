-- A reading fault that is the least of the roots is that of its datastore's call.
use Rattle.std.specs.Prelude.{◌≡◌, refl, ℕ, true, false, Option, None, Some, Result, Ok, Err, List, [], ◌∷◌, map, slice_get}
use Rattle.std.proofs.Common.{ap, sym, subst, ◌∙◌}
use Rattle.tall_outside.specs.Shelf.{Files}
use Rattle.tall_value.specs.declared.faults.CellFault.{CellFault}
use Rattle.tall_value.specs.declared.faults.FaultKind.{FaultKind}
use Rattle.tall_value.specs.declared.faults.ReadingKind.{ReadingKind}
use Rattle.tall_value.specs.declared.operators.Binary.{Binary}
use Rattle.tall_value.specs.declared.operators.Unary.{Unary}
use Rattle.tall_value.specs.Cells.{Seen}
use Rattle.tall_value.specs.CellOperators.{unary_cell, binary_cell}
use Rattle.tall_value.specs.Classes.{kind_of}
use Rattle.tall_value.specs.Elementwise.{unary_rows, binary_rows, scalar_rows}
use Rattle.tall_value.specs.GroupSummary.{summary}
use Rattle.tall_value.specs.Reductions.{reduced, or_fault}
use Rattle.tall_value.specs.Scans.{scanned}
use Rattle.tall_semantics.specs.Faults.{At, Cause, Fault, computed, reading, least_fault}
use Rattle.tall_semantics.specs.Operations.{Op, constant, unary, binary, filter, reduce, scan, head, tail, distinct, group, Part, Made, stored, operation}
use Rattle.tall_semantics.specs.Outcomes.{Outcome, rows, scalar, fault, fault_of, rows_in, cells_in, row_by_row, alone, elementwise_one, elementwise_two, part_of_group}
use Rattle.tall_semantics.specs.Talls.{Columns, Tall, outcomes, own_outcome}
use Rattle.tall_semantics.specs.Deferred.{Vertex, AreThere, IsMeaning, IsOrdered, fault_in, least_in, own_at}
use Rattle.tall_semantics.proofs.FaultLaws.{none_of_two}
use Rattle.tall_semantics.proofs.MeaningLaws.{made_fault, no_fault, stored_value}
use Rattle.tall_semantics.proofs.OriginLaws.{own_is, roots_least}
use Rattle.tall_store.specs.declared.faults.ReadingFault.{ReadingFault}
use Rattle.tall_stored.specs.StoredColumns.{AreStored, Store, stored_outcome}

-- ---- an operation has no reading fault of its own

abbrev IsReading : Cause → Type 0
IsReading (computed k) = ⊥
IsReading (reading k file) = Unit {0}

abbrev ReadingIn : Option Fault → Type 0
ReadingIn (Some x) = IsReading x.cause
ReadingIn None = Unit {0}

abbrev IsOfOperation : Option Fault → Type 0
IsOfOperation c = (x : Fault) → c ≡ Some x → IsReading x.cause → ⊥

none_is : IsOfOperation None
none_is x h r = absurd (cc)

rows_are : (at : At) (r : Result (List (ℕ × Seen)) (ℕ × CellFault)) → IsOfOperation (fault_of (row_by_row at r))
rows_are at (Ok rs) = none_is
rows_are at (Err e) = λ x h r. subst ReadingIn (sym h) r

alone_is : (at : At) (r : Result Seen FaultKind) → IsOfOperation (fault_of (alone at r))
alone_is at (Ok c) = none_is
alone_is at (Err k) = λ x h r. subst ReadingIn (sym h) r

part_is : (at : At) (part : Part) (r : Result (List (List (ℕ × Seen))) FaultKind) → IsOfOperation (fault_of (part_of_group at part r))
part_is at part (Ok cs) = none_is
part_is at part (Err k) = λ x h r. subst ReadingIn (sym h) r

one_is : (at : At) (op : Unary) (x : Outcome) → fault_of x ≡ None → IsOfOperation (fault_of (elementwise_one at op x))
one_is at op (rows rs) n = rows_are at (unary_rows op rs)
one_is at op (scalar c) n = alone_is at (or_fault (unary_cell op c))
one_is at op (fault f) n = absurd (cc)

two_is : (at : At) (op : Binary) (x y : Outcome) → fault_of x ≡ None → fault_of y ≡ None → IsOfOperation (fault_of (elementwise_two at op x y))
two_is at op (rows rs) (rows ss) m n = rows_are at (binary_rows op rs ss)
two_is at op (rows rs) (scalar d) m n = rows_are at (scalar_rows op false d rs)
two_is at op (scalar c) (rows ss) m n = rows_are at (scalar_rows op true c ss)
two_is at op (scalar c) (scalar d) m n = alone_is at (or_fault (binary_cell op c d))
two_is at op (fault f) y m n = absurd (cc)
two_is at op (rows rs) (fault f) m n = absurd (cc)
two_is at op (scalar c) (fault f) m n = absurd (cc)

own_computed : (at : At) (op : Op) (xs : List Tall) → least_fault (map fault_of (outcomes xs)) ≡ None → IsOfOperation (fault_of (own_outcome at op xs))
own_computed at (binary op) (x ∷ y ∷ []) n =
    let p = none_of_two (fault_of x.outcome) (least_fault (map fault_of (outcomes (y ∷ [])))) n in
    two_is at op x.outcome y.outcome p.0 (none_of_two (fault_of y.outcome) None p.1).0
own_computed at (unary op) (x ∷ []) n = one_is at op x.outcome (none_of_two (fault_of x.outcome) None n).0
own_computed at filter (x ∷ m ∷ []) n = none_is
own_computed at (reduce r) (x ∷ []) n = alone_is at (reduced r (kind_of x.shape.class) (cells_in x.outcome))
own_computed at (scan s) (x ∷ []) n = rows_are at (scanned s (kind_of x.shape.class) (rows_in x.outcome))
own_computed at (head k) (x ∷ []) n = none_is
own_computed at (tail k) (x ∷ []) n = none_is
own_computed at distinct (x ∷ []) n = none_is
own_computed at (group m part) (g ∷ []) n = part_is at part (summary m (kind_of g.shape.class) (rows_in g.outcome) (rows_in g.outcome))
own_computed at (group m part) (g ∷ v ∷ []) n = part_is at part (summary m (kind_of v.shape.class) (rows_in g.outcome) (rows_in v.outcome))
own_computed at (constant c) [] n = none_is
own_computed at op xs n = none_is

-- ---- a datastore's variable

-- the number and the line of the fault are those of the datastore's call
abbrev pub IsCalledIn : List Store → Fault → Type 0
IsCalledIn list x = (d : Store) × (slice_get list x.store ≡ Some d) × (x.number ≡ d.at.number) × (x.line ≡ d.at.line)

abbrev CalledIn : List Store → Option Fault → Type 0
CalledIn list (Some x) = IsCalledIn list x
CalledIn list None = Unit {0}

column_called : (list : List Store) (place : ℕ) (d : Store) (r : Result (List (ℕ × Seen)) ReadingFault) (x : Fault) → slice_get list place ≡ Some d → fault_of (stored_outcome place d.at r) ≡ Some x → IsCalledIn list x
column_called list place d (Ok rs) x at h = absurd (cc)
column_called list place d (Err g) x at h = subst (CalledIn list) h (d, at, refl, refl)

module _ (files : Files) (list : List Store) (columns : Columns) (vs : List Vertex) (f : ℕ → Tall) (meaning : IsMeaning columns vs f) (ordered : IsOrdered vs) (stored_are : AreStored files list vs columns) where
  own_called : (i : ℕ) (v : Vertex) (m : Made) (x : Fault) → slice_get vs i ≡ Some v → v.made ≡ m → least_in f v.args ≡ None → fault_in f i ≡ Some x → IsReading x.cause → IsCalledIn list x
  own_called i v (stored s a c) x e q none has r =
      let column = stored_are i v s a c e q in
      let value : fault_of (columns s a) ≡ Some x = ap (λ (t : Tall). fault_of t.outcome) (stored_value columns vs f meaning i v s a c e q) ∙ has in
      column_called list s column.found _ x column.there (ap fault_of (sym column.told) ∙ value)
  own_called i v (operation op) x e q none has r =
      absurd (own_computed v.at op (map f v.args) (no_fault columns vs f meaning v.args none) x (sym (made_fault columns vs f meaning i v op e q none) ∙ has) r)

  at_called : (i : ℕ) (o : Option Vertex) (x : Fault) → slice_get vs i ≡ o → own_at f o i ≡ Some x → IsReading x.cause → IsCalledIn list x
  at_called i None x e h r = absurd (cc)
  at_called i (Some v) x e h r = (let w = own_is (least_in f v.args) (fault_in f i) x h in own_called i v v.made x e refl w.0 w.1 r)

  pub reading_called : (roots : List ℕ) → AreThere vs roots → (x : Fault) (k : ReadingKind) (file : ℕ) → least_in f roots ≡ Some x → x.cause ≡ reading k file → IsCalledIn list x
  reading_called roots there x k file e c =
      let w = (roots_least columns vs f meaning ordered roots there).one x e in
      at_called w.0 (slice_get vs w.0) x refl w.2 (subst IsReading (sym c) tt)
