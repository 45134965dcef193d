-- Operations over tall values give no reading fault but one of an operand.
use Rattle.std.proofs.Common.{ℕ, List, [], ◌∷◌, Bool, true, false, inl, inr}
use Rattle.std.proofs.lemmas.Bool.{false≢true}
use Rattle.std.specs.Prelude.{if◌then◌else◌, map, Option, None, Some, Result, Ok, Err}
use Rattle.tall_value.specs.declared.faults.CellFault.{CellFault}
use Rattle.tall_value.specs.declared.faults.FaultKind.{FaultKind}
use Rattle.tall_value.specs.declared.operators.Binary.{Binary}
use Rattle.tall_value.specs.declared.operators.Unary.{Unary}
use Rattle.tall_value.specs.Cells.{Seen}
use Rattle.tall_semantics.specs.Faults.{At, Fault, earlier, least_fault, precedes}
use Rattle.tall_value.specs.declared.class.Class.{Class}
use Rattle.tall_semantics.specs.Operations.{Op, Part, reads}
use Rattle.tall_semantics.specs.Spaces.{Space}
use Rattle.tall_semantics.specs.Shapes.{tree_over}
use Rattle.tall_semantics.proofs.Basics.{either as one_or_other}
use Rattle.tall_semantics.specs.Operations as op
use Rattle.tall_semantics.specs.Outcomes.{Outcome, rows, scalar, fault, fault_of, row_by_row, alone, elementwise_one, elementwise_two, part_of_group}
use Rattle.tall_semantics.specs.Shapes as shapes
use Rattle.tall_semantics.specs.Talls.{Tall, shapes as all_shapes, tall, outcome, outcomes, own_outcome, unless, with_shape}
use Rattle.tall_local.specs.MemoryLaws.{OnGiven}
use Rattle.tall_script.specs.ScriptValues.{computed as made, refusal_of}
use Rattle.tall_script.specs.WellFormed.{FaultStands, OutcomeStands, ReadsStand, TallStands}

-- all of these stand
abbrev pub AllStand : ℕ → List Tall → Type 0
AllStand n [] = Unit {0}
AllStand n (x ∷ xs) = TallStands n x × AllStand n xs

abbrev MayStand : ℕ → Option Fault → Type 0
MayStand n None = Unit {0}
MayStand n (Some f) = FaultStands n f

of_outcome : (n : ℕ) (x : Outcome) → OutcomeStands n x → MayStand n (fault_of x)
of_outcome n (rows rs) h = tt
of_outcome n (scalar c) h = tt
of_outcome n (fault f) h = h

chosen : (n : ℕ) (b : Bool) (f g : Fault) → FaultStands n f → FaultStands n g → FaultStands n (if b then g else f)
chosen n true f g h k = k
chosen n false f g h k = h

earlier_stands : (n : ℕ) (f g : Option Fault) → MayStand n f → MayStand n g → MayStand n (earlier f g)
earlier_stands n None g h k = k
earlier_stands n (Some f) None h k = h
earlier_stands n (Some f) (Some g) h k = chosen n (precedes g f) f g h k

least_stands : (n : ℕ) (xs : List Tall) → AllStand n xs → MayStand n (least_fault (map fault_of (outcomes xs)))
least_stands n [] h = tt
least_stands n (x ∷ xs) h = earlier_stands n (fault_of x.outcome) _ (of_outcome n x.outcome h.0.0) (least_stands n xs h.1)

-- ---- an operation's own outcome

by_rows : (n : ℕ) (at : At) (r : Result (List (ℕ × Seen)) (ℕ × CellFault)) → OutcomeStands n (row_by_row at r)
by_rows n at (Ok rs) = tt
by_rows n at (Err e) = tt

by_itself : (n : ℕ) (at : At) (r : Result Seen FaultKind) → OutcomeStands n (alone at r)
by_itself n at (Ok c) = tt
by_itself n at (Err kind) = tt

of_groups : (n : ℕ) (at : At) (part : Part) (r : Result (List (List (ℕ × Seen))) FaultKind) → OutcomeStands n (part_of_group at part r)
of_groups n at part (Ok columns) = tt
of_groups n at part (Err kind) = tt

one_stands : (n : ℕ) (at : At) (o : Unary) (x : Outcome) → OutcomeStands n x → OutcomeStands n (elementwise_one at o x)
one_stands n at o (rows rs) h = by_rows n at _
one_stands n at o (scalar c) h = by_itself n at _
one_stands n at o (fault f) h = h

two_stand : (n : ℕ) (at : At) (o : Binary) (x y : Outcome) → OutcomeStands n x → OutcomeStands n y → OutcomeStands n (elementwise_two at o x y)
two_stand n at o (rows rs) (rows ss) h k = by_rows n at _
two_stand n at o (rows rs) (scalar d) h k = by_rows n at _
two_stand n at o (scalar c) (rows ss) h k = by_rows n at _
two_stand n at o (scalar c) (scalar d) h k = by_itself n at _
two_stand n at o (fault f) y h k = h
two_stand n at o (rows rs) (fault f) h k = k
two_stand n at o (scalar c) (fault f) h k = k

own_stands : (n : ℕ) (at : At) (o : Op) (xs : List Tall) → AllStand n xs → OutcomeStands n (own_outcome at o xs)
own_stands n at (op.constant c) [] h = tt
own_stands n at (op.constant c) (x ∷ xs) h = tt
own_stands n at (op.binary b) [] h = tt
own_stands n at (op.binary b) (x ∷ []) h = tt
own_stands n at (op.binary b) (x ∷ y ∷ []) h = two_stand n at b x.outcome y.outcome h.0.0 h.1.0.0
own_stands n at (op.binary b) (x ∷ y ∷ z ∷ xs) h = tt
own_stands n at (op.unary u) [] h = tt
own_stands n at (op.unary u) (x ∷ []) h = one_stands n at u x.outcome h.0.0
own_stands n at (op.unary u) (x ∷ y ∷ xs) h = tt
own_stands n at op.filter [] h = tt
own_stands n at op.filter (x ∷ []) h = tt
own_stands n at op.filter (x ∷ m ∷ []) h = tt
own_stands n at op.filter (x ∷ m ∷ z ∷ xs) h = tt
own_stands n at (op.reduce r) [] h = tt
own_stands n at (op.reduce r) (x ∷ []) h = by_itself n at _
own_stands n at (op.reduce r) (x ∷ y ∷ xs) h = tt
own_stands n at (op.scan s) [] h = tt
own_stands n at (op.scan s) (x ∷ []) h = by_rows n at _
own_stands n at (op.scan s) (x ∷ y ∷ xs) h = tt
own_stands n at (op.head k) [] h = tt
own_stands n at (op.head k) (x ∷ []) h = tt
own_stands n at (op.head k) (x ∷ y ∷ xs) h = tt
own_stands n at (op.tail k) [] h = tt
own_stands n at (op.tail k) (x ∷ []) h = tt
own_stands n at (op.tail k) (x ∷ y ∷ xs) h = tt
own_stands n at op.distinct [] h = tt
own_stands n at op.distinct (x ∷ []) h = tt
own_stands n at op.distinct (x ∷ y ∷ xs) h = tt
own_stands n at (op.group m part) [] h = tt
own_stands n at (op.group m part) (g ∷ []) h = of_groups n at part _
own_stands n at (op.group m part) (g ∷ v ∷ []) h = of_groups n at part _
own_stands n at (op.group m part) (g ∷ v ∷ z ∷ xs) h = tt

unless_stands : (n : ℕ) (f : Option Fault) (x : Outcome) → MayStand n f → OutcomeStands n x → OutcomeStands n (unless f x)
unless_stands n None x h k = k
unless_stands n (Some f) x h k = h

-- ---- what is read

tree_stands : (n : ℕ) (o : Op) (xs : List Tall) → AllStand n xs → ReadsStand n (tree_over o (all_shapes xs))
tree_stands n o [] h = λ s e. absurd (false≢true e)
tree_stands n o (x ∷ []) h = h.0.1
tree_stands n o (x ∷ y ∷ zs) h = λ s e. elim (one_or_other (reads s x.shape.tree) (reads s y.shape.tree) e) [ inl i ↦ h.0.1 s i | inr i ↦ h.1.0.1 s i ]

shaped : (n : ℕ) (o : Op) (xs : List Tall) (x : Outcome) (p : Result (Class × Space) shapes.ShapeRefusal) → OutcomeStands n x → AllStand n xs
    → OnGiven (TallStands n) (elim (with_shape x (shapes.shaped o (all_shapes xs) p)) [ Ok y ↦ Ok y | Err e ↦ Err (refusal_of e) ])
shaped n o xs x (Ok p) h k = (h, tree_stands n o xs k)
shaped n o xs x (Err e) h k = tt

pub made_stands : (n : ℕ) (at : At) (o : Op) (xs : List Tall) → AllStand n xs → OnGiven (TallStands n) (made at o xs)
unfolding tall
made_stands n at o xs h =
    shaped n o xs (outcome at o xs) (shapes.place_of o (all_shapes xs))
    (unless_stands n (least_fault (map fault_of (outcomes xs))) (own_outcome at o xs) (least_stands n xs h) (own_stands n at o xs h)) h
