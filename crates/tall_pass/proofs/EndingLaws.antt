-- What the sum of a node comes to: it fits the node, and shows its value.
use Rattle.std.specs.Prelude.{◌≡◌, refl, ℕ, ◌<◌, ◌≤◌, ◌^◌, Bool, true, false, ◌&&◌, not, IfOk, IfSome, Option, None, Some, Result, Ok, Err, List, [], ◌∷◌, length, map, slice_get}
use Rattle.std.proofs.Common.{ap, sym, subst, ◌∙◌, arith, inl, inr}
use Rattle.tall_value.specs.declared.class.Class.{Class}
use Rattle.tall_value.specs.declared.faults.ClassFault.{ClassFault}
use Rattle.tall_value.specs.declared.faults.FaultKind.{FaultKind}
use Rattle.tall_value.specs.declared.faults.Fault as value
use Rattle.tall_value.specs.Cells.{Seen}
use Rattle.tall_value.specs.Classes.{kind_of}
use Rattle.tall_value.specs.Columns.{cells}
use Rattle.tall_value.specs.Reductions.{reduced}
use Rattle.tall_value.specs.GroupSummary.{summary}
use Rattle.tall_dense.specs.Columns.{SeenColumn}
use Rattle.tall_semantics.specs.Operations.{Op, Part, group, operation}
use Rattle.tall_semantics.specs.Faults.{At, Fault, fault_at, fault_seen}
use Rattle.tall_semantics.specs.Outcomes.{Outcome, rows, scalar, fault, alone, part_of_group}
use Rattle.tall_semantics.specs.Spaces.{Space, has_rows, is_single, store_of}
use Rattle.tall_semantics.specs.Spaces as spaces
use Rattle.tall_semantics.specs.Shapes.{Shape, ShapeRefusal, allowed, place_of, shape}
use Rattle.tall_semantics.specs.ShapesInOrder.{IsMade, made_shape, shape_at}
use Rattle.tall_semantics.specs.Talls.{Tall}
use Rattle.tall_semantics.specs.Deferred.{Vertex}
use Rattle.tall_semantics.specs.Numbered.{number_at}
use Rattle.tall_semantics.proofs.Basics.{inside}
use Rattle.tall_semantics.proofs.ShapeLaws.{column_is, groups_of, place_ok, placed_is, refused, shaped_is, space_ok}
use Rattle.tall_semantics.proofs.ShapeLaws as shapes
use Rattle.tall_semantics.proofs.ShapesInOrderLaws.{shapes_mean}
use Rattle.tall_value.specs.FunctionClasses.{reduction_class}
use Rattle.tall_blocks.specs.Carries.{Rows, flat}
use Rattle.tall_graph.specs.Vertices.{made_of, part_of}
use Rattle.tall_graph.specs.declared.operations.NodeOp.{NodeOp}
use Rattle.tall_graph.specs.declared.operations.NodeOp.TheVariants as node
use Rattle.tall_part.specs.Operations.{IsColumn, column_count, number_of, op_of, outcome_of_rows}
use Rattle.tall_part.specs.Parts.{IsPart, IsPartOf}
use Rattle.tall_part.specs.Results.{AreHigh, AreOutcomes, HaveClasses, IsAccepted, IsFaultOf, IsHigh}
use Rattle.tall_part.specs.Results as parts
use Rattle.tall_part.specs.declared.next_carry.NextCarry.{NextCarry}
use Rattle.tall_part.specs.declared.operation.EndOperation.{EndOperation}
use Rattle.tall_part.specs.declared.operation.EndOperation.TheVariants as end
use Rattle.tall_part.specs.declared.part.EndPart.{EndPart}
use Rattle.tall_part.specs.declared.results.EndColumn.{EndColumn}
use Rattle.tall_part.specs.declared.results.EndFault.{EndFault}
use Rattle.tall_part.specs.declared.results.EndFault.TheVariants as fault_of_end
use Rattle.tall_part.proofs.AcceptedLaws.{one_taken, two_taken}
use Rattle.tall_part.proofs.OperationLaws.{a_column, column_again}
use Rattle.tall_piece.specs.declared.parts.Sum.{Sum}
use Rattle.tall_piece.specs.declared.parts.Sum.TheVariants as sum
use Rattle.tall_piece.specs.declared.wanted.Wanted.{Wanted}
use Rattle.tall_piece.specs.declared.wanted.Way.{Way}
use Rattle.tall_piece.specs.declared.wanted.Way.TheVariants as way
use Rattle.tall_piece.specs.Carried.{AreAllCarries}
use Rattle.tall_piece.specs.Passes.{IsEndWay}
use Rattle.tall_piece.specs.Wants.{IsColumnPart, IsEndPart, IsNextOf, IsOfWay, IsSumOfBlocks, SomeColumn, SomeEnd, SomeNext, class_at}
use Rattle.tall_pass.specs.declared.endings.Ending.{Ending}
use Rattle.tall_pass.specs.declared.endings.Ending.TheVariants as ending
use Rattle.tall_pass.specs.PassPlans.{IsBelowAt}
use Rattle.tall_pass.specs.Fitting.{AreNumbers, IsFit, IsHeight, has_numbers}
use Rattle.tall_pass.specs.Told.{AreNumbersOf, IsOutcome, Shows}
use Rattle.tall_pass.specs.Finished.{IsCarriesWay, IsOfStore, IsResultWay}
use Rattle.tall_pass.specs.Endings.{AreTold, FitsBelow, FitsEnding, IsEndingOf, IsSomeSum, ShowsEnding, TellsEnding, found_at_end}

-- ---- which of an operation's columns a node is

column_is_of : (e : EndOperation) (n : ℕ) (op : NodeOp) → made_of op ≡ operation (op_of e n) → (made_of op ≡ operation (op_of e (number_of op))) × IsColumn e (number_of op)
column_is_of (end.Group m) n (node.Group k j) h = (column_again k j ∙ (let e : k ≡ m = cc in ap (λ x. operation (group x (part_of (number_of (node.Group k j))))) e), a_column j)
column_is_of (end.Group m) n op h = absurd (cc)
column_is_of (end.Reduce r) n (node.Group k j) h = absurd (cc)
column_is_of (end.Reduce r) n op h = (h, refl)
column_is_of (end.Head d) n (node.Group k j) h = absurd (cc)
column_is_of (end.Head d) n op h = (h, refl)
column_is_of (end.Tail d) n (node.Group k j) h = absurd (cc)
column_is_of (end.Tail d) n op h = (h, refl)
column_is_of end.Distinct n (node.Group k j) h = absurd (cc)
column_is_of end.Distinct n op h = (h, refl)

accepted : (vs : List Vertex) → IsMade vs → (i : ℕ) (e : EndOperation) (a b : ℕ) (w : IsOfWay vs i (way.End e a b)) (n : ℕ) → w.0.made ≡ operation (op_of e n) → IsAccepted e n (class_at vs a) (class_at vs b) (class_at vs i)
accepted vs made i e a b w n m = elim w.4 [
  | inl one ↦ subst (λ k. IsAccepted e n (class_at vs a) (class_at vs k) (class_at vs i)) (sym one.1) (one_taken vs made i a n w.0 e w.2 m one.0)
  | inr two ↦ two_taken vs made i a b n w.0 e w.2 m two.1
]

-- ---- the space of an end

abbrev IsEndSpace : EndOperation → Space → Type 0
IsEndSpace (end.Reduce r) s = is_single s ≡ true
IsEndSpace e s = (is_single s ≡ false) × (has_rows s ≡ false)

space_in : (c : Class) (s : Space) (p : Class × Space) → place_ok (c, s) ≡ place_ok p → s ≡ p.1
space_in c s p h = ap (λ (r : Result (Class × Space) ShapeRefusal). elim r [ Ok q ↦ q.1 | Err e ↦ s ]) h

column_space : (s t : Space) → s ≡ t → is_single s ≡ false → has_rows s ≡ false → (is_single t ≡ false) × (has_rows t ≡ false)
column_space s t e a b = (ap is_single (sym e) ∙ a, ap has_rows (sym e) ∙ b)

one_space : (e : EndOperation) (n : ℕ) (x : Shape) (p : Class × Space) → place_of (op_of e n) (x ∷ []) ≡ place_ok p → IsEndSpace e p.1
one_space (end.Reduce r) n x p h = ap is_single (sym (shapes.inside spaces.single p.1 (placed_is (allowed (reduction_class r x.class)) (space_ok spaces.single) p h)))
one_space (end.Head k) n x p h = column_space (spaces.first k x.space) p.1 (space_in x.class (spaces.first k x.space) p (column_is x (Ok (x.class, spaces.first k x.space)) p h)) refl refl
one_space (end.Tail k) n x p h = column_space (spaces.last k x.space) p.1 (space_in x.class (spaces.last k x.space) p (column_is x (Ok (x.class, spaces.last k x.space)) p h)) refl refl
one_space end.Distinct n x p h = column_space (spaces.distinct x.tree) p.1 (space_in x.class (spaces.distinct x.tree) p (column_is x (Ok (x.class, spaces.distinct x.tree)) p h)) refl refl
one_space (end.Group m) n x p h = (let g = groups_of m (part_of n) x [] p h in column_space (spaces.groups g.0 x.tree g.1) p.1 g.2 refl refl)

two_space : (e : EndOperation) (n : ℕ) (x y : Shape) (p : Class × Space) → place_of (op_of e n) (x ∷ y ∷ []) ≡ place_ok p → IsEndSpace e p.1
two_space (end.Group m) n x y p h = (let g = groups_of m (part_of n) x (y ∷ []) p h in column_space (spaces.groups g.0 x.tree g.1) p.1 g.2 refl refl)
two_space (end.Reduce r) n x y p h = absurd (refused p h)
two_space (end.Head k) n x y p h = absurd (refused p h)
two_space (end.Tail k) n x y p h = absurd (refused p h)
two_space end.Distinct n x y p h = absurd (refused p h)

placed_space : (vs : List Vertex) → IsMade vs → (i : ℕ) (v : Vertex) (op : Op) (args : List ℕ) → slice_get vs i ≡ Some v → v.made ≡ operation op → v.args ≡ args
    → (p : Class × Space) × (place_of op (map (shape_at vs) args) ≡ place_ok p) × (p.1 ≡ (shape_at vs i).space)
placed_space vs made i v op args e m a =
    let shaped : shape op (map (shape_at vs) args) ≡ Ok (shape_at vs i) =
    subst (λ (l : List ℕ). shape op (map (shape_at vs) l) ≡ Ok (shape_at vs i)) a (subst (λ k. made_shape k (map (shape_at vs) v.args) ≡ Ok (shape_at vs i)) m (shapes_mean vs made i v e)) in
    let w = shaped_is op (map (shape_at vs) args) (place_of op (map (shape_at vs) args)) (shape_at vs i) shaped in
    (w.0, w.1, ap (λ (t : Shape). t.space) w.2)

end_space : (vs : List Vertex) → IsMade vs → (i : ℕ) (e : EndOperation) (a b : ℕ) → IsOfWay vs i (way.End e a b) → IsEndSpace e (shape_at vs i).space
end_space vs made i e a b w = elim w.4 [
  | inl one ↦ (let p = placed_space vs made i w.0 (op_of e w.1) (a ∷ []) w.2 w.3 one.0 in subst (IsEndSpace e) p.2 (one_space e w.1 (shape_at vs a) p.0 p.1))
  | inr two ↦ (let p = placed_space vs made i w.0 (op_of e w.1) (a ∷ b ∷ []) w.2 w.3 two.1 in subst (IsEndSpace e) p.2 (two_space e w.1 (shape_at vs a) (shape_at vs b) p.0 p.1))
]

-- ---- heights and numbers of rows

single_fit : (b r : Bool) (n k : ℕ) → b ≡ true → k ≡ 1 → n ≡ 0 → IsHeight b k × AreNumbers (not b && not r) n k
single_fit true r n k e g h = (g, h)
single_fit false r n k e g h = absurd (cc)

column_fit : (b r : Bool) (most n k : ℕ) → b ≡ false → r ≡ false → n ≡ k → k ≤ most → most < 2 ^ 40 → IsHeight b k × AreNumbers (not b && not r) n k
column_fit false false most n k e f g l m = (omega (arith, l, m), g)
column_fit false true most n k e f g l m = absurd (cc)
column_fit true r most n k e f g l m = absurd (cc)

stored_fit : (b r : Bool) (most n k : ℕ) → b ≡ false → r ≡ true → n ≡ 0 → k ≤ most → most < 2 ^ 40 → IsHeight b k × AreNumbers (not b && not r) n k
stored_fit false true most n k e f g l m = (omega (arith, l, m), g)
stored_fit false false most n k e f g l m = absurd (cc)
stored_fit true r most n k e f g l m = absurd (cc)

end_fit : (e : EndOperation) (s : Space) (most n k : ℕ) → IsEndSpace e s → IsHigh e most k n → most < 2 ^ 40 → IsHeight (is_single s) k × AreNumbers (has_numbers s) n k
end_fit (end.Reduce r) s most n k is high m = single_fit (is_single s) (has_rows s) n k is high.0 high.1
end_fit (end.Head d) s most n k is high m = column_fit (is_single s) (has_rows s) most n k is.0 is.1 high.0 high.1 m
end_fit (end.Tail d) s most n k is high m = column_fit (is_single s) (has_rows s) most n k is.0 is.1 high.0 high.1 m
end_fit end.Distinct s most n k is high m = column_fit (is_single s) (has_rows s) most n k is.0 is.1 high.0 high.1 m
end_fit (end.Group d) s most n k is high m = column_fit (is_single s) (has_rows s) most n k is.0 is.1 high.0 high.1 m

-- a space with a datastore's rows
stored_space : (s : Space) (k : ℕ) → store_of s ≡ Some k → (is_single s ≡ false) × (has_rows s ≡ true)
stored_space (spaces.rows_of d) k h = (refl, refl)
stored_space (spaces.filtered s mask) k h = (refl, (stored_space s k h).1)
stored_space spaces.single k h = absurd (cc)
stored_space (spaces.first d s) k h = absurd (cc)
stored_space (spaces.last d s) k h = absurd (cc)
stored_space (spaces.distinct x) k h = absurd (cc)
stored_space (spaces.groups m key d) k h = absurd (cc)

no_numbers : (b r : Bool) → b ≡ false → r ≡ true → (not b && not r) ≡ false
no_numbers false true e f = refl
no_numbers false false e f = absurd (cc)
no_numbers true r e f = absurd (cc)

-- ---- what is shown

-- rows have numbers, and a scalar has none
abbrev Agrees : Bool → Outcome → Type 0
Agrees b (rows rs) = b ≡ true
Agrees b (scalar c) = b ≡ false
Agrees b (fault f) = Unit {0}

not_numbered : (b r : Bool) → b ≡ true → (not b && not r) ≡ false
not_numbered true r e = refl
not_numbered false r e = absurd (cc)

is_numbered : (b r : Bool) → b ≡ false → r ≡ false → (not b && not r) ≡ true
is_numbered false false e f = refl
is_numbered false true e f = absurd (cc)
is_numbered true r e f = absurd (cc)

alone_agrees : (at : At) (b : Bool) (r : Result Seen FaultKind) → b ≡ false → Agrees b (alone at r)
alone_agrees at b (Ok c) e = e
alone_agrees at b (Err k) e = tt

group_agrees : (at : At) (part : Part) (b : Bool) (r : Result (List (List (ℕ × Seen))) FaultKind) → b ≡ true → Agrees b (part_of_group at part r)
group_agrees at part b (Ok columns) e = e
group_agrees at part b (Err k) e = tt

end_agrees : (e : EndOperation) (s : Space) (at : At) (n : ℕ) (a b : Class) (rs ss : Rows) → IsEndSpace e s → Agrees (has_numbers s) (outcome_of_rows at e n a b rs ss)
end_agrees (end.Reduce r) s at n a b rs ss is = alone_agrees at (has_numbers s) (reduced r (kind_of a) (cells rs)) (not_numbered (is_single s) (has_rows s) is)
end_agrees (end.Head k) s at n a b rs ss is = is_numbered (is_single s) (has_rows s) is.0 is.1
end_agrees (end.Tail k) s at n a b rs ss is = is_numbered (is_single s) (has_rows s) is.0 is.1
end_agrees end.Distinct s at n a b rs ss is = is_numbered (is_single s) (has_rows s) is.0 is.1
end_agrees (end.Group m) s at n a b rs ss is = group_agrees at (part_of n) (has_numbers s) (summary m (kind_of b) rs ss) (is_numbered (is_single s) (has_rows s) is.0 is.1)

shown : (b : Bool) (o : Outcome) (column : SeenColumn) (ns : List ℕ) → Agrees b o → parts.IsOutcome o column ns → IsOutcome o column.cells × AreNumbersOf b o ns
shown b (rows rs) column ns g h = (h.0, subst (λ t. AreNumbersOf t (rows rs) ns) (sym g) h.1)
shown b (scalar c) column ns g h = (h.0, subst (λ t. AreNumbersOf t (scalar c) ns) (sym g) h.1)
shown b (fault f) column ns g h = absurd h

-- ---- the fault of an end

alone_number : (at : At) (r : Result Seen FaultKind) (y : Fault) → alone at r ≡ fault y → y.number ≡ at.number
alone_number at (Ok c) y h = absurd (cc)
alone_number at (Err k) y h = (let e : fault_at at None k ≡ y = cc in ap (λ (x : Fault). x.number) (sym e))

group_number : (at : At) (part : Part) (r : Result (List (List (ℕ × Seen))) FaultKind) (y : Fault) → part_of_group at part r ≡ fault y → y.number ≡ at.number
group_number at part (Ok columns) y h = absurd (cc)
group_number at part (Err k) y h = (let e : fault_at at None k ≡ y = cc in ap (λ (x : Fault). x.number) (sym e))

no_fault : (rs : Rows) (y : Fault) → rows rs ≡ fault y → ⊥
no_fault rs y h = absurd (cc)

end_number : (e : EndOperation) (at : At) (n : ℕ) (a b : Class) (rs ss : Rows) (y : Fault) → outcome_of_rows at e n a b rs ss ≡ fault y → y.number ≡ at.number
end_number (end.Reduce r) at n a b rs ss y h = alone_number at (reduced r (kind_of a) (cells rs)) y h
end_number (end.Head k) at n a b rs ss y h = absurd (no_fault _ y h)
end_number (end.Tail k) at n a b rs ss y h = absurd (no_fault _ y h)
end_number end.Distinct at n a b rs ss y h = absurd (no_fault _ y h)
end_number (end.Group m) at n a b rs ss y h = group_number at (part_of n) (summary m (kind_of b) rs ss) y h

-- ---- an end's column

abbrev ok_class : Class → Result Class ClassFault
ok_class c = Ok c

class_in : (a b : Class) → ok_class a ≡ ok_class b → a ≡ b
class_in a b h = ap (λ (r : Result Class ClassFault). elim r [ Ok c ↦ c | Err e ↦ a ]) h

of_vertex : (vs : List Vertex) (i : ℕ) (v : Vertex) (P : Vertex → Type 0) → slice_get vs i ≡ Some v → IfSome (slice_get vs i) P → P v
of_vertex vs i v P e h = subst (λ o. IfSome o P) e h

pub some_part : (vs : List Vertex) (y : Way) (part : EndPart) (most : ℕ) → SomeEnd vs most y part → (op : EndOperation) × (a : Class) × (b : Class) × (n : ℕ) × IsPart op a b n part
some_part vs (way.End e a b) part most some = (e, class_at vs a, class_at vs b, most, some)
some_part vs (way.Carries s a) part most some = absurd some
some_part vs way.Rows part most some = absurd some

pub column_there : (vs : List Vertex) → IsMade vs → (i : ℕ) (y : Way) (part : EndPart) (op : NodeOp) (columns : List EndColumn) (most : ℕ) → IsOfWay vs i y → SomeEnd vs most y part → IfSome (slice_get vs i) (λ v. made_of op ≡ v.made)
    → ((e : EndOperation) (a b : Class) (n : ℕ) → IsPart e a b n part → HaveClasses e a b columns) → (c : EndColumn) × (slice_get columns (number_of op) ≡ Some c)
column_there vs made i (way.End e a b) part op columns most w some is classes =
    let m : made_of op ≡ w.0.made = of_vertex vs i w.0 (λ v. made_of op ≡ v.made) w.2 is in
    let q = column_is_of e w.1 op (m ∙ w.3) in
    let acc : IsAccepted e (number_of op) (class_at vs a) (class_at vs b) (class_at vs i) = accepted vs made i e a b w (number_of op) (sym m ∙ q.0) in
    let k = classes e (class_at vs a) (class_at vs b) most some (number_of op) (acc.column q.1) in
    (k.0, k.1)
column_there vs made i (way.Carries s a) part op columns most w some is classes = absurd some
column_there vs made i way.Rows part op columns most w some is classes = absurd some

pub found_fits : (vs : List Vertex) → IsMade vs → (i : ℕ) (y : Way) (part : EndPart) (op : NodeOp) (columns : List EndColumn) (c : EndColumn) (most : ℕ) → IsOfWay vs i y → SomeEnd vs most y part → most < 2 ^ 40
    → IfSome (slice_get vs i) (λ v. made_of op ≡ v.made) → ((e : EndOperation) (a b : Class) (n : ℕ) → IsPart e a b n part → HaveClasses e a b columns) → ((e : EndOperation) (a b : Class) (n : ℕ) → IsPart e a b n part → AreHigh e n columns)
    → slice_get columns (number_of op) ≡ Some c → IsResultWay y × (IsOfStore vs i y → IsFit (shape_at vs i) (found_at_end c))
found_fits vs made i (way.End e a b) part op columns c most w some small is classes heights got =
    let m : made_of op ≡ w.0.made = of_vertex vs i w.0 (λ v. made_of op ≡ v.made) w.2 is in
    let q = column_is_of e w.1 op (m ∙ w.3) in
    let acc : IsAccepted e (number_of op) (class_at vs a) (class_at vs b) (class_at vs i) = accepted vs made i e a b w (number_of op) (sym m ∙ q.0) in
    let lt : number_of op < column_count e = acc.column q.1 in
    let k = classes e (class_at vs a) (class_at vs b) most some (number_of op) lt in
    let same : k.0 ≡ c = inside k.0 c (sym k.1 ∙ got) in
    let f = end_fit e (shape_at vs i).space most (length c.rows.items) (length c.column.cells) (end_space vs made i e a b w) (heights e (class_at vs a) (class_at vs b) most some (number_of op) c lt got) small in
    (tt, λ _. record { class = ap (λ (x : EndColumn). x.column.class) (sym same) ∙ class_in k.0.column.class (class_at vs i) (sym k.2 ∙ acc.class_is); height = f.0; numbers = f.1 })
found_fits vs made i (way.Carries s a) part op columns c most w some small is classes heights got = absurd some
found_fits vs made i way.Rows part op columns c most w some small is classes heights got = absurd some

abbrev at_of : ℕ → ℕ → At
at_of n l = record { number = n; line = l }

same_at : (number line : ℕ) (at : At) → number ≡ at.number → line ≡ at.line → at_of number line ≡ at
same_at number line at e f = ap (λ n. at_of n line) e ∙ ap (at_of at.number) f

pub found_shows : (vs : List Vertex) → IsMade vs → (i : ℕ) (y : Way) (part : EndPart) (op : NodeOp) (number line : ℕ) (columns : List EndColumn) (c : EndColumn) → IsOfWay vs i y
    → IfSome (slice_get vs i) (λ v. made_of op ≡ v.made) → IfSome (slice_get vs i) (λ v. number ≡ v.at.number) → IfSome (slice_get vs i) (λ v. line ≡ v.at.line)
    → ((e : EndOperation) (a b : Class) (rs ss : Rows) → IsPartOf e a b rs ss part → AreOutcomes (at_of number line) e a b rs ss columns) → slice_get columns (number_of op) ≡ Some c
    → (x : Tall) (given : ℕ → Option Seen) (blocks : ℕ → List Rows) → AreTold vs given blocks i y x → IsEndPart vs (λ j. flat (blocks j)) y part → Shows x (found_at_end c)
found_shows vs made i (way.End e a b) part op number line columns c w is num lin outcomes got x given blocks told of =
    let m : made_of op ≡ w.0.made = of_vertex vs i w.0 (λ v. made_of op ≡ v.made) w.2 is in
    let q = column_is_of e w.1 op (m ∙ w.3) in
    let acc : IsAccepted e (number_of op) (class_at vs a) (class_at vs b) (class_at vs i) = accepted vs made i e a b w (number_of op) (sym m ∙ q.0) in
    let at : at_of number line ≡ w.0.at = same_at number line w.0.at (of_vertex vs i w.0 (λ v. number ≡ v.at.number) w.2 num) (of_vertex vs i w.0 (λ v. line ≡ v.at.line) w.2 lin) in
    let here = outcomes e (class_at vs a) (class_at vs b) (flat (blocks a)) (flat (blocks b)) of (number_of op) c (acc.column q.1) got in
    let o : Outcome = outcome_of_rows w.0.at e (number_of op) (class_at vs a) (class_at vs b) (flat (blocks a)) (flat (blocks b)) in
    let there : parts.IsOutcome o c.column c.rows.items =
    subst (λ (t : At). parts.IsOutcome (outcome_of_rows t e (number_of op) (class_at vs a) (class_at vs b) (flat (blocks a)) (flat (blocks b))) c.column c.rows.items) at here in
    let value : x.outcome ≡ o = told.1 (w.0, number_of op, w.2, sym m ∙ q.0, w.4, w.5, w.6, w.7, w.8) in
    let s = shown (has_numbers (shape_at vs i).space) o c.column c.rows.items (end_agrees e (shape_at vs i).space w.0.at (number_of op) (class_at vs a) (class_at vs b) (flat (blocks a)) (flat (blocks b)) (end_space vs made i e a b w)) there in
    record {
      cells = subst (λ u. IsOutcome u c.column.cells) (sym value) s.0;
      numbers = subst (λ (t : Shape). AreNumbersOf (has_numbers t.space) x.outcome c.rows.items) (sym told.0) (subst (λ u. AreNumbersOf (has_numbers (shape_at vs i).space) u c.rows.items) (sym value) s.1);
    }
found_shows vs made i (way.Carries s a) part op number line columns c w is num lin outcomes got x given blocks told of = absurd of
found_shows vs made i way.Rows part op number line columns c w is num lin outcomes got x given blocks told of = absurd of

-- ---- an end's fault

data_fits : (vs : List Vertex) (i : ℕ) (y : Way) (part : EndPart) (number line most : ℕ) (f : value.Fault) → IsOfWay vs i y → SomeEnd vs most y part → IfSome (slice_get vs i) (λ v. number ≡ v.at.number)
    → ((e : EndOperation) (a b : Class) (rs ss : Rows) → IsPartOf e a b rs ss part → IsFaultOf (at_of number line) e a b rs ss (fault_of_end.Data f)) → IsEndWay y × (f.number ≡ number_at (slice_get vs i))
data_fits vs i (way.End e a b) part number line most f w some num faults =
    let n : number ≡ w.0.at.number = of_vertex vs i w.0 (λ v. number ≡ v.at.number) w.2 num in
    (tt, end_number e (at_of number line) 0 (class_at vs a) (class_at vs b) some.0 some.1 (fault_seen f) (faults e (class_at vs a) (class_at vs b) some.0 some.1 some.2 0) ∙ (n ∙ ap number_at (sym w.2)))
data_fits vs i (way.Carries s a) part number line most f w some num faults = absurd some
data_fits vs i way.Rows part number line most f w some num faults = absurd some

pub fault_fits : (vs : List Vertex) (w : Wanted) (part : EndPart) (number line most : ℕ) (e : EndFault) (g : Ending) → IsOfWay vs w.node w.way → SomeEnd vs most w.way part → IfSome (slice_get vs w.node) (λ v. number ≡ v.at.number)
    → ((op : EndOperation) (a b : Class) (rs ss : Rows) → IsPartOf op a b rs ss part → IsFaultOf (at_of number line) op a b rs ss e) → IsEndingOf e g → FitsEnding vs w g
fault_fits vs w part number line most (fault_of_end.Data f) g is some num faults of = subst (FitsEnding vs w) (sym of) (data_fits vs w.node w.way part number line most f is some num faults)
fault_fits vs w part number line most fault_of_end.Memory g is some num faults of = absurd of

data_shows : (vs : List Vertex) (i : ℕ) (y : Way) (part : EndPart) (number line : ℕ) (f : value.Fault) → IsOfWay vs i y → IfSome (slice_get vs i) (λ v. number ≡ v.at.number) → IfSome (slice_get vs i) (λ v. line ≡ v.at.line)
    → ((e : EndOperation) (a b : Class) (rs ss : Rows) → IsPartOf e a b rs ss part → IsFaultOf (at_of number line) e a b rs ss (fault_of_end.Data f))
    → (x : Tall) (given : ℕ → Option Seen) (blocks : ℕ → List Rows) → AreTold vs given blocks i y x → IsEndPart vs (λ j. flat (blocks j)) y part → x.outcome ≡ fault (fault_seen f)
data_shows vs i (way.End e a b) part number line f w num lin faults x given blocks told of =
    let at : at_of number line ≡ w.0.at = same_at number line w.0.at (of_vertex vs i w.0 (λ v. number ≡ v.at.number) w.2 num) (of_vertex vs i w.0 (λ v. line ≡ v.at.line) w.2 lin) in
    told.1 w
    ∙ (ap (λ (t : At). outcome_of_rows t e w.1 (class_at vs a) (class_at vs b) (flat (blocks a)) (flat (blocks b))) (sym at) ∙ faults e (class_at vs a) (class_at vs b) (flat (blocks a)) (flat (blocks b)) of w.1)
data_shows vs i (way.Carries s a) part number line f w num lin faults x given blocks told of = absurd of
data_shows vs i way.Rows part number line f w num lin faults x given blocks told of = absurd of

pub fault_shows : (vs : List Vertex) (i : ℕ) (y : Way) (part : EndPart) (number line : ℕ) (e : EndFault) (g : Ending) → IsOfWay vs i y → IfSome (slice_get vs i) (λ v. number ≡ v.at.number) → IfSome (slice_get vs i) (λ v. line ≡ v.at.line)
    → ((op : EndOperation) (a b : Class) (rs ss : Rows) → IsPartOf op a b rs ss part → IsFaultOf (at_of number line) op a b rs ss e) → IsEndingOf e g
    → (x : Tall) (given : ℕ → Option Seen) (blocks : ℕ → List Rows) → AreTold vs given blocks i y x → IsEndPart vs (λ j. flat (blocks j)) y part → ShowsEnding x given g
fault_shows vs i y part number line (fault_of_end.Data f) g is num lin faults of x given blocks told rows_of = subst (ShowsEnding x given) (sym of) (data_shows vs i y part number line f is num lin faults x given blocks told rows_of)
fault_shows vs i y part number line fault_of_end.Memory g is num lin faults of x given blocks told rows_of = absurd of

-- ---- carries

pub carries_fit : (vs : List Vertex) (i : ℕ) (y : Way) (most : ℕ) (next : NextCarry) (column : SeenColumn) → SomeNext vs most i y next column → IsCarriesWay y × (column.class ≡ class_at vs i)
carries_fit vs i (way.End e a b) most next column some = absurd some
carries_fit vs i (way.Carries s a) most next column some = (tt, some.3)
carries_fit vs i way.Rows most next column some = absurd some

pub carries_show : (vs : List Vertex) (i : ℕ) (y : Way) (next : NextCarry) (column : SeenColumn) (x : Tall) (given : ℕ → Option Seen) (blocks : ℕ → List Rows) → AreTold vs given blocks i y x → IsNextOf vs given blocks y next column → AreAllCarries given column.cells
carries_show vs i (way.End e a b) next column x given blocks told of = absurd of
carries_show vs i (way.Carries s a) next column x given blocks told of = told column.cells of.1
carries_show vs i way.Rows next column x given blocks told of = absurd of

-- ---- the rows themselves

pub rows_fit : (vs : List Vertex) (i : ℕ) (y : Way) (most : ℕ) (column : SeenColumn) (ns : List ℕ) → SomeColumn vs most i y column → most < 2 ^ 40 → ns ≡ [] → IsResultWay y × (IsOfStore vs i y → IsFit (shape_at vs i) (record { column = column; rows = ns }))
rows_fit vs i (way.End e a b) most column ns some small none = absurd some
rows_fit vs i (way.Carries s a) most column ns some small none = absurd some
rows_fit vs i way.Rows most column ns some small none = (
  tt,
  λ of.
      let t = stored_space (shape_at vs i).space of.0 of.1 in
      let f = stored_fit (is_single (shape_at vs i).space) (has_rows (shape_at vs i).space) most (length ns) (length column.cells) t.0 t.1 (ap length none) some.1 small in
      record { class = some.0; height = f.0; numbers = f.1 },
)

pub rows_show : (vs : List Vertex) (i : ℕ) (y : Way) (column : SeenColumn) (ns : List ℕ) → ns ≡ [] → (x : Tall) (given : ℕ → Option Seen) (blocks : ℕ → List Rows) → AreTold vs given blocks i y x → IsColumnPart (λ j. flat (blocks j)) i y column
    → Shows x (record { column = column; rows = ns })
rows_show vs i (way.End e a b) column ns none x given blocks told of = absurd of
rows_show vs i (way.Carries s a) column ns none x given blocks told of = absurd of
rows_show vs i way.Rows column ns none x given blocks told of =
    let t = stored_space x.shape.space told.0.0 told.0.1 in
    let no : has_numbers x.shape.space ≡ false = no_numbers (is_single x.shape.space) (has_rows x.shape.space) t.0 t.1 in
    record {
      cells = subst (λ u. IsOutcome u column.cells) (sym told.1) of;
      numbers = subst (λ b. AreNumbersOf b x.outcome ns) (sym no) none;
    }

-- ---- below a bound

pub fits_below : (vs : List Vertex) (bound : Option Fault) (w : Wanted) (g : Ending) → IsBelowAt vs bound w.node → FitsEnding vs w g → FitsBelow vs bound w g
fits_below vs bound w (ending.Found c) below fits = (below, fits)
fits_below vs bound w (ending.Carries column) below fits = (below, fits)
fits_below vs bound w (ending.Failed f) below fits = (below, fits)
fits_below vs bound w ending.Nothing below fits = absurd fits

-- ---- by what the sum is

pub if_ok : {A E : Type 0} (P Q : A → Type 0) (r : Result A E) → ((x : A) → P x → Q x) → IfOk r P → IfOk r Q
if_ok P Q (Ok x) to h = to x h
if_ok P Q (Err e) to h = h

pub sum_carries_fit : (vs : List Vertex) (w : Wanted) (s : Sum) (next : NextCarry) (column : SeenColumn) → s ≡ sum.Carries next column → IsSomeSum vs w s → FitsEnding vs w (ending.Carries column)
sum_carries_fit vs w s next column is some = (let t = subst (IsSomeSum vs w) is some in carries_fit vs w.node w.way t.0 next column t.1)

pub sum_carries_tell : (vs : List Vertex) (w : Wanted) (s : Sum) (next : NextCarry) (column : SeenColumn) → s ≡ sum.Carries next column → TellsEnding vs w s (ending.Carries column)
sum_carries_tell vs w s next column is x given blocks told of = carries_show vs w.node w.way next column x given blocks told (subst (IsSumOfBlocks vs given blocks w) is of)

pub sum_rows_fit : (vs : List Vertex) (w : Wanted) (s : Sum) (c : EndColumn) → s ≡ sum.Rows c.column → c.rows.items ≡ [] → IsSomeSum vs w s → FitsEnding vs w (ending.Found c)
sum_rows_fit vs w s c is none some = (let t = subst (IsSomeSum vs w) is some in rows_fit vs w.node w.way t.0 c.column c.rows.items t.1 t.2 none)

pub sum_rows_tell : (vs : List Vertex) (w : Wanted) (s : Sum) (c : EndColumn) → s ≡ sum.Rows c.column → c.rows.items ≡ [] → TellsEnding vs w s (ending.Found c)
sum_rows_tell vs w s c is none x given blocks told of = rows_show vs w.node w.way c.column c.rows.items none x given blocks told (subst (IsSumOfBlocks vs given blocks w) is of)
