-- Operations that need all rows, over what is known.
use Rattle.std.specs.Prelude.{◌≡◌, refl, ℕ, ◌<◌, ◌≤◌, ◌-◌, ◌^◌, ◌&&◌, not, Bool, true, false, Option, None, Some, IfSome, Result, Ok, Err, List, [], ◌∷◌, length, map, take, drop, slice_get}
use Rattle.std.specs.List.{slice_range}
use Rattle.std.proofs.Common.{ap, sym, subst, ◌∙◌, arith, IfOk, inl, inr}
use Rattle.std.proofs.lemmas.List.{take-map, drop-map}
use Rattle.tall_value.specs.declared.class.Class.{Class}
use Rattle.tall_value.specs.declared.faults.ClassFault.{ClassFault}
use Rattle.tall_value.specs.declared.faults.FaultKind.{FaultKind}
use Rattle.tall_value.specs.declared.functions.Method.{Method}
use Rattle.tall_value.specs.Cells.{Seen}
use Rattle.tall_value.specs.Classes.{kind_of}
use Rattle.tall_value.specs.Columns.{cells}
use Rattle.tall_value.specs.FunctionClasses.{reduction_class}
use Rattle.tall_value.specs.GroupSummary.{summary as group_summary}
use Rattle.tall_value.specs.Reductions.{reduced}
use Rattle.tall_semantics.specs.Faults.{At, Fault, fault_seen}
use Rattle.tall_semantics.specs.Operations.{Op, Part}
use Rattle.tall_semantics.specs.Outcomes.{Outcome, rows, scalar, fault, alone, part_of_group, rows_in, cells_in}
use Rattle.tall_semantics.specs.Shapes.{Shape, ShapeRefusal, allowed, counted, on_column, place_of, summary}
use Rattle.tall_semantics.specs.ShapesInOrder.{IsMade, shape_at}
use Rattle.tall_semantics.specs.Spaces.{Space, single, is_single, has_rows}
use Rattle.tall_semantics.specs.Spaces as spaces
use Rattle.tall_semantics.specs.Talls.{Columns, Tall, own_outcome}
use Rattle.tall_semantics.specs.Deferred.{Vertex, IsAmong, IsOrdered}
use Rattle.tall_semantics.specs.Numbered.{number_at}
use Rattle.tall_semantics.specs.RowsOfSpaces.{numbers_in}
use Rattle.tall_block.proofs.Operators.{cells_long}
use Rattle.tall_semantics.proofs.ShapeLaws.{IsGroups, column_is, groups_of, group_spaces, inside, place_ok, placed_is, refused, space_ok}
use Rattle.tall_blocks.specs.Carries.{Rows}
use Rattle.tall_fuse.specs.Results.{Found}
use Rattle.tall_graph.specs.Vertices.{part_of}
use Rattle.tall_block.specs.OfBlocks.{IsOperation, vertex_over}
use Rattle.tall_part.specs.declared.operation.EndOperation.{EndOperation}
use Rattle.tall_part.specs.declared.operation.EndOperation.TheVariants as end
use Rattle.tall_part.specs.declared.part.EndPart.{EndPart}
use Rattle.tall_part.specs.declared.results.EndColumn.{EndColumn}
use Rattle.tall_part.specs.declared.results.EndFault.{EndFault}
use Rattle.tall_part.specs.declared.results.EndFault.TheVariants as fault_of_end
use Rattle.tall_part.specs.Operations.{op_of, outcome_of_rows}
use Rattle.tall_part.specs.Parts.{HasNumbers, IsPart, IsPartOf, kept_from, kept_to, numbers}
use Rattle.tall_part.specs.Results.{AreHigh, IsAccepted, IsFaultOf, IsHigh, class_of_column}
use Rattle.tall_part.specs.Results as results
use Rattle.tall_part.proofs.AcceptedLaws.{one_taken, two_taken}
use Rattle.tall_part.proofs.OperationLaws.{one_told}
use Rattle.tall_pass.specs.Fitting.{AreNumbers, IsFit, IsHeight, has_numbers}
use Rattle.tall_pass.specs.Told.{IsOutcome, Shows}
use Rattle.tall_gather.specs.Rests.{IsComputed, IsRestAt}
use Rattle.tall_gather.specs.Smalls.{FitsAnswer, IsEndSpace, TellsAnswer, TellsValue, small_found}
use Rattle.tall_gather.proofs.AnswerLaws.{rows_fit}
use Rattle.tall_gather.proofs.FilterLaws.{no_scalar}
use Rattle.tall_gather.proofs.LeadLaws.{as_many, many_numbers}
use Rattle.tall_gather.proofs.NodeLaws.{accepted_as, no_fault, operand_numbered, operand_stands, own_one, own_two, same_numbers, shape_is, shown_rows}

-- ---- spaces

-- its rows have numbers of their own
abbrev pub HasOwnRows : Space → Type 0
HasOwnRows s = (is_single s ≡ false) × (has_numbers s ≡ true)

space_placed : (c : Class) (s : Space) (p : Class × Space) → place_ok (c, s) ≡ place_ok p → s ≡ p.1
space_placed c s p h = ap (λ (r : Result (Class × Space) ShapeRefusal). elim r [ Ok q ↦ q.1 | Err e ↦ s ]) h

own_rows : (s u : Space) → s ≡ u → HasOwnRows s → HasOwnRows u
own_rows s u e h = subst HasOwnRows e h

groups_own : (t : Rattle.tall_semantics.specs.Operations.Tree) (s : Space) → IsGroups t s → HasOwnRows s
groups_own t s g = own_rows (spaces.groups g.0 t g.1) s g.2 (refl, refl)

one_space : (e : EndOperation) (n : ℕ) (x : Shape) (p : Class × Space) → place_of (op_of e n) (x ∷ []) ≡ place_ok p → IsEndSpace e p.1
one_space (end.Reduce r) n x p h = ap is_single (sym (inside single p.1 (placed_is (allowed (reduction_class r x.class)) (space_ok single) p h)))
one_space (end.Head k) n x p h = own_rows (spaces.first k x.space) p.1 (space_placed x.class (spaces.first k x.space) p (column_is x (Ok (x.class, spaces.first k x.space)) p h)) (refl, refl)
one_space (end.Tail k) n x p h = own_rows (spaces.last k x.space) p.1 (space_placed x.class (spaces.last k x.space) p (column_is x (Ok (x.class, spaces.last k x.space)) p h)) (refl, refl)
one_space end.Distinct n x p h = own_rows (spaces.distinct x.tree) p.1 (space_placed x.class (spaces.distinct x.tree) p (column_is x (Ok (x.class, spaces.distinct x.tree)) p h)) (refl, refl)
one_space (end.Group m) n x p h = groups_own x.tree p.1 (groups_of m (part_of n) x [] p h)

-- all but a reduction need a column
abbrev pub NeedsColumn : EndOperation → Space → Type 0
NeedsColumn (end.Reduce r) s = Unit {0}
NeedsColumn e s = is_single s ≡ false

one_column : (e : EndOperation) (n : ℕ) (x : Shape) (p : Class × Space) → place_of (op_of e n) (x ∷ []) ≡ place_ok p → NeedsColumn e x.space
one_column (end.Reduce r) n x p h = tt
one_column (end.Head k) n x p h = no_scalar x (Ok (x.class, spaces.first k x.space)) p h
one_column (end.Tail k) n x p h = no_scalar x (Ok (x.class, spaces.last k x.space)) p h
one_column end.Distinct n x p h = no_scalar x (Ok (x.class, spaces.distinct x.tree)) p h
one_column (end.Group m) n x p h = no_scalar x (counted m (part_of n) x) p h

-- two operands have groups alone: the key and the data, columns of one space
pub record AreGrouped (e : EndOperation) (x y : Shape) : Type 0 where
  pub method : Method
  pub is : e ≡ end.Group method
  pub key : is_single x.space ≡ false
  pub of_data : is_single y.space ≡ false
  pub same : x.space ≡ y.space

two_grouped : (e : EndOperation) (n : ℕ) (x y : Shape) (p : Class × Space) → place_of (op_of e n) (x ∷ y ∷ []) ≡ place_ok p → AreGrouped e x y
two_grouped (end.Reduce r) n x y p h = absurd (refused p h)
two_grouped (end.Head k) n x y p h = absurd (refused p h)
two_grouped (end.Tail k) n x y p h = absurd (refused p h)
two_grouped end.Distinct n x y p h = absurd (refused p h)
two_grouped (end.Group m) n x y p h =
    let behind = column_is x (on_column y (summary m (part_of n) x y)) p h in
    record {
      method = m;
      is = refl;
      key = no_scalar x (on_column y (summary m (part_of n) x y)) p h;
      of_data = no_scalar y (summary m (part_of n) x y) p behind;
      same = group_spaces m (part_of n) x y p (column_is y (summary m (part_of n) x y) p behind);
    }

two_space : (e : EndOperation) (n : ℕ) (x y : Shape) (p : Class × Space) → place_of (op_of e n) (x ∷ y ∷ []) ≡ place_ok p → IsEndSpace e p.1
two_space (end.Reduce r) n x y p h = absurd (refused p h)
two_space (end.Head k) n x y p h = absurd (refused p h)
two_space (end.Tail k) n x y p h = absurd (refused p h)
two_space end.Distinct n x y p h = absurd (refused p h)
two_space (end.Group m) n x y p h = groups_own x.tree p.1 (groups_of m (part_of n) x (y ∷ []) p h)

module _ (vs : List Vertex) (made : IsMade vs) (i : ℕ) (e : EndOperation) (n : ℕ) where
  pub space_of_one : (a : ℕ) → IsOperation vs i (op_of e n) (a ∷ []) → IsEndSpace e (shape_at vs i).space
  space_of_one a node = (let w = accepted_as vs made i (op_of e n) (a ∷ []) node in subst (IsEndSpace e) w.space_is (one_space e n (shape_at vs a) w.place w.accepted))

  pub column_of_one : (a : ℕ) → IsOperation vs i (op_of e n) (a ∷ []) → NeedsColumn e (shape_at vs a).space
  column_of_one a node = (let w = accepted_as vs made i (op_of e n) (a ∷ []) node in one_column e n (shape_at vs a) w.place w.accepted)

  pub space_of_two : (a b : ℕ) → IsOperation vs i (op_of e n) (a ∷ b ∷ []) → IsEndSpace e (shape_at vs i).space
  space_of_two a b node = (let w = accepted_as vs made i (op_of e n) (a ∷ b ∷ []) node in subst (IsEndSpace e) w.space_is (two_space e n (shape_at vs a) (shape_at vs b) w.place w.accepted))

  pub grouped_of_two : (a b : ℕ) → IsOperation vs i (op_of e n) (a ∷ b ∷ []) → AreGrouped e (shape_at vs a) (shape_at vs b)
  grouped_of_two a b node = (let w = accepted_as vs made i (op_of e n) (a ∷ b ∷ []) node in two_grouped e n (shape_at vs a) (shape_at vs b) w.place w.accepted)

-- ---- the numbers that are kept

-- as many numbers as cells, but for a reduction, which keeps none
abbrev pub HasMany : EndOperation → (numbers cells : ℕ) → Type 0
HasMany (end.Reduce r) n k = Unit {0}
HasMany e n k = n ≡ k

pub kept_within : (e : EndOperation) (n k : ℕ) → HasMany e n k → kept_to e k ≤ n
kept_within (end.Reduce r) n k h = omega arith
kept_within (end.Head j) n k h = omega (arith, h)
kept_within (end.Tail j) n k h = omega (arith, h)
kept_within end.Distinct n k h = omega arith
kept_within (end.Group m) n k h = omega arith

pub many_of_one : (vs : List Vertex) (i a : ℕ) (e : EndOperation) (n : ℕ) (r : Found) → IsRestAt vs i → IsOperation vs i (op_of e n) (a ∷ []) → NeedsColumn e (shape_at vs a).space → IsFit (shape_at vs a) r → HasMany e (length r.rows) (length r.column.cells)
many_of_one vs i a (end.Reduce x) n r rest node c fit = tt
many_of_one vs i a (end.Head k) n r rest node c fit = many_numbers (shape_at vs a) r fit (operand_numbered vs i a (op_of (end.Head k) n) (a ∷ []) false rest node (inl refl) c)
many_of_one vs i a (end.Tail k) n r rest node c fit = many_numbers (shape_at vs a) r fit (operand_numbered vs i a (op_of (end.Tail k) n) (a ∷ []) false rest node (inl refl) c)
many_of_one vs i a end.Distinct n r rest node c fit = many_numbers (shape_at vs a) r fit (operand_numbered vs i a (op_of end.Distinct n) (a ∷ []) false rest node (inl refl) c)
many_of_one vs i a (end.Group m) n r rest node c fit = many_numbers (shape_at vs a) r fit (operand_numbered vs i a (op_of (end.Group m) n) (a ∷ []) false rest node (inl refl) c)

pub few_cells : (s : Shape) (r : Found) → IsFit s r → length r.column.cells < 2 ^ 40
few_cells s r fit = by (is_single s.space) fit.height
  where
    by : (b : Bool) → IsHeight b (length r.column.cells) → length r.column.cells < 2 ^ 40
    by true h = omega (arith, h)
    by false h = h

range_map : {A B : Type 0} (g : A → B) (xs : List A) (i j : ℕ) → slice_range (map g xs) i j ≡ map g (slice_range xs i j)
range_map g xs i j = ap (take (j - i)) (drop-map g i xs) ∙ take-map g (j - i) (drop i xs)

ranged : (e : EndOperation) (rs : Rows) (ns : List ℕ) (k : ℕ) → k ≡ length rs → ns ≡ numbers rs → HasNumbers e rs (slice_range ns (kept_from e k) (kept_to e k))
ranged e rs ns k l n =
    ap (λ j. slice_range ns (kept_from e j) (kept_to e j)) l
    ∙ (ap (λ (m : List ℕ). slice_range m (kept_from e (length rs)) (kept_to e (length rs))) n ∙ range_map (λ (r : ℕ × Seen). r.0) rs (kept_from e (length rs)) (kept_to e (length rs)))

-- ---- whatever the shelf tells

pub end_fit : (e : EndOperation) (s : Shape) (v : EndColumn) (most : ℕ) → v.column.class ≡ s.class → IsHigh e most (length v.column.cells) (length v.rows.items) → most < 2 ^ 40 → IsEndSpace e s.space → IsFit s (small_found v)
end_fit (end.Reduce r) s v most class high few one = record {
  class = class;
  height = subst (λ b. IsHeight b (length v.column.cells)) (sym one) high.0;
  numbers = subst (λ b. AreNumbers b (length v.rows.items) (length v.column.cells)) (sym (none (is_single s.space) one)) high.1;
}
  where
    none : (b : Bool) → b ≡ true → (not b && not (has_rows s.space)) ≡ false
    none true h = refl
    none false h = absurd (cc)
end_fit (end.Head k) s v most class high few own = (let m = high.1 in rows_fit s (small_found v) class own.1 high.0 (omega (arith, m, few)))
end_fit (end.Tail k) s v most class high few own = (let m = high.1 in rows_fit s (small_found v) class own.1 high.0 (omega (arith, m, few)))
end_fit end.Distinct s v most class high few own = (let m = high.1 in rows_fit s (small_found v) class own.1 high.0 (omega (arith, m, few)))
end_fit (end.Group m) s v most class high few own = (let l = high.1 in rows_fit s (small_found v) class own.1 high.0 (omega (arith, l, few)))

-- the fault has the expression's number
alone_numbered : (at : At) (r : Result Seen FaultKind) (x : Fault) → alone at r ≡ fault x → x.number ≡ at.number
alone_numbered at (Ok c) x h = absurd (cc)
alone_numbered at (Err k) x h = sym (ap (λ o. elim o [ fault y ↦ y.number | rows rs ↦ at.number | scalar c ↦ at.number ]) h)

part_numbered : (at : At) (part : Part) (r : Result (List (List (ℕ × Seen))) FaultKind) (x : Fault) → part_of_group at part r ≡ fault x → x.number ≡ at.number
part_numbered at part (Ok cs) x h = absurd (cc)
part_numbered at part (Err k) x h = sym (ap (λ o. elim o [ fault y ↦ y.number | rows rs ↦ at.number | scalar c ↦ at.number ]) h)

pub end_numbered : (at : At) (e : EndOperation) (n : ℕ) (a b : Class) (rs ss : Rows) (x : Fault) → outcome_of_rows at e n a b rs ss ≡ fault x → x.number ≡ at.number
end_numbered at (end.Reduce r) n a b rs ss x h = alone_numbered at (reduced r (kind_of a) (cells rs)) x h
end_numbered at (end.Head k) n a b rs ss x h = absurd (cc)
end_numbered at (end.Tail k) n a b rs ss x h = absurd (cc)
end_numbered at end.Distinct n a b rs ss x h = absurd (cc)
end_numbered at (end.Group m) n a b rs ss x h = part_numbered at (part_of n) (group_summary m (kind_of b) rs ss) x h

-- ---- what is told

alone_answer : (at : At) (r : Result Seen FaultKind) (v : EndColumn) → results.IsOutcome (alone at r) v.column v.rows.items → TellsAnswer false (alone at r) (Ok v)
alone_answer at (Ok c) v h = h
alone_answer at (Err k) v h = absurd h

part_answer : (at : At) (part : Part) (r : Result (List (List (ℕ × Seen))) FaultKind) (v : EndColumn) → results.IsOutcome (part_of_group at part r) v.column v.rows.items → TellsAnswer true (part_of_group at part r) (Ok v)
part_answer at part (Ok cs) v h = h
part_answer at part (Err k) v h = absurd h

numbers_unless : (s : Space) → is_single s ≡ true → has_numbers s ≡ false
numbers_unless s h = by (is_single s) h
  where
    by : (b : Bool) → b ≡ true → (not b && not (has_rows s)) ≡ false
    by true e = refl
    by false e = absurd (cc)

-- the column at the place is the outcome
pub end_answer : (at : At) (e : EndOperation) (n : ℕ) (a b : Class) (rs ss : Rows) (s : Space) (v : EndColumn) → IsEndSpace e s → results.IsOutcome (outcome_of_rows at e n a b rs ss) v.column v.rows.items → TellsAnswer (has_numbers s) (outcome_of_rows at e n a b rs ss) (Ok v)
end_answer at (end.Reduce r) n a b rs ss s v one h = subst (λ t. TellsAnswer t (alone at (reduced r (kind_of a) (cells rs))) (Ok v)) (sym (numbers_unless s one)) (alone_answer at (reduced r (kind_of a) (cells rs)) v h)
end_answer at (end.Head k) n a b rs ss s v own h = subst (λ t. TellsAnswer t (outcome_of_rows at (end.Head k) n a b rs ss) (Ok v)) (sym own.1) h
end_answer at (end.Tail k) n a b rs ss s v own h = subst (λ t. TellsAnswer t (outcome_of_rows at (end.Tail k) n a b rs ss) (Ok v)) (sym own.1) h
end_answer at end.Distinct n a b rs ss s v own h = subst (λ t. TellsAnswer t (outcome_of_rows at end.Distinct n a b rs ss) (Ok v)) (sym own.1) h
end_answer at (end.Group m) n a b rs ss s v own h = subst (λ t. TellsAnswer t (outcome_of_rows at (end.Group m) n a b rs ss) (Ok v)) (sym own.1) (part_answer at (part_of n) (group_summary m (kind_of b) rs ss) v h)

pub shown_cells : (o : Outcome) (cs : List Seen) → IsOutcome o cs → cells_in o ≡ cs
shown_cells (rows rs) cs h = sym h
shown_cells (scalar c) cs h = sym h
shown_cells (fault x) cs h = absurd h

-- ---- parts

pub some_part : {E : Type 0} (e : EndOperation) (a b k l : Class) (n m : ℕ) (r : Result EndPart E) → a ≡ k → b ≡ l → n ≤ m → m < 2 ^ 40 → IfOk r (λ p. IsPart e a b n p) → IfOk r (λ p. (most : ℕ) × IsPart e k l most p × (most < 2 ^ 40))
some_part e a b k l n m (Ok p) ka lb h few part = (n, subst (λ (c : Class). IsPart e k c n p) lb (subst (λ (c : Class). IsPart e c b n p) ka part), omega (arith, h, few))
some_part e a b k l n m (Err x) ka lb h few part = tt

-- the column at a place has the class that was accepted
pub end_class : (r : Result Class ClassFault) (xs : List EndColumn) (n : ℕ) (c d : EndColumn) (k : Class) → slice_get xs n ≡ Some c → slice_get xs n ≡ Some d → r ≡ Ok c.column.class → r ≡ Ok k → d.column.class ≡ k
end_class r xs n c d k ec ed rc rk = ap (λ (o : Option EndColumn). elim o [ Some z ↦ z.column.class | None ↦ k ]) (sym ed ∙ ec) ∙ ap (λ (q : Result Class ClassFault). elim q [ Ok z ↦ z | Err x ↦ k ]) (sym rc ∙ rk)

-- the number and the line that the code gives are the expression's
pub at_is : (vs : List Vertex) (i number line : ℕ) (v : Vertex) → slice_get vs i ≡ Some v → IfSome (slice_get vs i) (λ w. number ≡ w.at.number) → IfSome (slice_get vs i) (λ w. line ≡ w.at.line) → record { number = number; line = line } ≡ v.at
at_is vs i number line v e n l =
    let a : number ≡ v.at.number = subst (λ o. IfSome o (λ (w : Vertex). number ≡ w.at.number)) e n in
    let b : line ≡ v.at.line = subst (λ o. IfSome o (λ (w : Vertex). line ≡ w.at.line)) e l in
    ap (λ (k : ℕ). at_of k line) a ∙ ap (λ (k : ℕ). at_of v.at.number k) b
  where
    at_of : ℕ → ℕ → At
    at_of k j = record { number = k; line = j }

pub fault_fits : (vs : List Vertex) (i : ℕ) (at : At) (e : EndOperation) (place : ℕ) (a b : Class) (rs ss : Rows) (x : EndFault) → at.number ≡ number_at (slice_get vs i) → IsFaultOf at e a b rs ss x → FitsAnswer vs i (Err x)
fault_fits vs i at e place a b rs ss (fault_of_end.Data f) n h = end_numbered at e place a b rs ss (fault_seen f) (h place) ∙ n
fault_fits vs i at e place a b rs ss fault_of_end.Memory n h = tt

pub fault_told : (numbered : Bool) (at : At) (e : EndOperation) (place : ℕ) (a b : Class) (rs ss : Rows) (x : EndFault) → IsFaultOf at e a b rs ss x → TellsAnswer numbered (outcome_of_rows at e place a b rs ss) (Err x)
fault_told numbered at e place a b rs ss (fault_of_end.Data f) h = h place
fault_told numbered at e place a b rs ss fault_of_end.Memory h = tt

-- ---- nodes

module _ (vs : List Vertex) (made : IsMade vs) (i : ℕ) (e : EndOperation) (n : ℕ) where
  pub accepted_one : (a : ℕ) (class : Class) → IsOperation vs i (op_of e n) (a ∷ []) → class ≡ (shape_at vs a).class → IsAccepted e n class class (shape_at vs i).class
  accepted_one a class node same = subst (λ (c : Class). IsAccepted e n c c (shape_at vs i).class) (sym same) (one_taken vs made i a n (vertex_over node.0 (op_of e n) (a ∷ [])) e node.1 refl refl)

  pub accepted_two : (a b : ℕ) (first last : Class) → IsOperation vs i (op_of e n) (a ∷ b ∷ []) → first ≡ (shape_at vs a).class → last ≡ (shape_at vs b).class → IsAccepted e n first last (shape_at vs i).class
  accepted_two a b first last node same other =
      subst (λ (c : Class). IsAccepted e n first c (shape_at vs i).class) (sym other) (subst (λ (c : Class). IsAccepted e n c (shape_at vs b).class (shape_at vs i).class) (sym same) (two_taken vs made i a b n (vertex_over node.0 (op_of e n) (a ∷ b ∷ [])) e node.1 refl refl))

-- an answer for the outcome of rows is one for the node's
abbrev EndTells : List Vertex → (i place : ℕ) → EndOperation → EndPart → Result EndColumn EndFault → Type 0
EndTells vs i place e part result = (v : Vertex) (a b : Class) (rs ss : Rows) → slice_get vs i ≡ Some v → IsPartOf e a b rs ss part → TellsAnswer (has_numbers (shape_at vs i).space) (outcome_of_rows v.at e place a b rs ss) result

grouped_told : (at : At) (e : EndOperation) (n : ℕ) (x y : Tall) (m : Method) → e ≡ end.Group m → own_outcome at (op_of e n) (x ∷ y ∷ []) ≡ outcome_of_rows at e n x.shape.class y.shape.class (rows_in x.outcome) (rows_in y.outcome)
grouped_told at e n x y m is = subst (λ (z : EndOperation). own_outcome at (op_of z n) (x ∷ y ∷ []) ≡ outcome_of_rows at z n x.shape.class y.shape.class (rows_in x.outcome) (rows_in y.outcome)) (sym is) refl

module _ (columns : Columns) (vs : List Vertex) (f : ℕ → Tall) (computed : IsComputed columns vs f) (made : IsMade vs) (ordered : IsOrdered vs) (i : ℕ) (rest : IsRestAt vs i) (e : EndOperation) (place : ℕ) where
  tells_value : (op : Op) (args : List ℕ) (node : IsOperation vs i op args) (x : Outcome) (result : Result EndColumn EndFault) → (f i).outcome ≡ x → TellsAnswer (has_numbers (shape_at vs i).space) x result → TellsValue (f i) result
  tells_value op args node x result own h =
      subst (λ b. TellsAnswer b (f i).outcome result) (sym (ap (λ (t : Shape). has_numbers t.space) (shape_is columns vs f computed made ordered i (vertex_over node.0 op args) node.1)))
      (subst (λ o. TellsAnswer (has_numbers (shape_at vs i).space) o result) (sym own) h)

  class_is : (a : ℕ) (op : Op) (args : List ℕ) → IsOperation vs i op args → IsAmong args a → (class : Class) → class ≡ (shape_at vs a).class → (f a).shape.class ≡ class
  class_is a op args node m class same = (let w = operand_stands columns vs f computed made ordered i a op args node m in ap (λ (t : Shape). t.class) (shape_is columns vs f computed made ordered a w.0 w.1) ∙ sym same)

  rows_long : (rs : Rows) (cs : List Seen) → cells rs ≡ cs → length cs ≡ length rs
  rows_long rs cs q = ap length (sym q) ∙ cells_long rs

  column_numbers : (e : EndOperation) (a : ℕ) (node : IsOperation vs i (op_of e place) (a ∷ [])) (x : Found) → is_single (shape_at vs a).space ≡ false → Shows (f a) x
      → HasNumbers e (rows_in (f a).outcome) (slice_range x.rows (kept_from e (length x.column.cells)) (kept_to e (length x.column.cells)))
  column_numbers e a node x c shows =
      let w = operand_stands columns vs f computed made ordered i a (op_of e place) (a ∷ []) node (inl refl) in
      let k = shown_rows columns vs f computed made ordered a w.0 x w.1 shows c (operand_numbered vs i a (op_of e place) (a ∷ []) false rest node (inl refl) c) in
      subst (λ (o : Outcome). HasNumbers e (rows_in o) (slice_range x.rows (kept_from e (length x.column.cells)) (kept_to e (length x.column.cells)))) (sym k.1) (ranged e k.0 x.rows (length x.column.cells) (rows_long k.0 x.column.cells (sym k.2)) k.3)

  one_numbers : (e : EndOperation) (a : ℕ) (node : IsOperation vs i (op_of e place) (a ∷ [])) (x : Found) → NeedsColumn e (shape_at vs a).space → Shows (f a) x
      → HasNumbers e (rows_in (f a).outcome) (slice_range x.rows (kept_from e (length x.column.cells)) (kept_to e (length x.column.cells)))
  one_numbers (end.Reduce r) a node x c shows = refl
  one_numbers (end.Head k) a node x c shows = column_numbers (end.Head k) a node x c shows
  one_numbers (end.Tail k) a node x c shows = column_numbers (end.Tail k) a node x c shows
  one_numbers end.Distinct a node x c shows = column_numbers end.Distinct a node x c shows
  one_numbers (end.Group m) a node x c shows = column_numbers (end.Group m) a node x c shows

  pub one_end_told : (a : ℕ) (node : IsOperation vs i (op_of e place) (a ∷ [])) (x : Found) (part : EndPart) (result : Result EndColumn EndFault) → x.column.class ≡ (shape_at vs a).class → Shows (f a) x
      → ((rs : Rows) → cells rs ≡ x.column.cells → HasNumbers e rs (slice_range x.rows (kept_from e (length x.column.cells)) (kept_to e (length x.column.cells))) → IsPartOf e x.column.class x.column.class rs rs part)
      → EndTells vs i place e part result → TellsValue (f i) result
  one_end_told a node x part result class shows parts told =
      let v = vertex_over node.0 (op_of e place) (a ∷ []) in
      let rs = rows_in (f a).outcome in
      let c : (f a).shape.class ≡ x.column.class = class_is a (op_of e place) (a ∷ []) node (inl refl) x.column.class class in
      let own : (f i).outcome ≡ outcome_of_rows node.0 e place x.column.class x.column.class rs rs =
      own_one columns vs f computed made ordered i a (op_of e place) node (no_fault (f a) x shows) ∙ (one_told node.0 e place (f a) ∙ ap (λ (k : Class). outcome_of_rows node.0 e place k k rs rs) c) in
      tells_value (op_of e place) (a ∷ []) node (outcome_of_rows node.0 e place x.column.class x.column.class rs rs) result own
      (told v x.column.class x.column.class rs rs node.1 (parts rs (shown_cells (f a).outcome x.column.cells shows.cells) (one_numbers e a node x (column_of_one vs made i e place a node) shows)))

  no_numbers : (m : Method) (rs : Rows) → e ≡ end.Group m → HasNumbers e rs []
  no_numbers m rs is = subst (λ (z : EndOperation). HasNumbers z rs []) (sym is) refl

  pub two_end_told : (a b : ℕ) (node : IsOperation vs i (op_of e place) (a ∷ b ∷ [])) (x y : Found) (part : EndPart) (result : Result EndColumn EndFault) → x.column.class ≡ (shape_at vs a).class → y.column.class ≡ (shape_at vs b).class → Shows (f a) x → Shows (f b) y
      → (length y.column.cells ≡ length x.column.cells → (rs ss : Rows) → cells rs ≡ x.column.cells → cells ss ≡ y.column.cells → HasNumbers e rs [] → IsPartOf e x.column.class y.column.class rs ss part)
      → EndTells vs i place e part result → TellsValue (f i) result
  two_end_told a b node x y part result class other sx sy parts told =
      let op = op_of e place in
      let v = vertex_over node.0 op (a ∷ b ∷ []) in
      let k = grouped_of_two vs made i e place a b node in
      let wa = operand_stands columns vs f computed made ordered i a op (a ∷ b ∷ []) node (inl refl) in
      let wb = operand_stands columns vs f computed made ordered i b op (a ∷ b ∷ []) node (inr (inl refl)) in
      let rs = shown_rows columns vs f computed made ordered a wa.0 x wa.1 sx k.key (operand_numbered vs i a op (a ∷ b ∷ []) false rest node (inl refl) k.key) in
      let ss = shown_rows columns vs f computed made ordered b wb.0 y wb.1 sy k.of_data (operand_numbered vs i b op (a ∷ b ∷ []) false rest node (inr (inl refl)) k.of_data) in
      let numbers_same : numbers ss.0 ≡ numbers rs.0 =
      sym (ap numbers_in ss.1) ∙ (same_numbers columns vs f computed made ordered b a wb.0 wa.0 wb.1 wa.1 (no_fault (f a) x sx) k.same (no_fault (f b) y sy) ∙ ap numbers_in rs.1) in
      let even : length y.column.cells ≡ length x.column.cells = ap length ss.2 ∙ (as_many ss.0 rs.0 numbers_same ∙ ap length (sym rs.2)) in
      let own : (f i).outcome ≡ outcome_of_rows node.0 e place x.column.class y.column.class rs.0 ss.0 =
      own_two columns vs f computed made ordered i a b op node (no_fault (f a) x sx) (no_fault (f b) y sy)
      ∙ (grouped_told node.0 e place (f a) (f b) k.method k.is
      ∙ (ap (λ (c : Class). outcome_of_rows node.0 e place c (f b).shape.class (rows_in (f a).outcome) (rows_in (f b).outcome)) (class_is a op (a ∷ b ∷ []) node (inl refl) x.column.class class)
      ∙ (ap (λ (c : Class). outcome_of_rows node.0 e place x.column.class c (rows_in (f a).outcome) (rows_in (f b).outcome)) (class_is b op (a ∷ b ∷ []) node (inr (inl refl)) y.column.class other)
      ∙ (ap (λ (o : Outcome). outcome_of_rows node.0 e place x.column.class y.column.class (rows_in o) (rows_in (f b).outcome)) rs.1
      ∙ ap (λ (o : Outcome). outcome_of_rows node.0 e place x.column.class y.column.class rs.0 (rows_in o)) ss.1)))) in
      tells_value op (a ∷ b ∷ []) node (outcome_of_rows node.0 e place x.column.class y.column.class rs.0 ss.0) result own
      (told v x.column.class y.column.class rs.0 ss.0 node.1 (parts even rs.0 ss.0 (sym rs.2) (sym ss.2) (no_numbers k.method rs.0 k.is)))
