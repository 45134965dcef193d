-- The value of a node from what is there: which operands are cut, and what an operator's answer tells.
use Rattle.std.specs.Prelude.{◌≡◌, refl, ℕ, zero, suc, ◌<◌, ◌≤◌, Bool, true, false, Option, None, Some, Result, Ok, Err, List, [], ◌∷◌, length, map, slice_get, IfOk, IfSome}
use Rattle.std.specs.HashMap.{HashMap}
use Rattle.std.specs.declared.alloc.AllocError.{AllocError}
use Rattle.std.proofs.Common.{ap, sym, subst, ◌∙◌, arith, inl, inr}
use Rattle.tall_value.specs.declared.class.Class.{Class}
use Rattle.tall_value.specs.declared.operators.Binary.{Binary}
use Rattle.tall_value.specs.declared.operators.Unary.{Unary}
use Rattle.tall_value.specs.declared.functions.Scan.{Scan}
use Rattle.tall_value.specs.Cells.{Seen}
use Rattle.tall_dense.specs.Columns.{SeenColumn, class_of_cell}
use Rattle.tall_dense.specs.declared.faults.OpFault.{OpFault}
use Rattle.tall_dense.specs.declared.faults.OpFault.TheVariants as op_fault
use Rattle.tall_semantics.specs.Faults.{At}
use Rattle.tall_semantics.specs.Operations.{Op, unary, binary, filter, scan, Made, stored, operation}
use Rattle.tall_semantics.specs.Outcomes.{Outcome, scalar, fault_of, rows_in}
use Rattle.tall_semantics.specs.Plans.{is_scan_at}
use Rattle.tall_semantics.specs.Spaces.{is_single}
use Rattle.tall_semantics.specs.ShapesInOrder.{IsMade, shape_at}
use Rattle.tall_semantics.specs.Talls.{Columns, Tall}
use Rattle.tall_semantics.specs.Deferred.{Vertex, AllBelow, IsAmong}
use Rattle.tall_semantics.proofs.Basics.{inside}
use Rattle.tall_blocks.specs.Cut.{CanBeCut}
use Rattle.tall_blocks.proofs.Choices.{true_or_false}
use Rattle.tall_blocks.specs.ValuesOver.{outcome_over, value_over}
use Rattle.tall_block.specs.OfBlocks.{AreColumns, AreOfBlock, IsOperation, IsThere, column_at, made_at, vertex_column, vertex_over}
use Rattle.tall_block.specs.BlockWork.{GoesOn, IsKnown}
use Rattle.tall_block.specs.NodeForms.{IfMade, IsFormOf, IsLed, IsReady, IsValueOf, TellsOf}
use Rattle.tall_block.specs.declared.forms.Form.{Form}
use Rattle.tall_block.specs.declared.values.Value.{Value}
use Rattle.tall_block.specs.declared.values.Value.TheVariants as value
use Rattle.tall_block.specs.Shown.{Shows, Tells}

-- ---- answers

pub value_class : (answer : Result SeenColumn OpFault) (lead : ℕ) (result : Result Value AllocError) (k : Class) → IsValueOf answer lead result → IfOk answer (λ c. c.class ≡ k) → IfMade result (λ c. c.class ≡ k)
value_class (Ok c) lead result k e h = subst (λ (r : Result Value AllocError). IfMade r (λ d. d.class ≡ k)) (sym e) h
value_class (Err (op_fault.At row x)) lead result k e h = subst (λ (r : Result Value AllocError). IfMade r (λ d. d.class ≡ k)) (sym e) tt
value_class (Err op_fault.Memory) lead (Ok v) k e h = absurd e
value_class (Err op_fault.Memory) lead (Err a) k e h = tt

pub no_more : {k m n : ℕ} → k ≤ m → m ≤ n → k ≤ n
no_more l q = omega (arith, l, q)

pub value_short : (answer : Result SeenColumn OpFault) (lead : ℕ) (result : Result Value AllocError) (m n : ℕ) → IsValueOf answer lead result → IfOk answer (λ c. length c.cells ≤ m) → m ≤ n → IfMade result (λ c. length c.cells ≤ n)
value_short (Ok c) lead result m n e h l = subst (λ (r : Result Value AllocError). IfMade r (λ d. length d.cells ≤ n)) (sym e) (no_more h l)
value_short (Err (op_fault.At row x)) lead result m n e h l = subst (λ (r : Result Value AllocError). IfMade r (λ d. length d.cells ≤ n)) (sym e) tt
value_short (Err op_fault.Memory) lead (Ok v) m n e h l = absurd e
value_short (Err op_fault.Memory) lead (Err a) m n e h l = tt

module _ {S : Type 0} (vs : List Vertex) (table : List (List ℕ × SeenColumn)) (made : HashMap ℕ SeenColumn S) where
  pub value_led : (i : ℕ) (answer : Result SeenColumn OpFault) (lead : ℕ) (result : Result Value AllocError) → IsValueOf answer lead result → (x : SeenColumn) → column_at vs table made lead ≡ Some x
      → (v : Vertex) → slice_get vs i ≡ Some v → IsAmong v.args lead → IsLed vs table made i result
  value_led i (Ok c) lead result e x q v p m = subst (λ (r : Result Value AllocError). IsLed vs table made i r) (sym e) tt
  value_led i (Err (op_fault.At row y)) lead result e x q v p m = subst (λ (r : Result Value AllocError). IsLed vs table made i r) (sym e) ((x, q), (v, p, m))
  value_led i (Err op_fault.Memory) lead (Ok w) e x q v p m = absurd e
  value_led i (Err op_fault.Memory) lead (Err a) e x q v p m = tt

  pub value_told : (at : At) (h : ℕ → Outcome) (i : ℕ) (answer : Result SeenColumn OpFault) (lead : ℕ) (result : Result Value AllocError) → IsValueOf answer lead result → Tells at (rows_in (h lead)) (h i) answer → TellsOf vs table made at h i result
  value_told at h i (Ok c) lead result e t = subst (λ (r : Result Value AllocError). TellsOf vs table made at h i r) (sym e) t
  value_told at h i (Err (op_fault.At row x)) lead result e t = subst (λ (r : Result Value AllocError). TellsOf vs table made at h i r) (sym e) t
  value_told at h i (Err op_fault.Memory) lead (Ok v) e t = absurd e
  value_told at h i (Err op_fault.Memory) lead (Err a) e t = tt

  pub not_there : (a : ℕ) → column_at vs table made a ≡ None → IsThere vs table made a → ⊥
  not_there a e there = (let q : None ≡ Some there.0 = sym e ∙ there.1 in cc)

pub scalar_lacks : {vs : List Vertex} {scalars : ℕ → Option Seen} {f : ℕ → Tall} {a : ℕ} → IsKnown vs scalars f a
    → ((c : Seen) → scalars a ≡ Some c → class_of_cell c ≡ (shape_at vs a).class → is_single (shape_at vs a).space ≡ true → ⊥) → ⊥
scalar_lacks k none = none k.cell k.known k.class k.single

-- ---- operands

pub same_args : (vs : List Vertex) (i : ℕ) (v : Vertex) (op : Op) (args : List ℕ) → IsOperation vs i op args → slice_get vs i ≡ Some v → v ≡ vertex_over v.at op args
same_args vs i v op args e q =
    let same : vertex_over e.0 op args ≡ v = inside (vertex_over e.0 op args) v (sym e.1 ∙ q) in
    sym same ∙ ap (λ (at : At). vertex_over at op args) (ap (λ (w : Vertex). w.at) same)

-- an operation by what makes the node and its operands
pub is_operation : (vs : List Vertex) (i : ℕ) (v : Vertex) (op : Op) (args : List ℕ) → slice_get vs i ≡ Some v → v.made ≡ operation op → v.args ≡ args → IsOperation vs i op args
is_operation vs i v op args e q r =
    (v.at, e ∙ (ap (λ (m : Made). Some (record { at = v.at; made = m; args = v.args })) q ∙ ap (λ (xs : List ℕ). Some (vertex_over v.at op xs)) r))

pub as_vertex : (vs : List Vertex) (i : ℕ) (w v : Vertex) (op : Op) (args : List ℕ) → slice_get vs i ≡ Some w → w.made ≡ operation op → w.args ≡ args → slice_get vs i ≡ Some v → slice_get vs i ≡ Some (vertex_over v.at op args)
as_vertex vs i w v op args e q r g = g ∙ ap (λ (u : Vertex). Some u) (same_args vs i v op args (is_operation vs i w op args e q r) g)

pub one_below : (vs : List Vertex) → IsMade vs → (i a : ℕ) (v : Vertex) → slice_get vs i ≡ Some v → v.args ≡ a ∷ [] → a < i
one_below vs made i a v e q = (subst (λ (xs : List ℕ). AllBelow i xs) q (made i v e).0).0

pub two_below : (vs : List Vertex) → IsMade vs → (i a b : ℕ) (v : Vertex) → slice_get vs i ≡ Some v → v.args ≡ a ∷ b ∷ [] → (a < i) × (b < i)
two_below vs made i a b v e q = (let w = subst (λ (xs : List ℕ). AllBelow i xs) q (made i v e).0 in (w.0, w.1.0))

module _ {S : Type 0} {vs : List Vertex} {table : List (List ℕ × SeenColumn)} {made : HashMap ℕ SeenColumn S} {scalars carries : ℕ → Option Seen} {first : ℕ} {work : List ℕ} {columns : Columns} {so_far : ℕ → List Seen} {f : ℕ → Tall} {cut : ℕ → Bool} {h : ℕ → Outcome} {i : ℕ}
    (ready : IsReady vs table made scalars carries first work columns so_far f cut h i) where
  pub of_block : AreOfBlock vs columns so_far f cut h
  of_block = record { over = ready.block.over; can = ready.block.can; aligned = ready.block.aligned }

  pub is_cut : cut i ≡ true
  is_cut = (ready.block.cut_work.there i ready.among).0

  -- an operand with a column is cut, and its column shows its outcome
  pub column_cut : AreColumns vs table made → (a : ℕ) (v : Vertex) (x : SeenColumn) → slice_get vs i ≡ Some v → IsAmong v.args a → column_at vs table made a ≡ Some x → cut a ≡ true
  column_cut are a v x e m q = elim (true_or_false (cut a)) [
    | inl t ↦ t
    | inr t ↦ absurd (let k : is_single (shape_at vs a).space ≡ true = (ready.block.scalars_known i a v ready.among e m t).single in let n : is_single (shape_at vs a).space ≡ false = (are a x q).1 in cc)
  ]

  pub column_shown : AreColumns vs table made → (a : ℕ) (v : Vertex) (x : SeenColumn) → slice_get vs i ≡ Some v → IsAmong v.args a → column_at vs table made a ≡ Some x → Shows (h a) x.cells
  column_shown are a v x e m q = ready.shown a x (column_cut are a v x e m q) q

  -- an operand without one is known
  pub no_column : (a : ℕ) (v : Vertex) → slice_get vs i ≡ Some v → IsAmong v.args a → column_at vs table made a ≡ None → cut a ≡ false
  no_column a v e m q = elim (true_or_false (cut a)) [
    | inl t ↦ absurd (not_there vs table made a q (ready.there a v e m t))
    | inr t ↦ t
  ]

  pub no_column_known : (a : ℕ) (v : Vertex) → slice_get vs i ≡ Some v → IsAmong v.args a → column_at vs table made a ≡ None → IsKnown vs scalars f a
  no_column_known a v e m q = ready.block.scalars_known i a v ready.among e m (no_column a v e m q)

  pub known_cell : (a : ℕ) (v : Vertex) (c : Seen) → slice_get vs i ≡ Some v → IsAmong v.args a → column_at vs table made a ≡ None → scalars a ≡ Some c → h a ≡ scalar c
  known_cell a v c e m q known =
      let k = no_column_known a v e m q in
      let same : k.cell ≡ c = ap (λ (o : Option Seen). elim o [ Some d ↦ d | None ↦ c ]) (sym k.known ∙ known) in
      ready.block.over.known a (no_column a v e m q) ∙ (k.is ∙ ap scalar same)

  -- of two operands one has a column
  pub one_column : (a b : ℕ) (op : Binary) (at : At) → slice_get vs i ≡ Some (vertex_over at (binary op) (a ∷ b ∷ [])) → column_at vs table made a ≡ None → column_at vs table made b ≡ None → ⊥
  one_column a b op at e q r =
      let v : Vertex = vertex_over at (binary op) (a ∷ b ∷ []) in
      let x : cut a ≡ false = no_column a v e (inl refl) q in
      let y : cut b ≡ false = no_column b v e (inr (inl refl)) r in
      by_cut x y (ready.block.can i v e is_cut)
    where
      by_cut : cut a ≡ false → cut b ≡ false → CanBeCut f cut (operation (binary op)) (a ∷ b ∷ []) → ⊥
      by_cut x y can = elim can [
        | inl both ↦ (let z : cut a ≡ true = both.0 in cc)
        | inr one ↦ elim one [
          | inl left ↦ (let z : cut a ≡ true = left.0 in cc)
          | inr right ↦ (let z : cut b ≡ true = right.1 in cc)
        ]
      ]

  -- the operands of these are cut
  pub unary_operand : (a : ℕ) (op : Unary) (at : At) → slice_get vs i ≡ Some (vertex_over at (unary op) (a ∷ [])) → IsThere vs table made a
  unary_operand a op at e = ready.there a (vertex_over at (unary op) (a ∷ [])) e (inl refl) (ready.block.can i (vertex_over at (unary op) (a ∷ [])) e is_cut)

  pub scan_operand : (a : ℕ) (s : Scan) (at : At) → slice_get vs i ≡ Some (vertex_over at (scan s) (a ∷ [])) → IsThere vs table made a
  scan_operand a s at e = ready.there a (vertex_over at (scan s) (a ∷ [])) e (inl refl) (ready.block.can i (vertex_over at (scan s) (a ∷ [])) e is_cut)

  pub filter_operand : (a m : ℕ) (at : At) → slice_get vs i ≡ Some (vertex_over at filter (a ∷ m ∷ [])) → IsThere vs table made a
  filter_operand a m at e = ready.there a (vertex_over at filter (a ∷ m ∷ [])) e (inl refl) (ready.block.can i (vertex_over at filter (a ∷ m ∷ [])) e is_cut).0

  pub filter_mask : (a m : ℕ) (at : At) → slice_get vs i ≡ Some (vertex_over at filter (a ∷ m ∷ [])) → IsThere vs table made m
  filter_mask a m at e = ready.there m (vertex_over at filter (a ∷ m ∷ [])) e (inr (inl refl)) (ready.block.can i (vertex_over at filter (a ∷ m ∷ [])) e is_cut).1

  -- ---- scans

  pub goes_on : (a : ℕ) (at : At) (s : Scan) (c : Seen) → slice_get vs i ≡ Some (vertex_over at (scan s) (a ∷ [])) → carries i ≡ Some c → GoesOn vs h i a at s c
  goes_on a at s c e q = ready.block.scans i a (vertex_over at (scan s) (a ∷ [])) s c ready.among e refl refl q

  pub lacks_carry : (a : ℕ) (at : At) (s : Scan) → slice_get vs i ≡ Some (vertex_over at (scan s) (a ∷ [])) → ((c : Seen) → carries i ≡ Some c → class_of_cell c ≡ (shape_at vs i).class → ⊥) → ⊥
  lacks_carry a at s e none = (let w = ready.carried (ap is_scan_at e) in none w.0 w.1 (goes_on a at s w.0 e w.1).class)

  -- ---- a variable

  pub stored_told : (v : Vertex) → slice_get vs i ≡ Some v → (k : (s : ℕ) × (x : ℕ) × (c : Class) × (v.made ≡ stored s x c)) → IsThere vs table made i × (fault_of (h i) ≡ None)
  stored_told v e k =
      let w = ready.block.variables i k.0 k.1 v k.2 e is_cut k.3 in
      let is : h i ≡ columns k.0 k.1 = ready.block.over.made i v e is_cut ∙ ap (λ (n : Made). outcome_over columns (so_far i) v.at n (map (value_over f h) v.args)) k.3 in
      let there : column_at vs table made i ≡ Some w.0 = ap (λ (o : Option Vertex). vertex_column table made o i) e ∙ (ap (λ (n : Made). made_at table made n i) k.3 ∙ w.1) in
      ((w.0, there), ap fault_of is ∙ ap fault_of w.2)

-- ---- what makes a node

pub get_some : {A : Type 0} (xs : List A) (i : ℕ) → i < length xs → (x : A) × (slice_get xs i ≡ Some x)
get_some [] i l = absurd (omega (arith, l))
get_some (x ∷ xs) zero l = (x, refl)
get_some (x ∷ xs) (suc i) l = get_some xs i (omega (arith, l))

pub form_given : (vs : List Vertex) (i : ℕ) (form : Form) → i < length vs → IfSome (slice_get vs i) (λ v. IsFormOf v.made v.args form) → (v : Vertex) × (slice_get vs i ≡ Some v) × IsFormOf v.made v.args form
form_given vs i form l h = (let w = get_some vs i l in (w.0, w.1, subst (λ (o : Option Vertex). IfSome o (λ v. IsFormOf v.made v.args form)) w.1 h))

pub made_any : (result : Result Value AllocError) (P : Type 0) → P → IfMade result (λ c. P)
made_any (Ok value.Stored) P p = tt
made_any (Ok (value.Made c)) P p = p
made_any (Ok (value.Failed lead row e)) P p = tt
made_any (Ok value.Missing) P p = tt
made_any (Err e) P p = tt
