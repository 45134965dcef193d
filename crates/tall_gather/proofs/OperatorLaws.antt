-- Operators over what is known.
use Rattle.std.specs.Prelude.{◌≡◌, refl, ℕ, Bool, true, false, Some, Result, Ok, Err, List, [], ◌∷◌, slice_get}
use Rattle.std.proofs.Common.{ap, sym, subst, ◌∙◌, IfOk, inl, inr}
use Rattle.tall_value.specs.declared.class.Class.{Class}
use Rattle.tall_value.specs.declared.faults.CellFault.{CellFault}
use Rattle.tall_value.specs.declared.operators.Binary.{Binary}
use Rattle.tall_value.specs.declared.operators.Unary.{Unary}
use Rattle.tall_value.specs.Cells.{Seen}
use Rattle.tall_value.specs.CellOperators.{unary_cell, binary_cell}
use Rattle.tall_value.specs.ClassTables.{binary_class, unary_class}
use Rattle.tall_value.specs.Columns.{cells}
use Rattle.tall_value.specs.Reductions.{or_fault}
use Rattle.tall_dense.specs.Columns.{SeenColumn, class_of_cell}
use Rattle.tall_dense.specs.declared.faults.OpFault.{OpFault}
use Rattle.tall_column.proofs.ClassLemmas.{class_of_one, class_of_two}
use Rattle.tall_semantics.specs.Operations.{binary, constant, unary}
use Rattle.tall_semantics.specs.Faults.{At}
use Rattle.tall_semantics.specs.Outcomes.{Outcome, rows, scalar, alone, elementwise_one, elementwise_two, rows_in}
use Rattle.tall_semantics.specs.Shapes.{Shape, ShapeRefusal, allowed, common}
use Rattle.tall_semantics.specs.ShapesInOrder.{IsMade, shape_at}
use Rattle.tall_semantics.specs.Spaces.{Space, single, is_single}
use Rattle.tall_semantics.specs.Talls.{Columns, Tall}
use Rattle.tall_semantics.specs.Deferred.{Vertex, IsOrdered}
use Rattle.tall_semantics.proofs.ShapeLaws.{inside, place_ok, placed_is, space_ok}
use Rattle.tall_semantics.proofs.SpaceLaws.{common_is}
use Rattle.tall_blocks.specs.Carries.{Rows}
use Rattle.tall_fuse.specs.Results.{Found}
use Rattle.tall_block.specs.OfBlocks.{IsOperation}
use Rattle.tall_block.specs.Shown.{Shows as ShowsCells, Tells}
use Rattle.tall_part.specs.declared.results.EndColumn.{EndColumn}
use Rattle.tall_part.specs.declared.results.EndFault.{EndFault}
use Rattle.tall_pass.specs.Fitting.{IsFit, has_numbers}
use Rattle.tall_pass.specs.Told.{Shows}
use Rattle.tall_gather.specs.Rests.{IsComputed, IsRestAt}
use Rattle.tall_gather.specs.Smalls.{TellsAnswer, TellsValue}
use Rattle.tall_gather.proofs.LeadLaws.{Leads, leads}
use Rattle.tall_gather.proofs.NodeLaws.{accepted_as, no_fault, operand_stands, own_one, own_two, rest_numbered, shape_is, shown_rows, shown_scalar}

-- ---- spaces

pub unary_space : (vs : List Vertex) → IsMade vs → (i a : ℕ) (op : Unary) → IsOperation vs i (unary op) (a ∷ []) → (shape_at vs a).space ≡ (shape_at vs i).space
unary_space vs made i a op node =
    let w = accepted_as vs made i (unary op) (a ∷ []) node in
    inside (shape_at vs a).space w.place.1 (placed_is (allowed (unary_class op (shape_at vs a).class)) (space_ok (shape_at vs a).space) w.place w.accepted) ∙ w.space_is

-- a column gives its space
pub record AreOperands (vs : List Vertex) (i a b : ℕ) : Type 0 where
  pub left : is_single (shape_at vs a).space ≡ false → (shape_at vs a).space ≡ (shape_at vs i).space
  pub right : is_single (shape_at vs b).space ≡ false → (shape_at vs b).space ≡ (shape_at vs i).space
  pub neither : is_single (shape_at vs a).space ≡ true → is_single (shape_at vs b).space ≡ true → is_single (shape_at vs i).space ≡ true

pub binary_spaces : (vs : List Vertex) → IsMade vs → (i a b : ℕ) (op : Binary) → IsOperation vs i (binary op) (a ∷ b ∷ []) → AreOperands vs i a b
binary_spaces vs made i a b op node =
    let w = accepted_as vs made i (binary op) (a ∷ b ∷ []) node in
    let x : Shape = shape_at vs a in
    let y : Shape = shape_at vs b in
    let k = common_is x.space y.space w.place.1 (placed_is (allowed (binary_class op x.class (is_single x.space) y.class (is_single y.space))) (common x.space y.space) w.place w.accepted) in
    record {
      left = λ e. k.0 e ∙ w.space_is;
      right = λ e. k.1 e ∙ w.space_is;
      neither = λ e g. sym (ap is_single (k.2 e g ∙ w.space_is));
    }

module _ (vs : List Vertex) (made : IsMade vs) (i : ℕ) (rest : IsRestAt vs i) where
  -- the operand of one leads
  pub unary_leads : (a : ℕ) (op : Unary) (x : Found) → IsOperation vs i (unary op) (a ∷ []) → is_single (shape_at vs a).space ≡ false → IsFit (shape_at vs a) x → Leads vs i a x
  unary_leads a op x node e fit = leads vs i a (unary op) (a ∷ []) x rest node (inl refl) e (unary_space vs made i a op node) fit

  -- the left operand of two leads, where it is a column, and so does the right one
  pub left_leads : (a b : ℕ) (op : Binary) (x : Found) → IsOperation vs i (binary op) (a ∷ b ∷ []) → is_single (shape_at vs a).space ≡ false → IsFit (shape_at vs a) x → Leads vs i a x
  left_leads a b op x node e fit = leads vs i a (binary op) (a ∷ b ∷ []) x rest node (inl refl) e ((binary_spaces vs made i a b op node).left e) fit

  pub right_leads : (a b : ℕ) (op : Binary) (y : Found) → IsOperation vs i (binary op) (a ∷ b ∷ []) → is_single (shape_at vs b).space ≡ false → IsFit (shape_at vs b) y → Leads vs i b y
  right_leads a b op y node e fit = leads vs i b (binary op) (a ∷ b ∷ []) y rest node (inr (inl refl)) e ((binary_spaces vs made i a b op node).right e) fit

-- a constant is a scalar of its cell's class
pub record IsConstant (vs : List Vertex) (i : ℕ) (c : Seen) : Type 0 where
  pub class_is : class_of_cell c ≡ (shape_at vs i).class
  pub single_is : is_single (shape_at vs i).space ≡ true

pub constant_is : (vs : List Vertex) → IsMade vs → (i : ℕ) (c : Seen) → IsOperation vs i (constant c) [] → IsConstant vs i c
constant_is vs made i c node =
    let w = accepted_as vs made i (constant c) [] node in
    record { class_is = class_placed (class_of_cell c) single w.place w.accepted ∙ w.class_is; single_is = ap is_single (sym (space_placed (class_of_cell c) single w.place w.accepted ∙ w.space_is)) }
  where
    class_placed : (c : Class) (s : Space) (p : Class × Space) → place_ok (c, s) ≡ place_ok p → c ≡ p.0
    class_placed c s p h = ap (λ (r : Result (Class × Space) ShapeRefusal). elim r [ Ok q ↦ q.0 | Err e ↦ c ]) h

    space_placed : (c : Class) (s : Space) (p : Class × Space) → place_ok (c, s) ≡ place_ok p → s ≡ p.1
    space_placed c s p h = ap (λ (r : Result (Class × Space) ShapeRefusal). elim r [ Ok q ↦ q.1 | Err e ↦ s ]) h

-- ---- classes of cells

pub unary_cell_class : (op : Unary) (a n : Class) (c : Seen) (r : Result Seen CellFault) → r ≡ unary_cell op c → class_of_cell c ≡ a → unary_class op a ≡ Ok n → IfOk r (λ d. class_of_cell d ≡ n)
unary_cell_class op a n c (Ok d) e is taken = class_of_one op a n c d taken is (sym e)
unary_cell_class op a n c (Err x) e is taken = tt

pub binary_cell_class : (op : Binary) (a b n : Class) (s t : Bool) (c d : Seen) (r : Result Seen CellFault) → r ≡ binary_cell op c d → class_of_cell c ≡ a → class_of_cell d ≡ b → binary_class op a s b t ≡ Ok n → IfOk r (λ k. class_of_cell k ≡ n)
binary_cell_class op a b n s t c d (Ok k) e is also taken = class_of_two op a b n s t c d k taken is also (sym e)
binary_cell_class op a b n s t c d (Err x) e is also taken = tt

-- the first cell of a scalar
pub first_is : (cs : List Seen) (c d : Seen) → cs ≡ c ∷ [] → slice_get cs 0 ≡ Some d → c ≡ d
first_is cs c d e g = by c d (sym (ap (λ l. slice_get l 0) e) ∙ g)
  where
    by : (c d : Seen) → Some c ≡ Some d → c ≡ d
    by c d e = cc

-- ---- what is told

-- what is told of the outcome of rows is told of the node's, which is the same
pub tells_of : (at : At) (rs : Rows) (x y : Outcome) (answer : Result SeenColumn OpFault) → y ≡ x → Tells at rs x answer → Tells at rs y answer
tells_of at rs x y answer e h = subst (λ (o : Outcome). Tells at rs o answer) (sym e) h

module _ (columns : Columns) (vs : List Vertex) (f : ℕ → Tall) (computed : IsComputed columns vs f) (made : IsMade vs) (ordered : IsOrdered vs) where
  -- a scalar has no numbers
  pub single_told : (i : ℕ) (v : Vertex) (x : Outcome) (result : Result EndColumn EndFault) → IsRestAt vs i → slice_get vs i ≡ Some v → is_single (shape_at vs i).space ≡ true → (f i).outcome ≡ x → TellsAnswer false x result → TellsValue (f i) result
  single_told i v x result rest e s is h =
      subst (λ b. TellsAnswer b (f i).outcome result) (sym (ap (λ (t : Shape). has_numbers t.space) (shape_is columns vs f computed made ordered i v e) ∙ rest_numbered vs i true rest s))
      (subst (λ o. TellsAnswer false o result) (sym is) h)

  pub unary_scalar : (i a : ℕ) (op : Unary) (node : IsOperation vs i (unary op) (a ∷ [])) (x : Found) (c : Seen) → is_single (shape_at vs a).space ≡ true → Shows (f a) x → slice_get x.column.cells 0 ≡ Some c → (f i).outcome ≡ alone node.0 (or_fault (unary_cell op c))
  unary_scalar i a op node x c s shows first =
      let w = operand_stands columns vs f computed made ordered i a (unary op) (a ∷ []) node (inl refl) in
      let k = shown_scalar columns vs f computed made ordered a w.0 x w.1 shows s in
      let same : k.0 ≡ c = first_is x.column.cells k.0 c k.2 first in
      own_one columns vs f computed made ordered i a (unary op) node (no_fault (f a) x shows) ∙ (ap (elementwise_one node.0 op) k.1 ∙ ap (λ d. alone node.0 (or_fault (unary_cell op d))) same)

  pub unary_tells : (i a : ℕ) (op : Unary) (node : IsOperation vs i (unary op) (a ∷ [])) (x : Found) (answer : Result SeenColumn OpFault) → Shows (f a) x
      → ((at : At) (o : Outcome) → ShowsCells o x.column.cells → Tells at (rows_in o) (elementwise_one at op o) answer) → (rs : Rows) → (f a).outcome ≡ rows rs → cells rs ≡ x.column.cells → Tells node.0 rs (f i).outcome answer
  unary_tells i a op node x answer shows h rs e q =
      tells_of node.0 rs (elementwise_one node.0 op (rows rs)) (f i).outcome answer (own_one columns vs f computed made ordered i a (unary op) node (no_fault (f a) x shows) ∙ ap (elementwise_one node.0 op) e) (h node.0 (rows rs) q)

  own_binary : (i a b : ℕ) (op : Binary) (node : IsOperation vs i (binary op) (a ∷ b ∷ [])) (x y : Found) (o p : Outcome) → Shows (f a) x → Shows (f b) y → (f a).outcome ≡ o → (f b).outcome ≡ p → (f i).outcome ≡ elementwise_two node.0 op o p
  own_binary i a b op node x y o p sx sy eo ep =
      own_two columns vs f computed made ordered i a b (binary op) node (no_fault (f a) x sx) (no_fault (f b) y sy) ∙ (ap (λ z. elementwise_two node.0 op z (f b).outcome) eo ∙ ap (elementwise_two node.0 op o) ep)

  scalar_at : (i a b c : ℕ) (op : Binary) (node : IsOperation vs i (binary op) (a ∷ b ∷ [])) (x : Found) (d : Seen) → Rattle.tall_semantics.specs.Deferred.IsAmong (a ∷ b ∷ []) c → is_single (shape_at vs c).space ≡ true → Shows (f c) x → slice_get x.column.cells 0 ≡ Some d → (f c).outcome ≡ scalar d
  scalar_at i a b c op node x d m s shows first =
      let w = operand_stands columns vs f computed made ordered i c (binary op) (a ∷ b ∷ []) node m in
      let k = shown_scalar columns vs f computed made ordered c w.0 x w.1 shows s in
      k.1 ∙ ap scalar (first_is x.column.cells k.0 d k.2 first)

  pub binary_scalars : (i a b : ℕ) (op : Binary) (node : IsOperation vs i (binary op) (a ∷ b ∷ [])) (x y : Found) (c d : Seen) → is_single (shape_at vs a).space ≡ true → is_single (shape_at vs b).space ≡ true → Shows (f a) x → Shows (f b) y
      → slice_get x.column.cells 0 ≡ Some c → slice_get y.column.cells 0 ≡ Some d → (f i).outcome ≡ alone node.0 (or_fault (binary_cell op c d))
  binary_scalars i a b op node x y c d s t sx sy fx fy =
      own_binary i a b op node x y (scalar c) (scalar d) sx sy (scalar_at i a b a op node x c (inl refl) s sx fx) (scalar_at i a b b op node y d (inr (inl refl)) t sy fy)

  pub left_tells : (i a b : ℕ) (op : Binary) (node : IsOperation vs i (binary op) (a ∷ b ∷ [])) (x y : Found) (c : Seen) (answer : Result SeenColumn OpFault) → is_single (shape_at vs a).space ≡ true → Shows (f a) x → Shows (f b) y → slice_get x.column.cells 0 ≡ Some c
      → ((at : At) (o : Outcome) → ShowsCells o y.column.cells → Tells at (rows_in o) (elementwise_two at op (scalar c) o) answer) → (rs : Rows) → (f b).outcome ≡ rows rs → cells rs ≡ y.column.cells → Tells node.0 rs (f i).outcome answer
  left_tells i a b op node x y c answer s sx sy fx h rs e q =
      tells_of node.0 rs (elementwise_two node.0 op (scalar c) (rows rs)) (f i).outcome answer (own_binary i a b op node x y (scalar c) (rows rs) sx sy (scalar_at i a b a op node x c (inl refl) s sx fx) e) (h node.0 (rows rs) q)

  pub right_tells : (i a b : ℕ) (op : Binary) (node : IsOperation vs i (binary op) (a ∷ b ∷ [])) (x y : Found) (d : Seen) (answer : Result SeenColumn OpFault) → is_single (shape_at vs b).space ≡ true → Shows (f a) x → Shows (f b) y → slice_get y.column.cells 0 ≡ Some d
      → ((at : At) (o : Outcome) → ShowsCells o x.column.cells → Tells at (rows_in o) (elementwise_two at op o (scalar d)) answer) → (rs : Rows) → (f a).outcome ≡ rows rs → cells rs ≡ x.column.cells → Tells node.0 rs (f i).outcome answer
  right_tells i a b op node x y d answer t sx sy fy h rs e q =
      tells_of node.0 rs (elementwise_two node.0 op (rows rs) (scalar d)) (f i).outcome answer (own_binary i a b op node x y (rows rs) (scalar d) sx sy e (scalar_at i a b b op node y d (inr (inl refl)) t sy fy)) (h node.0 (rows rs) q)

  pub both_tell : (i a b : ℕ) (op : Binary) (node : IsOperation vs i (binary op) (a ∷ b ∷ [])) (x y : Found) (answer : Result SeenColumn OpFault) → is_single (shape_at vs b).space ≡ false → has_numbers (shape_at vs b).space ≡ true → Shows (f a) x → Shows (f b) y
      → ((at : At) (o p : Outcome) → ShowsCells o x.column.cells → ShowsCells p y.column.cells → Tells at (rows_in o) (elementwise_two at op o p) answer) → (rs : Rows) → (f a).outcome ≡ rows rs → cells rs ≡ x.column.cells → Tells node.0 rs (f i).outcome answer
  both_tell i a b op node x y answer s n sx sy h rs e q =
      let w = operand_stands columns vs f computed made ordered i b (binary op) (a ∷ b ∷ []) node (inr (inl refl)) in
      let ss = shown_rows columns vs f computed made ordered b w.0 y w.1 sy s n in
      tells_of node.0 rs (elementwise_two node.0 op (rows rs) (rows ss.0)) (f i).outcome answer (own_binary i a b op node x y (rows rs) (rows ss.0) sx sy e ss.1) (h node.0 (rows rs) (rows ss.0) q (sym ss.2))
