-- What is accepted has operands of the classes that its operation takes; and over operands with rows, none of which is a fault, the
-- outcome is that of the operation.
use Rattle.std.specs.Prelude.{◌≡◌, refl, ℕ, Bool, true, false, Some, IsOk, Result, Ok, Err, List, [], ◌∷◌, map, slice_get}
use Rattle.std.proofs.Common.{ap, sym, subst, ◌∙◌, IfOk, inl, inr, length}
use Rattle.tall_value.specs.declared.class.Class.{Class}
use Rattle.tall_value.specs.declared.class.Class.TheVariants as class
use Rattle.tall_value.specs.declared.faults.ClassFault.{ClassFault}
use Rattle.tall_value.specs.declared.faults.ClassFault.TheVariants.{MixedClass, BadClass}
use Rattle.tall_value.specs.declared.operators.Binary.{Binary}
use Rattle.tall_value.specs.declared.operators.Unary.{Unary}
use Rattle.tall_value.specs.Cells.{Seen}
use Rattle.tall_value.specs.ClassTables.{binary_class, unary_class}
use Rattle.tall_value.specs.Classes.{kind_of}
use Rattle.tall_value.specs.Filters.{kept}
use Rattle.tall_value.specs.FunctionClasses.{logical_kind}
use Rattle.tall_dense.specs.Columns.{SeenColumn}
use Rattle.tall_column.specs.Mapped.{scalar_class}
use Rattle.tall_semantics.specs.Faults.{At, least_fault}
use Rattle.tall_semantics.specs.Operations.{Op, binary, unary, filter, operation}
use Rattle.tall_semantics.specs.Outcomes.{Outcome, rows, scalar, fault, fault_of, rows_in, cells_in}
use Rattle.tall_semantics.specs.Spaces.{Space, is_single}
use Rattle.tall_semantics.specs.Shapes.{Shape, ShapeRefusal, allowed, placed, common, masked_class, masked, on_column, place_of}
use Rattle.tall_semantics.specs.ShapesInOrder.{IsMade, shape_at}
use Rattle.tall_semantics.specs.Talls.{Tall, unless}
use Rattle.tall_semantics.specs.Deferred.{Vertex}
use Rattle.tall_semantics.proofs.ShapeLaws.{column_is, place_ok, shaped_is}
use Rattle.tall_semantics.proofs.ShapesInOrderLaws.{shapes_mean}
use Rattle.tall_blocks.specs.Cut.{IsScalar, IsKnownScalar, CanBeCut, AreAligned}
use Rattle.tall_block.specs.OfBlocks.{IsOperation, ShowsNode, vertex_over}
use Rattle.tall_block.specs.Shown.{Shows}
use Rattle.tall_block.proofs.Operators.{shown_long}

abbrev pub class_ok : Class → Result Class ClassFault
class_ok c = Ok c

pub class_taken : (c : Result Class ClassFault) (s : Result Space ShapeRefusal) (p : Class × Space) → placed (allowed c) s ≡ place_ok p → c ≡ class_ok p.0
class_taken (Ok c) (Ok s) p h = ap (λ (r : Result (Class × Space) ShapeRefusal). elim r [ Ok q ↦ class_ok q.0 | Err e ↦ class_ok c ]) h
class_taken (Ok c) (Err e) p h = absurd (cc)
class_taken (Err MixedClass) s p h = absurd (cc)
class_taken (Err BadClass) s p h = absurd (cc)

pub accepted_place : (vs : List Vertex) → IsMade vs → (i : ℕ) (op : Op) (args : List ℕ) → IsOperation vs i op args
    → (p : Class × Space) × (place_of op (map (shape_at vs) args) ≡ place_ok p) × (p.0 ≡ (shape_at vs i).class)
accepted_place vs made i op args e =
    let w = shaped_is op (map (shape_at vs) args) (place_of op (map (shape_at vs) args)) (shape_at vs i) (shapes_mean vs made i (vertex_over e.0 op args) e.1) in
    (w.0, w.1, ap (λ (t : Shape). t.class) w.2)

pub unary_taken : (vs : List Vertex) → IsMade vs → (i a : ℕ) (op : Unary) → IsOperation vs i (unary op) (a ∷ []) → unary_class op (shape_at vs a).class ≡ class_ok (shape_at vs i).class
unary_taken vs made i a op e =
    let w = accepted_place vs made i (unary op) (a ∷ []) e in
    class_taken (unary_class op (shape_at vs a).class) (Ok (shape_at vs a).space) w.0 w.1 ∙ ap class_ok w.2

pub ok_of : (r : Result Class ClassFault) (c : Class) → r ≡ class_ok c → IsOk r
ok_of (Ok d) c h = refl
ok_of (Err e) c h = absurd (cc)

pub ok_inside : (c d : Class) → class_ok c ≡ class_ok d → c ≡ d
ok_inside c d h = ap (λ (r : Result Class ClassFault). elim r [ Ok z ↦ z | Err e ↦ c ]) h

pub made_class : {E : Type 0} (result : Result SeenColumn E) (r : Result Class ClassFault) (c : Class) → IfOk result (λ d. r ≡ class_ok d.class) → r ≡ class_ok c → IfOk result (λ d. d.class ≡ c)
made_class (Ok column) r c h e = ok_inside column.class c (sym h ∙ e)
made_class (Err x) r c h e = tt

-- no fault goes first
pub one_sound : (x y : Outcome) (cs : List Seen) → Shows x cs → unless (least_fault (fault_of x ∷ [])) y ≡ y
one_sound (rows rs) y cs q = refl
one_sound (scalar c) y cs q = absurd q
one_sound (fault f) y cs q = absurd q

pub two_sound : (x y z : Outcome) (cs ds : List Seen) → Shows x cs → Shows y ds → unless (least_fault (fault_of x ∷ fault_of y ∷ [])) z ≡ z
two_sound (rows rs) (rows ss) z cs ds q r = refl
two_sound (rows rs) (scalar d) z cs ds q r = absurd r
two_sound (rows rs) (fault f) z cs ds q r = absurd r
two_sound (scalar c) y z cs ds q r = absurd q
two_sound (fault f) y z cs ds q r = absurd q

pub right_sound : (x y z : Outcome) (cs : List Seen) (c : Seen) → Shows x cs → y ≡ scalar c → unless (least_fault (fault_of x ∷ fault_of y ∷ [])) z ≡ z
right_sound (rows rs) y z cs c q r = subst (λ (o : Outcome). unless (least_fault (fault_of (rows rs) ∷ fault_of o ∷ [])) z ≡ z) (sym r) refl
right_sound (scalar d) y z cs c q r = absurd q
right_sound (fault f) y z cs c q r = absurd q

pub left_sound : (x y z : Outcome) (cs : List Seen) (c : Seen) → Shows x cs → y ≡ scalar c → unless (least_fault (fault_of y ∷ fault_of x ∷ [])) z ≡ z
left_sound (rows rs) y z cs c q r = subst (λ (o : Outcome). unless (least_fault (fault_of o ∷ fault_of (rows rs) ∷ [])) z ≡ z) (sym r) refl
left_sound (scalar d) y z cs c q r = absurd q
left_sound (fault f) y z cs c q r = absurd q

-- ---- operators of two operands

pub binary_taken : (vs : List Vertex) → IsMade vs → (i a b : ℕ) (op : Binary) → IsOperation vs i (binary op) (a ∷ b ∷ [])
    → binary_class op (shape_at vs a).class (is_single (shape_at vs a).space) (shape_at vs b).class (is_single (shape_at vs b).space) ≡ class_ok (shape_at vs i).class
binary_taken vs made i a b op e =
    let w = accepted_place vs made i (binary op) (a ∷ b ∷ []) e in
    class_taken (binary_class op (shape_at vs a).class (is_single (shape_at vs a).space) (shape_at vs b).class (is_single (shape_at vs b).space)) (common (shape_at vs a).space (shape_at vs b).space) w.0 w.1 ∙ ap class_ok w.2

pub of_taken : (op : Binary) (x y z : Class) (s t u v : Bool) → s ≡ u → t ≡ v → binary_class op x s y t ≡ class_ok z → binary_class op x u y v ≡ class_ok z
of_taken op x y z s t u v p q h = subst (λ (d : Bool). binary_class op x u y d ≡ class_ok z) q (subst (λ (d : Bool). binary_class op x d y t ≡ class_ok z) p h)

pub columns_taken : (vs : List Vertex) → IsMade vs → (i a b : ℕ) (op : Binary) → IsOperation vs i (binary op) (a ∷ b ∷ []) → is_single (shape_at vs a).space ≡ false → is_single (shape_at vs b).space ≡ false
    → binary_class op (shape_at vs a).class false (shape_at vs b).class false ≡ class_ok (shape_at vs i).class
columns_taken vs made i a b op e p q =
    of_taken op (shape_at vs a).class (shape_at vs b).class (shape_at vs i).class (is_single (shape_at vs a).space) (is_single (shape_at vs b).space) false false p q (binary_taken vs made i a b op e)

pub right_taken : (vs : List Vertex) → IsMade vs → (i a s : ℕ) (op : Binary) (k : Class) → IsOperation vs i (binary op) (a ∷ s ∷ []) → is_single (shape_at vs a).space ≡ false → is_single (shape_at vs s).space ≡ true
    → k ≡ (shape_at vs s).class → scalar_class op false k (shape_at vs a).class ≡ class_ok (shape_at vs i).class
right_taken vs made i a s op k e p q r =
    subst (λ (c : Class). scalar_class op false c (shape_at vs a).class ≡ class_ok (shape_at vs i).class) (sym r)
    (of_taken op (shape_at vs a).class (shape_at vs s).class (shape_at vs i).class (is_single (shape_at vs a).space) (is_single (shape_at vs s).space) false true p q (binary_taken vs made i a s op e))

pub left_taken : (vs : List Vertex) → IsMade vs → (i s a : ℕ) (op : Binary) (k : Class) → IsOperation vs i (binary op) (s ∷ a ∷ []) → is_single (shape_at vs s).space ≡ true → is_single (shape_at vs a).space ≡ false
    → k ≡ (shape_at vs s).class → scalar_class op true k (shape_at vs a).class ≡ class_ok (shape_at vs i).class
left_taken vs made i s a op k e p q r =
    subst (λ (c : Class). scalar_class op true c (shape_at vs a).class ≡ class_ok (shape_at vs i).class) (sym r)
    (of_taken op (shape_at vs s).class (shape_at vs a).class (shape_at vs i).class (is_single (shape_at vs s).space) (is_single (shape_at vs a).space) true false p q (binary_taken vs made i s a op e))

-- columns have equally many rows

pub shown_rows : (x : Outcome) (cs : List Seen) → Shows x cs → x ≡ rows (rows_in x)
shown_rows (rows rs) cs q = refl
shown_rows (scalar c) cs q = absurd q
shown_rows (fault f) cs q = absurd q

pub aligned_rows : (vs : List Vertex) (cut : ℕ → Bool) (h : ℕ → Outcome) → AreAligned vs cut h → (i a b : ℕ) (at : At) (op : Op) (cs ds : List Seen) → slice_get vs i ≡ Some (vertex_over at op (a ∷ b ∷ []))
    → cut i ≡ true → (cut a ≡ true) × (cut b ≡ true) → Shows (h a) cs → Shows (h b) ds → length (rows_in (h b)) ≡ length (rows_in (h a))
aligned_rows vs cut h aligned i a b at op cs ds e p both q r =
    sym (aligned i a b (vertex_over at op (a ∷ b ∷ [])) (rows_in (h a)) (rows_in (h b)) e refl p both.0 both.1 (shown_rows (h a) cs q) (shown_rows (h b) ds r))

no_scalar : (f : ℕ → Tall) (cut : ℕ → Bool) (h : ℕ → Outcome) → ((j : ℕ) → cut j ≡ false → h j ≡ (f j).outcome) → (a : ℕ) (cs : List Seen) → IsKnownScalar f cut a → Shows (h a) cs → ⊥
no_scalar f cut h known a cs e r =
    let s : IsScalar (f a).outcome = e.1 in subst (λ (x : Outcome). Shows x cs) (known a e.0 ∙ s.1) r

pub both_cut : (f : ℕ → Tall) (cut : ℕ → Bool) (h : ℕ → Outcome) → ((j : ℕ) → cut j ≡ false → h j ≡ (f j).outcome) → (a b : ℕ) (op : Binary) (cs ds : List Seen) → CanBeCut f cut (operation (binary op)) (a ∷ b ∷ [])
    → Shows (h a) cs → Shows (h b) ds → (cut a ≡ true) × (cut b ≡ true)
both_cut f cut h known a b op cs ds can q r = elim can [
  | inl e ↦ e
  | inr o ↦ elim o [
    | inl e ↦ absurd (no_scalar f cut h known b ds e.1 r)
    | inr e ↦ absurd (no_scalar f cut h known a cs e.0 q)
  ]
]

-- ---- filters

mask_taken : (c m d : Class) → masked_class c (logical_kind (kind_of m)) ≡ class_ok d → (m ≡ class.Logical) × (c ≡ d)
mask_taken c class.Logical d h = (refl, ok_inside c d h)
mask_taken c class.Int8 d h = absurd (cc)
mask_taken c class.Int16 d h = absurd (cc)
mask_taken c class.Int32 d h = absurd (cc)
mask_taken c class.Int64 d h = absurd (cc)
mask_taken c class.Uint8 d h = absurd (cc)
mask_taken c class.Uint16 d h = absurd (cc)
mask_taken c class.Uint32 d h = absurd (cc)
mask_taken c class.Uint64 d h = absurd (cc)
mask_taken c class.Double d h = absurd (cc)
mask_taken c class.Text d h = absurd (cc)

pub filter_taken : (vs : List Vertex) → IsMade vs → (i a m : ℕ) → IsOperation vs i filter (a ∷ m ∷ []) → ((shape_at vs m).class ≡ class.Logical) × ((shape_at vs a).class ≡ (shape_at vs i).class)
filter_taken vs made i a m e =
    let w = accepted_place vs made i filter (a ∷ m ∷ []) e in
    let x : Shape = shape_at vs a in
    let y : Shape = shape_at vs m in
    let r : Result (Class × Space) ShapeRefusal = placed (allowed (masked_class x.class (logical_kind (kind_of y.class)))) (masked x.space y.space y.tree) in
    let t = mask_taken x.class y.class w.0.0 (class_taken (masked_class x.class (logical_kind (kind_of y.class))) (masked x.space y.space y.tree) w.0 (column_is y r w.0 (column_is x (on_column y r) w.0 w.1))) in
    (t.0, t.1 ∙ w.2)

pub filter_class : {E : Type 0} (result : Result SeenColumn E) (c d : Class) → c ≡ d → IfOk result (λ k. k.class ≡ c) → IfOk result (λ k. k.class ≡ d)
filter_class result c d q h = subst (λ (x : Class). IfOk result (λ (k : SeenColumn). k.class ≡ x)) q h

pub filter_shown : {E : Type 0} (vs : List Vertex) (result : Result SeenColumn E) (i a m : ℕ) (x mask : SeenColumn)
    → IfOk result (λ c. length mask.cells ≡ length x.cells → (y z : Outcome) → Shows y x.cells → Shows z mask.cells → Shows (rows (kept (rows_in y) (cells_in z))) c.cells)
    → IfOk result (λ c. ShowsNode vs i filter (a ∷ m ∷ []) ((a, x) ∷ (m, mask) ∷ []) c)
filter_shown vs (Ok column) i a m x mask w = λ columns so_far f cut h block q show at e.
    let l : Shows (h a) x.cells = show.0 in
    let r : Shows (h m) mask.cells = show.1.0 in
    let own : Outcome = rows (kept (rows_in (h a)) (cells_in (h m))) in
    let is : h i ≡ own = block.over.made i (vertex_over at filter (a ∷ m ∷ [])) e q ∙ two_sound (h a) (h m) own x.cells mask.cells l r in
    let same = aligned_rows vs cut h block.aligned i a m at filter x.cells mask.cells e q (block.can i (vertex_over at filter (a ∷ m ∷ [])) e q) l r in
    let long : length mask.cells ≡ length x.cells = shown_long (h m) mask.cells r ∙ (same ∙ sym (shown_long (h a) x.cells l)) in
    subst (λ (o : Outcome). Shows o column.cells) (sym is) (w long (h a) (h m) l r)
filter_shown vs (Err e) i a m x mask w = tt
