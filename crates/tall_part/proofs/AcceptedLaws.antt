-- What a graph accepts has operands of classes that the operation takes, and the class of its column.
use Rattle.std.specs.Prelude.{◌≡◌, ◌<◌, refl, ℕ, zero, suc, None, Some, IsOk, Result, Ok, Err, List, [], ◌∷◌, map, slice_get}
use Rattle.std.proofs.Common.{ap, arith, subst}
use Rattle.tall_value.specs.declared.class.Class.{Class}
use Rattle.tall_value.specs.declared.class.Kind.{Kind}
use Rattle.tall_value.specs.declared.faults.ClassFault.{ClassFault}
use Rattle.tall_value.specs.declared.faults.ClassFault.TheVariants.{MixedClass, BadClass}
use Rattle.tall_value.specs.declared.functions.Method.{Method}
use Rattle.tall_value.specs.declared.functions.Method.TheVariants as method
use Rattle.tall_value.specs.Classes.{kind_of}
use Rattle.tall_value.specs.FunctionClasses.{class_results, method_kind, reduction_class, summary_classes}
use Rattle.tall_semantics.specs.Operations.{Op, Part, keys, counts, values, operation}
use Rattle.tall_semantics.specs.Spaces.{Space}
use Rattle.tall_semantics.specs.Spaces as spaces
use Rattle.tall_semantics.specs.Shapes.{Shape, ShapeRefusal, allowed, counted, on_column, part_class, place_of, placed, shape, summarised, summary}
use Rattle.tall_semantics.specs.ShapesInOrder.{IsMade, made_shape, shape_at}
use Rattle.tall_semantics.specs.Deferred.{Vertex}
use Rattle.tall_semantics.proofs.ShapeLaws.{column_is, place_ok, refused, shaped_is}
use Rattle.tall_semantics.proofs.ShapesInOrderLaws.{shapes_mean}
use Rattle.tall_graph.specs.Vertices.{part_of}
use Rattle.tall_part.specs.declared.operation.EndOperation.{EndOperation}
use Rattle.tall_part.specs.declared.operation.EndOperation.TheVariants as end
use Rattle.tall_part.specs.Operations.{method_columns, op_of}
use Rattle.tall_part.specs.Results.{IsAccepted}
use Rattle.tall_part.proofs.GroupFinishLaws.{with_values}

abbrev ok_class : Class → Result Class ClassFault
ok_class c = Ok c

class_taken : (c : Result Class ClassFault) (s : Result Space ShapeRefusal) (p : Class × Space) → placed (allowed c) s ≡ place_ok p → c ≡ ok_class p.0
class_taken (Ok c) (Ok s) p h = ap (λ (r : Result (Class × Space) ShapeRefusal). elim r [ Ok q ↦ ok_class q.0 | Err e ↦ ok_class c ]) h
class_taken (Ok c) (Err e) p h = absurd (cc)
class_taken (Err MixedClass) s p h = absurd (cc)
class_taken (Err BadClass) s p h = absurd (cc)

class_placed : (c : Class) (s : Space) (p : Class × Space) → place_ok (c, s) ≡ place_ok p → ok_class c ≡ ok_class p.0
class_placed c s p h = ap (λ (r : Result (Class × Space) ShapeRefusal). elim r [ Ok q ↦ ok_class q.0 | Err e ↦ ok_class c ]) h

ok_of : (r : Result Class ClassFault) (c : Class) → r ≡ ok_class c → IsOk r
ok_of (Ok d) c h = refl
ok_of (Err e) c h = absurd (cc)

-- ---- groups

kind_taken : (key : Kind) (r : Result Kind ClassFault) (q : Part) (c : Class) → part_class q (class_results (with_values key r)) ≡ ok_class c → IsOk r
kind_taken key (Ok k) q c h = refl
kind_taken key (Err e) q c h = absurd (cc)

method_taken : (m : Method) (a b : Class) (q : Part) (c : Class) → part_class q (summary_classes m a b) ≡ ok_class c → IsOk (method_kind m (kind_of b))
method_taken method.Count a b q c h = refl
method_taken method.Sum a b q c h = kind_taken (kind_of a) (method_kind method.Sum (kind_of b)) q c h
method_taken method.SumNative a b q c h = kind_taken (kind_of a) (method_kind method.SumNative (kind_of b)) q c h
method_taken method.Min a b q c h = kind_taken (kind_of a) (method_kind method.Min (kind_of b)) q c h
method_taken method.Max a b q c h = kind_taken (kind_of a) (method_kind method.Max (kind_of b)) q c h
method_taken method.Nnz a b q c h = kind_taken (kind_of a) (method_kind method.Nnz (kind_of b)) q c h
method_taken method.Nummissing a b q c h = kind_taken (kind_of a) (method_kind method.Nummissing (kind_of b)) q c h

-- the part is one of the two columns of a table of counts
abbrev IsCounted : Method → Part → Type 0
IsCounted method.Count keys = Unit {0}
IsCounted method.Count counts = Unit {0}
IsCounted m q = ⊥

counted_taken : (m : Method) (q : Part) (g : Shape) (p : Class × Space) → counted m q g ≡ place_ok p → IsCounted m q × (part_class q (summary_classes m g.class g.class) ≡ ok_class p.0)
counted_taken method.Count keys g p h = (tt, class_taken (part_class keys (summary_classes method.Count g.class g.class)) (Ok (spaces.groups method.Count g.tree None)) p h)
counted_taken method.Count counts g p h = (tt, class_taken (part_class counts (summary_classes method.Count g.class g.class)) (Ok (spaces.groups method.Count g.tree None)) p h)
counted_taken method.Count values g p h = absurd (refused p h)
counted_taken method.Sum q g p h = absurd (refused p h)
counted_taken method.SumNative q g p h = absurd (refused p h)
counted_taken method.Min q g p h = absurd (refused p h)
counted_taken method.Max q g p h = absurd (refused p h)
counted_taken method.Nnz q g p h = absurd (refused p h)
counted_taken method.Nummissing q g p h = absurd (refused p h)

summary_taken : (m : Method) (q : Part) (g v : Shape) (p : Class × Space) → summary m q g v ≡ place_ok p → part_class q (summary_classes m g.class v.class) ≡ ok_class p.0
summary_taken method.Count q g v p h = absurd (refused p h)
summary_taken method.Sum q g v p h = class_taken (part_class q (summary_classes method.Sum g.class v.class)) (summarised method.Sum g v) p h
summary_taken method.SumNative q g v p h = class_taken (part_class q (summary_classes method.SumNative g.class v.class)) (summarised method.SumNative g v) p h
summary_taken method.Min q g v p h = class_taken (part_class q (summary_classes method.Min g.class v.class)) (summarised method.Min g v) p h
summary_taken method.Max q g v p h = class_taken (part_class q (summary_classes method.Max g.class v.class)) (summarised method.Max g v) p h
summary_taken method.Nnz q g v p h = class_taken (part_class q (summary_classes method.Nnz g.class v.class)) (summarised method.Nnz g v) p h
summary_taken method.Nummissing q g v p h = class_taken (part_class q (summary_classes method.Nummissing g.class v.class)) (summarised method.Nummissing g v) p h

counted_column : (m : Method) (n : ℕ) → IsCounted m (part_of n) → n < 3 → n < method_columns m
counted_column method.Count zero h l = omega arith
counted_column method.Count (suc zero) h l = omega arith
counted_column method.Count (suc (suc zero)) h l = absurd h
counted_column method.Count (suc (suc (suc n))) h l = absurd (omega (arith, l))
counted_column method.Sum n h l = l
counted_column method.SumNative n h l = l
counted_column method.Min n h l = l
counted_column method.Max n h l = l
counted_column method.Nnz n h l = l
counted_column method.Nummissing n h l = l

summary_column : (m : Method) (q : Part) (g v : Shape) (p : Class × Space) (n : ℕ) → summary m q g v ≡ place_ok p → n < 3 → n < method_columns m
summary_column method.Count q g v p n h l = absurd (refused p h)
summary_column method.Sum q g v p n h l = l
summary_column method.SumNative q g v p n h l = l
summary_column method.Min q g v p n h l = l
summary_column method.Max q g v p n h l = l
summary_column method.Nnz q g v p n h l = l
summary_column method.Nummissing q g v p n h l = l

-- ---- all operations

only : (n : ℕ) → n ≡ 0 → n < 1
only n h = omega (arith, h)

one_accepted : (e : EndOperation) (n : ℕ) (x : Shape) (p : Class × Space) → place_of (op_of e n) (x ∷ []) ≡ place_ok p → IsAccepted e n x.class x.class p.0
one_accepted (end.Reduce r) n x p h =
    let q = class_taken (reduction_class r x.class) (Ok spaces.single) p h in
    record { taken = ok_of (reduction_class r x.class) p.0 q; class_is = q; column = only n }
one_accepted (end.Head k) n x p h =
    record { taken = tt; class_is = class_placed x.class (spaces.first k x.space) p (column_is x (Ok (x.class, spaces.first k x.space)) p h); column = only n }
one_accepted (end.Tail k) n x p h =
    record { taken = tt; class_is = class_placed x.class (spaces.last k x.space) p (column_is x (Ok (x.class, spaces.last k x.space)) p h); column = only n }
one_accepted end.Distinct n x p h =
    record { taken = tt; class_is = class_placed x.class (spaces.distinct x.tree) p (column_is x (Ok (x.class, spaces.distinct x.tree)) p h); column = only n }
one_accepted (end.Group m) n x p h =
    let q = counted_taken m (part_of n) x p (column_is x (counted m (part_of n) x) p h) in
    record { taken = method_taken m x.class x.class (part_of n) p.0 q.1; class_is = q.1; column = counted_column m n q.0 }

two_accepted : (e : EndOperation) (n : ℕ) (x y : Shape) (p : Class × Space) → place_of (op_of e n) (x ∷ y ∷ []) ≡ place_ok p → IsAccepted e n x.class y.class p.0
two_accepted (end.Reduce r) n x y p h = absurd (refused p h)
two_accepted (end.Head k) n x y p h = absurd (refused p h)
two_accepted (end.Tail k) n x y p h = absurd (refused p h)
two_accepted end.Distinct n x y p h = absurd (refused p h)
two_accepted (end.Group m) n x y p h =
    let s = column_is y (summary m (part_of n) x y) p (column_is x (on_column y (summary m (part_of n) x y)) p h) in
    let q = summary_taken m (part_of n) x y p s in
    record { taken = method_taken m x.class y.class (part_of n) p.0 q; class_is = q; column = λ l. summary_column m (part_of n) x y p n s l }

accepted_place : (vs : List Vertex) → IsMade vs → (i : ℕ) (v : Vertex) (op : Op) (args : List ℕ) → slice_get vs i ≡ Some v → v.made ≡ operation op → v.args ≡ args
    → (p : Class × Space) × (place_of op (map (shape_at vs) args) ≡ place_ok p) × (p.0 ≡ (shape_at vs i).class)
accepted_place vs made i v op args e m a =
    let shaped : shape op (map (shape_at vs) args) ≡ Ok (shape_at vs i) =
    subst (λ (l : List ℕ). shape op (map (shape_at vs) l) ≡ Ok (shape_at vs i)) a (subst (λ k. made_shape k (map (shape_at vs) v.args) ≡ Ok (shape_at vs i)) m (shapes_mean vs made i v e)) in
    let w = shaped_is op (map (shape_at vs) args) (place_of op (map (shape_at vs) args)) (shape_at vs i) shaped in
    (w.0, w.1, ap (λ (t : Shape). t.class) w.2)

pub one_taken : (vs : List Vertex) → IsMade vs → (i a n : ℕ) (v : Vertex) (e : EndOperation) → slice_get vs i ≡ Some v → v.made ≡ operation (op_of e n) → v.args ≡ a ∷ [] → IsAccepted e n (shape_at vs a).class (shape_at vs a).class (shape_at vs i).class
one_taken vs made i a n v e s m args =
    let w = accepted_place vs made i v (op_of e n) (a ∷ []) s m args in
    subst (λ (c : Class). IsAccepted e n (shape_at vs a).class (shape_at vs a).class c) w.2 (one_accepted e n (shape_at vs a) w.0 w.1)

pub two_taken : (vs : List Vertex) → IsMade vs → (i a b n : ℕ) (v : Vertex) (e : EndOperation) → slice_get vs i ≡ Some v → v.made ≡ operation (op_of e n) → v.args ≡ a ∷ b ∷ [] → IsAccepted e n (shape_at vs a).class (shape_at vs b).class (shape_at vs i).class
two_taken vs made i a b n v e s m args =
    let w = accepted_place vs made i v (op_of e n) (a ∷ b ∷ []) s m args in
    subst (λ (c : Class). IsAccepted e n (shape_at vs a).class (shape_at vs b).class c) w.2 (two_accepted e n (shape_at vs a) (shape_at vs b) w.0 w.1)
