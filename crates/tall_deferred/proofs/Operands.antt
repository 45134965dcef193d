-- Operators over tall values: what the definitions give where an operand is a scalar in memory, and by shapes that a graph tells.
use Rattle.std.specs.Prelude.{◌≡◌, refl, ℕ, ◌<◌, ◌+◌, Bool, true, false, if◌then◌else◌, List, [], ◌∷◌, ◌++◌, length, map, get_or, Result, Ok, Err}
use Rattle.std.proofs.Common.{ap, sym, subst, ◌∙◌, arith}
use Rattle.std.proofs.lemmas.List.{length-append}
use Rattle.std.proofs.lemmas.Option.{slice_get-get_or}
use Rattle.tall_value.specs.declared.class.Class.{Class}
use Rattle.tall_value.specs.declared.faults.ClassFault.{ClassFault}
use Rattle.tall_value.specs.declared.operators.Binary.{Binary}
use Rattle.tall_value.specs.declared.operators.Unary.{Unary}
use Rattle.tall_value.specs.Cells.{Seen}
use Rattle.tall_grammar.specs.declared.expressions.Prefix.{Prefix}
use Rattle.tall_grammar.specs.declared.expressions.Infix.{Infix}
use Rattle.tall_semantics.specs.Deferred.{Vertex, AllBelow, IsMeaning}
use Rattle.tall_semantics.specs.Faults.{At}
use Rattle.tall_semantics.specs.Operations as op
use Rattle.tall_semantics.specs.Shapes.{Shape}
use Rattle.tall_semantics.specs.Spaces.{is_single}
use Rattle.tall_semantics.specs.ShapesInOrder.{IsMade, shape_at}
use Rattle.tall_semantics.specs.Talls.{Tall, Columns}
use Rattle.tall_semantics.proofs.ShapesInOrderLaws.{value_shape}
use Rattle.tall_local.specs.MemoryOperators.{unary_of, binary_of, scalars_fit}
use Rattle.tall_local.specs.Values.{deferred}
use Rattle.tall_local.specs.Refusals.{Refusal, incompatible, bad_argument, refused_class, and_then}
use Rattle.tall_script.specs.ScriptValues.{TallValue, computed, tall_answer, deferring, beside_scalar, beside_column, unary_value, binary_value, is_scalar_value, prefix_value, infix_value}
use Rattle.tall_deferred.specs.Answers.{Comes}
use Rattle.tall_deferred.specs.Faults.{IsDue}
use Rattle.tall_deferred.specs.Operands.{pair_of, classes_beside}
use Rattle.tall_deferred.specs.Values.{value_at}
use Rattle.tall_deferred.specs.declared.faults.ValueFault.{ValueFault}
use Rattle.tall_deferred.specs.declared.values.ScriptValue.{ScriptValue}
use Rattle.tall_deferred.proofs.Grown.{due_through}

-- ---- shapes that a graph tells

abbrev no_vertex : Vertex
no_vertex = record { at = record { number = 0; line = 0 }; made = op.operation op.filter; args = [] }

pub shape_told : (columns : Columns) (vs : List Vertex) (f : ℕ → Tall) (x : ℕ) → IsMade vs → IsMeaning columns vs f → x < length vs → shape_at vs x ≡ (f x).shape
shape_told columns vs f x made m within = sym (value_shape columns vs f made m x (get_or vs x no_vertex) (slice_get-get_or vs x no_vertex within))

pub scalar_told : (columns : Columns) (vs : List Vertex) (f : ℕ → Tall) (x : ℕ) (b : Bool) → IsMade vs → IsMeaning columns vs f → x < length vs → b ≡ is_single (shape_at vs x).space → b ≡ is_single (f x).shape.space
scalar_told columns vs f x b made m within h = h ∙ ap (λ (s : Shape). is_single s.space) (shape_told columns vs f x made m within)

pub classes_told : (columns : Columns) (vs : List Vertex) (f : ℕ → Tall) (x : ℕ) (o : Binary) (swapped : Bool) (a : Class) (b : Bool) (y : Class) (r : Result Class ClassFault) → IsMade vs → IsMeaning columns vs f → x < length vs
    → a ≡ (shape_at vs x).class → b ≡ is_single (shape_at vs x).space → r ≡ classes_beside o swapped a b y → r ≡ classes_beside o swapped (f x).shape.class (is_single (f x).shape.space) y
classes_told columns vs f x o swapped a b y r made m within h k e =
    e ∙ (ap (λ n. classes_beside o swapped n b y) (h ∙ ap (λ (s : Shape). s.class) (shape_told columns vs f x made m within))
    ∙ ap (λ n. classes_beside o swapped (f x).shape.class n y) (scalar_told columns vs f x b made m within k))

-- ---- a column in memory

pub column_met : (want r : Result Class ClassFault) (c : Class) → r ≡ want → r ≡ Ok c → beside_column want ≡ Err incompatible
column_met want r c h e = ap beside_column (sym h ∙ e)

pub column_refused : (want r : Result Class ClassFault) (e : ClassFault) → r ≡ want → r ≡ Err e → beside_column want ≡ Err (refused_class e)
column_refused want r e h k = ap beside_column (sym h ∙ k)

-- ---- a scalar in memory

map_pair : (f : ℕ → Tall) (swapped : Bool) (x y : ℕ) → map f (pair_of swapped x y) ≡ pair_of swapped (f x) (f y)
map_pair f false x y = refl
map_pair f true x y = refl

pub pair_within : (n : ℕ) (swapped : Bool) (x y : ℕ) → x < n → y < n → AllBelow n (pair_of swapped x y)
pair_within n false x y h k = (h, (k, tt))
pair_within n true x y h k = (k, (h, tt))

-- the operator behind the constant
pub behind : (at : At) (c : Seen) (o : Binary) (f : ℕ → Tall) (swapped : Bool) (x y : ℕ) → computed at (op.constant c) [] ≡ Ok (f y)
    → tall_answer (computed at (op.binary o) (map f (pair_of swapped x y))) ≡ beside_scalar at c (λ z. deferring at (op.binary o) (pair_of swapped (f x) z))
behind at c o f swapped x y h =
    ap (λ xs. deferring at (op.binary o) xs) (map_pair f swapped x y)
    ∙ ap (λ r. and_then r (λ z. deferring at (op.binary o) (pair_of swapped (f x) z))) (sym h)

cell_first : (at : At) (c cell : Seen) (f : ℕ → Tall) (y : ℕ) → cell ≡ c → computed at (op.constant cell) [] ≡ Ok (f y) → computed at (op.constant c) [] ≡ Ok (f y)
cell_first at c cell f y e h = subst (λ d. computed at (op.constant d) [] ≡ Ok (f y)) e h

pub joined_given : (at : At) (c cell : Seen) (o : Binary) (f : ℕ → Tall) (swapped : Bool) (x y node : ℕ) (args : List ℕ) → cell ≡ c → args ≡ pair_of swapped x y → computed at (op.constant cell) [] ≡ Ok (f y)
    → computed at (op.binary o) (map f args) ≡ Ok (f node) → beside_scalar at c (λ z. deferring at (op.binary o) (pair_of swapped (f x) z)) ≡ Ok (deferred (f node))
joined_given at c cell o f swapped x y node args e k h g =
    sym (behind at c o f swapped x y (cell_first at c cell f y e h)) ∙ ap tall_answer (subst (λ xs. computed at (op.binary o) (map f xs) ≡ Ok (f node)) k g)

pub joined_refused : (at : At) (c cell : Seen) (o : Binary) (f : ℕ → Tall) (swapped : Bool) (x y : ℕ) (args : List ℕ) (fault : ValueFault) → cell ≡ c → args ≡ pair_of swapped x y → computed at (op.constant cell) [] ≡ Ok (f y)
    → IsDue (computed at (op.binary o) (map f args)) fault → IsDue (beside_scalar at c (λ z. deferring at (op.binary o) (pair_of swapped (f x) z))) fault
joined_refused at c cell o f swapped x y args fault e k h g =
    subst (λ r. IsDue r fault) (behind at c o f swapped x y (cell_first at c cell f y e h))
    (due_through tall_answer (λ r. refl) (computed at (op.binary o) (map f (pair_of swapped x y))) fault (subst (λ xs. IsDue (computed at (op.binary o) (map f xs)) fault) k g))

pub constant_refused : (at : At) (c cell : Seen) (g : Tall → Result TallValue Refusal) (fault : ValueFault) → cell ≡ c → IsDue (computed at (op.constant cell) []) fault → IsDue (beside_scalar at c g) fault
constant_refused at c cell g fault e h =
    due_through (λ r. and_then r g) (λ r. refl) (computed at (op.constant c) []) fault (subst (λ d. IsDue (computed at (op.constant d) []) fault) e h)

pub args_within : (old mid : List Vertex) (v : Vertex) (swapped : Bool) (x y : ℕ) (args : List ℕ) → x < length old → y ≡ length old → mid ≡ old ++ v ∷ [] → args ≡ pair_of swapped x y → AllBelow (length mid) args
args_within old mid v swapped x y args h k g e =
    let n : length mid ≡ length old + 1 = ap length g ∙ length-append old (v ∷ []) in
    subst (AllBelow (length mid)) (sym e) (pair_within (length mid) swapped x y (omega (arith, h, n)) (omega (arith, k, n)))

-- ---- as they are written

pub prefix_given : (at : At) (f : ℕ → Tall) (o : Prefix) (u : Unary) (v : TallValue) (r : Result ScriptValue ValueFault) → u ≡ unary_of o → Comes (value_at f) (unary_value at u v) r → Comes (value_at f) (prefix_value at o v) r
unfolding prefix_value
prefix_given at f o u v r e h = subst (λ n. Comes (value_at f) (unary_value at n v) r) e h

chosen : (f : ℕ → Tall) (b : Bool) (want : Result TallValue Refusal) (r : Result ScriptValue ValueFault) → b ≡ true → Comes (value_at f) want r → Comes (value_at f) (if b then want else Err bad_argument) r
chosen f b want r e h = subst (λ n. Comes (value_at f) (if n then want else Err bad_argument) r) (sym e) h

unfit : (b : Bool) (want : Result TallValue Refusal) → b ≡ false → (if b then want else Err bad_argument) ≡ Err bad_argument
unfit b want e = ap (λ n. if n then want else Err bad_argument) e

pub infix_given : (at : At) (f : ℕ → Tall) (o : Infix) (d : Binary) (v w : TallValue) (a b c : Bool) (r : Result ScriptValue ValueFault) → a ≡ is_scalar_value v → b ≡ is_scalar_value w → c ≡ scalars_fit o a b → c ≡ true → d ≡ binary_of o
    → Comes (value_at f) (binary_value at d v w) r → Comes (value_at f) (infix_value at o v w) r
unfolding infix_value
infix_given at f o d v w a b c r h k e t is given =
    chosen f (scalars_fit o (is_scalar_value v) (is_scalar_value w)) (binary_value at (binary_of o) v w) r
    (ap (λ n. scalars_fit o n (is_scalar_value w)) (sym h) ∙ (ap (λ n. scalars_fit o a n) (sym k) ∙ (sym e ∙ t)))
    (subst (λ n. Comes (value_at f) (binary_value at n v w) r) is given)

pub infix_refused : (at : At) (o : Infix) (v w : TallValue) (a b c : Bool) → a ≡ is_scalar_value v → b ≡ is_scalar_value w → c ≡ scalars_fit o a b → c ≡ false → infix_value at o v w ≡ Err bad_argument
unfolding infix_value
infix_refused at o v w a b c h k e t =
    unfit (scalars_fit o (is_scalar_value v) (is_scalar_value w)) (binary_value at (binary_of o) v w)
    (ap (λ n. scalars_fit o n (is_scalar_value w)) (sym h) ∙ (ap (λ n. scalars_fit o a n) (sym k) ∙ (sym e ∙ t)))
