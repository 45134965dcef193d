-- Before the first node of a block's work there are the variables alone.
use Rattle.std.specs.Prelude.{◌≡◌, ◌≤◌, refl, ℕ, zero, suc, length, nat_eq, if◌then◌else◌, Bool, true, false, Option, None, Some, option_map, Result, Ok, Err, List, [], ◌∷◌, map, slice_get}
use Rattle.std.specs.HashMap.{HashMap, get}
use Rattle.std.specs.Map.{lookup}
use Rattle.std.proofs.Common.{rules, ap, sym, subst, ◌∙◌, arith}
use Rattle.tall_value.specs.declared.class.Class.{Class}
use Rattle.tall_value.specs.contracts.class.ClassPartialEq.TheImpl as class_eq
use Rattle.tall_value.specs.Cells.{Seen}
use Rattle.tall_dense.specs.Columns.{SeenColumn}
use Rattle.tall_column.specs.Tables.{HasHeight, IsTable, height_of}
use Rattle.tall_semantics.specs.Operations.{Made, stored, operation}
use Rattle.tall_semantics.specs.Outcomes.{Outcome, rows}
use Rattle.tall_semantics.specs.Shapes.{Shape, ShapeRefusal, stored_shape}
use Rattle.tall_semantics.specs.ShapesInOrder.{IsMade, made_shape, shape_at}
use Rattle.tall_semantics.specs.Spaces.{is_single}
use Rattle.tall_semantics.specs.Talls.{Columns, Tall}
use Rattle.tall_semantics.specs.Deferred.{Vertex, IsAmong}
use Rattle.tall_semantics.proofs.Basics.{inside}
use Rattle.tall_semantics.proofs.ShapesInOrderLaws.{shapes_mean}
use Rattle.tall_value.specs.Columns.{numbered}
use Rattle.tall_blocks.specs.ValuesOver.{outcome_over, value_over}
use Rattle.tall_block.specs.OfBlocks.{AreColumns, AreShort, column_at, made_at, of_class, variable_at, vertex_column}
use Rattle.tall_block.specs.BlockWork.{AreBlockValues, IsBlock}
use Rattle.tall_block.specs.Steps.{looked_first}
use Rattle.tall_block.specs.Shown.{Shows}
use Rattle.tall_block.proofs.Operators.{cells_numbered}

class_same : (a b : Class) → (class_eq.ghosts).eq a b ≡ true → a ≡ b
class_same a b h = search rules

-- a variable that is there has the class that is asked for
by_test : (b : Bool) (c d : SeenColumn) → (if b then Some c else None) ≡ Some d → (b ≡ true) × (c ≡ d)
by_test true c d e = (refl, inside c d e)
by_test false c d e = absurd (cc)

of_class_is : (k : Class) (o : Option SeenColumn) (c : SeenColumn) → of_class k o ≡ Some c → c.class ≡ k
of_class_is k None c e = absurd (cc)
of_class_is k (Some d) c e =
    let w = by_test ((class_eq.ghosts).eq d.class k) d c e in
    ap (λ (x : SeenColumn). x.class) (sym w.1) ∙ class_same d.class k w.0

-- a variable has the height of its table
of_class_there : (k : Class) (o : Option SeenColumn) (c : SeenColumn) → of_class k o ≡ Some c → o ≡ Some c
of_class_there k None c e = absurd (cc)
of_class_there k (Some d) c e = (let w = by_test ((class_eq.ghosts).eq d.class k) d c e in ap (λ (x : SeenColumn). Some x) w.1)

abbrev entry_column : List ℕ × SeenColumn → SeenColumn
entry_column e = e.1

of_entry : (height : ℕ) (entries : List (List ℕ × SeenColumn)) → HasHeight height entries → (x : ℕ) (c : SeenColumn) → option_map entry_column (slice_get entries x) ≡ Some c → length c.cells ≤ height
of_entry height [] h x c e = absurd (cc)
of_entry height (d ∷ ds) h zero c e = (let q : length d.1.cells ≡ height = h.0 in let s : length d.1.cells ≡ length c.cells = ap (λ (k : SeenColumn). length k.cells) (inside d.1 c e) in omega (arith, q, s))
of_entry height (d ∷ ds) h (suc x) c e = of_entry height ds h.1 x c e

of_height : (table : List (List ℕ × SeenColumn)) (height : ℕ) → HasHeight height table → (x : ℕ) (k : Class) (c : SeenColumn) → variable_at table x k ≡ Some c → length c.cells ≤ height
of_height table height h x k c e = of_entry height table h x c (of_class_there k (option_map entry_column (slice_get table x)) c e)

shape_ok : Shape → Result Shape ShapeRefusal
shape_ok s = Ok s

stored_made : (s x : ℕ) (k : Class) (args : List Shape) (t : Shape) → made_shape (stored s x k) args ≡ shape_ok t → (args ≡ []) × (stored_shape s x k ≡ t)
unfolding shape_ok
stored_made s x k [] t e = (refl, ap (λ (r : Result Shape ShapeRefusal). elim r [ Ok u ↦ u | Err z ↦ t ]) e)
stored_made s x k (a ∷ args) t e = absurd (cc)

no_args : (args : List ℕ) (g : ℕ → Shape) → map g args ≡ [] → (a : ℕ) → IsAmong args a → ⊥
no_args [] g e a m = m
no_args (b ∷ args) g e a m = cc

module _ {S : Type 0} (vs : List Vertex) (table : List (List ℕ × SeenColumn)) (none : HashMap ℕ SeenColumn S) (empty : none.entries ≡ []) where
  nothing : (i : ℕ) → get nat_eq none i ≡ None
  nothing i = ap (lookup (nat_eq i)) empty

  -- what is there is a variable
  record Variable (i : ℕ) (c : SeenColumn) : Type 0 where
    v : Vertex
    s : ℕ
    x : ℕ
    k : Class
    here : slice_get vs i ≡ Some v
    made : v.made ≡ stored s x k
    is : variable_at table x k ≡ Some c

  by_made : (i : ℕ) (v : Vertex) (m : Made) (c : SeenColumn) → slice_get vs i ≡ Some v → v.made ≡ m → made_at table none m i ≡ Some c → Variable i c
  by_made i v (stored s x k) c e q r = record { v = v; s = s; x = x; k = k; here = e; made = q; is = r }
  by_made i v (operation op) c e q r = absurd (let n : get nat_eq none i ≡ None = nothing i in cc)

  by_vertex : (i : ℕ) (o : Option Vertex) (c : SeenColumn) → slice_get vs i ≡ o → vertex_column table none o i ≡ Some c → Variable i c
  by_vertex i None c e r = absurd (cc)
  by_vertex i (Some v) c e r = by_made i v v.made c e refl r

  is_variable : (i : ℕ) (c : SeenColumn) → column_at vs table none i ≡ Some c → Variable i c
  is_variable i c r = by_vertex i (slice_get vs i) c refl r

  shape_of : IsMade vs → (i : ℕ) (c : SeenColumn) (w : Variable i c) → (map (shape_at vs) w.v.args ≡ []) × (stored_shape w.s w.x w.k ≡ shape_at vs i)
  unfolding shape_ok
  shape_of is_made i c w = stored_made w.s w.x w.k (map (shape_at vs) w.v.args) (shape_at vs i) (ap (λ (m : Made). made_shape m (map (shape_at vs) w.v.args)) (sym w.made) ∙ shapes_mean vs is_made i w.v w.here)

  pub start_columns : IsMade vs → AreColumns vs table none
  start_columns is_made i c r =
      let w = is_variable i c r in
      let t = shape_of is_made i c w in
      (of_class_is w.k _ c w.is ∙ ap (λ (s : Shape). s.class) t.1, ap (λ (s : Shape). is_single s.space) (sym t.1))

  pub start_short : IsTable table → AreShort vs table none
  start_short is i c r = (let w = is_variable i c r in of_height table (height_of table) is.one_height w.x w.k c w.is)

module _ {vs : List Vertex} {table : List (List ℕ × SeenColumn)} {scalars carries : ℕ → Option Seen} {first : ℕ} {work : List ℕ} {columns : Columns} {so_far : ℕ → List Seen} {f : ℕ → Tall} {cut : ℕ → Bool} {h : ℕ → Outcome}
    (block : IsBlock vs table scalars carries first work columns so_far f cut h) (is_made : IsMade vs) where
  pub nothing_made : {S : Type 0} (none : HashMap ℕ SeenColumn S) → none.entries ≡ [] → (carry : ℕ → Option Seen) → AreBlockValues vs table none f cut h (looked_first vs carry work 0) None
  nothing_made none empty carry = record {
    shown = λ i c is r. shown_variable i c is (is_variable vs table none empty i c r);
    closed = λ i a v c r e m is. (let w = is_variable vs table none empty i c r in absurd (no_args v.args (shape_at vs) (ap (λ (u : Vertex). map (shape_at vs) u.args) (inside v w.v (sym e ∙ w.here)) ∙ (shape_of vs table none empty is_made i c w).0) a m));
    there = λ i m below. absurd m;
    seen = record { one = λ x e. absurd (cc); least = λ i y m own. absurd m };
  }
    where
      shown_variable : (i : ℕ) (c : SeenColumn) → cut i ≡ true → Variable vs table none empty i c → Shows (h i) c.cells
      shown_variable i c is w =
          let u = block.variables i w.s w.x w.v w.k w.here is w.made in
          let same : u.0 ≡ c = inside u.0 c (sym u.1 ∙ w.is) in
          let own : h i ≡ rows (numbered first u.0.cells) = block.over.made i w.v w.here is ∙ (ap (λ (m : Made). outcome_over columns (so_far i) w.v.at m (map (value_over f h) w.v.args)) w.made ∙ u.2) in
          subst (λ (o : Outcome). Shows o c.cells) (sym own) (cells_numbered first u.0.cells ∙ ap (λ (d : SeenColumn). d.cells) same)
