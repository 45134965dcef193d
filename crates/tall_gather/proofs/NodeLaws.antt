-- A node that stands in no pass: the space that it is accepted with, and its outcome from what its operands show.
use Rattle.std.specs.Prelude.{◌≡◌, refl, ℕ, zero, suc, ◌<◌, ◌&&◌, not, Bool, true, false, Option, None, Some, List, [], ◌∷◌, length, map, slice_get, IfSome}
use Rattle.std.proofs.Common.{ap, sym, subst, ◌∙◌, arith, inl, inr}
use Rattle.tall_value.specs.declared.class.Class.{Class}
use Rattle.tall_value.specs.Cells.{Seen}
use Rattle.tall_semantics.specs.Faults.{Fault, earlier}
use Rattle.tall_semantics.specs.Operations.{Op, operation}
use Rattle.tall_semantics.specs.Outcomes.{Outcome, rows, scalar, fault, fault_of, cells_in}
use Rattle.tall_semantics.specs.RowsOfSpaces.{numbers_in, row_numbers}
use Rattle.tall_semantics.specs.Shapes.{Shape, place_of}
use Rattle.tall_semantics.specs.ShapesInOrder.{IsMade, shape_at}
use Rattle.tall_semantics.specs.Spaces.{Space, single, rows_of, filtered, first, last, distinct, groups, is_single, has_rows, store_of}
use Rattle.tall_semantics.specs.Plans.{args_of, first_store, or_else}
use Rattle.tall_semantics.specs.Talls.{Columns, Tall, own_outcome, unless}
use Rattle.tall_semantics.specs.Deferred.{Vertex, IsAmong, IsOrdered, fault_in}
use Rattle.tall_semantics.proofs.FitLaws.{FitsTo, from_space}
use Rattle.tall_semantics.proofs.MeaningLaws.{made_value}
use Rattle.tall_semantics.proofs.OriginLaws.{below_among, get_before, tall_outcome}
use Rattle.tall_semantics.proofs.ShapeLaws.{place_ok, shaped_is}
use Rattle.tall_semantics.proofs.ShapesInOrderLaws.{shapes_mean, value_shape}
use Rattle.tall_semantics.proofs.SpaceLaws.{value_fits, value_numbers}
use Rattle.tall_blocks.specs.Carries.{Rows}
use Rattle.tall_fuse.specs.Results.{Found}
use Rattle.tall_block.specs.OfBlocks.{IsOperation, vertex_over}
use Rattle.tall_part.specs.Parts.{numbers}
use Rattle.tall_pass.specs.Fitting.{has_numbers}
use Rattle.tall_pass.specs.Told.{AreNumbersOf, IsOutcome, Shows}
use Rattle.tall_gather.specs.Rests.{IsComputed, IsRestAt}

-- ---- the node

pub stands_below : {A : Type 0} (xs : List A) (i : ℕ) (x : A) → slice_get xs i ≡ Some x → i < length xs
stands_below [] i x e = absurd (cc)
stands_below (y ∷ xs) zero x e = omega arith
stands_below (y ∷ xs) (suc i) x e = (let l = stands_below xs i x e in omega (arith, l))

pub stands : {A : Type 0} (xs : List A) (i : ℕ) → i < length xs → (x : A) × (slice_get xs i ≡ Some x)
stands [] i l = absurd (omega (arith, l))
stands (x ∷ xs) zero l = (x, refl)
stands (x ∷ xs) (suc i) l = stands xs i (omega (arith, l))

-- what the code tells of the node's operation and operands
pub node_is : (vs : List Vertex) (i : ℕ) → i < length vs → (op : Op) (args : List ℕ) → IfSome (slice_get vs i) (λ v. operation op ≡ v.made) → IfSome (slice_get vs i) (λ v. v.args ≡ args) → IsOperation vs i op args
node_is vs i l op args m a =
    let w = stands vs i l in
    let made : operation op ≡ w.0.made = subst (λ o. IfSome o (λ (v : Vertex). operation op ≡ v.made)) w.1 m in
    let are : w.0.args ≡ args = subst (λ o. IfSome o (λ (v : Vertex). v.args ≡ args)) w.1 a in
    (w.0.at, w.1 ∙ ap Some (same w.0 op args made are))
  where
    same : (v : Vertex) (op : Op) (args : List ℕ) → operation op ≡ v.made → v.args ≡ args → v ≡ vertex_over v.at op args
    same v op args e g = ap (λ m. record { at = v.at; made = m; args = v.args }) (sym e) ∙ ap (λ l. record { at = v.at; made = operation op; args = l }) g

-- what an operation over these operands was accepted with
pub record IsAcceptedAs (vs : List Vertex) (i : ℕ) (op : Op) (args : List ℕ) : Type 0 where
  pub place : Class × Space
  pub accepted : place_of op (map (shape_at vs) args) ≡ place_ok place
  pub class_is : place.0 ≡ (shape_at vs i).class
  pub space_is : place.1 ≡ (shape_at vs i).space

pub accepted_as : (vs : List Vertex) → IsMade vs → (i : ℕ) (op : Op) (args : List ℕ) → IsOperation vs i op args → IsAcceptedAs vs i op args
accepted_as vs made i op args e =
    let w = shaped_is op (map (shape_at vs) args) (place_of op (map (shape_at vs) args)) (shape_at vs i) (shapes_mean vs made i (vertex_over e.0 op args) e.1) in
    record { place = w.0; accepted = w.1; class_is = ap (λ (t : Shape). t.class) w.2; space_is = ap (λ (t : Shape). t.space) w.2 }

-- ---- no datastore's rows

none_of_both : (c d : Option ℕ) → or_else c d ≡ None → (c ≡ None) × (d ≡ None)
none_of_both None d h = (refl, h)
none_of_both (Some s) d h = absurd (cc)

none_in : (xs : List Shape) (x : Shape) → first_store (x ∷ xs) ≡ None → (store_of x.space ≡ None) × (first_store xs ≡ None)
none_in xs x h = none_of_both (store_of x.space) (first_store xs) h

none_among : (vs : List Vertex) (args : List ℕ) → first_store (map (shape_at vs) args) ≡ None → (a : ℕ) → IsAmong args a → store_of (shape_at vs a).space ≡ None
none_among vs [] h a m = absurd m
none_among vs (b ∷ args) h a (inl e) = subst (λ c. store_of (shape_at vs c).space ≡ None) e (none_in (map (shape_at vs) args) (shape_at vs b) h).0
none_among vs (b ∷ args) h a (inr m) = none_among vs args (none_in (map (shape_at vs) args) (shape_at vs b) h).1 a m

without_rows : (s : Space) → store_of s ≡ None → has_rows s ≡ false
without_rows single h = refl
without_rows (rows_of s) h = absurd (cc)
without_rows (filtered s m) h = without_rows s h
without_rows (first k s) h = refl
without_rows (last k s) h = refl
without_rows (distinct t) h = refl
without_rows (groups m k d) h = refl

numbered_unless : (s : Space) (b : Bool) → store_of s ≡ None → is_single s ≡ b → has_numbers s ≡ not b
numbered_unless s b h e = ap (λ r. not (is_single s) && not r) (without_rows s h) ∙ (ap (λ c. not c && true) e ∙ by b)
  where
    by : (c : Bool) → (not c && true) ≡ not c
    by true = refl
    by false = refl

-- neither the node nor an operand has a datastore's rows, so its rows have numbers unless it is a scalar
pub rest_numbered : (vs : List Vertex) (i : ℕ) (b : Bool) → IsRestAt vs i → is_single (shape_at vs i).space ≡ b → has_numbers (shape_at vs i).space ≡ not b
rest_numbered vs i b rest e = numbered_unless (shape_at vs i).space b (none_in (map (shape_at vs) (args_of (slice_get vs i))) (shape_at vs i) rest.no_store).0 e

pub operand_numbered : (vs : List Vertex) (i a : ℕ) (op : Op) (args : List ℕ) (b : Bool) → IsRestAt vs i → IsOperation vs i op args → IsAmong args a → is_single (shape_at vs a).space ≡ b → has_numbers (shape_at vs a).space ≡ not b
operand_numbered vs i a op args b rest node m e =
    let all = (none_in (map (shape_at vs) (args_of (slice_get vs i))) (shape_at vs i) rest.no_store).1 in
    let here = subst (λ o. first_store (map (shape_at vs) (args_of o)) ≡ None) node.1 all in
    numbered_unless (shape_at vs a).space b (none_among vs args here a m) e

-- ---- what is known of an operand

pub rows_are : (o : Outcome) (cs : List Seen) (ns : List ℕ) → FitsTo false o → IsOutcome o cs → AreNumbersOf true o ns → (rs : Rows) × (o ≡ rows rs) × (cs ≡ cells_in (rows rs)) × (ns ≡ numbers rs)
rows_are (rows rs) cs ns f h n = (rs, refl, h, n)
rows_are (scalar c) cs ns f h n = absurd (cc)
rows_are (fault x) cs ns f h n = absurd h

pub scalar_is : (o : Outcome) (cs : List Seen) → FitsTo true o → IsOutcome o cs → (c : Seen) × (o ≡ scalar c) × (cs ≡ c ∷ [])
scalar_is (rows rs) cs f h = absurd (cc)
scalar_is (scalar c) cs f h = (c, refl, h)
scalar_is (fault x) cs f h = absurd h

pub no_fault : (x : Tall) (r : Found) → Shows x r → fault_of x.outcome ≡ None
no_fault x r h = by x.outcome r.column.cells h.cells
  where
    by : (o : Outcome) (cs : List Seen) → IsOutcome o cs → fault_of o ≡ None
    by (rows rs) cs g = refl
    by (scalar c) cs g = refl
    by (fault y) cs g = absurd g

-- ---- the node's own outcome

unless_one : (o : Option Fault) (y : Outcome) → o ≡ None → unless (earlier o None) y ≡ y
unless_one o y e = ap (λ p. unless (earlier p None) y) e

unless_two : (o p : Option Fault) (y : Outcome) → o ≡ None → p ≡ None → unless (earlier o (earlier p None)) y ≡ y
unless_two o p y e g = ap (λ q. unless (earlier q (earlier p None)) y) e ∙ ap (λ q. unless (earlier q None) y) g

module _ (columns : Columns) (vs : List Vertex) (f : ℕ → Tall) (computed : IsComputed columns vs f) (made : IsMade vs) (ordered : IsOrdered vs) where
  pub shape_is : (i : ℕ) (v : Vertex) → slice_get vs i ≡ Some v → (f i).shape ≡ shape_at vs i
  shape_is i v e = value_shape columns vs f made computed.meaning i v e

  pub operand_stands : (i a : ℕ) (op : Op) (args : List ℕ) → IsOperation vs i op args → IsAmong args a → (w : Vertex) × (slice_get vs a ≡ Some w)
  operand_stands i a op args node m = get_before vs i a (vertex_over node.0 op args) node.1 (below_among i args a (ordered i (vertex_over node.0 op args) node.1) m)

  -- the outcome fits the space of the shape
  pub fits_to : (a : ℕ) (w : Vertex) (b : Bool) → slice_get vs a ≡ Some w → fault_in f a ≡ None → is_single (shape_at vs a).space ≡ b → FitsTo b (f a).outcome
  fits_to a w b e none s =
      subst (λ c. FitsTo c (f a).outcome) (ap (λ (t : Shape). is_single t.space) (shape_is a w e) ∙ s)
      (from_space (f a).shape (f a).outcome (value_fits columns computed.of_stores vs f computed.meaning ordered computed.stored a w e none))

  -- two values of one space have rows of the same numbers
  pub same_numbers : (i a : ℕ) (v w : Vertex) → slice_get vs i ≡ Some v → slice_get vs a ≡ Some w → fault_in f a ≡ None → (shape_at vs a).space ≡ (shape_at vs i).space → fault_in f i ≡ None → numbers_in (f i).outcome ≡ numbers_in (f a).outcome
  same_numbers i a v w ev ew na same ni =
      value_numbers columns computed.of_stores vs f computed.meaning ordered computed.stored i v ev ni
      ∙ (ap (λ (t : Shape). row_numbers columns computed.of_stores t.space) (shape_is i v ev) ∙ ap (row_numbers columns computed.of_stores) (sym same)
      ∙ ap (λ (t : Shape). row_numbers columns computed.of_stores t.space) (sym (shape_is a w ew))
      ∙ sym (value_numbers columns computed.of_stores vs f computed.meaning ordered computed.stored a w ew na))

  own_of : (i : ℕ) (op : Op) (args : List ℕ) → (node : IsOperation vs i op args) → (f i).outcome ≡ Rattle.tall_semantics.specs.Talls.outcome node.0 op (map f args)
  own_of i op args node = tall_outcome node.0 op (map f args) (f i) (made_value columns vs f computed.meaning i (vertex_over node.0 op args) op node.1 refl)

  pub own_alone : (i : ℕ) (op : Op) → (node : IsOperation vs i op []) → (f i).outcome ≡ own_outcome node.0 op []
  own_alone i op node = own_of i op [] node

  pub own_one : (i a : ℕ) (op : Op) → (node : IsOperation vs i op (a ∷ [])) → fault_in f a ≡ None → (f i).outcome ≡ own_outcome node.0 op (f a ∷ [])
  own_one i a op node none = own_of i op (a ∷ []) node ∙ unless_one (fault_in f a) (own_outcome node.0 op (f a ∷ [])) none

  pub own_two : (i a b : ℕ) (op : Op) → (node : IsOperation vs i op (a ∷ b ∷ [])) → fault_in f a ≡ None → fault_in f b ≡ None → (f i).outcome ≡ own_outcome node.0 op (f a ∷ f b ∷ [])
  own_two i a b op node none neither = own_of i op (a ∷ b ∷ []) node ∙ unless_two (fault_in f a) (fault_in f b) (own_outcome node.0 op (f a ∷ f b ∷ [])) none neither

  -- a column that is known
  pub shown_rows : (a : ℕ) (w : Vertex) (r : Found) → slice_get vs a ≡ Some w → Shows (f a) r → is_single (shape_at vs a).space ≡ false → has_numbers (shape_at vs a).space ≡ true
      → (rs : Rows) × ((f a).outcome ≡ rows rs) × (r.column.cells ≡ cells_in (rows rs)) × (r.rows ≡ numbers rs)
  shown_rows a w r e shows s n =
      rows_are (f a).outcome r.column.cells r.rows (fits_to a w false e (no_fault (f a) r shows) s) shows.cells
      (subst (λ b. AreNumbersOf b (f a).outcome r.rows) (ap (λ (t : Shape). has_numbers t.space) (shape_is a w e) ∙ n) shows.numbers)

  -- a scalar that is known
  pub shown_scalar : (a : ℕ) (w : Vertex) (r : Found) → slice_get vs a ≡ Some w → Shows (f a) r → is_single (shape_at vs a).space ≡ true → (c : Seen) × ((f a).outcome ≡ scalar c) × (r.column.cells ≡ c ∷ [])
  shown_scalar a w r e shows s = scalar_is (f a).outcome r.column.cells (fits_to a w true e (no_fault (f a) r shows) s) shows.cells
