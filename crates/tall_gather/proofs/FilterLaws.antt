-- Filters over what is known.
use Rattle.std.specs.Prelude.{◌≡◌, refl, ℕ, zero, suc, ◌≤◌, ◌+◌, ◌++◌, Bool, true, false, if◌then◌else◌, Some, Result, Ok, Err, List, [], ◌∷◌, length, map, drop, slice_get}
use Rattle.std.proofs.Common.{ap, sym, subst, ◌∙◌, arith, inl, inr, append_assoc, append-nil}
use Rattle.tall_value.specs.Cells.{Seen}
use Rattle.tall_value.specs.Columns.{cells}
use Rattle.tall_value.specs.Classes.{kind_of}
use Rattle.tall_value.specs.Filters.{is_true, kept}
use Rattle.tall_value.specs.FunctionClasses.{logical_kind}
use Rattle.tall_semantics.specs.Operations.{filter}
use Rattle.tall_semantics.specs.Equality.{same_space}
use Rattle.tall_semantics.specs.Outcomes.{Outcome, rows, rows_in, cells_in}
use Rattle.tall_semantics.specs.RowsOfSpaces.{numbers_in}
use Rattle.tall_semantics.specs.Shapes.{Shape, ShapeRefusal, allowed, bad_argument, masked, masked_class, on_column, placed}
use Rattle.tall_value.specs.declared.class.Class.{Class}
use Rattle.tall_semantics.specs.ShapesInOrder.{IsMade, shape_at}
use Rattle.tall_semantics.specs.Spaces.{Space, filtered, is_single}
use Rattle.tall_semantics.specs.Talls.{Columns, Tall}
use Rattle.tall_semantics.specs.Deferred.{Vertex, IsOrdered}
use Rattle.tall_semantics.proofs.EqualityLaws.{spaces_decided}
use Rattle.tall_semantics.proofs.ShapeLaws.{column_is, place_ok, placed_is, refused, tested}
use Rattle.tall_blocks.proofs.RowPlaceLaws.{kept_cells}
use Rattle.tall_fuse.specs.Results.{Found}
use Rattle.tall_block.specs.OfBlocks.{IsOperation, vertex_over}
use Rattle.tall_part.specs.Parts.{numbers}
use Rattle.tall_part.specs.declared.results.EndColumn.{EndColumn}
use Rattle.tall_pass.specs.Fitting.{has_numbers}
use Rattle.tall_pass.specs.Told.{Shows}
use Rattle.tall_gather.specs.Rests.{IsComputed, IsRestAt}
use Rattle.tall_gather.specs.Smalls.{TellsAnswer, TellsValue}
use Rattle.tall_gather.proofs.NodeLaws.{accepted_as, no_fault, operand_numbered, operand_stands, own_two, rest_numbered, shape_is, shown_rows}
use Rattle.tall_gather.proofs.LeadLaws.{as_many}

-- ---- spaces

-- an operand has to be a column
pub no_scalar : (x : Shape) (r : Result (Class × Space) ShapeRefusal) (p : Class × Space) → on_column x r ≡ place_ok p → is_single x.space ≡ false
no_scalar x r p h = by (is_single x.space) h
  where
    by : (b : Bool) → (if b then Err bad_argument else r) ≡ place_ok p → b ≡ false
    by true e = absurd (refused p e)
    by false e = refl

-- the value and the mask are columns of one space, and what is kept is none of scalars
pub record IsFilter (vs : List Vertex) (i a m : ℕ) : Type 0 where
  pub value_is : is_single (shape_at vs a).space ≡ false
  pub mask_is : is_single (shape_at vs m).space ≡ false
  pub same : (shape_at vs a).space ≡ (shape_at vs m).space
  pub column_is : is_single (shape_at vs i).space ≡ false

pub filter_spaces : (vs : List Vertex) → IsMade vs → (i a m : ℕ) → IsOperation vs i filter (a ∷ m ∷ []) → IsFilter vs i a m
filter_spaces vs made i a m node =
    let w = accepted_as vs made i filter (a ∷ m ∷ []) node in
    let x : Shape = shape_at vs a in
    let y : Shape = shape_at vs m in
    let r : Result (Class × Space) ShapeRefusal = placed (allowed (masked_class x.class (logical_kind (kind_of y.class)))) (masked x.space y.space y.tree) in
    let behind = column_is x (on_column y r) w.place w.accepted in
    let t = tested (same_space x.space y.space) (filtered x.space y.tree) w.place.1 (placed_is (allowed (masked_class x.class (logical_kind (kind_of y.class)))) (masked x.space y.space y.tree) w.place (column_is y r w.place behind)) in
    record {
      value_is = no_scalar x (on_column y r) w.place w.accepted;
      mask_is = no_scalar y r w.place behind;
      same = (spaces_decided x.space y.space).0 t.0;
      column_is = ap is_single (sym (t.1 ∙ w.space_is));
    }

-- ---- the loop over the mask

same_heads : {A : Type 0} (xs : List A) (ms : List Seen) (y x : A) (l m : Seen) → Some y ≡ Some x → Some l ≡ Some m → (if is_true l then y ∷ kept xs ms else kept xs ms) ≡ (if is_true m then x ∷ kept xs ms else kept xs ms)
same_heads xs ms y x l m e g =
    let a : y ≡ x = cc in
    let b : l ≡ m = cc in
    ap (λ z. if is_true l then z ∷ kept xs ms else kept xs ms) a ∙ ap (λ z. if is_true z then x ∷ kept xs ms else kept xs ms) b

pub kept_here : {A : Type 0} (xs : List A) (ms : List Seen) (row : ℕ) (x : A) (m : Seen) → slice_get xs row ≡ Some x → slice_get ms row ≡ Some m
    → kept (drop row xs) (drop row ms) ≡ (if is_true m then x ∷ kept (drop (suc row) xs) (drop (suc row) ms) else kept (drop (suc row) xs) (drop (suc row) ms))
kept_here [] ms row x m ex em = absurd (cc)
kept_here (y ∷ xs) [] row x m ex em = absurd (cc)
kept_here (y ∷ xs) (l ∷ ms) zero x m ex em = same_heads xs ms y x l m ex em
kept_here (y ∷ xs) (l ∷ ms) (suc row) x m ex em = kept_here xs ms row x m ex em

-- one row of the mask more
pub kept_turn : (ns : List ℕ) (ms : List Seen) (row n : ℕ) (m : Seen) (b : Bool) (all old new : List ℕ) → slice_get ns row ≡ Some n → slice_get ms row ≡ Some m → b ≡ is_true m → old ++ kept (drop row ns) (drop row ms) ≡ all
    → new ≡ (if b then old ++ n ∷ [] else old) → new ++ kept (drop (row + 1) ns) (drop (row + 1) ms) ≡ all
kept_turn ns ms row n m b all old new en em eb so is =
    subst (λ k. new ++ kept (drop k ns) (drop k ms) ≡ all) (next row) (ap (λ l. l ++ kept (drop (suc row) ns) (drop (suc row) ms)) (is ∙ ap (λ t. if t then old ++ n ∷ [] else old) eb) ∙ (by (is_true m) ∙ (ap (λ l. old ++ l) (sym (kept_here ns ms row n m en em)) ∙ so)))
  where
    next : (k : ℕ) → suc k ≡ k + 1
    next k = omega arith

    by : (b : Bool) → (if b then old ++ n ∷ [] else old) ++ kept (drop (suc row) ns) (drop (suc row) ms) ≡ old ++ (if b then n ∷ kept (drop (suc row) ns) (drop (suc row) ms) else kept (drop (suc row) ns) (drop (suc row) ms))
    by true = append_assoc old (n ∷ []) (kept (drop (suc row) ns) (drop (suc row) ms))
    by false = refl

no_mask : (ns : List ℕ) → kept ns [] ≡ []
no_mask [] = refl
no_mask (n ∷ ns) = refl

none_kept : (ns : List ℕ) (ms : List Seen) (row : ℕ) → length ms ≤ row → kept (drop row ns) (drop row ms) ≡ []
none_kept [] ms zero l = refl
none_kept [] ms (suc row) l = refl
none_kept (n ∷ ns) [] zero l = refl
none_kept (n ∷ ns) [] (suc row) l = no_mask (drop row ns)
none_kept (n ∷ ns) (m ∷ ms) zero l = absurd (omega (arith, l))
none_kept (n ∷ ns) (m ∷ ms) (suc row) l = none_kept ns ms row (omega (arith, l))

-- behind the last row of the mask
pub kept_all : (ns : List ℕ) (ms : List Seen) (row : ℕ) (old : List ℕ) → length ms ≤ row → old ++ kept (drop row ns) (drop row ms) ≡ kept ns ms → old ≡ kept ns ms
kept_all ns ms row old l so = sym (append-nil old) ∙ (ap (λ x. old ++ x) (sym (none_kept ns ms row l)) ∙ so)

-- ---- cut to the lesser height

pub kept_even : {A B : Type 0} (xs : List A) (ys : List B) (ms : List Seen) → length ms ≤ length xs → length ms ≤ length ys → length (kept xs ms) ≡ length (kept ys ms)
kept_even [] [] ms l k = refl
kept_even [] (y ∷ ys) [] l k = refl
kept_even [] (y ∷ ys) (m ∷ ms) l k = absurd (omega (arith, l))
kept_even (x ∷ xs) [] [] l k = refl
kept_even (x ∷ xs) [] (m ∷ ms) l k = absurd (omega (arith, k))
kept_even (x ∷ xs) (y ∷ ys) [] l k = refl
kept_even (x ∷ xs) (y ∷ ys) (m ∷ ms) l k = by (is_true m) (kept_even xs ys ms (omega (arith, l)) (omega (arith, k)))
  where
    by : (b : Bool) → length (kept xs ms) ≡ length (kept ys ms) → length (if b then x ∷ kept xs ms else kept xs ms) ≡ length (if b then y ∷ kept ys ms else kept ys ms)
    by true e = ap suc e
    by false e = e

mapped_if : {A B : Type 0} (g : A → B) (x : A) (xs : List A) (ys : List B) (b : Bool) → map g xs ≡ ys → map g (if b then x ∷ xs else xs) ≡ (if b then g x ∷ ys else ys)
mapped_if g x xs ys true e = ap (λ zs. g x ∷ zs) e
mapped_if g x xs ys false e = e

kept_map : {A B : Type 0} (g : A → B) (xs : List A) (ms : List Seen) → map g (kept xs ms) ≡ kept (map g xs) ms
kept_map g [] ms = refl
kept_map g (x ∷ xs) [] = refl
kept_map g (x ∷ xs) (m ∷ ms) = mapped_if g x (kept xs ms) (kept (map g xs) ms) (is_true m) (kept_map g xs ms)

-- ---- what is told

module _ (columns : Columns) (vs : List Vertex) (f : ℕ → Tall) (computed : IsComputed columns vs f) (made : IsMade vs) (ordered : IsOrdered vs) where
  pub filter_told : (i a m : ℕ) (node : IsOperation vs i filter (a ∷ m ∷ [])) → IsRestAt vs i → (x y : Found) → Shows (f a) x → Shows (f m) y → (v : EndColumn)
      → (length y.column.cells ≡ length x.column.cells → (v.column.cells ≡ kept x.column.cells y.column.cells) × (v.rows.items ≡ kept x.rows y.column.cells)) → TellsValue (f i) (Ok v)
  filter_told i a m node rest x y sx sy v h =
      let k = filter_spaces vs made i a m node in
      let wa = operand_stands columns vs f computed made ordered i a filter (a ∷ m ∷ []) node (inl refl) in
      let wm = operand_stands columns vs f computed made ordered i m filter (a ∷ m ∷ []) node (inr (inl refl)) in
      let na = operand_numbered vs i a filter (a ∷ m ∷ []) false rest node (inl refl) k.value_is in
      let nm = operand_numbered vs i m filter (a ∷ m ∷ []) false rest node (inr (inl refl)) k.mask_is in
      let rs = shown_rows columns vs f computed made ordered a wa.0 x wa.1 sx k.value_is na in
      let ms = shown_rows columns vs f computed made ordered m wm.0 y wm.1 sy k.mask_is nm in
      let numbers_same : numbers ms.0 ≡ numbers rs.0 =
      sym (ap numbers_in ms.1) ∙ (Rattle.tall_gather.proofs.NodeLaws.same_numbers columns vs f computed made ordered m a wm.0 wa.0 wm.1 wa.1 (no_fault (f a) x sx) k.same (no_fault (f m) y sy) ∙ ap numbers_in rs.1) in
      let is = h (ap length ms.2 ∙ (as_many ms.0 rs.0 numbers_same ∙ ap length (sym rs.2))) in
      let own : (f i).outcome ≡ rows (kept rs.0 (cells ms.0)) =
      own_two columns vs f computed made ordered i a m filter node (no_fault (f a) x sx) (no_fault (f m) y sy) ∙ (ap (λ (o : Outcome). rows (kept (rows_in o) (cells_in (f m).outcome))) rs.1 ∙ ap (λ (o : Outcome). rows (kept rs.0 (cells_in o))) ms.1) in
      let answer : TellsAnswer true (rows (kept rs.0 (cells ms.0))) (Ok v) = (
        is.0 ∙ (ap (λ cs. kept cs y.column.cells) rs.2 ∙ (ap (kept (cells rs.0)) ms.2 ∙ sym (kept_cells rs.0 (cells ms.0)))),
        is.1 ∙ (ap (λ ns. kept ns y.column.cells) rs.3 ∙ (ap (kept (numbers rs.0)) ms.2 ∙ sym (kept_map (λ (r : ℕ × Seen). r.0) rs.0 (cells ms.0)))),
      ) in
      subst (λ b. TellsAnswer b (f i).outcome (Ok v)) (sym (ap (λ (t : Shape). has_numbers t.space) (shape_is columns vs f computed made ordered i (vertex_over node.0 filter (a ∷ m ∷ [])) node.1) ∙ rest_numbered vs i false rest k.column_is))
      (subst (λ o. TellsAnswer true o (Ok v)) (sym own) answer)
