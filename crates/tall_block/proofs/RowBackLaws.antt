-- The number of a row of a node's column is that of a row of an operand, or of the variable's column.
use Rattle.std.specs.Prelude.{◌≡◌, refl, ℕ, zero, suc, ◌<◌, ◌≤◌, ◌+◌, ◌^◌, if◌then◌else◌, Bool, true, false, Option, None, Some, option_map, Result, Ok, Err, List, [], ◌∷◌, ◌++◌, ◌-◌, length, map, take, drop, get_or, slice_get}
use Rattle.std.specs.HashMap.{HashMap}
use Rattle.std.specs.List.{slice_range}
use Rattle.std.proofs.Common.{ap, sym, subst, ◌∙◌, arith, inl, inr}
use Rattle.std.proofs.lemmas.List.{length-map}
use Rattle.tall_value.specs.declared.class.Class.{Class}
use Rattle.tall_value.specs.declared.class.Class.TheVariants as class
use Rattle.tall_value.specs.declared.class.Kind.{Kind}
use Rattle.tall_value.specs.declared.faults.CellFault.{CellFault}
use Rattle.tall_value.specs.declared.functions.Scan.{Scan}
use Rattle.tall_value.specs.declared.operators.Binary.{Binary}
use Rattle.tall_value.specs.declared.operators.Unary.{Unary}
use Rattle.tall_value.specs.Cells.{Seen}
use Rattle.tall_value.specs.CellOperators.{unary_cell, binary_cell}
use Rattle.tall_value.specs.Classes.{kind_of}
use Rattle.tall_value.specs.Columns.{cells, numbered}
use Rattle.tall_value.specs.Elementwise.{each_row, each_pair, beside}
use Rattle.tall_value.specs.Filters.{is_true, kept}
use Rattle.tall_dense.specs.Columns.{SeenColumn}
use Rattle.tall_semantics.specs.Faults.{At}
use Rattle.tall_semantics.specs.Operations.{Op, unary, binary, filter, scan, stored, Made, operation}
use Rattle.tall_semantics.specs.Outcomes.{Outcome, rows, scalar, fault, rows_in, cells_in, row_by_row, elementwise_one, elementwise_two}
use Rattle.tall_semantics.specs.RowsOfSpaces.{numbers_in}
use Rattle.tall_semantics.specs.Spaces.{is_single}
use Rattle.tall_semantics.specs.ShapesInOrder.{IsMade, shape_at}
use Rattle.tall_semantics.specs.Talls.{Columns, Tall}
use Rattle.tall_semantics.specs.Deferred.{Vertex, IsAmong}
use Rattle.tall_semantics.proofs.Basics.{inside}
use Rattle.tall_blocks.specs.Carries.{Rows, RowsOrFault, scanned_behind}
use Rattle.tall_blocks.specs.Cut.{CanBeCut, IsKnownScalar, IsScalar}
use Rattle.tall_blocks.specs.RowPlaces.{row_number_at, renumbered, with_numbers, next_place, kept_place}
use Rattle.tall_blocks.specs.ValuesOver.{outcome_over, value_over}
use Rattle.tall_blocks.proofs.RowPlaceLaws.{each_counted, pair_counted, scan_counted, kept_number}
use Rattle.tall_block.specs.OfBlocks.{AreColumns, AreShown, IsThere, column_at, made_at, vertex_column}
use Rattle.tall_block.specs.BlockWork.{AreClosed, IsBlock}
use Rattle.tall_block.specs.RowSteps.{IsBefore, IsOperandRow, IsRow, found_kept, next_found, with_some}
use Rattle.tall_block.specs.declared.numbers.Back.{Back}
use Rattle.tall_block.specs.declared.numbers.Back.TheVariants as back
use Rattle.tall_block.specs.Shown.{Shows}
use Rattle.tall_block.proofs.Operators.{IsLong, cells_long, each_long, from_none, pair_long, scan_long, shown_long}
use Rattle.tall_block.proofs.OperandLaws.{filter_taken, left_sound, one_sound, right_sound, shown_rows, two_sound}
use Rattle.tall_block.proofs.ValueLaws.{is_operation}

-- ---- numbers of rows

abbrev numbers : Rows → List ℕ
numbers rs = map (λ (r : ℕ × Seen). r.0) rs

abbrev rows_ok : Rows → RowsOrFault
rows_ok rs = Ok rs

renumbered_numbers : (rs others : Rows) → length others ≡ length rs → numbers (renumbered rs others) ≡ numbers rs
renumbered_numbers [] others e = refl
renumbered_numbers (r ∷ rs) [] e = absurd (omega (arith, e))
renumbered_numbers (r ∷ rs) (o ∷ others) e = ap (λ ns. r.0 ∷ ns) (renumbered_numbers rs others (omega (arith, e)))

told_numbers : (rs : Rows) (y z : RowsOrFault) → y ≡ with_numbers rs z → IsLong (length rs) (length rs) z → (outs : Rows) → y ≡ rows_ok outs → numbers outs ≡ numbers rs
told_numbers rs y (Ok others) q long outs e =
    let same : rows_ok outs ≡ rows_ok (renumbered rs others) = sym e ∙ q in
    ap numbers (ap (λ (r : RowsOrFault). elim r [ Ok xs ↦ xs | Err x ↦ outs ]) same) ∙ renumbered_numbers rs others long
told_numbers rs y (Err x) q long outs e = absurd (let same : rows_ok outs ≡ Err (row_number_at rs x.0, x.1) = sym e ∙ q in cc)

long_here : (rs : Rows) (z : RowsOrFault) → IsLong (length (cells rs)) (length (cells rs)) z → IsLong (length rs) (length rs) z
long_here rs z long = subst (λ n. IsLong n n z) (cells_long rs) long

-- an outcome with rows
outs_of : (at : At) (r : RowsOrFault) (y : Outcome) (ds : List Seen) → Shows y ds → y ≡ row_by_row at r → r ≡ rows_ok (rows_in y)
outs_of at (Ok rs) y ds s e = ap rows_ok (sym (ap rows_in e))
outs_of at (Err x) y ds s e = absurd (subst (λ (o : Outcome). Shows o ds) e s)

each_same : (g : Seen → Result Seen CellFault) (at : At) (rs : Rows) (y : Outcome) (ds : List Seen) → Shows y ds → y ≡ row_by_row at (each_row g rs) → numbers_in y ≡ numbers rs
each_same g at rs y ds s e =
    told_numbers rs (each_row g rs) (each_row g (numbered 0 (cells rs))) (each_counted g rs) (long_here rs (each_row g (numbered 0 (cells rs))) (each_long g 0 (length (cells rs)) (cells rs) (from_none (length (cells rs)))))
    (rows_in y) (outs_of at (each_row g rs) y ds s e)

pub unary_same : (at : At) (op : Unary) (x y : Outcome) (cs ds : List Seen) → Shows x cs → Shows y ds → y ≡ elementwise_one at op x → numbers_in y ≡ numbers_in x
unary_same at op (rows rs) y cs ds s t e = each_same (unary_cell op) at rs y ds t e
unary_same at op (scalar c) y cs ds s t e = absurd s
unary_same at op (fault f) y cs ds s t e = absurd s

pub right_same : (at : At) (op : Binary) (x y : Outcome) (d : Seen) (cs ds : List Seen) → Shows x cs → Shows y ds → y ≡ elementwise_two at op x (scalar d) → numbers_in y ≡ numbers_in x
right_same at op (rows rs) y d cs ds s t e = each_same (beside op false d) at rs y ds t e
right_same at op (scalar c) y d cs ds s t e = absurd s
right_same at op (fault f) y d cs ds s t e = absurd s

pub left_same : (at : At) (op : Binary) (x y : Outcome) (d : Seen) (cs ds : List Seen) → Shows x cs → Shows y ds → y ≡ elementwise_two at op (scalar d) x → numbers_in y ≡ numbers_in x
left_same at op (rows rs) y d cs ds s t e = each_same (beside op true d) at rs y ds t e
left_same at op (scalar c) y d cs ds s t e = absurd s
left_same at op (fault f) y d cs ds s t e = absurd s

pub pair_same : (at : At) (op : Binary) (x z y : Outcome) (cs es ds : List Seen) → Shows x cs → Shows z es → Shows y ds → length (rows_in z) ≡ length (rows_in x) → y ≡ elementwise_two at op x z → numbers_in y ≡ numbers_in x
pair_same at op (rows rs) (rows ss) y cs es ds s u t long e =
    let same : length (cells ss) ≡ length (cells rs) = cells_long ss ∙ (long ∙ sym (cells_long rs)) in
    told_numbers rs (each_pair (binary_cell op) rs ss) (each_pair (binary_cell op) (numbered 0 (cells rs)) (numbered 0 (cells ss))) (pair_counted (binary_cell op) rs ss)
    (long_here rs (each_pair (binary_cell op) (numbered 0 (cells rs)) (numbered 0 (cells ss))) (pair_long (binary_cell op) 0 (length (cells rs)) (cells rs) (cells ss) same (from_none (length (cells rs)))))
    (rows_in y) (outs_of at (each_pair (binary_cell op) rs ss) y ds t e)
pair_same at op (rows rs) (scalar c) y cs es ds s u t long e = absurd u
pair_same at op (rows rs) (fault f) y cs es ds s u t long e = absurd u
pair_same at op (scalar c) z y cs es ds s u t long e = absurd s
pair_same at op (fault f) z y cs es ds s u t long e = absurd s

pub scan_same : (at : At) (s : Scan) (a : Kind) (before : List Seen) (x y : Outcome) (ds : List Seen) → Shows y ds → y ≡ row_by_row at (scanned_behind s a before (rows_in x)) → numbers_in y ≡ numbers_in x
scan_same at s a before x y ds t e =
    let rs : Rows = rows_in x in
    told_numbers rs (scanned_behind s a before rs) (scanned_behind s a before (numbered 0 (cells rs))) (scan_counted s a before rs)
    (long_here rs (scanned_behind s a before (numbered 0 (cells rs))) (scan_long s a before 0 (length (cells rs)) (cells rs) (from_none (length (cells rs)))))
    (rows_in y) (outs_of at (scanned_behind s a before rs) y ds t e)

same_long : (x y : Outcome) → numbers_in y ≡ numbers_in x → length (rows_in y) ≡ length (rows_in x)
same_long x y e = sym (length-map (rows_in y) (λ (r : ℕ × Seen). r.0)) ∙ (ap length e ∙ length-map (rows_in x) (λ (r : ℕ × Seen). r.0))

-- ---- numbered rows

pub numbered_at : (first : ℕ) (cs : List Seen) (k : ℕ) → k < length cs → row_number_at (numbered first cs) k ≡ first + k
numbered_at first [] k l = absurd (omega (arith, l))
numbered_at first (c ∷ cs) zero l = omega (arith)
numbered_at first (c ∷ cs) (suc k) l = (let q : row_number_at (numbered (first + 1) cs) k ≡ first + 1 + k = numbered_at (first + 1) cs k (omega (arith, l)) in q ∙ omega (arith))

-- ---- filters

some_more : (o : Option ℕ) (k : ℕ) → o ≡ Some k → option_map (λ n. suc n) o ≡ Some (suc k)
some_more o k e = ap (option_map (λ n. suc n)) e

pub kept_is : (rs : Rows) (mask : List Seen) (k : ℕ) → k < length (kept rs mask) → (found_kept mask k ≡ Some (kept_place mask k)) × (kept_place mask k < length rs)
kept_is [] mask k l = absurd (omega (arith, l))
kept_is (r ∷ rs) [] k l = absurd (omega (arith, l))
kept_is (r ∷ rs) (m ∷ mask) k l = by_mask (λ j q. kept_is rs mask j q) (is_true m) k l
  where
    by_mask : ((j : ℕ) → j < length (kept rs mask) → (found_kept mask j ≡ Some (kept_place mask j)) × (kept_place mask j < length rs)) → (b : Bool) (k : ℕ) → k < length (if b then r ∷ kept rs mask else kept rs mask)
        → (next_found b k (found_kept mask) ≡ Some (next_place b k (kept_place mask))) × (next_place b k (kept_place mask) < length (r ∷ rs))
    by_mask go true zero l = (refl, omega (arith))
    by_mask go true (suc k) l = (let w = go k (omega (arith, l)) in let q : kept_place mask k < length rs = w.1 in (some_more (found_kept mask k) (kept_place mask k) w.0, omega (arith, q)))
    by_mask go false k l = (let w = go k l in let q : kept_place mask k < length rs = w.1 in (some_more (found_kept mask k) (kept_place mask k) w.0, omega (arith, q)))

pub shown_cells : (x : Outcome) (cs : List Seen) → Shows x cs → cells_in x ≡ cs
shown_cells (rows rs) cs s = s
shown_cells (scalar c) cs s = absurd s
shown_cells (fault f) cs s = absurd s

-- ---- a row of a node

module _ {vs : List Vertex} {table : List (List ℕ × SeenColumn)} {scalars carries : ℕ → Option Seen} {first : ℕ} {work : List ℕ} {columns : Columns} {so_far : ℕ → List Seen} {f : ℕ → Tall} {cut : ℕ → Bool} {h : ℕ → Outcome}
    (block : IsBlock vs table scalars carries first work columns so_far f cut h) (is_made : IsMade vs) where
  abbrev H : ℕ → Tall
  H = value_over f h

  module _ {S : Type 0} {made : HashMap ℕ SeenColumn S} (are : AreColumns vs table made) (shown : AreShown vs cut table made h) (closed : AreClosed vs cut table made)
      (i place : ℕ) (row : IsRow vs table made work h i place) (v : Vertex) (e : slice_get vs i ≡ Some v) where
    here : cut i ≡ true
    here = (block.cut_work.there i row.among).0

    shows_here : Shows (h i) row.there.0.cells
    shows_here = shown i row.there.0 here row.there.1

    operand : (a : ℕ) → IsAmong v.args a → cut a ≡ true → IsThere vs table made a
    operand a m c = closed i a v row.there.0 row.there.1 e m c

    operand_row : (a k : ℕ) → IsAmong v.args a → cut a ≡ true → k < length (rows_in (h a)) → IsRow vs table made work h a k
    operand_row a k m c l = record { among = block.cut_work.closed i a v row.among e m c; there = operand a m c; within = l }

    -- the same row of an operand
    pub same_row : (a : ℕ) → IsAmong v.args a → cut a ≡ true → numbers_in (h i) ≡ numbers_in (h a) → IsRow vs table made work h a place × (row_number_at (rows_in (h a)) place ≡ row_number_at (rows_in (h i)) place)
    same_row a m c same =
        let l : place < length (rows_in (h i)) = row.within in
        let k : length (rows_in (h i)) ≡ length (rows_in (h a)) = same_long (h a) (h i) same in
        (operand_row a place m c (omega (arith, l, k)), ap (λ (ns : List ℕ). get_or ns place 0) (sym same))

    pub stored_is : (s x : ℕ) (k : Class) → v.made ≡ stored s x k → (place < length row.there.0.cells) × (first + length row.there.0.cells ≤ 2 ^ 40) × (first + place ≡ row_number_at (rows_in (h i)) place)
    stored_is s x k q =
        let w = block.variables i s x v k e here q in
        let is : h i ≡ rows (numbered first w.0.cells) = block.over.made i v e here ∙ (ap (λ (m : Made). outcome_over columns (so_far i) v.at m (map H v.args)) q ∙ w.2) in
        let there : column_at vs table made i ≡ Some w.0 = ap (λ (o : Option Vertex). vertex_column table made o i) e ∙ (ap (λ (m : Made). made_at table made m i) q ∙ w.1) in
        let same : w.0 ≡ row.there.0 = inside w.0 row.there.0 (sym there ∙ row.there.1) in
        let long : length row.there.0.cells ≡ length (rows_in (h i)) = shown_long (h i) row.there.0.cells shows_here in
        let l : place < length (rows_in (h i)) = row.within in
        let u : first + length w.0.cells ≤ 2 ^ 40 = w.3 in
        let c : length w.0.cells ≡ length row.there.0.cells = ap (λ (d : SeenColumn). length d.cells) same in
        let p : place < length w.0.cells = omega (arith, l, long, c) in
        (omega (arith, l, long), omega (arith, u, c), sym (ap (λ (o : Outcome). row_number_at (rows_in o) place) is ∙ numbered_at first w.0.cells place p))

    made_as : (op : Op) (args : List ℕ) → v.made ≡ operation op → v.args ≡ args → h i ≡ outcome_over columns (so_far i) v.at (operation op) (map H args)
    made_as op args q r = block.over.made i v e here ∙ (ap (λ (m : Made). outcome_over columns (so_far i) v.at m (map H v.args)) q ∙ ap (λ xs. outcome_over columns (so_far i) v.at (operation op) (map H xs)) r)

    pub unary_row : (op : Unary) (a : ℕ) → v.made ≡ operation (unary op) → v.args ≡ a ∷ [] → IsRow vs table made work h a place × (row_number_at (rows_in (h a)) place ≡ row_number_at (rows_in (h i)) place)
    unary_row op a q r =
        let m : IsAmong v.args a = subst (λ xs. IsAmong xs a) (sym r) (inl refl) in
        let c : cut a ≡ true = subst (λ xs. CanBeCut f cut (operation (unary op)) xs) r (subst (λ n. CanBeCut f cut n v.args) q (block.can i v e here)) in
        let there = operand a m c in
        let sa : Shows (h a) there.0.cells = shown a there.0 c there.1 in
        let own : Outcome = elementwise_one v.at op (h a) in
        let is : h i ≡ own = made_as (unary op) (a ∷ []) q r ∙ one_sound (h a) own there.0.cells sa in
        same_row a m c (unary_same v.at op (h a) (h i) there.0.cells row.there.0.cells sa shows_here is)

    pub scan_row : (s : Scan) (a : ℕ) → v.made ≡ operation (scan s) → v.args ≡ a ∷ [] → IsRow vs table made work h a place × (row_number_at (rows_in (h a)) place ≡ row_number_at (rows_in (h i)) place)
    scan_row s a q r =
        let m : IsAmong v.args a = subst (λ xs. IsAmong xs a) (sym r) (inl refl) in
        let c : cut a ≡ true = subst (λ xs. CanBeCut f cut (operation (scan s)) xs) r (subst (λ n. CanBeCut f cut n v.args) q (block.can i v e here)) in
        let there = operand a m c in
        let sa : Shows (h a) there.0.cells = shown a there.0 c there.1 in
        let own : Outcome = row_by_row v.at (scanned_behind s (kind_of (f a).shape.class) (so_far i) (rows_in (h a))) in
        let is : h i ≡ own = made_as (scan s) (a ∷ []) q r ∙ one_sound (h a) own there.0.cells sa in
        same_row a m c (scan_same v.at s (kind_of (f a).shape.class) (so_far i) (h a) (h i) row.there.0.cells shows_here is)

    pub filter_row : (a n : ℕ) → v.made ≡ operation filter → v.args ≡ a ∷ n ∷ [] → (mask : SeenColumn) × (column_at vs table made n ≡ Some mask) × (mask.class ≡ class.Logical) × (found_kept mask.cells place ≡ Some (kept_place mask.cells place))
        × IsRow vs table made work h a (kept_place mask.cells place) × (row_number_at (rows_in (h a)) (kept_place mask.cells place) ≡ row_number_at (rows_in (h i)) place)
    filter_row a n q r =
        let m : IsAmong v.args a = subst (λ xs. IsAmong xs a) (sym r) (inl refl) in
        let m2 : IsAmong v.args n = subst (λ xs. IsAmong xs n) (sym r) (inr (inl refl)) in
        let c = subst (λ xs. CanBeCut f cut (operation filter) xs) r (subst (λ k. CanBeCut f cut k v.args) q (block.can i v e here)) in
        let there = operand a m c.0 in
        let mask = operand n m2 c.1 in
        let sa : Shows (h a) there.0.cells = shown a there.0 c.0 there.1 in
        let sm : Shows (h n) mask.0.cells = shown n mask.0 c.1 mask.1 in
        let own : Outcome = rows (kept (rows_in (h a)) (cells_in (h n))) in
        let is : h i ≡ own = made_as filter (a ∷ n ∷ []) q r ∙ two_sound (h a) (h n) own there.0.cells mask.0.cells sa sm in
        let marks : cells_in (h n) ≡ mask.0.cells = shown_cells (h n) mask.0.cells sm in
        let here_is : rows_in (h i) ≡ kept (rows_in (h a)) mask.0.cells = ap rows_in is ∙ ap (kept (rows_in (h a))) marks in
        let l : place < length (kept (rows_in (h a)) mask.0.cells) = subst (λ (rs : Rows). place < length rs) here_is row.within in
        let k = kept_is (rows_in (h a)) mask.0.cells place l in
        let logical : mask.0.class ≡ class.Logical = (are n mask.0 mask.1).0 ∙ (filter_taken vs is_made i a n (is_operation vs i v filter (a ∷ n ∷ []) e q r)).0 in
        (mask.0, mask.1, logical, k.0, operand_row a (kept_place mask.0.cells place) m c.0 k.1, sym (kept_number (rows_in (h a)) mask.0.cells place l) ∙ ap (λ (rs : Rows). row_number_at rs place) (sym here_is))

    -- ---- two operands

    known_alone : (a : ℕ) → IsAmong v.args a → cut a ≡ false → column_at vs table made a ≡ None
    known_alone a m c = by_column (column_at vs table made a) refl
      where
        by_column : (o : Option SeenColumn) → column_at vs table made a ≡ o → column_at vs table made a ≡ None
        by_column None t = t
        by_column (Some x) t = absurd (let y : is_single (shape_at vs a).space ≡ true = (block.scalars_known i a v row.among e m c).single in let n : is_single (shape_at vs a).space ≡ false = (are a x t).1 in cc)

    known_is : (a : ℕ) → IsAmong v.args a → IsKnownScalar f cut a → (d : Seen) × (h a ≡ scalar d)
    known_is a m k = (let s : IsScalar (f a).outcome = k.1 in (s.0, block.over.known a k.0 ∙ s.1))

    -- the operand whose rows these are
    pub binary_row : (op : Binary) (a b lead : ℕ) → v.made ≡ operation (binary op) → v.args ≡ a ∷ b ∷ [] → ((x : SeenColumn) → column_at vs table made a ≡ Some x → lead ≡ a) → (column_at vs table made a ≡ None → lead ≡ b)
        → IsRow vs table made work h lead place × (row_number_at (rows_in (h lead)) place ≡ row_number_at (rows_in (h i)) place)
    binary_row op a b lead q r left right = by_cut (subst (λ xs. CanBeCut f cut (operation (binary op)) xs) r (subst (λ n. CanBeCut f cut n v.args) q (block.can i v e here)))
      where
        ma : IsAmong v.args a
        ma = subst (λ xs. IsAmong xs a) (sym r) (inl refl)

        mb : IsAmong v.args b
        mb = subst (λ xs. IsAmong xs b) (sym r) (inr (inl refl))

        goal_at : ℕ → Type 0
        goal_at k = IsRow vs table made work h k place × (row_number_at (rows_in (h k)) place ≡ row_number_at (rows_in (h i)) place)

        of_both : cut a ≡ true → cut b ≡ true → goal_at lead
        of_both c d =
            let x = operand a ma c in
            let y = operand b mb d in
            let sx : Shows (h a) x.0.cells = shown a x.0 c x.1 in
            let sy : Shows (h b) y.0.cells = shown b y.0 d y.1 in
            let own : Outcome = elementwise_two v.at op (h a) (h b) in
            let is : h i ≡ own = made_as (binary op) (a ∷ b ∷ []) q r ∙ two_sound (h a) (h b) own x.0.cells y.0.cells sx sy in
            let long : length (rows_in (h b)) ≡ length (rows_in (h a)) = sym (block.aligned i a b v (rows_in (h a)) (rows_in (h b)) e r here c d (shown_rows (h a) x.0.cells sx) (shown_rows (h b) y.0.cells sy)) in
            subst goal_at (sym (left x.0 x.1)) (same_row a ma c (pair_same v.at op (h a) (h b) (h i) x.0.cells y.0.cells row.there.0.cells sx sy shows_here long is))

        of_left : cut a ≡ true → IsKnownScalar f cut b → goal_at lead
        of_left c k =
            let x = operand a ma c in
            let sx : Shows (h a) x.0.cells = shown a x.0 c x.1 in
            let d = known_is b mb k in
            let mid : Outcome = elementwise_two v.at op (h a) (h b) in
            let is : h i ≡ elementwise_two v.at op (h a) (scalar d.0) = made_as (binary op) (a ∷ b ∷ []) q r ∙ (right_sound (h a) (h b) mid x.0.cells d.0 sx d.1 ∙ ap (elementwise_two v.at op (h a)) d.1) in
            subst goal_at (sym (left x.0 x.1)) (same_row a ma c (right_same v.at op (h a) (h i) d.0 x.0.cells row.there.0.cells sx shows_here is))

        of_right : IsKnownScalar f cut a → cut b ≡ true → goal_at lead
        of_right k c =
            let y = operand b mb c in
            let sy : Shows (h b) y.0.cells = shown b y.0 c y.1 in
            let d = known_is a ma k in
            let mid : Outcome = elementwise_two v.at op (h a) (h b) in
            let is : h i ≡ elementwise_two v.at op (scalar d.0) (h b) = made_as (binary op) (a ∷ b ∷ []) q r ∙ (left_sound (h b) (h a) mid y.0.cells d.0 sy d.1 ∙ ap (λ (o : Outcome). elementwise_two v.at op o (h b)) d.1) in
            subst goal_at (sym (right (known_alone a ma k.0))) (same_row b mb c (left_same v.at op (h b) (h i) d.0 y.0.cells row.there.0.cells sy shows_here is))

        by_cut : CanBeCut f cut (operation (binary op)) (a ∷ b ∷ []) → goal_at lead
        by_cut can = elim can [
          | inl both ↦ of_both both.0 both.1
          | inr one ↦ elim one [ inl l ↦ of_left l.0 l.1 | inr t ↦ of_right t.0 t.1 ]
        ]

-- ---- operands stand before

pub operand_before : (a n : ℕ) → a < n → (b : Back) → IsOperandRow a b → IsBefore n b
operand_before a n l (back.Of c k) e = subst (λ j. j < n) (sym e) l
operand_before a n l (back.Number k) e = tt
operand_before a n l back.Lost e = tt

pub lead_before : (a b lead n : ℕ) → a < n → b < n → (o : Option SeenColumn) → ((x : SeenColumn) → o ≡ Some x → lead ≡ a) → (o ≡ None → lead ≡ b) → lead < n
lead_before a b lead n l m None left right = subst (λ j. j < n) (sym (right refl)) m
lead_before a b lead n l m (Some x) left right = subst (λ j. j < n) (sym (left x refl)) l

-- ---- numbers from a place to before another

suc_before : (i j : ℕ) → i < j → j - i ≡ suc (j - (i + 1))
suc_before i j l = omega (arith, l)

pub between_next : (rs : Rows) (i j : ℕ) → i < j → j ≤ length rs → numbers (slice_range rs i j) ≡ row_number_at rs i ∷ numbers (slice_range rs (i + 1) j)
between_next [] i j l m = absurd (omega (arith, l, m))
between_next (r ∷ rs) zero j l m = ap (λ n. numbers (take n (r ∷ rs))) (suc_before 0 j l)
between_next (r ∷ rs) (suc i) j l m =
    let p : i < j - 1 = omega (arith, l) in
    let q : j - 1 ≤ length rs = omega (arith, m) in
    let e : j - suc i ≡ (j - 1) - i = omega (arith) in
    let k : (j - 1) - (i + 1) ≡ j - (suc i + 1) = omega (arith) in
    let t : suc i + 1 ≡ suc (i + 1) = omega (arith) in
    ap (λ n. numbers (take n (drop i rs))) e
    ∙ (between_next rs i (j - 1) p q
    ∙ (ap (λ n. row_number_at rs i ∷ numbers (take n (drop (i + 1) rs))) k ∙ ap (λ n. row_number_at rs i ∷ numbers (take (j - (suc i + 1)) (drop n (r ∷ rs)))) (sym t)))

pub between_none : (rs : Rows) (i j : ℕ) → j ≤ i → numbers (slice_range rs i j) ≡ []
between_none rs i j l = (let e : j - i ≡ 0 = omega (arith, l) in ap (λ n. numbers (take n (drop i rs))) e)

pub one_pushed : (ns : List ℕ) (o : Option ℕ) (k : ℕ) → o ≡ Some k → with_some ns o ≡ ns ++ k ∷ []
one_pushed ns o k e = ap (with_some ns) e
