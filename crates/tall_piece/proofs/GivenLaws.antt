-- What is given of a block is what its work asks for, and what the work gives are right parts.
use Rattle.std.specs.Prelude.{◌≡◌, refl, ℕ, suc, ◌+◌, ◌<◌, ◌≤◌, ◌^◌, if◌then◌else◌, Bool, true, false, not, ◌&&◌, ◌||◌, nat_lt, Option, None, Some, Result, Ok, Err, List, [], ◌∷◌, ◌++◌, get_or, length, option_map, slice_get}
use Rattle.std.specs.List.{cons_option, filter, filter_map}
use Rattle.std.specs.HashMap.{HashMap}
use Rattle.std.specs.Result.{result_ok}
use Rattle.std.proofs.Common.{ap, sym, subst, ◌∙◌, arith, inl, inr, rules}
use Rattle.std.proofs.lemmas.List.{append_assoc, append-nil, length-map}
use Rattle.std.proofs.lemmas.Option.{slice_get-map, slice_get-get_or}
use Rattle.tall_value.specs.declared.class.Class.{Class}
use Rattle.tall_value.specs.declared.functions.Scan.{Scan}
use Rattle.tall_value.specs.contracts.class.ClassPartialEq.TheImpl as class_eq
use Rattle.tall_value.specs.Cells.{Seen}
use Rattle.tall_value.specs.Classes.{kind_of}
use Rattle.tall_value.specs.Columns.{numbered}
use Rattle.tall_dense.specs.Columns.{SeenColumn}
use Rattle.tall_semantics.specs.Faults.{Fault, earlier, fault_seen}
use Rattle.tall_semantics.specs.Operations.{operation, scan, stored}
use Rattle.tall_semantics.specs.Outcomes.{Outcome, cells_in, fault_of, rows, rows_in, row_by_row}
use Rattle.tall_semantics.specs.Plans.{is_scan, is_scan_at}
use Rattle.tall_semantics.specs.RowsOfSpaces.{Fits, numbers_in}
use Rattle.tall_semantics.specs.Shapes.{Shape}
use Rattle.tall_semantics.specs.ShapesInOrder.{shape_at}
use Rattle.tall_semantics.specs.Spaces.{is_single, store_of}
use Rattle.tall_semantics.specs.Talls.{Columns, Tall}
use Rattle.tall_semantics.specs.Deferred.{IsAmong, Vertex, own_in}
use Rattle.tall_semantics.specs.Least.{IsBelow, IsLeast}
use Rattle.tall_semantics.specs.Numbered.{number_at}
use Rattle.tall_semantics.proofs.Basics.{inside}
use Rattle.tall_semantics.proofs.MeaningLaws.{stored_value}
use Rattle.tall_semantics.proofs.OriginLaws.{below_among, get_before}
use Rattle.tall_semantics.proofs.ShapesInOrderLaws.{value_shape}
use Rattle.tall_semantics.proofs.SpaceLaws.{value_fits}
use Rattle.tall_semantics.proofs.TreeLaws.{one_value}
use Rattle.tall_blocks.proofs.EndOperandLaws.{end_operands}
use Rattle.tall_part.specs.Operations.{op_of}
use Rattle.tall_part.specs.declared.operation.EndOperation.{EndOperation}
use Rattle.tall_blocks.specs.Blocks.{Block, block_columns}
use Rattle.tall_blocks.specs.Carries.{AllCells, IsInClass, scanned_behind}
use Rattle.tall_blocks.specs.Pieces.{is_below_missing, is_missing, lacks_carry, looked_at}
use Rattle.tall_blocks.specs.ValuesOver.{value_over}
use Rattle.tall_blocks.proofs.CutLaws.{not_single}
use Rattle.tall_blocks.proofs.PassWorkLaws.{below_more}
use Rattle.tall_blocks.proofs.LevelWorkLaws.{space_of_scan}
use Rattle.tall_blocks.proofs.PieceCarryLaws.{scan_by_carry}
use Rattle.tall_blocks.proofs.SpaceLaws.{space_numbers}
use Rattle.tall_blocks.proofs.TreeOverLaws.{AreOfSpaces}
use Rattle.tall_store.specs.Blocks as store
use Rattle.tall_store.specs.Records.{DataRecord, numbered_records}
use Rattle.tall_store.specs.Stored.{unless_fault, value_at, variable_of}
use Rattle.tall_store.specs.declared.faults.ReadingFault.{ReadingFault}
use Rattle.tall_store.specs.Stores.{SeenStore}
use Rattle.tall_stored.specs.StoredColumns.{variable_class}
use Rattle.tall_stored_blocks.specs.StoredBlocks.{block_of}
use Rattle.tall_fuse.specs.Kept.{carry}
use Rattle.tall_fuse.specs.declared.known.Known.{Known}
use Rattle.tall_block.specs.BlockWork.{AreBlockValues, GoesOn, IsBlock}
use Rattle.tall_block.specs.OfBlocks.{IsThere, known_scalar, of_class, variable_at}
use Rattle.tall_piece.specs.declared.wanted.Wanted.{Wanted}
use Rattle.tall_piece.specs.declared.wanted.Way.{Way}
use Rattle.tall_piece.specs.declared.wanted.Way.TheVariants as way
use Rattle.tall_piece.specs.declared.parts.Part.{Part}
use Rattle.tall_piece.specs.declared.pieces.Piece.TheVariants as piece
use Rattle.tall_piece.specs.declared.sums.BlockParts.{BlockParts}
use Rattle.tall_piece.specs.Right.{IsRightPiece, record_block}
use Rattle.tall_piece.specs.Given.{IsGiven}
use Rattle.tall_piece.specs.Passes.{AreWanted, IsSeen, IsWantedOf, PassOver, carry_of, fault_up_to, looked}
use Rattle.tall_piece.specs.Pieces.{IsPiece, PartsAre, PartsFit}
use Rattle.tall_piece.specs.Wants.{AreOperands, IsOfWay, class_at, height_of}
use Rattle.tall_piece.specs.Worked.{AreMadeParts, AreReadable, IsMadePart, IsReadable, IsWorked}
use Rattle.tall_piece.specs.Joins.{FitsIfThere, parts_rest}
use Rattle.tall_piece.proofs.HeightLaws.{few_rows}
use Rattle.tall_piece.proofs.PassOverLaws.{below_second, block_at, blockwise, can, cut_work, rows_seen}

-- ---- a block's table

class_itself : (k : Class) → (class_eq.ghosts).eq k k ≡ true
class_itself k = search rules

of_its_class : (k : Class) (c : SeenColumn) → c.class ≡ k → of_class k (Some c) ≡ Some c
of_its_class k c e = subst (λ (l : Class). of_class l (Some c) ≡ Some c) e (by_test ((class_eq.ghosts).eq c.class c.class) (class_itself c.class))
  where
    by_test : (b : Bool) → b ≡ true → (if b then Some c else None) ≡ Some c
    by_test true h = refl
    by_test false h = absurd (cc)

few_kept : (g : DataRecord → Option Seen) (xs : List DataRecord) → length (filter_map g xs) ≤ length xs
few_kept g [] = omega (arith)
few_kept g (x ∷ xs) = by_one (g x) (few_kept g xs)
  where
    by_one : (o : Option Seen) → length (filter_map g xs) ≤ length xs → length (cons_option o (filter_map g xs)) ≤ suc (length xs)
    by_one None l = omega (arith, l)
    by_one (Some y) l = omega (arith, l)

as_many : (file row : ℕ) (rs : List (List (List ℕ))) → length (numbered_records file row rs) ≡ length rs
as_many file row [] = refl
as_many file row (r ∷ rs) = ap suc (as_many file (row + 1) rs)

-- the column of a variable
abbrev TableColumn : SeenStore → store.Block → (x : ℕ) → Class → Type 0
TableColumn d b x k = (c : SeenColumn) × (variable_at (store.block_variables d b) x k ≡ Some c) × ((s : ℕ) → block_columns (block_of d b) s x ≡ rows (numbered b.row c.cells)) × (length c.cells ≤ length b.records)

table_column : (d : SeenStore) (b : store.Block) (x : ℕ) (k : Class) → x < length d.selected → k ≡ variable_class d x → TableColumn d b x k
table_column d b x k l e =
    let records = numbered_records b.file b.row b.records in
    let place = get_or d.selected x 0 in
    let entry : List ℕ × SeenColumn = variable_of d records place in
    let got : slice_get (store.block_variables d b) x ≡ Some entry = slice_get-map (variable_of d records) d.selected x ∙ ap (option_map (variable_of d records)) (slice_get-get_or d.selected x 0 l) in (
      entry.1,
      ap (λ o. of_class k (option_map (λ (y : List ℕ × SeenColumn). y.1) o)) got ∙ of_its_class k entry.1 (sym e),
      λ s. refl,
      (let q = few_kept (λ (r : DataRecord). result_ok (value_at d place r)) records in let n = as_many b.file b.row b.records in omega (arith, q, n)),
    )

-- ---- what is looked at

same_missing : (vs : List Vertex) (c g : ℕ → Option Seen) (js : List ℕ) → ((j : ℕ) → IsAmong js j → is_scan_at (slice_get vs j) ≡ true → c j ≡ g j) → (n : ℕ) → is_below_missing vs c js n ≡ is_below_missing vs g js n
same_missing vs c g [] e n = refl
same_missing vs c g (j ∷ js) e n =
    ap (λ b. (not b || nat_lt n (number_at (slice_get vs j))) && is_below_missing vs c js n) (lacks (is_scan_at (slice_get vs j)) refl)
    ∙ ap (λ b. (not (lacks_carry vs g j) || nat_lt n (number_at (slice_get vs j))) && b) (same_missing vs c g js (λ i m s. e i (inr m) s) n)
  where
    lacks : (b : Bool) → is_scan_at (slice_get vs j) ≡ b → lacks_carry vs c j ≡ lacks_carry vs g j
    lacks true q = ap (λ o. is_scan_at (slice_get vs j) && is_missing o) (e j (inl refl) q)
    lacks false q = ap (λ b. b && is_missing (c j)) q ∙ sym (ap (λ b. b && is_missing (g j)) q)

same_filter : (f g : ℕ → Bool) → ((i : ℕ) → f i ≡ g i) → (xs : List ℕ) → filter f xs ≡ filter g xs
same_filter f g e [] = refl
same_filter f g e (x ∷ xs) = ap (λ b. if b then x ∷ filter f xs else filter f xs) (e x) ∙ ap (λ ys. if g x then x ∷ ys else ys) (same_filter f g e xs)

same_looked : (vs : List Vertex) (c g : ℕ → Option Seen) (work : List ℕ) → ((j : ℕ) → IsAmong work j → is_scan_at (slice_get vs j) ≡ true → c j ≡ g j) → looked_at vs c work ≡ looked_at vs g work
same_looked vs c g work e = same_filter (λ i. is_below_missing vs c work (number_at (slice_get vs i))) (λ i. is_below_missing vs g work (number_at (slice_get vs i))) (λ i. same_missing vs c g work e (number_at (slice_get vs i))) work

scan_is : (v : Vertex) (s : Scan) → v.made ≡ operation (scan s) → is_scan_at (Some v) ≡ true
scan_is v s q = ap is_scan q

-- ---- operands

pub among_first : (e : EndOperation) (args : List ℕ) (a b : ℕ) → AreOperands e args a b → IsAmong args a
among_first e args a b ops = elim ops [ inl one ↦ subst (λ xs. IsAmong xs a) (sym one.0) (inl refl) | inr two ↦ subst (λ xs. IsAmong xs a) (sym two.1) (inl refl) ]

pub among_last : (e : EndOperation) (args : List ℕ) (a b : ℕ) → AreOperands e args a b → IsAmong args b
among_last e args a b ops = elim ops [ inl one ↦ subst (λ xs. IsAmong xs b) (sym one.0) (inl (sym one.1)) | inr two ↦ subst (λ xs. IsAmong xs b) (sym two.1) (inr (inl refl)) ]

-- ---- a block of a pass

module _ {vs : List Vertex} {store' : ℕ} {all : List ℕ} {wanted : List Wanted} (p : PassOver vs store' all wanted) (d : SeenStore) (known : Known) (block : store.Block) (n : ℕ) (h : ℕ → Outcome)
    (is : IsGiven p d known block n h) (room : block.row + length block.records ≤ 2 ^ 40) where
  abbrev Table : List (List ℕ × SeenColumn)
  Table = store.block_variables d block

  shape_of : (i : ℕ) (v : Vertex) → slice_get vs i ≡ Some v → (p.f i).shape ≡ shape_at vs i
  shape_of i v e = value_shape p.columns vs p.f is.made p.gather.meaning i v e

  -- a variable that is cut is the datastore's
  own_variable : (i s x : ℕ) (v : Vertex) (k : Class) → slice_get vs i ≡ Some v → p.cut i ≡ true → v.made ≡ stored s x k → s ≡ store'
  own_variable i s x v k e c q =
      let space : store_of (p.f i).shape.space ≡ Some store' = (p.cuts.within i c).0 in
      inside s store' (ap (λ (t : Tall). store_of t.shape.space) (stored_value p.columns vs p.f p.gather.meaning i v s x k e q) ∙ space)

  variables_are : (i s x : ℕ) (v : Vertex) (k : Class) → slice_get vs i ≡ Some v → p.cut i ≡ true → v.made ≡ stored s x k → TableColumn d block x k
  variables_are i s x v k e c q =
      let own : s ≡ store' = own_variable i s x v k e c q in
      let w = is.variables i v x k e (q ∙ ap (λ t. stored t x k) own) in
      table_column d block x k w.0 w.1

  scan_goes_on : (i a : ℕ) (v : Vertex) (s : Scan) (c : Seen) → IsAmong all i → slice_get vs i ≡ Some v → v.made ≡ operation (scan s) → v.args ≡ a ∷ [] → carry known i n ≡ Some c → GoesOn vs h i a v.at s c
  scan_goes_on i a v s c among e q r there =
      let given : carry_of p n i ≡ Some c = sym (is.carries i among (ap is_scan_at e ∙ scan_is v s q)) ∙ there in
      let b = get_before vs i a v e (below_among i v.args a (p.gather.ordered i v e) (subst (λ xs. IsAmong xs a) (sym r) (inl refl))) in
      let class : (p.f a).shape.class ≡ class_at vs a = ap (λ (t : Shape). t.class) (shape_of a b.0 b.1) in
      record {
        class = is.classes i c there;
        scanned = λ none within.
            subst (λ k. h i ≡ row_by_row v.at (scanned_behind s (kind_of k) (c ∷ []) (rows_in (h a)))) class
            (scan_by_carry p.columns p.of_stores vs p.f store' p.cut p.blocks (blockwise p) n h is.over i a v s c e q r ((cut_work p).there i among).0 given none (subst (λ k. AllCells (IsInClass (kind_of k)) (cells_in (h a))) (sym class) within));
      }

  -- what the work asks for
  pub is_block : (b : Block) × (before : ℕ → List Seen) × IsBlock vs Table (known_scalar known) (λ i. carry known i n) block.row all (block_columns b) before p.f p.cut h
  is_block =
      let w = block_at p n h is.over in
      let same : w.0 ≡ block_of d block = inside w.0 (block_of d block) (sym w.2 ∙ is.records) in (
        w.0,
        w.1,
        record {
          over = w.3;
          can = can p;
          aligned = w.4;
          cut_work = cut_work p;
          ascending = is.ascending;
          with_rows = λ i among. (let t = (cut_work p).there i among in subst (λ (x : Shape). is_single x.space ≡ false) (shape_of i t.1.0 t.1.1) (not_single store' (p.f i).shape.space (p.cuts.within i t.0).0));
          variables = λ i s x v k e c q. (let t = variables_are i s x v k e c q in (t.0, t.1, ap (λ (y : Block). block_columns y s x) same ∙ t.2 s, (let l = t.3 in omega (arith, l, room))));
          scalars_known = is.scalars;
          scans = scan_goes_on;
        },
      )

  -- each value over the block has at most as many rows as the block
  few : (i : ℕ) → p.cut i ≡ true → length (rows_in (h i)) ≤ length block.records
  unfolding is_block
  few i c =
      let b = is_block in
      few_rows b.2.over (can p) p.gather.ordered (length block.records)
      (λ j v s x k e cj q. (let t = variables_are j s x v k e cj q in let u = b.2.variables j s x v k e cj q in
      let w = block_at p n h is.over in
      let same : b.0 ≡ block_of d block = inside w.0 (block_of d block) (sym w.2 ∙ is.records) in
      let r : length (rows_in (block_columns b.0 s x)) ≡ length t.0.cells = ap (λ (y : Block). length (rows_in (block_columns y s x))) same ∙ (ap (λ o. length (rows_in o)) (t.2 s) ∙ numbered_length block.row t.0.cells) in
      let l = t.3 in omega (arith, r, l)))
      (λ j cj. ((cut_work p).there j ((p.listed j).1 cj)).1) i c
    where
      numbered_length : (m : ℕ) (cs : List Seen) → length (numbered m cs) ≡ length cs
      numbered_length m [] = refl
      numbered_length m (c ∷ cs) = ap suc (numbered_length (m + 1) cs)

  -- two values of one space have equally many rows in the block
  as_long : (i j : ℕ) (v w : Vertex) → slice_get vs i ≡ Some v → slice_get vs j ≡ Some w → p.cut i ≡ true → p.cut j ≡ true → fault_of (h i) ≡ None → fault_of (h j) ≡ None → (p.f i).shape.space ≡ (p.f j).shape.space → length (rows_in (h i)) ≡ length (rows_in (h j))
  as_long i j v w e g c c' none none' same =
      let b = block_at p n h is.over in
      let of_spaces : AreOfSpaces (block_columns b.0) b.1 vs p.f p.cut = record {
        one_carry = b.6;
        cut_rows = λ k u q x. not_single store' (p.f k).shape.space ((blockwise p).of_store.rows_here k u q x);
        known_single = λ k u q x t. subst (Fits (p.f k).shape) t.1 (value_fits p.columns p.of_stores vs p.f p.gather.meaning p.gather.ordered p.readings k u q (ap fault_of t.1));
        known_same = λ k l u y q r x z t o m. ap (λ (x : Tall). x.outcome) (one_value p.columns vs p.f p.gather.meaning p.gather.ordered k l u y q r m (ap fault_of t.1) (ap fault_of o.1));
        same_numbers = b.5;
      } in
      let numbers : numbers_in (h i) ≡ numbers_in (h j) = space_numbers p.columns p.gather.meaning p.gather.ordered b.3 (can p) of_spaces i j v w e g c c' none none' same in
      sym (length-map (rows_in (h i)) (λ (r : ℕ × Seen). r.0)) ∙ (ap length numbers ∙ length-map (rows_in (h j)) (λ (r : ℕ × Seen). r.0))

  -- ---- what the work gives

  module _ {S : Type 0} (made : HashMap ℕ SeenColumn S) (fault : Option Fault)
      (values : AreBlockValues vs Table made p.f p.cut h (looked_at vs (λ i. carry known i n) all) fault) where
    same_work : looked_at vs (λ i. carry known i n) all ≡ looked p n
    same_work = same_looked vs (λ i. carry known i n) (carry_of p n) all is.carries

    pub seen : IsSeen p n h fault
    seen = subst (λ xs. IsLeast (own_in vs (value_over p.f h)) (IsAmong xs) fault) same_work values.seen

    pub worked : IsWorked vs Table made block.row p.cut h
    worked = (let b = is_block in record {
      scalars = known_scalar known;
      carries = λ i. carry known i n;
      work = all;
      columns = block_columns b.0;
      so_far = b.1;
      f = p.f;
      block = b.2;
      shown = values.shown;
      closed = values.closed;
      listed = λ i c. (p.listed i).1 c;
    })

    -- what is computed and numbered below the faults so far can be read
    readable : (i m : ℕ) → p.cut i ≡ true → number_at (slice_get vs i) ≤ m → IsBelow (earlier (fault_up_to p n) fault) m → IsReadable vs Table made p.cut h (length block.records) i
    readable i m c less below =
        let low : IsBelow (earlier (fault_up_to p n) fault) (number_at (slice_get vs i)) = below_more (earlier (fault_up_to p n) fault) (number_at (slice_get vs i)) m less below in
        let r = rows_seen p n h is.over fault seen i ((p.listed i).1 c) low in
        let there : IsThere vs Table made i = values.there i (subst (λ xs. IsAmong xs i) (sym same_work) r.0) (below_second (fault_up_to p n) fault (number_at (slice_get vs i)) low) in
        (c, there, r.1, few i c)

    -- an operand is numbered no higher
    lower : (i a : ℕ) (v : Vertex) → slice_get vs i ≡ Some v → IsAmong v.args a → number_at (slice_get vs a) ≤ number_at (slice_get vs i)
    lower i a v e among =
        let b = get_before vs i a v e (below_among i v.args a (p.gather.ordered i v e) among) in
        (p.gather.levelled.operands i a v b.0 e among b.1).0

    abbrev Bound : Option Fault
    Bound = earlier (fault_up_to p n) fault

    none_of_rows : (i : ℕ) → h i ≡ rows (rows_in (h i)) → fault_of (h i) ≡ None
    none_of_rows i e = ap fault_of e

    ready : (i : ℕ) (y : Way) → IsOfWay vs i y → IsWantedOf store' vs p.f p.levels p.carried p.needed (p.before + 1) p.candidate p.cut i y → IsBelow Bound (number_at (slice_get vs i)) → AreReadable vs Table made p.cut h (length block.records) i y
    ready i (way.End x a b) w of below =
        let v = w.0 in
        let same : of.1.1.0 ≡ v = inside of.1.1.0 v (sym of.1.1.2 ∙ w.2) in
        let among : IsAmong v.args of.1.1.1 = subst (λ (u : Vertex). IsAmong u.args of.1.1.1) same of.1.1.3 in
        let all_of = end_operands p.columns vs p.f p.gather.meaning store' i of.1.1.1 v (op_of x w.1) w.2 w.3 of.1.0 among of.1.1.4 in
        let ma : IsAmong v.args a = among_first x v.args a b w.4 in
        let mb : IsAmong v.args b = among_last x v.args a b w.4 in
        let ca : p.cut a ≡ true = p.cuts.ends i a v of w.2 ma (all_of.2 a ma) in
        let cb : p.cut b ≡ true = p.cuts.ends i b v of w.2 mb (all_of.2 b mb) in
        let ra = readable a (number_at (slice_get vs i)) ca (lower i a v w.2 ma) below in
        let rb = readable b (number_at (slice_get vs i)) cb (lower i b v w.2 mb) below in
        let va = (cut_work p).there a ((p.listed a).1 ca) in
        let vb = (cut_work p).there b ((p.listed b).1 cb) in
        let space : (p.f a).shape.space ≡ (p.f b).shape.space =
        ap (λ (t : Shape). t.space) (shape_of a va.1.0 va.1.1) ∙ (w.8 ∙ ap (λ (t : Shape). t.space) (sym (shape_of b vb.1.0 vb.1.1))) in
        (ra, rb, as_long a b va.1.0 vb.1.0 va.1.1 vb.1.1 ca cb (none_of_rows a ra.2) (none_of_rows b rb.2) space)
    ready i (way.Carries s a) w of below =
        let v = w.0 in
        let among : IsAmong v.args a = subst (λ xs. IsAmong xs a) (sym w.3) (inl refl) in
        let here : store_of (p.f a).shape.space ≡ Some store' = ap store_of (space_of_scan p.columns vs p.f p.gather.meaning i a v s w.1 w.2 among) ∙ of.2 in
        readable a (number_at (slice_get vs i)) (p.cuts.scans i a v of w.1 among here) (lower i a v w.1 among) below
    ready i way.Rows w of below = readable i (number_at (slice_get vs i)) of (omega (arith)) below

    height : (i : ℕ) (y : Way) → AreReadable vs Table made p.cut h (length block.records) i y → height_of (λ j. rows_in (h j)) i y ≤ length block.records
    height i (way.End x a b) r = r.0.3
    height i (way.Carries s a) r = r.3
    height i way.Rows r = r.3

    parts_of : (ws : List Wanted) (os : List (Option Part)) → AreWanted store' vs p.f p.levels p.carried p.needed (p.before + 1) p.candidate p.cut ws → AreMadeParts vs Table made block.row (length block.records) ws os
        → PartsAre p (λ j. rows_in (h j)) (length block.records) Bound ws os
    parts_of [] os ways are = tt
    parts_of (w ∷ ws) os ways are =
        (λ below. (let r = ready w.node w.way ways.0.0 ways.0.1 below in (are.1 p.cut h worked r, height w.node w.way r)), parts_of ws (parts_rest os) ways.1 are.2)

    -- the piece is right
    pub piece_is : (os : List (Option Part)) → AreMadeParts vs Table made block.row (length block.records) wanted os → IsPiece p n h (length block.records) fault os
    piece_is os are = record { seen = seen; parts_are = parts_of wanted os p.ways are }

pub parts_fit : {S : Type 0} (vs : List Vertex) (table : List (List ℕ × SeenColumn)) (made : HashMap ℕ SeenColumn S) (first n : ℕ) (ws : List Wanted) (os : List (Option Part)) → AreMadeParts vs table made first n ws os → PartsFit vs n ws os
parts_fit vs table made first n [] os are = tt
parts_fit vs table made first n (w ∷ ws) os are = (are.0, parts_fit vs table made first n ws (parts_rest os) are.2)

-- ---- the loop over what is wanted

module _ {S : Type 0} (vs : List Vertex) (table : List (List ℕ × SeenColumn)) (made : HashMap ℕ SeenColumn S) (first n : ℕ) where
  pub one_part : (ws rest all : List Wanted) (w : Wanted) (o : Option Part) (parts longer : List (Option Part)) → ws ≡ w ∷ rest → FitsIfThere vs n w o → IsMadePart vs table made first n w o → longer ≡ parts ++ o ∷ []
      → ((os : List (Option Part)) → AreMadeParts vs table made first n ws os → AreMadeParts vs table made first n all (parts ++ os)) → (os : List (Option Part)) → AreMadeParts vs table made first n rest os → AreMadeParts vs table made first n all (longer ++ os)
  one_part ws rest all w o parts longer e fits is l goes os are =
      subst (AreMadeParts vs table made first n all) (sym (append_assoc parts (o ∷ []) os) ∙ ap (λ xs. xs ++ os) (sym l)) (goes (o ∷ os) (subst (λ xs. AreMadeParts vs table made first n xs (o ∷ os)) (sym e) (fits, is, are)))

  pub all_parts : (ws all : List Wanted) (parts : List (Option Part)) → ws ≡ [] → ((os : List (Option Part)) → AreMadeParts vs table made first n ws os → AreMadeParts vs table made first n all (parts ++ os)) → AreMadeParts vs table made first n all parts
  all_parts ws all parts e goes = subst (AreMadeParts vs table made first n all) (append-nil parts) (goes [] (subst (λ xs. AreMadeParts vs table made first n xs []) (sym e) tt))

-- what the work on a block's table gives, in each pass that the block is one of
pub right_piece : {S : Type 0} (vs : List Vertex) (table : List (List ℕ × SeenColumn)) (made : HashMap ℕ SeenColumn S) (first n : ℕ) (all : List ℕ) (wanted : List Wanted) (known : Known) (place : ℕ) (fault : Option Fault) (os : List (Option Part))
    → ((columns : Columns) (so_far : ℕ → List Seen) (f : ℕ → Tall) (cut : ℕ → Bool) (h : ℕ → Outcome) → IsBlock vs table (known_scalar known) (λ i. carry known i place) first all columns so_far f cut h
    → AreBlockValues vs table made f cut h (looked_at vs (λ i. carry known i place) all) fault)
    → AreMadeParts vs table made first n wanted os
    → (store' : ℕ) (p : PassOver vs store' all wanted) (d : SeenStore) (block : store.Block) (h : ℕ → Outcome) → IsGiven p d known block place h → table ≡ store.block_variables d block → block.row ≡ first → length block.records ≡ n
    → block.row + length block.records ≤ 2 ^ 40 → IsPiece p place h n fault os
right_piece {S = S} vs table made first n all wanted known place fault os values parts store' p d block h is same row many room =
    let b = is_block p d known block place h is room in
    let in_block : IsBlock vs table (known_scalar known) (λ i. carry known i place) first all (block_columns b.0) b.1 p.f p.cut h =
    subst (λ t. IsBlock vs t (known_scalar known) (λ i. carry known i place) first all (block_columns b.0) b.1 p.f p.cut h) (sym same)
    (subst (λ r. IsBlock vs (store.block_variables d block) (known_scalar known) (λ i. carry known i place) r all (block_columns b.0) b.1 p.f p.cut h) row b.2) in
    let of_block : AreBlockValues vs (store.block_variables d block) made p.f p.cut h (looked_at vs (λ i. carry known i place) all) fault =
    subst (λ t. AreBlockValues vs t made p.f p.cut h (looked_at vs (λ i. carry known i place) all) fault) same (values (block_columns b.0) b.1 p.f p.cut h in_block) in
    let made_parts : AreMadeParts vs (store.block_variables d block) made block.row (length block.records) wanted os =
    subst (λ t. AreMadeParts vs t made block.row (length block.records) wanted os) same
    (subst (λ r. AreMadeParts vs table made r (length block.records) wanted os) (sym row) (subst (λ k. AreMadeParts vs table made first k wanted os) (sym many) parts)) in
    subst (λ k. IsPiece p place h k fault os) many (piece_is p d known block place h is room made fault of_block os made_parts)

ok_inside : {A : Type 0} (x y : A) (r : Result A ReadingFault) → r ≡ Ok x → r ≡ Ok y → x ≡ y
ok_inside x y (Ok z) e f = ap (λ q. elim q [ Ok t ↦ t | Err g ↦ x ]) (sym e ∙ f)
ok_inside x y (Err g) e f = absurd (cc)

unless_none : {A : Type 0} (o : Option ReadingFault) (a t : A) → unless_fault o a ≡ Ok t → o ≡ None
unless_none None a t e = refl
unless_none (Some f) a t e = absurd (cc)

pub right_parts : (d : SeenStore) (vs : List Vertex) (known : Known) (all : List ℕ) (wanted : List Wanted) (n file row : ℕ) (records raw : List (List (List ℕ))) (table : List (List ℕ × SeenColumn)) (q : BlockParts) (k : ℕ) → records ≡ raw
    → store.block_table d (record_block file row records) ≡ Ok table → row + length records ≤ 2 ^ 40 → k ≡ length records → q.rows ≡ k → PartsFit vs k wanted q.parts.items
    → ((store' : ℕ) (p : PassOver vs store' all wanted) (e : SeenStore) (block : store.Block) (h : ℕ → Outcome) → IsGiven p e known block n h → table ≡ store.block_variables e block → block.row ≡ row → length block.records ≡ k
    → block.row + length block.records ≤ 2 ^ 40 → IsPiece p n h k (option_map fault_seen q.fault) q.parts.items)
    → IsRightPiece d (record_block file row raw) vs known all wanted n (piece.Parts q)
right_parts d vs known all wanted n file row records raw table q k same is_table room many rows_is fit right =
    let given : store.block_table d (record_block file row raw) ≡ Ok table = ap (λ (rs : List (List (List ℕ))). store.block_table d (record_block file row rs)) (sym same) ∙ is_table in
    let none : store.first_block_fault d (record_block file row raw) ≡ None = unless_none (store.first_block_fault d (record_block file row raw)) (store.block_variables d (record_block file row raw)) table given in
    let whole : store.block_table d (record_block file row raw) ≡ Ok (store.block_variables d (record_block file row raw)) = ap (λ o. unless_fault o (store.block_variables d (record_block file row raw))) none in
    let is : table ≡ store.block_variables d (record_block file row raw) = ok_inside table (store.block_variables d (record_block file row raw)) (store.block_table d (record_block file row raw)) given whole in
    let length_is : k ≡ length raw = many ∙ ap (λ (rs : List (List (List ℕ))). length rs) same in
    let within : row + length raw ≤ 2 ^ 40 = subst (λ (rs : List (List (List ℕ))). row + length rs ≤ 2 ^ 40) same room in (
      none,
      rows_is ∙ length_is,
      subst (λ m. PartsFit vs m wanted q.parts.items) (sym rows_is) fit,
      λ store' p h g. subst (λ m. IsPiece p n h m (option_map fault_seen q.fault) q.parts.items) (sym rows_is) (right store' p d (record_block file row raw) h g is refl (sym length_is) within),
    )
