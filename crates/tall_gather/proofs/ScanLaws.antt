-- Scans over what is known, from the first row on.
use Rattle.std.specs.Prelude.{◌≡◌, refl, ℕ, ◌+◌, IsOk, false, Result, Ok, Err, List, [], ◌∷◌, length}
use Rattle.std.specs.List.{All}
use Rattle.std.proofs.Common.{ap, sym, subst, ◌∙◌, inl}
use Rattle.std.proofs.lemmas.List.Elements.{All-cons, All-nil}
use Rattle.tall_value.specs.declared.class.Class.{Class}
use Rattle.tall_value.specs.declared.class.Kind.{Kind}
use Rattle.tall_value.specs.declared.class.Kind.TheVariants.{Integer, Logical, Double, Text}
use Rattle.tall_value.specs.declared.faults.ClassFault.{ClassFault}
use Rattle.tall_value.specs.declared.functions.Scan.{Scan}
use Rattle.tall_value.specs.Cells.{Seen, seen_kind}
use Rattle.tall_value.specs.Classes.{kind_of}
use Rattle.tall_value.specs.ClassTables.{class_result}
use Rattle.tall_value.specs.Columns.{RowHasKind, cells, numbered}
use Rattle.tall_value.specs.FunctionClasses.{scan_class, scan_kind}
use Rattle.tall_value.specs.Scans.{scanned}
use Rattle.tall_dense.specs.Columns.{SeenColumn}
use Rattle.tall_dense.specs.Rows.{Answers}
use Rattle.tall_dense.specs.declared.faults.OpFault.{OpFault}
use Rattle.tall_fold.specs.Carries.{result_kind, scan_rows}
use Rattle.tall_fold.proofs.WholeLemmas.{whole_is}
use Rattle.tall_semantics.specs.Operations.{scan}
use Rattle.tall_semantics.specs.Faults.{At}
use Rattle.tall_semantics.specs.Outcomes.{Outcome, rows, row_by_row, rows_in, cells_in}
use Rattle.tall_semantics.specs.Shapes.{Shape, ShapeRefusal, allowed, placed}
use Rattle.tall_semantics.specs.ShapesInOrder.{IsMade, shape_at}
use Rattle.tall_semantics.specs.Spaces.{Space, is_single}
use Rattle.tall_semantics.specs.Talls.{Columns, Tall}
use Rattle.tall_semantics.specs.Deferred.{Vertex, IsOrdered}
use Rattle.tall_semantics.proofs.ShapeLaws.{column_is, inside, placed_is, space_ok}
use Rattle.tall_blocks.specs.Carries.{AllCells, HasScanKind, Rows, RowsOrFault, scanned_behind}
use Rattle.tall_blocks.proofs.CarryLaws.{scan_begins, scans_take}
use Rattle.tall_blocks.proofs.RowPlaceLaws.{scan_counted}
use Rattle.tall_fuse.specs.Results.{Found}
use Rattle.tall_block.specs.OfBlocks.{IsOperation, vertex_over}
use Rattle.tall_block.specs.Shown.{Tells}
use Rattle.tall_block.proofs.Operators.{IsLong, cells_long, cells_numbered, from_none, scan_long, told}
use Rattle.tall_pass.specs.Told.{Shows}
use Rattle.tall_pass.specs.Fitting.{IsFit}
use Rattle.tall_gather.specs.Rests.{IsComputed, IsRestAt}
use Rattle.tall_gather.proofs.LeadLaws.{Leads, leads}
use Rattle.tall_gather.proofs.NodeLaws.{accepted_as, no_fault, operand_stands, own_one, shape_is}
use Rattle.tall_gather.proofs.FilterLaws.{no_scalar}

-- ---- the space

pub record IsScan (vs : List Vertex) (i a : ℕ) : Type 0 where
  pub column_is : is_single (shape_at vs a).space ≡ false
  pub same : (shape_at vs a).space ≡ (shape_at vs i).space

pub scan_space : (vs : List Vertex) → IsMade vs → (i a : ℕ) (s : Scan) → IsOperation vs i (scan s) (a ∷ []) → IsScan vs i a
scan_space vs made i a s node =
    let w = accepted_as vs made i (scan s) (a ∷ []) node in
    let x : Shape = shape_at vs a in
    let r : Result (Class × Space) ShapeRefusal = placed (allowed (scan_class s x.class)) (Ok x.space) in
    record {
      column_is = no_scalar x r w.place w.accepted;
      same = inside x.space w.place.1 (placed_is (allowed (scan_class s x.class)) (space_ok x.space) w.place (column_is x r w.place w.accepted)) ∙ w.space_is;
    }

pub scan_leads : (vs : List Vertex) → IsMade vs → (i a : ℕ) (s : Scan) (x : Found) → IsRestAt vs i → IsOperation vs i (scan s) (a ∷ []) → IsFit (shape_at vs a) x → Leads vs i a x
scan_leads vs made i a s x rest node fit = (let k = scan_space vs made i a s node in leads vs i a (scan s) (a ∷ []) x rest node (inl refl) k.column_is k.same fit)

-- ---- from no rows on

kind_has : (a : Kind) (c : Seen) → HasScanKind a c → seen_kind c ≡ a
kind_has (Integer k) c h = h
kind_has Logical c h = h
kind_has Double c h = h
kind_has Text c h = absurd h

rows_have : (a : Kind) (n : ℕ) (cs : List Seen) → AllCells (HasScanKind a) cs → All (RowHasKind a) (numbered n cs)
rows_have a n [] h = All-nil (RowHasKind a)
rows_have a n (c ∷ cs) h = All-cons (RowHasKind a) (n, c) (numbered (n + 1) cs) (kind_has a c h.0) (rows_have a (n + 1) cs h.1)

takes_kind : (r : Result Kind ClassFault) → IsOk (class_result r) → IsOk r
takes_kind (Ok k) h = refl
takes_kind (Err e) h = h

-- the scan of rows with numbers of their own, told by the answer over rows that count from 0
pub scan_from_start : (s : Scan) (a : Class) (rs : Rows) (cs : List Seen) (answer : Result SeenColumn OpFault) → IsOk (scan_class s a) → cells rs ≡ cs → AllCells (HasScanKind (kind_of a)) (cells rs)
    → Answers (scan_rows s (result_kind (kind_of a)) [] (numbered 0 cs)) (λ (d : SeenColumn). d.cells) answer → (at : At) → Tells at rs (row_by_row at (scanned s (kind_of a) rs)) answer
scan_from_start s a rs cs answer takes q kinds h at =
    let k : Kind = kind_of a in
    let z : RowsOrFault = scanned_behind s k [] (numbered 0 (cells rs)) in
    let counted : AllCells (HasScanKind k) (cells (numbered 0 (cells rs))) = subst (AllCells (HasScanKind k)) (sym (cells_numbered 0 (cells rs))) kinds in
    let is : scan_rows s (result_kind k) [] (numbered 0 cs) ≡ z =
    ap (λ ds. scan_rows s (result_kind k) [] (numbered 0 ds)) (sym q) ∙ (whole_is s k (numbered 0 (cells rs)) (takes_kind (scan_kind s k) takes) (rows_have k 0 (cells rs) kinds) ∙ sym (scan_begins s k (numbered 0 (cells rs)) counted)) in
    told at rs (scanned s k rs) z (sym (scan_begins s k rs kinds) ∙ scan_counted s k [] rs) (subst (λ n. IsLong n n z) (cells_long rs) (scan_long s k [] 0 (length (cells rs)) (cells rs) (from_none (length (cells rs))))) answer
    (subst (λ (r : RowsOrFault). Answers r (λ (d : SeenColumn). d.cells) answer) is h)

module _ (columns : Columns) (vs : List Vertex) (f : ℕ → Tall) (computed : IsComputed columns vs f) (made : IsMade vs) (ordered : IsOrdered vs) where
  pub scan_tells : (i a : ℕ) (s : Scan) (node : IsOperation vs i (scan s) (a ∷ [])) (x : Found) (class : Class) (answer : Result SeenColumn OpFault) → class ≡ (shape_at vs a).class → IsOk (scan_class s class) → Shows (f a) x
      → Answers (scan_rows s (result_kind (kind_of class)) [] (numbered 0 x.column.cells)) (λ (d : SeenColumn). d.cells) answer → (rs : Rows) → (f a).outcome ≡ rows rs → cells rs ≡ x.column.cells → Tells node.0 rs (f i).outcome answer
  scan_tells i a s node x class answer same takes shows h rs e q =
      let v = vertex_over node.0 (scan s) (a ∷ []) in
      let w = operand_stands columns vs f computed made ordered i a (scan s) (a ∷ []) node (inl refl) in
      let shape : (f a).shape.class ≡ class = ap (λ (t : Shape). t.class) (shape_is columns vs f computed made ordered a w.0 w.1) ∙ sym same in
      let kinds : AllCells (HasScanKind (kind_of class)) (cells rs) =
      subst (λ (c : Class). AllCells (HasScanKind (kind_of c)) (cells rs)) shape (subst (λ (o : Outcome). AllCells (HasScanKind (kind_of (f a).shape.class)) (cells_in o)) e (scans_take columns computed.of_stores vs f computed.meaning ordered computed.stored i a v s node.1 refl refl)) in
      let own : (f i).outcome ≡ row_by_row node.0 (scanned s (kind_of class) rs) =
      own_one columns vs f computed made ordered i a (scan s) node (no_fault (f a) x shows) ∙ (ap (λ (o : Outcome). row_by_row node.0 (scanned s (kind_of (f a).shape.class) (rows_in o))) e ∙ ap (λ (c : Class). row_by_row node.0 (scanned s (kind_of c) rs)) shape) in
      subst (λ (o : Outcome). Tells node.0 rs o answer) (sym own) (scan_from_start s class rs x.column.cells answer takes q kinds h node.0)
