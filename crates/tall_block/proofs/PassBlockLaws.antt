-- Each block of a pass is one that the work on a block asks for.
use Rattle.std.specs.Prelude.{◌≡◌, refl, ℕ, zero, suc, Bool, true, Option, None, Some, List, [], ◌∷◌, slice_get}
use Rattle.std.proofs.Common.{ap, sym, subst, ◌∙◌, inl}
use Rattle.std.proofs.lemmas.List.Elements.{All-head}
use Rattle.tall_value.specs.declared.class.Class.{Class}
use Rattle.tall_value.specs.Cells.{Seen}
use Rattle.tall_value.specs.Classes.{kind_of}
use Rattle.tall_dense.specs.Columns.{SeenColumn}
use Rattle.tall_semantics.specs.ClassesOfCells.{HasClass, HaveClass}
use Rattle.tall_semantics.specs.Outcomes.{Outcome, rows, scalar, fault_of, rows_in, cells_in, row_by_row}
use Rattle.tall_semantics.specs.RowsOfSpaces.{Fits}
use Rattle.tall_semantics.specs.Shapes.{Shape}
use Rattle.tall_semantics.specs.ShapesInOrder.{IsMade, shape_at}
use Rattle.tall_semantics.specs.Spaces.{is_single}
use Rattle.tall_semantics.specs.Talls.{Columns, Tall}
use Rattle.tall_semantics.specs.Deferred.{Vertex, IsAmong}
use Rattle.tall_semantics.proofs.Basics.{inside}
use Rattle.tall_semantics.proofs.ClassLaws.{value_class}
use Rattle.tall_semantics.proofs.OriginLaws.{below_among, get_before}
use Rattle.tall_semantics.proofs.ShapesInOrderLaws.{value_shape}
use Rattle.tall_semantics.proofs.SpaceLaws.{value_fits}
use Rattle.tall_blocks.specs.Blocks.{AreTables, Block, block_columns}
use Rattle.tall_blocks.specs.Carries.{AllCells, IsInClass, scanned_behind}
use Rattle.tall_blocks.specs.Cut.{AreAligned}
use Rattle.tall_blocks.specs.Pieces.{pass_blocks}
use Rattle.tall_blocks.specs.SeenFaults.{IsBlockwise}
use Rattle.tall_blocks.specs.ValuesOver.{IsOver, block_outcomes, next_cells, no_cells, outcomes_over}
use Rattle.tall_blocks.proofs.BlockLaws.{over_exists}
use Rattle.tall_blocks.proofs.CutLaws.{are_cut, not_single}
use Rattle.tall_blocks.proofs.PassLaws.{OneCarry, aligned_over, next_one, start_one}
use Rattle.tall_blocks.proofs.PieceCarryLaws.{scan_by_carry}
use Rattle.tall_block.specs.BlockWork.{IsBlock, IsKnown}
use Rattle.tall_block.specs.PassBlocks.{IsTold}

module _ (columns : Columns) (of_stores : ℕ → List ℕ) (vs : List Vertex) (f : ℕ → Tall) (store : ℕ) (cut : ℕ → Bool) (bs : List Block) (pass : IsBlockwise columns of_stores vs f store cut bs) (is_made : IsMade vs) where
  -- the block at a place, behind the cells of the blocks before
  here : (rest : List Block) (so_far : ℕ → List Seen) (n : ℕ) (h : ℕ → Outcome) (b : Block) → AreTables vs cut rest → OneCarry columns of_stores vs f store cut bs pass so_far → slice_get (block_outcomes vs f cut so_far rest) n ≡ Some h → slice_get rest n ≡ Some b
      → (before : ℕ → List Seen) × IsOver (block_columns b) before vs f cut h × AreAligned vs cut h
  here [] so_far zero h b tables one e g = absurd (cc)
  here [] so_far (suc n) h b tables one e g = absurd (cc)
  here (d ∷ rest) so_far zero h b tables one e g =
      let k : ℕ → Outcome = outcomes_over (block_columns d) so_far vs f cut in
      let over : IsOver (block_columns d) so_far vs f cut k = over_exists (block_columns d) so_far vs f cut pass.ordered in
      let even : AreAligned vs cut k = aligned_over columns of_stores vs f store cut bs pass d so_far k tables.0 one over in
      let over_h : IsOver (block_columns d) so_far vs f cut h = subst (λ j. IsOver (block_columns d) so_far vs f cut j) (inside k h e) over in
      (so_far, subst (λ (c : Block). IsOver (block_columns c) so_far vs f cut h) (inside d b g) over_h, subst (AreAligned vs cut) (inside k h e) even)
  here (d ∷ rest) so_far (suc n) h b tables one e g =
      let k : ℕ → Outcome = outcomes_over (block_columns d) so_far vs f cut in
      let over : IsOver (block_columns d) so_far vs f cut k = over_exists (block_columns d) so_far vs f cut pass.ordered in
      here rest (next_cells vs k so_far) n h b tables.1 (next_one columns of_stores vs f store cut bs pass d so_far k tables.0 one over) e g

  shape_is : (i : ℕ) (v : Vertex) → slice_get vs i ≡ Some v → (f i).shape ≡ shape_at vs i
  shape_is i v e = value_shape columns vs f is_made pass.meaning i v e

  known : (a : ℕ) (v : Vertex) (scalars : ℕ → Option Seen) (c : Seen) → slice_get vs a ≡ Some v → scalars a ≡ Some c → (f a).outcome ≡ scalar c → IsKnown vs scalars f a
  known a v scalars c e s o =
      let fits : Fits (f a).shape (f a).outcome = value_fits columns of_stores vs f pass.meaning pass.ordered pass.readings a v e (ap fault_of o) in
      let class : HaveClass (f a).shape.class (scalar c) = subst (HaveClass (f a).shape.class) o (value_class columns of_stores vs f pass.meaning pass.ordered pass.readings a v e) in
      let single : is_single (f a).shape.space ≡ true = subst (Fits (f a).shape) o fits in
      record {
        cell = c;
        known = s;
        is = o;
        class = All-head (HasClass (f a).shape.class) c [] class ∙ ap (λ (t : Shape). t.class) (shape_is a v e);
        single = sym (ap (λ (t : Shape). is_single t.space) (shape_is a v e)) ∙ single;
      }

  pub computed : (n : ℕ) (h : ℕ → Outcome) (b : Block) → slice_get (pass_blocks vs f cut bs) n ≡ Some h → slice_get bs n ≡ Some b
      → (table : List (List ℕ × SeenColumn)) (scalars carries : ℕ → Option Seen) (first : ℕ) (work : List ℕ) → IsTold vs table scalars carries first work f cut (pass_blocks vs f cut bs) n b
      → (so_far : ℕ → List Seen) × IsBlock vs table scalars carries first work (block_columns b) so_far f cut h
  computed n h b e g table scalars carries first work is =
      let w = here bs no_cells n h b pass.tables (start_one columns of_stores vs f store cut bs pass) e g in (
        w.0,
        record {
          over = w.1;
          can = are_cut columns vs f cut store pass.meaning pass.of_store;
          aligned = w.2;
          cut_work = is.cut_work;
          ascending = is.ascending;
          with_rows = λ i m.
              let u = is.cut_work.there i m in
              sym (ap (λ (t : Shape). is_single t.space) (shape_is i u.1.0 u.1.1)) ∙ not_single store (f i).shape.space (pass.of_store.rows_here i u.1.0 u.1.1 u.0);
          variables = λ i s x v k d c q. (let u = is.variables i s x v k d c q in (u.0, u.1, ap rows u.2, u.3));
          scalars_known = λ i a v m d p c.
              let u = is.scalars_known i a v m d p c in
              let x = get_before vs i a v d (below_among i v.args a (pass.ordered i v d) p) in
              known a x.0 scalars u.0 x.1 u.1 u.2;
          scans = λ i a v s c m d q r k.
              let u = is.carried i c m k in
              let p : IsAmong v.args a = subst (λ xs. IsAmong xs a) (sym r) (inl refl) in
              let x = get_before vs i a v d (below_among i v.args a (pass.ordered i v d) p) in
              let same : (f a).shape.class ≡ (shape_at vs a).class = ap (λ (t : Shape). t.class) (shape_is a x.0 x.1) in
              record {
                class = u.1;
                scanned = subst (λ (t : Class). fault_of (h a) ≡ None → AllCells (IsInClass (kind_of t)) (cells_in (h a)) → h i ≡ row_by_row v.at (scanned_behind s (kind_of t) (c ∷ []) (rows_in (h a)))) same
                    (λ none within. scan_by_carry columns of_stores vs f store cut bs pass n h e i a v s c d q r (is.cut_work.there i m).0 u.0 none within);
              };
        },
      )
