-- What the laws of blocks say of one pass: the least fault goes from block to block, and what isn't numbered above it has rows
-- in each block.
use Rattle.std.specs.Prelude.{◌≡◌, refl, ℕ, zero, suc, ◌<◌, ◌≤◌, true, Option, None, Some, List, [], ◌∷◌, ◌++◌, length, take, slice_get}
use Rattle.std.proofs.Common.{ap, sym, subst, ◌∙◌, arith, inl, inr}
use Rattle.tall_value.specs.Cells.{Seen}
use Rattle.tall_semantics.specs.Faults.{Fault, earlier}
use Rattle.tall_semantics.specs.Outcomes.{Outcome, rows, fault_of, rows_in}
use Rattle.tall_semantics.specs.Deferred.{Vertex, IsAmong}
use Rattle.tall_semantics.specs.Least.{AtMost, IsBelow}
use Rattle.tall_semantics.specs.Numbered.{number_at}
use Rattle.tall_semantics.proofs.Basics.{inside}
use Rattle.tall_semantics.proofs.OrderLaws.{at_most_itself, at_most_left, at_most_right, by_number}
use Rattle.tall_semantics.proofs.OriginLaws.{none_or_some}
use Rattle.tall_blocks.specs.Blocks.{Block, block_columns, all_rows, AreTables, IsTable}
use Rattle.tall_blocks.specs.Cut.{AreAligned, AreCut, IsCutWork}
use Rattle.tall_blocks.specs.Pieces.{AreScansFree, IsLookedAt}
use Rattle.tall_blocks.specs.SeenFaults.{IsBlockwise}
use Rattle.tall_blocks.specs.ValuesOver.{IsOver, AreParts, block_outcomes, next_cells, no_cells, outcomes_over, rows_of_blocks, value_over}
use Rattle.tall_blocks.proofs.BlockLaws.{empty_rows, over_exists, split_at}
use Rattle.tall_blocks.proofs.LeastLaws.{path_number}
use Rattle.tall_blocks.proofs.PassLaws as passes
use Rattle.tall_blocks.proofs.PassLaws.{OneCarry, aligned_over, next_one, rows_of_value, start_one}
use Rattle.tall_blocks.proofs.PassWorkLaws.{level_of_store, level_work, scans_free}
use Rattle.tall_blocks.proofs.PieceCarryLaws.{looked_by_carries, looked_closed}
use Rattle.tall_blocks.proofs.PieceLaws.{looked_enough}
use Rattle.tall_blocks.proofs.SeenLaws.{origin, own_fault_number, own_split, value_parts}
use Rattle.tall_piece.specs.declared.wanted.Wanted.{Wanted}
use Rattle.tall_piece.specs.Passes.{PassOver, outcomes, carry_of, looked, IsSeen, fault_up_to}

-- ---- what is below the earlier of two faults is below both

below_fault : (c : Option Fault) (x : Fault) (n : ℕ) → AtMost c x → IsBelow c n → n < x.number
below_fault None x n h b = absurd h
below_fault (Some z) x n h b = (let q : z.number ≤ x.number = by_number z x h in omega (arith, q, b))

pub below_first : (c d : Option Fault) (n : ℕ) → IsBelow (earlier c d) n → IsBelow c n
below_first None d n b = tt
below_first (Some x) d n b = below_fault (earlier (Some x) d) x n (at_most_left (Some x) d x (at_most_itself x)) b

pub below_second : (c d : Option Fault) (n : ℕ) → IsBelow (earlier c d) n → IsBelow d n
below_second c None n b = tt
below_second c (Some x) n b = below_fault (earlier c (Some x)) x n (at_most_right c (Some x) x (at_most_itself x)) b

-- ---- lists of blocks

pub in_list : {A : Type 0} (xs : List A) (n : ℕ) (x : A) → slice_get xs n ≡ Some x → n < length xs
in_list [] zero x e = absurd (cc)
in_list [] (suc n) x e = absurd (cc)
in_list (y ∷ xs) zero x e = omega (arith)
in_list (y ∷ xs) (suc n) x e = (let l = in_list xs n x e in omega (arith, l))

-- the rows of the first blocks, and then of one block more
pub rows_more : (hs : List (ℕ → Outcome)) (n i : ℕ) (h : ℕ → Outcome) → slice_get hs n ≡ Some h → rows_of_blocks (take (suc n) hs) i ≡ rows_of_blocks (take n hs) i ++ rows_in (h i)
rows_more [] zero i h e = absurd (cc)
rows_more [] (suc n) i h e = absurd (cc)
rows_more (g ∷ hs) zero i h e = (let same : g ≡ h = inside g h e in ap (λ (k : ℕ → Outcome). rows_in (k i) ++ []) same ∙ append_nothing (rows_in (h i)))
  where
    append_nothing : (rs : List (ℕ × Seen)) → rs ++ [] ≡ rs
    append_nothing [] = refl
    append_nothing (r ∷ rs) = ap (λ ss. r ∷ ss) (append_nothing rs)
rows_more (g ∷ hs) (suc n) i h e = ap (λ rs. rows_in (g i) ++ rs) (rows_more hs n i h e) ∙ sym (grouped (rows_in (g i)) (rows_of_blocks (take n hs) i) (rows_in (h i)))
  where
    grouped : (rs ss ts : List (ℕ × Seen)) → (rs ++ ss) ++ ts ≡ rs ++ (ss ++ ts)
    grouped [] ss ts = refl
    grouped (r ∷ rs) ss ts = ap (λ us. r ∷ us) (grouped rs ss ts)

-- ---- a pass

module _ {vs : List Vertex} {store : ℕ} {all : List ℕ} {wanted : List Wanted} (p : PassOver vs store all wanted) where
  pub blockwise : IsBlockwise p.columns p.of_stores vs p.f store p.cut p.blocks
  blockwise = record {
    meaning = p.gather.meaning;
    ordered = p.gather.ordered;
    numbered = p.numbered;
    readings = p.readings;
    of_store = level_of_store p.columns p.of_stores vs p.f p.levels p.carried p.roots p.needed p.gather store p.before p.candidate p.least p.cut p.cuts p.readings p.scalars;
    blocks = p.of_blocks;
    tables = p.tables;
    ascending = p.ascending;
  }

  pub cut_work : IsCutWork vs p.cut (IsAmong all)
  cut_work = level_work p.columns p.of_stores vs p.f p.levels p.carried p.roots p.needed p.gather store p.before p.candidate p.least p.cut p.cuts all p.listed

  pub can : AreCut p.f p.cut vs
  can = passes.can p.columns p.of_stores vs p.f store p.cut p.blocks blockwise

  scans_are_free : AreScansFree vs p.f all
  scans_are_free = scans_free p.columns p.of_stores vs p.f p.levels p.carried p.roots p.needed p.gather store p.before p.candidate p.least p.cut p.cuts all p.listed p.scans

  pub is_looked : (n : ℕ) → n < length (outcomes p) → IsLookedAt vs all (fault_up_to p n) (looked p n)
  is_looked n l = looked_by_carries p.columns p.of_stores vs p.f store p.cut p.blocks blockwise all cut_work scans_are_free n l

  -- the fault of one block more
  pub fault_more : (n : ℕ) (h : ℕ → Outcome) → slice_get (outcomes p) n ≡ Some h → (c : Option Fault) → IsSeen p n h c → earlier (fault_up_to p n) c ≡ fault_up_to p (suc n)
  fault_more n h e c seen = looked_enough p.columns p.of_stores vs p.f store p.cut p.blocks blockwise all cut_work n h e (looked p n) (is_looked n (in_list (outcomes p) n h e)) c seen

  -- ---- one block

  -- the outcomes over it, with operands equally long
  blocks_are : (rest : List Block) (so_far : ℕ → List Seen) (n : ℕ) (h : ℕ → Outcome) → AreTables vs p.cut rest → OneCarry p.columns p.of_stores vs p.f store p.cut p.blocks blockwise so_far
      → slice_get (block_outcomes vs p.f p.cut so_far rest) n ≡ Some h → (b : Block) × (before : ℕ → List Seen) × (slice_get rest n ≡ Some b) × IsOver (block_columns b) before vs p.f p.cut h × AreAligned vs p.cut h × IsTable vs p.cut b × OneCarry p.columns p.of_stores vs p.f store p.cut p.blocks blockwise before
  blocks_are [] so_far zero h tables one e = absurd (cc)
  blocks_are [] so_far (suc n) h tables one e = absurd (cc)
  blocks_are (b ∷ rest) so_far zero h tables one e =
      let g : ℕ → Outcome = outcomes_over (block_columns b) so_far vs p.f p.cut in
      let over : IsOver (block_columns b) so_far vs p.f p.cut h = subst (λ k. IsOver (block_columns b) so_far vs p.f p.cut k) (inside g h e) (over_exists (block_columns b) so_far vs p.f p.cut p.gather.ordered) in
      (b, so_far, refl, over, aligned_over p.columns p.of_stores vs p.f store p.cut p.blocks blockwise b so_far h tables.0 one over, tables.0, one)
  blocks_are (b ∷ rest) so_far (suc n) h tables one e =
      let g : ℕ → Outcome = outcomes_over (block_columns b) so_far vs p.f p.cut in
      blocks_are rest (next_cells vs g so_far) n h tables.1
      (next_one p.columns p.of_stores vs p.f store p.cut p.blocks blockwise b so_far g tables.0 one (over_exists (block_columns b) so_far vs p.f p.cut p.gather.ordered)) e

  pub block_at : (n : ℕ) (h : ℕ → Outcome) → slice_get (outcomes p) n ≡ Some h
      → (b : Block) × (before : ℕ → List Seen) × (slice_get p.blocks n ≡ Some b) × IsOver (block_columns b) before vs p.f p.cut h × AreAligned vs p.cut h × IsTable vs p.cut b × OneCarry p.columns p.of_stores vs p.f store p.cut p.blocks blockwise before
  block_at n h e = blocks_are p.blocks no_cells n h p.tables (start_one p.columns p.of_stores vs p.f store p.cut p.blocks blockwise) e

  -- what is cut and has no fault has rows
  rows_there : (n : ℕ) (h : ℕ → Outcome) → slice_get (outcomes p) n ≡ Some h → (i : ℕ) (v : Vertex) → slice_get vs i ≡ Some v → p.cut i ≡ true → fault_of (h i) ≡ None → h i ≡ rows (rows_in (h i))
  rows_there n h e i v g is_cut none =
      let w = block_at n h e in
      let behind : ℕ → List Seen = next_cells vs h w.1 in
      let k : ℕ → Outcome = outcomes_over (block_columns (all_rows [])) behind vs p.f p.cut in
      let over_rest : IsOver (block_columns (all_rows [])) behind vs p.f p.cut k = over_exists (block_columns (all_rows [])) behind vs p.f p.cut p.gather.ordered in
      let both : ℕ → Outcome = outcomes_over (block_columns (all_rows (w.0 ∷ []))) w.1 vs p.f p.cut in
      let over : IsOver (block_columns (all_rows (w.0 ∷ []))) w.1 vs p.f p.cut both = over_exists (block_columns (all_rows (w.0 ∷ []))) w.1 vs p.f p.cut p.gather.ordered in
      let parts : AreParts (both i) (h i) (k i) = value_parts over w.3 over_rest p.gather.ordered can w.4 (split_at vs p.f p.cut p.gather.ordered can w.0 [] w.1 h) i v g is_cut
      (inr (none, ap fault_of (empty_rows over_rest can p.gather.ordered i v g is_cut))) in
      parts.3 ∙ ap rows (sym (ap rows_in parts.3))

  -- what the work on a block looks at, with the operands of what it looks at
  looked_work : (n : ℕ) → n < length (outcomes p) → IsCutWork vs p.cut (IsAmong (looked p n))
  looked_work n l = record {
    there = λ i m. cut_work.there i ((is_looked n l).of_work i m);
    closed = λ i a v m e among is_cut.
        let in_all : IsAmong all a = (p.listed a).1 is_cut in
        let w = (cut_work.there a in_all).1 in
        looked_closed vs p.numbered (carry_of p n) all i a v w.0 m e among w.1 in_all;
  }

  -- numbered below the least fault that is seen, it has none
  unfaulted : (n : ℕ) (h : ℕ → Outcome) → slice_get (outcomes p) n ≡ Some h → (c : Option Fault) → IsSeen p n h c → (i : ℕ) → IsAmong (looked p n) i → IsBelow c (number_at (slice_get vs i)) → fault_of (h i) ≡ None
  unfaulted n h e c seen i among below = elim (none_or_some (fault_of (h i))) [
    | inl none ↦ none
    | inr some ↦
        let l = in_list (outcomes p) n h e in
        let work = looked_work n l in
        let b = block_at n h e in
        let v = (work.there i among).1 in
        let r = origin b.3 can p.gather.ordered (IsAmong (looked p n)) work (suc i) i v.0 some.0 (omega (arith)) v.1 among some.1 in
        let u = own_split (value_over p.f h) (slice_get vs r.0) r.0 some.0 r.3 in
        let number : some.0.number ≡ u.0.at.number = own_fault_number b.3 can (λ j v s a e d q. refl) r.0 u.0 u.0.made some.0 u.1 (work.there r.0 r.2).0 refl u.2 u.3 in
        let less : u.0.at.number ≤ v.0.at.number = path_number vs p.gather.ordered p.numbered i r.0 v.0 u.0 v.1 u.1 r.1 in
        let at : number_at (slice_get vs i) ≡ v.0.at.number = ap number_at v.1 in
        let more = below_fault c some.0 (number_at (slice_get vs i)) (seen.least r.0 some.0 r.2 r.3) below in
        absurd (omega (arith, number, less, at, more))
  ]

  -- what is computed, and numbered below the fault of the blocks up to this one, is looked at and has rows
  pub rows_seen : (n : ℕ) (h : ℕ → Outcome) → slice_get (outcomes p) n ≡ Some h → (c : Option Fault) → IsSeen p n h c → (i : ℕ) → IsAmong all i → IsBelow (earlier (fault_up_to p n) c) (number_at (slice_get vs i))
      → IsAmong (looked p n) i × (h i ≡ rows (rows_in (h i)))
  rows_seen n h e c seen i among below =
      let l = in_list (outcomes p) n h e in
      let there : IsAmong (looked p n) i = (is_looked n l).below i among (below_first (fault_up_to p n) c (number_at (slice_get vs i)) below) in
      let v = cut_work.there i among in
      (there, rows_there n h e i v.1.0 v.1.1 v.0 (unfaulted n h e c seen i there (below_second (fault_up_to p n) c (number_at (slice_get vs i)) below)))
