-- A pass over the blocks of a datastore: the least fault seen block by block is the least own fault, and a value without a
-- fault has its rows of each block in order.
use Rattle.std.specs.Prelude.{◌≡◌, refl, ℕ, Bool, true, Option, None, Some, List, [], ◌∷◌, ◌++◌, length, slice_get}
use Rattle.std.proofs.Common.{ap, sym, subst, ◌∙◌, inl}
use Rattle.std.proofs.lemmas.List.{length-map}
use Rattle.tall_value.specs.Cells.{Seen}
use Rattle.tall_semantics.specs.Spaces.{is_single}
use Rattle.tall_semantics.specs.Faults.{Fault, least_fault}
use Rattle.tall_semantics.specs.Outcomes.{Outcome, rows, fault_of, rows_in}
use Rattle.tall_semantics.specs.Shapes.{Shape}
use Rattle.tall_semantics.specs.Talls.{Tall, Columns}
use Rattle.tall_semantics.specs.Deferred.{Vertex, own_in, fault_in}
use Rattle.tall_semantics.specs.Least.{IsLeast}
use Rattle.tall_semantics.specs.RowsOfSpaces.{Fits, numbers_in}
use Rattle.tall_semantics.proofs.SpaceLaws.{value_fits}
use Rattle.tall_semantics.proofs.TreeLaws.{one_value}
use Rattle.tall_blocks.specs.Blocks.{Block, block_columns, all_rows, IsTable, AreTables, AreAscending}
use Rattle.tall_blocks.specs.Cut.{IsScalar, AreCut, AreAligned, IsCutWork}
use Rattle.tall_blocks.specs.ValuesOver.{value_over, IsOver, AreParts, no_cells, next_cells, outcomes_over, block_outcomes, rows_of_blocks}
use Rattle.tall_blocks.specs.SeenFaults.{AreSeen, IsBlockwise}
use Rattle.tall_blocks.proofs.BlockLaws.{over_exists, empty_rows, no_own_fault, split_at, in_order, whole_over, over_others}
use Rattle.tall_blocks.specs.FoldsOfBlocks.{AreAsLong}
use Rattle.tall_blocks.proofs.CarryLaws.{scans_take}
use Rattle.tall_blocks.proofs.CutLaws.{not_single, are_cut}
use Rattle.tall_blocks.proofs.LeastLaws.{least_joined}
use Rattle.tall_blocks.proofs.SeenLaws.{value_parts}
use Rattle.tall_blocks.proofs.SpaceLaws.{aligned, space_numbers}
use Rattle.tall_blocks.proofs.TreeOverLaws.{AreOfSpaces, next_carry}

scalar_single : (s : Shape) (x : Outcome) → IsScalar x → Fits s x → is_single s.space ≡ true
scalar_single s x c fits = subst (Fits s) c.1 fits

same_length : (x y : Outcome) → numbers_in x ≡ numbers_in y → length (rows_in x) ≡ length (rows_in y)
same_length x y e = sym (length-map (rows_in x) (λ (r : ℕ × Seen). r.0)) ∙ (ap length e ∙ length-map (rows_in y) (λ (r : ℕ × Seen). r.0))

module _ (columns : Columns) (of_stores : ℕ → List ℕ) (vs : List Vertex) (f : ℕ → Tall) (store : ℕ) (cut : ℕ → Bool) (bs : List Block) (pass : IsBlockwise columns of_stores vs f store cut bs) where
  pub can : AreCut f cut vs
  can = are_cut columns vs f cut store pass.meaning pass.of_store

  -- ---- spaces over a block

  abbrev pub OneCarry : (ℕ → List Seen) → Type 0
  OneCarry so_far = (i j : ℕ) (v w : Vertex) → slice_get vs i ≡ Some v → slice_get vs j ≡ Some w → cut i ≡ true → cut j ≡ true → (f i).shape.tree ≡ (f j).shape.tree → so_far i ≡ so_far j

  of_spaces : (b : Block) (so_far : ℕ → List Seen) → IsTable vs cut b → OneCarry so_far → AreOfSpaces (block_columns b) so_far vs f cut
  of_spaces b so_far table one = record {
    one_carry = one;
    cut_rows = λ i v e c. not_single store (f i).shape.space (pass.of_store.rows_here i v e c);
    known_single = λ i v e k s. scalar_single (f i).shape (f i).outcome s (value_fits columns of_stores vs f pass.meaning pass.ordered pass.readings i v e (ap fault_of s.1));
    known_same = λ i j v w e g k l s r t. ap (λ (x : Tall). x.outcome) (one_value columns vs f pass.meaning pass.ordered i j v w e g t (ap fault_of s.1) (ap fault_of r.1));
    same_numbers = table;
  }

  pub start_one : OneCarry no_cells
  start_one i j v w e g c d t = refl

  pub aligned_over : (b : Block) (so_far : ℕ → List Seen) (h : ℕ → Outcome) → IsTable vs cut b → OneCarry so_far → IsOver (block_columns b) so_far vs f cut h → AreAligned vs cut h
  aligned_over b so_far h table one over = aligned columns pass.meaning pass.ordered over can (of_spaces b so_far table one)

  pub next_one : (b : Block) (so_far : ℕ → List Seen) (h : ℕ → Outcome) → IsTable vs cut b → OneCarry so_far → IsOver (block_columns b) so_far vs f cut h → OneCarry (next_cells vs h so_far)
  next_one b so_far h table one over = next_carry columns pass.meaning pass.ordered over can (of_spaces b so_far table one)

  -- ---- block by block

  pub whole : IsOver (block_columns (all_rows bs)) no_cells vs f cut (λ i. (f i).outcome)
  whole =
      over_others columns (block_columns (all_rows bs)) no_cells vs f cut (λ i. (f i).outcome) pass.blocks
      (whole_over columns vs f cut pass.meaning can (scans_take columns of_stores vs f pass.meaning pass.ordered pass.readings))

  module _ (P : ℕ → Type 0) (work : IsCutWork vs cut P) where
    pub least_seen : (rest : List Block) (cs : List (Option Fault)) (so_far : ℕ → List Seen) → AreTables vs cut rest → OneCarry so_far → AreAscending rest → AreSeen vs f cut P so_far rest cs
        → (h : ℕ → Outcome) → IsOver (block_columns (all_rows rest)) so_far vs f cut h → IsLeast (own_in vs (value_over f h)) P (least_fault cs)
    least_seen [] cs so_far tables one ascending seen h over = subst (λ xs. IsLeast (own_in vs (value_over f h)) P (least_fault xs)) (sym seen) (record {
      one = λ x e. absurd (cc);
      least = λ i y p own. absurd (no_own_fault over can pass.ordered i y (work.there i p).0 own);
    })
    least_seen (b ∷ rest) [] so_far tables one ascending seen h over = absurd seen
    least_seen (b ∷ rest) (c ∷ cs) so_far tables one ascending seen h over =
        let g = seen.0 in
        let behind = next_cells vs g so_far in
        let k = outcomes_over (block_columns (all_rows rest)) behind vs f cut in
        let over_rest : IsOver (block_columns (all_rows rest)) behind vs f cut k = over_exists (block_columns (all_rows rest)) behind vs f cut pass.ordered in
        least_joined over seen.1 over_rest pass.ordered can (aligned_over b so_far g tables.0 one seen.1) (split_at vs f cut pass.ordered can b rest so_far g) pass.numbered
        P work c (least_fault cs) seen.2 (least_seen rest cs behind tables.1 (next_one b so_far g tables.0 one seen.1) ascending.1 seen.3 k over_rest)
        (in_order vs f cut P pass.ordered can pass.numbered work b rest so_far behind g k seen.1 over_rest ascending.0.0 ascending.0.1 ascending.0.2)

    pub least_of_blocks : (cs : List (Option Fault)) → AreSeen vs f cut P no_cells bs cs → IsLeast (own_in vs f) P (least_fault cs)
    least_of_blocks cs seen = least_seen bs cs no_cells pass.tables start_one pass.ascending seen (λ i. (f i).outcome) whole

  pub rows_over : (rest : List Block) (so_far : ℕ → List Seen) → AreTables vs cut rest → OneCarry so_far → (h : ℕ → Outcome) → IsOver (block_columns (all_rows rest)) so_far vs f cut h
      → (i : ℕ) (v : Vertex) → slice_get vs i ≡ Some v → cut i ≡ true → fault_of (h i) ≡ None → h i ≡ rows (rows_of_blocks (block_outcomes vs f cut so_far rest) i)
  rows_over [] so_far tables one h over i v e c none = empty_rows over can pass.ordered i v e c
  rows_over (b ∷ rest) so_far tables one h over i v e c none =
      let g : ℕ → Outcome = outcomes_over (block_columns b) so_far vs f cut in
      let over_block : IsOver (block_columns b) so_far vs f cut g = over_exists (block_columns b) so_far vs f cut pass.ordered in
      let behind : ℕ → List Seen = next_cells vs g so_far in
      let k : ℕ → Outcome = outcomes_over (block_columns (all_rows rest)) behind vs f cut in
      let over_rest : IsOver (block_columns (all_rows rest)) behind vs f cut k = over_exists (block_columns (all_rows rest)) behind vs f cut pass.ordered in
      let p : AreParts (h i) (g i) (k i) = value_parts over over_block over_rest pass.ordered can (aligned_over b so_far g tables.0 one over_block) (split_at vs f cut pass.ordered can b rest so_far g) i v e c (inl none) in
      let next : k i ≡ rows (rows_of_blocks (block_outcomes vs f cut behind rest) i) = rows_over rest behind tables.1 (next_one b so_far g tables.0 one over_block) k over_rest i v e c (ap fault_of p.4) in
      let same : p.1 ≡ rows_of_blocks (block_outcomes vs f cut behind rest) i = ap rows_in (sym p.4 ∙ next) in
      p.2 ∙ (ap (λ rs. rows (rs ++ p.1)) (sym (ap rows_in p.3)) ∙ ap (λ ss. rows (rows_in (g i) ++ ss)) same)

  pub rows_of_value : (i : ℕ) (v : Vertex) → slice_get vs i ≡ Some v → cut i ≡ true → fault_in f i ≡ None → (f i).outcome ≡ rows (rows_of_blocks (block_outcomes vs f cut no_cells bs) i)
  rows_of_value i v e c none = rows_over bs no_cells pass.tables start_one (λ j. (f j).outcome) whole i v e c none

  -- ---- of one space

  -- two values of one space have equally many rows in each block
  long_over : (rest : List Block) (so_far : ℕ → List Seen) → AreTables vs cut rest → OneCarry so_far → (h : ℕ → Outcome) → IsOver (block_columns (all_rows rest)) so_far vs f cut h
      → (i j : ℕ) (v w : Vertex) → slice_get vs i ≡ Some v → slice_get vs j ≡ Some w → cut i ≡ true → cut j ≡ true → (f i).shape.space ≡ (f j).shape.space → fault_of (h i) ≡ None → fault_of (h j) ≡ None → AreAsLong (block_outcomes vs f cut so_far rest) i j
  long_over [] so_far tables one h over i j v w e d ci cj space ni nj = tt
  long_over (b ∷ rest) so_far tables one h over i j v w e d ci cj space ni nj =
      let g : ℕ → Outcome = outcomes_over (block_columns b) so_far vs f cut in
      let over_block : IsOver (block_columns b) so_far vs f cut g = over_exists (block_columns b) so_far vs f cut pass.ordered in
      let behind : ℕ → List Seen = next_cells vs g so_far in
      let k : ℕ → Outcome = outcomes_over (block_columns (all_rows rest)) behind vs f cut in
      let over_rest : IsOver (block_columns (all_rows rest)) behind vs f cut k = over_exists (block_columns (all_rows rest)) behind vs f cut pass.ordered in
      let even = aligned_over b so_far g tables.0 one over_block in
      let p : AreParts (h i) (g i) (k i) = value_parts over over_block over_rest pass.ordered can even (split_at vs f cut pass.ordered can b rest so_far g) i v e ci (inl ni) in
      let q : AreParts (h j) (g j) (k j) = value_parts over over_block over_rest pass.ordered can even (split_at vs f cut pass.ordered can b rest so_far g) j w d cj (inl nj) in
      let n : numbers_in (g i) ≡ numbers_in (g j) = space_numbers columns pass.meaning pass.ordered over_block can (of_spaces b so_far tables.0 one) i j v w e d ci cj (ap fault_of p.3) (ap fault_of q.3) space in
      (same_length (g i) (g j) n, long_over rest behind tables.1 (next_one b so_far g tables.0 one over_block) k over_rest i j v w e d ci cj space (ap fault_of p.4) (ap fault_of q.4))

  pub long_values : (i j : ℕ) (v w : Vertex) → slice_get vs i ≡ Some v → slice_get vs j ≡ Some w → cut i ≡ true → cut j ≡ true → (f i).shape.space ≡ (f j).shape.space → fault_in f i ≡ None → fault_in f j ≡ None
      → AreAsLong (block_outcomes vs f cut no_cells bs) i j
  long_values i j v w e d ci cj space ni nj = long_over bs no_cells pass.tables start_one (λ a. (f a).outcome) whole i j v w e d ci cj space ni nj
