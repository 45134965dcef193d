-- Values over some rows: they exist and are the only ones, over no rows they have none, and over all rows they are those of
-- the definition. A block and those behind it are parts of all rows, and a fault of the block precedes one behind it.
use Rattle.std.specs.Prelude.{◌≡◌, refl, ℕ, zero, suc, ◌<◌, ◌≤◌, if◌then◌else◌, Bool, true, false, Option, None, Some, List, [], ◌∷◌, ◌++◌, map, slice_get}
use Rattle.std.proofs.Common.{ap, sym, subst, ◌∙◌, arith, inl, inr}
use Rattle.tall_value.specs.Cells.{Seen}
use Rattle.tall_value.specs.declared.functions.Scan.{Scan}
use Rattle.tall_value.specs.Classes.{kind_of}
use Rattle.tall_semantics.specs.Operations.{Op, constant, unary, binary, filter, reduce, scan, head, tail, distinct, group, Made, stored, operation}
use Rattle.tall_semantics.specs.Faults.{At, Fault, least_fault, precedes}
use Rattle.tall_semantics.specs.Outcomes.{Outcome, rows, fault_of, rows_in, cells_in, row_by_row, elementwise_one, elementwise_two}
use Rattle.tall_value.specs.Filters.{kept}
use Rattle.tall_semantics.specs.Talls.{Tall, Columns, outcomes, own_outcome, unless}
use Rattle.tall_semantics.specs.Numbered.{AreNumbered}
use Rattle.tall_semantics.specs.Deferred.{Vertex, IsMeaning, AllBelow, IsOrdered, IsAmong, own_in, fault_in}
use Rattle.tall_blocks.specs.Carries.{AllCells, HasScanKind, scanned_behind}
use Rattle.tall_blocks.specs.Blocks.{Block, block_columns, all_rows, IsVariable, RowsBelow, RowsFrom}
use Rattle.tall_blocks.proofs.SeenLaws.{IsSplit}
use Rattle.tall_blocks.specs.Cut.{CanBeCut, AreCut, IsCutWork}
use Rattle.tall_blocks.specs.ValuesOver.{no_cells, more_cells, more_cells_at, next_cells, own_over, outcome_over, value_over, IsOver, outcome_at, outcomes_in, outcomes_over}
use Rattle.tall_semantics.proofs.InOrderLaws.{same_values}
use Rattle.tall_semantics.proofs.OriginLaws.{get_before, below_among, tall_outcome}
use Rattle.tall_blocks.proofs.SeenLaws.{own_split, own_of, all_none, known_none, own_fault_number}
use Rattle.tall_blocks.proofs.Choices.{true_or_false, if_true, if_false}
use Rattle.tall_blocks.proofs.FaultRowLaws.{fault_holds, later_row}
use Rattle.tall_blocks.proofs.CarryLaws.{scan_begins}
use Rattle.tall_semantics.proofs.Basics.{inside}
use Rattle.tall_semantics.proofs.MeaningLaws.{stored_value, made_value}

-- ---- they exist

module _ (columns : Columns) (so_far : ℕ → List Seen) (vs : List Vertex) (f : ℕ → Tall) (cut : ℕ → Bool) (ordered : IsOrdered vs) where
  abbrev O : ℕ → ℕ → Outcome
  O n i = outcomes_in columns so_far vs f cut n i

  -- so many steps as the place tells are enough, and further ones change nothing
  steps_at : (m n i : ℕ) (o : Option Vertex) → ((v : Vertex) → o ≡ Some v → AllBelow i v.args) → ((a : ℕ) → a < i → O m a ≡ O n a) → outcome_at columns so_far f cut (O m) o i ≡ outcome_at columns so_far f cut (O n) o i
  steps_at m n i None below same = refl
  steps_at m n i (Some v) below same =
      ap (λ xs. if cut i then outcome_over columns (so_far i) v.at v.made xs else (f i).outcome)
      (same_values (value_over f (O m)) (value_over f (O n)) i v.args (λ a l. ap (λ (o : Outcome). record { shape = (f a).shape; outcome = o }) (same a l)) (below v refl))

  steps : (m n i : ℕ) → i < m → i < n → O m i ≡ O n i
  steps zero n i l k = absurd (omega (arith, l))
  steps (suc m) zero i l k = absurd (omega (arith, k))
  steps (suc m) (suc n) i l k = steps_at m n i (slice_get vs i) (λ v e. ordered i v e) (λ a less. steps m n a (omega (arith, less, l)) (omega (arith, less, k)))

  known_at : (h : ℕ → Outcome) (o : Option Vertex) (i : ℕ) → cut i ≡ false → outcome_at columns so_far f cut h o i ≡ (f i).outcome
  known_at h None i n = refl
  known_at h (Some v) i n = if_false (cut i) (outcome_over columns (so_far i) v.at v.made (map (value_over f h) v.args)) (f i).outcome n

  pub over_exists : IsOver columns so_far vs f cut (outcomes_over columns so_far vs f cut)
  over_exists = record {
    made = λ i v e c.
        ap (λ o. outcome_at columns so_far f cut (O i) o i) e
        ∙ (if_true (cut i) (outcome_over columns (so_far i) v.at v.made (map (value_over f (O i)) v.args)) (f i).outcome c
        ∙ ap (λ xs. outcome_over columns (so_far i) v.at v.made xs)
        (same_values (value_over f (O i)) (value_over f (λ a. O (suc a) a)) i v.args (λ a l. ap (λ (o : Outcome). record { shape = (f a).shape; outcome = o }) (steps i (suc a) a l (omega (arith)))) (ordered i v e)));
    known = λ i n. known_at (O i) (slice_get vs i) i n;
  }

-- ---- there are no others

module _ {columns : Columns} {so_far : ℕ → List Seen} {vs : List Vertex} {f : ℕ → Tall} {cut : ℕ → Bool} {h k : ℕ → Outcome} (over : IsOver columns so_far vs f cut h) (other : IsOver columns so_far vs f cut k) (ordered : IsOrdered vs) where
  only_below : (n i : ℕ) (v : Vertex) → i < n → slice_get vs i ≡ Some v → h i ≡ k i
  only_below zero i v l e = absurd (omega (arith, l))
  only_below (suc n) i v l e = elim (true_or_false (cut i)) [
    | inl c ↦
        over.made i v e c
        ∙ (ap (λ xs. outcome_over columns (so_far i) v.at v.made xs)
        (same_values (value_over f h) (value_over f k) i v.args (λ a less. ap (λ (o : Outcome). record { shape = (f a).shape; outcome = o }) (let b = get_before vs i a v e less in only_below n a b.0 (omega (arith, l, less)) b.1)) (ordered i v e))
        ∙ sym (other.made i v e c))
    | inr n2 ↦ over.known i n2 ∙ sym (other.known i n2)
  ]

  pub over_only : (i : ℕ) (v : Vertex) → slice_get vs i ≡ Some v → h i ≡ k i
  over_only i v e = only_below (suc i) i v (omega (arith)) e

-- ---- no rows

module _ {so_far : ℕ → List Seen} {vs : List Vertex} {f : ℕ → Tall} {cut : ℕ → Bool} {h : ℕ → Outcome} (over : IsOver (block_columns (all_rows [])) so_far vs f cut h) (can : AreCut f cut vs) (ordered : IsOrdered vs) where
  empty_own : (c : List Seen) (at : At) (op : Op) (args : List ℕ) → CanBeCut f cut (operation op) args → ((a : ℕ) → IsAmong args a → cut a ≡ true → h a ≡ rows []) → own_over c at op (map (value_over f h) args) ≡ rows []
  empty_own c at (constant x) args k g = absurd k
  empty_own c at (unary op) [] k g = absurd k
  empty_own c at (unary op) (a ∷ []) k g = ap (elementwise_one at op) (g a (inl refl) k)
  empty_own c at (unary op) (a ∷ b ∷ args) k g = absurd k
  empty_own c at (binary op) [] k g = absurd k
  empty_own c at (binary op) (a ∷ []) k g = absurd k
  empty_own c at (binary op) (a ∷ b ∷ []) k g = elim k [
    | inl both ↦ ap (λ o. elementwise_two at op o (h b)) (g a (inl refl) both.0) ∙ ap (elementwise_two at op (rows [])) (g b (inr (inl refl)) both.1)
    | inr one ↦ elim one [
      | inl left ↦ ap (λ o. elementwise_two at op o (h b)) (g a (inl refl) left.0) ∙ ap (elementwise_two at op (rows [])) (over.known b left.1.0 ∙ left.1.1.1)
      | inr right ↦ ap (λ o. elementwise_two at op (h a) o) (g b (inr (inl refl)) right.1) ∙ ap (λ o. elementwise_two at op o (rows [])) (over.known a right.0.0 ∙ right.0.1.1)
    ]
  ]
  empty_own c at (binary op) (a ∷ b ∷ d ∷ args) k g = absurd k
  empty_own c at filter [] k g = absurd k
  empty_own c at filter (a ∷ []) k g = absurd k
  empty_own c at filter (a ∷ m ∷ []) k g = ap (λ o. rows (kept (rows_in o) (cells_in (h m)))) (g a (inl refl) k.0)
  empty_own c at filter (a ∷ m ∷ d ∷ args) k g = absurd k
  empty_own c at (scan s) [] k g = absurd k
  empty_own c at (scan s) (a ∷ []) k g = ap (λ o. row_by_row at (scanned_behind s (kind_of (f a).shape.class) c (rows_in o))) (g a (inl refl) k)
  empty_own c at (scan s) (a ∷ b ∷ args) k g = absurd k
  empty_own c at (reduce r) args k g = absurd k
  empty_own c at (head n) args k g = absurd k
  empty_own c at (tail n) args k g = absurd k
  empty_own c at distinct args k g = absurd k
  empty_own c at (group m part) args k g = absurd k

  empty_made : (i : ℕ) (v : Vertex) (m : Made) → slice_get vs i ≡ Some v → cut i ≡ true → v.made ≡ m → ((a : ℕ) → IsAmong v.args a → cut a ≡ true → h a ≡ rows []) → h i ≡ rows []
  empty_made i v (stored s a k) e c q g = subst (λ m. h i ≡ outcome_over (block_columns (all_rows [])) (so_far i) v.at m (map (value_over f h) v.args)) q (over.made i v e c)
  empty_made i v (operation op) e c q g =
      own_of over can i v op e c q (all_none (fault_in (value_over f h)) v.args
      (λ a m. elim (true_or_false (cut a)) [ inl y ↦ ap fault_of (g a m y) | inr n ↦ known_none over can i a v e c m n ]))
      ∙ empty_own (so_far i) v.at op v.args (subst (λ m. CanBeCut f cut m v.args) q (can i v e c)) g

  empty_below : (n i : ℕ) (v : Vertex) → i < n → slice_get vs i ≡ Some v → cut i ≡ true → h i ≡ rows []
  empty_below zero i v l e c = absurd (omega (arith, l))
  empty_below (suc n) i v l e c = empty_made i v v.made e c refl
      (λ a among is_cut.
      let less : a < i = below_among i v.args a (ordered i v e) among in
      let b = get_before vs i a v e less in
      empty_below n a b.0 (omega (arith, l, less)) b.1 is_cut)

  pub empty_rows : (i : ℕ) (v : Vertex) → slice_get vs i ≡ Some v → cut i ≡ true → h i ≡ rows []
  empty_rows i v e c = empty_below (suc i) i v (omega (arith)) e c

  pub no_own_fault : (i : ℕ) (x : Fault) → cut i ≡ true → own_in vs (value_over f h) i ≡ Some x → ⊥
  no_own_fault i x c own =
      let w = own_split (value_over f h) (slice_get vs i) i x own in
      let z : fault_of (h i) ≡ None = ap fault_of (empty_below (suc i) i w.0 (omega (arith)) w.1 c) in
      let y : fault_of (h i) ≡ Some x = w.3 in
      cc

module _ (vs : List Vertex) (f : ℕ → Tall) (cut : ℕ → Bool) (ordered : IsOrdered vs) (can : AreCut f cut vs) where
  scan_goes_on : (g : ℕ → Outcome) (so_far : ℕ → List Seen) (i a : ℕ) (v : Vertex) (s : Scan) → slice_get vs i ≡ Some v → v.made ≡ operation (scan s) → v.args ≡ a ∷ [] → next_cells vs g so_far i ≡ so_far i ++ cells_in (g a)
  scan_goes_on g so_far i a v s e q r =
      ap (λ o. more_cells_at g o (so_far i)) e ∙ (ap (λ m. more_cells g m v.args (so_far i)) q ∙ ap (λ args. more_cells g (operation (scan s)) args (so_far i)) r)

  -- the rows of a block and of those behind it
  pub split_at : (b : Block) (bs : List Block) (so_far : ℕ → List Seen) (g : ℕ → Outcome) → IsSplit (block_columns (all_rows (b ∷ bs))) (block_columns b) (block_columns (all_rows bs)) so_far so_far (next_cells vs g so_far) vs f cut g
  split_at b bs so_far g = record {
    columns_split = λ i v s a e c q. (b s a, all_rows bs s a, refl, refl, refl);
    starts = λ i. refl;
    goes_on = λ i a v s e c q r. scan_goes_on g so_far i a v s e q r;
  }

-- ---- block by block

module _ (vs : List Vertex) (f : ℕ → Tall) (cut : ℕ → Bool) (P : ℕ → Type 0) (ordered : IsOrdered vs) (can : AreCut f cut vs) (numbered : AreNumbered vs) (work : IsCutWork vs cut P) where
  -- by row numbers: the same value's fault behind the block doesn't precede the one in the block
  pub in_order : (b : Block) (bs : List Block) (so_far so_far_rest : ℕ → List Seen) (g k : ℕ → Outcome) → IsOver (block_columns b) so_far vs f cut g → IsOver (block_columns (all_rows bs)) so_far_rest vs f cut k → (m : ℕ) → RowsBelow m b → RowsFrom m (all_rows bs)
      → (i : ℕ) (x y : Fault) → P i → own_in vs (value_over f g) i ≡ Some x → own_in vs (value_over f k) i ≡ Some y → precedes y x ≡ false
  in_order b bs so_far so_far_rest g k over_block over_rest m before from i x y p seen later =
      let c : cut i ≡ true = (work.there i p).0 in
      let u = own_split (value_over f g) (slice_get vs i) i x seen in
      let w = own_split (value_over f k) (slice_get vs i) i y later in
      let r = fault_holds (λ n. n < m) over_block can ordered (λ j v s a e d q. before s a) i u.0 x u.1 c u.3 in
      let s = fault_holds (λ n. m ≤ n) over_rest can ordered (λ j v s a e d q. from s a) i w.0 y w.1 c w.3 in
      let nx : x.number ≡ u.0.at.number = own_fault_number over_block can (λ j v s a e d q. refl) i u.0 u.0.made x u.1 c refl u.2 u.3 in
      let ny : y.number ≡ w.0.at.number = own_fault_number over_rest can (λ j v s a e d q. refl) i w.0 w.0.made y w.1 c refl w.2 w.3 in
      let same : u.0 ≡ w.0 = inside u.0 w.0 (sym u.1 ∙ w.1) in
      let low : r.0 < m = r.2 in
      let high : m ≤ s.0 = s.2 in
      later_row x y r.0 s.0 (nx ∙ (ap (λ (v : Vertex). v.at.number) same ∙ sym ny)) r.1 s.1 (omega (arith, low, high))

-- ---- over all rows

module _ (columns : Columns) (vs : List Vertex) (f : ℕ → Tall) (cut : ℕ → Bool) (meaning : IsMeaning columns vs f) (can : AreCut f cut vs) where
  abbrev W : ℕ → Outcome
  W i = (f i).outcome

  -- the cells that each scan goes over are of a kind that it takes
  abbrev pub ScansTake : Type 0
  ScansTake = (i a : ℕ) (v : Vertex) (s : Scan) → slice_get vs i ≡ Some v → v.made ≡ operation (scan s) → v.args ≡ a ∷ [] → AllCells (HasScanKind (kind_of (f a).shape.class)) (cells_in (f a).outcome)

  whole_own : (at : At) (op : Op) (args : List ℕ) → ((s : Scan) (a : ℕ) → op ≡ scan s → args ≡ a ∷ [] → AllCells (HasScanKind (kind_of (f a).shape.class)) (cells_in (f a).outcome)) → own_outcome at op (map f args) ≡ own_over [] at op (map (value_over f W) args)
  whole_own at (scan s) [] take = refl
  whole_own at (scan s) (a ∷ []) take = ap (row_by_row at) (sym (scan_begins s (kind_of (f a).shape.class) (rows_in (f a).outcome) (take s a refl refl)))
  whole_own at (scan s) (a ∷ b ∷ args) take = refl
  whole_own at (constant x) args take = refl
  whole_own at (unary op) args take = refl
  whole_own at (binary op) args take = refl
  whole_own at filter args take = refl
  whole_own at (reduce r) args take = refl
  whole_own at (head n) args take = refl
  whole_own at (tail n) args take = refl
  whole_own at distinct args take = refl
  whole_own at (group m part) args take = refl

  whole_made : ScansTake → (i : ℕ) (v : Vertex) (m : Made) → slice_get vs i ≡ Some v → v.made ≡ m → (f i).outcome ≡ outcome_over columns [] v.at m (map (value_over f W) v.args)
  whole_made take i v (stored s a k) e q = sym (ap (λ (t : Tall). t.outcome) (stored_value columns vs f meaning i v s a k e q))
  whole_made take i v (operation op) e q =
      tall_outcome v.at op (map f v.args) (f i) (made_value columns vs f meaning i v op e q)
      ∙ ap (unless (least_fault (map fault_of (outcomes (map f v.args))))) (whole_own v.at op v.args (λ s a r t. take i a v s e (q ∙ ap operation r) t))

  pub whole_over : ScansTake → IsOver columns no_cells vs f cut W
  whole_over take = record {
    made = λ i v e c. whole_made take i v v.made e refl;
    known = λ i n. refl;
  }

stored_same : (columns others : Columns) (m : Made) (c : List Seen) (v : Vertex) (xs : List Tall) → ((s a : ℕ) → IsVariable m s a → columns s a ≡ others s a) → outcome_over columns c v.at m xs ≡ outcome_over others c v.at m xs
stored_same columns others (stored s a k) c v xs same = same s a (refl, refl)
stored_same columns others (operation op) c v xs same = refl

pub over_others : (columns others : Columns) (so_far : ℕ → List Seen) (vs : List Vertex) (f : ℕ → Tall) (cut : ℕ → Bool) (h : ℕ → Outcome) → ((i : ℕ) (v : Vertex) (s a : ℕ) → slice_get vs i ≡ Some v → cut i ≡ true → IsVariable v.made s a → columns s a ≡ others s a) → IsOver columns so_far vs f cut h → IsOver others so_far vs f cut h
over_others columns others so_far vs f cut h same over = record {
  made = λ i v e c. over.made i v e c ∙ stored_same columns others v.made (so_far i) v (map (value_over f h) v.args) (λ s a q. same i v s a e c q);
  known = over.known;
}
