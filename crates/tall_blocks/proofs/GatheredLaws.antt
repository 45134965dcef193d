-- What is kept block by block for values that need all rows gives their outcomes.
use Rattle.std.specs.Prelude.{◌≡◌, refl, ℕ, pos, Bool, true, false, None, Some, Result, Ok, Err, List, [], ◌∷◌, map, slice_get}
use Rattle.std.proofs.Common.{ap, sym, subst, ◌∙◌, inl, inr}
use Rattle.tall_value.specs.declared.class.Kind.{Kind}
use Rattle.tall_value.specs.declared.faults.FaultKind.{FaultKind}
use Rattle.tall_value.specs.declared.functions.Method.{Method}
use Rattle.tall_value.specs.declared.functions.Method.TheVariants.{Count, Sum, SumNative, Min, Max, Nnz, Nummissing}
use Rattle.tall_value.specs.declared.functions.Reduction.{Reduction}
use Rattle.tall_value.specs.Cells.{Seen, double}
use Rattle.tall_value.specs.Classes.{kind_of}
use Rattle.tall_value.specs.Columns.{numbered}
use Rattle.tall_value.specs.Elementwise.{in_front}
use Rattle.tall_value.specs.Groups.{group_counts, group_values}
use Rattle.tall_value.specs.GroupSummary.{value_columns, summary_columns, of_groups}
use Rattle.tall_semantics.specs.Operations.{Op, constant, unary, binary, filter, reduce, scan, head, tail, group, Part, Made, stored, operation}
use Rattle.tall_semantics.specs.Operations as operations
use Rattle.tall_semantics.specs.Chains.{needs_all_rows}
use Rattle.tall_semantics.specs.Plans.{is_scan}
use Rattle.tall_semantics.specs.Faults.{At, least_fault}
use Rattle.tall_semantics.specs.Outcomes.{Outcome, rows, fault_of, rows_in, cells_in, alone, part_of_group, grouped}
use Rattle.tall_semantics.specs.Shapes.{Shape, place_of, on_column}
use Rattle.tall_semantics.specs.Shapes as shaping
use Rattle.tall_semantics.specs.Talls.{Tall, Columns, shapes, outcomes, own_outcome}
use Rattle.tall_semantics.specs.Deferred.{Vertex, IsAmong, fault_in}
use Rattle.tall_semantics.proofs.MeaningLaws.{made_value, tall_shape}
use Rattle.tall_semantics.proofs.OriginLaws.{get_before, below_among, faults_of_values, tall_outcome}
use Rattle.tall_semantics.proofs.ShapeLaws.{place_ok, shaped_is, column_is, group_spaces}
use Rattle.tall_blocks.specs.Blocks.{Block}
use Rattle.tall_blocks.specs.Carries.{Rows}
use Rattle.tall_blocks.specs.Folds.{Kept, start, more, by_parts, number_of, reduction_fold, omits, reduction_result, method_fold, method_omits}
use Rattle.tall_value.specs.Reductions.{used, every_cell}
use Rattle.tall_blocks.specs.FoldsOfBlocks.{AreAsLong, kept_of_blocks, first_of_blocks, last_of_blocks, distinct_of_blocks, groups_of_blocks}
use Rattle.tall_blocks.specs.Gathered.{Gathered, gathered_more, gathered_from, gathered_all, gathered_columns, group_column, or_one, end_outcome}
use Rattle.tall_blocks.specs.GroupsOver.{keys_of, groups_of}
use Rattle.tall_blocks.specs.Pieces.{pass_blocks}
use Rattle.tall_blocks.specs.SeenFaults.{IsBlockwise}
use Rattle.tall_blocks.specs.ValuesOver.{rows_of_blocks}
use Rattle.tall_blocks.proofs.BlockFoldLaws.{reduced_by_blocks, first_by_blocks, last_by_blocks, distinct_by_blocks, groups_by_blocks}
use Rattle.tall_blocks.proofs.GroupLaws.{keys_kept, counts_kept, values_kept}
use Rattle.tall_blocks.proofs.PassLaws.{rows_of_value, long_values}
use Rattle.tall_blocks.proofs.SeenLaws.{all_none, unless_none}

-- ---- the two ways to go over the blocks

reduced_from : (r : Reduction) (a : Kind) (s : Kept (reduction_fold r a)) (hs : List (ℕ → Outcome)) (i j : ℕ) → gathered_from (reduce r) a s hs i j ≡ kept_of_blocks (reduction_fold r a) (omits r) s hs i
reduced_from r a s [] i j = refl
reduced_from r a s (h ∷ hs) i j = reduced_from r a (more (reduction_fold r a) s (used (omits r) (cells_in (h i)))) hs i j

first_from : (k : ℕ) (a : Kind) (s : Rows) (hs : List (ℕ → Outcome)) (i j : ℕ) → gathered_from (head k) a s hs i j ≡ first_of_blocks k s hs i
first_from k a s [] i j = refl
first_from k a s (h ∷ hs) i j = first_from k a (gathered_more (head k) a s (h i) (h j)) hs i j

last_from : (k : ℕ) (a : Kind) (s : Rows) (hs : List (ℕ → Outcome)) (i j : ℕ) → gathered_from (tail k) a s hs i j ≡ last_of_blocks k s hs i
last_from k a s [] i j = refl
last_from k a s (h ∷ hs) i j = last_from k a (gathered_more (tail k) a s (h i) (h j)) hs i j

distinct_from : (a : Kind) (s : List Seen) (hs : List (ℕ → Outcome)) (i j : ℕ) → gathered_from operations.distinct a s hs i j ≡ distinct_of_blocks s hs i
distinct_from a s [] i j = refl
distinct_from a s (h ∷ hs) i j = distinct_from a (gathered_more operations.distinct a s (h i) (h j)) hs i j

group_from : (m : Method) (part : Part) (a : Kind) (s : Gathered (group m part) a) (hs : List (ℕ → Outcome)) (i j : ℕ)
    → ((gathered_from (group m part) a s hs i j).0 ≡ groups_of_blocks (by_parts (number_of every_cell)) false s.0 hs i i) × ((gathered_from (group m part) a s hs i j).1 ≡ groups_of_blocks (method_fold m a) (method_omits m) s.1 hs i j)
group_from m part a s [] i j = (refl, refl)
group_from m part a s (h ∷ hs) i j = group_from m part a (gathered_more (group m part) a s (h i) (h j)) hs i j

-- ---- the columns of `groupsummary`

one_column : (r : Result (List Seen) FaultKind) → elim r [ Ok values ↦ Ok (values ∷ []) | Err e ↦ Err e ] ≡ or_one r
one_column (Ok values) = refl
one_column (Err e) = refl

column_kept : (m : Method) (a : Kind) (ks ds : List Seen) → value_columns m a ks ds ≡ group_column m a (groups_of (method_fold m a) (method_omits m) ks ds)
column_kept Count a ks ds = refl
column_kept Sum a ks ds = one_column (group_values Sum a ks ds) ∙ ap or_one (values_kept Sum a ks ds)
column_kept SumNative a ks ds = one_column (group_values SumNative a ks ds) ∙ ap or_one (values_kept SumNative a ks ds)
column_kept Min a ks ds = one_column (group_values Min a ks ds) ∙ ap or_one (values_kept Min a ks ds)
column_kept Max a ks ds = one_column (group_values Max a ks ds) ∙ ap or_one (values_kept Max a ks ds)
column_kept Nnz a ks ds = one_column (group_values Nnz a ks ds) ∙ ap or_one (values_kept Nnz a ks ds)
column_kept Nummissing a ks ds = one_column (group_values Nummissing a ks ds) ∙ ap or_one (values_kept Nummissing a ks ds)

columns_kept : (m : Method) (a : Kind) (ks ds : List Seen) → summary_columns m a ks ds ≡ gathered_columns m a (groups_of (by_parts (number_of every_cell)) false ks ks) (groups_of (method_fold m a) (method_omits m) ks ds)
columns_kept m a ks ds =
    ap (λ xs. in_front xs (in_front (group_counts ks) (value_columns m a ks ds))) (sym (keys_kept (by_parts (number_of every_cell)) false ks ks))
    ∙ (ap (λ xs. in_front (keys_of (groups_of (by_parts (number_of every_cell)) false ks ks)) (in_front xs (value_columns m a ks ds))) (counts_kept ks)
    ∙ ap (λ r. in_front (keys_of (groups_of (by_parts (number_of every_cell)) false ks ks)) (in_front (map (λ (e : Seen × ℕ). double (Some (pos e.1))) (groups_of (by_parts (number_of every_cell)) false ks ks)) r)) (column_kept m a ks ds))

as_long_itself : (hs : List (ℕ → Outcome)) (i : ℕ) → AreAsLong hs i i
as_long_itself [] i = tt
as_long_itself (h ∷ hs) i = (refl, as_long_itself hs i)

-- ---- a pass

module _ (columns : Columns) (of_stores : ℕ → List ℕ) (vs : List Vertex) (f : ℕ → Tall) (store : ℕ) (cut : ℕ → Bool) (bs : List Block) (pass : IsBlockwise columns of_stores vs f store cut bs) where
  abbrev Hs : List (ℕ → Outcome)
  Hs = pass_blocks vs f cut bs

  abbrev IsReady : ℕ → Type 0
  IsReady a = (cut a ≡ true) × (fault_in f a ≡ None) × ((v : Vertex) × (slice_get vs a ≡ Some v))

  rows_ready : (a : ℕ) → IsReady a → (f a).outcome ≡ rows (rows_of_blocks Hs a)
  rows_ready a r = rows_of_value columns of_stores vs f store cut bs pass a r.2.0 r.2.1 r.0 r.1

  group_ready : (at : At) (m : Method) (part : Part) (a : Kind) (g v : ℕ) → IsReady g → IsReady v → AreAsLong Hs g v → grouped at m part a (rows_in (f g).outcome) (rows_in (f v).outcome) ≡ gathered_all at (group m part) a Hs g v
  group_ready at m part a g v rg rv long =
      let ks : List Seen = cells_in (f g).outcome in
      let ds : List Seen = cells_in (f v).outcome in
      let w = group_from m part a ([], []) Hs g v in
      let counts : groups_of (by_parts (number_of every_cell)) false ks ks ≡ (gathered_from (group m part) a ([], []) Hs g v).0 =
      groups_by_blocks (f g).outcome (f g).outcome Hs g g (rows_ready g rg) (rows_ready g rg) (as_long_itself Hs g) (by_parts (number_of every_cell)) false ∙ sym w.0 in
      let values : groups_of (method_fold m a) (method_omits m) ks ds ≡ (gathered_from (group m part) a ([], []) Hs g v).1 =
      groups_by_blocks (f g).outcome (f v).outcome Hs g v (rows_ready g rg) (rows_ready v rv) long (method_fold m a) (method_omits m) ∙ sym w.1 in
      ap (λ r. part_of_group at part (of_groups r))
      (columns_kept m a ks ds
      ∙ (ap (λ es. gathered_columns m a es (groups_of (method_fold m a) (method_omits m) ks ds)) counts ∙ ap (gathered_columns m a (gathered_from (group m part) a ([], []) Hs g v).0) values))

  end_op : (at : At) (op : Op) (args : List ℕ) → needs_all_rows (operation op) ≡ true → is_scan (operation op) ≡ false → ((a : ℕ) → IsAmong args a → IsReady a)
      → ((m : Method) (part : Part) (g v : ℕ) → op ≡ group m part → args ≡ g ∷ v ∷ [] → (f g).shape.space ≡ (f v).shape.space) → own_outcome at op (map f args) ≡ end_outcome at f Hs op args
  end_op at (reduce r) [] needs plain ready space = refl
  end_op at (reduce r) (i ∷ []) needs plain ready space =
      let a : Kind = kind_of (f i).shape.class in
      ap (alone at) (reduced_by_blocks (f i).outcome Hs i (rows_ready i (ready i (inl refl))) r a ∙ ap (reduction_result r a) (sym (reduced_from r a (start (reduction_fold r a)) Hs i i)))
  end_op at (reduce r) (i ∷ j ∷ args) needs plain ready space = refl
  end_op at (head k) [] needs plain ready space = refl
  end_op at (head k) (i ∷ []) needs plain ready space = ap rows (first_by_blocks (f i).outcome Hs i (rows_ready i (ready i (inl refl))) k ∙ sym (first_from k (kind_of (f i).shape.class) [] Hs i i))
  end_op at (head k) (i ∷ j ∷ args) needs plain ready space = refl
  end_op at (tail k) [] needs plain ready space = refl
  end_op at (tail k) (i ∷ []) needs plain ready space = ap rows (last_by_blocks (f i).outcome Hs i (rows_ready i (ready i (inl refl))) k ∙ sym (last_from k (kind_of (f i).shape.class) [] Hs i i))
  end_op at (tail k) (i ∷ j ∷ args) needs plain ready space = refl
  end_op at operations.distinct [] needs plain ready space = refl
  end_op at operations.distinct (i ∷ []) needs plain ready space = ap (λ cs. rows (numbered 1 cs)) (distinct_by_blocks (f i).outcome Hs i (rows_ready i (ready i (inl refl))) ∙ sym (distinct_from (kind_of (f i).shape.class) [] Hs i i))
  end_op at operations.distinct (i ∷ j ∷ args) needs plain ready space = refl
  end_op at (group m part) [] needs plain ready space = refl
  end_op at (group m part) (i ∷ []) needs plain ready space = group_ready at m part (kind_of (f i).shape.class) i i (ready i (inl refl)) (ready i (inl refl)) (as_long_itself Hs i)
  end_op at (group m part) (i ∷ j ∷ []) needs plain ready space =
      let rg = ready i (inl refl) in
      let rv = ready j (inr (inl refl)) in
      group_ready at m part (kind_of (f j).shape.class) i j rg rv (long_values columns of_stores vs f store cut bs pass i j rg.2.0 rv.2.0 rg.2.1 rv.2.1 rg.0 rv.0 (space m part i j refl refl) rg.1 rv.1)
  end_op at (group m part) (i ∷ j ∷ k ∷ args) needs plain ready space = refl
  end_op at (scan s) args needs plain ready space = absurd (cc)
  end_op at (constant c) args needs plain ready space = absurd (cc)
  end_op at (unary op) args needs plain ready space = absurd (cc)
  end_op at (binary op) args needs plain ready space = absurd (cc)
  end_op at filter args needs plain ready space = absurd (cc)

  pub end_by_blocks : (i : ℕ) (v : Vertex) (op : Op) → slice_get vs i ≡ Some v → v.made ≡ operation op → needs_all_rows v.made ≡ true → is_scan v.made ≡ false → ((a : ℕ) → IsAmong v.args a → (cut a ≡ true) × (fault_in f a ≡ None))
      → (f i).outcome ≡ end_outcome v.at f Hs op v.args
  end_by_blocks i v op e q needs plain ready =
      tall_outcome v.at op (map f v.args) (f i) (made_value columns vs f pass.meaning i v op e q)
      ∙ (unless_none (least_fault (map fault_of (outcomes (map f v.args)))) (own_outcome v.at op (map f v.args)) (ap least_fault (faults_of_values f v.args) ∙ all_none (fault_in f) v.args (λ a m. (ready a m).1))
      ∙ end_op v.at op v.args (subst (λ m. needs_all_rows m ≡ true) q needs) (subst (λ m. is_scan m ≡ false) q plain)
      (λ a m. (let b = get_before vs i a v e (below_among i v.args a (pass.ordered i v e) m) in let r = ready a m in (r.0, r.1, (b.0, b.1))))
      same_spaces)
    where
      same_spaces : (m : Method) (part : Part) (g d : ℕ) → op ≡ group m part → v.args ≡ g ∷ d ∷ [] → (f g).shape.space ≡ (f d).shape.space
      same_spaces m part g d s t =
          let shaped = tall_shape v.at op (map f v.args) (f i) (made_value columns vs f pass.meaning i v op e q) in
          let w = shaped_is op (shapes (map f v.args)) (place_of op (shapes (map f v.args))) (f i).shape shaped in
          let p : place_of (group m part) ((f g).shape ∷ (f d).shape ∷ []) ≡ place_ok w.0 = subst (λ xs. place_of (group m part) (shapes (map f xs)) ≡ place_ok w.0) t (subst (λ o. place_of o (shapes (map f v.args)) ≡ place_ok w.0) s w.1) in
          group_spaces m part (f g).shape (f d).shape w.0 (column_is (f d).shape (shaping.summary m part (f g).shape (f d).shape) w.0 (column_is (f g).shape (on_column (f d).shape (shaping.summary m part (f g).shape (f d).shape)) w.0 p))
